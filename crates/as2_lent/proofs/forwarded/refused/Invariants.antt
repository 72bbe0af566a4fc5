use Rattle.as2_lent.proofs.forwarded.refused.Given as goal

abbrev pub ghosts-refused_counted-A-Ledger : goal.ghosts-refused_counted-A-Ledger
ghosts-refused_counted-A-Ledger a = record { name = a.says.calls.name; parts = a.says.calls.parts }

abbrev pub ghosts-refused_counted-B-Ledger : goal.ghosts-refused_counted-B-Ledger
ghosts-refused_counted-B-Ledger a = record { name = a.says.failed.name; parts = a.says.failed.parts }
