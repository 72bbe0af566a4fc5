use Rattle.as2desk.proofs.run_over_stores.Given as goal

abbrev pub ghosts-run-A-Ledger : goal.ghosts-run-A-Ledger
ghosts-run-A-Ledger g a = record { name = a.reads.calls.name; parts = a.reads.calls.parts }

abbrev pub ghosts-run-B-Ledger : goal.ghosts-run-B-Ledger
ghosts-run-B-Ledger g a = record { name = a.reads.failed.name; parts = a.reads.failed.parts }

abbrev pub ghosts-run-C-Ledger : goal.ghosts-run-C-Ledger
ghosts-run-C-Ledger g a = record { name = a.writes.calls.name; parts = a.writes.calls.parts }

abbrev pub ghosts-run-D-Ledger : goal.ghosts-run-D-Ledger
ghosts-run-D-Ledger g a = record { name = a.writes.failed.name; parts = a.writes.failed.parts }

abbrev pub ghosts-run-E-Ledger : goal.ghosts-run-E-Ledger
ghosts-run-E-Ledger g a = record { name = a.says.calls.name; parts = a.says.calls.parts }

abbrev pub ghosts-run-G-Ledger : goal.ghosts-run-G-Ledger
ghosts-run-G-Ledger g a = record { name = a.says.failed.name; parts = a.says.failed.parts }
