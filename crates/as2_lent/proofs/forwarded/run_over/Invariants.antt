use Rattle.as2_lent.proofs.forwarded.run_over.Given as goal

abbrev pub ghosts-run_counted-A-Ledger : goal.ghosts-run_counted-A-Ledger
ghosts-run_counted-A-Ledger g a = record { name = a.counts.reads.calls.name; parts = a.counts.reads.calls.parts }

abbrev pub ghosts-run_counted-B-Ledger : goal.ghosts-run_counted-B-Ledger
ghosts-run_counted-B-Ledger g a = record { name = a.counts.reads.failed.name; parts = a.counts.reads.failed.parts }

abbrev pub ghosts-run_counted-C-Ledger : goal.ghosts-run_counted-C-Ledger
ghosts-run_counted-C-Ledger g a = record { name = a.counts.writes.calls.name; parts = a.counts.writes.calls.parts }

abbrev pub ghosts-run_counted-D-Ledger : goal.ghosts-run_counted-D-Ledger
ghosts-run_counted-D-Ledger g a = record { name = a.counts.writes.failed.name; parts = a.counts.writes.failed.parts }

abbrev pub ghosts-run_counted-E-Ledger : goal.ghosts-run_counted-E-Ledger
ghosts-run_counted-E-Ledger g a = record { name = a.counts.says.calls.name; parts = a.counts.says.calls.parts }

abbrev pub ghosts-run_counted-F-Ledger : goal.ghosts-run_counted-F-Ledger
ghosts-run_counted-F-Ledger g a = record { name = a.counts.says.failed.name; parts = a.counts.says.failed.parts }
