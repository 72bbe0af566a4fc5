use Rattle.as2_script.proofs.desk.run_over.Given as goal

abbrev pub ghosts-run_counted-A-Ledger : goal.ghosts-run_counted-A-Ledger
ghosts-run_counted-A-Ledger g a = record { name = a.reads.calls.name; parts = a.reads.calls.parts }

abbrev pub ghosts-run_counted-B-Ledger : goal.ghosts-run_counted-B-Ledger
ghosts-run_counted-B-Ledger g a = record { name = a.reads.failed.name; parts = a.reads.failed.parts }

abbrev pub ghosts-run_counted-C-Ledger : goal.ghosts-run_counted-C-Ledger
ghosts-run_counted-C-Ledger g a = record { name = a.writes.calls.name; parts = a.writes.calls.parts }

abbrev pub ghosts-run_counted-D-Ledger : goal.ghosts-run_counted-D-Ledger
ghosts-run_counted-D-Ledger g a = record { name = a.writes.failed.name; parts = a.writes.failed.parts }

abbrev pub ghosts-run_counted-E-Ledger : goal.ghosts-run_counted-E-Ledger
ghosts-run_counted-E-Ledger g a = record { name = a.says.calls.name; parts = a.says.calls.parts }

abbrev pub ghosts-run_counted-F-Ledger : goal.ghosts-run_counted-F-Ledger
ghosts-run_counted-F-Ledger g a = record { name = a.says.failed.name; parts = a.says.failed.parts }
