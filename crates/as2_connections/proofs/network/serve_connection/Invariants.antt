use Rattle.as2_connections.proofs.network.serve_connection.Given as goal

abbrev pub ghosts-serve_counted-A-Ledger : goal.ghosts-serve_counted-A-Ledger
ghosts-serve_counted-A-Ledger g a = record { name = a.reads.calls.name; parts = a.reads.calls.parts }

abbrev pub ghosts-serve_counted-B-Ledger : goal.ghosts-serve_counted-B-Ledger
ghosts-serve_counted-B-Ledger g a = record { name = a.reads.failed.name; parts = a.reads.failed.parts }

abbrev pub ghosts-serve_counted-C-Ledger : goal.ghosts-serve_counted-C-Ledger
ghosts-serve_counted-C-Ledger g a = record { name = a.writes.calls.name; parts = a.writes.calls.parts }

abbrev pub ghosts-serve_counted-D-Ledger : goal.ghosts-serve_counted-D-Ledger
ghosts-serve_counted-D-Ledger g a = record { name = a.writes.failed.name; parts = a.writes.failed.parts }
