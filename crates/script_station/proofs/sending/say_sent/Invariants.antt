use Rattle.script_station.proofs.sending.say_sent.Given as goal

abbrev pub ghosts-sent_counted-L-Ledger : goal.ghosts-sent_counted-L-Ledger
ghosts-sent_counted-L-Ledger a = record { name = a.writes.name; parts = a.writes.parts }

abbrev pub ghosts-sent_counted-M-Ledger : goal.ghosts-sent_counted-M-Ledger
ghosts-sent_counted-M-Ledger a = record { name = a.failed_writes.name; parts = a.failed_writes.parts }
