use Rattle.as2_connections.proofs.links.PartnerLinksLinks.exchange.Given as goal

abbrev pub ghosts-exchange_counted-A-Ledger : goal.ghosts-exchange_counted-A-Ledger
ghosts-exchange_counted-A-Ledger a = record { name = a.reads.calls.name; parts = a.reads.calls.parts }

abbrev pub ghosts-exchange_counted-B-Ledger : goal.ghosts-exchange_counted-B-Ledger
ghosts-exchange_counted-B-Ledger a = record { name = a.reads.failed.name; parts = a.reads.failed.parts }

abbrev pub ghosts-exchange_counted-C-Ledger : goal.ghosts-exchange_counted-C-Ledger
ghosts-exchange_counted-C-Ledger a = record { name = a.writes.calls.name; parts = a.writes.calls.parts }

abbrev pub ghosts-exchange_counted-D-Ledger : goal.ghosts-exchange_counted-D-Ledger
ghosts-exchange_counted-D-Ledger a = record { name = a.writes.failed.name; parts = a.writes.failed.parts }
