-- The five counts of what is outstanding, as a text.
use Rattle.std.specs.Prelude.{◌++◌, codes}
use Rattle.as2_exchange.specs.Agreement.{Text}
use Rattle.as2_views.specs.Layout.{count_line}
use Rattle.as2_records.specs.declared.counts.Counts.{Counts}

-- a line for each
abbrev pub counts_text : Counts → Text
counts_text c =
    count_line (codes "documents not sent:") c.not_sent
    ++ count_line (codes "documents in retry:") c.in_retry
    ++ count_line (codes "receipts awaited:") c.awaited
    ++ count_line (codes "documents in error:") c.in_error
    ++ count_line (codes "receipts to send:") c.to_send
