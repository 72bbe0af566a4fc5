-- How the end of a command is told to a shell: by the exit status; and that of a stream by a name too.
use Rattle.std.specs.Prelude.{◌≡◌, ◌⊎◌, ℕ, List, codes}
use Rattle.as2_http.specs.declared.stream.Served.{Served}
use Rattle.as2_http.specs.declared.stream.Served.TheVariants as end

-- the exit statuses
abbrev pub status_done : ℕ
status_done = 0

abbrev pub status_refused : ℕ
status_refused = 1

abbrev pub status_faulty : ℕ
status_faulty = 2

abbrev pub status_failed : ℕ
status_failed = 3

-- one of them
abbrev pub IsExitStatus : ℕ → Type 0
IsExitStatus status = (status ≡ status_done) ⊎ ((status ≡ status_refused) ⊎ ((status ≡ status_faulty) ⊎ (status ≡ status_failed)))

-- only an end in good order is no refusal
abbrev pub exit_status : Served → ℕ
exit_status end.Closed = status_done
exit_status _ = status_refused

abbrev pub end_name : Served → List ℕ
end_name end.Closed = codes "Closed"
end_name end.Truncated = codes "Truncated"
end_name end.BadFraming = codes "BadFraming"
end_name end.ReadFault = codes "ReadFault"
end_name end.WriteFault = codes "WriteFault"
end_name end.Memory = codes "Memory"
end_name end.TooLong = codes "TooLong"
