-- Connections that are served one after the other.
use Rattle.std.proofs.Common.{◌≡◌, ◌<◌, ◌≤◌, ◌+◌, ◌∙◌, ℕ, List, [], ◌∷◌, ◌++◌, length, Option, Some, None, IfSome, inl, inr, refl, sym, ap, subst, arith, append-nil, length-append}
use Rattle.std.proofs.lemmas.Grind.{flat_map-append}
use Rattle.std.proofs.KnownBytes.{Appends-nil, Appends-trans}
use Rattle.std.specs.Io.KnownBytes.{Appends}
use Rattle.as2_records.specs.Standing.{Medium, Standing}
use Rattle.as2_agreement.specs.Agreements.{AgreedValues}
use Rattle.as2_exchange.specs.Run.{Trace}
use Rattle.as2_exchange.specs.State.{State}
use Rattle.as2_http.specs.declared.device.Sink.{Ghosts}
use Rattle.as2_http.specs.declared.stream.Served.{Served}
use Rattle.as2_host.specs.Networks.{EndsEach, ListenerSeen, ServesEach}
use Rattle.as2_host.specs.Serving.{ServesOne}
use Rattle.as2_desk.specs.Connections.{AwaitsFrom, ServesConnections, ServesCount, ServesNext, StopsAt, StopsBy, StopsIn, connection_line, connection_lines, listening_line, stop_fault}
use Rattle.as2_desk.specs.Endings.{Ends}
use Rattle.as2_desk.specs.Observed.{Outcome}
use Rattle.as2_desk.specs.Refusals.{error_line, refusal_status}
use Rattle.as2_desk.specs.Statuses.{status_done, status_failed, status_refused}
use Rattle.as2_desk.specs.Stops.{FailsBehind}
use Rattle.as2_host.specs.declared.stores.OpenFault.TheVariants as open_fault
use Rattle.as2_desk.specs.Written.{Breaks, WritesWhole, WriterSeen, written_of}
use Rattle.as2_desk.specs.declared.serving.Stop.{Stop}
use Rattle.as2_desk.specs.declared.serving.Stop.TheVariants.{Unwritten, Unreadable}
use Rattle.as2_desk.specs.declared.status.Ran.{Ran}

lines_more : (ends : List Served) (end : Served) → connection_lines (ends ++ end ∷ []) ≡ connection_lines ends ++ connection_line end
lines_more ends end = flat_map-append connection_line ends (end ∷ []) ∙ ap (λ (x : List ℕ). connection_lines ends ++ x) (append-nil (connection_line end))

module _ {L : Type 0} (ended : L → Option ℕ → Trace → Served → L → Type 0) (given : Option ℕ) (A : AgreedValues) where
  -- one more connection of a listener
  ends_more : (ends : List Served) (end : Served) (l k m : L) → EndsEach ended given l ends k → ((trace : Trace) × ended k given trace end m)
      → EndsEach ended given l (ends ++ end ∷ []) m
  ends_more [] end l k m same one = (m, subst (λ (x : L). (trace : Trace) × ended x given trace end m) same one, refl)
  ends_more (e ∷ ends) end l k m all one = (all.0, all.1, ends_more ends end all.0 k m all.2 one)

  -- .. and what it brought led on
  serves_more : (ends : List Served) (end : Served) (l k m : L) (s mid t : State) → ServesEach ended given A ends l s k mid
      → ServesOne A given (λ trace. ended k given trace end m) mid t
      → ServesEach ended given A (ends ++ end ∷ []) l s m t
  serves_more [] end l k m s mid t same one = (
    m,
    t,
    subst (λ (x : L). ServesOne A given (λ trace. ended x given trace end m) s t) same.0
        (subst (λ (x : State). ServesOne A given (λ trace. ended k given trace end m) x t) same.1 one),
    (refl, refl),
  )
  serves_more (e ∷ ends) end l k m s mid t each one = (each.0, each.1, each.2, serves_more ends end each.0 k m each.1 mid t each.3 one)

  -- n connections were served, and their lines written
  pub record HasServed {M : Medium} {W : Type 0} (sink : Ghosts W) (n : ℕ) (old new : Standing M) (l m : L) (first now : W) : Type 0 where
    pub clean : new.IsClean → old.IsClean
    pub ends : List Served
    pub each : EndsEach ended given l ends m
    pub all : length ends ≡ n
    pub led : new.IsClean → (s : State) → old.Rests s → (t : State) × new.Rests t × ServesEach ended given A ends l s m t
    pub lines : WritesWhole (written_of sink first now) (connection_lines ends)

  pub none_served : {M : Medium} {W : Type 0} (sink : Ghosts W) (c : Standing M) (l : L) (first : W) → HasServed sink 0 c c l l first first
  none_served sink c l first =
      record {
        clean = λ h. h;
        ends = [];
        each = refl;
        all = refl;
        led = λ clean s rests. (s, rests, (refl, refl));
        lines = (Appends-nil (sink.written first), refl);
      }

  module _ {M : Medium} {W : Type 0} (sink : Ghosts W) (n : ℕ) (old mid new : Standing M) (l k m : L) (w x y : W)
      (so_far : HasServed sink n old mid l k w x) (clean : new.IsClean → mid.IsClean) where
    -- one more is served
    abbrev pub Next : (WriterSeen → List ℕ → Type 0) → Type 0
    Next Line = ServesNext mid new (λ end. (trace : Trace) × ended k given trace end m) (λ end s t. ServesOne A given (λ trace. ended k given trace end m) s t)
        (λ end. Line (written_of sink x y) (connection_line end))

    -- .. and so no more are
    abbrev pub NoMore : ℕ → Stop → Type 0
    NoMore count stop = ServesConnections old new (λ ends. EndsEach ended given l ends m) (λ ends s t. ServesEach ended given A ends l s m t)
        (λ ends. (length ends ≤ count) × StopsBy stop ends (written_of sink w y))

    with_next : (Line : WriterSeen → List ℕ → Type 0) (next : Next Line) → new.IsClean → (s : State) → old.Rests s
        → (t : State) × new.Rests t × ServesEach ended given A (so_far.ends ++ next.end ∷ []) l s m t
    with_next Line next is_clean s rests =
        let before = so_far.led (clean is_clean) s rests in
        let after = next.serves is_clean before.0 before.1 in
        (after.0, after.1, serves_more so_far.ends next.end l k m s before.0 after.0 before.2 after.2)

    more : (end : Served) → length (so_far.ends ++ end ∷ []) ≡ n + 1
    more end = length-append so_far.ends (end ∷ []) ∙ ap (λ j. j + 1) so_far.all

    whole : (end : Served) → WritesWhole (written_of sink x y) (connection_line end)
        → WritesWhole (written_of sink w y) (connection_lines (so_far.ends ++ end ∷ []))
    whole end line = (
      subst (Appends (sink.written w) (sink.written y)) (sym (lines_more so_far.ends end))
          (Appends-trans (sink.written w) (sink.written x) (sink.written y) (connection_lines so_far.ends) (connection_line end) so_far.lines.0 line.0),
      line.1 ∙ so_far.lines.1,
    )

    pub one_more : Next WritesWhole → HasServed sink (n + 1) old new l m w y
    one_more next = record {
      clean = λ h. so_far.clean (clean h);
      ends = so_far.ends ++ next.end ∷ [];
      each = ends_more so_far.ends next.end l k m so_far.each next.ended;
      all = more next.end;
      led = with_next WritesWhole next;
      lines = whole next.end next.line;
    }

    -- a write failed in the line of one more
    stopped : (next : Next Breaks) → StopsIn (so_far.ends ++ next.end ∷ []) (written_of sink w y)
    stopped next = record {
      told = so_far.ends;
      last = next.end;
      are = refl;
      breaks = record {
        failed = let before = so_far.lines.1 in let more = next.line.0 in omega (arith, before, more);
        part = next.line.1.part;
        missing = next.line.1.missing;
        cut = next.line.1.cut;
        written = Appends-trans (sink.written w) (sink.written x) (sink.written y)
            (connection_lines so_far.ends) next.line.1.part so_far.lines.0 next.line.1.appended;
      };
    }

    stops : (stop : Stop) (next : Next (StopsAt stop)) → StopsBy stop (so_far.ends ++ next.end ∷ []) (written_of sink w y)
    stops Unwritten next = stopped next
    stops (Unreadable fault) next = (whole next.end next.line.0, next.line.1)

    pub cut : (count : ℕ) (stop : Stop) → n < count → Next (StopsAt stop) → NoMore count stop
    cut count stop below next = record {
      clean = λ h. so_far.clean (clean h);
      ends = so_far.ends ++ next.end ∷ [];
      ended = ends_more so_far.ends next.end l k m so_far.each next.ended;
      led = with_next (StopsAt stop) next;
      lines = (let is = more next.end in omega (arith, is, below), stops stop next);
    }

  pub all_served : {M : Medium} {W : Type 0} (sink : Ghosts W) (n count : ℕ) (old new : Standing M) (l m : L) (w x : W) → n ≡ count
      → HasServed sink n old new l m w x
      → ServesConnections old new (λ ends. EndsEach ended given l ends m) (λ ends s t. ServesEach ended given A ends l s m t)
      (λ ends. (length ends ≡ count) × WritesWhole (written_of sink w x) (connection_lines ends))
  all_served sink n count old new l m w x is so_far =
      record { clean = so_far.clean; ends = so_far.ends; ended = so_far.each; led = so_far.led; lines = (so_far.all ∙ is, so_far.lines) }

-- ---- what is said of them

-- a fault of the store that ends the serving is told behind where it listens
pub fails_behind : (stop : Stop) (address : List ℕ) (errors : WriterSeen) (ran : Ran)
    → Ends (refusal_status (stop_fault stop)) (listening_line address ++ error_line (stop_fault stop)) errors ran
    → ran.status ≡ status_failed → FailsBehind errors ran
fails_behind Unwritten address errors ran told is = absurd (let bad : status_refused ≡ status_failed = sym told.ended ∙ is in omega (arith, bad))
fails_behind (Unreadable fault) address errors ran told is = (open_fault.Store fault, address, told)

module _ {M : Medium} (count : ℕ) (known : Option State) (o : Outcome) (old new : Standing M) (Ended : List Served → Type 0)
    (Led : List Served → State → State → Type 0)
    (l : ListenerSeen) (ran : Ran) (address : List ℕ) (stood : IfSome known (λ s. new.IsClean × old.Rests s)) (left : (t : State) → new.Rests t → o.Left t)
    (awaited : (ends : List Served) → Ended ends → l.Awaited address ends)
    (led : (ends : List Served) (s t : State) → Led ends s t → l.Led address ends s t) where
  awaits : (Lines : List Served → Type 0) (k : Option State) → IfSome k (λ s. new.IsClean × old.Rests s) → (all : ServesConnections old new Ended Led Lines)
      → AwaitsFrom k o.Left l address all.ends
  awaits Lines None none all = awaited all.ends all.ended
  awaits Lines (Some s) it all = let served = all.led it.0 s it.1 in (served.0, left served.0 served.1, led all.ends s served.0 served.2)

  -- all lines were written
  abbrev pub AllLines : List Served → Type 0
  AllLines ends = (length ends ≡ count) × WritesWhole o.output (connection_lines ends)

  pub all_told : ServesConnections old new Ended Led AllLines → Ends status_done (listening_line address) o.errors ran → ServesCount count known o l ran
  all_told all told = inr (inl
      (record { address = address; ends = all.ends; awaits = awaits AllLines known stood all; all = all.lines.0; lines = all.lines.1; told = told }))

  -- .. or no more were served
  abbrev pub SomeLines : Stop → List Served → Type 0
  SomeLines stop ends = (length ends ≤ count) × StopsBy stop ends o.output

  pub cut_told : (stop : Stop) → ServesConnections old new Ended Led (SomeLines stop)
      → Ends (refusal_status (stop_fault stop)) (listening_line address ++ error_line (stop_fault stop)) o.errors ran
      → ServesCount count known o l ran
  cut_told stop all told = inr (inr (record {
    address = address;
    ends = all.ends;
    awaits = awaits (SomeLines stop) known stood all;
    within = all.lines.0;
    stop = stop;
    lines = all.lines.1;
    told = told;
  }))
