use Rattle.std.proofs.Common.{◌≡◌, ℕ, List, Ok, Bool, inl, inr, if◌then◌else◌, codes, refl, sym, ap, subst}
use Rattle.clap.specs.Walk.{texts}
use Rattle.as2_commands.specs.Options.{Gives}
use Rattle.as2_exchange.specs.State.{State}
use Rattle.as2_lent.specs.declared.lent.LentStore.{LentStore}
use Rattle.std.proofs.lemmas.Slice.Eq.{bytes_eq-Decides}
use Rattle.as2_host.specs.FileContents.{file}
use Rattle.as2_desk.specs.Stores.{is_in_memory}
use Rattle.as2_lent.proofs.Leading.{lends, read_one, stays}
use Rattle.as2_agreement.specs.Reading.{agreements_reading}
use Rattle.as2_lent.specs.Lent.{LentKeeps}
use Rattle.as2_lent.specs.Sent.{sent_bytes}
use Rattle.as2_lent.specs.declared.sent.SentFiles.{SentFiles}
use Rattle.as2_lent.proofs.forwarded.run_counted.Goals as goal

-- under their own path the agreements stand
own_bytes : (f : SentFiles) → sent_bytes f f.agreements_path.now ≡ f.agreements.now
own_bytes f = ap (λ (b : Bool). if b then f.agreements.now else f.content.now) ((bytes_eq-Decides f.agreements_path.now f.agreements_path.now).1 refl)

pub returns : goal.returns
returns g c =
    let shows = g.K.Records.shows in
    let old = c.args.host.now.stores.records in
    let new = c.run-ran.new.host.stores.records in
    record {
      lends = record {
        clean = c.run-ran.ensures.clean;
        none = λ none. ap (λ (st : LentStore g.row.K.Denot). st.records) (c.run-ran.ensures.unread none).1;
        leads = λ store task gives may A reading clean s keeps.
            elim (c.run-ran.ensures.runs c.args.host.now.outside.files.agreements_path.now store task gives) [
              | inl runs ↦ lends shows old new store s keeps clean A _ _ c.run-ran.result
                  (λ (path : List ℕ). file (sent_bytes c.args.host.now.outside.files path)) runs.opened task runs.comes (is_in_memory store) refl
                  (λ is. ap (λ (st : LentStore g.row.K.Denot). st.records) (c.run-ran.ensures.memory c.args.host.now.outside.files.agreements_path.now task
                  (subst (λ (b : List ℕ). Gives (texts c.args.given.words.now) c.args.given.clock c.args.host.now.outside.files.agreements_path.now b task)
                  ((bytes_eq-Decides store (codes ":memory:")).0 is) gives)))
                  (λ first it. it) (λ (same : c.run-ran.new.host.stores ≡ c.args.host.now.stores). ap
                  (λ (st : LentStore g.row.K.Denot). st.records) same)
                  (λ (kept : (number : ℕ) (t : State) → LentKeeps shows old t → LentKeeps shows new t). kept 0 s) (λ t left. left)
                  (read_one _ A runs.opened
                  (subst (λ (bytes : List ℕ). agreements_reading bytes ≡ Ok A) (sym (own_bytes c.args.host.now.outside.files)) reading) runs.opens) may
              | inr same ↦ stays A s (LentKeeps shows new) (subst (λ (st : LentStore g.row.K.Denot). LentKeeps shows st.records s) (sym same.0) keeps)
            ];
      };
    }
