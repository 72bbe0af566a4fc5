-- The bodies of a demand's frame and of an outcome's, as they are cut.
use Rattle.std.proofs.Common.{◌≡◌, ℕ, ◌-◌, ◌^◌, ◌<◌, ◌≤◌, List, [], ◌∷◌, ◌++◌, length, map, get_or, string_bytes, String, Global, sym, ◌∙◌, ap, subst, arith}
use Rattle.std.specs.Prelude.{All, IsUtf8}
use Rattle.std.proofs.lemmas.List.{append_assoc, length-append}
use Rattle.std.proofs.lemmas.List.Elements.{All-map}
use Rattle.std.proofs.lemmas.Str.{IsUtf8-string_bytes}
use Rattle.as2_control.specs.Demands.{AreWords, DemandValue, IsDemandFrame, demand_body, words_text}
use Rattle.as2_control.specs.Frames.{IsFrameOf, framed_field, head_text}
use Rattle.as2_control.specs.Outcomes.{AreFiles, AreNamed, FileValue, IsOutcomeFrame, OutcomeValue, file_value, files_text, outcome_body}
use Rattle.as2_control.specs.declared.files.MadeFile.{MadeFile}
use Rattle.as2_control.proofs.Beginnings.{one_body}
use Rattle.as2_control.proofs.Lengths.{length-framed_field, one_field}

-- no field begins there, as the code knows it
abbrev pub BeginsNoField : List ℕ → Type 0
BeginsNoField text = (field rest : List ℕ) → length field < 2 ^ 32 → ¬ (text ≡ framed_field field ++ rest)

-- a short text was cut behind its first field
pub record Cut (text field rest : List ℕ) : Type 0 where
  pub whole : text ≡ framed_field field ++ rest
  pub short : length field < 2 ^ 32

-- of a text that is short, a field and its rest are what was cut
pub cut_is : (text field rest a r : List ℕ) → Cut text field rest → length text < 2 ^ 32 → text ≡ framed_field a ++ r → (field ≡ a) × (rest ≡ r)
cut_is text field rest a r c small e =
    one_field field a rest r c.short (omega (arith, ap length e, length-append (framed_field a) r, length-framed_field a)) (sym c.whole ∙ e)

pub cut_small : (text field rest : List ℕ) → Cut text field rest → length text < 2 ^ 32 → length rest < 2 ^ 32
cut_small text field rest c small = omega (arith, ap length c.whole, length-append (framed_field field) rest)

not_cut : (text a r : List ℕ) → BeginsNoField text → length text < 2 ^ 32 → ¬ (text ≡ framed_field a ++ r)
not_cut text a r none small e = none a r (omega (arith, ap length e, length-append (framed_field a) r, length-framed_field a)) e

-- texts are spelled in UTF-8
pub are_spelled : (words : List (String Global)) → All IsUtf8 (map string_bytes words)
are_spelled words = All-map IsUtf8 string_bytes words (λ k d _. IsUtf8-string_bytes (get_or words k d))

-- ---- a demand's

body_of_demand : (frame body : List ℕ) → IsFrameOf 2097152 frame body → (d : DemandValue) → IsDemandFrame frame d → body ≡ demand_body d
body_of_demand frame body is d f = one_body 2097152 frame body (demand_body d) is f.frame

pub no_agreements : (frame body : List ℕ) → IsFrameOf 2097152 frame body → BeginsNoField body → (d : DemandValue) → ¬ IsDemandFrame frame d
no_agreements frame body is none d f =
    not_cut body d.agreements (framed_field d.content ++ words_text d.words) none (omega (arith, is.within)) (body_of_demand frame body is d f)

pub no_document : (frame body agreements rest : List ℕ) → IsFrameOf 2097152 frame body → Cut body agreements rest → BeginsNoField rest
    → (d : DemandValue) → ¬ IsDemandFrame frame d
no_document frame body agreements rest is cut none d f =
    let small : length body < 2 ^ 32 = omega (arith, is.within) in
    let first = cut_is body agreements rest d.agreements (framed_field d.content ++ words_text d.words) cut small (body_of_demand frame body is d f) in
    not_cut rest d.content (words_text d.words) none (cut_small body agreements rest cut small) first.1

pub no_checksum : (frame body agreements rest : List ℕ) → IsFrameOf 2097152 frame body → Cut body agreements rest → ¬ (length agreements ≡ 32)
    → (d : DemandValue) → ¬ IsDemandFrame frame d
no_checksum frame body agreements rest is cut other d f =
    let small : length body < 2 ^ 32 = omega (arith, is.within) in
    let first = cut_is body agreements rest d.agreements (framed_field d.content ++ words_text d.words) cut small (body_of_demand frame body is d f) in
    other (ap length first.0 ∙ f.checksum)

pub no_words : (frame body agreements rest content words : List ℕ) → IsFrameOf 2097152 frame body → Cut body agreements rest → Cut rest content words
    → ((all : List (List ℕ)) → ¬ AreWords words all) → (d : DemandValue) → ¬ IsDemandFrame frame d
no_words frame body agreements rest content words is cut cut' none d f =
    let small : length body < 2 ^ 32 = omega (arith, is.within) in
    let first = cut_is body agreements rest d.agreements (framed_field d.content ++ words_text d.words) cut small (body_of_demand frame body is d f) in
    let second = cut_is rest content words d.content (words_text d.words) cut' (cut_small body agreements rest cut small) first.1 in
    none d.words (record { whole = second.1; few = f.few; spelled = f.spelled })

pub words_small : (frame body agreements rest content words : List ℕ) → IsFrameOf 2097152 frame body → Cut body agreements rest
    → Cut rest content words → length words < 2 ^ 32
words_small frame body agreements rest content words is cut cut' =
    cut_small rest content words cut' (cut_small body agreements rest cut (omega (arith, is.within)))

-- the demand that is cut
pub demand_cut : (frame agreements content words : List ℕ) → IsFrameOf 2097152 frame (framed_field agreements ++ (framed_field content ++ words))
    → length agreements ≡ 32 → (all : List (List ℕ)) → AreWords words all
    → IsDemandFrame frame (record { agreements = agreements; content = content; words = all })
demand_cut frame agreements content words is checksum all are = record {
  frame = subst (λ w. IsFrameOf 2097152 frame (framed_field agreements ++ (framed_field content ++ w))) are.whole is;
  checksum = checksum;
  few = are.few;
  spelled = are.spelled;
}

-- what is put one behind the other is a frame
pub put_demand : (d : DemandValue) (len : ℕ) (head first second all : List ℕ) → len ≡ length (demand_body d) → len ≤ 2097152
    → head ≡ head_text len → first ≡ head ++ framed_field d.agreements → second ≡ first ++ framed_field d.content → all ≡ second ++ words_text d.words
    → IsFrameOf 2097152 all (demand_body d)
put_demand d len head first second all len_is within head_is first_is second_is all_is = record {
  whole = all_is
      ∙ (ap (λ l. l ++ words_text d.words) (second_is ∙ ap (λ l. l ++ framed_field d.content) (first_is ∙ ap (λ l. l ++ framed_field d.agreements)
      (head_is ∙ ap head_text len_is)))
      ∙ (append_assoc (head_text (length (demand_body d)) ++ framed_field d.agreements) (framed_field d.content) (words_text d.words)
      ∙ append_assoc (head_text (length (demand_body d))) (framed_field d.agreements) (framed_field d.content ++ words_text d.words)));
  within = omega (arith, len_is);
}

-- ---- an outcome's

body_of_outcome : (frame body : List ℕ) → IsFrameOf (2 ^ 32 - 1) frame body → (o : OutcomeValue) → IsOutcomeFrame frame o → body ≡ outcome_body o
body_of_outcome frame body is o f = one_body (2 ^ 32 - 1) frame body (outcome_body o) is f.frame

pub no_status : (frame body : List ℕ) → IsFrameOf (2 ^ 32 - 1) frame body → BeginsNoField body → (o : OutcomeValue) → ¬ IsOutcomeFrame frame o
no_status frame body is none o f =
    not_cut body (o.status ∷ []) (framed_field o.output ++ (framed_field o.errors ++ files_text o.files)) none (omega (arith, is.within))
    (body_of_outcome frame body is o f)

-- what stands behind the status
status_cut : (frame body status rest : List ℕ) → IsFrameOf (2 ^ 32 - 1) frame body → Cut body status rest → (o : OutcomeValue)
    → IsOutcomeFrame frame o → (status ≡ o.status ∷ []) × (rest ≡ framed_field o.output ++ (framed_field o.errors ++ files_text o.files))
status_cut frame body status rest is cut o f =
    cut_is body status rest (o.status ∷ []) (framed_field o.output ++ (framed_field o.errors ++ files_text o.files)) cut (omega (arith, is.within))
    (body_of_outcome frame body is o f)

pub no_one_status : (frame body status rest : List ℕ) → IsFrameOf (2 ^ 32 - 1) frame body → Cut body status rest → ¬ (length status ≡ 1)
    → (o : OutcomeValue) → ¬ IsOutcomeFrame frame o
no_one_status frame body status rest is cut other o f = other (ap length (status_cut frame body status rest is cut o f).0)

pub no_output : (frame body status rest : List ℕ) → IsFrameOf (2 ^ 32 - 1) frame body → Cut body status rest → BeginsNoField rest
    → (o : OutcomeValue) → ¬ IsOutcomeFrame frame o
no_output frame body status rest is cut none o f =
    not_cut rest o.output (framed_field o.errors ++ files_text o.files) none (cut_small body status rest cut (omega (arith, is.within)))
    (status_cut frame body status rest is cut o f).1

-- what stands behind the output
output_cut : (frame body status rest output rest' : List ℕ) → IsFrameOf (2 ^ 32 - 1) frame body → Cut body status rest → Cut rest output rest'
    → (o : OutcomeValue) → IsOutcomeFrame frame o → rest' ≡ framed_field o.errors ++ files_text o.files
output_cut frame body status rest output rest' is cut cut' o f =
    (cut_is rest output rest' o.output (framed_field o.errors ++ files_text o.files) cut' (cut_small body status rest cut (omega (arith, is.within)))
    (status_cut frame body status rest is cut o f).1).1

pub no_errors : (frame body status rest output rest' : List ℕ) → IsFrameOf (2 ^ 32 - 1) frame body → Cut body status rest → Cut rest output rest'
    → BeginsNoField rest' → (o : OutcomeValue) → ¬ IsOutcomeFrame frame o
no_errors frame body status rest output rest' is cut cut' none o f =
    not_cut rest' o.errors (files_text o.files) none (cut_small rest output rest' cut' (cut_small body status rest cut (omega (arith, is.within))))
    (output_cut frame body status rest output rest' is cut cut' o f)

pub no_files : (frame body status rest output rest' errors files : List ℕ) → IsFrameOf (2 ^ 32 - 1) frame body → Cut body status rest
    → Cut rest output rest' → Cut rest' errors files → ((all : List FileValue) → ¬ AreFiles files all) → (o : OutcomeValue) → ¬ IsOutcomeFrame frame o
no_files frame body status rest output rest' errors files is cut cut' cut'' none o f =
    none o.files (record {
      whole = (cut_is rest' errors files o.errors (files_text o.files) cut''
          (cut_small rest output rest' cut' (cut_small body status rest cut (omega (arith, is.within))))
          (output_cut frame body status rest output rest' is cut cut' o f)).1;
      named = f.named;
    })

pub files_small : (frame body status rest output rest' errors files : List ℕ) → IsFrameOf (2 ^ 32 - 1) frame body → Cut body status rest
    → Cut rest output rest' → Cut rest' errors files → length files < 2 ^ 32
files_small frame body status rest output rest' errors files is cut cut' cut'' =
    cut_small rest' errors files cut'' (cut_small rest output rest' cut' (cut_small body status rest cut (omega (arith, is.within))))

-- the outcome that is cut
pub outcome_cut : (frame : List ℕ) (status : ℕ) (output errors files : List ℕ)
    → IsFrameOf (2 ^ 32 - 1) frame (framed_field (status ∷ []) ++ (framed_field output ++ (framed_field errors ++ files)))
    → (all : List FileValue) → AreFiles files all
    → IsOutcomeFrame frame (record { status = status; output = output; errors = errors; files = all })
outcome_cut frame status output errors files is all are = record {
  frame = subst (λ f. IsFrameOf (2 ^ 32 - 1) frame (framed_field (status ∷ []) ++ (framed_field output ++ (framed_field errors ++ f)))) are.whole is;
  named = are.named;
}

-- the names of files are
pub are_named : (files : List MadeFile) → AreNamed (map file_value files)
are_named files = All-map (λ f. IsUtf8 f.name) file_value files (λ k d _. IsUtf8-string_bytes (get_or files k d).name)

-- what is put one behind the other is a frame
pub put_outcome : (o : OutcomeValue) (len : ℕ) (head first second third all : List ℕ) → len ≡ length (outcome_body o) → len < 2 ^ 32
    → head ≡ head_text len → first ≡ head ++ framed_field (o.status ∷ []) → second ≡ first ++ framed_field o.output
    → third ≡ second ++ framed_field o.errors → all ≡ third ++ files_text o.files → IsFrameOf (2 ^ 32 - 1) all (outcome_body o)
put_outcome o len head first second third all len_is within head_is first_is second_is third_is all_is = record {
  whole = all_is
      ∙ (ap (λ l. l ++ files_text o.files) (third_is ∙ ap (λ l. l ++ framed_field o.errors) (second_is ∙ ap (λ l. l ++ framed_field o.output)
      (first_is ∙ ap (λ l. l ++ framed_field (o.status ∷ [])) (head_is ∙ ap head_text len_is))))
      ∙ (append_assoc ((head_text (length (outcome_body o)) ++ framed_field (o.status ∷ [])) ++ framed_field o.output) (framed_field o.errors) (files_text o.files)
      ∙ (append_assoc (head_text (length (outcome_body o)) ++ framed_field (o.status ∷ [])) (framed_field o.output) (framed_field o.errors ++ files_text o.files)
      ∙ append_assoc (head_text (length (outcome_body o))) (framed_field (o.status ∷ [])) (framed_field o.output ++ (framed_field o.errors ++ files_text o.files)))));
  within = omega (arith, len_is);
}
