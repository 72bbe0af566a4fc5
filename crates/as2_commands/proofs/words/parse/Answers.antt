use Rattle.std.proofs.Common.{◌∙◌, ◌≡◌, List, [], Result, Ok, Err, IfOk, IfErr, true, refl, subst, ap}
use Rattle.std.proofs.lemmas.Bool.{and_parts}
use Rattle.std.proofs.lemmas.Result.{IfOk-weaker}
use Rattle.clap.specs.Walk.{Text, texts}
use Rattle.clap.specs.Words.{App, app_of, FailsBy, HasKind, HasMatchesOf, Kinds, fault_of, found_of, is_simple_and_free, matches_of, rows_of, subcommand_of, subcommand_rows_of}
use Rattle.clap.specs.declared.parser.matches.ArgMatches.{ArgMatches}
use Rattle.clap.specs.declared.error.Error.{Error}
use Rattle.clap.proofs.OnLiterals.{clap_on_literals}
use Rattle.as2_commands.specs.CommandLine.{command_line}
use Rattle.as2_commands.proofs.words.parse.Goals as goal

-- of such a command line each fault of a parse is known
simple : is_simple_and_free command_line ≡ true
unfolding clap_on_literals
simple = refl

fails : {T : Type 0} (kinds : Kinds) (r : Result T Error) → FailsBy kinds r → IfErr r (HasKind kinds)
fails kinds (Ok x) h = tt
fails kinds (Err e) h = h

-- what is found is what the words say
told : (a : App) (words : List Text) (r : Result ArgMatches Error) → is_simple_and_free a ≡ true
    → FailsBy (fault_of a words) r → IfOk r (HasMatchesOf a words) → IfOk r (λ m. (fault_of a words ≡ [])
    × (rows_of (found_of m) ≡ matches_of a words) × (subcommand_rows_of m ≡ subcommand_of a words))
told a words (Ok m) known none has = let is = has (and_parts _ _ known).0 in (none, is.0, is.1)
told a words (Err e) known none has = tt

pub returns-clause-found : goal.returns-clause-found
returns-clause-found c =
    let parse = c.try_get_matches_from_mut in
    let words = texts c.args.words.now in
    let is_simple = ap is_simple_and_free c.requires ∙ simple in
    subst (λ (a : App). IfOk parse.result (λ m. (fault_of a words ≡ [])
    × (rows_of (found_of m) ≡ matches_of a words) × (subcommand_rows_of m ≡ subcommand_of a words))) c.requires
    (told (app_of c.args.command.now) words parse.result is_simple (parse.ensures.kinds is_simple)
    (IfOk-weaker parse.result _ _ (λ m ok. ok.2) parse.ensures.ok))

pub returns-clause-fault : goal.returns-clause-fault
returns-clause-fault c =
    let parse = c.try_get_matches_from_mut in
    fails _ parse.result (subst (λ a. FailsBy (fault_of a (texts c.args.words.now)) parse.result) c.requires
    (parse.ensures.kinds (ap is_simple_and_free c.requires ∙ simple)))
