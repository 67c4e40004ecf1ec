use Rattle.std.proofs.Common.{rules, ◌≡◌, ◌∙◌, inl, inr, ap, sym, refl, subst, List, None, Some, option_map, [], true}
use Rattle.clap.specs.Words.{App, HasKind, HasMatchesOf, IsAmong, Text, fault_of, is_simple_and_free, kind_of, subcommand_of, subcommand_rows_of}
use Rattle.clap.specs.declared.error.Error.{Error}
use Rattle.clap.specs.declared.error.kind.ErrorKind.TheVariants as kinds
use Rattle.clap.specs.declared.parser.matches.ArgMatches.{ArgMatches}
use Rattle.command_line.specs.Program.{program, request_in, request_of}
use Rattle.command_line.specs.Threads.{threads_in}
use Rattle.command_line.proofs.command_of.Goals as goal

-- the program's command has no argument that clap's meaning leaves out
meant : (app : App) → app ≡ program → (words : List Text) (m : ArgMatches)
    → HasMatchesOf app words m → subcommand_rows_of m ≡ subcommand_of program words
meant app e words m h = (subst (λ (a : App). HasMatchesOf a words m) e h refl).1

passed : (app : App) → app ≡ program → (words : List Text)
    → (is_simple_and_free app ≡ true → fault_of app words ≡ []) → fault_of program words ≡ []
passed app e words h = subst (λ (a : App). is_simple_and_free a ≡ true → fault_of a words ≡ []) e h refl

-- an error that is no want of memory has one of the program's kinds
among : (app : App) → app ≡ program → (words : List Text) (error : Error)
    → (is_simple_and_free app ≡ true → HasKind (fault_of app words) error) → (kind_of error ≡ kinds.OutOfMemory → ⊥)
    → IsAmong (kind_of error) (fault_of program words)
among app e words error h other = elim (subst (λ (a : App). is_simple_and_free a ≡ true → HasKind (fault_of a words) error) e h refl) [
  | inl memory ↦ absurd (other memory)
  | inr one ↦ one
]

pub returns-in-Err-2-clause-refused : goal.returns-in-Err-2-clause-refused
returns-in-Err-2-clause-refused c =
    let other : kind_of c.in-Err-try_get_matches_from.error ≡ kinds.OutOfMemory → ⊥ = λ e. search rules in
    among _ c.in-Ok.ensures _ c.in-Err-try_get_matches_from.error c.in-Err-try_get_matches_from.ensures.kinds other

pub returns-in-Ok-Some-clause-asked : goal.returns-in-Ok-Some-clause-asked
returns-in-Ok-Some-clause-asked c =
    let asked : option_map request_of (Some c.in-Ok-Some.asked) ≡ request_in (subcommand_rows_of c.in-Ok-try_get_matches_from.matches) = search rules in
    sym (ap request_in (meant _ c.in-Ok.ensures _ _ c.in-Ok-try_get_matches_from.ensures.matches)) ∙ sym asked

pub returns-in-Ok-None-clause-refused : goal.returns-in-Ok-None-clause-refused
returns-in-Ok-None-clause-refused c =
    let none : request_in (subcommand_rows_of c.in-Ok-try_get_matches_from.matches) ≡ None = search rules in (
      passed _ c.in-Ok.ensures _ c.in-Ok-try_get_matches_from.ensures.kinds,
      sym (ap request_in (meant _ c.in-Ok.ensures _ _ c.in-Ok-try_get_matches_from.ensures.matches)) ∙ none,
    )

pub returns-in-Ok-Some-clause-taken : goal.returns-in-Ok-Some-clause-taken
returns-in-Ok-Some-clause-taken c = passed _ c.in-Ok.ensures _ c.in-Ok-try_get_matches_from.ensures.kinds

pub returns-in-Ok-Some-clause-threads : goal.returns-in-Ok-Some-clause-threads
returns-in-Ok-Some-clause-threads c = c.threads_of-threads.ensures ∙ ap threads_in (meant _ c.in-Ok.ensures _ _ c.in-Ok-try_get_matches_from.ensures.matches)
