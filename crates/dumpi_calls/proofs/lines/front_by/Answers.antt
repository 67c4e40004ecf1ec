use Rattle.std.proofs.Common.{subst, List, ℕ, Option}
use Rattle.std.specs.Prelude.{IfSome}
use Rattle.std.specs.Borrow.{Bor}
use Rattle.dumpi_text.specs.declared.number.Num.{Num}
use Rattle.dumpi_calls.specs.InPlace.{EndsNumber}
use Rattle.dumpi_calls.proofs.InPlace.{number_behind}
use Rattle.dumpi_calls.proofs.lines.front_by.Goals as goal

pub returns-in-Some : goal.returns-in-Some
returns-in-Some c =
    let told : EndsNumber c.in-Some.number c.args.behind.now c.in-Some.rest.now = subst (λ (q : Option (Num × Bor (List ℕ))). IfSome q (λ x. EndsNumber x.0 c.args.behind.now x.1.now)) c.in-Some.is c.requires.quick in
    number_behind c.args.parameter c.args.kind.now c.args.start.now c.args.text.now c.args.behind.now c.in-Some.rest.now c.in-Some.number c.parameter_lines.ensures
    c.requires.kind c.requires.start c.requires.short c.requires.behind told
