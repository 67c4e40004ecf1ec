use Rattle.std.proofs.Common.{Option, rules, subst}
use Rattle.std.specs.Prelude.{IfSome}
use Rattle.std.specs.FinMap.{entries}
use Rattle.trace_know.specs.View.{View}
use Rattle.trace_wire.specs.Reading.{ReadsFrame}
use Rattle.trace_wire.proofs.Framing.{stray_next}
use Rattle.trace_wire.proofs.packed.reading.next_of_ranks.Goals as goal

pub returns-then-not-is_of_ranks-clause-err : goal.returns-then-not-is_of_ranks-clause-err
returns-then-not-is_of_ranks-clause-err g c =
    let left = g.R.Read.left c.args.reader.now in
    let new = g.R.Read.left c.next_frame.new.reader in
    let reads : ReadsFrame left new (entries c.in-Ok-Some.know) = subst (λ (o : Option View). IfSome o (λ k. ReadsFrame left new (entries k))) c.in-Ok-Some.field-0-is c.in-Ok-Some.ensures.ok in
    (c.in-Ok-Some.ensures.no_failure, stray_next c.args.ranks left new c.in-Ok-Some.know reads (c.is_of_ranks.ensures.other (search rules)))
