use Rattle.std.proofs.Common.{ℕ, List, sym, ◌∙◌, ap}
use Rattle.std.specs.Prelude.{slice_get}
use Rattle.trace_pair.proofs.Waited.{passes_front, stays_front, all_passed, front_of}
use Rattle.trace_pair.proofs.places.Places.first_waiting.Goals as goal

pub loop-place-preserved : goal.loop-place-preserved
loop-place-preserved c = passes_front c.args.takers.now c.loop-place.self _ c.pop.new.self c.in-Some.place c.in-Some.ensures (sym c.if-waits_at.ensures) c.pop.ensures c.loop-place.invariant

pub returns-then-waits_at-clause-first : goal.returns-then-waits_at-clause-first
returns-then-waits_at-clause-first c = front_of c.args.takers.now c.loop-place.self _ c.in-Some.place c.in-Some.ensures (sym c.if-waits_at.ensures) c.loop-place.invariant

pub returns-then-waits_at-clause-left : goal.returns-then-waits_at-clause-left
returns-then-waits_at-clause-left c = stays_front c.args.takers.now c.loop-place.self _ c.in-Some.place c.in-Some.ensures (sym c.if-waits_at.ensures) c.loop-place.invariant

pub returns-clause-left : goal.returns-clause-left
returns-clause-left c = all_passed c.args.takers.now c.loop-place.self _ c.in_default.ensures c.loop-place.invariant

pub returns-clause-first : goal.returns-clause-first
returns-clause-first c = c.in_default.ensures ∙ ap (λ (l : List ℕ). slice_get l 0) (all_passed c.args.takers.now c.loop-place.self _ c.in_default.ensures c.loop-place.invariant)
