use Rattle.std.proofs.Common.{rules, ◌∙◌, sym}
use Rattle.std.proofs.lemmas.List.Sorted.{answers_always}
use Rattle.trace_pair.specs.declared.pair.Pair.{Pair}
use Rattle.trace_pair.proofs.Searched.{pair_at_place, pair_missed, pair_stands}
use Rattle.trace_pair.proofs.near.place_near.Goals as goal

pub returns-then-is_same_name-clause-some : goal.returns-then-is_same_name-clause-some
returns-then-is_same_name-clause-some c =
    sym c.in-Some.ensures ∙ pair_stands c.args.pairs.now c.requires c.args.name.now _ c.in-Some.pair (sym c.in-Some.ensures) (sym c.if-is_same_name.ensures)

pub returns-in-Ok-clause-some : goal.returns-in-Ok-clause-some
returns-in-Ok-clause-some c =
    pair_at_place c.args.pairs.now c.requires c.args.name.now c.in-Ok.place c.in-Ok.ensures.bound
    (c.in-Ok.ensures.position (λ (p : Pair). p.message) (answers_always _ _ _ (λ f a r g h. search rules)))

pub returns-in-Err-clause-none : goal.returns-in-Err-clause-none
returns-in-Err-clause-none c = pair_missed c.args.pairs.now c.requires c.args.name.now _
    (c.in-Err.ensures.position (λ (p : Pair). p.message) (answers_always _ _ _ (λ f a r g h. search rules)))
