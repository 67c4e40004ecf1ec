use Rattle.std.proofs.Common.{◌∙◌, ℕ, List, ap, eqb, subst, sym}
use Rattle.std.specs.List.{list_any}
use Rattle.std.specs.List.Sorted.{IsNonDecreasing}
use Rattle.trace_pair.proofs.Halved.{found_by_halves}
use Rattle.trace_pair.proofs.reach.RankReach.holds.Goals as goal

pub returns : goal.returns
returns c =
    let comms = c.as_slice.result.now in
    let rise = subst (λ (l : List ℕ). IsNonDecreasing l) (sym c.as_slice.ensures.value) c.requires in
    c.is_ok.ensures.value ∙ found_by_halves comms c.args.comm c.binary_search.result rise c.binary_search.ensures.bound c.binary_search.ensures.position
    ∙ ap (λ (l : List ℕ). list_any (λ x. eqb x c.args.comm) l) c.as_slice.ensures.value
