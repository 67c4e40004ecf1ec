use Rattle.std.proofs.Common.{◌≡◌, ◌∙◌, ◌<◌, ◌+◌, ◌-◌, ℕ, ap, arith, drop, length, subst, sym, take}
use Rattle.std.specs.List.{flat_map}
use Rattle.trace_diagnosis.specs.Askers.{ArePut}
use Rattle.trace_diagnosis.proofs.Lists.{flat_map_more}
use Rattle.trace_diagnosis.proofs.Putting.{put_more}
use Rattle.trace_diagnosis.proofs.conditions.put_polls.Goals as goal

pub loop-behind-preserved : goal.loop-behind-preserved
loop-behind-preserved c = λ f counts is.
    let ps = c.args.pollers.now in
    let b = c.loop-behind.behind in
    let k = length ps - 1 - b in
    let p = c.index-pollers-last.result in
    let inv = c.loop-behind.invariant f counts is in
    let one : length ps - b ≡ k + 1 = omega arith in
    let next : length ps - (b + 1) ≡ k = omega arith in
    let lt : k < length ps = omega arith in
    let rest = inv.rest ∙ ap (λ (n : ℕ). flat_map f (take n ps)) one ∙ flat_map_more f ps k p lt c.index-pollers-last.is in
    record {
      rest = c.in_ok-put_last.ensures.rest (flat_map f (take k ps)) (f p) rest (counts p) ∙ ap (λ (n : ℕ). flat_map f (take n ps)) (sym next);
      put = subst (λ (n : ℕ). ArePut f (drop n ps) c.args.of_ranks.now c.put_last.new.of_ranks) (sym next)
          (put_more f ps k p lt c.index-pollers-last.is c.args.of_ranks.now c.loop-behind.of_ranks c.put_last.new.of_ranks
          (subst (λ (n : ℕ). ArePut f (drop n ps) c.args.of_ranks.now c.loop-behind.of_ranks) one inv.put)
          (c.in_ok-put_last.ensures.put (flat_map f (take k ps)) (f p) rest (counts p)));
    }
