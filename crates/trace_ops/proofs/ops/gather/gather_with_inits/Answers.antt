use Rattle.std.proofs.Common.{◌≡◌, ◌+◌, ◌-◌, ◌<◌, ◌≤◌, List, [], reverse, take, drop, map, length, sym, ◌∙◌, ap, subst, arith, rules}
use Rattle.std.specs.Prelude.{ℤ, Option}
use Rattle.std.specs.Option.{option_map}
use Rattle.trace_ops.specs.declared.held.Init.{Init as Lent}
use Rattle.std.proofs.lemmas.List.{take_all}
use Rattle.trace_ops.specs.Called.{plain_called}
use Rattle.trace_ops.specs.Calls.{Entry}
use Rattle.trace_ops.specs.Gathered.{IsGathered}
use Rattle.trace_ops.specs.Held.{inits_from, plain_init}
use Rattle.trace_ops.specs.Request.{started_by}
use Rattle.trace_ops.specs.Steps.{Step, steps_from}
use Rattle.trace_ops.proofs.Behind.{read_there}
use Rattle.trace_ops.proofs.Nothing.{gathered_first}
use Rattle.trace_ops.proofs.Holding.{before_count, listed_before, listed_here, listed_within, middle, steps_more}
use Rattle.trace_ops.proofs.ops.gather.gather_with_inits.Goals as goal

pub overflow_sub-left : goal.overflow_sub-left
overflow_sub-left c =
    let m = c.loop-n.n - 1 in
    let calls = c.args.calls.now in
    let entry = plain_called c.at-called.result in
    let at = read_there calls m entry c.at-called.ensures in
    let lt : m < length calls = omega arith in
    let up : c.loop-n.n ≡ m + 1 = omega arith in
    let listed : c.started_by.result.now ≡ started_by entry.call = c.started_by.ensures in
    let count : length c.started_by.result.now ≡ length (started_by entry.call) = ap (λ (l : List ℤ). length l) listed in
    let le = listed_within calls m entry c.in_ok-holding.holding.inits.items c.loop-n.left lt at c.loop-n.invariant.left
    (c.loop-n.invariant.listed ∙ ap (λ (k : _). inits_from [] (take k calls)) up) in
    omega (arith, le, count)

pub loop-n-init : goal.loop-n-init
loop-n-init c =
    let all : c.len-n.result ≡ length c.args.calls.now = c.len-n.ensures in
    let whole : length c.in_ok-holding.holding.inits.items ≤ c.len-left.result = search rules in
    let few = c.in_ok-gathered.ensures.few in
    record {
      within = search rules;
      few = omega (arith, all, few);
      left = search rules;
      listed = ap (λ (l : List (Option Lent)). map (option_map plain_init) l) (take_all c.len-left.result c.in_ok-holding.holding.inits.items whole)
          ∙ c.in_ok-holding.ensures.listed ∙ sym (ap (λ (l : List Entry). inits_from [] l) (take_all c.len-n.result c.args.calls.now (omega (arith, all))));
      gathered = gathered_first c.args.layout.now c.args.rank c.args.calls.now c.in_ok-gathered.gathered c.len-n.result c.len-n.ensures
          (c.in_ok-gathered.ensures.gathered c.args.layout.now c.args.rank);
    }

pub loop-n-preserved : goal.loop-n-preserved
loop-n-preserved c =
    let m = c.loop-n.n - 1 in
    let calls = c.args.calls.now in
    let entry = plain_called c.at-called.result in
    let at = read_there calls m entry c.at-called.ensures in
    let inits = c.in_ok-holding.holding.inits.items in
    let lt : m < length calls = omega arith in
    let up : c.loop-n.n ≡ m + 1 = omega arith in
    let listed : c.started_by.result.now ≡ started_by entry.call = c.started_by.ensures in
    let count : length c.started_by.result.now ≡ length (started_by entry.call) = ap (λ (l : List ℤ). length l) listed in
    let before : map (option_map plain_init) (take c.loop-n.left c.in_ok-holding.holding.inits.items) ≡ inits_from [] (take (m + 1) calls) = c.loop-n.invariant.listed ∙ ap (λ (k : _). inits_from [] (take k calls)) up in
    let left : c.loop-n.left - length c.started_by.result.now ≡ c.loop-n.left - length (started_by entry.call) = ap (λ (k : _). c.loop-n.left - k) count in
    let here = listed_here calls m entry inits c.loop-n.left lt at c.loop-n.invariant.left before (c.loop-n.left - length c.started_by.result.now) left in
    let slice : map (option_map plain_init) (take (c.loop-n.left - (c.loop-n.left - length c.started_by.result.now)) (drop (c.loop-n.left - length c.started_by.result.now) c.deref.result.now)) ≡ map (option_map plain_init) (drop (c.loop-n.left - length c.started_by.result.now) (take c.loop-n.left inits)) =
    ap (λ (l : List (Option Lent)). map (option_map plain_init) (take (c.loop-n.left - (c.loop-n.left - length c.started_by.result.now)) (drop (c.loop-n.left - length c.started_by.result.now) l))) c.deref.ensures.value
    ∙ ap (map (option_map plain_init)) (middle (c.loop-n.left - length c.started_by.result.now) c.loop-n.left inits (omega arith)) in
    let old : IsGathered c.args.layout.now c.args.rank calls (steps_from (reverse (take (m + 1) calls)) (drop (m + 1) calls)) c.loop-n.gathered =
    subst (λ (k : _). IsGathered c.args.layout.now c.args.rank calls (steps_from (reverse (take k calls)) (drop k calls)) c.loop-n.gathered) up c.loop-n.invariant.gathered in
    let new = c.in_ok-add.ensures.gathered (reverse (take m calls))
    (before_count calls m (omega arith)) (slice ∙ here) (steps_from (reverse (take (m + 1) calls)) (drop (m + 1) calls)) old in
    record {
      within = omega arith;
      few = (let few = c.in_ok-add.ensures.few in omega (arith, few));
      left = omega arith;
      listed = listed_before calls m entry inits c.loop-n.left lt at c.loop-n.invariant.left before (c.loop-n.left - length c.started_by.result.now) left;
      gathered = subst (λ (l : List Step). IsGathered c.args.layout.now c.args.rank calls l c.add.new.self) (steps_more calls m entry lt at) new;
    }
