use Rattle.std.proofs.Common.{◌≡◌, ◌+◌, ◌-◌, ◌<◌, ◌≤◌, false, List, [], ◌∷◌, ◌++◌, reverse, take, drop, length, refl, sym, ◌∙◌, ap, subst, arith, rules}
use Rattle.std.specs.Ordering.{int_eq}
use Rattle.std.proofs.lemmas.List.{drop_all}
use Rattle.indexmap.specs.IndexMap.{get}
use Rattle.trace_ops.specs.Called.{plain_called}
use Rattle.trace_ops.specs.Calls.{Entry}
use Rattle.trace_ops.specs.Gathered.{IsGathered}
use Rattle.trace_ops.specs.Request.{is_init, is_start}
use Rattle.trace_ops.specs.Steps.{Step, steps_at, steps_from, whole}
use Rattle.trace_ops.proofs.Behind.{read_there}
use Rattle.trace_ops.proofs.Nothing.{HaveNoInit, gathered_first, holds_nothing, one_step}
use Rattle.trace_ops.proofs.Holding.{before_count, front, none_kept, steps_more}
use Rattle.trace_ops.proofs.ops.gather.gather_without_inits.Goals as goal

pub loop-n-init : goal.loop-n-init
loop-n-init c =
    let all : c.len-n.result ≡ length c.args.calls.now = c.len-n.ensures in
    let few = c.in_ok-gathered.ensures.few in
    record {
      within = search rules;
      few = omega (arith, all, few);
      none = subst HaveNoInit (sym (drop_all c.len-n.result c.args.calls.now (omega (arith, all)))) tt;
      gathered = gathered_first c.args.layout.now c.args.rank c.args.calls.now c.in_ok-gathered.gathered c.len-n.result c.len-n.ensures
          (c.in_ok-gathered.ensures.gathered c.args.layout.now c.args.rank);
    }

pub loop-n-preserved : goal.loop-n-preserved
loop-n-preserved c =
    let m = c.loop-n.n - 1 in
    let calls = c.args.calls.now in
    let entry = plain_called c.at-called.result in
    let at = read_there calls m entry c.at-called.ensures in
    let lt : m < length calls = omega arith in
    let up : c.loop-n.n ≡ m + 1 = omega arith in
    let old : IsGathered c.args.layout.now c.args.rank calls (steps_from (reverse (take (m + 1) calls)) (drop (m + 1) calls)) c.loop-n.gathered =
    subst (λ (k : _). IsGathered c.args.layout.now c.args.rank calls (steps_from (reverse (take k calls)) (drop k calls)) c.loop-n.gathered) up c.loop-n.invariant.gathered in
    let none : HaveNoInit (drop (m + 1) calls) = subst (λ (k : _). HaveNoInit (drop k calls)) up c.loop-n.invariant.none in
    let init : is_init entry.call ≡ false = cc in
    let start : is_start entry.call ≡ false = cc in
    let new = c.in_ok-add_single.ensures.gathered (steps_from (reverse (take (m + 1) calls)) (drop (m + 1) calls)) old in
    record {
      within = omega arith;
      few = (let few = c.in_ok-add_single.ensures.few in omega (arith, few));
      none = subst HaveNoInit (sym (front calls m entry lt at)) (init, none);
      gathered = subst (λ (l : List Step). IsGathered c.args.layout.now c.args.rank calls l c.add_single.new.self)
          (ap (λ (l : List Step). l ++ steps_from (reverse (take (m + 1) calls)) (drop (m + 1) calls)) (one_step (reverse (take m calls)) m entry (before_count calls m (omega (arith, lt))) start) ∙ steps_more calls m entry lt at) new;
    }

pub into_ops-requires-clause-gathered : goal.into_ops-requires-clause-gathered
into_ops-requires-clause-gathered c =
    let zero : c.loop-n.n ≡ 0 = omega arith in
    subst (λ (k : _). IsGathered c.args.layout.now c.args.rank c.args.calls.now (steps_from (reverse (take k c.args.calls.now)) (drop k c.args.calls.now)) c.loop-n.gathered) zero c.loop-n.invariant.gathered

pub into_ops-requires-clause-held : goal.into_ops-requires-clause-held
into_ops-requires-clause-held c =
    let zero : c.loop-n.n ≡ 0 = omega arith in
    holds_nothing c.args.calls.now (get int_eq c.new.result) (subst (λ (k : _). HaveNoInit (drop k c.args.calls.now)) zero c.loop-n.invariant.none) (λ x. none_kept c.new.result.entries x c.new.ensures.len)
