use Rattle.std.proofs.Common.{◌≡◌, Global, List, Option, Vec, arith, map, subst, true, ℕ}
use Rattle.trace_stuck.specs.Hearts.{AreHearts}
use Rattle.trace_diagnosis.specs.Graph.{has_not_ended}
use Rattle.trace_diagnosis.specs.Roots.{HaveComponent, IsInGraph, is_labelled, kind_at, members}
use Rattle.trace_diagnosis.proofs.Covering.{all_components, components_more}
use Rattle.trace_diagnosis.proofs.roots.roots_of_ranks.Goals as goal

pub loop-rank-preserved : goal.loop-rank-preserved
loop-rank-preserved c =
    let ranks = c.args.ranks.now in
    let edges = c.args.graph.now.edges.items in
    let able = map has_not_ended ranks.states.now in
    let n = c.loop-rank.rank in
    let new = c.push_root.new.roots.items in
    record {
      sound = c.in_ok-push_root.ensures.sound c.loop-rank.invariant.sound;
      components = components_more edges c.in_ok-hearts.hearts.items able ranks.held.now ranks.waits.now ranks.count n c.loop-rank.roots.items new c.in_ok-push_root.ensures.kept
          (subst (λ (ls : List (Option ℕ)). is_labelled ls n n ≡ true → IsInGraph edges ranks.held.now n → HaveComponent (kind_at able ranks.held.now ranks.waits.now n) (members ls ranks.count n) new)
          c.deref-in-loop-rank.ensures.value c.in_ok-push_root.ensures.more) c.loop-rank.invariant.components;
    }

pub returns-clause-components : goal.returns-clause-components
returns-clause-components c =
    let ranks = c.args.ranks.now in
    let labels = c.in_ok-hearts.hearts.items in
    all_components c.args.graph.now.edges.items labels (subst (λ (es : List (Vec ℕ Global)). AreHearts es labels) c.deref.ensures.value c.in_ok-hearts.ensures.hearts)
    (map has_not_ended ranks.states.now) ranks.held.now ranks.waits.now c.requires.held ranks.count c.loop-rank.roots.items
    (λ k lt. c.loop-rank.invariant.components k (omega (arith, lt, c.loop-rank-test.false)))
