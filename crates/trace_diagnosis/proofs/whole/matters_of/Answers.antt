use Rattle.std.proofs.Common.{◌∙◌, All, Bool, List, Option, ap, inr, map, subst, sym}
use Rattle.std.specs.List.{range_with_len}
use Rattle.trace_pair.specs.Table.{Table}
use Rattle.trace_pair.specs.declared.pair.Pair.{Pair}
use Rattle.trace_stuck.specs.Shape.{Wait}
use Rattle.trace_stuck.specs.declared.condition.Condition.{Condition}
use Rattle.trace_diagnosis.specs.Askers.{asker, case_conditions, shapes}
use Rattle.trace_diagnosis.specs.Conditions.{does_wait}
use Rattle.trace_diagnosis.specs.Graph.{LeadOutOfHeld, has_not_ended, needs_at}
use Rattle.trace_diagnosis.specs.Holding.{is_held}
use Rattle.trace_diagnosis.specs.Unmatched.{IsUnmatched}
use Rattle.trace_diagnosis.specs.Roots.{HaveComponents, HaveRounds, IsSound}
use Rattle.diagnosis_value.specs.declared.diagnosis.Need.{Need}
use Rattle.trace_diagnosis.specs.Waiting.{held_in}
use Rattle.trace_diagnosis.proofs.whole.matters_of.Goals as goal

pub roots_of-requires-clause-held : goal.roots_of-requires-clause-held
roots_of-requires-clause-held c =
    let edges = c.in_ok-graph.graph.edges.items in
    subst (λ (h : List Bool). LeadOutOfHeld edges h)
    (sym (c.deref-6.ensures.value ∙ c.in_ok-held.ensures ∙ ap (λ (cs : List (Option Condition)). map is_held (shapes cs)) (c.deref.ensures.value ∙ sym c.deref-4.ensures.value))) c.in_ok-graph.ensures.held

pub returns-clause-roots : goal.returns-clause-roots
returns-clause-roots c =
    let edges = c.in_ok-graph.graph.edges.items in
    let roots = c.in_ok-roots.roots.items in
    let ranks = c.args.case.now.ranks in
    let ws = case_conditions c.args.case.now in
    let able = map has_not_ended c.args.case.now.answer.now.states in
    let able_is = c.deref-3.ensures.value ∙ c.in_ok-able.ensures ∙ ap (map has_not_ended) c.states.ensures in
    let states_is = ap (map has_not_ended) c.states-2.ensures in
    let held_is = c.deref-6.ensures.value ∙ c.in_ok-held.ensures ∙ ap (λ (cs : List (Option Condition)). map is_held (shapes cs)) c.deref.ensures.value ∙ ap (map is_held) c.in_ok-conditions.ensures in
    let waits_is = c.deref-5.ensures.value ∙ c.in_ok-waits.ensures ∙ ap (λ (cs : List (Option Condition)). map does_wait (shapes cs)) c.deref-2.ensures.value ∙ ap (map does_wait) c.in_ok-conditions.ensures in
    let needs_is = c.in_ok-graph.ensures.needs
    ∙ ap (λ (a : List Bool). map (needs_at a (shapes c.deref-4.result.now)) (range_with_len 0 ranks)) able_is
    ∙ ap (λ (cs : List (Option Condition)). map (needs_at able (shapes cs)) (range_with_len 0 ranks)) c.deref-4.ensures.value
    ∙ ap (λ (ws : List (Option Wait)). map (needs_at able ws) (range_with_len 0 ranks)) c.in_ok-conditions.ensures in
    inr (record {
      all = c.in_ok-graph.graph.needs.items;
      edges = edges;
      needs = needs_is;
      drawn = c.in_ok-graph.ensures.edges;
      sound = subst (λ (h : List Bool). All (IsSound edges h ranks) roots) held_is c.in_ok-roots.ensures.sound;
      components = subst (λ (a : List Bool). HaveComponents edges a (map is_held ws) (map does_wait ws) ranks roots) states_is
          (subst (λ (h : List Bool). HaveComponents edges (map has_not_ended c.states-2.result.now) h (map does_wait ws) ranks roots) held_is
          (subst (λ (v : List Bool). HaveComponents edges (map has_not_ended c.states-2.result.now) c.deref-6.result.now v ranks roots) waits_is c.in_ok-roots.ensures.components));
      rounds = subst (λ (l : List (List Need)). HaveRounds l roots) needs_is c.in_ok-roots.ensures.rounds;
      order = c.in_ok-roots.ensures.order;
    })

pub held_ranks-requires : goal.held_ranks-requires
held_ranks-requires c = c.deref-10.ensures.value ∙ c.in_ok-held.ensures ∙ ap (λ (cs : List (Option Condition)). map is_held (shapes cs)) c.deref.ensures.value

pub returns-clause-held : goal.returns-clause-held
returns-clause-held c = c.in_ok-held-2.ensures ∙ ap (λ (ws : List (Option Wait)). held_in ws c.args.case.now.ranks) c.in_ok-conditions.ensures

pub returns-clause-unmatched : goal.returns-clause-unmatched
returns-clause-unmatched c =
    let case = c.args.case.now in
    let ws = case_conditions case in
    let askers = map asker case.pollers.now in
    let u = c.in_ok-unmatched.unmatched in
    let pairs_is = ap (λ (t : Table). t.pairs) c.in_ok-pairs.ensures.table ∙ sym c.requires.pairs in
    let held_is = c.deref-9.ensures.value ∙ c.in_ok-held.ensures ∙ ap (λ (cs : List (Option Condition)). map is_held (shapes cs)) c.deref.ensures.value ∙ ap (map is_held) c.in_ok-conditions.ensures in
    let waits_is = c.deref-8.ensures.value ∙ c.in_ok-waits.ensures ∙ ap (λ (cs : List (Option Condition)). map does_wait (shapes cs)) c.deref-2.ensures.value ∙ ap (map does_wait) c.in_ok-conditions.ensures in
    subst (λ (ps : List Pair). IsUnmatched case.layout.now case.ops.now ps askers (map is_held ws) (map does_wait ws) u) pairs_is
    (subst (λ (h : List Bool). IsUnmatched case.layout.now case.ops.now c.in_ok-pairs.pairs.pairs askers h (map does_wait ws) u) held_is
    (subst (λ (v : List Bool). IsUnmatched case.layout.now case.ops.now c.in_ok-pairs.pairs.pairs askers c.deref-9.result.now v u) waits_is c.in_ok-unmatched.ensures))
