use Rattle.std.proofs.Common.{◌≡◌, ◌∙◌, ℕ, List, ap, arith, length, map, subst, sym}
use Rattle.std.specs.Prelude.{IfOk}
use Rattle.std.specs.List.{flat_map, range_with_len}
use Rattle.std.specs.List.Sorted.{IsNonDecreasing}
use Rattle.std.proofs.lemmas.List.{length-map}
use Rattle.std.proofs.lemmas.List.FromFn.{length-map-range_with_len}
use Rattle.trace_ops.specs.Ops.{Ops}
use Rattle.trace_ops.specs.RankOps.{all_ops, ops_of}
use Rattle.trace_pair.specs.Table.{table_of}
use Rattle.trace_diagnosis.specs.Askers.{asker, poller_plain}
use Rattle.trace_diagnosis.specs.Conditions.{asker_told}
use Rattle.trace_diagnosis.specs.Graph.{has_not_ended}
use Rattle.trace_diagnosis.specs.Rounds.{AreTold}
use Rattle.trace_diagnosis.specs.Standing.{stands_at, stands_told}
use Rattle.trace_diagnosis.specs.Tails.{polling_at, polling_told}
use Rattle.diagnosis_value.specs.declared.diagnosis.Diagnosis.{Diagnosis}
use Rattle.trace_diagnosis.proofs.Composing.{both, given_same, three, unmatched_same, waiting_same}
use Rattle.trace_diagnosis.proofs.Stuck.{stuck_rise}
use Rattle.trace_diagnosis.proofs.whole.diagnose.Goals as goal

pub pollers_of-requires : goal.pollers_of-requires
pollers_of-requires c = omega (arith, c.ops_known.ensures.ranks, c.ranks-ranks.ensures.value)

pub diagnosis_of-requires-clause-states : goal.diagnosis_of-requires-clause-states
diagnosis_of-requires-clause-states c =
    let n = ap length c.requires.answer.states ∙ length-map (all_ops c.args.layout.now c.args.know.now) (λ o. o.state)
    ∙ length-map-range_with_len (ops_of c.args.layout.now c.args.know.now) 0 c.args.layout.now.ranks in
    omega (arith, n, c.ranks-ranks.ensures.value, c.ranks-ranks.ensures.range.1)

pub diagnosis_of-requires-clause-small : goal.diagnosis_of-requires-clause-small
diagnosis_of-requires-clause-small c = omega (arith, c.ranks-ranks.ensures.range.1)

pub diagnosis_of-requires-clause-all : goal.diagnosis_of-requires-clause-all
diagnosis_of-requires-clause-all c = omega (arith, c.ops_known.ensures.ranks, c.ranks-ranks.ensures.value)

pub diagnosis_of-requires-clause-pairs : goal.diagnosis_of-requires-clause-pairs
diagnosis_of-requires-clause-pairs c = c.requires.answer.pairs ∙ ap (λ (os : List Ops). (table_of os).pairs) (sym c.requires.did)

pub diagnosis_of-requires-clause-rising : goal.diagnosis_of-requires-clause-rising
diagnosis_of-requires-clause-rising c =
    subst (λ (l : List ℕ). IsNonDecreasing l) (sym (c.deref-2.ensures.value ∙ c.in_ok-stuck.ensures))
    (stuck_rise c.args.layout.now c.args.know.now (all_ops c.args.layout.now c.args.know.now) c.args.answer.now.stuck c.requires.answer.stuck)

pub returns-clause-standing : goal.returns-clause-standing
returns-clause-standing c =
    let view = c.args.know.now in
    let cut = c.args.cut.now in
    subst (λ (os : List Ops). IfOk c.diagnosis_of.result (λ (d : Diagnosis). map stands_told d.waiting.standing.items ≡ map (stands_at view os cut) (range_with_len 0 c.args.layout.now.ranks)))
    c.requires.did
    (subst (λ (n : ℕ). IfOk c.diagnosis_of.result (λ (d : Diagnosis). map stands_told d.waiting.standing.items ≡ map (stands_at view c.args.ops.now cut) (range_with_len 0 n)))
    c.ranks-ranks.ensures.value c.diagnosis_of.ensures.standing)

pub returns-clause-polls : goal.returns-clause-polls
returns-clause-polls c =
    let view = c.args.know.now in
    let cut = c.args.cut.now in
    let e = ap (map poller_plain) c.deref.ensures.value ∙ c.in_ok-pollers.ensures.polls
    ∙ ap (λ (os : List Ops). flat_map (polling_at view os cut) (range_with_len 0 c.ranks-ranks.result)) c.requires.did
    ∙ ap (λ (n : ℕ). flat_map (polling_at view (all_ops c.args.layout.now view) cut) (range_with_len 0 n)) c.ranks-ranks.ensures.value in
    subst (λ (l : List (ℕ × ℕ)). IfOk c.diagnosis_of.result (λ (d : Diagnosis). map polling_told d.waiting.polls.items ≡ l)) e c.diagnosis_of.ensures.counts

pub returns-clause-rounds : goal.returns-clause-rounds
returns-clause-rounds c =
    subst (λ (os : List Ops). IfOk c.diagnosis_of.result (λ (d : Diagnosis). AreTold c.args.layout.now os c.args.answer.now.rounds d.rounds))
    c.requires.did c.diagnosis_of.ensures.rounds

pub returns-clause-waiting : goal.returns-clause-waiting
returns-clause-waiting c =
    let layout = c.args.layout.now in
    let view = c.args.know.now in
    let answer = c.args.answer.now in
    let askers = map asker c.deref.result.now in
    let r = c.diagnosis_of.result in
    three r c.diagnosis_of.ensures.polls c.diagnosis_of.ensures.held c.diagnosis_of.ensures.roots
    (λ d p h k. waiting_same (map has_not_ended answer.states) c.ranks-ranks.result layout.ranks _ _ d.waiting c.ranks-ranks.ensures.value
    (given_same layout view c.args.cut.now answer.pairs answer.rounds c.args.ops.now (all_ops layout view) askers (map asker_told d.waiting.polls.items) c.deref-2.result.now
    (map (λ s. s.rank) answer.stuck) c.ranks-ranks.result layout.ranks c.requires.did (sym p) (c.deref-2.ensures.value ∙ c.in_ok-stuck.ensures) c.ranks-ranks.ensures.value)
    h k)

pub returns-clause-unmatched : goal.returns-clause-unmatched
returns-clause-unmatched c =
    let layout = c.args.layout.now in
    let view = c.args.know.now in
    let answer = c.args.answer.now in
    let askers = map asker c.deref.result.now in
    let r = c.diagnosis_of.result in
    both r c.diagnosis_of.ensures.polls c.diagnosis_of.ensures.unmatched
    (λ d p u. unmatched_same layout c.args.ops.now (all_ops layout view) answer.pairs askers (map asker_told d.waiting.polls.items) _ _ d.unmatched c.requires.did (sym p)
    (given_same layout view c.args.cut.now answer.pairs answer.rounds c.args.ops.now (all_ops layout view) askers (map asker_told d.waiting.polls.items) c.deref-2.result.now
    (map (λ s. s.rank) answer.stuck) c.ranks-ranks.result layout.ranks c.requires.did (sym p) (c.deref-2.ensures.value ∙ c.in_ok-stuck.ensures) c.ranks-ranks.ensures.value)
    u)
