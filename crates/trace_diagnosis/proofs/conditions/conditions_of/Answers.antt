use Rattle.std.proofs.Common.{◌≡◌, ◌∙◌, List, Option, ap, arith, length, map, subst, sym}
use Rattle.std.proofs.lemmas.List.{length-map, take_at}
use Rattle.trace_pair.specs.declared.pair.Pair.{Pair}
use Rattle.trace_stuck.specs.Shape.{Wait, shape}
use Rattle.trace_stuck.specs.declared.condition.Condition.{Condition}
use Rattle.trace_wait.specs.Conditions.{conditions_from, conditions_of, run_of}
use Rattle.trace_wait.specs.Polls.{asked_of}
use Rattle.trace_wait.specs.declared.round.Round.{Round}
use Rattle.trace_diagnosis.specs.Askers.{AreDropped, asked_plain, asker, shapes}
use Rattle.trace_diagnosis.specs.Conditions.{asked, asked_at, has_gone_on}
use Rattle.trace_diagnosis.specs.declared.conditions.Poller.{Poller}
use Rattle.trace_diagnosis.proofs.Putting.{conditions_are, length_of_shapes, polls_asked}
use Rattle.trace_diagnosis.proofs.conditions.conditions_of.Goals as goal

pub drop_cut-requires-clause-all : goal.drop_cut-requires-clause-all
drop_cut-requires-clause-all c =
    let case = c.args.case.now in
    let run = run_of case.layout.now case.ops.now case.answer.now.pairs case.answer.now.rounds in
    let f : Poller → List Wait = λ p. asked run (asker p) in
    let first = c.deref_mut.result.now in
    let of_ranks = c.in_ok-conditions.conditions.of_ranks in
    let are : shapes first ≡ conditions_from run 0 case.ops.now
    = ap shapes c.deref_mut.ensures.value ∙ c.in_ok-conditions.ensures.ranks
    ∙ ap (λ (ps : List Pair). conditions_of case.layout.now case.ops.now ps c.rounds-rounds.result.now) c.requires.pairs
    ∙ ap (λ (rs : List Round). conditions_of case.layout.now case.ops.now case.answer.now.pairs rs) c.rounds-rounds.ensures in
    let asks : map shape c.in_ok-conditions.conditions.of_polls.items ≡ map (asked_of run) c.in_ok-polls.polls.items
    = c.in_ok-conditions.ensures.polls
    ∙ ap (λ (ps : List Pair). map (asked_of (run_of case.layout.now case.ops.now ps c.rounds-rounds.result.now)) c.deref.result.now) c.requires.pairs
    ∙ ap (λ (rs : List Round). map (asked_of (run_of case.layout.now case.ops.now case.answer.now.pairs rs)) c.deref.result.now) c.rounds-rounds.ensures
    ∙ ap (map (asked_of run)) c.deref.ensures.value in
    let puts = c.in_ok-put_polls.ensures f (λ p. length-map (map asked_plain p.asked.items) (asked_at run p.rank) ∙ length-map p.asked.items asked_plain)
    (asks ∙ polls_asked run c.in_ok-polls.polls.items case.pollers.now c.in_ok-polls.ensures.polls) in
    let n : length first ≡ length case.ops.now = length_of_shapes run first are in
    let whole : length c.put_polls.new.of_ranks ≡ of_ranks.len = puts.len ∙ ap length c.deref_mut.ensures.value ∙ sym of_ranks.ok.0 in
    let second = c.deref_mut-2.ensures.value ∙ take_at c.put_polls.new.of_ranks _ of_ranks.len whole in
    omega (arith, ap length second, puts.len, n, c.requires.all)

pub returns : goal.returns
returns c =
    let case = c.args.case.now in
    let run = run_of case.layout.now case.ops.now case.answer.now.pairs case.answer.now.rounds in
    let gone = has_gone_on case.know.now case.cut.now case.stuck.now in
    let f : Poller → List Wait = λ p. asked run (asker p) in
    let first = c.deref_mut.result.now in
    let put = c.put_polls.new.of_ranks in
    let last = c.drop_cut.new.of_ranks in
    let of_ranks = c.in_ok-conditions.conditions.of_ranks in
    let are : shapes first ≡ conditions_from run 0 case.ops.now
    = ap shapes c.deref_mut.ensures.value ∙ c.in_ok-conditions.ensures.ranks
    ∙ ap (λ (ps : List Pair). conditions_of case.layout.now case.ops.now ps c.rounds-rounds.result.now) c.requires.pairs
    ∙ ap (λ (rs : List Round). conditions_of case.layout.now case.ops.now case.answer.now.pairs rs) c.rounds-rounds.ensures in
    let asks : map shape c.in_ok-conditions.conditions.of_polls.items ≡ map (asked_of run) c.in_ok-polls.polls.items
    = c.in_ok-conditions.ensures.polls
    ∙ ap (λ (ps : List Pair). map (asked_of (run_of case.layout.now case.ops.now ps c.rounds-rounds.result.now)) c.deref.result.now) c.requires.pairs
    ∙ ap (λ (rs : List Round). map (asked_of (run_of case.layout.now case.ops.now case.answer.now.pairs rs)) c.deref.result.now) c.rounds-rounds.ensures
    ∙ ap (map (asked_of run)) c.deref.ensures.value in
    let puts = c.in_ok-put_polls.ensures f (λ p. length-map (map asked_plain p.asked.items) (asked_at run p.rank) ∙ length-map p.asked.items asked_plain)
    (asks ∙ polls_asked run c.in_ok-polls.polls.items case.pollers.now c.in_ok-polls.ensures.polls) in
    let whole : length put ≡ of_ranks.len = puts.len ∙ ap length c.deref_mut.ensures.value ∙ sym of_ranks.ok.0 in
    let second : c.deref_mut-2.result.now ≡ put = c.deref_mut-2.ensures.value ∙ take_at put _ of_ranks.len whole in
    let drops = subst (λ (l : List (Option Condition)). AreDropped gone case.ranks l last) second c.drop_cut.ensures in
    let end : length last ≡ of_ranks.len = drops.len ∙ whole in
    ap shapes (take_at last _ of_ranks.len end) ∙ conditions_are run case.pollers.now gone case.ranks c.requires.all first put last are puts drops
