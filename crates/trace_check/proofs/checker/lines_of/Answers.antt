use Rattle.std.proofs.Common.{◌≡◌, ◌∙◌, List, Option, ap, map, sym, string_bytes}
use Rattle.std.specs.Option.{option_map}
use Rattle.std.proofs.lemmas.Result.{IfOk-weaker}
use Rattle.trace_stuck.specs.Shape.{Wait, shape}
use Rattle.trace_stuck.specs.declared.condition.Condition.{Condition}
use Rattle.trace_wait.specs.Conditions.{conditions_from}
use Rattle.trace_node.specs.Answer.{waits_of}
use Rattle.trace_check.specs.Right.{IsRight}
use Rattle.trace_check.proofs.Told.{right_for, told_right, verdict_right}
use Rattle.trace_check.proofs.checker.lines_of.Goals as goal

abbrev shapes : List (Option Condition) → List (Option Wait)
shapes conditions = map (option_map shape) conditions

pub returns-clause-text : goal.returns-clause-text
returns-clause-text c =
    let ops = c.args.ops.now in
    let v = c.in_ok-verdict.verdict in
    let rounds = c.deref.ensures.value ∙ c.in_ok-rounds.ensures in
    let waits : shapes c.in_ok-conditions.conditions.items ≡ waits_of c.args.layout.now ops =
    c.in_ok-conditions.ensures ∙ (λ i. conditions_from (record { layout = c.args.layout.now; ops = ops; pairs = (c.requires.first i).pairs; rounds = rounds i }) 0 ops) in
    let right : IsRight c.deref-4.result.now c.deref-5.result.now v.stuck.items v.release.items =
    right_for c.deref-2.result.now c.deref-4.result.now c.deref-3.result.now c.deref-5.result.now v.stuck.items v.release.items
    (c.deref-2.ensures.value ∙ sym c.deref-4.ensures.value) (c.deref-3.ensures.value ∙ sym c.deref-5.ensures.value)
    (verdict_right c.deref-2.result.now c.deref-3.result.now v.stuck.items v.release.items
    c.in_ok-verdict.ensures.rising c.in_ok-verdict.ensures.stuck c.in_ok-verdict.ensures.order c.in_ok-verdict.ensures.others) in
    IfOk-weaker c.check_lines.result _ _ (λ told h.
    told_right c.args.layout.now ops c.args.first.now c.args.second.now c.deref-4.result.now c.deref-5.result.now v.stuck.items v.release.items (string_bytes told.0)
    c.requires.first c.requires.second (c.deref-4.ensures.value ∙ c.in_ok-states.ensures) (ap shapes c.deref-5.ensures.value ∙ waits) right h) c.check_lines.ensures.text

pub returns-clause-held : goal.returns-clause-held
returns-clause-held c =
    let v = c.in_ok-verdict.verdict in
    let right : IsRight c.deref-4.result.now c.deref-5.result.now v.stuck.items v.release.items =
    right_for c.deref-2.result.now c.deref-4.result.now c.deref-3.result.now c.deref-5.result.now v.stuck.items v.release.items
    (c.deref-2.ensures.value ∙ sym c.deref-4.ensures.value) (c.deref-3.ensures.value ∙ sym c.deref-5.ensures.value)
    (verdict_right c.deref-2.result.now c.deref-3.result.now v.stuck.items v.release.items
    c.in_ok-verdict.ensures.rising c.in_ok-verdict.ensures.stuck c.in_ok-verdict.ensures.order c.in_ok-verdict.ensures.others) in
    IfOk-weaker c.check_lines.result _ _ (λ told h. h.1 (c.requires.first ∙ sym c.requires.second, right)) c.check_lines.ensures.held
