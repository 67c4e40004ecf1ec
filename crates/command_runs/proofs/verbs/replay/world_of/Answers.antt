use Rattle.std.proofs.Common.{rules, ◌⊎◌, ◌≡◌}
use Rattle.std.proofs.lemmas.Result.{IfErr-weaker, IfOk-weaker}
use Rattle.command_runs.specs.Refusals.{RefusesFirst}
use Rattle.command_runs.specs.Schedules.{TellSegments, held_lists, world_steps}
use Rattle.run_inputs.specs.declared.faults.fault.RunFault.TheVariants.{Memory}
use Rattle.command_runs.proofs.Replaying.{nodes_left, piece_refused, steps_refused}
use Rattle.command_runs.proofs.Runs.{handed_on}
use Rattle.command_runs.proofs.verbs.replay.world_of.Goals as goal

pub returns-in_err-lists-clause-err : goal.returns-in_err-lists-clause-err
returns-in_err-lists-clause-err g c =
    let file = g.O.Opener.file c.args.run.now.files.now in
    let m = c.args.run.now.manifest.now in
    let h : (c.in_err-lists.field-0.0 ≡ Memory) ⊎ RefusesFirst file m.pieces c.in_err-lists.field-0.0 = rw c.pieces.ensures at c.in_err-lists.ensures.err in
    handed_on c.from_residual.result _ _ c.from_residual.ensures.1 (piece_refused file c.args.run.now.layout.now m c.in_err-lists.field-0.0 h)

pub returns-clause-ok : goal.returns-clause-ok
returns-clause-ok g c =
    let file = g.O.Opener.file c.args.run.now.files.now in
    let m = c.args.run.now.manifest.now in
    let lists = held_lists c.in_ok-lists.lists.items in
    let told : TellSegments file m.pieces lists = rw c.pieces.ensures at c.in_ok-lists.ensures.ok in
    let steps : c.deref-2.result.now ≡ world_steps lists m.schedule = search rules in
    IfOk-weaker c.world_after.result _ _ (λ w h. nodes_left file c.args.run.now.layout.now m lists _ _ _ told c.nodes.ensures steps h) c.world_after.ensures.ok

pub returns-clause-err : goal.returns-clause-err
returns-clause-err g c =
    let file = g.O.Opener.file c.args.run.now.files.now in
    let m = c.args.run.now.manifest.now in
    let lists = held_lists c.in_ok-lists.lists.items in
    let told : TellSegments file m.pieces lists = rw c.pieces.ensures at c.in_ok-lists.ensures.ok in
    let steps : c.deref-2.result.now ≡ world_steps lists m.schedule = search rules in
    IfErr-weaker c.world_after.result _ _ (λ fault h. steps_refused file c.args.run.now.layout.now m lists _ _ fault told c.nodes.ensures steps h) c.world_after.ensures.err
