use Rattle.std.proofs.Common.{◌<◌, length}
use Rattle.run_inputs.proofs.Runs.{handed_on}
use Rattle.run_inputs.proofs.Seen.{cuts_more_at, looks_refused}
use Rattle.run_inputs.proofs.load.cut.cuts_of.Goals as goal

pub loop-name-preserved : goal.loop-name-preserved
loop-name-preserved g c =
    let lt : c.loop-name.name-index < length c.args.names.now = c.loop-name-test.true in
    cuts_more_at (g.O.Opener.file c.args.files.now) c.args.names.now c.loop-name.name-index _ c.loop-name.cuts.items c.push_cut.new.cuts.items c.in_ok-cut.cut lt c.loop-name.invariant
    c.in_ok-cut.ensures.name c.in_ok-cut.ensures.ok c.in_ok-push_cut.ensures

pub returns-in_err-cut-clause-err : goal.returns-in_err-cut-clause-err
returns-in_err-cut-clause-err g c =
    handed_on c.from_residual.result _ _ c.from_residual.ensures.1 (looks_refused c.args.names.now c.loop-name.name-index _ c.in_err-cut.field-0.0 c.loop-name-test.true c.in_err-cut.ensures.err)
