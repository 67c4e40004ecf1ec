use Rattle.std.proofs.Common.{◌≡◌, ap, arith, map}
use Rattle.command_line.specs.Program.{texts_of}
use Rattle.run_inputs.proofs.Runs.{handed_on}
use Rattle.run_inputs.specs.Seen.{kept_of}
use Rattle.run_inputs.proofs.SeenTexts.{prepared_same, refused_kept}
use Rattle.run_inputs.proofs.load.seen.prepared_again.Goals as goal

pub returns-in_err-prepared-clause-err : goal.returns-in_err-prepared-clause-err
returns-in_err-prepared-clause-err g c =
    let seen = c.new-seen.result in
    let is : seen.cuts.items ≡ c.in-Ok.cuts.items = grind (arith, c.new-seen.ensures.cuts) in
    handed_on c.from_residual-in_err-prepared.result _ _ c.from_residual-in_err-prepared.ensures.1
    (refused_kept (g.O.Opener.file c.args.files.now) (g.O.Opener.file seen.files.now) (texts_of c.args.words.now) c.in-Ok.cuts.items seen.cuts.items c.in_err-prepared.field-0.0
    (ap g.O.Opener.file c.new-seen.ensures.files) is c.in-Ok.ensures.ok c.in_err-prepared.ensures.err)

pub returns-clause-made : goal.returns-clause-made
returns-clause-made g c =
    let seen = c.new-seen.result in
    prepared_same (g.O.Opener.file c.args.files.now) (g.O.Opener.file seen.files.now) (map kept_of seen.cuts.items) _ _ _ _ _
    (ap g.O.Opener.file c.new-seen.ensures.files) c.in_ok-prepared.ensures.made
