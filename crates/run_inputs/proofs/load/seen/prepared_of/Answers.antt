use Rattle.std.proofs.Common.{◌∙◌, ap, map, sym}
use Rattle.command_line.specs.Program.{texts_of}
use Rattle.run_inputs.specs.Seen.{kept_of}
use Rattle.run_inputs.proofs.SeenTexts.{prepared_same, refused_whole}
use Rattle.run_inputs.proofs.load.seen.prepared_of.Goals as goal

pub returns-in-Ok-clause-made : goal.returns-in-Ok-clause-made
returns-in-Ok-clause-made g c =
    let whole = c.whole-whole.result in
    prepared_same (g.O.Opener.file c.args.files.now) (g.O.Opener.file whole.files.now) (map kept_of whole.cuts.items) _ _ _ _ _
    (ap g.O.Opener.file c.whole-whole.ensures.files) c.in-Ok.ensures.made

pub returns-clause-err : goal.returns-clause-err
returns-clause-err g c =
    let whole = c.whole-whole.result in
    refused_whole (g.O.Opener.file c.args.files.now) (g.O.Opener.file whole.files.now) (texts_of c.args.words.now) whole.cuts.items c.in-Err.fault
    (ap g.O.Opener.file c.whole-whole.ensures.files) c.whole-whole.ensures.cuts c.in-Err.ensures.err (sym c.says_cut.ensures ∙ c.if-says_cut.false)
