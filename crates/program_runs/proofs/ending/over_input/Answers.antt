use Rattle.std.proofs.Common.{ap, subst, sym}
use Rattle.std.proofs.lemmas.Result.{IfOk-weaker}
use Rattle.mpi_model.specs.Layouts.{Parts}
use Rattle.command_line.specs.Program.{asked_rank}
use Rattle.run_inputs.specs.Inputs.{HasRank}
use Rattle.program_runs.proofs.Endings.{ran_over}
use Rattle.program_runs.proofs.ending.over_input.Goals as goal

pub returns : goal.returns
returns g c =
    let file = g.O.Opener.file c.args.files.now in
    IfOk-weaker c.ending_after.result _ _ (λ e ended.
    ran_over _ file (g.O.Opener.file c.new.result.files.now) c.args.verb c.args.input.now.layout c.new.result.layout.now c.args.input.now.manifest c.new.result.manifest.now c.run_with-ran.result
    g.W.Write.written g.W.Write.failures c.args.out.now c.run_with-ran.new.out c.is_in_words.result e (ap g.O.Opener.file c.new.ensures.files) c.new.ensures.layout c.new.ensures.manifest c.is_in_words.ensures
    c.run_with-ran.ensures.ran c.run_with-ran.ensures.failed ended) c.ending_after.ensures
