use Rattle.std.proofs.Common.{ap}
use Rattle.std.proofs.lemmas.Result.{IfOk-weaker}
use Rattle.program_runs.proofs.Endings.{cluster_ran}
use Rattle.program_runs.proofs.ending.cluster_over.Goals as goal

pub returns : goal.returns
returns g c =
    let file = g.O.Opener.file c.args.files.now in
    IfOk-weaker c.ending_after.result _ _ (λ e ended. (
      c.cluster-ran.result,
      cluster_ran _ file (g.O.Opener.file c.new.result.files.now) c.args.input.now.layout c.new.result.layout.now c.args.input.now.manifest c.new.result.manifest.now c.cluster-ran.result
          g.W.Write.written g.W.Write.failures c.args.out.now c.cluster-ran.new.out (ap g.O.Opener.file c.new.ensures.files) c.new.ensures.layout c.new.ensures.manifest c.cluster-ran.ensures.ran,
      c.cluster-ran.ensures.failed,
      ended,
    )) c.ending_after.ensures
