use Rattle.std.proofs.Common.{◌≡◌, ◌∙◌, Option, Some, None, ap}
use Rattle.mpi_model.specs.declared.message.Receive.{Receive}
use Rattle.trace_pair.specs.Waiting.{Takings, taker_at}
use Rattle.trace_pair.proofs.Settling.{receive_there, none_there}
use Rattle.trace_pair.proofs.batch.Batch.receive_of.Goals as goal

pub returns-in-Some : goal.returns-in-Some
returns-in-Some c = λ after ms qs s e.
    ap (λ (q : Receive). Some q) c.receive_by.ensures
    ∙ receive_there after ms qs c.args.self.now s c.args.place c.args.m.now c.in-Some.taker e (c.in-Some.ensures ∙ ap (λ (t : Takings). taker_at t c.args.place) c.requires)

pub returns-in-None : goal.returns-in-None
returns-in-None c = λ after ms qs s e. none_there after ms qs c.args.self.now s c.args.place c.args.m.now e (c.in-None.ensures ∙ ap (λ (t : Takings). taker_at t c.args.place) c.requires)
