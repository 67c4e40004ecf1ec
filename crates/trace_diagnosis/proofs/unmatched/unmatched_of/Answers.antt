use Rattle.std.proofs.Common.{◌∙◌, All, List, ap, filter, subst}
use Rattle.mpi_model.specs.declared.message.Message.{Message}
use Rattle.mpi_model.specs.declared.message.Receive.{Receive}
use Rattle.trace_diagnosis.specs.LeftOver.{is_told}
use Rattle.trace_diagnosis.specs.Missed.{HasNearMessages, HasNearReceives}
use Rattle.trace_diagnosis.specs.Unmatched.{is_of_waiting}
use Rattle.trace_diagnosis.proofs.unmatched.unmatched_of.Goals as goal

pub returns : goal.returns
returns c =
    let run = c.args.run.now in
    let found = c.in_ok-found.ensures in
    record {
      left_over = c.in_ok-left_over.ensures.messages ∙ ap (filter (is_told run.held.now run.waits.now)) found.left_over;
      starving = c.in_ok-starving.ensures.receives ∙ ap (filter (is_of_waiting run.waits.now)) found.starving;
      near_receives = subst (λ (l : List Receive). All (HasNearReceives l) c.in_ok-left_over.left_over.items) found.starving c.in_ok-left_over.ensures.near;
      near_messages = subst (λ (l : List Message). All (HasNearMessages l) c.in_ok-starving.starving.items) found.left_over c.in_ok-starving.ensures.near;
      unfinished = c.in_ok-unfinished.ensures;
    }
