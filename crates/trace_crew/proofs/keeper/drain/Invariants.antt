use Rattle.std.proofs.Common.{◌≡◌, ◌≤◌, List}
use Rattle.crossbeam_channel.specs.Claims.{view, IsSeatAt}
use Rattle.crossbeam_channel.specs.Ends.{receives_on}
use Rattle.mpi_model.specs.Layouts.{Parts}
use Rattle.trace_crew.specs.declared.queue.item.WorkerPost.{WorkerPost}
use Rattle.trace_crew.specs.declared.queue.rule.WorkerStanding.TheVariants.{Joined}
use Rattle.trace_crew.specs.declared.queue.rule.SeatView.TheVariants.{Owner}
use Rattle.trace_crew.specs.Views.{desk}
use Rattle.trace_crew.specs.Taking.{IsOfItems, ends_in}
use Rattle.trace_crew.proofs.keeper.drain.Given as goal

abbrev pub invariant-loop : goal.invariant-loop
invariant-loop g l = record {
  seat : IsSeatAt (receives_on l.queue) l.seat;
  taken : (before first second : List WorkerPost) → view l.fn.seat ≡ Owner (desk before (Joined first) (Joined second)) → (taken : List WorkerPost) × (view l.seat ≡ Owner (desk taken (Joined first) (Joined second)))
      × ((layout : Parts) → IsOfItems layout before (g.H.Keeper.kept l.fn.hall) → IsOfItems layout taken (g.H.Keeper.kept l.hall))
      × (ends_in before ≤ ends_in taken);
}
