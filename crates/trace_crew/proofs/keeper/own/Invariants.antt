use Rattle.std.proofs.Common.{◌≡◌, ◌≤◌, List}
use Rattle.crossbeam_channel.specs.Claims.{view, IsSeatAt}
use Rattle.crossbeam_channel.specs.Ends.{receives_on}
use Rattle.mpi_model.specs.Layouts.{Parts}
use Rattle.trace_crew.specs.declared.queue.item.WorkerPost.{WorkerPost}
use Rattle.trace_crew.specs.declared.queue.rule.WorkerStanding.TheVariants.{Running}
use Rattle.trace_crew.specs.declared.queue.rule.SeatView.TheVariants.{Owner}
use Rattle.trace_crew.specs.Views.{desk}
use Rattle.trace_crew.specs.Taking.{IsNew, IsOfItems, ends_in}
use Rattle.trace_crew.proofs.keeper.own.Given as goal

abbrev pub invariant-loop : goal.invariant-loop
invariant-loop g l = record {
  seat : IsSeatAt (receives_on l.queue) l.seat;
  few : l.ends ≤ 2;
  taken : (taken : List WorkerPost) × (view l.seat ≡ Owner (desk taken Running Running)) × (ends_in taken ≡ l.ends) × ((layout : Parts) → IsNew layout (g.H.Keeper.kept l.fn.hall) → IsOfItems layout taken (g.H.Keeper.kept l.hall));
}
