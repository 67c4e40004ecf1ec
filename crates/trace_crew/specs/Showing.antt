-- What is shown to a caller.
use Rattle.std.specs.Prelude.{◌≡◌}
use Rattle.mpi_model.specs.Layouts.{Parts}
use Rattle.trace_know.specs.View.{View}
use Rattle.trace_node.specs.Answer.{Answered, IsAnswer}
use Rattle.trace_node.specs.Node.{Held}

-- What is shown: a layout, what is known of its run, and what is answered to that.
pub record Showing : Type 0 where
  pub layout : Parts
  pub know : View
  pub answer : Answered

-- What is shown is the node's: its layout, its knowledge and the answer to that.
pub record IsOf (node : Held) (s : Showing) : Type 0 where
  pub layout : s.layout ≡ node.layout
  pub know : s.know ≡ node.know
  pub answer : IsAnswer node.layout node.know s.answer
