-- How sure the pairs of an answer are.
use Rattle.mpi_model.specs.Layouts.{Parts}
use Rattle.trace_know.specs.View.{View}
use Rattle.trace_ops.specs.RankOps.{all_ops}
use Rattle.trace_pair.specs.Certainty.{AreAllSettled, AreCertain, AreLegal, AreNoneAfter, AreTheOnlyLegal}
use Rattle.trace_node.specs.Answer.{Answered, IsAnswer}

-- The pairs of every answer are certain.
abbrev pub AnswersAreCertain : Type 0
AnswersAreCertain = (layout : Parts) (view : View) (a : Answered) → IsAnswer layout view a → AreCertain (all_ops layout view) a.pairs

-- Where all is settled, and no message of a pair comes after its receive, the pairs of an answer are a legal matching.
abbrev pub AnswersAreLegal : Type 0
AnswersAreLegal = (layout : Parts) (view : View) (a : Answered) → IsAnswer layout view a → AreAllSettled (all_ops layout view)
    → AreNoneAfter (all_ops layout view) a.pairs → AreLegal (all_ops layout view) a.pairs

-- Where all is settled, every legal matching is within the pairs of an answer.
abbrev pub AnswersAreTheOnlyLegal : Type 0
AnswersAreTheOnlyLegal = (layout : Parts) (view : View) (a : Answered) → IsAnswer layout view a → AreAllSettled (all_ops layout view)
    → AreTheOnlyLegal (all_ops layout view) a.pairs
