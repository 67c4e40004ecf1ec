-- What holds of a node as more is known, and its answer is made anew.
use Rattle.std.proofs.Common.{◌≡◌, ◌↔◌, ℕ, Bool, false, IsTrue, Result, Ok, Err, OnOk, Option, Some, None, sym, subst}
use Rattle.std.specs.Prelude.{IfSome, is_err}
use Rattle.mpi_model.specs.Layouts.{Parts}
use Rattle.trace_know.specs.Cell.{join_cell}
use Rattle.trace_know.specs.View.{View, IsBelow, cell, join}
use Rattle.trace_node.specs.Answer.{Answered, IsAnswer}
use Rattle.trace_node.specs.Following.{IsFollowing, IsNode}
use Rattle.trace_node.specs.Node.{IsWithin}
use Rattle.trace_node.specs.declared.follow.Followed.{Followed}
use Rattle.trace_node.proofs.Follows.{follows_further}
use Rattle.trace_node.proofs.Within.{within_join}

-- what holds on Ok, where the answer is no error
pub on_ok : {X E : Type 0} (P : Type 0) (r : Result X E) → is_err r ≡ false → OnOk r P → P
on_ok P (Ok x) ok p = p
on_ok P (Err e) ok p = absurd (cc)

-- a test that failed
pub not_so : (b : Bool) (P : Type 0) → IsTrue b ↔ P → b ≡ false → P → ⊥
not_so b P test fails p = let e = test.1 p in cc

-- An index that follows what is known follows all that is known once more was joined.
pub follows_join : (layout : Parts) (know more later : View) (followed : Option Followed) → ((old : View) → IsBelow old know → IsBelow old (join know more)) → later ≡ join know more →
    IfSome followed (IsFollowing layout know) → IfSome followed (IsFollowing layout later)
follows_join layout know more later None further e is = tt
follows_join layout know more later (Some f) further e is = subst (λ (v : View). IsFollowing layout v f) (sym e) (follows_further layout know (join know more) f further is)

-- a node without an answer
pub stale_node : (layout : Parts) (know : View) (followed : Option Followed) (answer : Option Answered) →
    IsWithin layout know → IfSome followed (IsFollowing layout know) → answer ≡ None → IsNode layout know followed answer
stale_node layout know followed answer within follows none = record {
  within = within;
  follows = follows;
  answers = subst (λ (o : Option Answered). IfSome o (IsAnswer layout know)) (sym none) tt;
}

-- a node without an answer once more was joined, that lies within its layout too
pub joined_node : (layout : Parts) (know more later : View) (followed : Option Followed) (answer : Option Answered) →
    ((old : View) → IsBelow old know → IsBelow old (join know more)) →
    ((rank place : ℕ) → cell (join know more) rank place ≡ join_cell (cell know rank place) (cell more rank place)) →
    IsWithin layout know → IfSome followed (IsFollowing layout know) → IsWithin layout more → later ≡ join know more → answer ≡ None → IsNode layout later followed answer
joined_node layout know more later followed answer further cells within follows piece new none =
    let joined = within_join layout know more cells within piece in
    stale_node layout later followed answer (subst (λ (v : View). IsWithin layout v) (sym new) joined) (follows_join layout know more later followed further new follows) none
