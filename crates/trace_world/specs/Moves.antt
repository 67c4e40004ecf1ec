-- What a node makes of more knowledge, among the nodes of a world.
use Rattle.std.specs.Prelude.{◌≡◌, ℕ, Bool, true, false, Result, Ok, Err, List, length, slice_set, slice_index_or}
use Rattle.std.specs.FinMap.{empty}
use Rattle.trace_know.specs.View.{View, join}
use Rattle.trace_node.specs.Node.{Held}
use Rattle.trace_world.specs.declared.step.WorldFault.{WorldFault}
use Rattle.trace_world.specs.declared.step.WorldFault.TheVariants.{NoNode, NoMail, EmptyInbox, Rank, FrameLength, Stale, NodeCount, Memory}
use Rattle.trace_world.specs.Shows.{knows}
use Rattle.trace_world.specs.Refusals.{stale}
use Rattle.trace_world.specs.Worlds.{layouts}

-- one view of many joined with more
abbrev pub joined : List View → ℕ → View → List View
joined known node more = slice_set known node (join (slice_index_or known node empty) more)

-- One node has an answer then, or none; the others have or lack theirs as before.
abbrev pub StaleAt : List Held → ℕ → Bool → List Held → Type 0
StaleAt old node is_stale new = stale new ≡ slice_set (stale old) node is_stale

-- One node joined more, and then has an answer or none; nothing else has changed.
pub record Joined (old : List Held) (node : ℕ) (more : View) (is_stale : Bool) (new : List Held) : Type 0 where
  pub knows : knows new ≡ joined (knows old) node more
  pub stale : StaleAt old node is_stale new
  pub layouts : layouts new ≡ layouts old

-- One node is given more, and makes no answer. It has one then only if it had one before. No refusal but for want of
-- memory comes, and then nothing has changed.
abbrev pub Holds : List Held → ℕ → View → Result (Unit {0}) WorldFault → List Held → Type 0
Holds old node more (Ok done) new = (is_stale : Bool) × Joined old node more is_stale new × (is_stale ≡ false → slice_index_or (stale old) node true ≡ false)
Holds old node more (Err Memory) new = new ≡ old
Holds old node more (Err Stale) new = ⊥
Holds old node more (Err NoNode) new = ⊥
Holds old node more (Err NoMail) new = ⊥
Holds old node more (Err EmptyInbox) new = ⊥
Holds old node more (Err Rank) new = ⊥
Holds old node more (Err FrameLength) new = ⊥
Holds old node more (Err NodeCount) new = ⊥

-- The nodes know the same, for the same layouts.
pub record SameKnown (old new : List Held) : Type 0 where
  pub knows : knows new ≡ knows old
  pub layouts : layouts new ≡ layouts old
  pub count : length new ≡ length old
