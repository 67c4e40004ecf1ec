-- What a node knows since it joined a mail: a second delivery of the mail adds nothing.
use Rattle.std.specs.Prelude.{◌≡◌, ℕ, ◌<◌, Bool, true, false, List, [], length, slice_index_or}
use Rattle.std.specs.BTreeSet.{contains}
use Rattle.std.specs.FinMap.{empty, entries}
use Rattle.std.specs.Ordering.{nat_cmp}
use Rattle.trace_know.specs.View.{View, join}
use Rattle.trace_node.specs.Node.{Held}
use Rattle.trace_wire.specs.Frames.{frame_of, HasFrame}
use Rattle.trace_world.specs.Shows.{knows}
use Rattle.trace_world.specs.declared.heard.Heard.{Heard}

-- whether a mail is among those that a node has joined
abbrev pub has : Heard → ℕ → Bool
has heard mail = contains nat_cmp heard.mails mail

-- The mail is there, and it tells nothing that isn't known.
abbrev pub IsHeard : List (List ℕ) → View → ℕ → Type 0
IsHeard mails know mail = (mail < length mails) × ((view : View) → slice_index_or mails mail [] ≡ frame_of view → HasFrame (entries view) → join know view ≡ know)

-- Of each node mails are noted that tell nothing that it doesn't know.
pub record AreHeard (nodes : List Held) (mails : List (List ℕ)) (heard : List Heard) : Type 0 where
  pub each : length heard ≡ length nodes
  pub known : (node mail : ℕ) (other : Heard) → node < length heard → has (slice_index_or heard node other) mail ≡ true → IsHeard mails (slice_index_or (knows nodes) node empty) mail

-- Of so many nodes no mail is noted.
pub record AreUnheard (count : ℕ) (heard : List Heard) : Type 0 where
  pub each : length heard ≡ count
  pub none : (node mail : ℕ) (other : Heard) → node < length heard → has (slice_index_or heard node other) mail ≡ false
