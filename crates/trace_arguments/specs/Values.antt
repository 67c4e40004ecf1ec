-- What is known of the members of a round.
use Rattle.std.specs.Prelude.{◌+◌, ◌==◌, ℕ, Bool, false, List, [], ◌∷◌, ◌++◌, Option, Some, None, option_and_then, option_map, option_to_list, slice_get, if◌then◌else◌}
use Rattle.mpi_model.specs.Layouts.{Parts}
use Rattle.call_arguments.specs.Known.{KnownParts, ToldParts}
use Rattle.call_arguments.specs.declared.table.Line.{Line}
use Rattle.call_arguments.specs.declared.table.Line.TheVariants as lines
use Rattle.trace_ops.specs.Ops.{Ops}
use Rattle.trace_ops.specs.declared.entered.Entered.{Entered}
use Rattle.trace_stuck.specs.declared.condition.RoundName.{RoundName}
use Rattle.trace_wait.specs.Ranks.{ops_of}
use Rattle.trace_wait.specs.Rounds.{group, on_comm}
use Rattle.trace_arguments.specs.Calls.{told_at}
use Rattle.trace_arguments.specs.declared.calls.CallsTold.{CallsTold}
use Rattle.trace_arguments.specs.declared.disagreement.Comparison.{Comparison}

-- the call by which a rank entered a round, where it has
abbrev pub entered_at : List Ops → RoundName → ℕ → Option Entered
entered_at ops round rank = slice_get (on_comm round.object (ops_of ops rank).rounds) round.k

-- the member at this place of the group is the root
abbrev pub is_root : Option ℕ → ℕ → Bool
is_root None place = false
is_root (Some root) place = root == place

-- what a line compares of what a call tells: the root may have others
abbrev pub told_in : Line → Bool → ToldParts → Option KnownParts
told_in lines.Operation root told = told.operation
told_in lines.Alike root told = told.counts
told_in lines.Rooted root told = if root then told.at_root else told.counts
told_in lines.Listed root told = if root then told.at_root else told.counts

-- What is known of a member that has entered a round: its place in the group, from 0, its rank, its call, and the value.
pub record ValuedParts : Type 0 where
  pub place : ℕ
  pub rank : ℕ
  pub call : ℕ
  pub known : KnownParts

abbrev pub valued : ℕ → ℕ → ℕ → KnownParts → ValuedParts
valued place rank call known = record { place = place; rank = rank; call = call; known = known }

-- what a call of a member tells
abbrev pub told_by : CallsTold → Comparison → ℕ → ℕ → ℕ → Option ValuedParts
told_by calls c place rank call =
    option_and_then (λ told. option_map (valued place rank call) (told_in c.line (is_root c.root place) told)) (told_at calls rank call)

-- what is known of the member at a place of the group, where it has entered the round
abbrev pub valued_at : List Ops → CallsTold → Comparison → ℕ → ℕ → Option ValuedParts
valued_at ops calls c place rank = option_and_then (λ entered. told_by calls c place rank entered.call) (entered_at ops c.round rank)

-- what is known of the members from a place on
abbrev pub values_from : List Ops → CallsTold → Comparison → ℕ → List ℕ → List ValuedParts
values_from ops calls c place [] = []
values_from ops calls c place (rank ∷ ranks) = option_to_list (valued_at ops calls c place rank) ++ values_from ops calls c (place + 1) ranks

-- what is known of all members, in group order
abbrev pub values_of : Parts → List Ops → CallsTold → Comparison → List ValuedParts
values_of layout ops calls c = values_from ops calls c 0 (group layout.comms c.round.object)
