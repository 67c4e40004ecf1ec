-- The rounds in which arguments don't agree (MPI 4.0, 6.1 and 6.9).
use Rattle.std.specs.Prelude.{◌≡◌, ℕ, Bool, List, [], ◌∷◌, Option, All, filter, map, if◌then◌else◌}
use Rattle.std.specs.List.{flat_map}
use Rattle.std.specs.List.Sorted.{IsNonDecreasingBy, IsPermutation}
use Rattle.mpi_model.specs.Communicators.{is_intercomm}
use Rattle.mpi_model.specs.Kinds.{KindFunction}
use Rattle.mpi_model.specs.Layouts.{Parts}
use Rattle.call_arguments.specs.Table.{compared_of, lines_of}
use Rattle.call_arguments.specs.declared.table.Line.{Line}
use Rattle.trace_ops.specs.Ops.{Ops}
use Rattle.trace_stuck.specs.declared.condition.RoundName.{RoundName}
use Rattle.trace_wait.specs.declared.round.Round.{Round}
use Rattle.trace_wait.specs.declared.round.Standing.{Standing}
use Rattle.trace_wait.specs.declared.round.Standing.TheVariants.{Mismatched, Complete, Partial}
use Rattle.trace_arguments.specs.declared.calls.CallsTold.{CallsTold}
use Rattle.trace_arguments.specs.Differing.{differ}
use Rattle.trace_arguments.specs.Groups.{groups_of}
use Rattle.trace_arguments.specs.Values.{ValuedParts, values_of}
use Rattle.trace_arguments.specs.declared.disagreement.Comparison.{Comparison}
use Rattle.trace_arguments.specs.declared.disagreement.Disagreement.{Disagreement}

-- a line asked of a round
abbrev pub comparison : RoundName → Option ℕ → Line → Comparison
comparison round root line = record { round = round; root = root; line = line }

-- What is told first: the comparison, and the function of its round.
pub record Heading : Type 0 where
  pub comparison : Comparison
  pub function : KindFunction

abbrev pub headed : KindFunction → Comparison → Heading
headed function c = record { comparison = c; function = function }

-- that of a disagreement
abbrev pub heading_of : Disagreement → Heading
heading_of d = headed d.function d.comparison

-- known values differ in a comparison
abbrev pub is_told : Parts → List Ops → CallsTold → Comparison → Bool
is_told layout ops calls c = differ c (values_of layout ops calls c)

-- the lines of a round in which they do
abbrev pub told_of : Parts → List Ops → CallsTold → RoundName → KindFunction → Option ℕ → List Heading
told_of layout ops calls round function root =
    map (headed function) (filter (is_told layout ops calls) (map (comparison round root) (lines_of (compared_of function.kind))))

-- the name of a round
abbrev pub name_of : Round → RoundName
name_of round = record { object = round.comm; k = round.k }

-- The same of a round: calls that don't match aren't compared, nor those on an intercommunicator, where what a group
-- gives is what the other one gets (MPI 4.0, 6.2.2).
abbrev pub told_in : Parts → List Ops → CallsTold → Round → List Heading
told_in layout ops calls round = if is_intercomm layout.comms round.comm then [] else by round.standing
  where
    by : Standing → List Heading
    by Mismatched = []
    by (Complete function root) = told_of layout ops calls (name_of round) function root
    by (Partial function root entered members) = told_of layout ops calls (name_of round) function root

-- The groups are those of the members in the order of their ranks.
pub record HasGroups (layout : Parts) (ops : List Ops) (calls : CallsTold) (told : Disagreement) : Type 0 where
  pub sorted : List ValuedParts
  pub all : IsPermutation (values_of layout ops calls told.comparison) sorted
  pub rising : IsNonDecreasingBy (λ v. v.rank) sorted
  pub groups : told.groups.items ≡ groups_of told.comparison sorted

-- Each round and line in which known values differ is told once, in the order of the rounds, with its groups; and no other.
pub record AreTold (layout : Parts) (ops : List Ops) (calls : CallsTold) (rounds : List Round) (told : List Disagreement) : Type 0 where
  pub headings : map heading_of told ≡ flat_map (told_in layout ops calls) rounds
  pub groups : All (HasGroups layout ops calls) told
