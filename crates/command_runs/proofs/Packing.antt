-- What is known was not written, as frames.
use Rattle.std.proofs.Common.{◌≡◌, inl, inr, ℕ, List, Option, Result, Ok, Err, IsErrAnd, refl, subst, sym}
use Rattle.mpi_model.specs.Layouts.{Parts}
use Rattle.trace_know.specs.View.{View}
use Rattle.trace_wire.specs.declared.fault.WireFault.TheVariants as wires
use Rattle.command_line.specs.declared.Verb.TheVariants.{Pack}
use Rattle.run_files.specs.Manifests.{ManifestParts}
use Rattle.run_inputs.specs.Files.{NamesFailed}
use Rattle.command_runs.specs.Known.{TellAll}
use Rattle.command_runs.specs.Packs.{IsUnwritten}
use Rattle.command_runs.specs.Verbs.{Ran}
use Rattle.command_runs.specs.declared.run.Outcome.{Outcome}
use Rattle.run_inputs.specs.declared.faults.fault.RunFault.{RunFault}
use Rattle.run_inputs.specs.declared.faults.fault.RunFault.TheVariants.{Memory, File, Json, Shape, PackedFrame, Layout, Text, Missing, Wrong, Place, Rank, Outside, NodeCount, Step, Worker, Net, Frame, Write}
use Rattle.run_inputs.specs.declared.faults.fault.RunFault.TheVariants as faults

-- a run whose frames were not written
pub unwritten : {W : Type 0} (file : List ℕ → Option (List ℕ)) (l : Parts) (m : ManifestParts) (view : View)
    (written : W → Option (List ℕ)) (failures : W → ℕ) (old new : W) (fault : RunFault) → TellAll file l.ranks m view
    → IsUnwritten view written failures old new fault → Ran file Pack l m (Err fault) written failures old new
unwritten file l m view written failures old new Memory tell h = inr (inl (inl refl), h)
unwritten file l m view written failures old new (File path) tell h = absurd h
unwritten file l m view written failures old new (Json path at along) tell h = absurd h
unwritten file l m view written failures old new (Shape path field) tell h = absurd h
unwritten file l m view written failures old new (faults.Piece path) tell h = absurd h
unwritten file l m view written failures old new (faults.Packed path) tell h = absurd h
unwritten file l m view written failures old new (PackedFrame cause path frame) tell h = absurd h
unwritten file l m view written failures old new (Layout broken path) tell h = absurd h
unwritten file l m view written failures old new (Text cause path line) tell h = absurd h
unwritten file l m view written failures old new (Missing parameter path line) tell h = absurd h
unwritten file l m view written failures old new (Wrong parameter path line) tell h = absurd h
unwritten file l m view written failures old new (Place path) tell h = absurd h
unwritten file l m view written failures old new (Rank path) tell h = absurd h
unwritten file l m view written failures old new Outside tell h = absurd h
unwritten file l m view written failures old new NodeCount tell h = absurd h
unwritten file l m view written failures old new (Step broken step) tell h = absurd h
unwritten file l m view written failures old new Worker tell h = absurd h
unwritten file l m view written failures old new Net tell h = absurd h
unwritten file l m view written failures old new (Frame wires.Memory) tell h = absurd h
unwritten file l m view written failures old new (Frame wires.Read) tell h = absurd h
unwritten file l m view written failures old new (Frame wires.Write) tell h = absurd h
unwritten file l m view written failures old new (Frame wires.Magic) tell h = absurd h
unwritten file l m view written failures old new (Frame wires.Version) tell h = absurd h
unwritten file l m view written failures old new (Frame wires.Length) tell h = inr (inr (refl, (view, tell, h.0)), h.1)
unwritten file l m view written failures old new (Frame wires.Short) tell h = absurd h
unwritten file l m view written failures old new (Frame wires.Order) tell h = absurd h
unwritten file l m view written failures old new (Frame wires.Content) tell h = absurd h
unwritten file l m view written failures old new (Frame wires.Rest) tell h = absurd h
unwritten file l m view written failures old new Write tell h = inl (refl, ((h.0.0, (view, tell, h.0.1), h.0.2), h.1))

-- ..as it is handed on
pub run_unwritten : {W : Type 0} (file : List ℕ → Option (List ℕ)) (l : Parts) (m : ManifestParts) (view : View)
    (written : W → Option (List ℕ)) (failures : W → ℕ) (old new : W) (r : Result Outcome RunFault) (fault : RunFault) → IsErrAnd r (λ e. e ≡ fault) → TellAll file l.ranks m view
    → IsUnwritten view written failures old new fault → Ran file Pack l m r written failures old new
run_unwritten file l m view written failures old new (Ok outcome) fault is tell h = absurd is
run_unwritten file l m view written failures old new (Err e) fault is tell h =
    unwritten file l m view written failures old new e tell (subst (IsUnwritten view written failures old new) (sym is) h)

pub unwritten_untold : {W : Type 0} (fails : Type 0) (view : View) (written : W → Option (List ℕ)) (failures : W → ℕ) (old new : W) (fault : RunFault) → IsUnwritten view written failures old new fault → NamesFailed fails fault
unwritten_untold fails view written failures old new fault h path line e = absurd (subst (IsUnwritten view written failures old new) e h)
