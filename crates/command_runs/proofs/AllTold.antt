-- All that the pieces of a manifest tell, and why they are refused.
use Rattle.std.proofs.Common.{◌≡◌, ◌∙◌, ◌⊎◌, ℕ, List, Option, Result, Ok, Err, IfOk, ap, inl, inr, subst}
use Rattle.std.specs.FinMap.{empty}
use Rattle.std.specs.List.{All}
use Rattle.mpi_model.specs.Layouts.{Parts}
use Rattle.trace_know.specs.View.{View, join}
use Rattle.trace_node.specs.Answer.{Answered, IsAnswer}
use Rattle.run_files.specs.Manifests.{ManifestParts, PieceParts}
use Rattle.command_runs.specs.Known.{TellAll}
use Rattle.command_runs.specs.Nodes.{AnswersAll}
use Rattle.command_runs.specs.Packed.{RefusesFirstPacked, TellPacked}
use Rattle.command_runs.specs.Refusals.{RefusesNamed, RefusesPieces}
use Rattle.command_runs.specs.Traces.{IsInside, IsKnown}
use Rattle.run_inputs.specs.declared.faults.fault.RunFault.{RunFault}
use Rattle.run_inputs.specs.declared.faults.fault.RunFault.TheVariants.{Memory}

pub packed_named : (file : List ℕ → Option (List ℕ)) (ranks : ℕ) (m : ManifestParts) (fault : RunFault) → (fault ≡ Memory) ⊎ RefusesFirstPacked file ranks m.packed fault
    → RefusesNamed file ranks m fault
packed_named file ranks m fault (inl e) = inl e
packed_named file ranks m fault (inr h) = inr (inl h)

pub texts_named : (file : List ℕ → Option (List ℕ)) (ranks : ℕ) (m : ManifestParts) (packed : View) (fault : RunFault) → TellPacked file ranks m.packed packed
    → RefusesPieces file ranks m.pieces fault → RefusesNamed file ranks m fault
texts_named file ranks m packed fault tell h = inr (inr ((packed, tell), h))

-- what packed files tell and what texts do, joined
pub all_told : (file : List ℕ → Option (List ℕ)) (ranks : ℕ) (m : ManifestParts) (packed texts view : View) → TellPacked file ranks m.packed packed
    → IsKnown file m.pieces texts → All (IsInside file ranks) m.pieces → view ≡ join packed texts → TellAll file ranks m view
all_told file ranks m packed texts view tell known inside e = (packed, known.0, tell, known.1, inside, e ∙ ap (join packed) known.2)

-- an answer to what texts tell, where there are no packed files
pub answers_all : {E : Type 0} (file : List ℕ → Option (List ℕ)) (l : Parts) (m : ManifestParts) (pieces : List PieceParts) (r : Result Answered E) → TellPacked file l.ranks m.packed empty
    → pieces ≡ m.pieces → ((view : View) → view ≡ join empty view) → IfOk r (λ a. (view : View) × IsKnown file pieces view × IsAnswer l view a)
    → IfOk r (λ a. All (IsInside file l.ranks) pieces) → IfOk r (AnswersAll file l m)
answers_all file l m pieces (Ok a) tell are same h inside =
    let known : IsKnown file m.pieces h.0 = subst (λ (ps : List PieceParts). IsKnown file ps h.0) are h.1 in
    let all : All (IsInside file l.ranks) m.pieces = subst (λ (ps : List PieceParts). All (IsInside file l.ranks) ps) are inside in
    (h.0, all_told file l.ranks m empty h.0 h.0 tell known all (same h.0), h.2)
answers_all file l m pieces (Err e) tell are same h inside = tt
