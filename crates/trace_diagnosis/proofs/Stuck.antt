-- The stuck ranks that an answer tells rise.
use Rattle.std.proofs.Common.{◌≡◌, ◌∙◌, ℕ, List, ap, map, subst, sym}
use Rattle.std.specs.List.Sorted.{IsNonDecreasing}
use Rattle.std.proofs.lemmas.List.{map-id}
use Rattle.mpi_model.specs.Layouts.{Parts}
use Rattle.trace_know.specs.View.{View}
use Rattle.trace_node.specs.Answer.{Stopped, TellsStuck, stopped_at, waits_of}
use Rattle.trace_ops.specs.Ops.{Ops}
use Rattle.trace_diagnosis.proofs.Lists.{map_map, rises}

pub stuck_rise : (layout : Parts) (view : View) (ops : List Ops) (told : List Stopped) → TellsStuck layout view ops told → IsNonDecreasing (map (λ s. s.rank) told)
stuck_rise layout view ops told tells =
    let rank : Stopped → ℕ = λ s. s.rank in
    let e : map rank told ≡ tells.0
    = ap (map rank) tells.2 ∙ map_map rank (stopped_at view ops (waits_of layout ops)) tells.0 ∙ map-id tells.0 in
    subst (λ (l : List ℕ). IsNonDecreasing l) (sym e) (rises tells.0 tells.1.rising)
