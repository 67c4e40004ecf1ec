-- Past the places of a trace nothing is known.
use Rattle.std.proofs.Common.{◌≡◌, ℕ, ◌*◌, ◌-◌, ◌^◌, ◌<◌, ◌≤◌, min, Option, Some, None, refl, sym, ◌∙◌, ap, arith, ⊎_elim}
use Rattle.std.proofs.lemmas.Bool.{cases_order}
use Rattle.trace_know.specs.declared.cell.Known.{Known}
use Rattle.trace_know.specs.Placed.{IsKnowledge}
use Rattle.trace_know.specs.Prefix.{event_of, event_at}
use Rattle.trace_know.specs.View.{View, cell}

far_cell : (view : View) → IsKnowledge view → (rank place : ℕ) → 2 ^ 40 ≤ place → (o : Option Known) → cell view rank place ≡ o → o ≡ None
far_cell view is rank place far None e = refl
far_cell view is rank place far (Some known) e = absurd (let at = (is.placed rank place known e).places in omega (arith, at, far))

far : (view : View) → IsKnowledge view → (rank place : ℕ) → 2 ^ 40 ≤ place → event_at view rank place ≡ None
far view is rank place le = ap event_of (far_cell view is rank place le (cell view rank place) refl)

-- a place that stays at the end of its type is as good as one behind it
pub saturated : (view : View) → IsKnowledge view → (rank call place : ℕ) → place ≡ min (call * 2) (2 ^ 64 - 1) → event_at view rank place ≡ event_at view rank (2 * call)
saturated view is rank call place e =
    ⊎_elim (λ (s : place ≡ 2 * call). ap (event_at view rank) s)
    (⊎_elim
    (λ (below : place < 2 * call). far view is rank place (omega (arith, e, below)) ∙ sym (far view is rank (2 * call) (omega (arith, e, below))))
    (λ (above : 2 * call < place). absurd (omega (arith, e, above))))
    (cases_order place (2 * call))
