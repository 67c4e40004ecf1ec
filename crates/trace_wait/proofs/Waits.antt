-- A rank that doesn't wait has no condition.
use Rattle.std.proofs.Common.{◌≡◌, ℕ, zero, suc, ◌<◌, Bool, true, false, List, [], ◌∷◌, None, Some, get_or, refl, sym, ◌∙◌, ap, arith, length}
use Rattle.std.specs.Prelude.{Option, is_some, ◌||◌}
use Rattle.std.specs.Option.{option_map}
use Rattle.mpi_model.specs.declared.call.Call.{Call}
use Rattle.trace_ops.specs.Ops.{Ops}
use Rattle.trace_wait.specs.Parts.{Run}
use Rattle.trace_wait.specs.Conditions.{condition_of, does_one_wait, waits_for}

neither : (a b : Bool) → (a || b) ≡ false → (a ≡ false) × (b ≡ false)
neither true b h = absurd (cc)
neither false b h = (refl, h)

is_none_at : {X : Type 0} (x : Option X) → is_some x ≡ false → x ≡ None
is_none_at None h = refl
is_none_at (Some x) h = absurd (cc)

waits_not : (ops : List Ops) (i : ℕ) (d : Ops) → does_one_wait ops ≡ false → i < length ops → (get_or ops i d).waiting ≡ None
waits_not [] i d h lt = absurd (omega arith)
waits_not (o ∷ ops) zero d h lt = is_none_at o.waiting (neither (is_some o.waiting) (does_one_wait ops) h).0
waits_not (o ∷ ops) (suc i) d h lt = waits_not ops i d (neither (is_some o.waiting) (does_one_wait ops) h).1 (omega (arith, lt))

pub no_condition_at : (run : Run) (ops : List Ops) (i : ℕ) (o : Ops) → does_one_wait ops ≡ false → i < length ops → o ≡ get_or ops i o → None ≡ condition_of run i o
no_condition_at run ops i o h lt is =
    sym (ap (option_map (λ (w : ℕ × Call). waits_for run i o w.0 w.1)) (ap (λ (p : Ops). p.waiting) is ∙ waits_not ops i o h lt))
