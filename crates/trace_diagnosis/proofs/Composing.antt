-- The parts of a diagnosis put together.
use Rattle.std.proofs.Common.{◌≡◌, ◌∙◌, ℕ, Bool, List, Option, Result, Ok, Err, ap, map, subst}
use Rattle.std.specs.Prelude.{IfOk}
use Rattle.mpi_model.specs.Layouts.{Parts}
use Rattle.trace_know.specs.View.{View}
use Rattle.trace_ops.specs.Ops.{Ops}
use Rattle.trace_pair.specs.declared.pair.Pair.{Pair}
use Rattle.trace_stuck.specs.Shape.{Wait}
use Rattle.trace_wait.specs.Conditions.{run_of}
use Rattle.trace_wait.specs.declared.round.Round.{Round}
use Rattle.trace_diagnosis.specs.Conditions.{Asker, conditions, does_wait, has_gone_on}
use Rattle.trace_diagnosis.specs.Holding.{is_held}
use Rattle.trace_diagnosis.specs.Roots.{HaveRoots}
use Rattle.trace_diagnosis.specs.Unmatched.{IsUnmatched}
use Rattle.trace_diagnosis.specs.Waiting.{IsWaiting, held_in, held_told}
use Rattle.diagnosis_value.specs.declared.diagnosis.Unmatched.{Unmatched}
use Rattle.diagnosis_value.specs.declared.diagnosis.Waiting.{Waiting}

-- two facts of what came out make a third
pub both : {X E : Type 0} (r : Result X E) {P Q T : X → Type 0} → IfOk r P → IfOk r Q → ((x : X) → P x → Q x → T x) → IfOk r T
both (Ok x) p q f = f x p q
both (Err e) p q f = p

-- three facts make a fourth
pub three : {X E : Type 0} (r : Result X E) {P Q S T : X → Type 0} → IfOk r P → IfOk r Q → IfOk r S → ((x : X) → P x → Q x → S x → T x) → IfOk r T
three (Ok x) p q s f = f x p q s
three (Err e) p q s f = p

-- the conditions that these give
abbrev pub given : Parts → View → List Bool → List Pair → List Round → List Ops → List Asker → List ℕ → ℕ → List (Option Wait)
given layout view cut pairs rounds ops askers stuck ranks = conditions (run_of layout ops pairs rounds) askers (has_gone_on view cut stuck) ranks

pub given_same : (layout : Parts) (view : View) (cut : List Bool) (pairs : List Pair) (rounds : List Round) (ops os : List Ops) (askers asks : List Asker) (stuck st : List ℕ) (ranks n : ℕ)
    → ops ≡ os → askers ≡ asks → stuck ≡ st → ranks ≡ n → given layout view cut pairs rounds ops askers stuck ranks ≡ given layout view cut pairs rounds os asks st n
given_same layout view cut pairs rounds ops os askers asks stuck st ranks n a b c d =
    ap (λ (x : List Ops). given layout view cut pairs rounds x askers stuck ranks) a
    ∙ ap (λ (x : List Asker). given layout view cut pairs rounds os x stuck ranks) b
    ∙ ap (λ (x : List ℕ). given layout view cut pairs rounds os asks x ranks) c
    ∙ ap (λ (x : ℕ). given layout view cut pairs rounds os asks st x) d

-- what is told of who waits, by other names of the same
pub waiting_same : (able : List Bool) (ranks n : ℕ) (ws us : List (Option Wait)) (told : Waiting) → ranks ≡ n → ws ≡ us → map held_told told.held.items ≡ held_in ws ranks → HaveRoots able ranks ws told.roots.items
    → IsWaiting able n us told
waiting_same able ranks n ws us told e f held roots = record {
  held = held ∙ ap (λ (x : List (Option Wait)). held_in x ranks) f ∙ ap (λ (x : ℕ). held_in us x) e;
  roots = subst (λ (x : ℕ). HaveRoots able x us told.roots.items) e (subst (λ (x : List (Option Wait)). HaveRoots able ranks x told.roots.items) f roots);
}

-- what is told of messages, by other names of the same
pub unmatched_same : (layout : Parts) (ops os : List Ops) (pairs : List Pair) (askers asks : List Asker) (ws us : List (Option Wait)) (told : Unmatched) → ops ≡ os → askers ≡ asks → ws ≡ us
    → IsUnmatched layout ops pairs askers (map is_held ws) (map does_wait ws) told → IsUnmatched layout os pairs asks (map is_held us) (map does_wait us) told
unmatched_same layout ops os pairs askers asks ws us told e a f is =
    subst (λ (x : List Ops). IsUnmatched layout x pairs asks (map is_held us) (map does_wait us) told) e
    (subst (λ (x : List Asker). IsUnmatched layout ops pairs x (map is_held us) (map does_wait us) told) a
    (subst (λ (x : List (Option Wait)). IsUnmatched layout ops pairs askers (map is_held x) (map does_wait x) told) f is))
