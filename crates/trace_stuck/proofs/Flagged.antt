-- Flags, one after another, and lists of edges that end.
use Rattle.std.proofs.Common.{◌≡◌, ℕ, zero, suc, ◌+◌, ◌<◌, ◌≤◌, Bool, true, false, List, [], ◌∷◌, ◌++◌, ◌⊎◌, ⊎_elim, refl, sym, ◌∙◌, ap, subst, arith, length, Vec, Global}
use Rattle.trace_stuck.specs.Named.{at_rank}
use Rattle.trace_stuck.specs.Graph.{is_up}

pub at_past : (lists : List (Vec ℕ Global)) (s : ℕ) → length lists ≤ s → at_rank lists s ≡ []
at_past [] s h = refl
at_past (a ∷ lists) zero h = absurd (omega arith)
at_past (a ∷ lists) (suc s) h = at_past lists s (omega arith)

up_front : (flags : List Bool) (b : Bool) (x : ℕ) → x < length flags → is_up (flags ++ b ∷ []) x ≡ is_up flags x
up_front [] b x lt = absurd (omega arith)
up_front (f ∷ flags) b zero lt = refl
up_front (f ∷ flags) b (suc x) lt = up_front flags b x (omega arith)

up_last : (flags : List Bool) (b : Bool) → is_up (flags ++ b ∷ []) (length flags) ≡ b
up_last [] b = refl
up_last (f ∷ flags) b = up_last flags b

-- what holds of each flag, and of one more
pub flags_push : (P : ℕ → Bool → Type 0) (flags : List Bool) (b : Bool) (n : ℕ) → n ≡ length flags → ((x : ℕ) → x < n → P x (is_up flags x)) → P n b →
    (x : ℕ) → x < n + 1 → P x (is_up (flags ++ b ∷ []) x)
flags_push P flags b n e all one x lt = ⊎_elim
    (λ (h : x < n). subst (λ (c : Bool). P x c) (sym (up_front flags b x (omega arith))) (all x h))
    (λ (h : n ≡ x). subst (λ (z : ℕ). P z (is_up (flags ++ b ∷ []) z)) h
    (subst (λ (c : Bool). P n c) (sym (ap (λ (k : ℕ). is_up (flags ++ b ∷ []) k) e ∙ up_last flags b)) one))
    (split x n lt)
  where
    split : (x n : ℕ) → x < n + 1 → (x < n) ⊎ (n ≡ x)
    split x n lt = grind arith

pub up_past : (flags : List Bool) (x : ℕ) → length flags ≤ x → is_up flags x ≡ false
up_past [] x h = refl
up_past (f ∷ flags) zero h = absurd (omega arith)
up_past (f ∷ flags) (suc x) h = up_past flags x (omega arith)

pub below_or_past : (x n : ℕ) → (x < n) ⊎ (n ≤ x)
below_or_past x n = grind arith
