-- The groups of all calls, with one call more.
use Rattle.std.proofs.Common.{◌≡◌, ◌≢◌, ◌∙◌, ◌<◌, ◌≤◌, ◌⊎◌, ℕ, ◌-◌, ◌^◌, List, [], ◌∷◌, ◌++◌, Option, Some, None, length, length-append, ap, sym, subst, refl, inl, inr, arith}
use Rattle.std.specs.List.{slice_get, slice_set}
use Rattle.std.specs.Option.{option_and_then}
use Rattle.std.proofs.lemmas.Option.{slice_get_past}
use Rattle.comm_makings.specs.declared.calls.Uses.{Uses}
use Rattle.comm_calls.specs.Uses.{AreOpen, AreUses, GoesOn, IsOpen, longer, longer_at, open_after, open_with, uses_after, with_use}
use Rattle.comm_calls.proofs.Begun.{open_begun, uses_begun}
use Rattle.comm_calls.proofs.Elements.{get_below, get_last}
use Rattle.comm_calls.proofs.Groups.{More, open_changed, open_kept, quiet_behind, uses_kept}
use Rattle.comm_calls.proofs.Longer.{open_longer, uses_longer}

-- what the calls of a list say, with one more of them
pub more_at : {A : Type 0} (f : A → Option ℕ) (xs : List A) (x : A) → More (λ q. option_and_then f (slice_get xs q)) (λ q. option_and_then f (slice_get (xs ++ x ∷ []) q)) (length xs) (f x)
more_at f xs x = record {
  same = λ q h. ap (option_and_then f) (get_below xs (x ∷ []) q h);
  here = ap (option_and_then f) (get_last xs x);
  none = λ q h. ap (option_and_then f) (slice_get_past xs q h);
  past = λ q h. ap (option_and_then f) (slice_get_past (xs ++ x ∷ []) q (let len = length-append xs (x ∷ []) in omega (arith, len)));
}

-- Which groups there are behind some calls, and which go on.
pub record Standing (named changed : ℕ → Option ℕ) (groups : List Uses) (going : ℕ → Option ℕ) : Type 0 where
  pub are : AreUses named changed groups
  pub on : AreOpen changed groups going

moved : (changed : ℕ → Option ℕ) (groups groups' : List Uses) (k : ℕ) (o o' : Option ℕ) → groups' ≡ groups → o' ≡ o → IsOpen changed groups k o → IsOpen changed groups' k o'
moved changed groups groups' k o o' g e is = subst (λ (gs : List Uses). IsOpen changed gs k o') (sym g) (subst (λ (p : Option ℕ). IsOpen changed groups k p) (sym e) is)

named_more : (named named' changed changed' : ℕ → Option ℕ) (p n : ℕ) (groups groups' : List Uses) (going going' : ℕ → Option ℕ) (o : Option ℕ) → More named named' p (Some n) → More changed changed' p None → p < 2 ^ 64 - 1
    → AreUses named changed groups → AreOpen changed groups going → going n ≡ o → groups' ≡ with_use p n o groups → ((m : ℕ) → going' m ≡ open_with n o (length groups) going m) → Standing named' changed' groups' going'
named_more named named' changed changed' p n groups groups' going going' None m c few uses is e same turns = record {
  are = subst (AreUses named' changed') (sym same) (uses_begun named named' changed changed' p n groups m c uses (subst (λ (o : Option ℕ). IsOpen changed groups n o) e (is n)));
  on = λ k. moved changed' _ groups' k _ (going' k) same (turns k) (open_begun changed changed' p n k groups (going k) c (is k));
}
named_more named named' changed changed' p n groups groups' going going' (Some at) m c few uses is e same turns =
    let on : GoesOn changed groups n at = subst (λ (o : Option ℕ). IsOpen changed groups n o) e (is n) in
    let u : Uses = on.group in
    let now : groups' ≡ slice_set groups at (longer p u) = same ∙ ap (λ (o : Option Uses). longer_at p at o groups) on.is in
    let it : More named named' p (Some u.number) = subst (λ (k : ℕ). More named named' p (Some k)) (sym on.same) m in
    let still : (q : ℕ) → u.first ≤ q → changed q ≢ Some u.number = λ q low h. on.still q low (h ∙ ap Some on.same) in
    let quiet : (q : ℕ) → u.last < q → named q ≢ Some u.number = λ q above h. quiet_behind named changed groups n at q uses on above (h ∙ ap Some on.same) in
    record {
      are = subst (AreUses named' changed') (sym now) (uses_longer named named' changed changed' p at groups u it c few uses on.is still quiet);
      on = λ k. moved changed' (slice_set groups at (longer p u)) groups' k (going k) (going' k) now (turns k)
          (open_longer changed changed' p at k groups u (going k) c on.is still (λ h. ap going (sym h ∙ on.same) ∙ e) (is k));
    }

pub standing_more : (named named' changed changed' : ℕ → Option ℕ) (p : ℕ) (x y : Option ℕ) (groups groups' : List Uses) (going going' : ℕ → Option ℕ) → (x ≡ None) ⊎ (y ≡ None) → More named named' p x → More changed changed' p y → p < 2 ^ 64 - 1
    → AreUses named changed groups → AreOpen changed groups going → groups' ≡ uses_after p x going groups → ((m : ℕ) → going' m ≡ open_after x y (length groups) going m) → Standing named' changed' groups' going'
standing_more named named' changed changed' p None None groups groups' going going' either m c few uses is same turns = record {
  are = subst (AreUses named' changed') (sym same) (uses_kept named named' changed changed' p None groups m c uses);
  on = λ k. moved changed' groups groups' k (going k) (going' k) same (turns k) (open_kept changed changed' p None groups k (going k) c (λ e. absurd (cc)) (is k));
}
standing_more named named' changed changed' p None (Some n) groups groups' going going' either m c few uses is same turns = record {
  are = subst (AreUses named' changed') (sym same) (uses_kept named named' changed changed' p (Some n) groups m c uses);
  on = λ k. moved changed' groups groups' k _ (going' k) same (turns k) (open_changed named named' changed changed' p n None groups k (going k) m c uses (is k));
}
standing_more named named' changed changed' p (Some n) None groups groups' going going' either m c few uses is same turns =
    named_more named named' changed changed' p n groups groups' going going' (going n) m c few uses is refl same turns
standing_more named named' changed changed' p (Some n) (Some k) groups groups' going going' either m c few uses is same turns =
    elim either [ inl e ↦ absurd (cc) | inr e ↦ absurd (cc) ]
