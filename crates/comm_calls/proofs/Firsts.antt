-- A list of which some item may not be read: what was found so far, in front of what the rest gives.
use Rattle.std.proofs.Common.{◌≡◌, ℕ, ℤ, ◌+◌, ◌<◌, ◌++◌, List, [], ◌∷◌, Option, Some, None, length, get_or, drop, option_map, ap, ◌∙◌, sym, refl, append_assoc}
use Rattle.std.proofs.lemmas.List.{at_drop_more}
use Rattle.comm_calls.specs.Lists.{naturals_of, with_first}
use Rattle.comm_calls.specs.Numbers.{natural_of}

with_more : {A : Type 0} (found : List A) (x : A) (rest : Option (List A))
    → option_map (λ (l : List A). (found ++ x ∷ []) ++ l) rest ≡ option_map (λ (l : List A). found ++ l) (with_first (Some x) rest)
with_more found x None = refl
with_more found x (Some rest) = ap Some (append_assoc found (x ∷ []) rest)

module _ (ints : List ℤ) (i : ℕ) (d : ℤ) (below : i < length ints) (found : List ℕ) where
  natural_next : (o : Option ℕ) → natural_of (get_or ints i d) ≡ o → option_map (λ (l : List ℕ). found ++ l) (naturals_of (drop i ints))
      ≡ option_map (λ (l : List ℕ). found ++ l) (with_first o (naturals_of (drop (i + 1) ints)))
  natural_next o is =
      ap (option_map (λ (l : List ℕ). found ++ l))
      (at_drop_more naturals_of ints i d below ∙ ap (λ (q : Option ℕ). with_first q (naturals_of (drop (i + 1) ints))) is)

  pub naturals_more : (x : ℕ) → natural_of (get_or ints i d) ≡ Some x
      → option_map (λ (l : List ℕ). (found ++ x ∷ []) ++ l) (naturals_of (drop (i + 1) ints)) ≡ option_map (λ (l : List ℕ). found ++ l) (naturals_of (drop i ints))
  naturals_more x is = with_more found x (naturals_of (drop (i + 1) ints)) ∙ sym (natural_next (Some x) is)
