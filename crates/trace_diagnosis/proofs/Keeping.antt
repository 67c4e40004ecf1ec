-- A list of what a test keeps, one item more.
use Rattle.std.proofs.Common.{◌≡◌, ◌∙◌, ◌+◌, ◌<◌, ℕ, Bool, true, false, List, [], ◌∷◌, ◌++◌, append-nil, ap, filter, get_or, length, map, sym, take, if◌then◌else◌}
use Rattle.std.proofs.lemmas.List.Elements.{filter_more}

module _ {A B : Type 0} (f : A → B) (p : B → Bool) (xs : List B) (i : ℕ) (d : B) where
  abbrev with_one : List B → Bool → List B
  with_one l b = l ++ (if b then get_or xs i d ∷ [] else [])

  -- that the test keeps
  pub kept_step : (old new : List A) → map f new ≡ map f old ++ get_or xs i d ∷ [] → p (get_or xs i d) ≡ true → map f old ≡ filter p (take i xs) → i < length xs → map f new ≡ filter p (take (i + 1) xs)
  kept_step old new e kept before lt = e ∙ ap (with_one (map f old)) (sym kept) ∙ ap (λ (l : List B). with_one l (p (get_or xs i d))) before ∙ sym (filter_more p xs i d lt)

  -- that it leaves out
  pub left_step : (old : List A) → p (get_or xs i d) ≡ false → map f old ≡ filter p (take i xs) → i < length xs → map f old ≡ filter p (take (i + 1) xs)
  left_step old out before lt = sym (append-nil (map f old)) ∙ ap (with_one (map f old)) (sym out) ∙ ap (λ (l : List B). with_one l (p (get_or xs i d))) before ∙ sym (filter_more p xs i d lt)
