-- The positions in a list, one index after the other.
use Rattle.std.proofs.Common.{◌≡◌, ℕ, ◌+◌, ◌<◌, ◌++◌, List, [], ◌∷◌, Option, None, Some, length, get_or, drop, ap, ◌∙◌, sym, append_assoc}
use Rattle.std.proofs.lemmas.List.{at_drop_more}
use Rattle.mpi_model.specs.declared.list.elements.Element.{Element}
use Rattle.dumpi_text.specs.declared.group.Field.{Field}
use Rattle.dumpi_text.specs.declared.number.Num.{Num}
use Rattle.dumpi_calls.specs.Outcomes.{elements_from, position_of, told_at, with_element}

module _ (groups : List (List Field)) (count place : ℕ) (indices : List Num) (d : Num) (below : place < length indices) where
  element_next : (o : Option ℕ) → position_of count (get_or indices place d).value ≡ o → elements_from groups count place (drop place indices)
      ≡ with_element o (told_at groups place) (elements_from groups count (place + 1) (drop (place + 1) indices))
  element_next o is =
      at_drop_more (elements_from groups count place) indices place d below
      ∙ ap (λ (q : Option ℕ). with_element q (told_at groups place) (elements_from groups count (place + 1) (drop (place + 1) indices))) is

  pub element_more : (found : List Element) (position : ℕ) → position_of count (get_or indices place d).value ≡ Some position
      → (found ++ record { position = position; told = told_at groups place } ∷ []) ++ elements_from groups count (place + 1) (drop (place + 1) indices)
      ≡ found ++ elements_from groups count place (drop place indices)
  element_more found position is =
      append_assoc found (record { position = position; told = told_at groups place } ∷ []) (elements_from groups count (place + 1) (drop (place + 1) indices))
      ∙ ap (λ (l : List Element). found ++ l) (sym (element_next (Some position) is))

  pub element_past : (found : List Element) → position_of count (get_or indices place d).value ≡ None
      → found ++ elements_from groups count (place + 1) (drop (place + 1) indices) ≡ found ++ elements_from groups count place (drop place indices)
  element_past found is = ap (λ (l : List Element). found ++ l) (sym (element_next None is))
