-- What the numbers of a list name, one after the other.
use Rattle.std.proofs.Common.{◌≡◌, ℕ, ℤ, ◌+◌, ◌<◌, ◌++◌, List, [], ◌∷◌, length, get_or, drop, ap, ◌∙◌, sym, append_assoc}
use Rattle.std.proofs.lemmas.List.{at_drop_more}
use Rattle.dumpi_text.specs.declared.number.Num.{Num}
use Rattle.dumpi_calls.specs.Readings.{request_by, requests_of}

-- one more request
pub requests_more : (numbers : List Num) (i : ℕ) (d : Num) (found : List ℤ) → i < length numbers
    → (found ++ request_by (get_or numbers i d).name (get_or numbers i d).value ∷ []) ++ requests_of (drop (i + 1) numbers) ≡ found ++ requests_of (drop i numbers)
requests_more numbers i d found below =
    append_assoc found (request_by (get_or numbers i d).name (get_or numbers i d).value ∷ []) (requests_of (drop (i + 1) numbers))
    ∙ ap (λ (l : List ℤ). found ++ l) (sym (at_drop_more requests_of numbers i d below))
