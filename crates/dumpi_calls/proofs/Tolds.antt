-- What groups tell of requests, one request more.
use Rattle.std.proofs.Common.{◌≡◌, ◌∙◌, ℕ, ℤ, pos, ◌+◌, ◌<◌, List, [], ◌∷◌, ◌++◌, length, drop, drop-cons, add-one, ap, sym, refl, append_assoc}
use Rattle.mpi_model.specs.declared.told.Told.{Told}
use Rattle.dumpi_text.specs.declared.group.Field.{Field}
use Rattle.dumpi_calls.specs.Outcomes.{told_at, tolds_from}

tolds_at : (groups : List (List Field)) (place : ℕ) (requests : List ℤ) → place < length requests
    → tolds_from groups place (drop place requests) ≡ told_at groups place ∷ tolds_from groups (place + 1) (drop (place + 1) requests)
tolds_at groups place requests h = rw (drop-cons requests place (pos 0) h) (rw add-one refl)

pub one_told_more : (groups : List (List Field)) (place : ℕ) (requests : List ℤ) (tolds : List Told) → place < length requests
    → (tolds ++ told_at groups place ∷ []) ++ tolds_from groups (place + 1) (drop (place + 1) requests) ≡ tolds ++ tolds_from groups place (drop place requests)
one_told_more groups place requests tolds h =
    append_assoc tolds (told_at groups place ∷ []) (tolds_from groups (place + 1) (drop (place + 1) requests))
    ∙ ap (λ (rest : List Told). tolds ++ rest) (sym (tolds_at groups place requests h))
