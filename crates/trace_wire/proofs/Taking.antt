-- How far a frame is read.
use Rattle.std.proofs.Common.{◌≡◌, ℕ, ◌+◌, ◌≤◌, List, ◌++◌, length, Option, Ok, sym, ap, subst, ◌∙◌, arith}
use Rattle.std.specs.Io.KnownBytes.{Consumes}
use Rattle.std.proofs.KnownBytes.{Consumes-trans}
use Rattle.std.proofs.lemmas.List.{take_at, length-append}
use Rattle.trace_wire.specs.Reading.{Told, len_of, told_len, end_of, TakesAtMost, StaysWithin}

-- All that was taken, of two parts.
pub taken_after : (old mid new : Option (List ℕ)) (bytes : List ℕ) (more count : ℕ) → Consumes old mid bytes → TakesAtMost more mid new → length bytes + more ≤ count → TakesAtMost count old new
taken_after old mid new bytes more count c t fits =
    (bytes ++ t.0, omega (arith, length-append bytes t.0, t.1, fits), Consumes-trans old mid new bytes t.0 c t.2)

-- A head was taken, and no more than the payload that it tells.
pub within_frame : (old mid new : Option (List ℕ)) (head : List ℕ) (n : Told) → length head ≡ 10 → Consumes old mid head → len_of head ≡ Ok n → TakesAtMost n.1 mid new → StaysWithin old new
within_frame old mid new head n len c is t =
    let told : end_of (head ++ t.0) ≡ 10 + n.1 = ap (λ (h : List ℕ). 10 + told_len (len_of h)) (take_at head t.0 10 len) ∙ ap (λ r. 10 + told_len r) is in
    (head ++ t.0, subst (λ (m : ℕ). length (head ++ t.0) ≤ m) (sym told) (omega (arith, length-append head t.0, len, t.1)), Consumes-trans old mid new head t.0 c t.2)
