-- Reading what stands at places one after the other, as a loop does.
use Rattle.std.proofs.Common.{◌≡◌, ℕ, suc, ◌-◌, ◌+◌, ◌≤◌, ◌<◌, List, [], ◌∷◌, ◌++◌, Option, Some, None, refl, sym, ap, ◌∙◌, arith}
use Rattle.std.proofs.lemmas.List.{append-nil}
use Rattle.trace_know.specs.declared.cell.Known.{Known}
use Rattle.trace_wire.specs.declared.read.field.FieldFault.{FieldFault}
use Rattle.trace_wire.specs.declared.read.field.FieldFault.TheVariants as faults
use Rattle.trace_wire.specs.Parts.{known_at, knowns_at}
use Rattle.trace_wire.specs.Outcomes.{Fails}
use Rattle.trace_wire.proofs.ItemLoop.{regroup, with_front}

-- the reading of the next place
next_place : (first i : ℕ) → first + i + 1 ≡ first + (i + 1)
next_place first i = omega arith

pub goes_on : (front : List Known) (first count i : ℕ) (bytes : List ℕ) (k : Known) (after : List ℕ) (total : Option (List Known × List ℕ)) → i < count → known_at (first + i) bytes ≡ Some (k, after)
    → with_front front (knowns_at (first + i) (count - i) bytes) ≡ total → with_front (front ++ k ∷ []) (knowns_at (first + (i + 1)) (count - (i + 1)) after) ≡ total
unfolding knowns_at
goes_on front first count i bytes k after total lt h so_far =
    let n : count - i ≡ suc (count - (i + 1)) = omega arith in
    let one : with_front front (knowns_at (first + i) (count - i) bytes) ≡ with_front (front ++ k ∷ []) (knowns_at (first + i + 1) (count - (i + 1)) after) = rw (n, h) (regroup front k (knowns_at (first + i + 1) (count - (i + 1)) after)) in
    ap (λ (p : ℕ). with_front (front ++ k ∷ []) (knowns_at p (count - (i + 1)) after)) (sym (next_place first i)) ∙ sym one ∙ so_far

pub ends : (e : FieldFault) (front : List Known) (first count i : ℕ) (bytes : List ℕ) (total : Option (List Known × List ℕ)) → i < count → Fails e (known_at (first + i) bytes)
    → with_front front (knowns_at (first + i) (count - i) bytes) ≡ total → Fails e total
unfolding knowns_at
ends faults.Memory front first count i bytes total lt h so_far = tt
ends faults.Content front first count i bytes total lt h so_far =
    let n : count - i ≡ suc (count - (i + 1)) = omega arith in
    let one : with_front front (knowns_at (first + i) (count - i) bytes) ≡ None = rw (n, h) refl in
    sym so_far ∙ one

pub is_done : (front : List Known) (first count i : ℕ) (bytes : List ℕ) (total : Option (List Known × List ℕ)) → count ≤ i → with_front front (knowns_at (first + i) (count - i) bytes) ≡ total → total ≡ Some (front, bytes)
unfolding knowns_at
is_done front first count i bytes total le so_far =
    let n : count - i ≡ 0 = omega arith in
    let one : with_front front (knowns_at (first + i) (count - i) bytes) ≡ Some (front, bytes) = rw n (ap (λ (ks : List Known). Some (ks, bytes)) (append-nil front)) in
    sym so_far ∙ one
