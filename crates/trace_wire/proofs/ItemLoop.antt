-- Reading items one after the other, as a loop does.
use Rattle.std.proofs.Common.{◌≡◌, ℕ, suc, ◌-◌, ◌+◌, ◌≤◌, ◌<◌, List, [], ◌∷◌, ◌++◌, Option, Some, None, refl, sym, ap, ◌∙◌, append_assoc, arith}
use Rattle.std.proofs.lemmas.List.{append-nil}
use Rattle.trace_wire.specs.declared.read.field.FieldFault.{FieldFault}
use Rattle.trace_wire.specs.declared.read.field.FieldFault.TheVariants as faults
use Rattle.trace_wire.specs.Forms.{◌>>=◌, Form, items_at}
use Rattle.trace_wire.specs.Outcomes.{Fails}

-- what was read before, and what is still read
abbrev pub with_front : {A : Type 0} → List A → Option (List A × List ℕ) → Option (List A × List ℕ)
with_front front read = read >>= λ x. Some (front ++ x.0, x.1)

pub regroup : {A : Type 0} (front : List A) (n : A) (read : Option (List A × List ℕ)) → with_front front (read >>= λ x. Some (n ∷ x.0, x.1)) ≡ with_front (front ++ n ∷ []) read
regroup {A} front n (Some x) = ap (λ (ns : List A). Some (ns, x.1)) (simp append_assoc)
regroup front n None = refl

pub goes_on : {A : Type 0} (form : Form A) (front : List A) (count i : ℕ) (bytes : List ℕ) (n : A) (after : List ℕ) (total : Option (List A × List ℕ)) → i < count → form.read bytes ≡ Some (n, after)
    → with_front front (items_at form (count - i) bytes) ≡ total → with_front (front ++ n ∷ []) (items_at form (count - (i + 1)) after) ≡ total
unfolding items_at
goes_on form front count i bytes n after total lt h so_far =
    let k : count - i ≡ suc (count - (i + 1)) = omega arith in
    let one : with_front front (items_at form (count - i) bytes) ≡ with_front (front ++ n ∷ []) (items_at form (count - (i + 1)) after) = rw (k, h) (regroup front n (items_at form (count - (i + 1)) after)) in
    sym one ∙ so_far

pub ends : {A : Type 0} (form : Form A) (e : FieldFault) (front : List A) (count i : ℕ) (bytes : List ℕ) (total : Option (List A × List ℕ)) → i < count → Fails e (form.read bytes)
    → with_front front (items_at form (count - i) bytes) ≡ total → Fails e total
unfolding items_at
ends form faults.Memory front count i bytes total lt h so_far = tt
ends {A} form faults.Content front count i bytes total lt h so_far =
    let k : count - i ≡ suc (count - (i + 1)) = omega arith in
    let one : with_front front (items_at form (count - i) bytes) ≡ None = rw (k, h) refl in
    sym so_far ∙ one

pub is_done : {A : Type 0} (form : Form A) (front : List A) (count i : ℕ) (bytes : List ℕ) (total : Option (List A × List ℕ)) → count ≤ i → with_front front (items_at form (count - i) bytes) ≡ total → total ≡ Some (front, bytes)
unfolding items_at
is_done {A} form front count i bytes total le so_far =
    let k : count - i ≡ 0 = omega arith in
    let one : with_front front (items_at form (count - i) bytes) ≡ Some (front, bytes) = rw k (ap (λ (ns : List A). Some (ns, bytes)) (append-nil front)) in
    sym so_far ∙ one
