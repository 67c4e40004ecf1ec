-- The first call of a rank that makes communicators of an unknown parent.
use Rattle.std.proofs.Common.{◌≡◌, ◌<◌, ◌≤◌, ◌+◌, ℕ, true, false, List, length, get_or, ◌∙◌, inl, inr, refl, arith, subst, ⊎_elim}
use Rattle.std.proofs.lemmas.Bool.{cases_lt}
use Rattle.std.proofs.lemmas.Option.{slice_get-get_or}
use Rattle.comm_makings.specs.Views.{IsEnd, comm_at, is_orphan, is_orphan_at}
use Rattle.comm_makings.specs.declared.calls.CommCall.{CommCall}
use Rattle.comm_makings.specs.declared.handle.Meant.{Meant}

orphan_is : (calls : List CommCall) (meant : List Meant) (at : ℕ) (d : CommCall) → at < length calls → is_orphan_at calls meant at ≡ is_orphan (get_or calls at d) (comm_at meant at)
orphan_is calls meant at d lt = rw (slice_get-get_or calls at d lt) refl

pub none_more : (calls : List CommCall) (meant : List Meant) (at : ℕ) (d : CommCall) → at < length calls → ((k : ℕ) → k < at → is_orphan_at calls meant k ≡ false)
    → is_orphan (get_or calls at d) (comm_at meant at) ≡ false → (k : ℕ) → k < at + 1 → is_orphan_at calls meant k ≡ false
none_more calls meant at d lt before here k less = ⊎_elim
    (λ (l : k < at). before k l)
    (λ (g : at ≤ k). let same : at ≡ k = omega arith in subst (λ (j : ℕ). is_orphan_at calls meant j ≡ false) same (orphan_is calls meant at d lt ∙ here))
    (cases_lt k at)

pub found_end : (calls : List CommCall) (meant : List Meant) (at : ℕ) (d : CommCall) → at < length calls → ((k : ℕ) → k < at → is_orphan_at calls meant k ≡ false)
    → is_orphan (get_or calls at d) (comm_at meant at) ≡ true → IsEnd calls meant at
found_end calls meant at d lt before here = record { none = before; one = inr (orphan_is calls meant at d lt ∙ here) }

pub all_known : (calls : List CommCall) (meant : List Meant) (count end : ℕ) → ((k : ℕ) → k < count → is_orphan_at calls meant k ≡ false) → count ≤ length calls → length calls ≤ count
    → end ≡ length calls → IsEnd calls meant end
all_known calls meant count end before most least is = record { none = λ at less. before at (omega arith); one = inl is }
