-- A look at the first calls of a text.
use Rattle.std.proofs.Common.{◌≡◌, ◌∙◌, ◌<◌, ◌≤◌, ◌++◌, ℕ, List, [], ◌∷◌, Option, Some, None, refl, ap, arith}
use Rattle.mpi_model.specs.Failures.{one_more}
use Rattle.std.specs.BTreeSet.{BTreeSet}
use Rattle.dumpi_text.specs.Call.{TextCall}
use Rattle.dumpi_text.specs.Grammar.{Ending, Meaning}
use Rattle.dumpi_text.specs.Reading.{MeansAll}
use Rattle.dumpi_text.specs.Standing.{TextState}
use Rattle.dumpi_calls.specs.Walks.{IsRead}
use Rattle.text_notes.specs.FrontLooks.{FrontLookParts, IsFrontLookOf, front_from, no_front, with_front}
use Rattle.text_notes.proofs.Values.{all_in_front, nothing_more}

-- the first calls, and one more
pub front_more : (wanted : BTreeSet ℕ) (look : FrontLookParts) (raws : List TextCall) (raw : TextCall) → front_from wanted look (raws ++ raw ∷ []) ≡ with_front wanted (front_from wanted look raws) raw
front_more wanted look [] raw = refl
front_more wanted look (r ∷ raws) raw = front_more wanted (with_front wanted look r) raws raw

-- As many calls as were asked for were looked at.
pub first_told : (text : Option (List ℕ)) (wanted : BTreeSet ℕ) (most : ℕ) (raws : List TextCall) (view : TextState) (look : FrontLookParts)
    → IsRead text raws view → look ≡ front_from wanted no_front raws → look.calls ≤ most → (look.calls < most → ⊥) → IsFrontLookOf wanted most text look
first_told None wanted most raws view look read told few over = tt
first_told (Some text) wanted most raws view look read told few over =
    let front = all_in_front text raws view read in
    record { raws = raws; more = front.0; first = front.1; told = told; few = few; all = λ less. absurd (over less) }

-- The text has no other calls.
pub all_told : (text : Option (List ℕ)) (wanted : BTreeSet ℕ) (most : ℕ) (raws : List TextCall) (look : FrontLookParts)
    → (end : Ending) × MeansAll text raws end → look ≡ front_from wanted no_front raws → look.calls ≤ most → IsFrontLookOf wanted most text look
all_told None wanted most raws look all told few = tt
all_told (Some text) wanted most raws look all told few =
    record { raws = raws; more = []; first = ap (λ (m : Meaning). m.calls) all.1 ∙ nothing_more raws; told = told; few = few; all = λ less. refl }

-- there are no more calls than were asked for, with one more
pub still_few : (calls most now : ℕ) → calls < most → now ≡ one_more calls → now ≤ most
still_few calls most now less e = omega arith

-- at first there are none
pub none_few : (look : FrontLookParts) (most : ℕ) → look ≡ no_front → look.calls ≤ most
none_few look most e = let none : look.calls ≡ 0 = ap (λ (l : FrontLookParts). l.calls) e in omega arith
