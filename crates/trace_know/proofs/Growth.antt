-- The readable events where more is known.
use Rattle.std.proofs.Common.{Bool, true, false, cond, ◌≡◌, ℕ, suc, ◌≤◌, Option, Some, None, List, [], ◌∷◌, ◌++◌, length, refl, sym, arith}
use Rattle.mpi_model.specs.declared.event.Event.{Event}
use Rattle.trace_know.specs.declared.cell.Known.{Known}
use Rattle.trace_know.specs.declared.cell.Known.TheVariants.{One, Contradiction}
use Rattle.trace_know.specs.Cell.{IsAtMost}
use Rattle.trace_know.specs.Prefix.{IsLeading, BeginsWith, enters_unread, readable_of, readable_at, events_of, prefix_of}
use Rattle.trace_know.specs.View.{View, IsBelow, cell}
use Rattle.trace_know.proofs.Leading.{later}
use Rattle.trace_know.proofs.Prefixes.{events_of-IsLeading}

-- of lists that agree where both have something the longer begins with the shorter
longer_begins : (at to : ℕ → Option Event) (xs ys : List Event) → IsLeading at xs → IsLeading to ys → ((i : ℕ) (x y : Event) → at i ≡ Some x → to i ≡ Some y → x ≡ y) → length xs ≤ length ys → BeginsWith ys xs
longer_begins at to [] ys h k same le = (ys, refl)
longer_begins at to (x ∷ xs) [] h k same le = absurd (omega arith)
longer_begins at to (x ∷ xs) (y ∷ ys) h k same le =
    let first : x ≡ y = same 0 x y (h.each 0 (omega arith)) (k.each 0 (omega arith)) in
    let rest = longer_begins (λ i. at (suc i)) (λ i. to (suc i)) xs ys (later at x xs h) (later to y ys k) (λ i. same (suc i)) (omega arith) in
    (rest.0, λ i. sym first i ∷ rest.1 i)

-- a cell's event that is readable is its event
one_of : (unread : Bool) (e x : Event) → cond unread None (Some e) ≡ Some x → e ≡ x
one_of true e x h = absurd cc
one_of false e x h = cc

-- an event that is readable stays that event as long as it isn't contradicted
same_event : (a b : Option Known) (x y : Event) → IsAtMost a b → readable_of a ≡ Some x → readable_of b ≡ Some y → x ≡ y
same_event None b x y h ea eb = absurd cc
same_event (Some Contradiction) b x y h ea eb = absurd cc
same_event (Some (One e)) None x y h ea eb = absurd h
same_event (Some (One e)) (Some Contradiction) x y h ea eb = absurd cc
same_event (Some (One e)) (Some (One f)) x y h ea eb = let p = one_of (enters_unread e) e x ea in let q = one_of (enters_unread f) f y eb in cc

pub grown : (a b : View) (rank : ℕ) → IsBelow a b → prefix_of a rank ≤ prefix_of b rank → BeginsWith (events_of b rank) (events_of a rank)
grown a b rank h le = longer_begins (readable_at a rank) (readable_at b rank) (events_of a rank) (events_of b rank) (events_of-IsLeading a rank) (events_of-IsLeading b rank)
    (λ p x y. same_event (cell a rank p) (cell b rank p) x y (h rank p)) le

pub cut : (a b : View) (rank : ℕ) → IsBelow a b → prefix_of b rank ≤ prefix_of a rank → BeginsWith (events_of a rank) (events_of b rank)
cut a b rank h le = longer_begins (readable_at b rank) (readable_at a rank) (events_of b rank) (events_of a rank) (events_of-IsLeading b rank) (events_of-IsLeading a rank)
    (λ p y x eb ea. sym (same_event (cell a rank p) (cell b rank p) x y (h rank p) ea eb)) le

none_more : (xs ys : List Event) → BeginsWith ys xs → length ys ≡ length xs → ys ≡ xs
none_more [] [] h e = refl
none_more [] (y ∷ ys) h e = absurd (omega arith)
none_more (x ∷ xs) [] h e = absurd (omega arith)
none_more (x ∷ xs) (y ∷ ys) h e =
    let both : y ∷ ys ≡ x ∷ (xs ++ h.0) = h.1 in
    let first : y ≡ x = cc in
    let others : ys ≡ xs ++ h.0 = cc in
    let rest = none_more xs ys (h.0, others) (omega arith) in
    λ i. first i ∷ rest i

pub unchanged : (a b : View) (rank : ℕ) → IsBelow a b → prefix_of b rank ≡ prefix_of a rank → events_of b rank ≡ events_of a rank
unchanged a b rank h e = none_more (events_of a rank) (events_of b rank) (grown a b rank h (omega arith)) e
