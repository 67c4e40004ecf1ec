-- What pieces tell in one order they tell in any other, and what refuses them in another order can be told of them
-- where they are whole.
use Rattle.std.proofs.Common.{◌≡◌, ◌∙◌, inl, inr, ℕ, ◌+◌, ◌<◌, List, [], ◌∷◌, ◌++◌, Option, String, length, map, set, take, get_or, refl, sym, ap, ap₂, subst, arith}
use Rattle.std.specs.Prelude.{Contains, IsPermutation}
use Rattle.std.specs.List.{All, flat_map, swap}
use Rattle.std.specs.declared.alloc.Global.{Global}
use Rattle.std.proofs.lemmas.List.{get_or-map, length-map, map-set, take_more}
use Rattle.std.proofs.lemmas.List.Concat.{flat_map-cons}
use Rattle.std.proofs.lemmas.List.Edits.{swap_is}
use Rattle.std.proofs.lemmas.List.Elements.{All-cons, All-contains, All-head, All-nil, All-tail, All-take, All-weaker, Contains-append_cases, Contains-append_left, Contains-append_right}
use Rattle.std.proofs.lemmas.List.Sorted.{All-permutation, Contains-permutation, IsPermutation-keeps, IsPermutation-refl, IsPermutation-swap, IsPermutation-sym, IsPermutation-trans}
use Rattle.trace_know.specs.Trace.{Fact, SameFacts, Trace, view_of}
use Rattle.trace_know.specs.View.{View}
use Rattle.run_files.specs.Manifests.{PieceParts, whole_text}
use Rattle.command_runs.specs.Pieces.{AreFactsOf, RefusesPiece}
use Rattle.command_runs.specs.Refusals.{BlamesFile, NamesStranger, RefusesFirst, RefusesInSomeOrder, RefusesOneOf, RefusesPieces}
use Rattle.command_runs.specs.Traces.{Begin, IsFirstStranger, IsInside, IsKnown, TellTrace}
use Rattle.run_inputs.specs.declared.faults.fault.RunFault.{RunFault}
use Rattle.run_inputs.specs.declared.faults.fault.RunFault.TheVariants as faults
use Rattle.command_runs.proofs.Traces.{begins}

abbrev Files : Type 0
Files = List ℕ → Option (List ℕ)

-- a piece and its facts
abbrev Told : Type 0
Told = PieceParts × Trace

abbrev piece_of : Told → PieceParts
piece_of told = told.0

abbrev facts_in : Told → Trace
facts_in told = told.1

abbrev IsTold : Files → Told → Type 0
IsTold file told = AreFactsOf file told.0 told.1

-- ---- a trace is the facts of each piece

each_told : (file : Files) (pieces : List PieceParts) (trace : Trace) → TellTrace file pieces trace
    → (all : List Told) × (map piece_of all ≡ pieces) × All (IsTold file) all × (trace ≡ flat_map facts_in all)
each_told file [] trace e = ([], refl, All-nil (IsTold file), e)
each_told file (p ∷ ps) trace t =
    let rest = each_told file ps t.1 t.3 in (
      (p, t.0) ∷ rest.0,
      ap (λ (l : List PieceParts). p ∷ l) rest.1,
      All-cons (IsTold file) (p, t.0) rest.0 t.2 rest.2,
      t.4 ∙ ap (λ (s : Trace). t.0 ++ s) rest.3 ∙ sym (flat_map-cons facts_in (p, t.0) rest.0),
    )

tells_each : (file : Files) (all : List Told) → All (IsTold file) all → TellTrace file (map piece_of all) (flat_map facts_in all)
tells_each file [] h = refl
tells_each file (told ∷ all) h =
    (told.1, flat_map facts_in all, All-head (IsTold file) told all h, tells_each file all (All-tail (IsTold file) told all h), flat_map-cons facts_in told all)

-- ---- in another order

some : Told
some = (whole_text 0 [], [])

swapped : (all : List Told) (pieces : List PieceParts) (i j : ℕ) → map piece_of all ≡ pieces → i < length all → j < length all → map piece_of (swap all i j) ≡ swap pieces i j
swapped all pieces i j e low high =
    let long = length-map all piece_of in
    ap (map piece_of) (sym (swap_is all i j some low high))
    ∙ map-set piece_of (set all i (get_or all j some)) j (get_or all i some)
    ∙ ap (λ (l : List PieceParts). set l j (piece_of (get_or all i some))) (map-set piece_of all i (get_or all j some))
    ∙ ap₂ (λ (x y : PieceParts). set (set (map piece_of all) i x) j y) (sym (get_or-map piece_of all j some (piece_of some) high)) (sym (get_or-map piece_of all i some (piece_of some) low))
    ∙ swap_is (map piece_of all) i j (piece_of some) (omega (arith, long, low)) (omega (arith, long, high))
    ∙ ap (λ (l : List PieceParts). swap l i j) e

moved : (all : List Told) (pieces others : List PieceParts) → map piece_of all ≡ pieces → IsPermutation pieces others
    → (moved : List Told) × (map piece_of moved ≡ others) × IsPermutation all moved
moved all pieces others e same =
    IsPermutation-keeps pieces (λ (l : List PieceParts). (now : List Told) × (map piece_of now ≡ l) × IsPermutation all now) (all, e, IsPermutation-refl all) (λ l i j low high now.
    let long : length now.0 ≡ length l = sym (length-map now.0 piece_of) ∙ ap length now.1 in
    let lo : i < length now.0 = omega (arith, long, low) in
    let hi : j < length now.0 = omega (arith, long, high) in
    (swap now.0 i j, swapped now.0 l i j now.1 lo hi, IsPermutation-trans all now.0 (swap now.0 i j) now.2 (IsPermutation-swap now.0 (swap now.0 i j) i j lo hi refl))) others same

-- the pieces of a fact
told_in : (all : List Told) (fact : Fact) → Contains (flat_map facts_in all) fact → (told : Told) × Contains all told × Contains told.1 fact
told_in [] fact among = absurd (omega (arith, among.1))
told_in (told ∷ all) fact among = elim (Contains-append_cases told.1 (flat_map facts_in all) fact (subst (λ (t : Trace). Contains t fact) (flat_map-cons facts_in told all) among)) [
  | inl own ↦ (told, (0, omega arith, refl), own)
  | inr rest ↦ (let found = told_in all fact rest in (found.0, Contains-append_right (told ∷ []) all found.0 found.1, found.2))
]

-- the facts of a piece are among those of all
facts_among : (all : List Told) (fact : Fact) → All (λ told. Contains told.1 fact → Contains (flat_map facts_in all) fact) all
facts_among [] fact = All-nil (λ told. Contains told.1 fact → Contains (flat_map facts_in []) fact)
facts_among (told ∷ all) fact =
    let back = subst (λ (t : Trace). Contains t fact) (sym (flat_map-cons facts_in told all)) in
    All-cons (λ other. Contains other.1 fact → Contains (flat_map facts_in (told ∷ all)) fact) told all
    (λ own. back (Contains-append_left told.1 (flat_map facts_in all) fact own))
    (All-weaker (λ other. Contains other.1 fact → Contains (flat_map facts_in all) fact) (λ other. Contains other.1 fact → Contains (flat_map facts_in (told ∷ all)) fact)
    (λ other h own. back (Contains-append_right told.1 (flat_map facts_in all) fact (h own))) all (facts_among all fact))

facts_moved : (all others : List Told) → IsPermutation all others → (fact : Fact) → Contains (flat_map facts_in all) fact → Contains (flat_map facts_in others) fact
facts_moved all others same fact among =
    let found = told_in all fact among in
    All-contains (λ told. Contains told.1 fact → Contains (flat_map facts_in others) fact) others found.0 (facts_among others fact) (Contains-permutation all others found.0 same found.1) found.2

-- traces of the same facts have one view
abbrev pub SameView : Type 0
SameView = (a b : Trace) → SameFacts a b → view_of a ≡ view_of b

-- what is known by pieces is known by them in any order
pub known_in_order : SameView → (file : Files) (pieces others : List PieceParts) (view : View) → IsPermutation pieces others → IsKnown file pieces view → IsKnown file others view
known_in_order one file pieces others view same known =
    let all = each_told file pieces known.0 known.1 in
    let now = moved all.0 pieces others all.1 same in
    let there : (fact : Fact) → Contains known.0 fact → Contains (flat_map facts_in now.0) fact =
    λ fact among. facts_moved all.0 now.0 now.2 fact (subst (λ (t : Trace). Contains t fact) all.3 among) in
    let back : (fact : Fact) → Contains (flat_map facts_in now.0) fact → Contains known.0 fact =
    λ fact among. subst (λ (t : Trace). Contains t fact) (sym all.3) (facts_moved now.0 all.0 (IsPermutation-sym all.0 now.0 now.2) fact among) in (
      flat_map facts_in now.0,
      subst (λ (ps : List PieceParts). TellTrace file ps (flat_map facts_in now.0)) now.1 (tells_each file now.0 (All-permutation (IsTold file) all.0 now.0 now.2 all.2)),
      known.2 ∙ one known.0 (flat_map facts_in now.0) (λ fact. (there fact, back fact)),
    )

-- ---- refused in another order

tell_front : (file : Files) (front back : List PieceParts) (trace : Trace) → TellTrace file (front ++ back) trace → (own : Trace) × TellTrace file front own
tell_front file [] back trace t = ([], refl)
tell_front file (p ∷ ps) back trace t = let rest = tell_front file ps back t.1 t.3 in (t.0 ++ rest.0, (t.0, rest.0, t.2, rest.1, refl))

pub known_front : (file : Files) (front : List PieceParts) (piece : PieceParts) (pieces : List PieceParts) (view : View) → Begin front piece pieces → IsKnown file pieces view → (own : View) × IsKnown file front own
known_front file front piece pieces view b known =
    let own = tell_front file front (piece ∷ b.0) known.0 (subst (λ (ps : List PieceParts). TellTrace file ps known.0) b.1 known.1) in
    (view_of own.0, (own.0, own.1, refl))

-- a piece among others stands somewhere
place_of : (piece : PieceParts) (pieces : List PieceParts) → Contains pieces piece → (i : ℕ) × Begin (take i pieces) piece pieces
place_of piece pieces here = (here.0, begins pieces here.0 piece (take_more pieces here.0 piece here.1 ∙ ap (λ (p : PieceParts). take here.0 pieces ++ p ∷ []) here.2))

-- a piece of one order is one of another
elsewhere : (front : List PieceParts) (piece : PieceParts) (pieces others : List PieceParts) → IsPermutation pieces others → Begin front piece others → Contains pieces piece
elsewhere front piece pieces others same b =
    let there : Contains others piece = subst (λ (l : List PieceParts). Contains l piece) (sym b.1) (Contains-append_right front (piece ∷ b.0) piece (0, omega arith, refl)) in
    Contains-permutation others pieces piece (IsPermutation-sym pieces others same) there

-- one of the pieces is refused, and all of them are whole
pub first_of_whole : (file : Files) (pieces : List PieceParts) (view : View) (fault : RunFault) → IsKnown file pieces view → RefusesOneOf file pieces fault → RefusesFirst file pieces fault
first_of_whole file pieces view fault known h =
    let at = place_of h.0 pieces h.1 in
    (take at.0 pieces, h.0, at.1, known_front file (take at.0 pieces) h.0 pieces view at.1 known, h.2)

-- this piece is of a file that is blamed, and those before it are whole
pub first_blamed : (file : Files) (pieces : List PieceParts) (i : ℕ) (piece : PieceParts) (view : View) (fault : RunFault) → take (i + 1) pieces ≡ take i pieces ++ piece ∷ []
    → IsKnown file (take i pieces) view → BlamesFile piece.file fault → RefusesOneOf file pieces fault → RefusesFirst file pieces fault
first_blamed file pieces i piece view fault more known blames h =
    let own = blames h.0.file h.0.first piece.first (file h.0.file) h.2 in
    (take i pieces, piece, begins pieces i piece more, (view, known), subst (λ (name : List ℕ). RefusesPiece piece.file piece.first (file name) fault) own.0 own.1)

-- one of the pieces is a stranger, and all others may tell calls or not
pub stranger_of_inside : (file : Files) (ranks : ℕ) (pieces others : List PieceParts) (path : String Global) → IsPermutation pieces others → All (IsInside file ranks) pieces
    → IsFirstStranger file ranks others path → IsFirstStranger file ranks pieces path
stranger_of_inside file ranks pieces others path same inside h =
    let at = place_of h.1 pieces (elsewhere h.0 h.1 pieces others same h.2) in
    (take at.0 pieces, h.1, at.1, All-take (IsInside file ranks) at.0 pieces inside, h.4)

-- ---- what a fault in another order says of the pieces

-- a fault of a file or a text refuses one of them
pub one_refused : (file : Files) (ranks : ℕ) (pieces : List PieceParts) (fault : RunFault) → (fault ≡ faults.Memory → ⊥) → ((path : String Global) → fault ≡ faults.Rank path → ⊥)
    → RefusesInSomeOrder file ranks pieces fault → RefusesOneOf file pieces fault
one_refused file ranks pieces fault memory rank h = by fault memory rank h.2
  where
    by : (f : RunFault) → (f ≡ faults.Memory → ⊥) → ((path : String Global) → f ≡ faults.Rank path → ⊥) → RefusesPieces file ranks h.0 f → RefusesOneOf file pieces f
    by f wanting none (inl e) = absurd (wanting e)
    by f wanting none (inr (inl first)) = (first.1, elsewhere first.0 first.1 pieces h.0 h.1 first.2, first.4)
    by f wanting none (inr (inr named)) = absurd (names f none named)
      where
        names : (f : RunFault) → ((path : String Global) → f ≡ faults.Rank path → ⊥) → NamesStranger file ranks h.0 f → ⊥
        names (faults.Rank path) none n = none path refl
        names _ none n = n

-- the fault of a stranger says that they are whole, and who it is
named_elsewhere : (file : Files) (ranks : ℕ) (pieces : List PieceParts) (path : String Global) → (h : RefusesInSomeOrder file ranks pieces (faults.Rank path))
    → NamesStranger file ranks h.0 (faults.Rank path)
named_elsewhere file ranks pieces path h = by h.2
  where
    by : RefusesPieces file ranks h.0 (faults.Rank path) → NamesStranger file ranks h.0 (faults.Rank path)
    by (inl e) = absurd (cc e)
    by (inr (inl first)) = absurd first.4
    by (inr (inr named)) = named

pub whole_elsewhere : SameView → (file : Files) (ranks : ℕ) (pieces : List PieceParts) (path : String Global) → RefusesInSomeOrder file ranks pieces (faults.Rank path)
    → (view : View) × IsKnown file pieces view
whole_elsewhere one file ranks pieces path h =
    let n = named_elsewhere file ranks pieces path h in
    (n.0.0, known_in_order one file h.0 pieces n.0.0 (IsPermutation-sym pieces h.0 h.1) n.0.1)

pub stranger_elsewhere : SameView → (file : Files) (ranks : ℕ) (pieces : List PieceParts) (path : String Global) → RefusesInSomeOrder file ranks pieces (faults.Rank path)
    → All (IsInside file ranks) pieces → RefusesPieces file ranks pieces (faults.Rank path)
stranger_elsewhere one file ranks pieces path h inside =
    inr (inr (whole_elsewhere one file ranks pieces path h, stranger_of_inside file ranks pieces h.0 path h.1 inside (named_elsewhere file ranks pieces path h).1))
