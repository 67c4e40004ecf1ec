-- What the pieces of one rank tell after those of the ranks before.
use Rattle.std.proofs.Common.{◌≡◌, ◌≢◌, ◌∙◌, ◌⊎◌, ⊎_elim, inl, inr, ℕ, ◌+◌, ◌-◌, ◌<◌, ◌≤◌, List, [], ◌∷◌, ◌++◌, Option, Some, None, String, length, take, drop, get_or, refl, sym, ap, ap₂, subst, arith, append_assoc, append-nil, IsSome}
use Rattle.std.specs.Prelude.{Contains, slice_range}
use Rattle.std.specs.FinMap.{empty, get-empty}
use Rattle.std.specs.List.{All, AllWithin, HoldsAt}
use Rattle.std.specs.List.Sorted.{IsNonDecreasingBy}
use Rattle.std.specs.declared.alloc.Global.{Global}
use Rattle.std.proofs.lemmas.Bool.{cases_order}
use Rattle.std.proofs.lemmas.List.{drop-take, get_or-drop, get_or-take, get_or_default, length-drop, length-take-le, take-append-drop, take-take, take_all, take_more}
use Rattle.std.proofs.lemmas.List.Folds.{drop_split}
use Rattle.std.proofs.lemmas.List.Sorted.{IsNonDecreasingBy-push}
use Rattle.std.proofs.lemmas.List.Elements.{All-append, All-contains, All-head, All-nil, All-tail, All-weaker, Contains-append_cases, Contains-append_right}
use Rattle.mpi_model.specs.Layouts.{Parts}
use Rattle.trace_know.specs.Segment.{enter_place}
use Rattle.trace_know.specs.Trace.{Fact, Trace, facts_from, view_of}
use Rattle.trace_know.specs.View.{View, cell, join, place_cmp}
use Rattle.trace_know.specs.declared.cell.Known.{Known}
use Rattle.trace_node.specs.ByRank.{AreTold}
use Rattle.trace_node.specs.declared.by_rank.RankByRank.{RankByRank}
use Rattle.run_files.specs.Manifests.{PieceParts}
use Rattle.command_runs.specs.Ranks.{TellRanks}
use Rattle.command_runs.specs.Refusals.{NamesStranger, RefusesFirst, RefusesPieces}
use Rattle.command_runs.specs.Traces.{Begin, IsFirstStranger, IsInside, IsKnown, TellTrace}
use Rattle.run_inputs.specs.declared.faults.fault.RunFault.{RunFault}
use Rattle.run_inputs.specs.declared.faults.fault.RunFault.TheVariants as faults
use Rattle.command_runs.proofs.Traces.{Unites}
use Rattle.command_runs.proofs.Within.{ShowsFacts, fact_at, of_rank}

abbrev Files : Type 0
Files = List ℕ → Option (List ℕ)

-- ---- of which ranks something is known

-- the facts of pieces are of their ranks
fact_of : (P : ℕ → Type 0) (file : Files) (pieces : List PieceParts) (trace : Trace) → TellTrace file pieces trace → All (λ p. P p.rank) pieces
    → (fact : Fact) → Contains trace fact → P fact.rank
fact_of P file [] trace e all fact among = let here : Contains [] fact = subst (λ (t : Trace). Contains t fact) e among in absurd (omega (arith, here.1))
fact_of P file (p ∷ ps) trace t all fact among = elim (Contains-append_cases t.0 t.1 fact (subst (λ (s : Trace). Contains s fact) t.4 among)) [
  | inl own ↦ (let here : Contains (facts_from p.rank (enter_place p.first) t.2.0) fact = subst (λ (s : Trace). Contains s fact) t.2.2 own in
      let e : fact.rank ≡ p.rank = of_rank p.rank (enter_place p.first) t.2.0 here.0 fact here.1 here.2 in
      subst P (sym e) (All-head (λ (q : PieceParts). P q.rank) p ps all))
  | inr rest ↦ fact_of P file ps t.1 t.3 (All-tail (λ (q : PieceParts). P q.rank) p ps all) fact rest
]

-- what is known by pieces is of their ranks
pub known_of : ShowsFacts → (P : ℕ → Type 0) (file : Files) (pieces : List PieceParts) (view : View) → IsKnown file pieces view → All (λ p. P p.rank) pieces
    → (rank place : ℕ) → IsSome (cell view rank place) → P rank
known_of shows P file pieces view known all rank place some =
    let here : IsSome (cell (view_of known.0) rank place) = subst (λ (v : View). IsSome (cell v rank place)) known.2 some in
    let fact = fact_at known.0 rank place (cell (view_of known.0) rank place) (shows known.0 rank place) here in
    subst P fact.2 (fact_of P file pieces known.0 known.1 all fact.0 fact.1)

-- a view of which no cell is known is empty
pub none_known : ((a b : View) → ((rank place : ℕ) → cell a rank place ≡ cell b rank place) → a ≡ b) → (view : View)
    → ((rank place : ℕ) → IsSome (cell view rank place) → ⊥) → view ≡ empty
none_known same view none = same view empty (λ rank place. no_cell (cell view rank place) (none rank place) ∙ sym (get-empty place_cmp (rank, place)))
  where
    no_cell : (o : Option Known) → (IsSome o → ⊥) → o ≡ None
    no_cell None h = refl
    no_cell (Some known) h = absurd (h refl)

-- ---- some pieces after others

tell_both : (file : Files) (front own : List PieceParts) (t u : Trace) → TellTrace file front t → TellTrace file own u → TellTrace file (front ++ own) (t ++ u)
tell_both file [] own t u e h = subst (λ (s : Trace). TellTrace file own s) (ap (λ (s : Trace). s ++ u) (sym e)) h
tell_both file (p ∷ ps) own t u w h =
    (w.0, w.1 ++ u, w.2, tell_both file ps own w.1 u w.3 h, ap (λ (s : Trace). s ++ u) w.4 ∙ append_assoc w.0 w.1 u)

pub known_both : Unites → (file : Files) (front own : List PieceParts) (view more : View) → IsKnown file front view → IsKnown file own more
    → IsKnown file (front ++ own) (join view more)
known_both unites file front own view more a b =
    (a.0 ++ b.0, tell_both file front own a.0 b.0 a.1 b.1, ap₂ join a.2 b.2 ∙ sym (unites a.0 b.0))

begins_later : (front own back f2 : List PieceParts) (piece : PieceParts) (pieces : List PieceParts) → pieces ≡ front ++ (own ++ back) → Begin f2 piece own → Begin (front ++ f2) piece pieces
begins_later front own back f2 piece pieces e b = (
  b.0 ++ back,
  e ∙ ap (λ (l : List PieceParts). front ++ (l ++ back)) b.1 ∙ ap (λ (l : List PieceParts). front ++ l) (append_assoc f2 (piece ∷ b.0) back)
      ∙ sym (append_assoc front f2 (piece ∷ (b.0 ++ back))),
)

-- a piece is refused after others that are whole
pub first_later : Unites → (file : Files) (front own back pieces : List PieceParts) (view : View) (fault : RunFault) → pieces ≡ front ++ (own ++ back)
    → IsKnown file front view → RefusesFirst file own fault → RefusesFirst file pieces fault
first_later unites file front own back pieces view fault e known h =
    (front ++ h.0, h.1, begins_later front own back h.0 h.1 pieces e h.2, (join view h.3.0, known_both unites file front h.0 view h.3.0 known h.3.1), h.4)

stranger_later : (file : Files) (ranks : ℕ) (front own back pieces : List PieceParts) (path : String Global) → pieces ≡ front ++ (own ++ back)
    → All (IsInside file ranks) front → IsFirstStranger file ranks own path → IsFirstStranger file ranks pieces path
stranger_later file ranks front own back pieces path e inside h =
    (front ++ h.0, h.1, begins_later front own back h.0 h.1 pieces e h.2, All-append (IsInside file ranks) front h.0 inside h.3, h.4)

-- the last pieces are refused after others that are whole
pub pieces_later : Unites → (file : Files) (ranks : ℕ) (front own pieces : List PieceParts) (view : View) (fault : RunFault) → pieces ≡ front ++ own
    → IsKnown file front view → All (IsInside file ranks) front → RefusesPieces file ranks own fault → RefusesPieces file ranks pieces fault
pieces_later unites file ranks front own pieces view fault e known inside h = by fault h
  where
    whole : pieces ≡ front ++ (own ++ [])
    whole = e ∙ ap (λ (l : List PieceParts). front ++ l) (sym (append-nil own))

    by : (f : RunFault) → RefusesPieces file ranks own f → RefusesPieces file ranks pieces f
    by f (inl memory) = inl memory
    by f (inr (inl first)) = inr (inl (first_later unites file front own [] pieces view f whole known first))
    by f (inr (inr named)) = inr (inr (names f named))
      where
        names : (f : RunFault) → NamesStranger file ranks own f → NamesStranger file ranks pieces f
        names (faults.Rank path) n = (
          (join view n.0.0, subst (λ (l : List PieceParts). IsKnown file l (join view n.0.0)) (sym e) (known_both unites file front own view n.0.0 known n.0.1)),
          stranger_later file ranks front own [] pieces path whole inside n.1,
        )
        names _ n = absurd n

piece_among : (front : List PieceParts) (piece : PieceParts) (pieces : List PieceParts) → Begin front piece pieces → Contains pieces piece
piece_among front piece pieces b = subst (λ (l : List PieceParts). Contains l piece) (sym b.1) (Contains-append_right front (piece ∷ b.0) piece (0, omega arith, refl))

-- pieces of one rank of the layout are refused for a file or a text
pub own_refused : (file : Files) (ranks rank : ℕ) (own : List PieceParts) (fault : RunFault) → rank < ranks → All (λ p. p.rank ≡ rank) own → RefusesPieces file ranks own fault
    → (fault ≡ faults.Memory) ⊎ RefusesFirst file own fault
own_refused file ranks rank own fault lt all (inl memory) = inl memory
own_refused file ranks rank own fault lt all (inr (inl first)) = inr first
own_refused file ranks rank own fault lt all (inr (inr named)) = absurd (none fault named)
  where
    none : (f : RunFault) → NamesStranger file ranks own f → ⊥
    none (faults.Rank path) n =
        let is = All-contains (λ (p : PieceParts). p.rank ≡ rank) own n.1.1 all (piece_among n.1.0 n.1.1 own n.1.2) in
        omega (arith, is, lt, n.1.4.1)
    none _ n = n

-- ---- slices

pub slice_own : (P : PieceParts → Type 0) (pieces : List PieceParts) (start end : ℕ) → start ≤ end → end ≤ length pieces → AllWithin P pieces start end → All P (slice_range pieces start end)
slice_own P pieces start end low high h i d lt =
    let long : length (slice_range pieces start end) ≡ end - start = length-take-le (end - start) (drop start pieces) (omega (arith, length-drop start pieces)) in
    let at = get_or-take (end - start) (drop start pieces) i d (omega (arith, long, lt)) ∙ get_or-drop start pieces i d in
    subst P (sym at) (h (start + i) d (omega arith) (omega (arith, long, lt)))

pub front_longer : (pieces : List PieceParts) (start end : ℕ) → start ≤ end → take end pieces ≡ take start pieces ++ slice_range pieces start end
front_longer pieces start end le =
    let on : start + (end - start) ≡ end = omega (arith, le) in
    sym (take-append-drop start (take end pieces))
    ∙ ap₂ (λ (xs ys : List PieceParts). xs ++ ys) (take-take start end pieces le)
    (ap (λ (n : ℕ). drop start (take n pieces)) (sym on) ∙ drop-take start (end - start) pieces)

-- ---- one rank more

-- the pieces behind those of a rank are of higher ranks
pub higher : (pieces : List PieceParts) (rank start end : ℕ) → IsNonDecreasingBy (λ p. p.rank) pieces → AllWithin (λ p. rank ≤ p.rank) pieces start (length pieces) → start ≤ end
    → (end < length pieces → HoldsAt (λ p. p.rank ≢ rank) pieces end) → AllWithin (λ p. rank + 1 ≤ p.rank) pieces end (length pieces)
higher pieces rank start end rises rest le next k d low lt =
    let below : end < length pieces = omega (arith, low, lt) in
    let no = next below d in
    let at = rest end d le below in
    let up = rises end k d low lt in
    ⊎_elim (λ (e : rank ≡ (get_or pieces end d).rank). absurd (no (sym e)))
    (⊎_elim (λ (l : rank < (get_or pieces end d).rank). omega (arith, l, up)) (λ (g : (get_or pieces end d).rank < rank). absurd (omega (arith, g, at))))
    (cases_order rank (get_or pieces end d).rank)

-- the ranks before and this one
pub tell_next : Unites → (file : Files) (l : Parts) (pieces : List PieceParts) (start end rank : ℕ) (told more : RankByRank) (own : View) → start ≤ end → end ≤ length pieces
    → TellRanks file l (take start pieces) rank told → AllWithin (λ p. p.rank ≡ rank) pieces start end → IsKnown file (slice_range pieces start end) own
    → ((view : View) → AreTold l view rank told → AreTold l (join view own) (rank + 1) more) → TellRanks file l (take end pieces) (rank + 1) more
tell_next unites file l pieces start end rank told more own le high was all known next = record {
  view = join was.view own;
  known = subst (λ (ps : List PieceParts). IsKnown file ps (join was.view own)) (sym longer) (known_both unites file (take start pieces) (slice_range pieces start end) was.view own was.known known);
  told_by = next was.view was.told_by;
  below = subst (λ (ps : List PieceParts). All (λ p. p.rank < rank + 1) ps) (sym longer)
      (All-append (λ p. p.rank < rank + 1) (take start pieces) (slice_range pieces start end)
      (All-weaker (λ p. p.rank < rank) (λ p. p.rank < rank + 1) (λ p lt. omega (arith, lt)) (take start pieces) was.below)
      (All-weaker (λ p. p.rank ≡ rank) (λ p. p.rank < rank + 1) (λ p e. omega (arith, e)) (slice_range pieces start end) (slice_own (λ p. p.rank ≡ rank) pieces start end le high all)));
}
  where
    longer : take end pieces ≡ take start pieces ++ slice_range pieces start end
    longer = front_longer pieces start end le

-- no rank was told by no pieces
pub tell_none : (file : Files) (l : Parts) (pieces : List PieceParts) (told : RankByRank) → AreTold l empty 0 told → TellRanks file l (take 0 pieces) 0 told
tell_none file l pieces told h = record { view = empty; known = ([], refl, refl); told_by = h; below = All-nil (λ p. p.rank < 0) }

-- ---- the last ranks' pieces, and those of no rank of the layout

-- pieces of ranks below a number are inside
pub inside_below : (file : Files) (ranks : ℕ) (pieces : List PieceParts) → All (λ p. p.rank < ranks) pieces → All (IsInside file ranks) pieces
inside_below file ranks pieces all = All-weaker (λ p. p.rank < ranks) (IsInside file ranks) (λ p lt. inl lt) pieces all

-- all pieces are those of the layout's ranks, and then the others
pub both_parts : (pieces : List PieceParts) (end : ℕ) → take end pieces ++ slice_range pieces end (length pieces) ≡ pieces
both_parts pieces end = ap (λ (ps : List PieceParts). take end pieces ++ ps) (whole_rest pieces end) ∙ take-append-drop end pieces
  where
    whole_rest : (pieces : List PieceParts) (end : ℕ) → slice_range pieces end (length pieces) ≡ drop end pieces
    whole_rest pieces end = take_all (length pieces - end) (drop end pieces) (omega (arith, length-drop end pieces))

-- all pieces in three parts
pub three_parts : (pieces : List PieceParts) (start end : ℕ) → start ≤ end → pieces ≡ take start pieces ++ (slice_range pieces start end ++ drop end pieces)
three_parts pieces start end le = sym (take-append-drop start pieces) ∙ ap (λ (ps : List PieceParts). take start pieces ++ ps) (drop_split pieces start end le)

-- ---- whether ranks never fall

-- a rank below the one before it falls
pub fallen : (pieces : List PieceParts) (i : ℕ) (here before : PieceParts) → 1 ≤ i → i < length pieces → here ≡ get_or pieces i here → before ≡ get_or pieces (i - 1) before
    → here.rank < before.rank → IsNonDecreasingBy (λ p. p.rank) pieces → ⊥
fallen pieces i here before some lt a b less rises =
    let up = rises (i - 1) i before (omega arith) lt in
    let first : before.rank ≡ (get_or pieces (i - 1) before).rank = ap (λ (p : PieceParts). p.rank) b in
    let second : here.rank ≡ (get_or pieces i before).rank = ap (λ (p : PieceParts). p.rank) (a ∙ get_or_default pieces i here before lt) in
    omega (arith, up, first, second, less)

-- one piece more, whose rank is no lower
pub rises_on : (pieces : List PieceParts) (i : ℕ) (here before : PieceParts) → 1 ≤ i → i < length pieces → here ≡ get_or pieces i here → before ≡ get_or pieces (i - 1) before
    → before.rank ≤ here.rank → IsNonDecreasingBy (λ p. p.rank) (take i pieces) → IsNonDecreasingBy (λ p. p.rank) (take (i + 1) pieces)
rises_on pieces i here before some lt a b le rises =
    let more : take (i + 1) pieces ≡ take i pieces ++ here ∷ [] = take_more pieces i here lt ∙ ap (λ (p : PieceParts). take i pieces ++ p ∷ []) (sym a) in
    let long : length (take i pieces) ≡ i = length-take-le i pieces (omega (arith, lt)) in
    subst (λ (ps : List PieceParts). IsNonDecreasingBy (λ p. p.rank) ps) (sym more)
    (IsNonDecreasingBy-push (λ p. p.rank) (take i pieces) here rises (λ d full.
    let at : get_or (take i pieces) (length (take i pieces) - 1) d ≡ before =
    ap (λ (n : ℕ). get_or (take i pieces) (n - 1) d) long ∙ get_or-take i pieces (i - 1) d (omega (arith, some)) ∙ get_or_default pieces (i - 1) d before (omega (arith, lt)) ∙ sym b in
    let rank : (get_or (take i pieces) (length (take i pieces) - 1) d).rank ≡ before.rank = ap (λ (p : PieceParts). p.rank) at in
    omega (arith, rank, le)))
