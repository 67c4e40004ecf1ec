-- The pieces of a manifest by node, worker and place, and the texts that stand there.
use Rattle.std.proofs.Common.{◌≡◌, ◌∙◌, ◌++◌, ◌∷◌, [], ◌+◌, ◌≤◌, ◌<◌, ◌≢◌, inl, inr, arith, ℕ, zero, suc, List, Option, Some, ap, ap₂, sym, refl, subst, length, append_assoc, get_or}
use Rattle.std.specs.Prelude.{Contains}
use Rattle.std.specs.List.{All, slice_get}
use Rattle.std.proofs.lemmas.List.{length-append}
use Rattle.std.proofs.lemmas.List.Elements.{All-cons, All-head, All-nil, All-tail}
use Rattle.mpi_model.specs.Layouts.{Parts}
use Rattle.mpi_model.specs.declared.event.Event.{Event}
use Rattle.dumpi_calls.specs.Collected.{AreSegments}
use Rattle.dumpi_calls.specs.Whole.{SegmentsTellAll}
use Rattle.trace_know.specs.Segment.{PlacedEvents}
use Rattle.trace_know.specs.Trace.{Trace, facts_of_all, view_of}
use Rattle.trace_cluster.specs.declared.side.Side.{Side}
use Rattle.trace_cluster.specs.declared.side.Side.TheVariants as sides
use Rattle.trace_crew.specs.declared.queue.item.Worker.{Worker}
use Rattle.trace_crew.specs.declared.queue.item.Worker.TheVariants as workers
use Rattle.trace_crew.specs.declared.piece.TextPiece.{TextPiece}
use Rattle.trace_crew.specs.Pieces.{place_of}
use Rattle.trace_cluster.specs.Pieces.{IsForeign, IsWhole, IsWithin, Placed, all_pieces, placed_from}
use Rattle.run_files.specs.Manifests.{PieceParts}
use Rattle.command_runs.specs.Clusters.{AreSound, AreWhole, HaveStranger, IsOutside, by_node, piece_at}
use Rattle.command_runs.specs.NodeTexts.{AreShares, AreTextsOf, IsTextOf, share_of}
use Rattle.command_runs.specs.Traces.{IsInside, TellTrace}
use Rattle.command_runs.specs.declared.pieces.node_texts.AllTexts.{AllTexts}
use Rattle.command_runs.proofs.GivenFacts.{facts_given}
use Rattle.command_runs.proofs.Traces.{facts_of_first}

-- A placed text is that of a piece, which stands at that place of its share.
abbrev pub IsAt : (List ℕ → Option (List ℕ)) → List PieceParts → Placed → PieceParts → Type 0
IsAt file all text piece = IsTextOf file piece text.piece × (piece_at all text.node text.at ≡ Some piece)

abbrev pub AreAt : (List ℕ → Option (List ℕ)) → List PieceParts → List Placed → List PieceParts → Type 0
AreAt file all [] [] = Unit {0}
AreAt file all [] (piece ∷ pieces) = ⊥
AreAt file all (text ∷ texts) [] = ⊥
AreAt file all (text ∷ texts) (piece ∷ pieces) = IsAt file all text piece × AreAt file all texts pieces

at_both : (file : List ℕ → Option (List ℕ)) (all : List PieceParts) (texts more : List Placed) (pieces others : List PieceParts)
    → AreAt file all texts pieces → AreAt file all more others → AreAt file all (texts ++ more) (pieces ++ others)
at_both file all [] more [] others a b = b
at_both file all [] more (p ∷ ps) others a b = absurd a
at_both file all (t ∷ ts) more [] others a b = absurd a
at_both file all (t ∷ ts) more (p ∷ ps) others a b = (a.0, at_both file all ts more ps others a.1 b)

-- what stands behind a front
get_at : {X : Type 0} (front : List X) (x : X) (back : List X) → slice_get (front ++ x ∷ back) (length front) ≡ Some x
get_at [] x back = refl
get_at (y ∷ ys) x back = get_at ys x back

-- the rest of a share, from a place on
at_from : (file : List ℕ → Option (List ℕ)) (all : List PieceParts) (node : Side) (worker : Worker) (place : ℕ) (front pieces : List PieceParts) (texts : List TextPiece)
    → share_of node worker all ≡ front ++ pieces → place ≡ length front → AreTextsOf file pieces texts
    → AreAt file all (placed_from node worker place texts) pieces
at_from file all node worker place front [] texts cut at are =
    subst (λ (ts : List TextPiece). AreAt file all (placed_from node worker place ts) []) (sym are) tt
at_from file all node worker place front (p ∷ ps) texts cut at are =
    let here : piece_at all node (place_of worker place) ≡ Some p =
    ap₂ (λ (qs : List PieceParts) (n : ℕ). slice_get qs n) cut at ∙ get_at front p ps in
    let next : place + 1 ≡ length (front ++ p ∷ []) = ap (λ (n : ℕ). n + 1) at ∙ sym (length-append front (p ∷ [])) in
    subst (λ (ts : List TextPiece). AreAt file all (placed_from node worker place ts) (p ∷ ps)) (sym are.4)
    ((are.2, here), at_from file all node worker (place + 1) (front ++ p ∷ []) ps are.1 (cut ∙ sym (append_assoc front (p ∷ []) ps)) next are.3)

pub all_at : (file : List ℕ → Option (List ℕ)) (pieces : List PieceParts) (texts : AllTexts) → AreShares file pieces texts
    → AreAt file pieces (all_pieces texts.first texts.second) (by_node pieces)
all_at file pieces texts are =
    at_both file pieces _ _ _ _
    (at_both file pieces _ _ _ _
    (at_from file pieces sides.First workers.First 0 [] (share_of sides.First workers.First pieces) texts.first.first.items refl refl (are sides.First workers.First))
    (at_from file pieces sides.First workers.Second 0 [] (share_of sides.First workers.Second pieces) texts.first.second.items refl refl (are sides.First workers.Second)))
    (at_both file pieces _ _ _ _
    (at_from file pieces sides.Second workers.First 0 [] (share_of sides.Second workers.First pieces) texts.second.first.items refl refl (are sides.Second workers.First))
    (at_from file pieces sides.Second workers.Second 0 [] (share_of sides.Second workers.Second pieces) texts.second.second.items refl refl (are sides.Second workers.Second)))

-- one text, with those before it and its piece
pub record Stands (file : List ℕ → Option (List ℕ)) (all : List PieceParts) (before : List Placed) (text : Placed) (pieces : List PieceParts) : Type 0 where
  pub front : List PieceParts
  pub piece : PieceParts
  pub back : List PieceParts
  pub cut : pieces ≡ front ++ piece ∷ back
  pub front_at : AreAt file all before front
  pub is_at : IsAt file all text piece

pub stands_in : (file : List ℕ → Option (List ℕ)) (all : List PieceParts) (before : List Placed) (text : Placed) (after : List Placed) (pieces : List PieceParts)
    → AreAt file all (before ++ text ∷ after) pieces → Stands file all before text pieces
stands_in file all [] text after [] are = absurd are
stands_in file all [] text after (p ∷ ps) are = record { front = []; piece = p; back = ps; cut = refl; front_at = tt; is_at = are.0 }
stands_in file all (b ∷ bs) text after [] are = absurd are
stands_in file all (b ∷ bs) text after (p ∷ ps) are =
    let rest : Stands file all bs text ps = stands_in file all bs text after ps are.1 in
    record {
      front = p ∷ rest.front;
      piece = rest.piece;
      back = rest.back;
      cut = ap (λ (qs : List PieceParts). p ∷ qs) rest.cut;
      front_at = (are.0, rest.front_at);
      is_at = rest.is_at;
    }

-- whole texts tell facts
pub traced : SegmentsTellAll → (file : List ℕ → Option (List ℕ)) (all : List PieceParts) (texts : List Placed) (pieces : List PieceParts) → AreAt file all texts pieces
    → All (λ (t : Placed). IsWhole t.piece) texts → (trace : Trace) × TellTrace file pieces trace
traced tells file all [] [] are whole = ([], refl)
traced tells file all [] (p ∷ ps) are whole = absurd are
traced tells file all (t ∷ ts) [] are whole = absurd are
traced tells file all (t ∷ ts) (p ∷ ps) are whole =
    let first : IsWhole t.piece = All-head (λ (u : Placed). IsWhole u.piece) t ts whole in
    let rest : (trace : Trace) × TellTrace file ps trace = traced tells file all ts ps are.1 (All-tail (λ (u : Placed). IsWhole u.piece) t ts whole) in
    let own : Trace = facts_of_all first.0 in
    (own ++ rest.0, (own, rest.0, facts_given tells file p t.piece first.0 are.0.0 first.1, rest.1, refl))

pub whole_known : SegmentsTellAll → (file : List ℕ → Option (List ℕ)) (all : List PieceParts) (texts : List Placed) (pieces : List PieceParts) → AreAt file all texts pieces
    → All (λ (t : Placed). IsWhole t.piece) texts → AreWhole file pieces
whole_known tells file all texts pieces are whole =
    let trace = traced tells file all texts pieces are whole in
    (view_of trace.0, (trace.0, trace.1, refl))

-- ---- ranks

rank_of : (rank first : ℕ) (events : List Event) (segments : List PlacedEvents) (i : ℕ) (segment : PlacedEvents) → AreSegments rank first events segments
    → i < length segments → get_or segments i segment ≡ segment → segment.rank ≡ rank
rank_of rank first events [] i segment are below e = absurd (omega (arith, below))
rank_of rank first events (s ∷ ss) zero segment are below e =
    subst (λ (t : PlacedEvents). t.rank ≡ rank) e (ap (λ (t : PlacedEvents). t.rank) are.3)
rank_of rank first events (s ∷ ss) (suc i) segment are below e = rank_of rank (first + 32768) are.0 ss i segment are.4 (omega (arith, below)) e

-- segments among which there is one tell something
tell_some : (rank first : ℕ) (events : List Event) (segments : List PlacedEvents) (i : ℕ) → AreSegments rank first events segments
    → i < length segments → facts_of_all segments ≢ []
tell_some rank first events [] i are below = absurd (omega (arith, below))
tell_some rank first events (s ∷ ss) i are below = facts_of_first (s ∷ ss) s (omega arith) refl are.2.some

inside_of : SegmentsTellAll → (file : List ℕ → Option (List ℕ)) (layout : Parts) (piece : PieceParts) (text : TextPiece) → IsTextOf file piece text
    → IsWithin layout text → IsInside file layout.ranks piece
inside_of tells file layout piece text is ([], gives, all) = inr (facts_given tells file piece text [] is gives)
inside_of tells file layout piece text is (s ∷ ss, gives, all) =
    let own : s.rank ≡ text.rank = ap (λ (t : PlacedEvents). t.rank) gives.2.3 in
    inl (subst (λ (rank : ℕ). rank < layout.ranks) (own ∙ is.0) (All-head (λ (t : PlacedEvents). t.rank < layout.ranks) s ss all))

inside_each : SegmentsTellAll → (file : List ℕ → Option (List ℕ)) (layout : Parts) (all : List PieceParts) (texts : List Placed) (pieces : List PieceParts)
    → AreAt file all texts pieces → All (λ (t : Placed). IsWithin layout t.piece) texts → All (IsInside file layout.ranks) pieces
inside_each tells file layout all [] [] are within = All-nil (IsInside file layout.ranks)
inside_each tells file layout all [] (p ∷ ps) are within = absurd are
inside_each tells file layout all (t ∷ ts) [] are within = absurd are
inside_each tells file layout all (t ∷ ts) (p ∷ ps) are within =
    All-cons (IsInside file layout.ranks) p ps
    (inside_of tells file layout p t.piece are.0.0 (All-head (λ (u : Placed). IsWithin layout u.piece) t ts within))
    (inside_each tells file layout all ts ps are.1 (All-tail (λ (u : Placed). IsWithin layout u.piece) t ts within))

whole_each : (layout : Parts) (texts : List Placed) → All (λ (t : Placed). IsWithin layout t.piece) texts → All (λ (t : Placed). IsWhole t.piece) texts
whole_each layout [] within = All-nil (λ (u : Placed). IsWhole u.piece)
whole_each layout (t ∷ ts) within =
    let first : IsWithin layout t.piece = All-head (λ (u : Placed). IsWithin layout u.piece) t ts within in
    All-cons (λ (u : Placed). IsWhole u.piece) t ts (first.0, first.1) (whole_each layout ts (All-tail (λ (u : Placed). IsWithin layout u.piece) t ts within))

-- All texts are of ranks of the layout.
pub sound : SegmentsTellAll → (file : List ℕ → Option (List ℕ)) (layout : Parts) (pieces : List PieceParts) (texts : AllTexts) → AreShares file pieces texts
    → All (λ (t : Placed). IsWithin layout t.piece) (all_pieces texts.first texts.second) → AreSound file layout.ranks (by_node pieces)
sound tells file layout pieces texts are within =
    let at : AreAt file pieces (all_pieces texts.first texts.second) (by_node pieces) = all_at file pieces texts are in (
      whole_known tells file pieces (all_pieces texts.first texts.second) (by_node pieces) at (whole_each layout (all_pieces texts.first texts.second) within),
      inside_each tells file layout pieces (all_pieces texts.first texts.second) (by_node pieces) at within,
    )

-- the piece of one text
piece_of : (file : List ℕ → Option (List ℕ)) (all : List PieceParts) (texts : List Placed) (pieces : List PieceParts) (i : ℕ) (one : Placed) → AreAt file all texts pieces
    → i < length texts → get_or texts i one ≡ one → (piece : PieceParts) × Contains pieces piece × IsTextOf file piece one.piece
piece_of file all [] pieces i one are below e = absurd (omega (arith, below))
piece_of file all (t ∷ ts) [] i one are below e = absurd are
piece_of file all (t ∷ ts) (p ∷ ps) zero one are below e =
    (p, (0, omega arith, refl), subst (λ (u : Placed). IsTextOf file p u.piece) e are.0.0)
piece_of file all (t ∷ ts) (p ∷ ps) (suc i) one are below e =
    let rest = piece_of file all ts ps i one are.1 (omega (arith, below)) e in
    let among : suc rest.1.0 < length (p ∷ ps) = omega (arith, rest.1.1) in
    (rest.0, (suc rest.1.0, among, rest.1.2), rest.2)

outside_of : SegmentsTellAll → (file : List ℕ → Option (List ℕ)) (layout : Parts) (piece : PieceParts) (text : TextPiece) → IsTextOf file piece text
    → IsForeign layout text → IsOutside file layout.ranks piece
outside_of tells file layout piece text is (segments, segment, gives, among, past) =
    let own : segment.rank ≡ text.rank = rank_of text.rank text.first gives.0 segments among.0 segment gives.2 among.1 among.2 in (
      subst (λ (rank : ℕ). layout.ranks ≤ rank) (own ∙ is.0) past,
      (facts_of_all segments, facts_given tells file piece text segments is gives, tell_some text.rank text.first gives.0 segments among.0 gives.2 among.1),
    )

-- All texts are whole, and one is of a rank that the layout lacks.
pub stranger : SegmentsTellAll → (file : List ℕ → Option (List ℕ)) (layout : Parts) (pieces : List PieceParts) (texts : AllTexts) → AreShares file pieces texts
    → All (λ (t : Placed). IsWhole t.piece) (all_pieces texts.first texts.second)
    → (one : Placed) × Contains (all_pieces texts.first texts.second) one × IsForeign layout one.piece → HaveStranger file layout.ranks (by_node pieces)
stranger tells file layout pieces texts are whole foreign =
    let at : AreAt file pieces (all_pieces texts.first texts.second) (by_node pieces) = all_at file pieces texts are in
    let found = piece_of file pieces (all_pieces texts.first texts.second) (by_node pieces) foreign.1.0 foreign.0 at foreign.1.1 foreign.1.2 in (
      whole_known tells file pieces (all_pieces texts.first texts.second) (by_node pieces) at whole,
      (found.0, found.1, outside_of tells file layout found.0 foreign.0.piece found.2 foreign.2),
    )
