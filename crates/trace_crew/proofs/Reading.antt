-- A worker reads one text more.
use Rattle.std.proofs.Common.{◌≡◌, ℕ, ◌+◌, ◌<◌, Option, Some, None, inl, inr, suc, subst, take, get_or, List, [], ◌∷◌, ◌++◌, map, length, refl, sym, ap, ◌∙◌, arith, append_assoc}
use Rattle.std.specs.List.{flat_map}
use Rattle.std.proofs.lemmas.Grind.{flat_map-append}
use Rattle.std.proofs.lemmas.List.{append-nil, length-take, map-append, take_more}
use Rattle.trace_know.specs.Segment.{PlacedEvents}
use Rattle.trace_crew.specs.declared.queue.item.WorkerPost.{WorkerPost}
use Rattle.trace_crew.specs.declared.queue.item.Worker.{Worker}
use Rattle.trace_crew.specs.declared.queue.rule.SeatView.{SeatView}
use Rattle.trace_crew.specs.declared.queue.rule.SeatView.TheVariants.{Owner, Poster, Spent}
use Rattle.trace_crew.specs.Views.{IsPoster, after_post, end_item, segment_item}
use Rattle.trace_crew.specs.Taking.{ends_in}
use Rattle.trace_crew.specs.declared.piece.TextPiece.{TextPiece}
use Rattle.trace_crew.specs.declared.piece.FaultyPiece.{FaultyPiece}
use Rattle.trace_crew.specs.Pieces.{AreOutcomes, IsOutcome, Outcome, faults_from, faults_in, segments_in}
use Rattle.trace_crew.specs.declared.worker.Stop.{Stop}
use Rattle.trace_crew.specs.declared.worker.Stop.TheVariants.{Closed, Memory}
use Rattle.trace_crew.specs.Work.{Ends, HasEnded, HasRead, HasWorked, ReadsOne, after_posts, ends_at, ends_posted}
use Rattle.trace_crew.proofs.Sorting.{ends_more}

-- one outcome more
are_snoc : (pieces : List TextPiece) (outcomes : List Outcome) (piece : TextPiece) (o : Outcome) → AreOutcomes pieces outcomes → IsOutcome piece o → AreOutcomes (pieces ++ piece ∷ []) (outcomes ++ o ∷ [])
are_snoc [] [] piece o h is = (is, tt)
are_snoc [] (p ∷ ps) piece o h is = absurd h
are_snoc (q ∷ qs) [] piece o h is = absurd h
are_snoc (q ∷ qs) (p ∷ ps) piece o h is = (h.0, are_snoc qs ps piece o h.1 is)

-- there are as many outcomes as pieces
as_many : (pieces : List TextPiece) (outcomes : List Outcome) → AreOutcomes pieces outcomes → length outcomes ≡ length pieces
as_many [] [] h = refl
as_many [] (p ∷ ps) h = absurd h
as_many (q ∷ qs) [] h = absurd h
as_many (q ∷ qs) (p ∷ ps) h = ap suc (as_many qs ps h.1)

faults_snoc : (worker : Worker) (place : ℕ) (outcomes : List Outcome) (o : Outcome) → faults_from worker place (outcomes ++ o ∷ []) ≡ faults_from worker place outcomes ++ faults_in worker (place + length outcomes) o
faults_snoc worker place [] o =
    let e : place ≡ place + length {A = Outcome} [] = omega arith in
    append-nil (faults_in worker place o) ∙ ap (λ n. faults_in worker n o) e
faults_snoc worker place (p ∷ ps) o =
    ap (λ l. faults_in worker place p ++ l) (faults_snoc worker (place + 1) ps o)
    ∙ sym (append_assoc (faults_in worker place p) (faults_from worker (place + 1) ps) (faults_in worker (place + 1 + length ps) o))
    ∙ ap (λ n. (faults_in worker place p ++ faults_from worker (place + 1) ps) ++ faults_in worker n o) (omega arith)

-- A worker that has read no text has posted nothing.
pub none_read : (w : Worker) (seat : SeatView) (faults : List FaultyPiece) → seat ≡ Poster w [] → faults ≡ [] → HasRead w [] seat faults
none_read w seat faults is none = record { segments = []; posted = is; gave = record { outcomes = []; are = tt; segments_are = refl; faults_are = none } }

-- One text more was read.
pub one_read : (w : Worker) (place : ℕ) (pieces : List TextPiece) (piece : TextPiece) (old new : SeatView) (faults more : List FaultyPiece)
    → place ≡ length pieces → HasRead w pieces old faults → ReadsOne w place piece old faults new more → HasRead w (pieces ++ piece ∷ []) new more
one_read w place pieces piece old new faults more at h r =
    let g = h.gave in
    let s = segments_in r.outcome in
    let e : place ≡ 0 + length g.outcomes = omega (arith, at, as_many pieces g.outcomes g.are) in
    record {
      segments = h.segments ++ s;
      posted = r.posted ∙ ap (λ v. after_posts v (map (segment_item w) s)) h.posted ∙ ap (Poster w) (sym (map-append (segment_item w) h.segments s));
      gave = record {
        outcomes = g.outcomes ++ r.outcome ∷ [];
        are = are_snoc pieces g.outcomes piece r.outcome g.are r.is;
        segments_are = ap (λ l. l ++ s) g.segments_are ∙ ap (λ l. flat_map segments_in g.outcomes ++ l) (sym (append-nil s)) ∙ sym (flat_map-append segments_in g.outcomes (r.outcome ∷ []));
        faults_are = r.noted
            ∙ ap (λ l. l ++ faults_in w place r.outcome) g.faults_are
            ∙ ap (λ n. faults_from w 0 g.outcomes ++ faults_in w n r.outcome) e
            ∙ sym (faults_snoc w 0 g.outcomes r.outcome);
      };
    }

-- One text more of a list was read, by a worker that has not changed.
pub read_further : (w v : Worker) (pieces : List TextPiece) (place : ℕ) (piece : TextPiece) (old new : SeatView) (faults more : List FaultyPiece)
    → v ≡ w → place < length pieces → piece ≡ get_or pieces place piece → HasRead w (take place pieces) old faults → ReadsOne v place piece old faults new more → HasRead w (take (place + 1) pieces) new more
read_further w v pieces place piece old new faults more same inside is h r =
    let upto : take (place + 1) pieces ≡ take place pieces ++ piece ∷ [] = take_more pieces place piece inside ∙ ap (λ (p : TextPiece). take place pieces ++ p ∷ []) (sym is) in
    let at : place ≡ length (take place pieces) = omega (arith, inside, length-take place pieces) in
    let r' : ReadsOne w place piece old faults new more = subst (λ (u : Worker). ReadsOne u place piece old faults new more) same r in
    subst (λ (l : List TextPiece). HasRead w l new more) (sym upto) (one_read w place (take place pieces) piece old new faults more at h r')

-- Nothing more was posted.
pub none_more : (w : Worker) (v : SeatView) (posted : List WorkerPost) → v ≡ Poster w posted → v ≡ after_posts v []
none_more w v posted e = e ∙ ap (Poster w) (sym (append-nil posted)) ∙ sym (ap (λ u. after_posts u []) e)

-- All texts were read, and the end was posted.
all_read : (w : Worker) (pieces : List TextPiece) (old new : SeatView) (faults : List FaultyPiece) → HasRead w pieces old faults → new ≡ after_posts old (end_item w ∷ []) → HasEnded w pieces new faults
all_read w pieces old new faults h e = record { segments = h.segments; posted = e ∙ ap (λ v. after_posts v (end_item w ∷ [])) h.posted; gave = h.gave }

-- A segment that is posted is no end.
pub no_end_more : (w : Worker) (segment : PlacedEvents) (v : SeatView) → ends_posted (after_post v (segment_item w segment)) ≡ ends_posted v
no_end_more w segment (Poster u posted) = let h = ends_more posted (segment_item w segment) in omega (arith, h)
no_end_more w segment (Owner d) = refl
no_end_more w segment Spent = refl

-- one end more
one_end : (w u : Worker) (posted : List WorkerPost) (old new : SeatView) → old ≡ Poster w posted → ends_posted old ≡ 0 → new ≡ after_posts old (end_item u ∷ []) → ends_posted new ≡ 1
one_end w u posted old new is none e =
    let before : ends_in posted ≡ 0 = sym (ap ends_posted is) ∙ none in
    let more = ends_more posted (end_item u) in
    let after : ends_in (posted ++ end_item u ∷ []) ≡ 1 = omega (arith, before, more) in
    ap ends_posted (e ∙ ap (λ v. after_posts v (end_item u ∷ [])) is) ∙ after

-- what a worker leaves that has posted its end
left_ended : (w u : Worker) (pieces : List TextPiece) (old new : SeatView) (faults : List FaultyPiece) (stop : Option Stop) → ends_at stop ≡ 1 → IsPoster w old → ends_posted old ≡ 0
    → new ≡ after_posts old (end_item u ∷ []) → (stop ≡ None → HasEnded w pieces new faults) → HasWorked w pieces new faults stop
left_ended w u pieces old new faults stop one p none e whole = record {
  poster = (p.0 ++ end_item u ∷ [], e ∙ ap (λ v. after_posts v (end_item u ∷ [])) p.1);
  ends = one_end w u p.0 old new p.1 none e ∙ sym one;
  whole = whole;
}

-- A worker whose owner had left leaves what it posted.
pub closed_work : (w : Worker) (pieces : List TextPiece) (seat : SeatView) (faults : List FaultyPiece) → IsPoster w seat → ends_posted seat ≡ 0 → HasWorked w pieces seat faults (Some Closed)
closed_work w pieces seat faults p none = record { poster = p; ends = none; whole = λ is. absurd (cc) }

-- the same, where it found that by its last post
left_closed : (w : Worker) (pieces : List TextPiece) (old new : SeatView) (faults : List FaultyPiece) (result : Option Stop) → IsPoster w old → ends_posted old ≡ 0 → result ≡ Some Closed → new ≡ old
    → HasWorked w pieces new faults result
left_closed w pieces old new faults result p none is same =
    subst (λ (q : SeatView × Option Stop). HasWorked w pieces q.0 faults q.1) (λ i. (sym same i, sym is i)) (closed_work w pieces old faults p none)

-- A worker that read all its texts leaves them.
pub ended_work : (v w : Worker) (pieces : List TextPiece) (old new : SeatView) (faults more : List FaultyPiece) (result : Option Stop) → v ≡ w → IsPoster w old → ends_posted old ≡ 0 → more ≡ faults
    → HasRead w pieces old faults → Ends v None old result new → HasWorked w pieces new more result
ended_work v w pieces old new faults more result same p none kept read (inl h) =
    let e : new ≡ after_posts old (end_item w ∷ []) = h.1 ∙ ap (λ u. after_posts old (end_item u ∷ [])) same in
    subst (λ (q : List FaultyPiece × Option Stop). HasWorked w pieces new q.0 q.1) (λ i. (sym kept i, sym h.0 i)) (left_ended w w pieces old new faults None refl p none e (λ is. all_read w pieces old new faults read e))
ended_work v w pieces old new faults more result same p none kept read (inr h) = left_closed w pieces old new more result p none h.0 h.1

-- A worker that had no memory to note a fault leaves an end all the same.
pub stopped_work : (v w : Worker) (pieces : List TextPiece) (old new : SeatView) (more : List FaultyPiece) (result : Option Stop) → IsPoster w old → ends_posted old ≡ 0 → Ends v (Some Memory) old result new
    → HasWorked w pieces new more result
stopped_work v w pieces old new more result p none (inl h) =
    subst (λ (s : Option Stop). HasWorked w pieces new more s) (sym h.0) (left_ended w v pieces old new more (Some Memory) refl p none h.1 (λ is. absurd (cc)))
stopped_work v w pieces old new more result p none (inr h) = left_closed w pieces old new more result p none h.0 h.1
