-- What the owner took of a worker is what the worker posted.
use Rattle.std.proofs.Common.{◌≡◌, ◌≤◌, ◌+◌, ℕ, Option, Some, None, Bool, true, false, cond, List, [], ◌∷◌, map, refl, sym, ap, ◌∙◌, subst, arith}
use Rattle.std.proofs.lemmas.List.{append-nil}
use Rattle.crossbeam_channel.specs.Claims.{view}
use Rattle.std.specs.List.{cons_option, filter, filter_map}
use Rattle.mpi_model.specs.Layouts.{Parts}
use Rattle.trace_know.specs.Segment.{PlacedEvents}
use Rattle.trace_node.specs.Node.{Held}
use Rattle.trace_crew.specs.declared.queue.item.WorkerPost.{WorkerPost}
use Rattle.trace_crew.specs.declared.queue.item.Post.{Post}
use Rattle.trace_crew.specs.declared.queue.item.Post.TheVariants.{Segment, End}
use Rattle.trace_crew.specs.declared.queue.item.Worker.{Worker}
use Rattle.trace_crew.specs.declared.queue.item.Worker.TheVariants.{First, Second}
use Rattle.trace_crew.specs.declared.queue.rule.WorkerStanding.TheVariants.{Joined}
use Rattle.trace_crew.specs.declared.queue.rule.SeatView.{SeatView}
use Rattle.trace_crew.specs.declared.queue.rule.SeatView.TheVariants.{Owner}
use Rattle.trace_crew.specs.Views.{after_join, desk, is_from, of, posts_of}
use Rattle.trace_crew.specs.Rule.{Arrived}
use Rattle.trace_crew.specs.declared.piece.TextPiece.{TextPiece}
use Rattle.trace_crew.specs.declared.piece.FaultyPiece.{FaultyPiece}
use Rattle.trace_crew.specs.declared.threads.CrewOut.{CrewOut}
use Rattle.trace_crew.specs.declared.owner.Refusal.{Refusal}
use Rattle.trace_crew.specs.Pieces.{Gave}
use Rattle.trace_crew.specs.Taking.{HasAll, IsKept, Taken, counted, ends_in, is_end, sent, sent_by, source}
use Rattle.trace_crew.proofs.Sorting.{sorted_kept}
use Rattle.trace_crew.specs.Crewed.{HasGathered, HasRun, IsCrewOut, segments_by}
use Rattle.trace_crew.specs.Work.{ends_at, ends_posted, is_closed}
use Rattle.trace_crew.specs.declared.worker.Worked.{Worked}
use Rattle.trace_crew.specs.declared.worker.Stop.{Stop}
use Rattle.trace_crew.specs.declared.worker.Stop.TheVariants.{Memory, Closed}

-- the segments of one worker among segments with their workers
abbrev by : Worker → List (Worker × PlacedEvents) → List PlacedEvents
by w [] = []
by w (p ∷ ps) = cond (is_from w p.0) (p.1 ∷ by w ps) (by w ps)

abbrev with_post : Post → List PlacedEvents → List PlacedEvents
with_post (Segment segment) segments = segment ∷ segments
with_post End segments = segments

-- the segments of items
abbrev posted : List WorkerPost → List PlacedEvents
posted [] = []
posted (item ∷ items) = with_post item.post (posted items)

taken_cond : (b : Bool) (t : Taken) (ts : List Taken) → map (λ (u : Taken). u.segment) (cond b (t ∷ ts) ts) ≡ cond b (t.segment ∷ map (λ (u : Taken). u.segment) ts) (map (λ (u : Taken). u.segment) ts)
taken_cond true t ts = refl
taken_cond false t ts = refl

by_sources : (w : Worker) (taken : List Taken) → segments_by w taken ≡ by w (map source taken)
by_sources w [] = refl
by_sources w (t ∷ ts) = taken_cond (is_from w t.from) t (filter (λ (u : Taken). is_from w u.from) ts) ∙ ap (λ l. cond (is_from w t.from) (t.segment ∷ l) l) (by_sources w ts)

posted_cond : (b : Bool) (item : WorkerPost) (items : List WorkerPost) → posted (cond b (item ∷ items) items) ≡ cond b (with_post item.post (posted items)) (posted items)
posted_cond true item items = refl
posted_cond false item items = refl

either : (b : Bool) (l : List PlacedEvents) → l ≡ cond b l l
either true l = refl
either false l = refl

by_post : (w from : Worker) (post : Post) (rest : List (Worker × PlacedEvents)) → by w (cons_option (sent_by from post) rest) ≡ cond (is_from w from) (with_post post (by w rest)) (by w rest)
by_post w from (Segment segment) rest = refl
by_post w from End rest = either (is_from w from) (by w rest)

by_items : (w : Worker) (items : List WorkerPost) → by w (filter_map sent items) ≡ posted (of w items)
by_items w [] = refl
by_items w (i ∷ is) = by_post w i.from i.post (filter_map sent is) ∙ ap (λ l. cond (is_from w i.from) (with_post i.post l) l) (by_items w is) ∙ sym (posted_cond (is_from w i.from) i (of w is))

posted_all : (w : Worker) (segments : List PlacedEvents) → posted (posts_of w segments) ≡ segments
posted_all w [] = refl
posted_all w (s ∷ ss) = ap (λ l. s ∷ l) (posted_all w ss)

-- the segments of a worker among those that were taken are those that it posted
all_of : (w : Worker) (taken : List Taken) (items : List WorkerPost) (segments : List PlacedEvents) → map source taken ≡ filter_map sent items → of w items ≡ posts_of w segments → segments_by w taken ≡ segments
all_of w taken items segments are all = by_sources w taken ∙ ap (by w) are ∙ by_items w items ∙ ap posted all ∙ posted_all w segments

-- an end of one worker is none of the other's
one_parted : (w : Worker) (item : WorkerPost) (items : List WorkerPost)
    → counted (is_end item) + (ends_in (of First items) + ends_in (of Second items)) ≡ ends_in (cond (is_from First w) (item ∷ of First items) (of First items)) + ends_in (cond (is_from Second w) (item ∷ of Second items) (of Second items))
one_parted First item items = omega arith
one_parted Second item items = omega arith

-- The ends among some items are those of both workers.
ends_parted : (items : List WorkerPost) → ends_in items ≡ ends_in (of First items) + ends_in (of Second items)
ends_parted [] = refl
ends_parted (item ∷ items) = ap (λ n. counted (is_end item) + n) (ends_parted items) ∙ one_parted item.from item items

-- Where all that two workers posted has arrived, so have the ends that they posted.
ends_arrived : (v : SeatView) (taken first second : List WorkerPost) → v ≡ Owner (desk taken (Joined first) (Joined second)) → Arrived v [] → ends_in taken ≡ ends_in first + ends_in second
ends_arrived v taken first second is h =
    let a = subst (λ (u : SeatView). Arrived u []) is h in
    let one : of First taken ≡ first = ap (of First) (sym (append-nil taken)) ∙ a.0 in
    let other : of Second taken ≡ second = ap (of Second) (sym (append-nil taken)) ∙ a.1 in
    ends_parted taken ∙ (λ i. ends_in (one i) + ends_in (other i))

-- Those that were there before are no more than both posted.
pub ends_left : (v : SeatView) (before taken first second : List WorkerPost) → v ≡ Owner (desk taken (Joined first) (Joined second)) → ends_in before ≤ ends_in taken → Arrived v [] → ends_in before ≤ ends_in first + ends_in second
ends_left v before taken first second is le h = let e = ends_arrived v taken first second is h in omega (arith, le, e)

at_most_one : (stop : Option Stop) → ends_at stop ≤ 1
at_most_one None = omega arith
at_most_one (Some Memory) = omega arith
at_most_one (Some Closed) = omega arith

open_beside : (stop : Option Stop) (n : ℕ) → n ≤ 1 → 2 ≤ ends_at stop + n → is_closed stop ≡ false
open_beside None n few h = refl
open_beside (Some Memory) n few h = refl
open_beside (Some Closed) n few h = absurd (omega (arith, few, h))

-- Where the owner took two ends, and no more than both workers posted, neither worker found the queue closed.
pub neither_closed : {layout : Parts} {first second : List TextPiece} {owner both : SeatView} {node : Held} {refused : List Refusal} {one other : Worked} → (h : HasRun layout first second owner node refused one other)
    → both ≡ after_join (after_join owner (view one.seat)) (view other.seat)
    → ((taken ones others : List WorkerPost) → both ≡ Owner (desk taken (Joined ones) (Joined others)) → ends_in taken ≤ ends_in ones + ends_in others)
    → (is_closed one.stop ≡ false) × (is_closed other.stop ≡ false)
neither_closed {one = one} {other = other} h joined arrived =
    let p = h.one_worked.poster in
    let q = h.other_worked.poster in
    let le = arrived h.taken p.0 q.0 (joined ∙ (λ i. after_join (after_join (h.owner_is i) (p.1 i)) (q.1 i))) in
    let first_ends : ends_in p.0 ≡ ends_at one.stop = sym (ap ends_posted p.1) ∙ h.one_worked.ends in
    let second_ends : ends_in q.0 ≡ ends_at other.stop = sym (ap ends_posted q.1) ∙ h.other_worked.ends in
    let two = h.two in
    let all : 2 ≤ ends_at one.stop + ends_at other.stop = omega (arith, two, le, first_ends, second_ends) in
    (open_beside one.stop (ends_at other.stop) (at_most_one other.stop) all, open_beside other.stop (ends_at one.stop) (at_most_one one.stop) (omega (arith, all)))

-- A node that is kept has all still.
pub settled : (layout : Parts) (ones others : List WorkerPost) (node later : Held) (refused still : List Refusal) → HasAll layout ones others node refused → IsKept node later → still ≡ refused
    → HasAll layout ones others later still
settled layout ones others node later refused still all kept same =
    record { items = all.items; first_all = all.first_all; second_all = all.second_all; sorted = sorted_kept layout all.items node later refused still kept same all.sorted }

-- Where the owner took all that the workers posted, the crew leaves what it promises.
pub crewed : (layout : Parts) (first second : List TextPiece) (out : CrewOut) (node : Held) (refused : List Refusal) (faults : List FaultyPiece)
    → out.node ≡ node → out.refused.items ≡ refused → out.faults.items ≡ faults → HasGathered layout first second node refused faults → IsCrewOut layout first second out
crewed layout first second out node refused faults is_node is_refused is_faults h =
    let s = h.all.sorted.1 in
    let taken = h.all.sorted.0 in
    record {
      taken = taken;
      first_faults = h.first_faults;
      second_faults = h.second_faults;
      first_gave = subst (λ (l : List PlacedEvents). Gave First first l h.first_faults) (sym (all_of First taken h.all.items h.ones s.all h.all.first_all)) h.first_gave;
      second_gave = subst (λ (l : List PlacedEvents). Gave Second second l h.second_faults) (sym (all_of Second taken h.all.items h.others s.all h.all.second_all)) h.second_gave;
      faults = is_faults ∙ h.faults_are;
      fair = s.fair;
      refused = is_refused ∙ s.listed;
      layout_is = ap (λ (n : Held). n.layout) is_node ∙ s.layout_is;
      know = ap (λ (n : Held). n.know) is_node ∙ s.know;
    }
