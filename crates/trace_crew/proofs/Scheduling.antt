-- A crew follows the schedule of one node.
use Rattle.std.proofs.Common.{◌≡◌, ◌<◌, ◌≤◌, Bool, Option, Some, None, List, [], ◌∷◌, ◌++◌, refl, sym, ap, ◌∙◌, subst, append_assoc, ◌⊎◌, inl, inr, ⊎_elim}
use Rattle.std.specs.Prelude.{drop, take, if◌then◌else◌}
use Rattle.std.specs.List.{flat_map}
use Rattle.std.proofs.lemmas.Bool.{le-ltb, lt-ltb}
use Rattle.std.proofs.lemmas.Grind.{flat_map-append}
use Rattle.std.proofs.lemmas.List.{append-nil}
use Rattle.mpi_model.specs.Layouts.{Parts}
use Rattle.trace_know.specs.Segment.{PlacedEvents}
use Rattle.trace_know.specs.Trace.{facts_of}
use Rattle.trace_node.specs.Schedule.{NodeState, node_state, with_post, with_take}
use Rattle.trace_node.specs.declared.fault.NodeFault.{NodeFault}
use Rattle.trace_node.specs.declared.fault.NodeFault.TheVariants.{Rank, Memory}
use Rattle.trace_crew.specs.declared.queue.item.WorkerPost.{WorkerPost}
use Rattle.trace_crew.specs.declared.queue.item.Post.TheVariants.{Segment, End}
use Rattle.trace_crew.specs.Taking.{Taken, joined_in, joined_for, taken_as}
use Rattle.trace_crew.specs.Scheduled.{CanMove, FollowsSchedule, LeadsTo, Move, Posts, Takes, Without, after_all, reached_for, state_of, waiting_in}

-- ---- one item more

-- the segments of a queue
abbrev waiting : Parts → List WorkerPost → List PlacedEvents
waiting layout queue = flat_map (λ item. waiting_in layout item.post) queue

-- the segments that were joined
abbrev reached : List Taken → List PlacedEvents
reached taken = flat_map (λ t. reached_for t.segment t.fault) taken

sent_more : (layout : Parts) (queue : List WorkerPost) (item : WorkerPost) → waiting layout (queue ++ item ∷ []) ≡ waiting layout queue ++ waiting_in layout item.post
sent_more layout queue item = flat_map-append (λ (i : WorkerPost). waiting_in layout i.post) queue (item ∷ []) ∙ ap (λ l. waiting layout queue ++ l) (append-nil (waiting_in layout item.post))

taken_more : (taken : List Taken) (t : Taken) → reached (taken ++ t ∷ []) ≡ reached taken ++ reached_for t.segment t.fault
taken_more taken t = flat_map-append (λ (u : Taken). reached_for u.segment u.fault) taken (t ∷ []) ∙ ap (λ l. reached taken ++ l) (append-nil (reached_for t.segment t.fault))

own_post : (layout : Parts) (item : WorkerPost) (segment : PlacedEvents) → item.post ≡ Segment segment → segment.rank < layout.ranks → waiting_in layout item.post ≡ segment ∷ []
own_post layout item segment is lt = ap (waiting_in layout) is ∙ ap (λ (b : Bool). if b then segment ∷ [] else []) (lt-ltb segment.rank layout.ranks lt)

other_post : (layout : Parts) (item : WorkerPost) (segment : PlacedEvents) → item.post ≡ Segment segment → layout.ranks ≤ segment.rank → waiting_in layout item.post ≡ []
other_post layout item segment is le = ap (waiting_in layout) is ∙ ap (λ (b : Bool). if b then segment ∷ [] else []) (le-ltb segment.rank layout.ranks le)

end_post : (layout : Parts) (item : WorkerPost) → item.post ≡ End → waiting_in layout item.post ≡ []
end_post layout item is = ap (waiting_in layout) is

-- an item that waits for nothing changes no queue
unsent : (layout : Parts) (queue : List WorkerPost) (item : WorkerPost) → waiting_in layout item.post ≡ [] → waiting layout (queue ++ item ∷ []) ≡ waiting layout queue
unsent layout queue item none = sent_more layout queue item ∙ ap (λ l. waiting layout queue ++ l) none ∙ append-nil (waiting layout queue)

same_facts : (segment : PlacedEvents) (fault : Option NodeFault) → joined_for segment fault ≡ flat_map facts_of (reached_for segment fault)
same_facts segment None = sym (append-nil (facts_of segment))
same_facts segment (Some fault) = refl

reached_known : (taken : List Taken) → flat_map joined_in taken ≡ flat_map facts_of (reached taken)
reached_known [] = refl
reached_known (t ∷ ts) =
    ap (λ l. joined_for t.segment t.fault ++ l) (reached_known ts)
    ∙ ap (λ l. l ++ flat_map facts_of (reached ts)) (same_facts t.segment t.fault)
    ∙ sym (flat_map-append facts_of (reached_for t.segment t.fault) (reached ts))

-- ---- a schedule without one of its posts

-- the front of an inbox stood in it before the moves
pub record StoodBefore (front : PlacedEvents) (rest : List PlacedEvents) (moves : List Move) (s : NodeState) : Type 0 where
  pub ahead : List PlacedEvents
  pub behind : List PlacedEvents
  pub inbox_is : s.inbox ≡ ahead ++ front ∷ behind
  pub can : CanMove moves (node_state (ahead ++ behind) s.reached)
  pub is : after_all moves (node_state (ahead ++ behind) s.reached) ≡ node_state rest (after_all moves s).reached

-- or one of the moves posted it
pub record WasPosted (front : PlacedEvents) (rest : List PlacedEvents) (moves : List Move) (s : NodeState) : Type 0 where
  pub others : List Move
  pub without : Without front moves others
  pub can : CanMove others s
  pub is : after_all others s ≡ node_state rest (after_all moves s).reached

-- where a list with one more element has this one somewhere
pub record AtEnd (front last : PlacedEvents) (inbox ahead behind : List PlacedEvents) : Type 0 where
  pub last_is : last ≡ front
  pub behind_is : behind ≡ []
  pub inbox_is : inbox ≡ ahead

pub record Inside (front last : PlacedEvents) (inbox ahead behind : List PlacedEvents) : Type 0 where
  pub back : List PlacedEvents
  pub behind_is : behind ≡ back ++ last ∷ []
  pub inbox_is : inbox ≡ ahead ++ front ∷ back

head_same : (a b : PlacedEvents) (l m : List PlacedEvents) → a ∷ l ≡ b ∷ m → a ≡ b
head_same a b l m e = cc

rest_same : (a b : PlacedEvents) (l m : List PlacedEvents) → a ∷ l ≡ b ∷ m → l ≡ m
rest_same a b l m e = cc

no_cons : (a : PlacedEvents) (l : List PlacedEvents) → [] ≡ a ∷ l → ⊥
no_cons a l e = cc

not_nil : (ahead behind : List PlacedEvents) (front : PlacedEvents) → [] ≡ ahead ++ front ∷ behind → ⊥
not_nil [] behind front e = no_cons front behind e
not_nil (a ∷ more) behind front e = no_cons a (more ++ front ∷ behind) e

where_is : (inbox ahead behind : List PlacedEvents) (front last : PlacedEvents) → inbox ++ last ∷ [] ≡ ahead ++ front ∷ behind → AtEnd front last inbox ahead behind ⊎ Inside front last inbox ahead behind
where_is [] [] behind front last e = inl (record { last_is = head_same last front [] behind e; behind_is = sym (rest_same last front [] behind e); inbox_is = refl })
where_is [] (a ∷ more) behind front last e = absurd (not_nil more behind front (rest_same last a [] (more ++ front ∷ behind) e))
where_is (x ∷ xs) [] behind front last e = inr (record { back = xs; behind_is = sym (rest_same x front (xs ++ last ∷ []) behind e); inbox_is = ap (λ (y : PlacedEvents). y ∷ xs) (head_same x front (xs ++ last ∷ []) behind e) })
where_is (x ∷ xs) (a ∷ more) behind front last e =
    let same = head_same x a (xs ++ last ∷ []) (more ++ front ∷ behind) e in
    ⊎_elim
    (λ (h : AtEnd front last xs more behind). inl (record { last_is = h.last_is; behind_is = h.behind_is; inbox_is = λ i. same i ∷ h.inbox_is i }))
    (λ (h : Inside front last xs more behind). inr (record { back = h.back; behind_is = h.behind_is; inbox_is = λ i. same i ∷ h.inbox_is i }))
    (where_is xs more behind front last (rest_same x a (xs ++ last ∷ []) (more ++ front ∷ behind) e))

posted_before : (front : PlacedEvents) (rest : List PlacedEvents) (moves : List Move) (last : PlacedEvents) (s : NodeState) → WasPosted front rest moves (with_post last s) → WasPosted front rest (Posts last ∷ moves) s
posted_before front rest moves last s h = record {
  others = Posts last ∷ h.others;
  without = record { before = Posts last ∷ h.without.before; rest = h.without.rest; moves_are = ap (λ (l : List Move). Posts last ∷ l) h.without.moves_are; others_are = ap (λ (l : List Move). Posts last ∷ l) h.without.others_are };
  can = h.can;
  is = h.is;
}

-- the last that was posted is the front
posted_now : (front : PlacedEvents) (rest : List PlacedEvents) (moves : List Move) (last : PlacedEvents) (s : NodeState) (h : StoodBefore front rest moves (with_post last s))
    → AtEnd front last s.inbox h.ahead h.behind → WasPosted front rest (Posts last ∷ moves) s
posted_now front rest moves last s h at =
    let same : node_state (h.ahead ++ h.behind) s.reached ≡ s = ap (λ (l : List PlacedEvents). node_state (h.ahead ++ l) s.reached) at.behind_is ∙ ap (λ (l : List PlacedEvents). node_state l s.reached) (append-nil h.ahead ∙ sym at.inbox_is) in record {
      others = moves;
      without = record { before = []; rest = moves; moves_are = ap (λ (g : PlacedEvents). Posts g ∷ moves) at.last_is; others_are = refl };
      can = subst (CanMove moves) same h.can;
      is = subst (λ (t : NodeState). after_all moves t ≡ node_state rest (after_all moves (with_post last s)).reached) same h.is;
    }

-- the front stood before the last was posted
stood_still : (front : PlacedEvents) (rest : List PlacedEvents) (moves : List Move) (last : PlacedEvents) (s : NodeState) (h : StoodBefore front rest moves (with_post last s))
    → Inside front last s.inbox h.ahead h.behind → StoodBefore front rest (Posts last ∷ moves) s
stood_still front rest moves last s h at =
    let same : node_state (h.ahead ++ h.behind) s.reached ≡ with_post last (node_state (h.ahead ++ at.back) s.reached) =
    ap (λ (l : List PlacedEvents). node_state (h.ahead ++ l) s.reached) at.behind_is ∙ ap (λ (l : List PlacedEvents). node_state l s.reached) (sym (append_assoc h.ahead at.back (last ∷ []))) in record {
      ahead = h.ahead;
      behind = at.back;
      inbox_is = at.inbox_is;
      can = subst (CanMove moves) same h.can;
      is = subst (λ (t : NodeState). after_all moves t ≡ node_state rest (after_all moves (with_post last s)).reached) same h.is;
    }

-- the front stood behind one that was taken
stood_behind : (front : PlacedEvents) (rest : List PlacedEvents) (moves : List Move) (one : PlacedEvents) (others : List PlacedEvents) (s : NodeState) → s.inbox ≡ one ∷ others
    → StoodBefore front rest moves (with_take s) → StoodBefore front rest (Takes ∷ moves) s
stood_behind front rest moves one others s at h =
    let tail : others ≡ h.ahead ++ front ∷ h.behind = sym (ap (λ (l : List PlacedEvents). drop 1 l) at) ∙ h.inbox_is in
    let gone : s.reached ++ take 1 s.inbox ≡ s.reached ++ one ∷ [] = ap (λ (l : List PlacedEvents). s.reached ++ take 1 l) at in
    let same : node_state (h.ahead ++ h.behind) (with_take s).reached ≡ with_take (node_state (one ∷ h.ahead ++ h.behind) s.reached) = ap (λ (l : List PlacedEvents). node_state (h.ahead ++ h.behind) l) gone in record {
      ahead = one ∷ h.ahead;
      behind = h.behind;
      inbox_is = at ∙ ap (λ (l : List PlacedEvents). one ∷ l) tail;
      can = ((one, h.ahead ++ h.behind, refl), subst (CanMove moves) same h.can);
      is = subst (λ (t : NodeState). after_all moves t ≡ node_state rest (after_all moves (with_take s)).reached) same h.is;
    }

posted_behind : (front : PlacedEvents) (rest : List PlacedEvents) (moves : List Move) (s : NodeState) (one : PlacedEvents) (others : List PlacedEvents) → s.inbox ≡ one ∷ others
    → WasPosted front rest moves (with_take s) → WasPosted front rest (Takes ∷ moves) s
posted_behind front rest moves s one others at h = record {
  others = Takes ∷ h.others;
  without = record { before = Takes ∷ h.without.before; rest = h.without.rest; moves_are = ap (λ (l : List Move). Takes ∷ l) h.without.moves_are; others_are = ap (λ (l : List Move). Takes ∷ l) h.without.others_are };
  can = ((one, others, at), h.can);
  is = h.is;
}

-- The front of the inbox after some moves stood there before, or one of them posted it. Without it the moves lead to
-- the same state without the front.
front_came : (front : PlacedEvents) (rest : List PlacedEvents) (moves : List Move) (s : NodeState) → CanMove moves s → (after_all moves s).inbox ≡ front ∷ rest → StoodBefore front rest moves s ⊎ WasPosted front rest moves s
front_came front rest [] s can at = inl (record { ahead = []; behind = rest; inbox_is = at; can = tt; is = refl })
front_came front rest (Posts last ∷ moves) s can at =
    ⊎_elim
    (λ (h : StoodBefore front rest moves (with_post last s)). ⊎_elim
    (λ (e : AtEnd front last s.inbox h.ahead h.behind). inr (posted_now front rest moves last s h e))
    (λ (e : Inside front last s.inbox h.ahead h.behind). inl (stood_still front rest moves last s h e))
    (where_is s.inbox h.ahead h.behind front last h.inbox_is))
    (λ (h : WasPosted front rest moves (with_post last s)). inr (posted_before front rest moves last s h))
    (front_came front rest moves (with_post last s) can at)
front_came front rest (Takes ∷ moves) s can at =
    ⊎_elim
    (λ (h : StoodBefore front rest moves (with_take s)). inl (stood_behind front rest moves can.0.0 can.0.1 s can.0.2 h))
    (λ (h : WasPosted front rest moves (with_take s)). inr (posted_behind front rest moves s can.0.0 can.0.1 can.0.2 h))
    (front_came front rest moves (with_take s) can.1 at)

-- Without the post of the front, a schedule leads to the same state without the front.
without_front : (front : PlacedEvents) (rest : List PlacedEvents) (moves : List Move) (s : NodeState) → LeadsTo moves s → s.inbox ≡ front ∷ rest
    → (others : List Move) × Without front moves others × LeadsTo others (node_state rest s.reached)
without_front front rest moves s leads at =
    let nothing = node_state [] [] in
    ⊎_elim
    (λ (h : StoodBefore front rest moves nothing). absurd (not_nil h.ahead h.behind front h.inbox_is))
    (λ (h : WasPosted front rest moves nothing). (h.others, h.without, record { can = h.can; is = h.is ∙ ap (λ (t : NodeState). node_state rest t.reached) leads.is }))
    (front_came front rest moves nothing leads.can (ap (λ (t : NodeState). t.inbox) leads.is ∙ at))

-- ---- crews

pub crew_follows : (layout : Parts) (queue : List WorkerPost) (taken : List Taken) → FollowsSchedule layout queue taken
crew_follows layout queue taken = record {
  sends = λ item segment is lt. ap (λ (l : List PlacedEvents). node_state l (reached taken)) (sent_more layout queue item ∙ ap (λ l. waiting layout queue ++ l) (own_post layout item segment is lt));
  receives = λ item segment is lt. λ i. node_state
      (drop 1 (sym (ap (λ l. l ++ waiting layout queue) (own_post layout item segment is lt)) i))
      ((taken_more taken (taken_as item.from segment None) ∙ ap (λ (l : List PlacedEvents). reached taken ++ take 1 l) (sym (ap (λ l. l ++ waiting layout queue) (own_post layout item segment is lt)))) i);
  sends_end = λ item is. ap (λ (l : List PlacedEvents). node_state l (reached taken)) (unsent layout queue item (end_post layout item is));
  receives_end = λ item is. ap (λ (l : List PlacedEvents). node_state (l ++ waiting layout queue) (reached taken)) (sym (end_post layout item is));
  sends_other = λ item segment is le. ap (λ (l : List PlacedEvents). node_state l (reached taken)) (unsent layout queue item (other_post layout item segment is le));
  receives_other = λ item segment is le. λ i. node_state (sym (other_post layout item segment is le) i ++ waiting layout queue) ((taken_more taken (taken_as item.from segment (Some Rank)) ∙ append-nil (reached taken)) i);
  refuses = λ item segment moves is lt leads.
      let gone : reached (taken ++ taken_as item.from segment (Some Memory) ∷ []) ≡ reached taken = taken_more taken (taken_as item.from segment (Some Memory)) ∙ append-nil (reached taken) in
      let h = without_front segment (waiting layout queue) moves (state_of layout (item ∷ queue) taken) leads (ap (λ l. l ++ waiting layout queue) (own_post layout item segment is lt)) in
      (h.0, h.1, subst (λ (l : List PlacedEvents). LeadsTo h.0 (node_state (waiting layout queue) l)) (sym gone) h.2);
  knows = reached_known taken;
}
