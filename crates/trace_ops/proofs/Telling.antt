-- The messages and receives of steps that go on: the old ones are the first of the new ones, and those that come are of
-- later calls.
use Rattle.std.proofs.Common.{◌≡◌, ℕ, Bool, true, false, List, [], ◌∷◌, ◌⊎◌, inl, inr, length, take, refl, sym, ◌∙◌, ap, subst}
use Rattle.std.specs.Prelude.{ℤ, Option, Some, None, is_some, if◌then◌else◌, slice_get}
use Rattle.std.specs.List.{AllZip, filter_map, cons_option}
use Rattle.std.specs.Option.{option_map, option_and_then}
use Rattle.mpi_model.specs.declared.envelope.Envelope.{Envelope}
use Rattle.mpi_model.specs.declared.envelope.Mode.{Mode}
use Rattle.mpi_model.specs.declared.envelope.Mode.TheVariants.{Standard}
use Rattle.mpi_model.specs.declared.envelope.Peer.{Peer}
use Rattle.mpi_model.specs.declared.envelope.Peer.TheVariants.{Any, Null, Rank}
use Rattle.mpi_model.specs.declared.call.Call.{Call}
use Rattle.mpi_model.specs.declared.call.Call.TheVariants.{Send, Isend, Sendrecv, Recv, Irecv, Mprobe, Improbe, SendInit, RecvInit, Start, Startall}
use Rattle.mpi_model.specs.declared.event.OpName.{OpName}
use Rattle.mpi_model.specs.declared.message.Receive.{Receive}
use Rattle.mpi_model.specs.declared.message.Trust.{Trust}
use Rattle.mpi_model.specs.declared.message.Trust.TheVariants.{Sure}
use Rattle.mpi_model.specs.Layouts.{Parts}
use Rattle.trace_ops.specs.Ended.{ended_of_own, ended_of_post}
use Rattle.trace_ops.specs.Foreign.{Group, group_of, peer_rank}
use Rattle.trace_ops.specs.Message.{message_in, message_of, message_to, sends_of, sent_by}
use Rattle.trace_ops.specs.Ops.{SameSend, StaysVoid, TellsMore}
use Rattle.trace_ops.specs.Receive.{any_count, has_taken, probe_envelope, receive_in, receive_of, receives_of, taken_by, taken_from}
use Rattle.trace_ops.specs.Request.{is_start}
use Rattle.trace_ops.specs.Source.{told_of_flag, told_of_own, told_of_post}
use Rattle.trace_ops.specs.Steps.{Begun, Placed, Step, as_started, call_with, name_of, naming, placed, posted_by, starting}
use Rattle.trace_ops.specs.Trust.{gives_back, trust_by, trust_of_post, trust_of_probe, trust_of_receive, trust_of_send}
use Rattle.trace_ops.proofs.Growing.{AreOpen, Continues, GoesFrom, IsOpen, Stays, end_stays, posts_none, told_stays, trust_stays}

-- not the call of an Improbe, whose receive comes with its Return
abbrev pub IsPlain : Call → Type 0
IsPlain (Improbe e) = ⊥
IsPlain call = Unit {0}

-- an Improbe that has not returned
pub record AwaitsProbe (s : Step) : Type 0 where
  pub whole : s.part ≡ 0
  pub unreturned : IsOpen s
  pub probe : IsPlain (starting s) → ⊥

-- ---- lists with an item for some of the steps

module _ {Y : Type 0} (R : Y → Y → Type 0) where
  abbrev pub More : Option Y → Option Y → Type 0
  More None None = Unit {0}
  More None (Some z) = ⊥
  More (Some y) None = ⊥
  More (Some y) (Some z) = R y z

  front_more : (o p : Option Y) (xs ys : List Y) → More o p → AllZip R xs (take (length xs) ys) → AllZip R (cons_option o xs) (take (length (cons_option o xs)) (cons_option p ys))
  front_more None None xs ys m h = h
  front_more None (Some z) xs ys m h = absurd m
  front_more (Some y) None xs ys m h = absurd m
  front_more (Some y) (Some z) xs ys m h = (m, h)

  -- of the last step something may be told that was not
  last_more : (o p : Option Y) (ys : List Y) → o ≡ None → AllZip R (cons_option o []) (take (length (cons_option o [])) (cons_option p ys))
  last_more None p ys h = tt
  last_more (Some y) p ys h = absurd (cc)

  module _ (f : Placed → Option Y)
      (more : (bound : ℕ) (s t : Step) (old new : List Step) → Continues s t old → GoesFrom bound old new →
      More (f (record { step = s; later = old })) (f (record { step = t; later = new })) ⊎ ((f (record { step = s; later = old }) ≡ None) × (old ≡ []) × AwaitsProbe s)) where
    pub all_more : (bound : ℕ) (old new : List Step) → GoesFrom bound old new → AllZip R (filter_map f (placed old)) (take (length (filter_map f (placed old))) (filter_map f (placed new)))
    all_more bound [] new g = tt
    all_more bound (s ∷ old) [] g = absurd g
    all_more bound (s ∷ old) (t ∷ new) g = by (more bound s t old new g.1 g.2) (all_more bound old new g.2)
      where
        by : (More (f (record { step = s; later = old })) (f (record { step = t; later = new })) ⊎ ((f (record { step = s; later = old }) ≡ None) × (old ≡ []) × AwaitsProbe s)) →
            AllZip R (filter_map f (placed old)) (take (length (filter_map f (placed old))) (filter_map f (placed new))) →
            AllZip R (filter_map f (placed (s ∷ old))) (take (length (filter_map f (placed (s ∷ old)))) (filter_map f (placed (t ∷ new))))
        by (inl m) h = front_more (f (record { step = s; later = old })) (f (record { step = t; later = new })) (filter_map f (placed old)) (filter_map f (placed new)) m h
        by (inr e) h =
            let o = f (record { step = s; later = old }) in
            subst (λ (l : List Y). AllZip R (cons_option o l) (take (length (cons_option o l)) (filter_map f (placed (t ∷ new))))) (sym (ap (λ (l : List Step). filter_map f (placed l)) e.1))
            (last_more o (f (record { step = t; later = new })) (filter_map f (placed new)) e.0)

-- ---- steps that go on

same_naming : (s t : Step) (old : List Step) → Continues s t old → naming t ≡ naming s
same_naming s t old (inl e) = ap naming e
same_naming s t old (inr c) = let n = c.0.number in let b = c.0.begun in cc

same_starting : (s t : Step) (old : List Step) → Continues s t old → starting t ≡ starting s
same_starting s t old (inl e) = ap starting e
same_starting s t old (inr c) = let n = c.0.call in let b = c.0.begun in by s.begun t.begun b n
  where
    by : (a b : Option Begun) → b ≡ a → t.entry.call ≡ s.entry.call → call_with t.entry b ≡ call_with s.entry a
    by None None e n = n
    by None (Some y) e n = absurd (cc)
    by (Some x) None e n = absurd (cc)
    by (Some x) (Some y) e n = cc

same_name : (rank : ℕ) (s t : Step) (old : List Step) → Continues s t old → name_of rank t ≡ name_of rank s
same_name rank s t old (inl e) = ap (name_of rank) e
same_name rank s t old (inr c) = let n = c.0.number in let p = c.0.part in cc

post_trust : (bound : ℕ) (s t : Step) (old new : List Step) (told told' : Bool) → Continues s t old → GoesFrom bound old new → StaysVoid (trust_of_post old (posted_by s) told) (trust_of_post new (posted_by t) told')
post_trust bound s t old new told told' (inl e) g =
    subst (λ (u : Step). StaysVoid (trust_of_post old (posted_by s) told) (trust_of_post new (posted_by u) told')) (sym e) (trust_stays (posted_by s) bound old new told told' g)
post_trust bound s t old new told told' (inr c) g =
    subst (λ (p : Option ℤ). StaysVoid (trust_of_post old p told) (trust_of_post new (posted_by t) told')) (sym (posts_none s c.1)) (λ v. absurd (cc))

-- ---- messages

module _ (g : Group) (name : OpName) where
  to_more : (mode : Mode) (e : Envelope) (old new : Trust) (to : Option ℕ) → StaysVoid old new → More SameSend (option_map (message_to g name mode e old) to) (option_map (message_to g name mode e new) to)
  to_more mode e old new None s = tt
  to_more mode e old new (Some to) s = record { name = refl; comm = refl; from = refl; to = refl; tag = refl; mode = refl; count = refl; datatype = refl; void = s }

  sent_more : (call : Call) (s t : Step) (old new : List Step) → StaysVoid (trust_of_send old (posted_by s)) (trust_of_send new (posted_by t)) → More SameSend (sent_by g name s old call) (sent_by g name t new call)
  sent_more (Send mode e) s t old new v = to_more mode e Sure Sure (option_and_then (slice_get g.members) (peer_rank e.peer)) (λ h. h)
  sent_more (Isend mode e) s t old new v = to_more mode e (trust_of_send old (posted_by s)) (trust_of_send new (posted_by t)) (option_and_then (slice_get g.members) (peer_rank e.peer)) v
  sent_more (Sendrecv x) s t old new v = to_more Standard x.send Sure Sure (option_and_then (slice_get g.members) (peer_rank x.send.peer)) (λ h. h)
  sent_more call s t old new v = tt

module _ (layout : Parts) (rank bound : ℕ) (s t : Step) (old new : List Step) (c : Continues s t old) (h : GoesFrom bound old new) where
  groups : group_of layout rank (naming t) (starting t) ≡ group_of layout rank (naming s) (starting s)
  groups = ap (λ (n : ℕ). group_of layout rank n (starting t)) (same_naming s t old c) ∙ ap (group_of layout rank (naming s)) (same_starting s t old c)

  message_in_more : (g : Option Group) → More SameSend (message_in g (name_of rank s) (record { step = s; later = old })) (message_in g (name_of rank s) (record { step = t; later = new }))
  message_in_more None = tt
  message_in_more (Some g) =
      subst (λ (k : Call). More SameSend (sent_by g (name_of rank s) s old (starting s)) (sent_by g (name_of rank s) t new k)) (sym (same_starting s t old c))
      (sent_more g (name_of rank s) (starting s) s t old new (post_trust bound s t old new false false c h))

  pub message_more : More SameSend (message_of layout rank (record { step = s; later = old })) (message_of layout rank (record { step = t; later = new }))
  message_more =
      subst (λ (g : Option Group). More SameSend (message_of layout rank (record { step = s; later = old })) (message_in g (name_of rank t) (record { step = t; later = new }))) (sym groups)
      (subst (λ (a : OpName). More SameSend (message_of layout rank (record { step = s; later = old })) (message_in (group_of layout rank (naming s) (starting s)) a (record { step = t; later = new }))) (sym (same_name rank s t old c))
      (message_in_more (group_of layout rank (naming s) (starting s))))

pub sends_more : (layout : Parts) (rank bound : ℕ) (old new : List Step) → GoesFrom bound old new → AllZip SameSend (sends_of layout rank old) (take (length (sends_of layout rank old)) (sends_of layout rank new))
sends_more layout rank = all_more SameSend (message_of layout rank) (λ bound s t old new c h. inl (message_more layout rank bound s t old new c h))

-- ---- receives

starts_plain : (s : Step) → is_start s.entry.call ≡ true → IsPlain (starting s)
starts_plain s h = by s.begun
  where
    of : (call : Call) → is_start call ≡ true → IsPlain call
    of (Start x) k = tt
    of (Startall xs) k = tt
    of call k = absurd (cc)

    init : (call : Call) → IsPlain (as_started call)
    init (SendInit mode e) = tt
    init (RecvInit e) = tt
    init call = tt

    by : (b : Option Begun) → IsPlain (call_with s.entry b)
    by None = of s.entry.call h
    by (Some b) = init b.init.call

never_void : (a b : Bool) → StaysVoid (trust_by a) (trust_by b)
never_void true b v = absurd (cc)
never_void false b v = absurd (cc)

open_stays : (a b : Option ℕ) → a ≡ None → Stays a b
open_stays a b e h = cc

module _ (g : Group) (name : OpName) where
  from_more : (e : Envelope) (old_trust new_trust : Trust) (old new old_end new_end : Option ℕ) (peer : Peer) → StaysVoid old_trust new_trust → Stays old new → Stays old_end new_end →
      More TellsMore (taken_from g name e old_trust old old_end peer) (taken_from g name e new_trust new new_end peer)
  from_more e old_trust new_trust old new old_end new_end Null v s t = tt
  from_more e old_trust new_trust old new old_end new_end Any v s t = record { name = refl; comm = refl; at = refl; tag = refl; count = refl; datatype = refl; source = s; ended = t; void = v }
  from_more e old_trust new_trust old new old_end new_end (Rank p) v s t = record { name = refl; comm = refl; at = refl; tag = refl; count = refl; datatype = refl; source = λ h. refl; ended = t; void = v }

  -- the receive of a step that is as it was
  same_more : (bound : ℕ) (s : Step) (old new : List Step) (call : Call) → GoesFrom bound old new → More TellsMore (taken_by g name s old call) (taken_by g name s new call)
  same_more bound s old new (Recv e) h = from_more e Sure Sure (told_of_own g.members s.entry.outs) (told_of_own g.members s.entry.outs) (ended_of_own name.call s.entry.outs) (ended_of_own name.call s.entry.outs) e.peer (λ v. v) (λ k. refl) (λ k. refl)
  same_more bound s old new (Sendrecv x) h = from_more x.receive Sure Sure (told_of_own g.members s.entry.outs) (told_of_own g.members s.entry.outs) (ended_of_own name.call s.entry.outs) (ended_of_own name.call s.entry.outs) x.receive.peer (λ v. v) (λ k. refl) (λ k. refl)
  same_more bound s old new (Irecv e) h =
      from_more e (trust_of_receive g.members old (posted_by s)) (trust_of_receive g.members new (posted_by s)) (told_of_post g.members old (posted_by s)) (told_of_post g.members new (posted_by s))
      (ended_of_post old (posted_by s)) (ended_of_post new (posted_by s)) e.peer
      (trust_stays (posted_by s) bound old new (is_some (told_of_post g.members old (posted_by s))) (is_some (told_of_post g.members new (posted_by s))) h) (told (posted_by s)) (ended (posted_by s))
    where
      told : (p : Option ℤ) → Stays (told_of_post g.members old p) (told_of_post g.members new p)
      told None = λ k. refl
      told (Some x) = told_stays g.members x bound old new h

      ended : (p : Option ℤ) → Stays (ended_of_post old p) (ended_of_post new p)
      ended None = λ k. refl
      ended (Some x) = end_stays x bound old new h
  same_more bound s old new (Mprobe e) h =
      from_more (probe_envelope any_count e) (trust_of_probe old) (trust_of_probe new) (told_of_own g.members s.entry.outs) (told_of_own g.members s.entry.outs) (ended_of_own name.call s.entry.outs) (ended_of_own name.call s.entry.outs) e.source
      (never_void (gives_back old) (gives_back new)) (λ k. refl) (λ k. refl)
  same_more bound s old new (Improbe e) h = by (has_taken s.entry.outs)
    where
      by : (b : Bool) → More TellsMore
          (if b then taken_from g name (probe_envelope any_count e) (trust_of_probe old) (told_of_flag g.members s.entry.outs) (ended_of_own name.call s.entry.outs) e.source else None)
          (if b then taken_from g name (probe_envelope any_count e) (trust_of_probe new) (told_of_flag g.members s.entry.outs) (ended_of_own name.call s.entry.outs) e.source else None)
      by true = from_more (probe_envelope any_count e) (trust_of_probe old) (trust_of_probe new) (told_of_flag g.members s.entry.outs) (told_of_flag g.members s.entry.outs) (ended_of_own name.call s.entry.outs) (ended_of_own name.call s.entry.outs) e.source
          (never_void (gives_back old) (gives_back new)) (λ k. refl) (λ k. refl)
      by false = tt
  same_more bound s old new call h = tt

  -- the receive of a step whose call may have returned: there is none yet of an Improbe
  open_more : (s t : Step) (old new : List Step) (call : Call) → IsOpen s → More TellsMore (taken_by g name s old call) (taken_by g name t new call) ⊎ ((taken_by g name s old call ≡ None) × (IsPlain call → ⊥))
  open_more s t old new (Recv e) k = inl (from_more e Sure Sure (told_of_own g.members s.entry.outs) (told_of_own g.members t.entry.outs) (ended_of_own name.call s.entry.outs) (ended_of_own name.call t.entry.outs) e.peer (λ v. v)
      (open_stays (told_of_own g.members s.entry.outs) (told_of_own g.members t.entry.outs) (ap (told_of_own g.members) k)) (open_stays (ended_of_own name.call s.entry.outs) (ended_of_own name.call t.entry.outs) (ap (ended_of_own name.call) k)))
  open_more s t old new (Sendrecv x) k = inl (from_more x.receive Sure Sure (told_of_own g.members s.entry.outs) (told_of_own g.members t.entry.outs) (ended_of_own name.call s.entry.outs) (ended_of_own name.call t.entry.outs) x.receive.peer (λ v. v)
      (open_stays (told_of_own g.members s.entry.outs) (told_of_own g.members t.entry.outs) (ap (told_of_own g.members) k)) (open_stays (ended_of_own name.call s.entry.outs) (ended_of_own name.call t.entry.outs) (ap (ended_of_own name.call) k)))
  open_more s t old new (Irecv e) k =
      let p = posts_none s k in
      inl (from_more e (trust_of_receive g.members old (posted_by s)) (trust_of_receive g.members new (posted_by t)) (told_of_post g.members old (posted_by s)) (told_of_post g.members new (posted_by t))
      (ended_of_post old (posted_by s)) (ended_of_post new (posted_by t)) e.peer
      (subst (λ (x : Option ℤ). StaysVoid (trust_of_receive g.members old x) (trust_of_receive g.members new (posted_by t))) (sym p) (λ v. absurd (cc)))
      (open_stays (told_of_post g.members old (posted_by s)) (told_of_post g.members new (posted_by t)) (ap (told_of_post g.members old) p))
      (open_stays (ended_of_post old (posted_by s)) (ended_of_post new (posted_by t)) (ap (ended_of_post old) p)))
  open_more s t old new (Mprobe e) k = inl (from_more (probe_envelope any_count e) (trust_of_probe old) (trust_of_probe new) (told_of_own g.members s.entry.outs) (told_of_own g.members t.entry.outs) (ended_of_own name.call s.entry.outs) (ended_of_own name.call t.entry.outs) e.source
      (never_void (gives_back old) (gives_back new))
      (open_stays (told_of_own g.members s.entry.outs) (told_of_own g.members t.entry.outs) (ap (told_of_own g.members) k)) (open_stays (ended_of_own name.call s.entry.outs) (ended_of_own name.call t.entry.outs) (ap (ended_of_own name.call) k)))
  open_more s t old new (Improbe e) k = inr (rw k refl, λ p. p)
  open_more s t old new call k = inl tt

module _ (layout : Parts) (rank bound : ℕ) (s t : Step) (old new : List Step) (c : Continues s t old) (h : GoesFrom bound old new) where
  -- more is told of the receive, or it comes with the Return of the last step
  abbrev Comes : Option Receive → Option Receive → Type 0
  Comes a b = More TellsMore a b ⊎ ((a ≡ None) × (old ≡ []) × AwaitsProbe s)

  decide : (a b : Option Receive) → IsOpen s → (More TellsMore a b ⊎ ((a ≡ None) × (IsPlain (starting s) → ⊥))) → (((old ≡ []) × (s.part ≡ 0)) ⊎ ((is_start s.entry.call ≡ true) × AreOpen old)) → Comes a b
  decide a b k (inl m) o = inl m
  decide a b k (inr e) (inl n) = inr (e.0, n.0, record { whole = n.1; unreturned = k; probe = e.1 })
  decide a b k (inr e) (inr o) = absurd (e.1 (starts_plain s o.0))

  receive_in_more : (g : Option Group) → Comes (receive_in g (name_of rank s) (record { step = s; later = old })) (receive_in g (name_of rank s) (record { step = t; later = new }))
  receive_in_more None = inl tt
  receive_in_more (Some g) = by c
    where
      by : Continues s t old → Comes (taken_by g (name_of rank s) s old (starting s)) (taken_by g (name_of rank s) t new (starting t))
      by (inl e) = subst (λ (u : Step). Comes (taken_by g (name_of rank s) s old (starting s)) (taken_by g (name_of rank s) u new (starting u))) (sym e) (inl (same_more g (name_of rank s) bound s old new (starting s) h))
      by (inr o) = subst (λ (k : Call). Comes (taken_by g (name_of rank s) s old (starting s)) (taken_by g (name_of rank s) t new k)) (sym (same_starting s t old (inr o)))
          (decide (taken_by g (name_of rank s) s old (starting s)) (taken_by g (name_of rank s) t new (starting s)) o.1 (open_more g (name_of rank s) s t old new (starting s) o.1) o.2)

  receive_groups : group_of layout rank (naming t) (starting t) ≡ group_of layout rank (naming s) (starting s)
  receive_groups = ap (λ (n : ℕ). group_of layout rank n (starting t)) (same_naming s t old c) ∙ ap (group_of layout rank (naming s)) (same_starting s t old c)

  pub receive_more : Comes (receive_of layout rank (record { step = s; later = old })) (receive_of layout rank (record { step = t; later = new }))
  receive_more =
      subst (λ (g : Option Group). Comes (receive_of layout rank (record { step = s; later = old })) (receive_in g (name_of rank t) (record { step = t; later = new }))) (sym receive_groups)
      (subst (λ (a : OpName). Comes (receive_of layout rank (record { step = s; later = old })) (receive_in (group_of layout rank (naming s) (starting s)) a (record { step = t; later = new }))) (sym (same_name rank s t old c))
      (receive_in_more (group_of layout rank (naming s) (starting s))))

pub receives_more : (layout : Parts) (rank bound : ℕ) (old new : List Step) → GoesFrom bound old new → AllZip TellsMore (receives_of layout rank old) (take (length (receives_of layout rank old)) (receives_of layout rank new))
receives_more layout rank = all_more TellsMore (receive_of layout rank) (receive_more layout rank)
