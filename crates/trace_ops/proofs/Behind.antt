-- What is kept of the steps behind, one step more.
use Rattle.std.proofs.Common.{◌≡◌, ℕ, zero, suc, ◌+◌, Bool, true, false, ◌||◌, cond, List, [], ◌∷◌, drop, get_or, length, refl, sym, ◌∙◌, ap, arith}
use Rattle.std.specs.Prelude.{ℤ, Option, Some, None, is_some, slice_get, if◌then◌else◌}
use Rattle.std.specs.List.{list_any}
use Rattle.std.specs.Ordering.{int_eq}
use Rattle.std.proofs.lemmas.Option.{get_or_from_slice_get}
use Rattle.mpi_model.specs.declared.call.Call.{Call}
use Rattle.mpi_model.specs.declared.call.Call.TheVariants.{Isend, Irecv, Icollective, Imrecv, SendInit, RecvInit, Cancel, Start, Startall}
use Rattle.mpi_model.specs.declared.outcome.Outs.{Outs}
use Rattle.mpi_model.specs.declared.told.Told.{Told}
use Rattle.mpi_model.specs.declared.told.Told.TheVariants.{Nothing, Source, Cancelled}
use Rattle.mpi_model.specs.Tells.{is_cancelled}
use Rattle.trace_ops.specs.declared.completed.Completed.{Completed}
use Rattle.trace_ops.specs.declared.touched.End.{End}
use Rattle.trace_ops.specs.declared.touched.Touch.{Touch}
use Rattle.trace_ops.specs.Calls.{Entry}
use Rattle.trace_ops.specs.Ended.{ended_by}
use Rattle.trace_ops.specs.Places.{completed_in, places_of}
use Rattle.trace_ops.specs.Request.{given_of, completions, is_completed, is_init, is_posted, is_start}
use Rattle.trace_ops.specs.Steps.{IsPartOf, Step, given_by, completed_by, posted_by, touches, whole}
use Rattle.trace_ops.specs.Source.{told_in, told_by}
use Rattle.trace_ops.specs.Touched.{Follows, IsQuiet, IsWithoutRequest, ended_at, ends_at, end_of, is_any_cancelled, is_completed_at, marked, is_marked, is_void_end, tellings_of, voided_end, with_ends, with_firsts, with_told, with_tellings}
use Rattle.trace_ops.specs.Trust.{cancel_of, cancels, first_said, has_cancel, said_in, said_by}
use Rattle.trace_ops.proofs.Placing.{any_completed, completed_there}

-- a call that gives a number completes nothing
quiet : (call : Call) (outs : Option Outs) (x : ℤ) → given_of call outs ≡ Some x → completions call outs ≡ []
quiet (Isend mode e) outs x h = refl
quiet (Irecv e) outs x h = refl
quiet (Icollective c) outs x h = refl
quiet Imrecv outs x h = refl
quiet (SendInit mode e) outs x h = refl
quiet (RecvInit e) outs x h = refl
quiet call outs x h = absurd (cc)

-- a Cancel posts and completes nothing
pub idle : (call : Call) (outs : Option Outs) (x : ℤ) → cancel_of call ≡ Some x → (given_of call outs ≡ None) × (completions call outs ≡ [])
idle (Cancel request) outs x h = (refl, refl)
idle call outs x h = absurd (cc)

drop_tail : {X : Type 0} (whole : List X) (i : ℕ) (x : X) (rest : List X) → drop i whole ≡ x ∷ rest → drop (i + 1) whole ≡ rest
drop_tail [] zero x rest h = cc
drop_tail [] (suc i) x rest h = cc
drop_tail (y ∷ ys) zero x rest h = cc
drop_tail (y ∷ ys) (suc i) x rest h = let n : suc i + 1 ≡ suc (i + 1) = omega arith in rw n (drop_tail ys i x rest h)

or_false : (b : Bool) → (b || false) ≡ b
or_false true = refl
or_false false = refl

drop_all : {X : Type 0} (xs : List X) → drop (length xs) xs ≡ []
drop_all [] = refl
drop_all (x ∷ xs) = drop_all xs

or_right : (a b : Bool) → (a || b) ≡ false → b ≡ false
or_right true b h = cc
or_right false b h = h

-- where no completion says that its request was cancelled, none says so of this one
never_said : (x : ℤ) (places : List (Option Completed)) → is_any_cancelled places ≡ false → is_cancelled (said_in x (completed_in places)) ≡ false
never_said x [] n = refl
never_said x (None ∷ places) n = never_said x places n
never_said x (Some c ∷ places) n = by (int_eq c.request x) c.told n (never_said x places)
  where
    by : (b : Bool) (told : Told) → (is_cancelled told || is_any_cancelled places) ≡ false → (is_any_cancelled places ≡ false → is_cancelled (said_in x (completed_in places)) ≡ false) →
        is_cancelled (if b then first_said told (said_in x (completed_in places)) else said_in x (completed_in places)) ≡ false
    by false told h more = more (or_right (is_cancelled told) (is_any_cancelled places) h)
    by true Nothing h more = more h
    by true (Source rank) h more = refl
    by true Cancelled h more = cc

-- What is kept of the number says what these places tell, the last of the call's whole ones.
record Tells (whole : List (Option Completed)) (call : ℕ) (x : ℤ) (rest : List (Option Completed)) (e : End) : Type 0 where
  at : e.call ≡ call
  void : e.void ≡ is_cancelled (said_in x (completed_in rest))
  told : (members : List ℕ) → told_in members x (completed_in rest) ≡ told_in members x (completed_in (drop e.place whole))

abbrev Kept : Option Touch → End → Type 0
Kept touch e = touch ≡ Some (record { end = Some e; cancelled = false })

module _ (whole : List (Option Completed)) (call : ℕ) (x : ℤ) where
  one_more : (i : ℕ) (c : Completed) (rest : List (Option Completed)) (touch : Option Touch) (b : Bool) → b ≡ int_eq c.request x → drop i whole ≡ Some c ∷ rest →
      (e : End) → Kept touch e → Tells whole call x rest e → (f : End) × Kept (if b then with_told call i c.told touch else touch) f × Tells whole call x (Some c ∷ rest) f
  one_more i c rest touch false k d e h t = (e, h, record { at = t.at; void = rw (sym k) t.void; told = λ members. rw (sym k) (t.told members) })
  one_more i c rest touch true k d e h t = by c.told refl
    where
      by : (told : Told) → told ≡ c.told → (f : End) × Kept (with_told call i told touch) f × Tells whole call x (Some c ∷ rest) f
      by Nothing s = (e, h, record { at = t.at; void = rw (sym k, sym s) t.void; told = λ members. rw (sym k, sym s) (t.told members) })
      by (Source rank) s =
          (record { call = call; place = i; void = false }, refl, record { at = refl; void = rw (sym k, sym s) refl; told = λ members. sym (ap (λ (l : List (Option Completed)). told_in members x (completed_in l)) d) })
      by Cancelled s = (voided_end e, rw h refl, record { at = t.at; void = rw (sym k, sym s) refl; told = λ members. rw (sym k, sym s) (t.told members) })

  all_told : (i : ℕ) (rest : List (Option Completed)) → drop i whole ≡ rest →
      (e : End) × Kept (with_tellings call i rest x (Some (ends_at call (length whole)))) e × Tells whole call x rest e
  all_told i [] d =
      (record { call = call; place = length whole; void = false }, refl, record { at = refl; void = refl; told = λ members. sym (ap (λ (l : List (Option Completed)). told_in members x (completed_in l)) (drop_all whole)) })
  all_told i (None ∷ rest) d =
      let more = all_told (i + 1) rest (drop_tail whole i None rest d) in
      (more.0, more.1, record { at = more.2.at; void = more.2.void; told = more.2.told })
  all_told i (Some c ∷ rest) d =
      let more = all_told (i + 1) rest (drop_tail whole i (Some c) rest d) in
      one_more i c rest (with_tellings call (i + 1) rest x (Some (ends_at call (length whole)))) (int_eq c.request x) refl d more.0 more.1 more.2

  -- the first completion of a number, where none says that it was cancelled
  all_firsts : (i : ℕ) (rest : List (Option Completed)) (touch : Option Touch) → drop i whole ≡ rest → is_any_cancelled rest ≡ false → list_any (is_completed_at x) rest ≡ true →
      (e : End) × Kept (with_firsts call i rest x touch) e × Tells whole call x rest e
  all_firsts i [] touch d n h = absurd (cc)
  all_firsts i (None ∷ rest) touch d n h =
      let more = all_firsts (i + 1) rest touch (drop_tail whole i None rest d) n h in
      (more.0, more.1, record { at = more.2.at; void = more.2.void; told = more.2.told })
  all_firsts i (Some c ∷ rest) touch d n h =
      by (int_eq c.request x) refl h (all_firsts (i + 1) rest touch (drop_tail whole i (Some c) rest d) (or_right (is_cancelled c.told) (is_any_cancelled rest) n))
    where
      by : (b : Bool) → b ≡ int_eq c.request x → (b || list_any (is_completed_at x) rest) ≡ true →
          (list_any (is_completed_at x) rest ≡ true → (e : End) × Kept (with_firsts call (i + 1) rest x touch) e × Tells whole call x rest e) →
          (e : End) × Kept (if b then Some (ends_at call i) else with_firsts call (i + 1) rest x touch) e × Tells whole call x (Some c ∷ rest) e
      by true k g later = (
        record { call = call; place = i; void = false },
        refl,
        record { at = refl; void = sym (never_said x (Some c ∷ rest) n); told = λ members. sym (ap (λ (l : List (Option Completed)). told_in members x (completed_in l)) d) },
      )
      by false k g later =
          let more = later g in
          (more.0, more.1, record { at = more.2.at; void = rw (sym k) more.2.void; told = λ members. rw (sym k) (more.2.told members) })

-- where none completes, none is noted
unmet_firsts : (call i : ℕ) (x : ℤ) (places : List (Option Completed)) (touch : Option Touch) → list_any (is_completed_at x) places ≡ false → with_firsts call i places x touch ≡ touch
unmet_firsts call i x [] touch h = refl
unmet_firsts call i x (o ∷ places) touch h = by (is_completed_at x o) h (unmet_firsts call (i + 1) x places touch)
  where
    by : (b : Bool) → (b || list_any (is_completed_at x) places) ≡ false → (list_any (is_completed_at x) places ≡ false → with_firsts call (i + 1) places x touch ≡ touch) →
        (if b then Some (ends_at call i) else with_firsts call (i + 1) places x touch) ≡ touch
    by false h more = more h
    by true h more = cc

-- where none completes, none tells
unmet : (call i : ℕ) (x : ℤ) (places : List (Option Completed)) (touch : Option Touch) → list_any (is_completed_at x) places ≡ false → with_tellings call i places x touch ≡ touch
unmet call i x [] touch h = refl
unmet call i x (None ∷ places) touch h = unmet call (i + 1) x places touch h
unmet call i x (Some c ∷ places) touch h = by (int_eq c.request x) h (unmet call (i + 1) x places touch)
  where
    by : (b : Bool) → (b || list_any (is_completed_at x) places) ≡ false → (list_any (is_completed_at x) places ≡ false → with_tellings call (i + 1) places x touch ≡ touch) →
        (if b then with_told call i c.told (with_tellings call (i + 1) places x touch) else with_tellings call (i + 1) places x touch) ≡ touch
    by false h more = more h
    by true h more = cc

-- what holds of one number, and what is kept of it
record FollowsOne (calls : List Entry) (later : List Step) (x : ℤ) (touch : Option Touch) : Type 0 where
  ended : is_some (end_of touch) ≡ list_any (touches x) later
  by : ended_at calls (end_of touch) ≡ ended_by x later
  cancelled : is_marked touch ≡ has_cancel x later
  void : is_void_end (end_of touch) ≡ is_cancelled (said_by x later)
  told : (members : List ℕ) → told_in members x (tellings_of calls (end_of touch)) ≡ told_by members x later

-- One step more. It names a number to be cancelled, or it gives one, and so completes none; or it does neither.
module _ (calls : List Entry) (s : Step) (later : List Step) (old new : ℤ → Option Touch) where
  abbrev places : List (Option Completed)
  places = places_of s.entry.call s.entry.outs

  there : completed_in places ≡ completed_by s
  there = completed_there s.entry.call s.entry.outs

  by_one : (kept : ℤ → Option Touch) → ((x : ℤ) → FollowsOne calls (s ∷ later) x (kept x)) → Follows calls (s ∷ later) kept
  by_one kept one = record { ended = λ x. (one x).ended; by = λ x. (one x).by; cancelled = λ x. (one x).cancelled; void = λ x. (one x).void; told = λ members x. (one x).told members }

  -- a step that neither touches nor cancels the number
  passes : (x : ℤ) (touch : Option Touch) → Follows calls later old → touch ≡ old x → touches x s ≡ false → cancels x s ≡ false → FollowsOne calls (s ∷ later) x touch
  passes x touch f e t k = rw e (record {
    ended = rw t (f.ended x);
    by = rw t (f.by x);
    cancelled = rw (t, k) (f.cancelled x);
    void = rw t (f.void x);
    told = λ members. rw t (f.told members x);
  })

  -- a step that gives and completes none
  untouched : given_by s ≡ None → completed_by s ≡ [] → (x : ℤ) → touches x s ≡ false
  untouched g d x = ap (λ (o : Option ℤ). is_posted o x || is_completed x (completed_by s)) g ∙ ap (is_completed x) d

  cancels_none : cancel_of s.entry.call ≡ None → (x : ℤ) → cancels x s ≡ false
  cancels_none q x = ap (λ (o : Option ℤ). is_posted o x) q

  pub follows_cancel : (request : ℤ) → cancel_of s.entry.call ≡ Some request → given_by s ≡ None → ((x : ℤ) → new x ≡ cond (int_eq request x) (Some (marked (old x))) (old x)) →
      Follows calls later old → Follows calls (s ∷ later) new
  follows_cancel request p g h f = by_one new (λ x. one x (int_eq request x) refl)
    where
      none : (x : ℤ) → touches x s ≡ false
      none x = untouched g (idle s.entry.call s.entry.outs request p).1 x

      one : (x : ℤ) (b : Bool) → b ≡ int_eq request x → FollowsOne calls (s ∷ later) x (new x)
      one x false k = passes x (new x) f (h x ∙ ap (λ (v : Bool). cond v (Some (marked (old x))) (old x)) (sym k)) (none x) (ap (λ (o : Option ℤ). is_posted o x) p ∙ sym k)
      one x true k =
          let e : new x ≡ Some (marked (old x)) = h x ∙ ap (λ (v : Bool). cond v (Some (marked (old x))) (old x)) (sym k) in
          let names : cancels x s ≡ true = ap (λ (o : Option ℤ). is_posted o x) p ∙ sym k in
          rw e (record {
            ended = rw (none x) (f.ended x);
            by = rw (none x) (f.by x);
            cancelled = rw names refl;
            void = rw (none x) (f.void x);
            told = λ members. rw (none x) (f.told members x);
          })

  pub follows_given : (request : ℤ) → slice_get calls s.number ≡ Some s.entry → cancel_of s.entry.call ≡ None → given_by s ≡ Some request → completed_by s ≡ [] →
      ((x : ℤ) → new x ≡ cond (int_eq request x) (Some (ends_at s.number 0)) (old x)) → Follows calls later old → Follows calls (s ∷ later) new
  follows_given request at q p d h f = by_one new (λ x. one x (int_eq request x) refl)
    where
      touches_it : (x : ℤ) → touches x s ≡ int_eq request x
      touches_it x = ap (λ (o : Option ℤ). is_posted o x || is_completed x (completed_by s)) p ∙ ap (λ (l : List Completed). int_eq request x || is_completed x l) d ∙ or_false (int_eq request x)

      one : (x : ℤ) (b : Bool) → b ≡ int_eq request x → FollowsOne calls (s ∷ later) x (new x)
      one x false k = passes x (new x) f (h x ∙ ap (λ (v : Bool). cond v (Some (ends_at s.number 0)) (old x)) (sym k)) (touches_it x ∙ sym k) (cancels_none q x)
      one x true k =
          let e : new x ≡ Some (ends_at s.number 0) = h x ∙ ap (λ (v : Bool). cond v (Some (ends_at s.number 0)) (old x)) (sym k) in
          let t : touches x s ≡ true = touches_it x ∙ sym k in
          rw e (record {
            ended = rw t refl;
            by = rw (t, at) refl;
            cancelled = rw (t, cancels_none q x) refl;
            void = rw t (sym (ap (λ (l : List Completed). is_cancelled (said_in x l)) d));
            told = λ members. rw (t, at) (ap (told_in members x) there);
          })

  -- a step that gives no number touches what its places complete
  touches_it : given_by s ≡ None → (x : ℤ) → touches x s ≡ list_any (is_completed_at x) places
  touches_it p x = ap (λ (o : Option ℤ). is_posted o x || is_completed x (completed_by s)) p ∙ ap (is_completed x) (sym there) ∙ sym (any_completed x places)

  -- what is kept of a number of which the places tell
  kept_told : (x : ℤ) (e : End) → slice_get calls s.number ≡ Some s.entry → cancel_of s.entry.call ≡ None → touches x s ≡ true → Kept (new x) e → Tells places s.number x places e → FollowsOne calls (s ∷ later) x (new x)
  kept_told x e at q t k all = rw k (record {
    ended = rw t refl;
    by = rw (t, all.at, at) refl;
    cancelled = rw (t, cancels_none q x) refl;
    void = rw t (all.void ∙ ap (λ (l : List Completed). is_cancelled (said_in x l)) there);
    told = λ members. rw (t, all.at, at) (sym (all.told members) ∙ ap (told_in members x) there);
  })

  follows_middle : (middle : ℤ → Option Touch) → slice_get calls s.number ≡ Some s.entry → cancel_of s.entry.call ≡ None → given_by s ≡ None →
      ((x : ℤ) → middle x ≡ with_ends s.number places x (old x)) →
      ((x : ℤ) → new x ≡ with_tellings s.number 0 places x (middle x)) → Follows calls later old → Follows calls (s ∷ later) new
  follows_middle middle at q p g h f = by_one new (λ x. one x (list_any (is_completed_at x) places) refl)
    where
      one : (x : ℤ) (b : Bool) → b ≡ list_any (is_completed_at x) places → FollowsOne calls (s ∷ later) x (new x)
      one x false k =
          passes x (new x) f (h x ∙ unmet s.number 0 x places (middle x) (sym k) ∙ g x ∙ ap (λ (v : Bool). cond v (Some (ends_at s.number (length places))) (old x)) (sym k))
          (touches_it p x ∙ sym k) (cancels_none q x)
      one x true k =
          let all = all_told places s.number x 0 places refl in
          let m : middle x ≡ Some (ends_at s.number (length places)) = g x ∙ ap (λ (v : Bool). cond v (Some (ends_at s.number (length places))) (old x)) (sym k) in
          let e : new x ≡ Some (record { end = Some all.0; cancelled = false }) = h x ∙ ap (with_tellings s.number 0 places x) m ∙ all.1 in
          kept_told x all.0 at q (touches_it p x ∙ sym k) e all.2

  follows_noted : slice_get calls s.number ≡ Some s.entry → cancel_of s.entry.call ≡ None → given_by s ≡ None → is_any_cancelled places ≡ false →
      ((x : ℤ) → new x ≡ with_firsts s.number 0 places x (old x)) → Follows calls later old → Follows calls (s ∷ later) new
  follows_noted at q p n h f = by_one new (λ x. one x (list_any (is_completed_at x) places) refl)
    where
      one : (x : ℤ) (b : Bool) → b ≡ list_any (is_completed_at x) places → FollowsOne calls (s ∷ later) x (new x)
      one x false k = passes x (new x) f (h x ∙ unmet_firsts s.number 0 x places (old x) (sym k)) (touches_it p x ∙ sym k) (cancels_none q x)
      one x true k =
          let all = all_firsts places s.number x 0 places (old x) refl n (sym k) in
          kept_told x all.0 at q (touches_it p x ∙ sym k) (h x ∙ all.1) all.2

-- a call that cancels none and gives no number
module _ (calls : List Entry) (n : ℕ) (c : Entry) (later : List Step) (old new : ℤ → Option Touch) (quiet : IsQuiet c) (at : slice_get calls n ≡ Some c) where
  pub follows_firsts : is_any_cancelled (places_of c.call c.outs) ≡ false → ((x : ℤ) → new x ≡ with_firsts n 0 (places_of c.call c.outs) x (old x)) →
      Follows calls later old → Follows calls (whole n c ∷ later) new
  follows_firsts = follows_noted calls (whole n c) later old new at quiet.cancels_none quiet.gives_none

  pub follows_completed : (middle : ℤ → Option Touch) → ((x : ℤ) → middle x ≡ with_ends n (places_of c.call c.outs) x (old x)) →
      ((x : ℤ) → new x ≡ with_tellings n 0 (places_of c.call c.outs) x (middle x)) → Follows calls later old → Follows calls (whole n c ∷ later) new
  follows_completed middle = follows_middle calls (whole n c) later old new middle at quiet.cancels_none quiet.gives_none

-- a call that is one step
module _ (calls : List Entry) (n : ℕ) (c : Entry) (later : List Step) (old new : ℤ → Option Touch) where
  pub whole_cancel : (request : ℤ) → cancel_of c.call ≡ Some request → ((x : ℤ) → new x ≡ cond (int_eq request x) (Some (marked (old x))) (old x)) →
      Follows calls later old → Follows calls (whole n c ∷ later) new
  whole_cancel request p = follows_cancel calls (whole n c) later old new request p (idle c.call c.outs request p).0

  pub whole_given : (request : ℤ) → slice_get calls n ≡ Some c → cancel_of c.call ≡ None → given_of c.call c.outs ≡ Some request →
      ((x : ℤ) → new x ≡ cond (int_eq request x) (Some (ends_at n 0)) (old x)) → Follows calls later old → Follows calls (whole n c ∷ later) new
  whole_given request at q p = follows_given calls (whole n c) later old new request at q p (quiet c.call c.outs request p)

-- a call that has to do with no request
pub whole_silent : (calls : List Entry) (n : ℕ) (c : Entry) (later : List Step) (kept : ℤ → Option Touch) → IsWithoutRequest c.call → Follows calls later kept → Follows calls (whole n c ∷ later) kept
whole_silent calls n c later kept none f =
    let s = whole n c in
    by_one calls s later kept kept kept
    (λ x. passes calls s later kept kept x (kept x) f refl (untouched calls s later kept kept (none.gives c.outs) (none.completes c.outs) x) (cancels_none calls s later kept kept none.cancels x))

-- a Start or Startall cancels and completes none
start_quiet : (call : Call) (outs : Option Outs) → is_start call ≡ true → (cancel_of call ≡ None) × (completions call outs ≡ [])
start_quiet (Start request) outs h = (refl, refl)
start_quiet (Startall requests) outs h = (refl, refl)
start_quiet call outs h = absurd (cc)

-- a part of a Start or Startall
module _ (calls : List Entry) (n : ℕ) (s : Step) (later : List Step) (part : IsPartOf calls n s) where
  pub part_given : (old new : ℤ → Option Touch) (request : ℤ) → Some request ≡ given_by s → ((x : ℤ) → new x ≡ cond (int_eq request x) (Some (ends_at n 0)) (old x)) →
      Follows calls later old → Follows calls (s ∷ later) new
  part_given old new request p h =
      let quiet = start_quiet s.entry.call s.entry.outs part.start in
      follows_given calls s later old new request (ap (slice_get calls) part.number ∙ part.at) quiet.0 (sym p) quiet.1
      (λ x. h x ∙ ap (λ (k : ℕ). cond (int_eq request x) (Some (ends_at k 0)) (old x)) (sym part.number))

  pub part_silent : (kept : ℤ → Option Touch) → None ≡ given_by s → Follows calls later kept → Follows calls (s ∷ later) kept
  part_silent kept p f =
      let quiet = start_quiet s.entry.call s.entry.outs part.start in
      by_one calls s later kept kept kept
      (λ x. passes calls s later kept kept x (kept x) f refl (untouched calls s later kept kept (sym p) quiet.1 x) (cancels_none calls s later kept kept quiet.0 x))

-- the call at a place is what is read there
pub read_there : (calls : List Entry) (n : ℕ) (c : Entry) → slice_get calls n ≡ Some c → c ≡ get_or calls n c
read_there calls n c at = sym (get_or_from_slice_get calls n c c at)

-- a call that has to do with no request posts none
pub posts_none : (n : ℕ) (c : Entry) → IsWithoutRequest c.call → posted_by (whole n c) ≡ None
posts_none n c none = by (is_init c.call)
  where
    by : (b : Bool) → (if b then None else given_of c.call c.outs) ≡ None
    by true = refl
    by false = none.gives c.outs

-- a call that posts a number gives it
pub posts_given : (n : ℕ) (c : Entry) (x : ℤ) → posted_by (whole n c) ≡ Some x → given_of c.call c.outs ≡ Some x
posts_given n c x h = by (is_init c.call) h
  where
    by : (b : Bool) → (if b then None else given_of c.call c.outs) ≡ Some x → given_of c.call c.outs ≡ Some x
    by true k = absurd (cc)
    by false k = k
