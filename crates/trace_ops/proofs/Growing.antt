-- What becomes of what steps tell where a rank's readable events get longer.
use Rattle.std.proofs.Common.{◌≡◌, ℕ, ◌<◌, ◌≤◌, Bool, true, false, ◌&&◌, ◌||◌, not, List, [], ◌∷◌, ◌⊎◌, inl, inr, refl, sym, ◌∙◌, ap, subst}
use Rattle.std.specs.Prelude.{ℤ, Option, Some, None, is_some, if◌then◌else◌}
use Rattle.mpi_model.specs.declared.call.Call.{Call}
use Rattle.mpi_model.specs.declared.call.Call.TheVariants.{Isend, Irecv, Icollective, Imrecv, SendInit, RecvInit, Start, Startall, Wait, Waitall, Waitany, Waitsome, Test, Testall, Testany, Testsome, Free}
use Rattle.mpi_model.specs.declared.outcome.Outs.{Outs}
use Rattle.mpi_model.specs.declared.told.Told.TheVariants.{Nothing}
use Rattle.mpi_model.specs.Tells.{is_cancelled}
use Rattle.trace_ops.specs.Ended.{ended_by}
use Rattle.trace_ops.specs.Request.{completions, given_of, is_completed, is_completing, is_init, is_posted, is_start}
use Rattle.trace_ops.specs.Source.{told_by, told_in}
use Rattle.trace_ops.specs.Steps.{Begun, Step, completed_by, given_by, given_with, posted_by, touches}
use Rattle.trace_ops.specs.Trust.{cancel_of, cancels, has_cancel, is_matched_receive, said_by, said_in, trust_of_post, trust_with}
use Rattle.trace_ops.specs.Ops.{StaysVoid}

-- the call of a step has not returned
abbrev pub IsOpen : Step → Type 0
IsOpen s = s.entry.outs ≡ None

-- parts of a Start or Startall that has not returned
abbrev pub AreOpen : List Step → Type 0
AreOpen [] = Unit {0}
AreOpen (s ∷ later) = IsOpen s × (is_start s.entry.call ≡ true) × AreOpen later

-- the same step, of which it may be known by now that its call has returned
pub record Same (s t : Step) : Type 0 where
  pub number : t.number ≡ s.number
  pub part : t.part ≡ s.part
  pub call : t.entry.call ≡ s.entry.call
  pub begun : t.begun ≡ s.begun

-- A step goes on: it is as it was, or its call had not returned, and was the last. Of an open call there is one step,
-- with the place 0, or each is a part of a start.
abbrev pub Continues : Step → Step → List Step → Type 0
Continues s t later = (t ≡ s) ⊎ (Same s t × IsOpen s × (((later ≡ []) × (s.part ≡ 0)) ⊎ ((is_start s.entry.call ≡ true) × AreOpen later)))

-- steps of calls from a number on
abbrev pub AreFrom : ℕ → List Step → Type 0
AreFrom bound [] = Unit {0}
AreFrom bound (s ∷ later) = (bound ≤ s.number) × AreFrom bound later

-- The new steps begin with the old ones, which are of calls below the bound; those that come are of later calls.
abbrev pub GoesFrom : ℕ → List Step → List Step → Type 0
GoesFrom bound [] new = AreFrom bound new
GoesFrom bound (s ∷ old) [] = ⊥
GoesFrom bound (s ∷ old) (t ∷ new) = (s.number < bound) × Continues s t old × GoesFrom bound old new

-- ---- open steps give, complete and tell nothing

give_none : (call : Call) → given_of call None ≡ None
give_none (Isend mode e) = refl
give_none (Irecv e) = refl
give_none (Icollective c) = refl
give_none Imrecv = refl
give_none (SendInit mode e) = refl
give_none (RecvInit e) = refl
give_none call = refl

complete_none : (call : Call) → completions call None ≡ []
complete_none (Wait x) = refl
complete_none (Waitall xs) = refl
complete_none (Waitany xs) = refl
complete_none (Waitsome xs) = refl
complete_none (Test x) = refl
complete_none (Testall xs) = refl
complete_none (Testany xs) = refl
complete_none (Testsome xs) = refl
complete_none (Free x) = refl
complete_none call = refl

gives_none : (s : Step) → IsOpen s → given_by s ≡ None
gives_none s k = by s.begun
  where
    by : (b : Option Begun) → given_with s.entry b ≡ None
    by None = ap (given_of s.entry.call) k ∙ give_none s.entry.call
    by (Some b) = ap (λ (o : Option Outs). if is_some o then Some b.request else None) k

completes_none : (s : Step) → IsOpen s → completed_by s ≡ []
completes_none s k = ap (completions s.entry.call) k ∙ complete_none s.entry.call

pub posts_none : (s : Step) → IsOpen s → posted_by s ≡ None
posts_none s k = by (is_init s.entry.call)
  where
    by : (b : Bool) → (if b then None else given_by s) ≡ None
    by true = refl
    by false = gives_none s k

touches_none : (x : ℤ) (s : Step) → IsOpen s → touches x s ≡ false
touches_none x s k = ap (λ (o : Option ℤ). is_posted o x || is_completed x (completed_by s)) (gives_none s k) ∙ ap (is_completed x) (completes_none s k)

no_cancel : (call : Call) → is_start call ≡ true → cancel_of call ≡ None
no_cancel (Start x) h = refl
no_cancel (Startall xs) h = refl
no_cancel call h = absurd (cc)

no_matched : (call : Call) → is_start call ≡ true → is_matched_receive call ≡ false
no_matched (Start x) h = refl
no_matched (Startall xs) h = refl
no_matched call h = absurd (cc)

-- what stands behind an open step is open
all_open : (s : Step) (later : List Step) → (((later ≡ []) × (s.part ≡ 0)) ⊎ ((is_start s.entry.call ≡ true) × AreOpen later)) → AreOpen later
all_open s later (inl e) = subst (λ (l : List Step). AreOpen l) (sym e.0) tt
all_open s later (inr o) = o.1

told_none : (members : List ℕ) (x : ℤ) (later : List Step) → AreOpen later → told_by members x later ≡ None
told_none members x [] o = refl
told_none members x (s ∷ later) o = rw (touches_none x s o.0) (told_none members x later o.2)

end_none : (x : ℤ) (later : List Step) → AreOpen later → ended_by x later ≡ None
end_none x [] o = refl
end_none x (s ∷ later) o = rw (touches_none x s o.0) (end_none x later o.2)

said_none : (x : ℤ) (later : List Step) → AreOpen later → said_by x later ≡ Nothing
said_none x [] o = refl
said_none x (s ∷ later) o = rw (touches_none x s o.0) (said_none x later o.2)

cancel_none : (x : ℤ) (later : List Step) → AreOpen later → has_cancel x later ≡ false
cancel_none x [] o = refl
cancel_none x (s ∷ later) o = rw (ap (λ (c : Option ℤ). is_posted c x) (no_cancel s.entry.call o.1), touches_none x s o.0) (cancel_none x later o.2)

-- ---- what is told stays

abbrev pub Stays : Option ℕ → Option ℕ → Type 0
Stays old new = is_some old ≡ true → new ≡ old

untold : (new : Option ℕ) → Stays None new
untold new h = cc

pub told_stays : (members : List ℕ) (x : ℤ) (bound : ℕ) (old new : List Step) → GoesFrom bound old new → Stays (told_by members x old) (told_by members x new)
told_stays members x bound [] new g = untold (told_by members x new)
told_stays members x bound (s ∷ old) [] g = absurd g
told_stays members x bound (s ∷ old) (t ∷ new) g = on g.1 (told_stays members x bound old new g.2)
  where
    by : (b : Bool) → (Stays (told_by members x old) (told_by members x new)) → Stays (if b then told_in members x (completed_by s) else told_by members x old) (if b then told_in members x (completed_by s) else told_by members x new)
    by true more h = refl
    by false more h = more h

    on : Continues s t old → (Stays (told_by members x old) (told_by members x new)) → Stays (told_by members x (s ∷ old)) (told_by members x (t ∷ new))
    on (inl e) more = subst (λ (u : Step). Stays (told_by members x (s ∷ old)) (told_by members x (u ∷ new))) (sym e) (by (touches x s) more)
    on (inr c) more =
        let none : told_by members x (s ∷ old) ≡ None = rw (touches_none x s c.1) (told_none members x old (all_open s old c.2)) in
        subst (λ (o : Option ℕ). Stays o (told_by members x (t ∷ new))) (sym none) (untold (told_by members x (t ∷ new)))

pub end_stays : (x : ℤ) (bound : ℕ) (old new : List Step) → GoesFrom bound old new → Stays (ended_by x old) (ended_by x new)
end_stays x bound [] new g = untold (ended_by x new)
end_stays x bound (s ∷ old) [] g = absurd g
end_stays x bound (s ∷ old) (t ∷ new) g = on g.1 (end_stays x bound old new g.2)
  where
    by : (b : Bool) → (Stays (ended_by x old) (ended_by x new)) → Stays (if b then (if is_completing s.entry then Some s.number else None) else ended_by x old) (if b then (if is_completing s.entry then Some s.number else None) else ended_by x new)
    by true more h = refl
    by false more h = more h

    on : Continues s t old → (Stays (ended_by x old) (ended_by x new)) → Stays (ended_by x (s ∷ old)) (ended_by x (t ∷ new))
    on (inl e) more = subst (λ (u : Step). Stays (ended_by x (s ∷ old)) (ended_by x (u ∷ new))) (sym e) (by (touches x s) more)
    on (inr c) more =
        let none : ended_by x (s ∷ old) ≡ None = rw (touches_none x s c.1) (end_none x old (all_open s old c.2)) in
        subst (λ (o : Option ℕ). Stays o (ended_by x (t ∷ new))) (sym none) (untold (ended_by x (t ∷ new)))

-- ---- what a Cancel leaves

pub cancel_stays : (x : ℤ) (bound : ℕ) (old new : List Step) → GoesFrom bound old new → has_cancel x old ≡ true → has_cancel x new ≡ true
cancel_stays x bound [] new g h = cc
cancel_stays x bound (s ∷ old) [] g h = absurd g
cancel_stays x bound (s ∷ old) (t ∷ new) g h = on g.1 (cancel_stays x bound old new g.2)
  where
    by : (named touched : Bool) → (has_cancel x old ≡ true → has_cancel x new ≡ true) → (named || (not touched && has_cancel x old)) ≡ true → (named || (not touched && has_cancel x new)) ≡ true
    by true touched more k = refl
    by false true more k = cc
    by false false more k = more k

    first : (named touched : Bool) → (named || (not touched && false)) ≡ true → named ≡ true
    first true touched k = refl
    first false true k = cc
    first false false k = cc

    on : Continues s t old → (has_cancel x old ≡ true → has_cancel x new ≡ true) → has_cancel x (t ∷ new) ≡ true
    on (inl e) more = subst (λ (u : Step). has_cancel x (u ∷ new) ≡ true) (sym e) (by (cancels x s) (touches x s) more h)
    on (inr c) more =
        let none = cancel_none x old (all_open s old c.2) in
        let named : cancels x s ≡ true = first (cancels x s) (touches x s) (subst (λ (b : Bool). (cancels x s || (not (touches x s) && b)) ≡ true) none h) in
        let same : cancels x t ≡ true = ap (λ (k : Call). is_posted (cancel_of k) x) c.0.call ∙ named in
        rw same refl

pub said_stays : (x : ℤ) (bound : ℕ) (old new : List Step) → GoesFrom bound old new → is_cancelled (said_by x old) ≡ true → is_cancelled (said_by x new) ≡ true
said_stays x bound [] new g h = cc
said_stays x bound (s ∷ old) [] g h = absurd g
said_stays x bound (s ∷ old) (t ∷ new) g h = on g.1 (said_stays x bound old new g.2)
  where
    by : (b : Bool) → (is_cancelled (said_by x old) ≡ true → is_cancelled (said_by x new) ≡ true) → is_cancelled (if b then said_in x (completed_by s) else said_by x old) ≡ true → is_cancelled (if b then said_in x (completed_by s) else said_by x new) ≡ true
    by true more k = k
    by false more k = more k

    on : Continues s t old → (is_cancelled (said_by x old) ≡ true → is_cancelled (said_by x new) ≡ true) → is_cancelled (said_by x (t ∷ new)) ≡ true
    on (inl e) more = subst (λ (u : Step). is_cancelled (said_by x (u ∷ new)) ≡ true) (sym e) (by (touches x s) more h)
    on (inr c) more =
        let none : said_by x (s ∷ old) ≡ Nothing = rw (touches_none x s c.1) (said_none x old (all_open s old c.2)) in
        let k : is_cancelled (said_by x (s ∷ old)) ≡ false = ap is_cancelled none in
        absurd (cc)

void_with : (named void told named' void' told' : Bool) → (named ≡ true → named' ≡ true) → (void ≡ true → void' ≡ true) → StaysVoid (trust_with named void told) (trust_with named' void' told')
void_with false void told named' void' told' h k v = cc
void_with true true told named' void' told' h k v = rw (h refl, k refl) refl
void_with true false true named' void' told' h k v = cc
void_with true false false named' void' told' h k v = cc

pub trust_stays : (p : Option ℤ) (bound : ℕ) (old new : List Step) (told told' : Bool) → GoesFrom bound old new → StaysVoid (trust_of_post old p told) (trust_of_post new p told')
trust_stays None bound old new told told' g = λ v. v
trust_stays (Some x) bound old new told told' g =
    void_with (has_cancel x old) (is_cancelled (said_by x old)) told (has_cancel x new) (is_cancelled (said_by x new)) told' (cancel_stays x bound old new g) (said_stays x bound old new g)
