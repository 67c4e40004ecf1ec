-- What comes where a rank's steps go on is of later calls.
use Rattle.std.proofs.Common.{◌≡◌, ℕ, ◌+◌, ◌<◌, ◌≤◌, List, [], ◌∷◌, ◌⊎◌, inl, inr, length, drop, refl, sym, ◌∙◌, ap, subst, arith}
use Rattle.std.specs.Prelude.{Option, Some, None}
use Rattle.std.specs.List.{filter_map, cons_option}
use Rattle.mpi_model.specs.declared.call.Call.{Call}
use Rattle.mpi_model.specs.declared.call.Call.TheVariants.{Improbe}
use Rattle.mpi_model.specs.declared.event.OpName.{OpName}
use Rattle.mpi_model.specs.declared.message.Message.{Message}
use Rattle.mpi_model.specs.declared.message.Receive.{Receive}
use Rattle.mpi_model.specs.Layouts.{Parts}
use Rattle.trace_ops.specs.Foreign.{Group, group_of}
use Rattle.trace_ops.specs.Message.{message_in, message_of, sends_of, sent_by}
use Rattle.trace_ops.specs.Ops.{SameSend, TellsMore}
use Rattle.trace_ops.specs.Order.{Has}
use Rattle.trace_ops.specs.Receive.{receive_in, receive_of, receives_of, taken_by}
use Rattle.trace_ops.specs.Steps.{Placed, Step, name_of, naming, placed, starting}
use Rattle.trace_ops.proofs.Growing.{AreFrom, Continues, GoesFrom}
use Rattle.trace_ops.proofs.Owned.{message_own, receive_own}
use Rattle.trace_ops.proofs.Rising.{Behind, IsOf, Rise}
use Rattle.trace_ops.proofs.Telling.{AwaitsProbe, IsPlain, More, message_more, receive_more}
use Rattle.trace_ops.proofs.Within.{below_of, posted_within, sent_within}

-- The last of these steps is of this call, an Improbe that has not returned.
abbrev IsLast : ℕ → List Step → Type 0
IsLast k [] = ⊥
IsLast k (s ∷ []) = (s.number ≡ k) × AwaitsProbe s
IsLast k (s ∷ t ∷ later) = IsLast k (t ∷ later)

last_behind : (k : ℕ) (s : Step) (later : List Step) → IsLast k later → IsLast k (s ∷ later)
last_behind k s [] l = absurd l
last_behind k s (t ∷ later) l = l

-- the steps before the last are of earlier calls
last_above : (k n i : ℕ) (steps : List Step) → IsLast k steps → Rise n (i + 1) steps → n < k
last_above k n i [] l r = absurd l
last_above k n i (s ∷ []) l r = by r.0
  where
    by : Behind n (i + 1) s.number s.part → n < k
    by (inl lt) = let e = l.0 in omega (arith, lt, e)
    by (inr b) = let le = b.1 in let e = l.1.whole in absurd (omega (arith, le, e))
last_above k n i (s ∷ t ∷ later) l r = by r.0 (last_above k s.number s.part (t ∷ later) l r.1)
  where
    by : Behind n (i + 1) s.number s.part → s.number < k → n < k
    by (inl lt) more = omega (arith, lt, more)
    by (inr b) more = let e = b.0 in omega (arith, e, more)

module _ {Y : Type 0} (name : Y → OpName) (at : Y → ℕ) (rank : ℕ) (f : Placed → Option Y) (own : (p : Placed) → IsOf name at rank p.step (f p)) where
  told_at : (s : Step) (y : Y) → IsOf name at rank s (Some y) → (name y).call ≡ s.number
  told_at s y o = ap (λ (a : OpName). a.call) o.0

  -- what steps of calls from a number on tell
  told_from : (bound : ℕ) (steps : List Step) → AreFrom bound steps → (y : Y) → Has (filter_map f (placed steps)) y → bound ≤ (name y).call
  told_from bound [] from y h = absurd h
  told_from bound (s ∷ later) from y h = by (f (record { step = s; later = later })) (own (record { step = s; later = later })) h (told_from bound later from.1 y)
    where
      by : (o : Option Y) → IsOf name at rank s o → Has (cons_option o (filter_map f (placed later))) y → (Has (filter_map f (placed later)) y → bound ≤ (name y).call) → bound ≤ (name y).call
      by None o h more = more h
      by (Some z) o (inl e) more = let k = told_at s z o in let g : (name y).call ≡ (name z).call = ap (λ (v : Y). (name v).call) e in let le = from.0 in omega (arith, k, g, le)
      by (Some z) o (inr h) more = more h

  -- what steps tell is of calls before the last of them, where that is an Improbe that has not returned
  module _ (quiet : (p : Placed) → AwaitsProbe p.step → f p ≡ None) where
    before_last : (k n i : ℕ) (steps : List Step) → IsLast k steps → Rise n i steps → (y : Y) → Has (filter_map f (placed steps)) y → (name y).call < k
    before_last k n i [] l r y h = absurd l
    before_last k n i (s ∷ []) l r y h = by (f (record { step = s; later = [] })) (quiet (record { step = s; later = [] }) l.1) h
      where
        by : (o : Option Y) → o ≡ None → Has (cons_option o []) y → (name y).call < k
        by None e h = absurd h
        by (Some z) e h = absurd (cc)
    before_last k n i (s ∷ t ∷ later) l r y h =
        by (f (record { step = s; later = t ∷ later })) (own (record { step = s; later = t ∷ later })) h (before_last k s.number (s.part + 1) (t ∷ later) l r.1 y)
      where
        by : (o : Option Y) → IsOf name at rank s o → Has (cons_option o (filter_map f (placed (t ∷ later)))) y → (Has (filter_map f (placed (t ∷ later))) y → (name y).call < k) → (name y).call < k
        by None o h more = more h
        by (Some z) o (inl e) more =
            let above = last_above k s.number s.part (t ∷ later) l r.1 in
            let m = told_at s z o in
            let g : (name y).call ≡ (name z).call = ap (λ (v : Y). (name v).call) e in
            omega (arith, above, m, g)
        by (Some z) o (inr h) more = more h

  -- ---- what comes

  front_falls : (R : Y → Y → Type 0) (o p : Option Y) (xs ys : List Y) → More R o p → drop (length (cons_option o xs)) (cons_option p ys) ≡ drop (length xs) ys
  front_falls R None None xs ys m = refl
  front_falls R None (Some z) xs ys m = absurd m
  front_falls R (Some y) None xs ys m = absurd m
  front_falls R (Some y) (Some z) xs ys m = refl

  none_falls : (o : Option Y) (ys : List Y) (y : Y) → o ≡ None → Has (drop (length (cons_option o [])) ys) y → Has ys y
  none_falls None ys y e h = h
  none_falls (Some z) ys y e h = absurd (cc)

  same_number : (s t : Step) (later : List Step) → Continues s t later → t.number ≡ s.number
  same_number s t later (inl e) = ap (λ (u : Step). u.number) e
  same_number s t later (inr c) = c.0.number

  module _ (R : Y → Y → Type 0)
      (more : (bound : ℕ) (s t : Step) (old new : List Step) → Continues s t old → GoesFrom bound old new →
      More R (f (record { step = s; later = old })) (f (record { step = t; later = new })) ⊎ ((f (record { step = s; later = old }) ≡ None) × (old ≡ []) × AwaitsProbe s)) where
    -- It is of a call from the bound on, or it comes with the Return of an Improbe.
    comes_from : (bound : ℕ) (old new : List Step) → GoesFrom bound old new → (y : Y) → Has (drop (length (filter_map f (placed old))) (filter_map f (placed new))) y →
        (bound ≤ (name y).call) ⊎ IsLast (name y).call old
    comes_from bound [] new g y h = inl (told_from bound new g y h)
    comes_from bound (s ∷ old) [] g y h = absurd g
    comes_from bound (s ∷ old) (t ∷ new) g y h = by (more bound s t old new g.1 g.2) (comes_from bound old new g.2 y)
      where
        Comes : Type 0
        Comes = (bound ≤ (name y).call) ⊎ IsLast (name y).call (s ∷ old)

        first : Option Y
        first = f (record { step = s; later = old })

        behind : (bound ≤ (name y).call) ⊎ IsLast (name y).call old → Comes
        behind (inl le) = inl le
        behind (inr l) = inr (last_behind (name y).call s old l)

        returned : old ≡ [] → AwaitsProbe s → (p : Option Y) → IsOf name at rank t p → Has (cons_option p (filter_map f (placed new))) y → Comes
        returned e a None o h = inl (told_from bound new (subst (λ (l : List Step). GoesFrom bound l new) e g.2) y h)
        returned e a (Some z) o (inl i) =
            let k : s.number ≡ (name y).call = sym (ap (λ (v : Y). (name v).call) i ∙ told_at t z o ∙ same_number s t old g.1) in
            inr (subst (λ (l : List Step). IsLast (name y).call (s ∷ l)) (sym e) (k, a))
        returned e a (Some z) o (inr h) = inl (told_from bound new (subst (λ (l : List Step). GoesFrom bound l new) e g.2) y h)

        by : More R (f (record { step = s; later = old })) (f (record { step = t; later = new })) ⊎ ((f (record { step = s; later = old }) ≡ None) × (old ≡ []) × AwaitsProbe s) →
            (Has (drop (length (filter_map f (placed old))) (filter_map f (placed new))) y → (bound ≤ (name y).call) ⊎ IsLast (name y).call old) → Comes
        by (inl m) go =
            let k = front_falls R (f (record { step = s; later = old })) (f (record { step = t; later = new })) (filter_map f (placed old)) (filter_map f (placed new)) m in
            behind (go (subst (λ (l : List Y). Has l y) k h))
        by (inr c) go =
            let i = subst (λ (l : List Step). Has (drop (length (cons_option first (filter_map f (placed l)))) (filter_map f (placed (t ∷ new)))) y) c.1 h in
            returned c.1 c.2 (f (record { step = t; later = new })) (own (record { step = t; later = new })) (none_falls first (filter_map f (placed (t ∷ new))) y c.0 i)

-- ---- messages and receives

module _ (layout : Parts) (rank : ℕ) where
  silent_message : (p : Placed) → AwaitsProbe p.step → message_of layout rank p ≡ None
  silent_message p a = by (group_of layout rank (naming p.step) (starting p.step))
    where
      of : (g : Group) (call : Call) → (IsPlain call → ⊥) → sent_by g (name_of rank p.step) p.step p.later call ≡ None
      of g (Improbe e) h = refl
      of g call h = absurd (h tt)

      by : (g : Option Group) → message_in g (name_of rank p.step) p ≡ None
      by None = refl
      by (Some g) = of g (starting p.step) a.probe

  silent_receive : (p : Placed) → AwaitsProbe p.step → receive_of layout rank p ≡ None
  silent_receive p a = by (group_of layout rank (naming p.step) (starting p.step))
    where
      of : (g : Group) (call : Call) → (IsPlain call → ⊥) → taken_by g (name_of rank p.step) p.step p.later call ≡ None
      of g (Improbe e) h = rw a.unreturned refl
      of g call h = absurd (h tt)

      by : (g : Option Group) → receive_in g (name_of rank p.step) p ≡ None
      by None = refl
      by (Some g) = of g (starting p.step) a.probe

  module _ (bound n i : ℕ) (old new : List Step) (rise : Rise n i old) (go : GoesFrom bound old new) where
    -- The call is one that comes: it is none of the old ones, or the last of them, an Improbe that has not returned.
    abbrev pub IsNew : ℕ → Type 0
    IsNew k = (bound ≤ k) ⊎ IsLast k old

    ahead : (a k : ℕ) → a < bound → (IsLast k old → a < k) → IsNew k → a < k
    ahead a k lt before (inl le) = omega (arith, lt, le)
    ahead a k lt before (inr l) = before l

    pub message_ahead : (m : Message) → Has (sends_of layout rank old) m → (k : ℕ) → IsNew k → m.name.call < k
    message_ahead m h k = ahead m.name.call k (sent_within layout rank bound old (below_of bound old new go) m h)
        (λ l. before_last (λ v. v.name) (λ v. v.from) rank (message_of layout rank) (message_own layout rank) silent_message k n i old l rise m h)

    pub receive_ahead : (q : Receive) → Has (receives_of layout rank old) q → (k : ℕ) → IsNew k → q.name.call < k
    receive_ahead q h k = ahead q.name.call k (posted_within layout rank bound old (below_of bound old new go) q h)
        (λ l. before_last (λ v. v.name) (λ v. v.at) rank (receive_of layout rank) (receive_own layout rank) silent_receive k n i old l rise q h)

    pub message_comes : (m : Message) → Has (drop (length (sends_of layout rank old)) (sends_of layout rank new)) m → IsNew m.name.call
    message_comes = comes_from (λ v. v.name) (λ v. v.from) rank (message_of layout rank) (message_own layout rank) SameSend (λ bound s t old new c h. inl (message_more layout rank bound s t old new c h)) bound old new go

    pub receive_comes : (q : Receive) → Has (drop (length (receives_of layout rank old)) (receives_of layout rank new)) q → IsNew q.name.call
    receive_comes = comes_from (λ v. v.name) (λ v. v.at) rank (receive_of layout rank) (receive_own layout rank) TellsMore (receive_more layout rank) bound old new go
