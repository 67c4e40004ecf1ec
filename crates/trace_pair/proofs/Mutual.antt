-- The takers and the taken messages of couples, as a couple comes or goes.
use Rattle.std.proofs.Common.{subst, ◌≡◌, true, false, inl, inr, ⊎_elim, sym, refl, ◌∙◌, ap, ◌⊎◌, cond, Option, Some, None}
use Rattle.std.specs.Option.{option_map}
use Rattle.std.specs.Prelude.{IfSome, IfNone}
use Rattle.mpi_model.specs.declared.event.OpName.{OpName}
use Rattle.mpi_model.specs.declared.message.Message.{Message}
use Rattle.mpi_model.specs.declared.message.Receive.{Receive}
use Rattle.trace_ops.specs.Order.{Has}
use Rattle.trace_pair.specs.Coupled.{receive_by, taker_name, couple_by, couples_in, AreMutual, IsNew, IsOneMessage, IsOneReceive}
use Rattle.trace_pair.specs.Indexed.{couple_of}
use Rattle.trace_pair.specs.Slots.{Slots, AreSlots, value_of, entries_of}
use Rattle.trace_pair.specs.Sets.{AddsTo, DropsFrom, IsSameSet}
use Rattle.trace_pair.specs.Table.{same_name}
use Rattle.trace_pair.specs.declared.pair.Couple.{Couple}
use Rattle.trace_pair.specs.declared.pair.Taker.{Taker}
use Rattle.trace_pair.proofs.Listed.{from_some, gives_some, agree, agrees}
use Rattle.trace_pair.proofs.Slotted.{has_entry, entry_has}

abbrev Takers : Type 0
Takers = Slots Taker

abbrev Taken : Type 0
Taken = Slots Message

one_value : {V : Type 0} (o : Option V) (x y : V) → o ≡ Some x → o ≡ Some y → x ≡ y
one_value o x y g h = let e : Some x ≡ Some y = sym g ∙ h in cc

pub some_or_none : {V : Type 0} (o : Option V) (x : V) → o ≡ Some x → o ≡ None → ⊥
some_or_none o x g h = let e : Some x ≡ None = sym g ∙ h in absurd (cc)

-- a map that differs at one key
module _ {V : Type 0} (old new : Slots V) (key : OpName) (v : Option V) (law : (k : OpName) → value_of new k ≡ cond (same_name key k) v (value_of old k)) where
  pub at_key : value_of new key ≡ v
  at_key = law key ∙ ap (λ b. cond b v (value_of old key)) (agrees key key refl)

  pub elsewhere : (k : OpName) → (key ≡ k) ⊎ (value_of new k ≡ value_of old k)
  elsewhere k =
      elim (same_name key k) as (λ b. same_name key k ≡ b → (key ≡ k) ⊎ (value_of new k ≡ value_of old k)) [
        | true ↦ λ e. inl (agree key k e)
        | false ↦ λ e. inr (law k ∙ ap (λ b. cond b v (value_of old k)) e)
      ] refl

-- maps with the same values
pub mutual_same : (a c : Takers) (b d : Taken) → AreMutual a b → AreSlots c → AreSlots d → ((k : OpName) → value_of c k ≡ value_of a k) → ((k : OpName) → value_of d k ≡ value_of b k) → AreMutual c d
mutual_same a c b d inv o p f g = record {
  takers_rise = o;
  taken_rise = p;
  there = λ n t h. let w = inv.there n t (sym (f n) ∙ h) in (w.0, w.1, g (taker_name w.0 t) ∙ w.2);
  back = λ r m h. let w = inv.back r m (sym (g r) ∙ h) in (w.0, f m.name ∙ w.1, w.2);
  once = λ r s m n h k e. inv.once r s m n (sym (g r) ∙ h) (sym (g s) ∙ k) e;
}

module _ (takers : Takers) (taken : Taken) (inv : AreMutual takers taken) where
  -- what is in both maps is a couple
  pub in_both : (m : Message) (t : Taker) → value_of takers m.name ≡ Some t → value_of taken (taker_name m t) ≡ Some m → Has (couples_in takers taken) (couple_of m (receive_by m t))
  in_both m t g h =
      gives_some (λ (e : OpName × Message). couple_by takers e.1) (entries_of taken) (taker_name m t, m) (couple_of m (receive_by m t))
      (has_entry taken (taker_name m t) m h)
      (ap (option_map (λ (t : Taker). couple_of m (receive_by m t))) g)

  -- and a couple is in both
  pub both_in : (c : Couple) → Has (couples_in takers taken) c →
      (t : Taker) × (value_of takers c.message.name ≡ Some t) × (value_of taken (taker_name c.message t) ≡ Some c.message) × (c ≡ couple_of c.message (receive_by c.message t))
  both_in c i =
      let w = from_some (λ (e : OpName × Message). couple_by takers e.1) (entries_of taken) c i in
      let g : value_of taken w.0.0 ≡ Some w.0.1 = entry_has taken inv.taken_rise w.0.0 w.0.1 w.1 in
      let b = inv.back w.0.0 w.0.1 g in
      let f : couple_of w.0.1 (receive_by w.0.1 b.0) ≡ c = one_value (couple_by takers w.0.1) (couple_of w.0.1 (receive_by w.0.1 b.0)) c (ap (option_map (λ (t : Taker). couple_of w.0.1 (receive_by w.0.1 t))) b.1) w.2 in
      let k : w.0.1 ≡ c.message = ap (λ (x : Couple). x.message) f in (
        b.0,
        subst (λ (m : Message). value_of takers m.name ≡ Some b.0) k b.1,
        subst (λ (m : Message). value_of taken (taker_name m b.0) ≡ Some m) k (ap (λ (r : OpName). value_of taken r) (sym b.2) ∙ g),
        sym f ∙ ap (λ (m : Message). couple_of m (receive_by m b.0)) k,
      )

  pub taker_some : (m : Message) (t : Taker) → value_of takers m.name ≡ Some t → IsOneMessage (couples_in takers taken) m → Has (couples_in takers taken) (couple_of m (receive_by m t))
  taker_some m t g one =
      let w = inv.there m.name t g in
      let i = in_both w.0 t (ap (λ (n : OpName). value_of takers n) w.1 ∙ g) w.2 in
      subst (λ (n : Message). Has (couples_in takers taken) (couple_of n (receive_by n t))) (one (couple_of w.0 (receive_by w.0 t)) i w.1) i

  pub taker_none : (m : Message) → value_of takers m.name ≡ None → (q : Receive) → Has (couples_in takers taken) (couple_of m q) → ⊥
  taker_none m e q i = let w = both_in (couple_of m q) i in some_or_none (value_of takers m.name) w.0 w.1 e

  pub taken_some : (q : Receive) (m : Message) → value_of taken q.name ≡ Some m → IsOneReceive (couples_in takers taken) q → Has (couples_in takers taken) (couple_of m q)
  taken_some q m g one =
      let w = inv.back q.name m g in
      let i = in_both m w.0 w.1 (ap (λ (r : OpName). value_of taken r) (sym w.2) ∙ g) in
      subst (λ (r : Receive). Has (couples_in takers taken) (couple_of m r)) (one (couple_of m (receive_by m w.0)) i (sym w.2)) i

  pub taken_name : (c : Couple) → Has (couples_in takers taken) c → value_of taken c.receive.name ≡ Some c.message
  taken_name c i =
      let w = both_in c i in
      let e : c.receive.name ≡ taker_name c.message w.0 = ap (λ (x : Couple). x.receive.name) w.3 in
      ap (λ (r : OpName). value_of taken r) e ∙ w.2

  pub taken_none : (q : Receive) → value_of taken q.name ≡ None → (m : Message) → Has (couples_in takers taken) (couple_of m q) → ⊥
  taken_none q e m i = some_or_none (value_of taken q.name) m (taken_name (couple_of m q) i) e

-- a couple comes
module _ (a c : Takers) (b d : Taken) (inv : AreMutual a b) (m : Message) (t : Taker) (o : AreSlots c) (p : AreSlots d)
    (law : (k : OpName) → value_of c k ≡ cond (same_name m.name k) (Some t) (value_of a k))
    (other : (k : OpName) → value_of d k ≡ cond (same_name (taker_name m t) k) (Some m) (value_of b k))
    (free : value_of a m.name ≡ None) (untaken : value_of b (taker_name m t) ≡ None) where
  came : value_of c m.name ≡ Some t
  came = at_key a c m.name (Some t) law

  came_too : value_of d (taker_name m t) ≡ Some m
  came_too = at_key b d (taker_name m t) (Some m) other

  is_taker : (n : OpName) (u : Taker) → m.name ≡ n → value_of c n ≡ Some u → t ≡ u
  is_taker n u e g = one_value (value_of c n) t u (ap (λ (k : OpName). value_of c k) (sym e) ∙ came) g

  is_taken : (r : OpName) (n : Message) → taker_name m t ≡ r → value_of d r ≡ Some n → m ≡ n
  is_taken r n e g = one_value (value_of d r) m n (ap (λ (k : OpName). value_of d k) (sym e) ∙ came_too) g

  not_free : (n : OpName) (u : Taker) → m.name ≡ n → value_of a n ≡ Some u → ⊥
  not_free n u e g = some_or_none (value_of a n) u g (ap (λ (k : OpName). value_of a k) (sym e) ∙ free)

  not_open : (r : OpName) (n : Message) → taker_name m t ≡ r → value_of b r ≡ Some n → ⊥
  not_open r n e g = some_or_none (value_of b r) n g (ap (λ (k : OpName). value_of b k) (sym e) ∙ untaken)

  keeps_taker : (n : OpName) (u : Taker) → value_of a n ≡ Some u → value_of c n ≡ Some u
  keeps_taker n u g = ⊎_elim (λ (e : m.name ≡ n). absurd (not_free n u e g)) (λ (e : value_of c n ≡ value_of a n). e ∙ g) (elsewhere a c m.name (Some t) law n)

  keeps_taken : (r : OpName) (n : Message) → value_of b r ≡ Some n → value_of d r ≡ Some n
  keeps_taken r n g = ⊎_elim (λ (e : taker_name m t ≡ r). absurd (not_open r n e g)) (λ (e : value_of d r ≡ value_of b r). e ∙ g) (elsewhere b d (taker_name m t) (Some m) other r)

  pub mutual_more : AreMutual c d
  mutual_more = record {
    takers_rise = o;
    taken_rise = p;
    there = λ n u g. ⊎_elim
        (λ (e : m.name ≡ n). (m, e, subst (λ (u : Taker). value_of d (taker_name m u) ≡ Some m) (is_taker n u e g) came_too))
        (λ (e : value_of c n ≡ value_of a n). let w = inv.there n u (sym e ∙ g) in (w.0, w.1, keeps_taken (taker_name w.0 u) w.0 w.2))
        (elsewhere a c m.name (Some t) law n);
    back = λ r n g. ⊎_elim
        (λ (e : taker_name m t ≡ r).
        let f = is_taken r n e g in
        (t, subst (λ (x : Message). value_of c x.name ≡ Some t) f came, sym e ∙ ap (λ (x : Message). taker_name x t) f))
        (λ (e : value_of d r ≡ value_of b r). let w = inv.back r n (sym e ∙ g) in (w.0, keeps_taker n.name w.0 w.1, w.2))
        (elsewhere b d (taker_name m t) (Some m) other r);
    once = λ r s x y g h e. ⊎_elim
        (λ (i : taker_name m t ≡ r). ⊎_elim
        (λ (j : taker_name m t ≡ s). sym i ∙ j)
        (λ (j : value_of d s ≡ value_of b s). let w = inv.back s y (sym j ∙ h) in
        absurd (not_free y.name w.0 (ap (λ (z : Message). z.name) (is_taken r x i g) ∙ e) w.1))
        (elsewhere b d (taker_name m t) (Some m) other s))
        (λ (i : value_of d r ≡ value_of b r). ⊎_elim
        (λ (j : taker_name m t ≡ s). let w = inv.back r x (sym i ∙ g) in
        absurd (not_free x.name w.0 (ap (λ (z : Message). z.name) (is_taken s y j h) ∙ sym e) w.1))
        (λ (j : value_of d s ≡ value_of b s). inv.once r s x y (sym i ∙ g) (sym j ∙ h) e)
        (elsewhere b d (taker_name m t) (Some m) other s))
        (elsewhere b d (taker_name m t) (Some m) other r);
  }

  pub couples_more : (x : Couple) → x ≡ couple_of m (receive_by m t) → AddsTo (couples_in a b) (couples_in c d) x
  couples_more x is = record {
    keeps = λ y i. let w = both_in a b inv y i in
        subst (λ (z : Couple). Has (couples_in c d) z) (sym w.3) (in_both c d mutual_more y.message w.0 (keeps_taker y.message.name w.0 w.1) (keeps_taken (taker_name y.message w.0) y.message w.2));
    added = subst (λ (z : Couple). Has (couples_in c d) z) (sym is) (in_both c d mutual_more m t came came_too);
    cases = λ y i. let w = both_in c d mutual_more y i in ⊎_elim
        (λ (e : m.name ≡ y.message.name).
        let r = mutual_more.once (taker_name m t) (taker_name y.message w.0) m y.message came_too w.2 e in
        let f = is_taken (taker_name y.message w.0) y.message r w.2 in
        let g = is_taker y.message.name w.0 e w.1 in
        inr (w.3 ∙ ap (λ (u : Taker). couple_of y.message (receive_by y.message u)) (sym g) ∙ ap (λ (z : Message). couple_of z (receive_by z t)) (sym f) ∙ sym is))
        (λ (e : value_of c y.message.name ≡ value_of a y.message.name). ⊎_elim
        (λ (f : taker_name m t ≡ taker_name y.message w.0). let g = is_taken (taker_name y.message w.0) y.message f w.2 in
        absurd (not_free y.message.name w.0 (ap (λ (z : Message). z.name) g) (sym e ∙ w.1)))
        (λ (f : value_of d (taker_name y.message w.0) ≡ value_of b (taker_name y.message w.0)).
        inl (subst (λ (z : Couple). Has (couples_in a b) z) (sym w.3) (in_both a b inv y.message w.0 (sym e ∙ w.1) (sym f ∙ w.2))))
        (elsewhere b d (taker_name m t) (Some m) other (taker_name y.message w.0)))
        (elsewhere a c m.name (Some t) law y.message.name);
  }

-- a couple goes
module _ (a c : Takers) (b d : Taken) (inv : AreMutual a b) (r : OpName) (m : Message) (o : AreSlots c) (p : AreSlots d)
    (found : value_of b r ≡ Some m)
    (law : (k : OpName) → value_of c k ≡ cond (same_name m.name k) None (value_of a k))
    (other : (k : OpName) → value_of d k ≡ cond (same_name r k) None (value_of b k)) where
  went : (n : OpName) (u : Taker) → m.name ≡ n → value_of c n ≡ Some u → ⊥
  went n u e g = some_or_none (value_of c n) u g (ap (λ (k : OpName). value_of c k) (sym e) ∙ at_key a c m.name None law)

  went_too : (s : OpName) (n : Message) → r ≡ s → value_of d s ≡ Some n → ⊥
  went_too s n e g = some_or_none (value_of d s) n g (ap (λ (k : OpName). value_of d k) (sym e) ∙ at_key b d r None other)

  was_found : (s : OpName) (n : Message) → r ≡ s → value_of b s ≡ Some n → m ≡ n
  was_found s n e g = one_value (value_of b s) m n (ap (λ (k : OpName). value_of b k) (sym e) ∙ found) g

  was_taker : (n : OpName) (u : Taker) → value_of c n ≡ Some u → value_of a n ≡ Some u
  was_taker n u g = ⊎_elim (λ (e : m.name ≡ n). absurd (went n u e g)) (λ (e : value_of c n ≡ value_of a n). sym e ∙ g) (elsewhere a c m.name None law n)

  was_taken : (s : OpName) (n : Message) → value_of d s ≡ Some n → value_of b s ≡ Some n
  was_taken s n g = ⊎_elim (λ (e : r ≡ s). absurd (went_too s n e g)) (λ (e : value_of d s ≡ value_of b s). sym e ∙ g) (elsewhere b d r None other s)

  pub mutual_less : AreMutual c d
  mutual_less = record {
    takers_rise = o;
    taken_rise = p;
    there = λ n u g.
        let w = inv.there n u (was_taker n u g) in (
          w.0,
          w.1,
          ⊎_elim
              (λ (e : r ≡ taker_name w.0 u). absurd (went n u (ap (λ (z : Message). z.name) (was_found (taker_name w.0 u) w.0 e w.2) ∙ w.1) g))
              (λ (e : value_of d (taker_name w.0 u) ≡ value_of b (taker_name w.0 u)). e ∙ w.2) (elsewhere b d r None other (taker_name w.0 u)),
        );
    back = λ s n g.
        let h = was_taken s n g in
        let w = inv.back s n h in (
          w.0,
          ⊎_elim
              (λ (e : m.name ≡ n.name). absurd (went_too s n (inv.once r s m n found h e) g))
              (λ (e : value_of c n.name ≡ value_of a n.name). e ∙ w.1) (elsewhere a c m.name None law n.name),
          w.2,
        );
    once = λ s u x y g h e. inv.once s u x y (was_taken s x g) (was_taken u y h) e;
  }

  pub couples_less : (x : Couple) → x.receive.name ≡ r → Has (couples_in a b) x → DropsFrom (couples_in a b) (couples_in c d) x
  couples_less x named i =
      let v = both_in a b inv x i in
      let f : m ≡ x.message = one_value (value_of b r) m x.message found (ap (λ (k : OpName). value_of b k) (sym named) ∙ taken_name a b inv x i) in
      record {
        keeps = λ y j. let w = both_in a b inv y j in ⊎_elim
            (λ (e : m.name ≡ y.message.name).
            let k = inv.once r (taker_name y.message w.0) m y.message found w.2 e in
            let g : m ≡ y.message = was_found (taker_name y.message w.0) y.message k w.2 in
            let z : y.message ≡ x.message = sym g ∙ f in
            let t : w.0 ≡ v.0 = one_value (value_of a y.message.name) w.0 v.0 w.1 (ap (λ (n : Message). value_of a n.name) z ∙ v.1) in
            inr (w.3 ∙ ap (λ (u : Taker). couple_of y.message (receive_by y.message u)) t ∙ ap (λ (n : Message). couple_of n (receive_by n v.0)) z ∙ sym v.3))
            (λ (e : value_of c y.message.name ≡ value_of a y.message.name). ⊎_elim
            (λ (k : r ≡ taker_name y.message w.0). let g = was_found (taker_name y.message w.0) y.message k w.2 in
            absurd (went y.message.name w.0 (ap (λ (n : Message). n.name) g) (e ∙ w.1)))
            (λ (k : value_of d (taker_name y.message w.0) ≡ value_of b (taker_name y.message w.0)).
            inl (subst (λ (z : Couple). Has (couples_in c d) z) (sym w.3) (in_both c d mutual_less y.message w.0 (e ∙ w.1) (k ∙ w.2))))
            (elsewhere b d r None other (taker_name y.message w.0)))
            (elsewhere a c m.name None law y.message.name);
        dropped = λ j. let w = both_in c d mutual_less x j in went x.message.name w.0 (ap (λ (n : Message). n.name) f) w.1;
        was = λ y j. let w = both_in c d mutual_less y j in
            subst (λ (z : Couple). Has (couples_in a b) z) (sym w.3) (in_both a b inv y.message w.0 (was_taker y.message.name w.0 w.1) (was_taken (taker_name y.message w.0) y.message w.2));
      }

-- the first map had grown, and the second was refused
pub same_again : (a c e : Takers) (key : OpName) (t : Taker) → value_of a key ≡ None →
    ((k : OpName) → value_of c k ≡ cond (same_name key k) (Some t) (value_of a k)) →
    ((k : OpName) → value_of e k ≡ cond (same_name key k) None (value_of c k)) → (k : OpName) → value_of e k ≡ value_of a k
same_again a c e key t free put took k =
    elim (same_name key k) as (λ b. same_name key k ≡ b → value_of e k ≡ value_of a k) [
      | true ↦ λ h. took k ∙ ap (λ b. cond b None (value_of c k)) h ∙ sym (ap (λ (n : OpName). value_of a n) (sym (agree key k h)) ∙ free)
      | false ↦ λ h. took k ∙ ap (λ b. cond b None (value_of c k)) h ∙ put k ∙ ap (λ b. cond b (Some t) (value_of a k)) h
    ] refl

-- nothing stood at the key that is taken out
pub nothing_left : {V : Type 0} (old new : Slots V) (key : OpName) → value_of old key ≡ None →
    ((k : OpName) → value_of new k ≡ cond (same_name key k) None (value_of old k)) → (k : OpName) → value_of new k ≡ value_of old k
nothing_left old new key none law k =
    ⊎_elim (λ (e : key ≡ k). ap (λ (n : OpName). value_of new n) (sym e) ∙ at_key old new key None law ∙ sym (ap (λ (n : OpName). value_of old n) (sym e) ∙ none))
    (λ (e : value_of new k ≡ value_of old k). e) (elsewhere old new key None law k)

-- a new couple's calls are in no map
module _ (a : Takers) (b : Taken) (inv : AreMutual a b) (c : Couple) (new : IsNew (couples_in a b) c) where
  pub new_taker : value_of a c.message.name ≡ None
  new_taker =
      elim (value_of a c.message.name) as (λ o. value_of a c.message.name ≡ o → o ≡ None) [
        | None ↦ λ e. refl
        | Some t ↦ λ e.
            let w = inv.there c.message.name t e in
            absurd (new.message (couple_of w.0 (receive_by w.0 t)) (in_both a b inv w.0 t (ap (λ (n : OpName). value_of a n) w.1 ∙ e) w.2) w.1)
      ] refl

  pub new_taken : value_of b c.receive.name ≡ None
  new_taken =
      elim (value_of b c.receive.name) as (λ o. value_of b c.receive.name ≡ o → o ≡ None) [
        | None ↦ λ e. refl
        | Some m ↦ λ e.
            let w = inv.back c.receive.name m e in
            absurd (new.receive (couple_of m (receive_by m w.0)) (in_both a b inv m w.0 w.1 (ap (λ (r : OpName). value_of b r) (sym w.2) ∙ e)) (sym w.2))
      ] refl

module _ (a : Takers) (b : Taken) (inv : AreMutual a b) (q : Receive) where
  pub taken_if_some : (o : Option Message) → o ≡ value_of b q.name → IfSome o (λ m. IsOneReceive (couples_in a b) q → Has (couples_in a b) (couple_of m q))
  taken_if_some None e = tt
  taken_if_some (Some m) e = taken_some a b inv q m (sym e)

  pub taken_if_none : (o : Option Message) → o ≡ value_of b q.name → IfNone o ((m : Message) → Has (couples_in a b) (couple_of m q) → ⊥)
  taken_if_none None e = taken_none a b inv q (sym e)
  taken_if_none (Some m) e = tt

-- slots came or went that have no value
pub couples_same : (a c : Takers) (b d : Taken) → AreMutual a b → AreSlots c → AreSlots d → ((k : OpName) → value_of c k ≡ value_of a k) → ((k : OpName) → value_of d k ≡ value_of b k) → IsSameSet (couples_in a b) (couples_in c d)
couples_same a c b d inv o p f g =
    let inv2 = mutual_same a c b d inv o p f g in
    record {
      keeps = λ y i. let w = both_in a b inv y i in
          subst (λ (z : Couple). Has (couples_in c d) z) (sym w.3) (in_both c d inv2 y.message w.0 (f y.message.name ∙ w.1) (g (taker_name y.message w.0) ∙ w.2));
      was = λ y i. let w = both_in c d inv2 y i in
          subst (λ (z : Couple). Has (couples_in a b) z) (sym w.3) (in_both a b inv y.message w.0 (sym (f y.message.name) ∙ w.1) (sym (g (taker_name y.message w.0)) ∙ w.2));
    }
