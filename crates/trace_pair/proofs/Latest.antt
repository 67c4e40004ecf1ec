-- The ends of open receives, as one comes and as a message asks for them.
use Rattle.std.proofs.Common.{◌≡◌, ℕ, true, false, List, ◌∷◌, inl, inr, ⊎_elim, sym, refl, ◌∙◌, ap, arith, subst, cond, Option, Some, None}
use Rattle.std.specs.Ordering.{is_eq}
use Rattle.std.specs.BTreeMap.{get}
use Rattle.std.specs.Cmp.{tied_itself}
use Rattle.std.proofs.lemmas.Bool.Decides.{nat_tests}
use Rattle.mpi_model.specs.declared.message.Message.{Message}
use Rattle.mpi_model.specs.declared.message.Receive.{Receive}
use Rattle.mpi_model.specs.Fit.{admits}
use Rattle.trace_ops.specs.Order.{Has}
use Rattle.trace_pair.specs.Ends.{AreLast, IsLastAmong, IsLastFor, ends_by, later_end, with_end}
use Rattle.trace_pair.specs.KeyOrders.{ReceiveKey, receive_key_cmp, receive_key_of}
use Rattle.trace_pair.specs.Queues.{had, kinds_with, of_kind}
use Rattle.trace_pair.specs.declared.ends.Ends.{Ends}
use Rattle.trace_pair.specs.declared.queues.Kinds.{Kinds}
use Rattle.trace_pair.proofs.LaterEnds.{later_left, later_one, later_right}
use Rattle.trace_pair.proofs.Orders.{receive_keys_total, exact_receive_keys}
use Rattle.trace_pair.proofs.PutAt.{says_equal}
use Rattle.trace_pair.proofs.Queued.{all_kinds, fit_from, had_alike, had_still, had_with, kinds, receive_key_fits}

pub ends_self : (e : Option ℕ) → ends_by e e ≡ true
ends_self None = refl
ends_self (Some x) = grind (arith, nat_tests)

pub ends_along : (a b c : Option ℕ) → ends_by a b ≡ true → ends_by b c ≡ true → ends_by a c ≡ true
ends_along a b None h g = refl
ends_along a None (Some z) h g = cc
ends_along None (Some y) (Some z) h g = cc
ends_along (Some x) (Some y) (Some z) h g = grind (arith, nat_tests)

with_right : (had : Option (Option ℕ)) (e : Option ℕ) → ends_by e (with_end had e) ≡ true
with_right None e = ends_self e
with_right (Some h) e = later_right h e

module _ (opened : List Receive) (old : Ends) (s : AreLast opened old) (q : Receive) (new : Ends)
    (marked : new.kinds ≡ kinds_with old.kinds q.source q.tag)
    (puts : (k : ReceiveKey) → get receive_key_cmp new.last k ≡ cond (is_eq (receive_key_cmp (receive_key_of q) k)) (Some (with_end (get receive_key_cmp old.last (receive_key_of q)) q.ended)) (get receive_key_cmp old.last k)) where
  abbrev key : ReceiveKey
  key = receive_key_of q

  abbrev raised : Option ℕ
  raised = with_end (get receive_key_cmp old.last key) q.ended

  same_key : (k : ReceiveKey) → is_eq (receive_key_cmp key k) ≡ true → key ≡ k
  same_key k h = exact_receive_keys key k (says_equal (receive_key_cmp key k) h)

  at_key : get receive_key_cmp new.last key ≡ Some raised
  at_key =
      elim (is_eq (receive_key_cmp key key)) as (λ b. is_eq (receive_key_cmp key key) ≡ b → get receive_key_cmp new.last key ≡ Some raised) [
        | true ↦ λ e. puts key ∙ ap (λ b. cond b (Some raised) (get receive_key_cmp old.last key)) e
        | false ↦ λ e. let r = ap is_eq (tied_itself receive_keys_total key) in absurd (cc)
      ] refl

  raises : (e : Option ℕ) → get receive_key_cmp old.last key ≡ Some e → ends_by e raised ≡ true
  raises e h = subst (λ (o : Option (Option ℕ)). ends_by e (with_end o q.ended) ≡ true) (sym h) (later_left e q.ended)

  within_more : (u : Receive) → Has (q ∷ opened) u → (e : Option ℕ) × (get receive_key_cmp new.last (receive_key_of u) ≡ Some e) × (ends_by u.ended e ≡ true)
  within_more u (inl is) = (
    raised,
    ap (λ (x : Receive). get receive_key_cmp new.last (receive_key_of x)) is ∙ at_key,
    subst (λ (x : Receive). ends_by x.ended raised ≡ true) (sym is) (with_right (get receive_key_cmp old.last key) q.ended),
  )
  within_more u (inr i) =
      let w = s.within u i in
      elim (is_eq (receive_key_cmp key (receive_key_of u))) as (λ b. is_eq (receive_key_cmp key (receive_key_of u)) ≡ b → (e : Option ℕ) × (get receive_key_cmp new.last (receive_key_of u) ≡ Some e) × (ends_by u.ended e ≡ true)) [
        | true ↦ λ h.
            let k = same_key (receive_key_of u) h in (
              raised,
              subst (λ (x : ReceiveKey). get receive_key_cmp new.last x ≡ Some raised) k at_key,
              ends_along u.ended w.0 raised w.2 (raises w.0 (ap (get receive_key_cmp old.last) k ∙ w.1)),
            )
        | false ↦ λ h. (w.0, puts (receive_key_of u) ∙ ap (λ b. cond b (Some raised) (get receive_key_cmp old.last (receive_key_of u))) h ∙ w.1, w.2)
      ] refl

  -- what stood at the key, or what came
  raised_by : (o : Option (Option ℕ)) → o ≡ get receive_key_cmp old.last key → (u : Receive) × Has (q ∷ opened) u × (receive_key_of u ≡ key) × (u.ended ≡ with_end o q.ended)
  raised_by None h = (q, inl refl, refl, refl)
  raised_by (Some e) h =
      let w = s.own key e (sym h) in
      ⊎_elim (λ (x : later_end e q.ended ≡ e). (w.0, inr w.1, w.2, w.3 ∙ sym x)) (λ (x : later_end e q.ended ≡ q.ended). (q, inl refl, refl, sym x)) (later_one e q.ended)

  own_more : (k : ReceiveKey) (e : Option ℕ) → get receive_key_cmp new.last k ≡ Some e → (u : Receive) × Has (q ∷ opened) u × (receive_key_of u ≡ k) × (u.ended ≡ e)
  own_more k e h =
      elim (is_eq (receive_key_cmp key k)) as (λ b. is_eq (receive_key_cmp key k) ≡ b → (u : Receive) × Has (q ∷ opened) u × (receive_key_of u ≡ k) × (u.ended ≡ e)) [
        | true ↦ λ g.
            let w = raised_by (get receive_key_cmp old.last key) refl in
            let f : Some raised ≡ Some e = sym (puts k ∙ ap (λ b. cond b (Some raised) (get receive_key_cmp old.last k)) g) ∙ h in
            let d : raised ≡ e = cc in
            (w.0, w.1, w.2 ∙ same_key k g, w.3 ∙ d)
        | false ↦ λ g.
            let w = s.own k e (sym (puts k ∙ ap (λ b. cond b (Some raised) (get receive_key_cmp old.last k)) g) ∙ h) in
            (w.0, inr w.1, w.2, w.3)
      ] refl

  pub last_more : AreLast (q ∷ opened) new
  last_more = record {
    marked = λ u i. subst (λ (k : Kinds). had k u.source u.tag ≡ true) (sym marked)
        (⊎_elim (λ (e : u ≡ q). subst (λ (x : Receive). had (kinds_with old.kinds q.source q.tag) x.source x.tag ≡ true) (sym e) (had_with old.kinds q.source q.tag))
        (λ (j : Has opened u). had_still old.kinds q.source q.tag u.source u.tag (s.marked u j)) i);
    within = within_more;
    own = own_more;
  }

-- ---- what a message asks

module _ (opened : List Receive) (ends : Ends) (s : AreLast opened ends) (m : Message) (source tag : Option ℕ) (a : admits source m.from ≡ true) (b : admits tag m.tag ≡ true) where
  -- a kind that no receive had
  pub none_of_kind : had ends.kinds source tag ≡ false → IsLastAmong opened m (of_kind source tag) None
  none_of_kind none = λ r i g f. let x = s.marked r i in let y = had_alike ends.kinds source tag r.source r.tag g ∙ none in absurd (cc)

  pub last_at : (o : Option (Option ℕ)) → o ≡ get receive_key_cmp ends.last (m.to, tag, source, m.comm) → IsLastAmong opened m (of_kind source tag) o
  last_at None h = λ r i g f.
      let w = s.within r i in
      let k = receive_key_fits m source tag r a b g f in
      let x : None ≡ Some w.0 = h ∙ ap (get receive_key_cmp ends.last) k ∙ w.1 in absurd (cc)
  last_at (Some e) h =
      let w = s.own (m.to, tag, source, m.comm) e (sym h) in
      let fit = fit_from m w.0 (sym (ap (λ (x : ReceiveKey). x.3) w.2)) (sym (ap (λ (x : ReceiveKey). x.0) w.2))
      (ap (λ (x : ReceiveKey). admits x.2 m.from) w.2 ∙ a) (ap (λ (x : ReceiveKey). admits x.1 m.tag) w.2 ∙ b) in (
        (w.0, w.1, fit, w.3),
        λ r i g f.
            let v = s.within r i in
            let k = receive_key_fits m source tag r a b g f in
            let x : Some v.0 ≡ Some e = sym v.1 ∙ sym (ap (get receive_key_cmp ends.last) k) ∙ sym h in
            let d : v.0 ≡ e = cc in
            subst (λ (y : Option ℕ). ends_by r.ended y ≡ true) d v.2,
      )

-- each receive is of one of the four kinds
pub last_of_all : (xs : List Receive) (m : Message) (o : Option (Option ℕ)) → IsLastAmong xs m (all_kinds m) o → IsLastFor xs m o
last_of_all xs m None h = λ r i f. h r i (kinds r.source r.tag m.from m.tag) f
last_of_all xs m (Some e) h = (h.0, λ r i f. h.1 r i (kinds r.source r.tag m.from m.tag) f)
