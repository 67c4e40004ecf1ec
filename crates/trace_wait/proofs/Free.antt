-- Which receives may take a message: those that are in no pair, by the ends of those of them that were not cancelled.
use Rattle.std.proofs.Common.{◌≡◌, ℕ, ◌+◌, ◌<◌, Bool, true, false, ◌&&◌, ◌||◌, List, [], ◌∷◌, ◌++◌, inl, inr, ⊎_elim, take, get_or, refl, sym, ◌∙◌, ap, length, append-nil, append_assoc, Option, Some, None}
use Rattle.std.specs.Prelude.{filter, is_none, is_some, not, if◌then◌else◌}
use Rattle.std.specs.List.{list_any, flat_map}
use Rattle.std.proofs.lemmas.Grind.{flat_map-append}
use Rattle.std.proofs.lemmas.List.{take_more}
use Rattle.std.proofs.lemmas.List.Elements.{filter-append}
use Rattle.std.proofs.lemmas.List.Folds.{list_any-append}
use Rattle.mpi_model.specs.Fit.{envelopes_fit}
use Rattle.mpi_model.specs.Trusts.{is_void}
use Rattle.mpi_model.specs.declared.message.Message.{Message}
use Rattle.mpi_model.specs.declared.message.Receive.{Receive}
use Rattle.trace_ops.specs.Ops.{Ops}
use Rattle.trace_ops.specs.Order.{Has}
use Rattle.trace_pair.specs.After.{comes_after}
use Rattle.trace_pair.specs.Ends.{AreLast}
use Rattle.trace_pair.specs.declared.ends.Ends.{Ends}
use Rattle.trace_pair.specs.declared.pair.Pair.{Pair}
use Rattle.trace_wait.specs.Matching.{free_receives, is_free, is_unpaired_receive, may_take, unpaired_receives}

-- ---- one receive more

behind : {X : Type 0} (xs : List X) (y x : X) → Has (xs ++ y ∷ []) x → Has (y ∷ xs) x
behind [] y x i = i
behind (z ∷ xs) y x (inl e) = inr (inl e)
behind (z ∷ xs) y x (inr i) = ⊎_elim (λ (e : x ≡ y). inl e) (λ (j : Has xs x). inr (inr j)) (behind xs y x i)

before : {X : Type 0} (xs : List X) (y x : X) → Has (y ∷ xs) x → Has (xs ++ y ∷ []) x
before [] y x i = i
before (z ∷ xs) y x (inl e) = inr (before xs y x (inl e))
before (z ∷ xs) y x (inr i) = ⊎_elim (λ (e : x ≡ z). inl e) (λ (j : Has xs x). inr (before xs y x (inr j))) i

-- a receive that comes may stand behind the others as well as before them
pub last_behind : (xs : List Receive) (q : Receive) (ends : Ends) → AreLast (q ∷ xs) ends → AreLast (xs ++ q ∷ []) ends
last_behind xs q ends last = record {
  marked = λ u i. last.marked u (behind xs q u i);
  within = λ u i. last.within u (behind xs q u i);
  own = λ k e h. let w = last.own k e h in (w.0, before xs q w.0 w.1, w.2, w.3);
}

pub has_one : {X : Type 0} (o : Option X) → is_some o ≡ true → is_none o ≡ false
has_one None h = absurd (cc)
has_one (Some x) h = refl

pub has_none : {X : Type 0} (o : Option X) → is_some o ≡ false → is_none o ≡ true
has_none None h = refl
has_none (Some x) h = absurd (cc)

module _ (pairs : List Pair) (q : Receive) where
  -- a receive that is passed over, and one that is put to the others
  pub passed_void : (xs : List Receive) → is_void q.trust ≡ true → xs ≡ xs ++ filter (is_free pairs) (q ∷ [])
  passed_void xs h = sym (append-nil xs) ∙ ap (λ b. xs ++ (if not b && is_unpaired_receive pairs q then q ∷ [] else [])) (sym h)

  pub passed_paired : (xs : List Receive) → is_unpaired_receive pairs q ≡ false → xs ≡ xs ++ filter (is_free pairs) (q ∷ [])
  passed_paired xs h =
      sym (append-nil xs) ∙ sym (ap (λ b. xs ++ (if not (is_void q.trust) && b then q ∷ [] else [])) h ∙ never (is_void q.trust))
    where
      never : (v : Bool) → xs ++ (if not v && false then q ∷ [] else []) ≡ xs ++ []
      never true = refl
      never false = refl

  pub put_free : (xs : List Receive) → is_void q.trust ≡ false → is_unpaired_receive pairs q ≡ true → xs ++ q ∷ [] ≡ xs ++ filter (is_free pairs) (q ∷ [])
  put_free xs h k = sym (ap (λ b. xs ++ (if not b && is_unpaired_receive pairs q then q ∷ [] else [])) h ∙ ap (λ b. xs ++ (if b then q ∷ [] else [])) k)

-- the receives of one place more
pub more_free : (pairs : List Pair) (xs qs : List Receive) (i : ℕ) (d : Receive) → i < length qs →
    (xs ++ filter (is_free pairs) (take i qs)) ++ filter (is_free pairs) (get_or qs i d ∷ []) ≡ xs ++ filter (is_free pairs) (take (i + 1) qs)
more_free pairs xs qs i d lt =
    let p = is_free pairs in
    append_assoc xs (filter p (take i qs)) (filter p (get_or qs i d ∷ []))
    ∙ ap (λ (l : List Receive). xs ++ l) (sym (ap (filter p) (take_more qs i d lt) ∙ filter-append p (take i qs) (get_or qs i d ∷ [])))

-- and those of one rank more
pub more_ranks : (pairs : List Pair) (ops : List Ops) (i : ℕ) (d : Ops) → i < length ops →
    free_receives (take i ops) pairs ++ filter (is_free pairs) (get_or ops i d).receives ≡ free_receives (take (i + 1) ops) pairs
more_ranks pairs ops i d lt =
    let f : Ops → List Receive = λ o. filter (is_free pairs) o.receives in
    sym (ap (flat_map f) (take_more ops i d lt) ∙ flat_map-append f (take i ops) (get_or ops i d ∷ []) ∙ ap (λ (l : List Receive). flat_map f (take i ops) ++ l) (append-nil (f (get_or ops i d))))

-- ---- what a message asks

-- some free receive passes a test where some unpaired one does that was not cancelled
module _ (pairs : List Pair) (g t : Receive → Bool) (same : (q : Receive) → (g q && not (is_void q.trust)) ≡ t q) where
  one_kept : (v u : Bool) (q : Receive) (free unpaired : List Receive) → (g q && not v) ≡ t q → list_any g free ≡ list_any t unpaired →
      list_any g (if not v && u then q ∷ free else free) ≡ list_any t (if u then q ∷ unpaired else unpaired)
  one_kept true true q free unpaired e h = h ∙ ap (λ b. b || list_any t unpaired) (sym (nothing (g q)) ∙ e)
    where
      nothing : (a : Bool) → (a && false) ≡ false
      nothing true = refl
      nothing false = refl
  one_kept false true q free unpaired e h = ap (λ b. b || list_any g free) (sym (all (g q)) ∙ e) ∙ ap (λ b. t q || b) h
    where
      all : (a : Bool) → (a && true) ≡ a
      all true = refl
      all false = refl
  one_kept true false q free unpaired e h = h
  one_kept false false q free unpaired e h = h

  kept_any : (qs : List Receive) → list_any g (filter (is_free pairs) qs) ≡ list_any t (filter (is_unpaired_receive pairs) qs)
  kept_any [] = refl
  kept_any (q ∷ qs) =
      one_kept (is_void q.trust) (is_unpaired_receive pairs q) q (filter (is_free pairs) qs) (filter (is_unpaired_receive pairs) qs) (same q) (kept_any qs)

  free_any : (ops : List Ops) → list_any g (free_receives ops pairs) ≡ list_any t (unpaired_receives ops pairs)
  free_any [] = refl
  free_any (o ∷ ops) =
      list_any-append g (filter (is_free pairs) o.receives) (free_receives ops pairs)
      ∙ ap (λ b. b || list_any g (free_receives ops pairs)) (kept_any o.receives)
      ∙ ap (λ b. list_any t (filter (is_unpaired_receive pairs) o.receives) || b) (free_any ops)
      ∙ sym (list_any-append t (filter (is_unpaired_receive pairs) o.receives) (unpaired_receives ops pairs))

module _ (ops : List Ops) (m : Message) where
  -- a message that was not cancelled is taken by what its envelope fits
  pub taken_by_free : (pairs : List Pair) → is_void m.trust ≡ false →
      list_any (λ q. envelopes_fit m q && not (comes_after ops m q)) (free_receives ops pairs) ≡ list_any (may_take ops m) (unpaired_receives ops pairs)
  taken_by_free pairs h =
      free_any pairs (λ q. envelopes_fit m q && not (comes_after ops m q)) (may_take ops m)
      (λ q. turned (envelopes_fit m q) (not (comes_after ops m q)) (not (is_void q.trust)) (is_void m.trust) h) ops
    where
      turned : (a b c v : Bool) → v ≡ false → ((a && b) && c) ≡ ((a && not v && c) && b)
      turned a b c true h = absurd (cc)
      turned true true true false h = refl
      turned true true false false h = refl
      turned true false true false h = refl
      turned true false false false h = refl
      turned false b c false h = refl

  -- and a cancelled one by none
  pub taken_by_none : is_void m.trust ≡ true → (qs : List Receive) → false ≡ list_any (may_take ops m) qs
  taken_by_none h [] = refl
  taken_by_none h (q ∷ qs) =
      taken_by_none h qs ∙ ap (λ b. b || list_any (may_take ops m) qs) (sym (never (envelopes_fit m q) (is_void m.trust) (not (is_void q.trust)) (not (comes_after ops m q)) h))
    where
      never : (a v b c : Bool) → v ≡ true → ((a && not v && b) && c) ≡ false
      never a false b c h = absurd (cc)
      never true true b c h = refl
      never false true b c h = refl
