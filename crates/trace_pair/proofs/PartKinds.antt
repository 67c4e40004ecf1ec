-- The parts of a call that are of any tag, and those of a tag, as they are settled one after another.
use Rattle.std.proofs.Common.{subst, ◌≡◌, ◌⊎◌, ℕ, zero, suc, ◌+◌, ◌<◌, Bool, true, false, List, [], ◌∷◌, ◌++◌, inl, inr, ⊎_elim, sym, refl, ◌∙◌, ap, arith, length, take, get_or, Option, Some, None}
use Rattle.std.proofs.lemmas.List.{take_more}
use Rattle.std.specs.Prelude.{is_some, is_none, not}
use Rattle.std.specs.List.{AllZip, filter}
use Rattle.mpi_model.specs.declared.message.Receive.{Receive}
use Rattle.trace_ops.specs.Order.{Has}
use Rattle.trace_pair.specs.Calls.{AreDistinct}
use Rattle.trace_pair.specs.Indexed.{is_of, with_kind}
use Rattle.trace_pair.specs.Sets.{IsSameSet}
use Rattle.trace_pair.specs.Settled.{IsNextKind, IsNextPart}
use Rattle.trace_pair.proofs.Hiding.{kept_has, was_kept}
use Rattle.trace_pair.proofs.Ranks.{has_left, has_right, has_either}
use Rattle.trace_pair.proofs.Tabled.{has_at}

pub zip_at : {A B : Type 0} (R : A → B → Type 0) (xs : List A) (ys : List B) (i : ℕ) (d : A) (e : B) → AllZip R xs ys → i < length xs → R (get_or xs i d) (get_or ys i e)
zip_at R [] ys i d e z lt = absurd (omega arith)
zip_at R (x ∷ xs) [] i d e z lt = absurd z
zip_at R (x ∷ xs) (y ∷ ys) zero d e z lt = z.0
zip_at R (x ∷ xs) (y ∷ ys) (suc i) d e z lt = zip_at R xs ys i d e z.1 (omega arith)

zip_push : {A B : Type 0} (R : A → B → Type 0) (xs : List A) (ys : List B) (x : A) (y : B) → AllZip R xs ys → R x y → AllZip R (xs ++ x ∷ []) (ys ++ y ∷ [])
zip_push R [] [] x y z r = (r, tt)
zip_push R [] (b ∷ ys) x y z r = absurd z
zip_push R (a ∷ xs) [] x y z r = absurd z
zip_push R (a ∷ xs) (b ∷ ys) x y z r = (z.0, zip_push R xs ys x y z.1 r)

pub zip_next : {A B : Type 0} (R : A → B → Type 0) (xs : List A) (ys : List B) (i : ℕ) (d : A) (y : B) → AllZip R (take i xs) ys → i < length xs → R (get_or xs i d) y → AllZip R (take (i + 1) xs) (ys ++ y ∷ [])
zip_next {A = A} R xs ys i d y z lt r = subst (λ (l : List A). AllZip R l (ys ++ y ∷ [])) (sym (take_more xs i d lt)) (zip_push R (take i xs) ys (get_or xs i d) y z r)

module _ {X : Type 0} where
  pub is_next_or : (xs : List X) (i : ℕ) (d x : X) → i < length xs → Has (take (i + 1) xs) x → Has (take i xs) x ⊎ (x ≡ get_or xs i d)
  is_next_or xs i d x lt h =
      ⊎_elim (λ (k : Has (take i xs) x). inl k) (λ (k : Has (get_or xs i d ∷ []) x). ⊎_elim (λ (e : x ≡ get_or xs i d). inr e) (λ n. absurd n) k)
      (has_either (take i xs) (get_or xs i d ∷ []) x (subst (λ (l : List X). Has l x) (take_more xs i d lt) h))

  pub is_before : (xs : List X) (i : ℕ) (d x : X) → i < length xs → Has (take i xs) x → Has (take (i + 1) xs) x
  is_before xs i d x lt h = subst (λ (l : List X). Has l x) (sym (take_more xs i d lt)) (has_left (take i xs) (get_or xs i d ∷ []) x h)

  pub is_next : (xs : List X) (i : ℕ) (d : X) → i < length xs → Has (take (i + 1) xs) (get_or xs i d)
  is_next xs i d lt = subst (λ (l : List X). Has l (get_or xs i d)) (sym (take_more xs i d lt)) (has_right (take i xs) (get_or xs i d ∷ []) (get_or xs i d) (inl refl))

  -- where none stands twice, an element doesn't stand before its place
  pub stands_once : (xs : List X) (i : ℕ) (d : X) → AreDistinct xs → i < length xs → Has (take i xs) (get_or xs i d) → ⊥
  stands_once [] i d a lt h = absurd (omega arith)
  stands_once (x ∷ xs) zero d a lt h = absurd h
  stands_once (x ∷ xs) (suc i) d a lt h =
      ⊎_elim (λ (e : get_or xs i d ≡ x). a.0 (subst (λ (y : X). Has xs y) e (has_at xs i d (omega arith)))) (λ (k : Has (take i xs) (get_or xs i d)). stands_once xs i d a.1 (omega arith) k) h

pub is_of_kind : (any_tag none : Bool) (tag : Option ℕ) → is_some tag ≡ not none → none ≡ any_tag → is_of any_tag tag ≡ true
is_of_kind true none None h e = refl
is_of_kind true none (Some t) h e = absurd (let f : true ≡ not true = h ∙ ap not e in cc)
is_of_kind false none None h e = absurd (let f : false ≡ not false = h ∙ ap not e in cc)
is_of_kind false none (Some t) h e = refl

pub of_any : (any_tag : Bool) (tag : Option ℕ) → is_of any_tag tag ≡ true → any_tag ≡ true → tag ≡ None
of_any true None h e = refl
of_any true (Some t) h e = absurd (cc)
of_any false tag h e = absurd (cc)

module _ (any_tag : Bool) (done : List Receive) where
  pub kind_was : (xs : List Receive) (r : Receive) → Has (with_kind any_tag xs done) r → (Has xs r × (is_of any_tag r.tag ≡ true)) ⊎ Has done r
  kind_was xs r h =
      let p : Receive → Bool = λ r. is_of any_tag r.tag in
      ⊎_elim (λ (k : Has (filter p xs) r). inl (was_kept p xs r k)) (λ (k : Has done r). inr k) (has_either (filter p xs) done r h)

  pub kind_here : (xs : List Receive) (r : Receive) → Has xs r → is_of any_tag r.tag ≡ true → Has (with_kind any_tag xs done) r
  kind_here xs r h is = let p : Receive → Bool = λ r. is_of any_tag r.tag in has_left (filter p xs) done r (kept_has p xs r h is)

  pub kind_old : (xs : List Receive) (r : Receive) → Has done r → Has (with_kind any_tag xs done) r
  kind_old xs r h = let p : Receive → Bool = λ r. is_of any_tag r.tag in has_right (filter p xs) done r h

  module _ (call : List Receive) (i : ℕ) (d : Receive) (lt : i < length call) where
    module _ (is : is_of any_tag (get_or call i d).tag ≡ true) where
      -- a part of this kind is done
      pub part_done : IsSameSet (get_or call i d ∷ with_kind any_tag (take i call) done) (with_kind any_tag (take (i + 1) call) done)
      part_done = record {
        keeps = λ r h. ⊎_elim (λ (e : r ≡ get_or call i d). subst (λ (x : Receive). Has (with_kind any_tag (take (i + 1) call) done) x) (sym e) (kind_here (take (i + 1) call) (get_or call i d) (is_next call i d lt) is))
            (λ (h : Has (with_kind any_tag (take i call) done) r). ⊎_elim (λ (k : Has (take i call) r × (is_of any_tag r.tag ≡ true)). kind_here (take (i + 1) call) r (is_before call i d r lt k.0) k.1) (λ (k : Has done r). kind_old (take (i + 1) call) r k) (kind_was (take i call) r h)) h;
        was = λ r h. ⊎_elim
            (λ (k : Has (take (i + 1) call) r × (is_of any_tag r.tag ≡ true)). ⊎_elim (λ (j : Has (take i call) r). inr (kind_here (take i call) r j k.1)) (λ (e : r ≡ get_or call i d). inl e) (is_next_or call i d r lt k.0))
            (λ (k : Has done r). inr (kind_old (take i call) r k)) (kind_was (take (i + 1) call) r h);
      }

      pub part_next : (qs : List Receive) → AreDistinct call → IsNextKind any_tag qs call done → IsNextPart qs call (with_kind any_tag (take i call) done) (get_or call i d)
      part_next qs distinct next = record {
        keeps = λ r h. kind_old (take i call) r (next.keeps r h);
        fresh = λ h. ⊎_elim (λ (k : Has (take i call) (get_or call i d) × (is_of any_tag (get_or call i d).tag ≡ true)). stands_once call i d distinct lt k.0) (λ (k : Has done (get_or call i d)). next.fresh (get_or call i d) (has_at call i d lt) is k)
            (kind_was (take i call) (get_or call i d) h);
        order = λ r h e. ⊎_elim (λ (any : any_tag ≡ true). inl (of_any any_tag (get_or call i d).tag is any)) (λ (k : Has done r). inr (kind_old (take i call) r k)) (next.order r h e);
      }

-- those of any tag come first
pub any_first : (qs call : List Receive) → ((r : Receive) → Has call r → Has qs r → ⊥) → IsNextKind true qs call qs
any_first qs call absent = record { keeps = λ r h. h; fresh = λ r h is k. absent r h k; order = λ r h e. inl refl }

-- then those of a tag
pub tagged_then : (qs call : List Receive) → ((r : Receive) → Has call r → Has qs r → ⊥) → IsNextKind false qs call (with_kind true call qs)
tagged_then qs call absent = record {
  keeps = λ r h. kind_old true qs call r h;
  fresh = λ r h is k. ⊎_elim (λ (w : Has call r × (is_none r.tag ≡ true)). either_kind r.tag w.1 is) (λ (j : Has qs r). absent r h j) (kind_was true qs call r k);
  order = λ r h e. inr (kind_here true qs call r h (subst (λ (t : Option ℕ). is_none t ≡ true) (sym e) refl));
}
  where
    either_kind : (tag : Option ℕ) → is_none tag ≡ true → is_some tag ≡ true → ⊥
    either_kind None h g = absurd (cc)
    either_kind (Some t) h g = absurd (cc)

-- and that is all
pub all_kinds : (qs call more : List Receive) → ((r : Receive) → Has more r → Has qs r ⊎ Has call r) → (r : Receive) → Has more r → Has (with_kind false call (with_kind true call qs)) r
all_kinds qs call more cases r h =
    ⊎_elim (λ (k : Has qs r). kind_old false (with_kind true call qs) call r (kind_old true qs call r k)) (λ (k : Has call r). of_either r.tag k refl) (cases r h)
  where
    of_either : (tag : Option ℕ) → Has call r → tag ≡ r.tag → Has (with_kind false call (with_kind true call qs)) r
    of_either None k e = kind_old false (with_kind true call qs) call r (kind_here true qs call r k (subst (λ (t : Option ℕ). is_none t ≡ true) e refl))
    of_either (Some t) k e = kind_here false (with_kind true call qs) call r k (subst (λ (t : Option ℕ). is_some t ≡ true) e refl)
