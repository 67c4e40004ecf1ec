-- Places by keys, as a place comes to a row, as some of its places are passed, and as a row comes.
use Rattle.std.proofs.Common.{subst, ◌≡◌, ℕ, zero, suc, Bool, true, false, List, [], ◌∷◌, ◌++◌, inl, inr, ⊎_elim, sym, refl, ◌∙◌, ap, cond, ◌⊎◌, Option, Some, None, Result, Ok, Err, length, get_or}
use Rattle.std.specs.Prelude.{slice_get, slice_set, OnOk}
use Rattle.std.specs.declared.cmp.Ordering.{Ordering}
use Rattle.std.specs.Ordering.{is_eq}
use Rattle.std.specs.Cmp.{IsTotalOrder}
use Rattle.std.specs.Map.{lookup}
use Rattle.std.specs.Option.{option_map}
use Rattle.std.specs.BTreeMap.{BTreeMap, get, is_at}
use Rattle.std.proofs.lemmas.Cmp.{tied_itself}
use Rattle.std.proofs.lemmas.Map.Made.{lookup-map_values}
use Rattle.std.proofs.lemmas.Option.{get_or_from_slice_get}
use Rattle.trace_pair.specs.ByKey.{AreRows, HasNoRow, IsKeyAt, PutsRow, by_key, places_of}
use Rattle.trace_pair.specs.Waiting.{from_waiting, items_of, places_at, sole_or_first}
use Rattle.trace_pair.specs.declared.by_key.Row.{Row}
use Rattle.trace_pair.specs.declared.pair.Taker.{Taker}
use Rattle.mpi_model.specs.declared.message.Message.{Message}
use Rattle.trace_pair.proofs.PutAt.{at_equal, says_equal}

-- a row at its place, and at others, where it is written again
set_here : {X : Type 0} (xs : List X) (i : ℕ) (x y : X) → slice_get xs i ≡ Some x → slice_get (slice_set xs i y) i ≡ Some y
set_here [] i x y e = absurd (cc)
set_here (z ∷ xs) zero x y e = refl
set_here (z ∷ xs) (suc i) x y e = set_here xs i x y e

set_other : {X : Type 0} (xs : List X) (i j : ℕ) (y : X) → (j ≡ i → ⊥) → slice_get (slice_set xs i y) j ≡ slice_get xs j
set_other [] i j y d = refl
set_other (z ∷ xs) zero zero y d = absurd (d refl)
set_other (z ∷ xs) zero (suc j) y d = refl
set_other (z ∷ xs) (suc i) zero y d = refl
set_other (z ∷ xs) (suc i) (suc j) y d = set_other xs i j y (λ e. d (ap suc e))

-- the one behind the others, or one of these
last_or_old : {X : Type 0} (xs : List X) (x : X) (i : ℕ) (y : X) → slice_get (xs ++ x ∷ []) i ≡ Some y → (slice_get xs i ≡ Some y) ⊎ ((i ≡ length xs) × (y ≡ x))
last_or_old [] x zero y e = inr (refl, cc)
last_or_old [] x (suc i) y e = absurd (cc)
last_or_old (z ∷ xs) x zero y e = inl e
last_or_old {X = X} (z ∷ xs) x (suc i) y e =
    ⊎_elim (λ (f : slice_get xs i ≡ Some y). inl f) (λ (w : (i ≡ length xs) × (y ≡ x)). inr (ap suc w.0, w.1)) (last_or_old xs x i y e)

still_there : {X : Type 0} (xs : List X) (x : X) (i : ℕ) (y : X) → slice_get xs i ≡ Some y → slice_get (xs ++ x ∷ []) i ≡ Some y
still_there [] x i y e = absurd (cc)
still_there (z ∷ xs) x zero y e = e
still_there (z ∷ xs) x (suc i) y e = still_there xs x i y e

last_there : {X : Type 0} (xs : List X) (x : X) → slice_get (xs ++ x ∷ []) (length xs) ≡ Some x
last_there [] x = refl
last_there (z ∷ xs) x = last_there xs x

none_under : {X Y : Type 0} (g : X → Y) (o : Option X) → option_map g o ≡ None → o ≡ None
none_under g None e = refl
none_under g (Some x) e = absurd (cc)

module _ {K : Type 0} where
  -- the rows keep their keys
  key_stays : (rows : List (Row K)) (i j : ℕ) (row new r : Row K) → slice_get rows i ≡ Some row → new.key ≡ row.key → slice_get rows j ≡ Some r → (s : Row K) × (slice_get (slice_set rows i new) j ≡ Some s) × (s.key ≡ r.key)
  key_stays [] i j row new r e k f = absurd (cc)
  key_stays (x ∷ rows) zero zero row new r e k f = let d : row ≡ r = cc in (new, refl, k ∙ ap (λ (y : Row K). y.key) d)
  key_stays (x ∷ rows) zero (suc j) row new r e k f = (r, f, refl)
  key_stays (x ∷ rows) (suc i) zero row new r e k f = (r, f, refl)
  key_stays (x ∷ rows) (suc i) (suc j) row new r e k f = key_stays rows i j row new r e k f

  key_was : (rows : List (Row K)) (i j : ℕ) (row new s : Row K) → slice_get rows i ≡ Some row → new.key ≡ row.key → slice_get (slice_set rows i new) j ≡ Some s → (r : Row K) × (slice_get rows j ≡ Some r) × (s.key ≡ r.key)
  key_was [] i j row new s e k f = absurd (cc)
  key_was (x ∷ rows) zero zero row new s e k f = let d : new ≡ s = cc in (row, e, sym (ap (λ (y : Row K). y.key) d) ∙ k)
  key_was (x ∷ rows) zero (suc j) row new s e k f = (s, f, refl)
  key_was (x ∷ rows) (suc i) zero row new s e k f = (s, f, refl)
  key_was (x ∷ rows) (suc i) (suc j) row new s e k f = key_was rows i j row new s e k f

  -- the places in the row that the map tells
  abbrev told_by : List (Row K) → Option ℕ → List ℕ
  told_by rows o = items_of (option_map (λ (i : ℕ). places_of (slice_get rows i)) o)

  at_key : (cmp : K → K → Ordering) (rows : List (Row K)) (index : BTreeMap K ℕ) (k : K) → places_at cmp (by_key rows index) k ≡ told_by rows (get cmp index k)
  at_key cmp rows index k = ap (λ (o : Option (List ℕ)). items_of o) (lookup-map_values (λ (i : ℕ). places_of (slice_get rows i)) (is_at (cmp k)) index.entries)

  -- no place stands at a key of no row
  pub none_at_key : (cmp : K → K → Ordering) (rows : List (Row K)) (index : BTreeMap K ℕ) (k : K) → None ≡ get cmp index k → places_at cmp (by_key rows index) k ≡ []
  none_at_key cmp rows index k e = at_key cmp rows index k ∙ ap (λ (o : Option ℕ). told_by rows o) (sym e)

  pub free_in_index : (cmp : K → K → Ordering) (rows : List (Row K)) (index : BTreeMap K ℕ) (k : K) → HasNoRow cmp (by_key rows index) k → get cmp index k ≡ None
  free_in_index cmp rows index k h =
      let g = λ (i : ℕ). places_of (slice_get rows i) in
      none_under g (get cmp index k) (sym (lookup-map_values g (is_at (cmp k)) index.entries) ∙ h)

  pub free_at_key : (cmp : K → K → Ordering) (rows : List (Row K)) (index : BTreeMap K ℕ) (k : K) → None ≡ get cmp index k → HasNoRow cmp (by_key rows index) k
  free_at_key cmp rows index k e =
      let g = λ (i : ℕ). places_of (slice_get rows i) in
      lookup-map_values g (is_at (cmp k)) index.entries ∙ ap (λ (o : Option ℕ). option_map g o) (sym e)

  pub rows_same : (cmp : K → K → Ordering) (rows more : List (Row K)) (index new : BTreeMap K ℕ) → more ≡ rows → new.entries ≡ index.entries → AreRows cmp rows index → AreRows cmp more new
  rows_same cmp rows more index new d e are =
      let same : (k : K) → get cmp new k ≡ get cmp index k = λ k. ap (λ (es : List (K × ℕ)). lookup (is_at (cmp k)) es) e in
      subst (λ (l : List (Row K)). AreRows cmp l new) (sym d) (record {
        there = λ k i f. are.there k i (sym (same k) ∙ f);
        found = λ i r f. same r.key ∙ are.found i r f;
      })

  pub no_rows : (cmp : K → K → Ordering) (rows : List (Row K)) (index : BTreeMap K ℕ) → rows ≡ [] → ((k : K) → get cmp index k ≡ None) → AreRows cmp rows index
  no_rows cmp rows index d none = record {
    there = λ k i f. let n = none k in absurd (cc);
    found = λ i r f. let e : slice_get [] i ≡ Some r = subst (λ (l : List (Row K)). slice_get l i ≡ Some r) d f in absurd (nothing i r e);
  }
    where
      nothing : (i : ℕ) (r : Row K) → slice_get [] i ≡ Some r → ⊥
      nothing zero r e = absurd (cc)
      nothing (suc i) r e = absurd (cc)

  module _ {cmp : K → K → Ordering} (keys : IsTotalOrder cmp) (rows : List (Row K)) (index : BTreeMap K ℕ) (are : AreRows cmp rows index) where
    -- keys of one row are equal
    one_key : (key k : K) (i : ℕ) → get cmp index key ≡ Some i → get cmp index k ≡ Some i → is_eq (cmp key k) ≡ true
    one_key key k i e f =
        let a = are.there key i e in
        let b = are.there k i f in
        let d : a.0 ≡ b.0 = let x = a.1 in let y = b.1 in cc in
        let g : is_eq (cmp a.0.key k) ≡ true = subst (λ (r : Row K). is_eq (cmp r.key k) ≡ true) (sym d) b.2 in
        ap is_eq (sym (keys.congr a.0.key key k (says_equal (cmp a.0.key key) a.2))) ∙ g

    pub row_here : (i : ℕ) (key : K) → IsKeyAt cmp rows i key → Some i ≡ get cmp index key
    row_here i key w = sym (are.found i w.0 w.1) ∙ at_equal keys index w.0.key key (says_equal (cmp w.0.key key) w.2)

    module _ (key : K) (i : ℕ) (told : get cmp index key ≡ Some i) where
      pub row_within : (r : Row K) × (slice_get rows i ≡ Some r)
      row_within = let w = are.there key i told in (w.0, w.1)

      -- the row that is lent
      pub lent : (r : Row K) → r ≡ get_or rows i r → slice_get rows i ≡ Some r
      lent r e = let w = are.there key i told in w.1 ∙ ap (λ (x : Row K). Some x) (sym (get_or_from_slice_get rows i w.0 r w.1) ∙ sym e)

      pub stands_at_key : (r : Row K) → slice_get rows i ≡ Some r → r.places ≡ places_at cmp (by_key rows index) key
      stands_at_key r stood = sym (at_key cmp rows index key ∙ ap (λ (o : Option ℕ). told_by rows o) told ∙ ap (λ (o : Option (Row K)). places_of o) stood)

    module _ (key : K) (i : ℕ) (told : get cmp index key ≡ Some i) (row new : Row K) (stood : slice_get rows i ≡ Some row) where
      pub rows_written : new.key ≡ row.key → AreRows cmp (slice_set rows i new) index
      rows_written same = record {
        there = λ k j e.
            let w = are.there k j e in
            let s = key_stays rows i j row new w.0 stood same w.1 in
            (s.0, s.1, ap (λ (x : K). is_eq (cmp x k)) s.2 ∙ w.2);
        found = λ j s e.
            let r = key_was rows i j row new s stood same e in
            ap (λ (x : K). get cmp index x) r.2 ∙ are.found j r.0 r.1;
      }

      -- what stands at a key, as f changes a row
      pub changed_at : (f : List ℕ → List ℕ) → new.places ≡ f row.places → (k : K) →
          places_at cmp (by_key (slice_set rows i new) index) k ≡ cond (is_eq (cmp key k)) (f (places_at cmp (by_key rows index) k)) (places_at cmp (by_key rows index) k)
      changed_at f made k =
          at_key cmp (slice_set rows i new) index k
          ∙ (elim (is_eq (cmp key k)) as (λ b. is_eq (cmp key k) ≡ b → told_by (slice_set rows i new) (get cmp index k) ≡ cond b (f (told_by rows (get cmp index k))) (told_by rows (get cmp index k))) [
            | true ↦ λ h.
                let d : get cmp index k ≡ Some i = sym (at_equal keys index key k (says_equal (cmp key k) h)) ∙ told in
                ap (λ (o : Option ℕ). told_by (slice_set rows i new) o) d ∙ ap (λ (o : Option (Row K)). places_of o) (set_here rows i row new stood) ∙ made
                ∙ ap f (sym (ap (λ (o : Option ℕ). told_by rows o) d ∙ ap (λ (o : Option (Row K)). places_of o) stood))
            | false ↦ λ h. others (get cmp index k) (λ e. let g = one_key key k i told e in absurd (cc))
          ] refl)
          ∙ sym (ap (λ (l : List ℕ). cond (is_eq (cmp key k)) (f l) l) (at_key cmp rows index k))
        where
          others : (o : Option ℕ) → (o ≡ Some i → ⊥) → told_by (slice_set rows i new) o ≡ told_by rows o
          others None d = refl
          others (Some j) d = ap (λ (r : Option (Row K)). places_of r) (set_other rows i j new (λ e. d (ap (λ (x : ℕ). Some x) e)))

    -- a row of a new key
    module _ (row : Row K) (more : List (Row K)) (next : BTreeMap K ℕ) (none : get cmp index row.key ≡ None) (puts : PutsRow cmp row rows index more next) where
      -- an old key isn't equal to the new one
      other_key : (k : K) (j : ℕ) → get cmp index k ≡ Some j → is_eq (cmp row.key k) ≡ false
      other_key k j e =
          elim (is_eq (cmp row.key k)) as (λ b. is_eq (cmp row.key k) ≡ b → b ≡ false) [
            | true ↦ λ h. let d = at_equal keys index row.key k (says_equal (cmp row.key k) h) in absurd (cc)
            | false ↦ λ h. refl
          ] refl

      told_new : (k : K) → is_eq (cmp row.key k) ≡ true → get cmp next k ≡ Some (length rows)
      told_new k h = puts.told k ∙ ap (λ b. cond b (Some (length rows)) (get cmp index k)) h

      told_old : (k : K) → is_eq (cmp row.key k) ≡ false → get cmp next k ≡ get cmp index k
      told_old k h = puts.told k ∙ ap (λ b. cond b (Some (length rows)) (get cmp index k)) h

      pub rows_more : AreRows cmp more next
      rows_more = record {
        there = λ k j e. elim (is_eq (cmp row.key k)) as (λ b. is_eq (cmp row.key k) ≡ b → IsKeyAt cmp more j k) [
          | true ↦ λ h.
              let n = told_new k h in
              let d : j ≡ length rows = cc in
              (row, ap (λ (l : List (Row K)). slice_get l j) puts.behind ∙ ap (λ (x : ℕ). slice_get (rows ++ row ∷ []) x) d ∙ last_there rows row, h)
          | false ↦ λ h.
              let w = are.there k j (sym (told_old k h) ∙ e) in
              (w.0, ap (λ (l : List (Row K)). slice_get l j) puts.behind ∙ still_there rows row j w.0 w.1, w.2)
        ] refl;
        found = λ j r e.
            ⊎_elim
            (λ (f : slice_get rows j ≡ Some r). let o = are.found j r f in told_old r.key (other_key r.key j o) ∙ o)
            (λ (w : (j ≡ length rows) × (r ≡ row)).
            ap (λ (x : Row K). get cmp next x.key) w.1 ∙ told_new row.key (ap is_eq (tied_itself keys row.key)) ∙ ap (λ (x : ℕ). Some x) (sym w.0))
            (last_or_old rows row j r (sym (ap (λ (l : List (Row K)). slice_get l j) puts.behind) ∙ e));
      }

      pub put_at_key : (place : ℕ) → row.places ≡ place ∷ [] → (k : K) →
          places_at cmp (by_key more next) k ≡ cond (is_eq (cmp row.key k)) (places_at cmp (by_key rows index) k ++ place ∷ []) (places_at cmp (by_key rows index) k)
      put_at_key place only k =
          at_key cmp more next k ∙ ap (λ (l : List (Row K)). told_by l (get cmp next k)) puts.behind
          ∙ (elim (is_eq (cmp row.key k)) as (λ b. is_eq (cmp row.key k) ≡ b → told_by (rows ++ row ∷ []) (get cmp next k) ≡ cond b (told_by rows (get cmp index k) ++ place ∷ []) (told_by rows (get cmp index k))) [
            | true ↦ λ h.
                let d : get cmp index k ≡ None = sym (at_equal keys index row.key k (says_equal (cmp row.key k) h)) ∙ none in
                ap (λ (o : Option ℕ). told_by (rows ++ row ∷ []) o) (told_new k h) ∙ ap (λ (o : Option (Row K)). places_of o) (last_there rows row) ∙ only
                ∙ sym (ap (λ (o : Option ℕ). told_by rows o ++ place ∷ []) d)
            | false ↦ λ h.
                ap (λ (o : Option ℕ). told_by (rows ++ row ∷ []) o) (told_old k h) ∙ stays (get cmp index k) (λ j e. are.there k j e)
          ] refl)
          ∙ sym (ap (λ (l : List ℕ). cond (is_eq (cmp row.key k)) (l ++ place ∷ []) l) (at_key cmp rows index k))
        where
          stays : (o : Option ℕ) → ((j : ℕ) → o ≡ Some j → IsKeyAt cmp rows j k) → told_by (rows ++ row ∷ []) o ≡ told_by rows o
          stays None w = refl
          stays (Some j) w = let v = w j refl in ap (λ (r : Option (Row K)). places_of r) (still_there rows row j v.0 v.1 ∙ sym v.1)

-- where no place stands at a key, none is told, and none is passed
pub none_told : (plain : Bool) (ms : List Message) (ts : List (Option Taker)) (ps : List ℕ) → ps ≡ [] → None ≡ sole_or_first plain ms ts (from_waiting ts ps)
none_told plain ms ts ps e = here plain ∙ ap (λ (l : List ℕ). sole_or_first plain ms ts (from_waiting ts l)) (sym e)
  where
    here : (b : Bool) → None ≡ sole_or_first b ms ts []
    here true = refl
    here false = refl

pub none_passed : {K : Type 0} {cmp : K → K → Ordering} → IsTotalOrder cmp → (ts : List (Option Taker)) (rows : List (Row K)) (index : BTreeMap K ℕ) (key : K) → None ≡ get cmp index key → (k : K) →
    places_at cmp (by_key rows index) k ≡ cond (is_eq (cmp key k)) (from_waiting ts (places_at cmp (by_key rows index) k)) (places_at cmp (by_key rows index) k)
none_passed {K = K} {cmp = cmp} keys ts rows index key none k =
    elim (is_eq (cmp key k)) as (λ b. is_eq (cmp key k) ≡ b → places_at cmp (by_key rows index) k ≡ cond b (from_waiting ts (places_at cmp (by_key rows index) k)) (places_at cmp (by_key rows index) k)) [
      | true ↦ λ h.
          let e = none_at_key cmp rows index k (none ∙ at_equal keys index key k (says_equal (cmp key k) h)) in
          e ∙ ap (λ (l : List ℕ). from_waiting ts l) (sym e)
      | false ↦ λ h. refl
    ] refl

pub on_ok : {X E P Q : Type 0} (r : Result X E) → (P → Q) → OnOk r P → OnOk r Q
on_ok (Ok x) f h = f h
on_ok (Err e) f h = tt
