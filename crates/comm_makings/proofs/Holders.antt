-- Which handle calls of the profile mean, and which numbers name one alone.
use Rattle.std.proofs.Common.{◌≡◌, ◌≢◌, ◌↔◌, ◌<◌, ◌≤◌, ◌+◌, ◌-◌, ◌^◌, ◌==◌, ◌&&◌, ◌||◌, ◌++◌, ◌∙◌, ℕ, zero, suc, Bool, true, false, not, List, [], ◌∷◌, Option, Some, None, length, get_or, get_or-set_same, map, min, set, take, ap, sym, subst, refl, inl, inr, ⊎_elim, arith, nat_le, cond, is_some, append-nil, length-append, option_map, zero-add}
use Rattle.std.specs.List.{slice_get, sum_by}
use Rattle.std.specs.List.Sorted.{IsPartitionPoint, IsPartitionedBy, IsPermutation}
use Rattle.std.specs.Ordering.{is_lt, nat_cmp, ordering_then}
use Rattle.std.proofs.lemmas.Bool.{cases_eq, cases_lt}
use Rattle.std.proofs.lemmas.Bool.Decides.{nat_tests}
use Rattle.std.proofs.lemmas.Grind.{common_steps}
use Rattle.std.proofs.lemmas.List.{length-map}
use Rattle.std.proofs.lemmas.List.Sums.{sum_by-cons, sum_by_more}
use Rattle.std.proofs.lemmas.List.Sorted.{All-permutation, Contains-permutation}
use Rattle.std.proofs.lemmas.Option.{get_or_from_slice_get, same_Some, slice_get-get_or, slice_get-map, slice_get_within}
use Rattle.mpi_model.specs.declared.layout.comm.Stretch.{Stretch}
use Rattle.mpi_model.specs.declared.object.Object.{Object}
use Rattle.mpi_model.specs.Names.{holds, is_before}
use Rattle.comm_makings.specs.Each.{EachBecomes, EachIs}
use Rattle.comm_makings.specs.Uses.{AreCounted, AreHeld, AreOrdered, Comes, IsCounted, IsCountedOf, IsHolder, IsHolderOf, IsLatest, IsNotBefore, IsOnly, IsTally, NoneBegun, but_ends, count_in, count_of, has_number, holds_all, is_at, is_stray, is_stray_of, numbered, place_of, places_from, precedes, stands_alone}
use Rattle.comm_makings.specs.declared.calls.RankCalls.{RankCalls}
use Rattle.comm_makings.specs.declared.calls.Uses.{Uses}
use Rattle.comm_makings.specs.declared.uses.HandleUses.{HandleUses}
use Rattle.comm_makings.specs.declared.uses.HeldUses.{HeldUses}
use Rattle.comm_makings.specs.declared.uses.Place.{Place}
use Rattle.comm_makings.specs.declared.view.RankView.{RankView}
use Rattle.comm_makings.proofs.Lists.{All-from_slice_get, All-slice_get, get_more, get_set}

pub never_falls : (p q : Place) → is_lt (ordering_then (nat_cmp q.number p.number) (ordering_then (nat_cmp q.first p.first) (nat_cmp q.handle p.handle))) ≡ false → Comes p q
never_falls p q h = record {
  numbers = grind (arith, nat_tests, common_steps);
  firsts = λ e. grind (arith, nat_tests, common_steps);
  handles = λ e f. grind (arith, nat_tests, common_steps);
}

comes_same : (p : Place) → Comes p p
comes_same p = record { numbers = omega arith; firsts = λ e. omega arith; handles = λ e f. omega arith }

comes_far : (p q r : Place) → Comes p q → Comes q r → Comes p r
comes_far p q r a b = record {
  numbers = omega arith;
  firsts = λ e.
      let m : p.number ≡ q.number = omega (arith, a.numbers, b.numbers) in
      let n : q.number ≡ r.number = omega (arith, a.numbers, b.numbers) in
      let x = a.firsts m in
      let y = b.firsts n in
      omega arith;
  handles = λ e f.
      let m : p.number ≡ q.number = omega (arith, a.numbers, b.numbers) in
      let n : q.number ≡ r.number = omega (arith, a.numbers, b.numbers) in
      let x : p.first ≤ q.first = a.firsts m in
      let y : q.first ≤ r.first = b.firsts n in
      let s : p.first ≡ q.first = omega arith in
      let t : q.first ≡ r.first = omega arith in
      let v : p.handle ≤ q.handle = a.handles m s in
      let w : q.handle ≤ r.handle = b.handles n t in
      omega arith;
}

module _ (xs : List Place) (near : (k : ℕ) (d : Place) → k + 1 < length xs → Comes (get_or xs k d) (get_or xs (k + 1) d)) where
  far : (i n j : ℕ) (d : Place) → j ≡ i + n → j < length xs → Comes (get_or xs i d) (get_or xs j d)
  far i zero j d e lt =
      let same : j ≡ i = omega arith in
      rw same (comes_same (get_or xs i d))
  far i (suc n) j d e lt =
      let same : j ≡ i + n + 1 = omega arith in
      rw same (comes_far (get_or xs i d) (get_or xs (i + n) d) (get_or xs (i + n + 1) d) (far i n (i + n) d refl (omega arith)) (near (i + n) d (omega arith)))

  pub sorted_by_next : (i j : ℕ) (d : Place) → i ≤ j → j < length xs → Comes (get_or xs i d) (get_or xs j d)
  sorted_by_next i j d le lt = far i (j - i) j d (omega arith) lt

-- the places of all handles
placed : (n : ℕ) (handles : List Stretch) (k : ℕ) (p : Place) → slice_get (places_from n handles) k ≡ Some p
    → (handle : Stretch) × (slice_get handles k ≡ Some handle) × (p ≡ place_of (n + k) handle)
placed n [] k p e = absurd (cc)
placed n (h ∷ hs) zero p e =
    let here : n ≡ n + 0 = omega arith in
    (h, refl, (let is : place_of n h ≡ p = cc in sym is ∙ ap (λ (m : ℕ). place_of m h) here))
placed n (h ∷ hs) (suc k) p e =
    let r = placed (n + 1) hs k p e in
    let there : n + 1 + k ≡ n + suc k = omega arith in
    (r.0, r.1, r.2 ∙ ap (λ (m : ℕ). place_of m r.0) there)

pub placed_at : (handles : List Stretch) (k : ℕ) (p : Place) → slice_get (places_from 0 handles) k ≡ Some p
    → (handle : Stretch) × (slice_get handles p.handle ≡ Some handle) × (p ≡ place_of p.handle handle)
placed_at handles k p e =
    let r = placed 0 handles k p e in
    let same : 0 + k ≡ k = omega arith in
    let at : p.handle ≡ k = ap (λ (q : Place). q.handle) r.2 ∙ same in
    (r.0, ap (slice_get handles) at ∙ r.1, r.2 ∙ ap (λ (m : ℕ). place_of m r.0) (same ∙ sym at))

pub placed_all : (n : ℕ) (handles : List Stretch) (k : ℕ) (handle : Stretch) → slice_get handles k ≡ Some handle → slice_get (places_from n handles) k ≡ Some (place_of (n + k) handle)
placed_all n [] k handle e = absurd (cc)
placed_all n (h ∷ hs) zero handle e =
    let here : n ≡ n + 0 = omega arith in
    let is : h ≡ handle = cc in
    ap Some (ap (place_of n) is ∙ ap (λ (m : ℕ). place_of m handle) here)
placed_all n (h ∷ hs) (suc k) handle e =
    let there : n + 1 + k ≡ n + suc k = omega arith in
    placed_all (n + 1) hs k handle e ∙ ap (λ (m : ℕ). Some (place_of m handle)) there

-- all handles in order
pub ordered_by : (handles : List Stretch) (places : List Place) → IsPermutation (places_from 0 handles) places
    → ((k : ℕ) (d : Place) → k + 1 < length places
    → is_lt (ordering_then (nat_cmp (get_or places (k + 1) d).number (get_or places k d).number) (ordering_then (nat_cmp (get_or places (k + 1) d).first (get_or places k d).first) (nat_cmp (get_or places (k + 1) d).handle (get_or places k d).handle))) ≡ false)
    → AreOrdered handles places
ordered_by handles places moved near =
    let P : Place → Type 0 = λ p. (handle : Stretch) × (slice_get handles p.handle ≡ Some handle) × (p ≡ place_of p.handle handle) in
    record {
      each = λ i p e. All-slice_get P places i p (All-permutation P (places_from 0 handles) places moved (All-from_slice_get P (places_from 0 handles) (placed_at handles))) e;
      whole = λ at handle e.
          let p : Place = place_of at handle in
          let there : slice_get (places_from 0 handles) at ≡ Some p = placed_all 0 handles at handle e ∙ ap (λ (m : ℕ). Some (place_of m handle)) (zero-add at) in
          let r = Contains-permutation (places_from 0 handles) places p moved (at, slice_get_within (places_from 0 handles) at p there, get_or_from_slice_get (places_from 0 handles) at p p there) in
          (r.0, slice_get-get_or places r.0 p r.1 ∙ ap Some r.2);
      sorted = sorted_by_next places (λ k d lt. never_falls (get_or places k d) (get_or places (k + 1) d) (near k d lt));
    }

-- ---- by halves

further : (number call : ℕ) (p q : Place) → Comes p q → precedes number call q ≡ true → precedes number call p ≡ true
further number call p q c h =
    let numbers : p.number ≤ q.number = c.numbers in
    let firsts : p.number ≡ q.number → p.first ≤ q.first = c.firsts in
    grind (arith, nat_tests, common_steps)

precedes_number : (number call : ℕ) (p : Place) → precedes number call p ≡ true → p.number ≤ number
precedes_number number call p h = grind (arith, nat_tests, common_steps)

precedes_first : (number call : ℕ) (p : Place) → precedes number call p ≡ true → p.number ≡ number → p.first ≤ call
precedes_first number call p h e = grind (arith, nat_tests, common_steps)

not_before_by : (at : ℕ) (handle : Stretch) (other : ℕ) (earlier : Stretch) → earlier.first ≤ handle.first → (earlier.first ≡ handle.first → other ≤ at)
    → IsNotBefore at handle other earlier
not_before_by at handle other earlier le late = ⊎_elim
    (λ (less : earlier.first < handle.first). inl less)
    (λ (same : handle.first ≤ earlier.first). let e : earlier.first ≡ handle.first = omega arith in inr (e, late e))
    (cases_lt earlier.first handle.first)

module _ (handles : List Stretch) (places : List Place) (ordered : AreOrdered handles places) (number call : ℕ) where
  pub parted : IsPartitionedBy (precedes number call) places
  parted i j d le lt h = further number call (get_or places i d) (get_or places j d) (ordered.sorted i j d le lt) h

  begun : (at : ℕ) (handle : Stretch) → handle.number ≡ number → handle.first ≤ call → precedes number call (place_of at handle) ≡ true
  begun at handle same from = grind (arith, nat_tests, common_steps)

  module _ (count : ℕ) (bound : count ≤ length places)
      (point : IsPartitionPoint (λ p. precedes number call p ≡ true) (λ p. precedes number call p ≡ false) places count) where
    -- a handle of the number that begins at the call or before it is one of the first
    among : (at : ℕ) (handle : Stretch) → slice_get handles at ≡ Some handle → handle.number ≡ number → handle.first ≤ call
        → (i : ℕ) × (i < count) × (slice_get places i ≡ Some (place_of at handle))
    among at handle here same from =
        let w = ordered.whole at handle here in
        let p : Place = place_of at handle in
        let within : w.0 < length places = slice_get_within places w.0 p w.1 in
        let is : get_or places w.0 p ≡ p = get_or_from_slice_get places w.0 p p w.1 in
        let yes : precedes number call p ≡ true = begun at handle same from in (
          w.0,
          ⊎_elim (λ (l : w.0 < count). l)
              (λ (g : count ≤ w.0).
              let no : precedes number call (get_or places w.0 p) ≡ false = point.1 w.0 p g within in
              absurd (let both : true ≡ false = sym yes ∙ ap (precedes number call) (sym is) ∙ no in cc)) (cases_lt w.0 count),
          w.1,
        )

    pub none_begun : count ≡ 0 → NoneBegun handles number call
    none_begun e = record { none = λ at handle here same from. let r = among at handle here same from in absurd (omega (arith, r.1)) }

    -- the last of the first ones, where they are some
    module _ (some : 0 < count) (d : Place) where
      last_at : slice_get places (count - 1) ≡ Some (get_or places (count - 1) d)
      last_at = slice_get-get_or places (count - 1) d (omega arith)

      -- what is of the number and begins at the call or before it comes before the last one
      before_last : (at : ℕ) (handle : Stretch) → slice_get handles at ≡ Some handle → handle.number ≡ number → handle.first ≤ call
          → Comes (place_of at handle) (get_or places (count - 1) d)
      before_last at handle here same from =
          let r = among at handle here same from in
          let less : r.0 < count = r.1 in
          let is : get_or places r.0 d ≡ place_of at handle = get_or_from_slice_get places r.0 (place_of at handle) d r.2 in
          subst (λ (p : Place). Comes p (get_or places (count - 1) d)) is (ordered.sorted r.0 (count - 1) d (omega arith) (omega arith))

      precedes_last : precedes number call (get_or places (count - 1) d) ≡ true
      precedes_last = point.0 (count - 1) d (omega arith) (omega arith)

      pub other_number : (get_or places (count - 1) d).number ≢ number → NoneBegun handles number call
      other_number other = record {
        none = λ at handle here same from.
            let c : Comes (place_of at handle) (get_or places (count - 1) d) = before_last at handle here same from in
            let low : number ≤ (get_or places (count - 1) d).number = omega (arith, c.numbers, same) in
            let high : (get_or places (count - 1) d).number ≤ number = precedes_number number call (get_or places (count - 1) d) precedes_last in
            other (omega arith);
      }

      pub same_number : (get_or places (count - 1) d).number ≡ number → IsLatest handles number call (get_or places (count - 1) d).handle
      same_number same =
          let p : Place = get_or places (count - 1) d in
          let of = ordered.each (count - 1) p last_at in
          let number_is : p.number ≡ of.0.number = ap (λ (q : Place). q.number) of.2 in
          let first_is : p.first ≡ of.0.first = ap (λ (q : Place). q.first) of.2 in
          let from : p.first ≤ call = precedes_first number call p precedes_last same in
          record {
            handle = of.0;
            here = of.1;
            same = sym number_is ∙ same;
            begun = omega arith;
            last = λ other earlier here numbered begun.
                let c : Comes (place_of other earlier) p = before_last other earlier here numbered begun in
                let equal : earlier.number ≡ p.number = omega arith in
                let le : earlier.first ≤ p.first = c.firsts equal in
                let late : earlier.first ≡ p.first → other ≤ p.handle = c.handles equal in
                not_before_by p.handle of.0 other earlier (omega arith) (λ e. late (omega arith));
          }

-- ---- the handle that calls mean

pub holder_is : (handles : List Stretch) (uses : Uses) (at : ℕ) (handle : Stretch) → IsLatest handles uses.number uses.first at → slice_get handles at ≡ Some handle
    → holds_all uses handle ≡ true → IsHolder handles uses at
holder_is handles uses at handle latest here all =
    let same : handle ≡ latest.handle = same_Some handle latest.handle (sym here ∙ latest.here) in
    record { latest = latest; within = ap (holds_all uses) (sym same) ∙ all }

-- two handles that begin last are one
one_latest : (handles : List Stretch) (number call at other : ℕ) → IsLatest handles number call at → IsLatest handles number call other → at ≡ other
one_latest handles number call at other a b =
    let m : IsNotBefore at a.handle other b.handle = a.last other b.handle b.here b.same b.begun in
    let n : IsNotBefore other b.handle at a.handle = b.last at a.handle a.here a.same a.begun in
    elim m [
      | inl less ↦ elim n [ inl more ↦ absurd (omega arith) | inr more ↦ absurd (omega (arith, more.0)) ]
      | inr less ↦ elim n [ inl more ↦ absurd (omega (arith, less.0)) | inr more ↦ omega (arith, less.1, more.1) ]
    ]

pub no_holder : (handles : List Stretch) (uses : Uses) → NoneBegun handles uses.number uses.first → (at : ℕ) → IsHolder handles uses at → ⊥
no_holder handles uses none at is = none.none at is.latest.handle is.latest.here is.latest.same is.latest.begun

pub not_within : (handles : List Stretch) (uses : Uses) (latest : ℕ) (handle : Stretch) → IsLatest handles uses.number uses.first latest → slice_get handles latest ≡ Some handle
    → holds_all uses handle ≡ false → (at : ℕ) → IsHolder handles uses at → ⊥
not_within handles uses latest handle last here all at is =
    let one : latest ≡ at = one_latest handles uses.number uses.first latest at last is.latest in
    let same : handle ≡ is.latest.handle = same_Some handle is.latest.handle (sym here ∙ ap (slice_get handles) one ∙ is.latest.here) in
    let yes : holds_all uses is.latest.handle ≡ true = is.within in
    let no : holds_all uses is.latest.handle ≡ false = ap (holds_all uses) (sym same) ∙ all in
    absurd (let both : true ≡ false = sym yes ∙ no in cc)

pub past : (handles : List Stretch) (number call at : ℕ) → IsLatest handles number call at → length handles ≤ at → ⊥
past handles number call at latest le = let within = slice_get_within handles at latest.handle latest.here in absurd (omega arith)

-- ---- how many calls name a handle

abbrev more_at : ℕ → ℕ → ℕ → ℕ → ℕ
more_at at more k before = cond (at == k) (min (before + more) (2 ^ 64 - 1)) before

other_at : (at more k before : ℕ) → (at ≡ k → ⊥) → before ≡ more_at at more k before
other_at at more k before ne = grind (arith, nat_tests, common_steps)

here_at : (at more k before : ℕ) → at ≡ k → min (before + more) (2 ^ 64 - 1) ≡ more_at at more k before
here_at at more k before e = grind (arith, nat_tests, common_steps)

pub added_at : (xs : List ℕ) (at more v d : ℕ) → at < length xs → v ≡ min (get_or xs at d + more) (2 ^ 64 - 1) → EachBecomes xs (set xs at v) (more_at at more)
added_at xs at more v d lt is k now e = ⊎_elim
    (λ (same : at ≡ k).
    let there : slice_get xs k ≡ Some (get_or xs k d) = slice_get-get_or xs k d (omega arith) in
    let set_is : get_or (set xs at v) k d ≡ v = ap (λ (j : ℕ). get_or (set xs at v) j d) (sym same) ∙ get_or-set_same xs at v d lt in
    let now_is : now ≡ v = sym (get_or_from_slice_get (set xs at v) k now d e) ∙ set_is in
    let before : get_or xs at d ≡ get_or xs k d = ap (λ (j : ℕ). get_or xs j d) same in
    (get_or xs k d, there, now_is ∙ is ∙ ap (λ (n : ℕ). min (n + more) (2 ^ 64 - 1)) before ∙ here_at at more k (get_or xs k d) same))
    (λ (apart : at ≡ k → ⊥).
    elim (get_set xs at v k now e) [
      | inl before ↦ (now, before, other_at at more k now apart)
      | inr is ↦ absurd (apart (sym is.0))
    ])
    (cases_eq at k)

pub added_nowhere : (xs : List ℕ) (at more : ℕ) → length xs ≤ at → EachBecomes xs xs (more_at at more)
added_nowhere xs at more le k now e =
    let within : k < length xs = slice_get_within xs k now e in
    (now, e, other_at at more k now (λ same. omega arith))

counted_by : (b : Bool) (sum before more x : ℕ) → before ≡ min sum (2 ^ 64 - 1) → x ≡ cond b (min (before + more) (2 ^ 64 - 1)) before → x ≡ min (sum + cond b more 0) (2 ^ 64 - 1)
counted_by true sum before more x was is = omega arith
counted_by false sum before more x was is = omega arith

pub counts_more : (held : List HeldUses) (i : ℕ) (d : HeldUses) (old new : List ℕ) → i < length held → EachIs old (count_of (take i held))
    → EachBecomes old new (λ k before. cond (is_at k (get_or held i d).holder) (min (before + (get_or held i d).uses.count) (2 ^ 64 - 1)) before)
    → EachIs new (count_of (take (i + 1) held))
counts_more held i d old new lt were become k x e =
    let g : HeldUses = get_or held i d in
    let r = become k x e in
    let sum : sum_by (count_in k) (take (i + 1) held) ≡ sum_by (count_in k) (take i held) + count_in k g = sum_by_more (count_in k) held i d lt in
    counted_by (is_at k g.holder) (sum_by (count_in k) (take i held)) r.0 g.uses.count x (were k r.0 r.1) r.2
    ∙ ap (λ (n : ℕ). min n (2 ^ 64 - 1)) (sym sum)

-- ---- a number of one handle alone

abbrev one_if : Bool → ℕ
one_if b = cond b 1 0

-- one handle more
numbered_cons : (number : ℕ) (handle : Stretch) (handles : List Stretch) → numbered (handle ∷ handles) number ≡ one_if (handle.number == number) + numbered handles number
numbered_cons number handle handles = sum_by-cons (λ (h : Stretch). cond (has_number number h) 1 0) handle handles

counts_one : (a b : ℕ) → a ≡ b → one_if (a == b) ≡ 1
counts_one a b e = grind (arith, nat_tests, common_steps)

counts_none : (a b : ℕ) → (a ≡ b → ⊥) → one_if (a == b) ≡ 0
counts_none a b ne = grind (arith, nat_tests, common_steps)

some_number : (number : ℕ) (handles : List Stretch) (at : ℕ) (handle : Stretch) → slice_get handles at ≡ Some handle → handle.number ≡ number → 1 ≤ numbered handles number
some_number number [] at handle e same = absurd (cc)
some_number number (h ∷ hs) zero handle e same =
    let is : h ≡ handle = cc in
    let one : one_if (h.number == number) ≡ 1 = counts_one h.number number (ap (λ (s : Stretch). s.number) is ∙ same) in
    omega (arith, numbered_cons number h hs, one)
some_number number (h ∷ hs) (suc at) handle e same =
    let rest : 1 ≤ numbered hs number = some_number number hs at handle e same in
    omega (arith, numbered_cons number h hs)

no_number : (number : ℕ) (handles : List Stretch) → ((at : ℕ) (handle : Stretch) → slice_get handles at ≡ Some handle → handle.number ≡ number → ⊥) → numbered handles number ≡ 0
no_number number [] none = refl
no_number number (h ∷ hs) none =
    let here : one_if (h.number == number) ≡ 0 = counts_none h.number number (none 0 h refl) in
    let rest : numbered hs number ≡ 0 = no_number number hs (λ at handle e. none (suc at) handle e) in
    omega (arith, numbered_cons number h hs, here)

one_number : (number : ℕ) (handles : List Stretch) (a b : ℕ) (x y : Stretch) → numbered handles number ≡ 1 → slice_get handles a ≡ Some x → x.number ≡ number
    → slice_get handles b ≡ Some y → y.number ≡ number → a ≡ b
one_number number [] a b x y one e same f twin = absurd (cc)
one_number number (h ∷ hs) zero zero x y one e same f twin = refl
one_number number (h ∷ hs) zero (suc b) x y one e same f twin =
    let is : h ≡ x = cc in
    let here : one_if (h.number == number) ≡ 1 = counts_one h.number number (ap (λ (s : Stretch). s.number) is ∙ same) in
    let rest : 1 ≤ numbered hs number = some_number number hs b y f twin in
    absurd (omega (arith, numbered_cons number h hs, here))
one_number number (h ∷ hs) (suc a) zero x y one e same f twin =
    let is : h ≡ y = cc in
    let here : one_if (h.number == number) ≡ 1 = counts_one h.number number (ap (λ (s : Stretch). s.number) is ∙ twin) in
    let rest : 1 ≤ numbered hs number = some_number number hs a x e same in
    absurd (omega (arith, numbered_cons number h hs, here))
one_number number (h ∷ hs) (suc a) (suc b) x y one e same f twin =
    let rest : 1 ≤ numbered hs number = some_number number hs a x e same in
    let less : numbered hs number ≡ 1 = omega (arith, numbered_cons number h hs) in
    ap suc (one_number number hs a b x y less e same f twin)

alone_one : (number : ℕ) (handles : List Stretch) (at : ℕ) (handle : Stretch) → slice_get handles at ≡ Some handle → handle.number ≡ number
    → ((other : ℕ) (twin : Stretch) → slice_get handles other ≡ Some twin → twin.number ≡ number → other ≡ at) → numbered handles number ≡ 1
alone_one number [] at handle e same alone = absurd (cc)
alone_one number (h ∷ hs) zero handle e same alone =
    let is : h ≡ handle = cc in
    let here : one_if (h.number == number) ≡ 1 = counts_one h.number number (ap (λ (s : Stretch). s.number) is ∙ same) in
    let rest : numbered hs number ≡ 0 = no_number number hs (λ k twin f t. (let bad : suc k ≡ 0 = alone (suc k) twin f t in absurd (omega arith))) in
    omega (arith, numbered_cons number h hs, here)
alone_one number (h ∷ hs) (suc at) handle e same alone =
    let here : one_if (h.number == number) ≡ 0 = counts_none h.number number (λ t. (let bad : 0 ≡ suc at = alone 0 h refl t in absurd (omega arith))) in
    let rest : numbered hs number ≡ 1 = alone_one number hs at handle e same (λ k twin f t. (let next : suc k ≡ suc at = alone (suc k) twin f t in omega arith)) in
    omega (arith, numbered_cons number h hs, here)

-- ---- calls that mean no handle

stray_at : (number : ℕ) (held : List HeldUses) (k : ℕ) (g : HeldUses) → is_stray held number ≡ false → slice_get held k ≡ Some g → is_stray_of number g ≡ false
stray_at number [] k g none e = absurd (cc)
stray_at number (h ∷ hs) zero g none e =
    let is : h ≡ g = cc in
    ap (is_stray_of number) (sym is) ∙ or_first (is_stray_of number h) (is_stray hs number) none
  where
    or_first : (a b : Bool) → (a || b) ≡ false → a ≡ false
    or_first true b e = e
    or_first false b e = refl
stray_at number (h ∷ hs) (suc k) g none e = stray_at number hs k g (or_second (is_stray_of number h) (is_stray hs number) none) e
  where
    or_second : (a b : Bool) → (a || b) ≡ false → b ≡ false
    or_second true b e = absurd (let both : true ≡ false = e in cc)
    or_second false b e = e

no_stray : (number : ℕ) (held : List HeldUses) → ((k : ℕ) (g : HeldUses) → slice_get held k ≡ Some g → is_stray_of number g ≡ false) → is_stray held number ≡ false
no_stray number [] none = refl
no_stray number (h ∷ hs) none = rw (none 0 h refl) (no_stray number hs (λ k g e. none (suc k) g e))

tests_same : (a b : ℕ) → a ≡ b → (a == b) ≡ true
tests_same a b e = grind (arith, nat_tests, common_steps)

-- of two lists, one behind the other
stray_join : (number : ℕ) (held calls : List HeldUses) → is_stray (held ++ calls) number ≡ (is_stray held number || is_stray calls number)
stray_join number [] calls = refl
stray_join number (h ∷ hs) calls = ap (λ (b : Bool). is_stray_of number h || b) (stray_join number hs calls) ∙ sym (or_assoc (is_stray_of number h) (is_stray hs number) (is_stray calls number))
  where
    or_assoc : (a b c : Bool) → ((a || b) || c) ≡ (a || (b || c))
    or_assoc true b c = refl
    or_assoc false b c = refl

either_first : (a b : Bool) → (a || b) ≡ false → a ≡ false
either_first true b e = e
either_first false b e = refl

either_second : (a b : Bool) → (a || b) ≡ false → b ≡ false
either_second true b e = absurd (let both : true ≡ false = e in cc)
either_second false b e = e

neither : (a b : Bool) → a ≡ false → b ≡ false → (a || b) ≡ false
neither a b x y = rw (x, y) refl

-- a call that has the number and isn't stray means a handle
means_some : (holder : Option ℕ) (a b : ℕ) → a ≡ b → (not (is_some holder) && (a == b)) ≡ false → is_some holder ≡ true
means_some None a b same e = absurd (let both : true ≡ false = sym (tests_same a b same) ∙ e in cc)
means_some (Some k) a b same e = refl

-- the group at a place, with the handle that it means
held_at : (handles : List Stretch) (uses : List Uses) (held : List HeldUses) → AreHeld handles uses held → (i : ℕ) (group : Uses) → slice_get uses i ≡ Some group
    → (g : HeldUses) × (slice_get held i ≡ Some g) × (g.uses ≡ group) × IsHolderOf handles g.uses g.holder
held_at handles uses held are i group e =
    of_some (slice_get held i) refl (sym (slice_get-map (λ (g : HeldUses). g.uses) held i) ∙ ap (λ (l : List Uses). slice_get l i) are.same ∙ e)
  where
    of_some : (o : Option HeldUses) → slice_get held i ≡ o → option_map (λ (g : HeldUses). g.uses) o ≡ Some group
        → (g : HeldUses) × (slice_get held i ≡ Some g) × (g.uses ≡ group) × IsHolderOf handles g.uses g.holder
    of_some None here is = absurd (cc)
    of_some (Some g) here is = (g, here, same_Some g.uses group is, All-slice_get (λ (g : HeldUses). IsHolderOf handles g.uses g.holder) held i g are.each here)

-- a group's own place among the uses
group_at : (handles : List Stretch) (uses : List Uses) (held : List HeldUses) → AreHeld handles uses held → (k : ℕ) (g : HeldUses) → slice_get held k ≡ Some g
    → slice_get uses k ≡ Some g.uses
group_at handles uses held are k g e =
    ap (λ (l : List Uses). slice_get l k) (sym are.same) ∙ slice_get-map (λ (g : HeldUses). g.uses) held k ∙ ap (option_map (λ (g : HeldUses). g.uses)) e

same_by_test : (a b : ℕ) → (a == b) ≡ true → a ≡ b
same_by_test a b e = grind (arith, nat_tests, common_steps)

holds_first : (handle : Stretch) (uses : Uses) → holds_all uses handle ≡ true → handle.first ≤ uses.first
holds_first handle uses h = first_le handle.first uses.first (is_before uses.first handle.end) (holds handle uses.last) h
  where
    first_le : (a b : ℕ) (x y : Bool) → ((nat_le a b && x) && y) ≡ true → a ≤ b
    first_le a b x y e = grind (arith, nat_tests, common_steps)

and_none : (a : Bool) → (a && false) ≡ false
and_none true = refl
and_none false = refl

and_both : (a b : Bool) → a ≡ true → b ≡ false → (a && not b) ≡ true
and_both a b x y = rw (x, y) refl

and_first : (a b : Bool) → (a && not b) ≡ true → a ≡ true
and_first true b h = refl
and_first false b h = h

and_second : (a b : Bool) → (a && not b) ≡ true → b ≡ false
and_second true true h = sym h
and_second true false h = refl
and_second false true h = absurd (let both : false ≡ true = h in cc)
and_second false false h = refl

module _ (handles : List Stretch) (uses : List Uses) (held calls : List HeldUses) (are : AreHeld handles uses held) (at : ℕ) (handle : Stretch) (here : slice_get handles at ≡ Some handle) where
  one_is : numbered handles handle.number ≡ 1 → (k : ℕ) (other : Stretch) → slice_get handles k ≡ Some other → other.number ≡ handle.number → k ≡ at
  one_is one k other e same = one_number handle.number handles k at other handle one e same here refl

  within_by : numbered handles handle.number ≡ 1 → (group : Uses) (holder : Option ℕ) → IsHolderOf handles group holder → group.number ≡ handle.number
      → (not (is_some holder) && (group.number == handle.number)) ≡ false → holds_all group handle ≡ true
  within_by one group None is same stray = absurd (let both : true ≡ false = sym (tests_same group.number handle.number same) ∙ stray in cc)
  within_by one group (Some k) is same stray =
      let there : k ≡ at = one_is one k is.latest.handle is.latest.here (is.latest.same ∙ same) in
      let equal : is.latest.handle ≡ handle = same_Some is.latest.handle handle (sym is.latest.here ∙ ap (slice_get handles) there ∙ here) in
      ap (holds_all group) (sym equal) ∙ is.within

  only_from : stands_alone handles (held ++ calls) handle ≡ true → IsOnly handles uses calls at
  only_from test =
      let one : numbered handles handle.number ≡ 1 =
      same_by_test (numbered handles handle.number) 1 (and_first (numbered handles handle.number == 1) (is_stray (held ++ calls) handle.number) test) in
      let both : (is_stray held handle.number || is_stray calls handle.number) ≡ false =
      sym (stray_join handle.number held calls) ∙ and_second (numbered handles handle.number == 1) (is_stray (held ++ calls) handle.number) test in
      let none : is_stray held handle.number ≡ false = either_first (is_stray held handle.number) (is_stray calls handle.number) both in
      let no_call : is_stray calls handle.number ≡ false = either_second (is_stray held handle.number) (is_stray calls handle.number) both in
      record {
        handle = handle;
        here = here;
        alone = one_is one;
        within = λ i group e same.
            let g = held_at handles uses held are i group e in
            let stray : is_stray_of handle.number g.0 ≡ false = stray_at handle.number held i g.0 none g.1 in
            let all : holds_all g.0.uses handle ≡ true = within_by one g.0.uses g.0.holder g.3 (ap (λ (u : Uses). u.number) g.2 ∙ same) stray in
            ap (λ (u : Uses). holds_all u handle) (sym g.2) ∙ all;
        known = λ i group e same. means_some group.holder group.uses.number handle.number same (stray_at handle.number calls i group no_call e);
      }

  holder_here : ((other : ℕ) (twin : Stretch) → slice_get handles other ≡ Some twin → twin.number ≡ handle.number → other ≡ at) → (group : Uses) → group.number ≡ handle.number
      → holds_all group handle ≡ true → IsHolder handles group at
  holder_here alone group same all = record {
    latest = record {
      handle = handle;
      here = here;
      same = sym same;
      begun = holds_first handle group all;
      last = λ other earlier e number from.
          let there : other ≡ at = alone other earlier e (number ∙ same) in
          let equal : earlier ≡ handle = same_Some earlier handle (sym e ∙ ap (slice_get handles) there ∙ here) in
          inr (ap (λ (s : Stretch). s.first) equal, (let le : other ≤ at = omega arith in le));
    };
    within = all;
  }

  not_stray : (group : Uses) (holder : Option ℕ) → IsHolderOf handles group holder → (group.number ≡ handle.number → IsHolder handles group at)
      → (not (is_some holder) && (group.number == handle.number)) ≡ false
  not_stray group (Some k) is means = refl
  not_stray group None is means = by_test (group.number == handle.number) refl
    where
      by_test : (b : Bool) → (group.number == handle.number) ≡ b → (group.number == handle.number) ≡ false
      by_test false e = e
      by_test true e = absurd (is at (means (same_by_test group.number handle.number e)))

  known_call : (group : HeldUses) → (group.uses.number ≡ handle.number → is_some group.holder ≡ true) → is_stray_of handle.number group ≡ false
  known_call group known = by_test (group.uses.number == handle.number) refl
    where
      by_test : (b : Bool) → (group.uses.number == handle.number) ≡ b → (not (is_some group.holder) && (group.uses.number == handle.number)) ≡ false
      by_test true e = rw (known (same_by_test group.uses.number handle.number e)) refl
      by_test false e = rw e (and_none (not (is_some group.holder)))

  only_to : IsOnly handles uses calls at → stands_alone handles (held ++ calls) handle ≡ true
  only_to only =
      let equal : only.handle ≡ handle = same_Some only.handle handle (sym only.here ∙ here) in
      let number : only.handle.number ≡ handle.number = ap (λ (s : Stretch). s.number) equal in
      let alone : (other : ℕ) (twin : Stretch) → slice_get handles other ≡ Some twin → twin.number ≡ handle.number → other ≡ at =
      λ other twin e same. only.alone other twin e (same ∙ sym number) in
      let one : numbered handles handle.number ≡ 1 = alone_one handle.number handles at handle here refl alone in
      let none : is_stray held handle.number ≡ false = no_stray handle.number held (λ k g e.
      not_stray g.uses g.holder (All-slice_get (λ (g : HeldUses). IsHolderOf handles g.uses g.holder) held k g are.each e)
      (λ same. holder_here alone g.uses same (ap (λ (s : Stretch). holds_all g.uses s) (sym equal) ∙ only.within k g.uses (group_at handles uses held are k g e) (same ∙ sym number)))) in
      let no_call : is_stray calls handle.number ≡ false = no_stray handle.number calls (λ k g e. known_call g (λ same. only.known k g e (same ∙ sym number))) in
      and_both (numbered handles handle.number == 1) (is_stray (held ++ calls) handle.number) (tests_same (numbered handles handle.number) 1 one)
      (stray_join handle.number held calls ∙ neither (is_stray held handle.number) (is_stray calls handle.number) none no_call)

only_by : (handles : List Stretch) (uses : List Uses) (held calls : List HeldUses) → AreHeld handles uses held → (at : ℕ) (is : Bool) (o : Option Stretch) → slice_get handles at ≡ o
    → option_map (stands_alone handles (held ++ calls)) o ≡ Some is → (is ≡ true) ↔ IsOnly handles uses calls at
only_by handles uses held calls are at is None here e = absurd (cc)
only_by handles uses held calls are at is (Some handle) here e =
    let same : stands_alone handles (held ++ calls) handle ≡ is = same_Some (stands_alone handles (held ++ calls) handle) is e in
    (λ yes. only_from handles uses held calls are at handle here (same ∙ yes), λ only. sym same ∙ only_to handles uses held calls are at handle here only)

-- what the calls of the profile, and those on communicators, say of all handles
pub counted : (handles : List Stretch) (uses : List Uses) (held calls all : List HeldUses) (result : HandleUses) → AreHeld handles uses held → all ≡ held ++ calls
    → IsTally handles all result → IsCounted handles uses calls result
counted handles uses held calls all result are is tally = record {
  held = held;
  holders = are;
  counts = λ k x e. tally.counts k x e ∙ ap (λ (l : List HeldUses). count_of l k) is;
  count_each = tally.count_each;
  used = λ k x e. tally.used k x e ∙ ap (λ (l : List HeldUses). count_of (but_ends handles l) k) is;
  used_each = tally.used_each;
  only = λ at test e.
      only_by handles uses held calls are at test (slice_get handles at) refl
      (sym (slice_get-map (stands_alone handles (held ++ calls)) handles at) ∙ ap (λ (l : List Bool). slice_get l at)
      (sym (tally.only ∙ ap (λ (l : List HeldUses). map (stands_alone handles l) handles) is)) ∙ e);
  only_each = ap length tally.only ∙ length-map handles (stands_alone handles all);
}

-- ---- one rank after the other

pub record AreCountedTo (object : Object) (ranks : List RankCalls) (views : List RankView) (uses : List HandleUses) (count : ℕ) : Type 0 where
  pub same : length uses ≡ count
  pub each : (rank : ℕ) (result : HandleUses) (calls : RankCalls) (view : RankView) → slice_get uses rank ≡ Some result → slice_get ranks rank ≡ Some calls
      → slice_get views rank ≡ Some view → IsCountedOf object calls view result

pub counted_none : (object : Object) (ranks : List RankCalls) (views : List RankView) → AreCountedTo object ranks views [] 0
counted_none object ranks views = record { same = omega arith; each = λ rank result calls view e f g. absurd (cc) }

counted_at : (object : Object) (result other : HandleUses) (calls c : RankCalls) (view v : RankView) → other ≡ result → calls ≡ c → view ≡ v → IsCountedOf object calls view result → IsCountedOf object c v other
counted_at object result other calls c view v a b d is =
    subst (λ (x : RankView). IsCountedOf object c x other) d
    (subst (λ (x : RankCalls). IsCountedOf object x view other) b (subst (IsCountedOf object calls view) (sym a) is))

pub counted_more : (object : Object) (ranks : List RankCalls) (views : List RankView) (uses : List HandleUses) (count : ℕ) (calls : RankCalls) (view : RankView) (result : HandleUses)
    → AreCountedTo object ranks views uses count → slice_get ranks count ≡ Some calls → slice_get views count ≡ Some view → IsCountedOf object calls view result
    → AreCountedTo object ranks views (uses ++ result ∷ []) (count + 1)
counted_more object ranks views uses count calls view result are here there is = record {
  same = omega (arith, length-append uses (result ∷ []), are.same);
  each = λ rank other c v e f g. elim (get_more uses result rank other e) [
    | inl before ↦ are.each rank other c v before f g
    | inr last ↦
        let at : rank ≡ count = last.0 ∙ are.same in
        let same_calls : calls ≡ c = same_Some calls c (sym here ∙ ap (slice_get ranks) (sym at) ∙ f) in
        let same_view : view ≡ v = same_Some view v (sym there ∙ ap (slice_get views) (sym at) ∙ g) in
        counted_at object result other calls c view v last.1 same_calls same_view is
  ];
}

pub counted_all : (object : Object) (ranks : List RankCalls) (views : List RankView) (uses : List HandleUses) (count : ℕ) → AreCountedTo object ranks views uses count → count ≤ length ranks → length ranks ≤ count
    → AreCounted object ranks views uses
counted_all object ranks views uses count are most least = record { same = omega (arith, are.same); each = are.each }

-- nothing more is held
pub without_more : (held : List HeldUses) → held ≡ held ++ []
without_more held = sym (append-nil held)
