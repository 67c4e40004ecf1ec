-- Pairs and their calls, found by halving.
use Rattle.std.proofs.Common.{subst, ◌≡◌, ◌≢◌, ◌⊎◌, ℕ, zero, suc, ◌+◌, ◌<◌, true, false, List, [], ◌∷◌, inl, inr, sym, refl, ◌∙◌, ap, arith, length, get_or, Option, Some, None}
use Rattle.std.specs.declared.cmp.Ordering.{Ordering}
use Rattle.std.specs.declared.cmp.Ordering.TheVariants.{Less, Equal, Greater}
use Rattle.std.specs.Prelude.{slice_get, IfSome}
use Rattle.std.specs.List.{find, filter_map, cons_option, HoldsAt}
use Rattle.std.specs.List.Sorted.{IsSortedBy, IsPartitionPoint, IsNonDecreasingBy}
use Rattle.std.specs.Option.{option_map, option_cmp}
use Rattle.std.specs.Ordering.{is_lt, is_gt, ordering_index}
use Rattle.std.specs.Cmp.Lexicographic.{options_total}
use Rattle.std.proofs.lemmas.Bool.{cases_lt}
use Rattle.std.proofs.lemmas.Cmp.{tied_itself}
use Rattle.std.proofs.lemmas.List.Sorted.{searchable_from_sorted}
use Rattle.mpi_model.specs.declared.event.OpName.{OpName}
use Rattle.mpi_model.specs.declared.message.Message.{Message}
use Rattle.mpi_model.specs.declared.message.Receive.{Receive}
use Rattle.trace_ops.specs.Ops.{Ops, AreOwn}
use Rattle.trace_ops.specs.Order.{Has}
use Rattle.trace_pair.specs.Indexed.{name_lt}
use Rattle.trace_pair.specs.KeyOrders.{name_cmp}
use Rattle.trace_pair.specs.After.{comes_after}
use Rattle.trace_pair.specs.Pairing.{Paired, receive_of}
use Rattle.trace_pair.specs.Rising.{AreRising}
use Rattle.trace_pair.specs.Searched.{ArePairs, AreByReceive, IsSearchable, receive_at, message_at, pair_named}
use Rattle.trace_pair.specs.Table.{pair_of, pairs_of, sends_of, receives_of, table_of, Table, same_name as names_agree, given_by}
use Rattle.trace_pair.specs.declared.pair.Pair.{Pair}
use Rattle.trace_pair.proofs.Certain.{the_one_message}
use Rattle.trace_pair.proofs.Listed.{from_some, found, finds, agree, agrees, mapped, one_named}
use Rattle.trace_pair.proofs.Members.{contains_has}
use Rattle.trace_pair.proofs.Names.{placed_receive}
use Rattle.trace_pair.proofs.Orders.{name_total, exact_names, later_name}
use Rattle.trace_pair.proofs.Owned.{own_calls, all_sends_rise}
use Rattle.trace_pair.proofs.Sure.{pair_has}

-- what is there is found, where nothing else has its name
pub find_is : (k : Pair → OpName) (pairs : List Pair) → ((p r : Pair) → Has pairs p → Has pairs r → k p ≡ k r → p ≡ r) → (name : OpName) (p : Pair) → Has pairs p → k p ≡ name → find (λ r. names_agree (k r) name) pairs ≡ Some p
find_is k pairs one name p i e =
    let w = finds (λ r. names_agree (k r) name) pairs p i (agrees (k p) name e) in
    let u = found (λ r. names_agree (k r) name) pairs w.0 w.1 in
    w.1 ∙ ap (λ (r : Pair). Some r) (one w.0 p u.0 i (agree (k w.0) name u.1 ∙ sym e))

pub find_none : (k : Pair → OpName) (pairs : List Pair) (name : OpName) → ((p : Pair) → Has pairs p → k p ≡ name → ⊥) → find (λ r. names_agree (k r) name) pairs ≡ None
find_none k pairs name none =
    elim (find (λ r. names_agree (k r) name) pairs) as (λ o. find (λ r. names_agree (k r) name) pairs ≡ o → o ≡ None) [
      | None ↦ λ e. refl
      | Some y ↦ λ e. let u = found (λ r. names_agree (k r) name) pairs y e in absurd (none y u.0 (agree (k y) name u.1))
    ] refl

-- where the search ends between what is less and what is greater, nothing is equal
pub absent : {X : Type 0} (ord : X → Ordering) (xs : List X) (i : ℕ) → IsPartitionPoint (λ y. ord y ≡ Less) (λ y. ord y ≡ Greater) xs i → (x : X) → Has xs x → ord x ≡ Equal → ⊥
absent ord xs i split x h e =
    let c = contains_has xs x h in
    elim (cases_lt c.0 i) [
      | inl lt ↦ let l : ord (get_or xs c.0 x) ≡ Less = split.0 c.0 x (omega arith) lt in let f = ap ord c.2 in absurd (cc)
      | inr le ↦ let l : ord (get_or xs c.0 x) ≡ Greater = split.1 c.0 x le c.1 in let f = ap ord c.2 in absurd (cc)
    ]

pub tied : (a b : OpName) → a ≡ b → name_cmp a b ≡ Equal
tied a b e = ap (λ (x : OpName). name_cmp a x) (sym e) ∙ tied_itself name_total a

-- the element at a place
pub stands : {X : Type 0} (xs : List X) (i : ℕ) (x : X) → slice_get xs i ≡ Some x → Has xs x
stands [] i x e = absurd (cc)
stands (y ∷ ys) zero x e = inl (cc)
stands (y ∷ ys) (suc i) x e = inr (stands ys i x e)

pub stands_there : {X : Type 0} (xs : List X) (i : ℕ) (o : Option X) → o ≡ slice_get xs i → IfSome o (λ x. Has xs x)
stands_there xs i None e = tt
stands_there xs i (Some x) e = stands xs i x (sym e)

pub got : {X : Type 0} (xs : List X) (i : ℕ) (d : X) → i < length xs → slice_get xs i ≡ Some (get_or xs i d)
got [] i d lt = absurd (omega arith)
got (x ∷ xs) zero d lt = refl
got (x ∷ xs) (suc i) d lt = got xs i d (omega arith)

pub in_reach : {X : Type 0} (xs : List X) (i : ℕ) → i < length xs → slice_get xs i ≡ None → ⊥
in_reach [] i lt e = absurd (omega arith)
in_reach (x ∷ xs) zero lt e = absurd (cc)
in_reach (x ∷ xs) (suc i) lt e = in_reach xs i (omega arith) e

module _ (pairs : List Pair) (are : ArePairs pairs) (name : OpName) where
  -- the pair at a place, where it has that name
  pub pair_stands : (place : ℕ) (p : Pair) → slice_get pairs place ≡ Some p → names_agree p.message name ≡ true → Some p ≡ pair_named pairs name
  pair_stands place p g h = sym (find_is (λ r. r.message) pairs are.one_message name p (stands pairs place p g) (agree p.message name h))

  -- the same of the pair of a receive
  pub given_stands : (p : Pair) → Has pairs p → names_agree p.receive name ≡ true → Some p.message ≡ given_by pairs name
  given_stands p i h = ap (option_map (λ (r : Pair). r.message)) (sym (find_is (λ r. r.receive) pairs are.one_receive name p i (agree p.receive name h)))

  pub pair_at_place : (place : ℕ) → place < length pairs → HoldsAt (λ y. name_cmp y.message name ≡ Equal) pairs place → slice_get pairs place ≡ pair_named pairs name
  pair_at_place place lt holds =
      elim (slice_get pairs place) as (λ o. slice_get pairs place ≡ o → o ≡ pair_named pairs name) [
        | None ↦ λ g. absurd (in_reach pairs place lt g)
        | Some p ↦ λ g.
            let e : get_or pairs place p ≡ p = let f : Some p ≡ Some (get_or pairs place p) = sym g ∙ got pairs place p lt in cc in
            let k : p.message ≡ name = exact_names p.message name (ap (λ (x : Pair). name_cmp x.message name) (sym e) ∙ holds p) in
            sym (find_is (λ r. r.message) pairs are.one_message name p (stands pairs place p g) k)
      ] refl

  pub pair_missed : (at : ℕ) → (IsNonDecreasingBy (λ y. ordering_index (name_cmp y.message name)) pairs → IsPartitionPoint (λ y. name_cmp y.message name ≡ Less) (λ y. name_cmp y.message name ≡ Greater) pairs at) → None ≡ pair_named pairs name
  pair_missed at split =
      let s = split (searchable_from_sorted name_total (λ (p : Pair). p.message) pairs name are.rise) in
      sym (find_none (λ r. r.message) pairs name (λ p i e. absent (λ (y : Pair). name_cmp y.message name) pairs at s p i (tied p.message name e)))

some_equal : (o : Option OpName) (name : OpName) → option_cmp name_cmp o (Some name) ≡ Equal → o ≡ Some name
some_equal None name h = absurd (cc)
some_equal (Some a) name h = ap (λ (x : OpName). Some x) (exact_names a name h)

abbrev by_place : List Pair → OpName → ℕ → Ordering
by_place pairs name place = option_cmp name_cmp (receive_at pairs place) (Some name)

module _ (pairs : List Pair) (places : List ℕ) (search : IsSearchable pairs places) (name : OpName) where
  pub given_found : (at d : ℕ) → HoldsAt (λ y. option_cmp name_cmp (receive_at pairs y) (Some name) ≡ Equal) places at → message_at pairs (get_or places at d) ≡ given_by pairs name
  given_found at d holds =
      let place = get_or places at d in
      let k : receive_at pairs place ≡ Some name = some_equal (receive_at pairs place) name (holds d) in
      elim (slice_get pairs place) as (λ o. slice_get pairs place ≡ o → option_map (λ (r : Pair). r.receive) o ≡ Some name → option_map (λ (r : Pair). r.message) o ≡ given_by pairs name) [
        | None ↦ λ g f. absurd (cc)
        | Some p ↦ λ g f.
            let h : p.receive ≡ name = cc in
            sym (ap (option_map (λ (r : Pair). r.message)) (find_is (λ r. r.receive) pairs search.pairs_are.one_receive name p (stands pairs place p g) h))
      ] refl k

  pub given_missed : (at : ℕ) → (IsNonDecreasingBy (λ y. ordering_index (option_cmp name_cmp (receive_at pairs y) (Some name))) places → IsPartitionPoint (λ y. option_cmp name_cmp (receive_at pairs y) (Some name) ≡ Less) (λ y. option_cmp name_cmp (receive_at pairs y) (Some name) ≡ Greater) places at) → None ≡ given_by pairs name
  given_missed at split =
      let s = split (searchable_from_sorted (options_total name_total) (receive_at pairs) places (Some name) search.by_receive) in
      sym (ap (option_map (λ (r : Pair). r.message)) (find_none (λ r. r.receive) pairs name (λ p i e.
      let c = contains_has pairs p i in
      let g : receive_at pairs c.0 ≡ Some name = ap (option_map (λ (r : Pair). r.receive)) (got pairs c.0 p c.1 ∙ ap (λ (x : Pair). Some x) c.2) ∙ ap (λ (x : OpName). Some x) e in
      absent (by_place pairs name) places at s c.0 (search.all c.0 c.1) (ap (λ o. option_cmp name_cmp o (Some name)) g ∙ tied name name refl))))

pub searchable_of : (pairs seen : List Pair) (places : List ℕ) → seen ≡ pairs → ArePairs pairs → AreByReceive seen places → ((i : ℕ) → i < length seen → Has places i) → IsSearchable pairs places
searchable_of pairs seen places e are sorted all = record {
  pairs_are = are;
  by_receive = subst (λ (l : List Pair). AreByReceive l places) e sorted;
  all = subst (λ (l : List Pair). (i : ℕ) → i < length l → Has places i) e all;
}

pub same_or_other : (a b : ℕ) → (a ≡ b) ⊎ (a ≢ b)
same_or_other a b =
    elim (cases_lt a b) [
      | inl lt ↦ inr (λ e. omega arith)
      | inr le ↦ elim (cases_lt b a) [
        | inl lt ↦ inr (λ e. omega arith)
        | inr ge ↦ inl (omega arith)
      ]
    ]

-- one place more, whose places are still there
pub more_there : (old new : List ℕ) (n : ℕ) → ((i : ℕ) → Has old i → Has new i) → Has new n → ((i : ℕ) → i < n → Has old i) → (i : ℕ) → i < n + 1 → Has new i
more_there old new n kept there all i lt =
    elim (cases_lt i n) [
      | inl below ↦ kept i (all i below)
      | inr le ↦ let e : n ≡ i = omega arith in subst (λ (j : ℕ). Has new j) e there
    ]

-- the pairs of the ops are so
gt_not_lt : (r : Ordering) → is_gt r ≡ true → is_lt r ≡ false
gt_not_lt Less h = absurd (cc)
gt_not_lt Equal h = refl
gt_not_lt Greater h = refl

not_above : (a b : OpName) → name_lt a b ≡ true → is_lt (name_cmp b a) ≡ false
not_above a b h = gt_not_lt (name_cmp b a) (later_name a b h)

rises_at : (pairs : List Pair) → AreRising (λ p. p.message) pairs → (k : ℕ) (d : Pair) → suc k < length pairs → name_lt (get_or pairs k d).message (get_or pairs (suc k) d).message ≡ true
rises_at [] r k d h = absurd (omega arith)
rises_at (p ∷ []) r k d h = absurd (omega arith)
rises_at (p ∷ q ∷ pairs) r zero d h = r.0 q (inl refl)
rises_at (p ∷ q ∷ pairs) r (suc k) d h = rises_at (q ∷ pairs) r.1 k d (omega arith)

rising_by : (pairs : List Pair) → AreRising (λ p. p.message) pairs → IsSortedBy (λ a b. is_lt (name_cmp a.message b.message)) pairs
rising_by pairs r k d l h =
    let n : suc k ≡ k + 1 = omega arith in
    subst (λ (i : ℕ). is_lt (name_cmp (get_or pairs i d).message (get_or pairs k d).message) ≡ false) n
    (not_above (get_or pairs k d).message (get_or pairs (suc k) d).message (rises_at pairs r k d (omega arith)))

rows_rise : (f : Message → Option Receive) (ms : List Message) → AreRising (λ m. m.name) ms → AreRising (λ p. p.message) (filter_map (λ m. option_map (pair_of m) (f m)) ms)
rows_rise f [] r = tt
rows_rise f (m ∷ ms) r =
    elim (f m) as (λ o. AreRising (λ p. p.message) (cons_option (option_map (pair_of m) o) (filter_map (λ m. option_map (pair_of m) (f m)) ms))) [
      | None ↦ rows_rise f ms r.1
      | Some q ↦ (
        λ p i.
            let w = from_some (λ m. option_map (pair_of m) (f m)) ms p i in
            let v = mapped w.0 (f w.0) p w.2 in
            subst (λ (x : Pair). name_lt m.name x.message ≡ true) (sym v.2) (r.0 w.0 w.1),
        rows_rise f ms r.1,
      )
    ]

pub pairs_are : (held : List Ops) → AreOwn 0 held → ArePairs (pairs_of (comes_after held) (sends_of held) (receives_of held))
pairs_are held a =
    let after = comes_after held in
    let ms = sends_of held in
    let qs = receives_of held in
    let calls = own_calls held a in
    let up = rows_rise (receive_of after ms qs) ms (all_sends_rise held 0 a) in
    record {
      rise = rising_by (pairs_of after ms qs) up;
      one_message = λ p r i j e. one_named (λ (p : Pair). p.message) (pairs_of after ms qs) p r up i j e;
      one_receive = λ p r i j e.
          let v = pair_has after ms qs p i in
          let w = pair_has after ms qs r j in
          let names : v.2.name ≡ w.2.name = ap (λ (x : Pair). x.receive) (sym v.5) ∙ e ∙ ap (λ (x : Pair). x.receive) w.5 in
          let q : v.2 ≡ w.2 = calls.receives_apart v.2 w.2 v.3 w.3 (placed_receive v.2 w.2 (calls.receivers v.2 v.3) (calls.receivers w.2 w.3) names) in
          let m : v.0 ≡ w.0 = the_one_message after ms qs calls.messages_apart v.0 w.0 v.2 v.1 w.1 v.3 v.4 (subst (λ (x : Receive). Paired after ms qs w.0 x) (sym q) w.4) in
          one_named (λ (p : Pair). p.message) (pairs_of after ms qs) p r up i j (ap (λ (x : Pair). x.message) v.5 ∙ ap (λ (x : Message). x.name) m ∙ sym (ap (λ (x : Pair). x.message) w.5));
    }

pub table_are : (held : List Ops) (t : Table) → AreOwn 0 held → t ≡ table_of held → ArePairs t.pairs
table_are held t a e = subst (λ (l : List Pair). ArePairs l) (sym (ap (λ (x : Table). x.pairs) e)) (pairs_are held a)
