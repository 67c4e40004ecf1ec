-- Lists that grow by one item, and messages by what receives name.
use Rattle.std.proofs.Common.{◌≡◌, ◌∙◌, ◌+◌, ◌<◌, ℕ, Bool, true, false, ◌&&◌, ◌||◌, List, [], ◌∷◌, ◌++◌, Option, Some, None, append-nil, append_assoc, ap, arith, filter, get_or, inl, inr, length, map, refl, sym, take}
use Rattle.std.specs.Prelude.{◌==◌, cond, if◌then◌else◌, Vec}
use Rattle.std.specs.declared.alloc.Global.{Global}
use Rattle.std.specs.BTreeMap.{get}
use Rattle.std.specs.List.{flat_map, list_any, range_with_len}
use Rattle.std.specs.BTreeSet.{BTreeSet, contains}
use Rattle.std.specs.Ordering.{is_eq}
use Rattle.std.proofs.lemmas.Grind.{flat_map-append}
use Rattle.std.proofs.lemmas.List.{take_more}
use Rattle.std.proofs.lemmas.List.Elements.{filter_more}
use Rattle.std.proofs.lemmas.List.Folds.{list_any_more}
use Rattle.std.proofs.lemmas.Bool.Decides.{nat_tests}
use Rattle.mpi_model.specs.Fit.{admits}
use Rattle.mpi_model.specs.declared.message.Message.{Message}
use Rattle.trace_ops.specs.Order.{Has}
use Rattle.trace_wait.specs.Patterns.{Pattern, pattern_cmp, same_option, same_pattern, suits}
use Rattle.trace_diagnosis.specs.Listed.{Lists, items_of, listed, one_if}
use Rattle.trace_diagnosis.proofs.Lists.{one_range}
use Rattle.trace_diagnosis.proofs.Naming.{pattern_one, pattern_same}

-- ---- one item more

-- of those that pass the test
pub filter_next : {X : Type 0} (p : X → Bool) (xs : List X) (i : ℕ) (d : X) (old new : List X) → i < length xs → old ≡ filter p (take i xs)
    → new ≡ old ++ (if p (get_or xs i d) then get_or xs i d ∷ [] else []) → new ≡ filter p (take (i + 1) xs)
filter_next {X = X} p xs i d old new lt before e =
    e ∙ ap (λ (l : List X). l ++ (if p (get_or xs i d) then get_or xs i d ∷ [] else [])) before ∙ sym (filter_more p xs i d lt)

swapped : (a b c : Bool) → (a || (b || c)) ≡ ((b || a) || c)
swapped true true c = refl
swapped true false c = refl
swapped false true c = refl
swapped false false c = refl

-- of those of which one passes the test
pub any_next : {X : Type 0} (f : X → Bool) (xs : List X) (i : ℕ) (d : X) (before old new : Bool) → i < length xs → old ≡ (list_any f (take i xs) || before)
    → new ≡ (f (get_or xs i d) || old) → new ≡ (list_any f (take (i + 1) xs) || before)
any_next f xs i d before old new lt was e =
    let x = f (get_or xs i d) in
    let so_far = list_any f (take i xs) in
    e ∙ ap (λ (b : Bool). x || b) was ∙ swapped x so_far before ∙ ap (λ (b : Bool). b || before) (sym (list_any_more f xs i d lt))

either_way : (a b : Bool) → (a || b) ≡ (b || a)
either_way true true = refl
either_way true false = refl
either_way false true = refl
either_way false false = refl

-- the same of none before
pub any_first : {X : Type 0} (f : X → Bool) (xs : List X) (i : ℕ) (d : X) (old new : Bool) → i < length xs → old ≡ list_any f (take i xs) → new ≡ (f (get_or xs i d) || old)
    → new ≡ list_any f (take (i + 1) xs)
any_first f xs i d old new lt was e =
    let x = f (get_or xs i d) in
    e ∙ ap (λ (b : Bool). x || b) was ∙ either_way x (list_any f (take i xs)) ∙ sym (list_any_more f xs i d lt)

-- what passes one test among a list is one of it
pub has_any : {X : Type 0} (f : X → Bool) (xs : List X) (x : X) → Has xs x → f x ≡ true → list_any f xs ≡ true
has_any f [] x i h = absurd i
has_any f (y ∷ ys) x (inl e) h = ap (λ (b : Bool). b || list_any f ys) (sym (ap f e) ∙ h)
has_any f (y ∷ ys) x (inr i) h = ap (λ (b : Bool). f y || b) (has_any f ys x i h) ∙ either_way (f y) true

-- two tests that agree on a list leave the same of it
pub filter_on : {X : Type 0} (p r : X → Bool) (xs : List X) → ((x : X) → Has xs x → p x ≡ r x) → filter p xs ≡ filter r xs
filter_on p r [] same = refl
filter_on {X = X} p r (x ∷ xs) same =
    ap (λ (b : Bool). if b then x ∷ filter p xs else filter p xs) (same x (inl refl))
    ∙ ap (λ (l : List X). if r x then x ∷ l else l) (filter_on p r xs (λ y i. same y (inr i)))

-- lists that are made of the items of another list, one item more
pub flat_next : {X Y : Type 0} (f : X → List Y) (front : List Y) (xs : List X) (i : ℕ) (d : X) (old new : List Y) → i < length xs → old ≡ front ++ flat_map f (take i xs)
    → new ≡ old ++ f (get_or xs i d) → new ≡ front ++ flat_map f (take (i + 1) xs)
flat_next {Y = Y} f front xs i d old new lt before e =
    let x = get_or xs i d in
    e ∙ ap (λ (l : List Y). l ++ f x) before ∙ append_assoc front (flat_map f (take i xs)) (f x)
    ∙ ap (λ (l : List Y). front ++ l) (sym (ap (flat_map f) (take_more xs i d lt) ∙ flat_map-append f (take i xs) (x ∷ []) ∙ ap (λ (l : List Y). flat_map f (take i xs) ++ l) (append-nil (f x))))

-- the same of the numbers from 0 on
pub range_next : {Y : Type 0} (g : ℕ → List Y) (old new : List Y) (n : ℕ) → old ≡ flat_map g (range_with_len 0 n) → new ≡ old ++ g n → new ≡ flat_map g (range_with_len 0 (n + 1))
range_next {Y = Y} g old new n before e =
    e ∙ ap (λ (l : List Y). l ++ g n) before
    ∙ sym (ap (flat_map g) (one_range n) ∙ flat_map-append g (range_with_len 0 n) (n ∷ []) ∙ ap (λ (l : List Y). flat_map g (range_with_len 0 n) ++ l) (append-nil (g n)))

-- of what a map makes
pub flat_of_map : {X Y Z : Type 0} (f : Y → List Z) (g : X → Y) (xs : List X) → flat_map f (map g xs) ≡ flat_map (λ x. f (g x)) xs
flat_of_map f g [] = refl
flat_of_map {Z = Z} f g (x ∷ xs) = ap (λ (l : List Z). f (g x) ++ l) (flat_of_map f g xs)

pub three_behind : {X : Type 0} (old a b c : List X) → ((old ++ a) ++ b) ++ c ≡ old ++ (a ++ b ++ c)
three_behind {X = X} old a b c = append_assoc (old ++ a) b c ∙ append_assoc old a (b ++ c) ∙ ap (λ (l : List X). old ++ l) (sym (append_assoc a b c))

-- ---- the patterns of a message

flipped : (a b : ℕ) → (a == b) ≡ (b == a)
flipped a b = grind (arith, nat_tests)

-- nothing is named, or the number is
named_ways : (o : Option ℕ) (n : ℕ) → (same_option None o || same_option (Some n) o) ≡ admits o n
named_ways None n = refl
named_ways (Some a) n = flipped n a

-- and not both
named_once : (o : Option ℕ) (n : ℕ) → (same_option None o && same_option (Some n) o) ≡ false
named_once None n = refl
named_once (Some a) n = refl

module _ (m : Message) where
  nothing : (l : List Message) → (((l ++ []) ++ []) ++ []) ++ [] ≡ l ++ []
  nothing l = append-nil (((l ++ []) ++ []) ++ []) ∙ append-nil ((l ++ []) ++ []) ∙ append-nil (l ++ [])

  -- each in its turn, of which one at most comes
  once : (l : List Message) (a b s t u v : Bool) → (s && t) ≡ false → (u && v) ≡ false →
      (((l ++ one_if (a && b && s && u) m) ++ one_if (a && b && s && v) m) ++ one_if (a && b && t && u) m) ++ one_if (a && b && t && v) m ≡ l ++ one_if (a && b && (s || t) && (u || v)) m
  once l false b s t u v h k = nothing l
  once l true false s t u v h k = nothing l
  once l true true true true u v h k = absurd (cc)
  once l true true false false u v h k = nothing l
  once l true true s t true true h k = absurd (cc)
  once l true true true false true false h k = append-nil (((l ++ m ∷ []) ++ []) ++ []) ∙ append-nil ((l ++ m ∷ []) ++ []) ∙ append-nil (l ++ m ∷ [])
  once l true true true false false true h k = append-nil (((l ++ []) ++ m ∷ []) ++ []) ∙ append-nil ((l ++ []) ++ m ∷ []) ∙ ap (λ (x : List Message). x ++ m ∷ []) (append-nil l)
  once l true true true false false false h k = nothing l
  once l true true false true true false h k = append-nil (((l ++ []) ++ []) ++ m ∷ []) ∙ ap (λ (x : List Message). x ++ m ∷ []) (append-nil (l ++ []) ∙ append-nil l)
  once l true true false true false true h k = ap (λ (x : List Message). x ++ m ∷ []) (append-nil ((l ++ []) ++ []) ∙ append-nil (l ++ []) ∙ append-nil l)
  once l true true false true false false h k = nothing l

  fitted : (a b s t u v : Bool) → s ≡ t → u ≡ v → (a && b && s && u) ≡ (a && b && t && v)
  fitted a b s t u v h k = ap (λ x. a && b && x && u) h ∙ ap (λ y. a && b && t && y) k

  as_named : (k p : Pattern) (l new : List Message) → new ≡ l ++ one_if (is_eq (pattern_cmp k p)) m → new ≡ l ++ one_if (same_pattern k p) m
  as_named k p l new e = e ∙ ap (λ (b : Bool). l ++ one_if b m) (pattern_same k p)

  -- the first one of its list, and one behind others
  pub put_first : (old new : Lists) (k p : Pattern) (v : Vec Message Global) → get pattern_cmp old k ≡ None → v.items ≡ m ∷ [] → get pattern_cmp new p ≡ cond (is_eq (pattern_cmp k p)) (Some v) (get pattern_cmp old p)
      → listed new p ≡ listed old p ++ one_if (is_eq (pattern_cmp k p)) m
  put_first old new k p v none one e = ap items_of e ∙ by (is_eq (pattern_cmp k p)) refl
    where
      by : (b : Bool) → is_eq (pattern_cmp k p) ≡ b → items_of (cond b (Some v) (get pattern_cmp old p)) ≡ listed old p ++ one_if b m
      by true h = one ∙ ap (λ (l : List Message). l ++ m ∷ []) (sym (ap items_of (ap (get pattern_cmp old) (sym (pattern_one k p h)) ∙ none)))
      by false h = sym (append-nil (listed old p))

  pub put_behind : (old new : Lists) (k p : Pattern) (u v : Vec Message Global) → get pattern_cmp old k ≡ Some u → v.items ≡ u.items ++ m ∷ [] → get pattern_cmp new p ≡ cond (is_eq (pattern_cmp k p)) (Some v) (get pattern_cmp old p)
      → listed new p ≡ listed old p ++ one_if (is_eq (pattern_cmp k p)) m
  put_behind old new k p u v had one e = ap items_of e ∙ by (is_eq (pattern_cmp k p)) refl
    where
      by : (b : Bool) → is_eq (pattern_cmp k p) ≡ b → items_of (cond b (Some v) (get pattern_cmp old p)) ≡ listed old p ++ one_if b m
      by true h = one ∙ ap (λ (l : List Message). l ++ m ∷ []) (sym (ap items_of (ap (get pattern_cmp old) (sym (pattern_one k p h)) ∙ had)))
      by false h = sym (append-nil (listed old p))

  -- what isn't asked for is none of what is
  pub unasked : (asked : BTreeSet Pattern) (k p : Pattern) (l : List Message) → contains pattern_cmp asked k ≡ false → contains pattern_cmp asked p ≡ true → l ≡ l ++ one_if (is_eq (pattern_cmp k p)) m
  unasked asked k p l not_asked is_asked = by (is_eq (pattern_cmp k p)) refl
    where
      by : (b : Bool) → is_eq (pattern_cmp k p) ≡ b → l ≡ l ++ one_if b m
      by true e = absurd (cc (sym not_asked ∙ ap (contains pattern_cmp asked) (pattern_one k p e) ∙ is_asked))
      by false e = sym (append-nil l)

  -- the message came to the lists of its four patterns
  pub put_all : (p : Pattern) (l0 l1 l2 l3 l4 : List Message)
      → l1 ≡ l0 ++ one_if (is_eq (pattern_cmp (m.comm, m.to, None, None) p)) m
      → l2 ≡ l1 ++ one_if (is_eq (pattern_cmp (m.comm, m.to, None, Some m.tag) p)) m
      → l3 ≡ l2 ++ one_if (is_eq (pattern_cmp (m.comm, m.to, Some m.from, None) p)) m
      → l4 ≡ l3 ++ one_if (is_eq (pattern_cmp (m.comm, m.to, Some m.from, Some m.tag) p)) m
      → l4 ≡ l0 ++ one_if (suits m p) m
  put_all p l0 l1 l2 l3 l4 e1 e2 e3 e4 =
      let a = m.comm == p.0 in
      let b = m.to == p.1 in
      let s = same_option None p.2 in
      let t = same_option (Some m.from) p.2 in
      let u = same_option None p.3 in
      let v = same_option (Some m.tag) p.3 in
      as_named (m.comm, m.to, Some m.from, Some m.tag) p l3 l4 e4
      ∙ ap (λ (l : List Message). l ++ one_if (a && b && t && v) m) (as_named (m.comm, m.to, Some m.from, None) p l2 l3 e3
      ∙ ap (λ (l : List Message). l ++ one_if (a && b && t && u) m) (as_named (m.comm, m.to, None, Some m.tag) p l1 l2 e2
      ∙ ap (λ (l : List Message). l ++ one_if (a && b && s && v) m) (as_named (m.comm, m.to, None, None) p l0 l1 e1)))
      ∙ once l0 a b s t u v (named_once p.2 m.from) (named_once p.3 m.tag)
      ∙ ap (λ (c : Bool). l0 ++ one_if c m) (fitted a b (s || t) (admits p.2 m.from) (u || v) (admits p.3 m.tag) (named_ways p.2 m.from) (named_ways p.3 m.tag))
