-- A search goes on, label by label.
use Rattle.std.proofs.Common.{◌≡◌, ℕ, zero, suc, ◌+◌, ◌<◌, ◌≤◌, Bool, true, false, ◌||◌, ◌&&◌, Option, Some, None, List, [], ◌∷◌, ◌++◌, ◌⊎◌, ⊎_elim, eqb, refl, sym, ◌∙◌, ap, subst, arith, length, set, take, get_or, Vec, Global}
use Rattle.std.specs.Prelude.{nat_lt}
use Rattle.std.proofs.lemmas.List.Folds.{list_any_at, list_any_more}
use Rattle.std.proofs.lemmas.Bool.Decides.{nat_tests}
use Rattle.trace_stuck.specs.Release.{among}
use Rattle.trace_stuck.specs.Named.{at_rank}
use Rattle.trace_stuck.specs.Chains.{Leads}
use Rattle.trace_stuck.specs.Graph.{edge, is_up, IsFirst, label_at}
use Rattle.trace_stuck.specs.Search.{AtMost, Begun, Labelled, LabelledAs, Spreads, held_with, is_bare}
use Rattle.trace_stuck.proofs.Chained.{along, leads_self, leads_next}
use Rattle.trace_stuck.proofs.Labels.{among_push, bare_in, bare_none, either, has_label, is_equal, is_other, neither, or_left, or_right, set_other, set_same, two_cases}

-- one of two labels is no label and some label
no_label : (o : Option ℕ) (l : ℕ) → o ≡ None → o ≡ Some l → ⊥
no_label o l e f = cc

pub at_most_some : (m l : ℕ) (o : Option ℕ) → o ≡ Some l → l ≤ m → AtMost m o
at_most_some m l o e h = subst (λ (p : Option ℕ). AtMost m p) (sym e) h

at_most_none : (m : ℕ) (o : Option ℕ) → o ≡ None → AtMost m o → ⊥
at_most_none m o e h = subst (λ (p : Option ℕ). AtMost m p) e h

pub at_most_label : (m : ℕ) (o : Option ℕ) → AtMost m o → (l : ℕ) × (o ≡ Some l) × (l ≤ m)
at_most_label m None h = absurd h
at_most_label m (Some l) h = (l, refl, h)

-- what a node has stays where another one, or none, takes a label
kept_set : (labels : List (Option ℕ)) (r l m x : ℕ) → is_bare labels r ≡ true → AtMost m (label_at labels x) → AtMost m (label_at (set labels r (Some l)) x)
kept_set labels r l m x naked h = ⊎_elim
    (λ (e : eqb r x ≡ true). absurd (at_most_none m (label_at labels x) (subst (λ (z : ℕ). label_at labels z ≡ None) (is_equal r x e) (bare_none labels r naked)) h))
    (λ (e : eqb r x ≡ false). subst (λ (p : Option ℕ). AtMost m p) (sym (set_other labels r x (Some l) (is_other r x e))) h)
    (two_cases (eqb r x))

kept_as : (l r m x : ℕ) (labels : List (Option ℕ)) (stack : List ℕ) (labels2 : List (Option ℕ)) (stack2 : List ℕ) (b : Bool) → is_bare labels r ≡ b →
    LabelledAs b l r labels stack labels2 stack2 → AtMost m (label_at labels x) → AtMost m (label_at labels2 x)
kept_as l r m x labels stack labels2 stack2 true naked t h = subst (λ (q : List (Option ℕ)). AtMost m (label_at q x)) (sym t.0) (kept_set labels r l m x naked h)
kept_as l r m x labels stack labels2 stack2 false naked t h = subst (λ (q : List (Option ℕ)). AtMost m (label_at q x)) (sym t.0) h

labelled_kept : (l r m x : ℕ) (labels : List (Option ℕ)) (stack : List ℕ) (labels2 : List (Option ℕ)) (stack2 : List ℕ) → Labelled l r labels stack labels2 stack2 →
    AtMost m (label_at labels x) → AtMost m (label_at labels2 x)
labelled_kept l r m x labels stack labels2 stack2 t h = kept_as l r m x labels stack labels2 stack2 (is_bare labels r) refl t h

module _ (step : ℕ → ℕ → Bool) (starts : ℕ → Bool) where
  module _ (top done : ℕ) where
    -- a bare node takes the label
    module _ (held held2 : ℕ → Bool) (labels : List (Option ℕ)) (r : ℕ) (naked : is_bare labels r ≡ true) (more : (y : ℕ) → held2 y ≡ (held y || eqb r y)) (is_start : starts top ≡ true)
        (reached : Leads step top r) (s : Spreads step starts top done held labels) where
      abbrev labels2 : List (Option ℕ)
      labels2 = set labels r (Some top)

      here : label_at labels2 r ≡ Some top
      here = set_same labels r (Some top) (bare_in labels r naked)

      kept : (m x : ℕ) → AtMost m (label_at labels x) → AtMost m (label_at labels2 x)
      kept m x h = kept_set labels r top m x naked h

      put_sound : (x l : ℕ) → label_at labels2 x ≡ Some l → (starts l ≡ true) × Leads step l x × (l ≤ top)
      put_sound x l h = ⊎_elim
          (λ (e : eqb r x ≡ true).
          let same : r ≡ x = is_equal r x e in
          let at : label_at labels2 x ≡ Some top = subst (λ (z : ℕ). label_at labels2 z ≡ Some top) same here in
          let is : top ≡ l = cc (at, h) in
          subst (λ (k : ℕ). (starts k ≡ true) × Leads step k x × (k ≤ top)) is
          (is_start, subst (λ (z : ℕ). Leads step top z) same reached, omega arith))
          (λ (e : eqb r x ≡ false). s.sound x l (sym (set_other labels r x (Some top) (is_other r x e)) ∙ h))
          (two_cases (eqb r x))

      put_fresh : (x : ℕ) → held2 x ≡ true → label_at labels2 x ≡ Some top
      put_fresh x h = ⊎_elim
          (λ (e : eqb r x ≡ true). subst (λ (z : ℕ). label_at labels2 z ≡ Some top) (is_equal r x e) here)
          (λ (e : eqb r x ≡ false).
          set_other labels r x (Some top) (is_other r x e)
          ∙ s.fresh x (⊎_elim (λ (a : held x ≡ true). a) (λ (b : eqb r x ≡ true). absurd (cc (b, e))) (either (held x) (eqb r x) (sym (more x) ∙ h))))
          (two_cases (eqb r x))

      put_closed : (x l : ℕ) → label_at labels2 x ≡ Some l → held2 x ≡ false → (y : ℕ) → step x y ≡ true → AtMost l (label_at labels2 y)
      put_closed x l h out y edge =
          let p = neither (held x) (eqb r x) (sym (more x) ∙ out) in
          kept l y (s.closed x l (sym (set_other labels r x (Some top) (is_other r x p.1)) ∙ h) p.0 y edge)

      pub put_label : Spreads step starts top done held2 labels2
      put_label = record { sound = put_sound; fresh = put_fresh; closed = put_closed; started = λ m lt h. kept m m (s.started m lt h) }

    -- the held nodes, put otherwise
    pub held_as : (held held2 : ℕ → Bool) (labels : List (Option ℕ)) → ((y : ℕ) → held2 y ≡ held y) → Spreads step starts top done held labels → Spreads step starts top done held2 labels
    held_as held held2 labels same s = record {
      sound = s.sound;
      fresh = λ x h. s.fresh x (sym (same x) ∙ h);
      closed = λ x l h out. s.closed x l h (sym (same x) ∙ out);
      started = s.started;
    }

    shuffle : (a b c : Bool) → ((a || c) || b) ≡ ((a || b) || c)
    shuffle true b c = refl
    shuffle false true true = refl
    shuffle false true false = refl
    shuffle false false true = refl
    shuffle false false false = refl

    held_more : (stack : List ℕ) (r x y : ℕ) → held_with (stack ++ r ∷ []) x y ≡ (held_with stack x y || eqb r y)
    held_more stack r x y = ap (λ b. b || eqb x y) (among_push stack r y) ∙ shuffle (among stack y) (eqb x y) (eqb r y)

    -- a node to which an edge of x goes is looked at
    module _ (x r : ℕ) (labels : List (Option ℕ)) (stack : List ℕ) (labels2 : List (Option ℕ)) (stack2 : List ℕ) (steps : is_bare labels r ≡ true → step x r ≡ true)
        (s : Spreads step starts top done (held_with stack x) labels) where
      at_hand : label_at labels x ≡ Some top
      at_hand = s.fresh x (or_right (among stack x) (eqb x x) (grind (arith, nat_tests)))

      spreads_as : (b : Bool) → is_bare labels r ≡ b → LabelledAs b top r labels stack labels2 stack2 → Spreads step starts top done (held_with stack2 x) labels2
      spreads_as true naked t =
          let p = s.sound x top at_hand in
          subst (λ (q : List ℕ). Spreads step starts top done (held_with q x) labels2) (sym t.1)
          (subst (λ (q : List (Option ℕ)). Spreads step starts top done (held_with (stack ++ r ∷ []) x) q) (sym t.0)
          (put_label (held_with stack x) (held_with (stack ++ r ∷ []) x) labels r naked (held_more stack r x) p.0 (leads_next step top x r p.1 (steps naked)) s))
      spreads_as false naked t =
          subst (λ (q : List ℕ). Spreads step starts top done (held_with q x) labels2) (sym t.1)
          (subst (λ (q : List (Option ℕ)). Spreads step starts top done (held_with stack x) q) (sym t.0) s)

      pub spreads_label : Labelled top r labels stack labels2 stack2 → Spreads step starts top done (held_with stack2 x) labels2
      spreads_label t = spreads_as (is_bare labels r) refl t

      -- it has a label now
      here_as : (b : Bool) → is_bare labels r ≡ b → LabelledAs b top r labels stack labels2 stack2 → r < length labels → AtMost top (label_at labels2 r)
      here_as true naked t lt = subst (λ (q : List (Option ℕ)). AtMost top (label_at q r)) (sym t.0)
          (at_most_some top top (label_at (set labels r (Some top)) r) (set_same labels r (Some top) lt) (omega arith))
      here_as false naked t lt =
          let p = has_label labels r naked lt in
          subst (λ (q : List (Option ℕ)). AtMost top (label_at q r)) (sym t.0) (at_most_some top p.0 (label_at labels r) p.1 (s.sound r p.0 p.1).2)

      pub labelled_here : Labelled top r labels stack labels2 stack2 → r < length labels → AtMost top (label_at labels2 r)
      labelled_here t lt = here_as (is_bare labels r) refl t lt

    -- all edges of x were gone through
    pub spreads_done : (x : ℕ) (stack : List ℕ) (labels : List (Option ℕ)) → ((y : ℕ) → step x y ≡ true → AtMost top (label_at labels y)) →
        Spreads step starts top done (held_with stack x) labels → Spreads step starts top done (among stack) labels
    spreads_done x stack labels all s = record {
      sound = s.sound;
      fresh = λ y h. s.fresh y (or_left (among stack y) (eqb x y) h);
      closed = λ y l h out z edge. ⊎_elim
          (λ (e : eqb x y ≡ true).
          let same : x ≡ y = is_equal x y e in
          let mine : label_at labels y ≡ Some top = subst (λ (w : ℕ). label_at labels w ≡ Some top) same (s.fresh x (or_right (among stack x) (eqb x x) (grind (arith, nat_tests)))) in
          let is : top ≡ l = cc (mine, h) in
          subst (λ (k : ℕ). AtMost k (label_at labels z)) is (all z (subst (λ (w : ℕ). step w z ≡ true) (sym same) edge)))
          (λ (e : eqb x y ≡ false). s.closed y l h (both_out (among stack y) (eqb x y) out e) z edge)
          (two_cases (eqb x y));
      started = s.started;
    }
      where
        both_out : (a b : Bool) → a ≡ false → b ≡ false → (a || b) ≡ false
        both_out a b h k = rw h k

  -- a new start is labelled
  pub spreads_first : (top : ℕ) (labels labels2 : List (Option ℕ)) (stack2 : List ℕ) → is_bare labels top ≡ true → starts top ≡ true → Begun step starts top labels →
      Labelled top top labels [] labels2 stack2 → Spreads step starts top (top + 1) (among stack2) labels2
  spreads_first top labels labels2 stack2 naked is_start b t =
      let u : LabelledAs true top top labels [] labels2 stack2 = subst (λ (q : Bool). LabelledAs q top top labels [] labels2 stack2) naked t in
      let before : Spreads step starts top top (λ y. false) labels = record {
        sound = λ x l h. let p = b.sound x l h in (p.0, p.1, (omega (arith, p.2)));
        fresh = λ x h. absurd (cc (h));
        closed = λ x l h out. b.closed x l h;
        started = b.started;
      } in
      let after = put_label top top (λ y. false) (among (top ∷ [])) labels top naked (λ y. one (eqb top y)) is_start (leads_self step top) before in
      subst (λ (q : List ℕ). Spreads step starts top (top + 1) (among q) labels2) (sym u.1)
      (subst (λ (q : List (Option ℕ)). Spreads step starts top (top + 1) (among (top ∷ [])) q) (sym u.0) record {
        sound = after.sound;
        fresh = after.fresh;
        closed = after.closed;
        started = λ m lt h. ⊎_elim
            (λ (e : m ≡ top). subst (λ (z : ℕ). AtMost z (label_at (set labels top (Some top)) z)) (sym e)
            (at_most_some top top (label_at (set labels top (Some top)) top) (set_same labels top (Some top) (bare_in labels top naked)) (omega arith)))
            (λ (l : m < top). after.started m l h)
            (last m top lt);
      })
    where
      one : (b : Bool) → (b || false) ≡ (false || b)
      one true = refl
      one false = refl

      last : (m n : ℕ) → m < n + 1 → (m ≡ n) ⊎ (m < n)
      last m n lt = grind arith

  -- the stack is empty
  pub spreads_all : (top : ℕ) (labels : List (Option ℕ)) → Spreads step starts top (top + 1) (among []) labels → Begun step starts (top + 1) labels
  spreads_all top labels s = record {
    sound = λ x l h. let p = s.sound x l h in (p.0, p.1, (omega (arith, p.2)));
    closed = λ x l h. s.closed x l h refl;
    started = s.started;
  }

  -- a node that is no start, or has a label already, is left out
  pub begun_more : (top : ℕ) (labels : List (Option ℕ)) → (starts top ≡ true → (l : ℕ) × (label_at labels top ≡ Some l)) → Begun step starts top labels → Begun step starts (top + 1) labels
  begun_more top labels has b = record {
    sound = λ x l h. let p = b.sound x l h in (p.0, p.1, (omega (arith, p.2)));
    closed = b.closed;
    started = λ m lt h. ⊎_elim
        (λ (e : m ≡ top).
        let p = has (subst (λ (z : ℕ). starts z ≡ true) e h) in
        let q = b.sound top p.0 p.1 in
        subst (λ (z : ℕ). AtMost z (label_at labels z)) (sym e) (at_most_some top p.0 (label_at labels top) p.1 (omega (arith, q.2))))
        (λ (l : m < top). b.started m l h)
        (last m top lt);
  }
    where
      last : (m n : ℕ) → m < n + 1 → (m ≡ n) ⊎ (m < n)
      last m n lt = grind arith

  -- nothing was gone through
  pub begun_none : (labels : List (Option ℕ)) → ((x : ℕ) → label_at labels x ≡ None) → Begun step starts 0 labels
  begun_none labels none = record {
    sound = λ x l h. absurd (no_label (label_at labels x) l (none x) h);
    closed = λ x l h. absurd (no_label (label_at labels x) l (none x) h);
    started = λ m lt. absurd (omega arith);
  }

  -- all starts were gone through
  module _ (count : ℕ) (labels : List (Option ℕ)) (within : (m : ℕ) → starts m ≡ true → m < count) (b : Begun step starts count labels) where
    reach : (m x : ℕ) → starts m ≡ true → Leads step m x → AtMost m (label_at labels x)
    reach m x h l = along step (λ z. AtMost m (label_at labels z))
        (λ y z p edge. let q = at_most_label m (label_at labels y) p in
        let r = at_most_label q.0 (label_at labels z) (b.closed y q.0 q.1 z edge) in
        at_most_some m r.0 (label_at labels z) r.1 (omega (arith, r.2, q.2)))
        m x l (b.started m (within m h) h)

    first_at : (x : ℕ) (o : Option ℕ) → label_at labels x ≡ o → IsFirst step starts x o
    first_at x None e = λ m h l. at_most_none m (label_at labels x) e (reach m x h l)
    first_at x (Some k) e =
        let p = b.sound x k e in (
          p.0,
          p.1,
          λ m h l. subst (λ (o : Option ℕ). AtMost m o) e (reach m x h l),
        )

    pub firsts_are : (x : ℕ) → IsFirst step starts x (label_at labels x)
    firsts_are x = first_at x (label_at labels x) refl

-- ---- the edges of one node

pub both : (a b : Bool) → (a && b) ≡ true → (a ≡ true) × (b ≡ true)
both true b h = (refl, h)
both false b h = absurd (cc)

and_true : (a b : Bool) → a ≡ true → b ≡ true → (a && b) ≡ true
and_true a b h k = rw h k

below_true : (y n : ℕ) → nat_lt y n ≡ true → y < n
below_true y n h = grind (arith, nat_tests)

pub true_below : (y n : ℕ) → y < n → nat_lt y n ≡ true
true_below y n h = grind (arith, nat_tests)

pub edge_in : (edges : List (Vec ℕ Global)) (x y : ℕ) → edge edges x y ≡ true → (y < length edges) × (among (at_rank edges x) y ≡ true)
edge_in edges x y h = let p = both (nat_lt y (length edges)) (among (at_rank edges x) y) h in (below_true y (length edges) p.0, p.1)

pub in_edge : (edges : List (Vec ℕ Global)) (x y : ℕ) → y < length edges → among (at_rank edges x) y ≡ true → edge edges x y ≡ true
in_edge edges x y lt h = and_true (nat_lt y (length edges)) (among (at_rank edges x) y) (true_below y (length edges) lt) h

at_in : (xs : List ℕ) (k : ℕ) → k < length xs → among xs (get_or xs k 0) ≡ true
at_in xs k lt = list_any_at (λ t. eqb t (get_or xs k 0)) xs k 0 lt (same (get_or xs k 0))
  where
    same : (n : ℕ) → eqb n n ≡ true
    same n = grind (arith, nat_tests)

-- each of these that is there has a label
abbrev pub Reached : List (Vec ℕ Global) → ℕ → List ℕ → List (Option ℕ) → Type 0
Reached edges top nodes labels = (y : ℕ) → among nodes y ≡ true → y < length edges → AtMost top (label_at labels y)

module _ (edges : List (Vec ℕ Global)) (starts : ℕ → Bool) (top done x : ℕ) (nodes : List ℕ) (own : nodes ≡ at_rank edges x) where
  -- the edge at this place was gone through
  pub next_edge : (i : ℕ) → i < length nodes → (labels : List (Option ℕ)) (stack : List ℕ) (labels2 : List (Option ℕ)) (stack2 : List ℕ) → length labels ≡ length edges →
      Labelled top (get_or nodes i 0) labels stack labels2 stack2 → Spreads (edge edges) starts top done (held_with stack x) labels → Reached edges top (take i nodes) labels →
      Spreads (edge edges) starts top done (held_with stack2 x) labels2 × Reached edges top (take (i + 1) nodes) labels2
  next_edge i lt labels stack labels2 stack2 len t s reached =
      let r = get_or nodes i 0 in
      let steps = λ (naked : is_bare labels r ≡ true).
      in_edge edges x r (omega (arith, bare_in labels r naked, len)) (subst (λ (l : List ℕ). among l r ≡ true) own (at_in nodes i lt)) in (
        spreads_label (edge edges) starts top done x r labels stack labels2 stack2 steps s t,
        λ y h below. ⊎_elim
            (λ (a : among (take i nodes) y ≡ true). labelled_kept top r top y labels stack labels2 stack2 t (reached y a below))
            (λ (e : eqb r y ≡ true).
            let same : r ≡ y = is_equal r y e in
            subst (λ (z : ℕ). AtMost top (label_at labels2 z)) same
            (labelled_here (edge edges) starts top done x r labels stack labels2 stack2 steps s t (omega (arith, below, same, len))))
            (either (among (take i nodes) y) (eqb r y) (sym (list_any_more (λ t. eqb t y) nodes i 0 lt) ∙ h)),
      )

  -- all edges were gone through
  pub all_edges : (labels : List (Option ℕ)) (stack : List ℕ) → Spreads (edge edges) starts top done (held_with stack x) labels → Reached edges top nodes labels →
      Spreads (edge edges) starts top done (among stack) labels
  all_edges labels stack s reached = spreads_done (edge edges) starts top done x stack labels
      (λ y h. let p = edge_in edges x y h in reached y (subst (λ (l : List ℕ). among l y ≡ true) (sym own) p.1) p.0) s

-- the node is on the stack no more, but its edges are still to be gone through
pub taken_off : (edges : List (Vec ℕ Global)) (starts : ℕ → Bool) (top done : ℕ) (stack rest : List ℕ) (r : ℕ) (labels : List (Option ℕ)) → stack ≡ rest ++ r ∷ [] →
    Spreads (edge edges) starts top done (among stack) labels → Spreads (edge edges) starts top done (held_with rest r) labels
taken_off edges starts top done stack rest r labels e s = held_as (edge edges) starts top done (among stack) (held_with rest r) labels
    (λ y. sym (ap (λ (l : List ℕ). among l y) e ∙ among_push rest r y)) s

pub up_in : (flags : List Bool) (r : ℕ) → is_up flags r ≡ true → r < length flags
up_in [] r h = absurd (cc)
up_in (f ∷ flags) zero h = omega arith
up_in (f ∷ flags) (suc r) h = omega (arith, up_in flags r h)
