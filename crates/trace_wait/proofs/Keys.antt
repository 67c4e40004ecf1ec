-- What the sets of patterns and of rounds hold, one element more.
use Rattle.std.proofs.Common.{◌≡◌, ℕ, ◌+◌, ◌<◌, Bool, true, false, ◌&&◌, ◌||◌, List, [], ◌∷◌, Option, Some, None, take, get_or, refl, sym, ◌∙◌, ap, arith, length}
use Rattle.std.specs.Prelude.{filter, not, is_some, is_none, ◌==◌, if◌then◌else◌}
use Rattle.std.specs.List.{list_any}
use Rattle.std.specs.declared.cmp.Ordering.{Ordering}
use Rattle.std.specs.declared.cmp.Ordering.TheVariants.{Less, Equal, Greater}
use Rattle.std.specs.Ordering.{nat_cmp, ordering_then, is_eq}
use Rattle.std.specs.Option.{option_cmp}
use Rattle.std.proofs.lemmas.List.{take_more}
use Rattle.std.proofs.lemmas.List.Elements.{filter-append}
use Rattle.std.proofs.lemmas.List.Folds.{list_any-append}
use Rattle.std.proofs.lemmas.Bool.Decides.{nat_tests}
use Rattle.mpi_model.specs.Fit.{admits, envelopes_fit}
use Rattle.mpi_model.specs.Trusts.{is_void}
use Rattle.mpi_model.specs.declared.message.Message.{Message}
use Rattle.mpi_model.specs.declared.message.Receive.{Receive}
use Rattle.trace_wait.specs.declared.round.Round.{Round}
use Rattle.trace_wait.specs.Collectives.{is_mismatch, is_mismatched_at}
use Rattle.trace_wait.specs.Patterns.{Pattern, pattern_cmp, same_option, same_pattern, pattern_of, suits, offers, Place, place_cmp}

or_false : (a : Bool) → (a || false) ≡ a
or_false true = refl
or_false false = refl

-- a third is put in between
swapped : (a b c : Bool) → (a || (b || c)) ≡ ((b || a) || c)
swapped true true c = refl
swapped true false c = refl
swapped false true c = refl
swapped false false c = refl

module _ {X : Type 0} (g f : X → Bool) where
  one_kept : (b : Bool) (x : X) → list_any f (if b then x ∷ [] else []) ≡ (b && f x)
  one_kept true x = or_false (f x)
  one_kept false x = refl

  -- one element more of those that pass g
  pub noted_more : (xs : List X) (i : ℕ) (d : X) (before now after : Bool) → i < length xs →
      now ≡ (list_any f (filter g (take i xs)) || before) → after ≡ ((g (get_or xs i d) && f (get_or xs i d)) || now) →
      after ≡ (list_any f (filter g (take (i + 1) xs)) || before)
  noted_more xs i d before now after lt h k =
      let x = get_or xs i d in
      let so_far = list_any f (filter g (take i xs)) in
      let more : list_any f (filter g (take (i + 1) xs)) ≡ (so_far || (g x && f x)) =
      ap (λ (l : List X). list_any f (filter g l)) (take_more xs i d lt) ∙ ap (list_any f) (filter-append g (take i xs) (x ∷ []))
      ∙ list_any-append f (filter g (take i xs)) (filter g (x ∷ [])) ∙ ap (λ b. so_far || b) (one_kept (g x) x) in
      k ∙ ap (λ b. (g x && f x) || b) h ∙ swapped (g x && f x) so_far before ∙ ap (λ b. b || before) (sym more)

-- equal keys
then_eq : (a b : Ordering) → is_eq (ordering_then a b) ≡ (is_eq a && is_eq b)
then_eq Less b = refl
then_eq Equal b = refl
then_eq Greater b = refl

pub nat_same : (a b : ℕ) → is_eq (nat_cmp a b) ≡ (a == b)
nat_same a b = grind (arith, nat_tests)

option_same : (a b : Option ℕ) → is_eq (option_cmp nat_cmp a b) ≡ same_option a b
option_same None None = refl
option_same None (Some b) = refl
option_same (Some a) None = refl
option_same (Some a) (Some b) = nat_same a b

both_same : (a b c d : Bool) → a ≡ b → c ≡ d → (a && c) ≡ (b && d)
both_same a b c d h k = ap (λ x. x && c) h ∙ ap (λ y. b && y) k

pub pattern_same : (a b : Pattern) → is_eq (pattern_cmp a b) ≡ same_pattern a b
pattern_same a b =
    let third = ordering_then (ordering_then (nat_cmp a.0 b.0) (nat_cmp a.1 b.1)) (option_cmp nat_cmp a.2 b.2) in
    let second = ordering_then (nat_cmp a.0 b.0) (nat_cmp a.1 b.1) in
    then_eq third (option_cmp nat_cmp a.3 b.3)
    ∙ both_same (is_eq third) ((a.0 == b.0) && (a.1 == b.1) && same_option a.2 b.2) (is_eq (option_cmp nat_cmp a.3 b.3)) (same_option a.3 b.3)
    (then_eq second (option_cmp nat_cmp a.2 b.2)
    ∙ both_same (is_eq second) ((a.0 == b.0) && (a.1 == b.1)) (is_eq (option_cmp nat_cmp a.2 b.2)) (same_option a.2 b.2)
    (then_eq (nat_cmp a.0 b.0) (nat_cmp a.1 b.1) ∙ both_same (is_eq (nat_cmp a.0 b.0)) (a.0 == b.0) (is_eq (nat_cmp a.1 b.1)) (a.1 == b.1) (nat_same a.0 b.0) (nat_same a.1 b.1))
    (option_same a.2 b.2))
    (option_same a.3 b.3)

pub place_same : (a b : Place) → is_eq (place_cmp a b) ≡ ((a.0 == b.0) && (a.1 == b.1))
place_same a b = then_eq (nat_cmp a.0 b.0) (nat_cmp a.1 b.1) ∙ both_same (is_eq (nat_cmp a.0 b.0)) (a.0 == b.0) (is_eq (nat_cmp a.1 b.1)) (a.1 == b.1) (nat_same a.0 b.0) (nat_same a.1 b.1)

flipped : (a b : ℕ) → (a == b) ≡ (b == a)
flipped a b = grind (arith, nat_tests)

-- two ways to name the source, and two to name the tag
four_ways : (a b s t u v : Bool) →
    ((a && b && s && u) || ((a && b && s && v) || ((a && b && t && u) || (a && b && t && v)))) ≡ (a && b && (s || t) && (u || v))
four_ways false b s t u v = refl
four_ways true false s t u v = refl
four_ways true true true t true v = refl
four_ways true true true t false true = refl
four_ways true true true true false false = refl
four_ways true true true false false false = refl
four_ways true true false true u v = refl
four_ways true true false false u v = refl

-- nothing is named, or the number is
named_ways : (o : Option ℕ) (n : ℕ) → (same_option None o || same_option (Some n) o) ≡ admits o n
named_ways None n = refl
named_ways (Some a) n = flipped n a

abbrev pub any_any : Message → Pattern
any_any m = (m.comm, m.to, None, None)

abbrev pub any_tagged : Message → Pattern
any_tagged m = (m.comm, m.to, None, Some m.tag)

abbrev pub from_any : Message → Pattern
from_any m = (m.comm, m.to, Some m.from, None)

abbrev pub from_tagged : Message → Pattern
from_tagged m = (m.comm, m.to, Some m.from, Some m.tag)

ends : (a b s t u v : Bool) → s ≡ t → u ≡ v → (a && b && s && u) ≡ (a && b && t && v)
ends a b s t u v h k = ap (λ x. a && b && x && u) h ∙ ap (λ y. a && b && t && y) k

-- the patterns that suit a message are its four
pub suits_is : (m : Message) (p : Pattern) →
    (same_pattern (any_any m) p || (same_pattern (any_tagged m) p || (same_pattern (from_any m) p || same_pattern (from_tagged m) p))) ≡ suits m p
suits_is m p =
    four_ways (m.comm == p.0) (m.to == p.1) (same_option None p.2) (same_option (Some m.from) p.2) (same_option None p.3) (same_option (Some m.tag) p.3)
    ∙ ends (m.comm == p.0) (m.to == p.1) _ _ _ _ (named_ways p.2 m.from) (named_ways p.3 m.tag)

-- a message's patterns, all noted
pub offered_more : (m : Message) (p : Pattern) (before after : Bool) →
    after ≡ (is_eq (pattern_cmp (from_tagged m) p) || (is_eq (pattern_cmp (from_any m) p) || (is_eq (pattern_cmp (any_tagged m) p) || (is_eq (pattern_cmp (any_any m) p) || before)))) →
    after ≡ (suits m p || before)
offered_more m p before after h =
    h ∙ ap (λ b. b || (is_eq (pattern_cmp (from_any m) p) || (is_eq (pattern_cmp (any_tagged m) p) || (is_eq (pattern_cmp (any_any m) p) || before)))) (pattern_same (from_tagged m) p)
    ∙ ap (λ b. same_pattern (from_tagged m) p || (b || (is_eq (pattern_cmp (any_tagged m) p) || (is_eq (pattern_cmp (any_any m) p) || before)))) (pattern_same (from_any m) p)
    ∙ ap (λ b. same_pattern (from_tagged m) p || (same_pattern (from_any m) p || (b || (is_eq (pattern_cmp (any_any m) p) || before)))) (pattern_same (any_tagged m) p)
    ∙ ap (λ b. same_pattern (from_tagged m) p || (same_pattern (from_any m) p || (same_pattern (any_tagged m) p || (b || before)))) (pattern_same (any_any m) p)
    ∙ upside (same_pattern (any_any m) p) (same_pattern (any_tagged m) p) (same_pattern (from_any m) p) (same_pattern (from_tagged m) p) before
    ∙ ap (λ b. b || before) (suits_is m p)
  where
    upside : (a b c d e : Bool) → (d || (c || (b || (a || e)))) ≡ ((a || (b || (c || d))) || e)
    upside true true true true e = refl
    upside true true true false e = refl
    upside true true false true e = refl
    upside true true false false e = refl
    upside true false true true e = refl
    upside true false true false e = refl
    upside true false false true e = refl
    upside true false false false e = refl
    upside false true true true e = refl
    upside false true true false e = refl
    upside false true false true e = refl
    upside false true false false e = refl
    upside false false true true e = refl
    upside false false true false e = refl
    upside false false false true e = refl
    upside false false false false e = refl

-- a round is noted where it is mismatched
pub round_noted : (r : Round) (c k : ℕ) (before after : Bool) → is_mismatch r.standing ≡ true →
    after ≡ (is_eq (place_cmp (r.comm, r.k) (c, k)) || before) → after ≡ (is_mismatched_at c k r || before)
round_noted r c k before after h e =
    e ∙ ap (λ b. b || before) (place_same (r.comm, r.k) (c, k)) ∙ ap (λ b. b || before) (kept ((r.comm == c) && (r.k == k)) (is_mismatch r.standing) h)
  where
    kept : (a b : Bool) → b ≡ true → a ≡ (a && b)
    kept true b h = sym h
    kept false b h = refl

pub round_passed : (r : Round) (c k : ℕ) (before : Bool) → is_mismatch r.standing ≡ false → before ≡ (is_mismatched_at c k r || before)
round_passed r c k before h = ap (λ b. b || before) (gone ((r.comm == c) && (r.k == k)) (is_mismatch r.standing) h)
  where
    gone : (a b : Bool) → b ≡ false → false ≡ (a && b)
    gone true b h = sym h
    gone false b h = refl

-- what has a partner is passed over, and what has none is taken in
pub passed_over : {X : Type 0} (o : Option X) (s before : Bool) → is_some o ≡ true → before ≡ ((is_none o && s) || before)
passed_over None s before h = absurd (cc)
passed_over (Some x) s before h = refl

pub taken_in : {X : Type 0} (o : Option X) (s before after : Bool) → is_some o ≡ false → after ≡ (s || before) → after ≡ ((is_none o && s) || before)
taken_in None s before after h e = e
taken_in (Some x) s before after h e = absurd (cc)

-- a message of the other kind is passed over, and one of this kind is as its envelope says
pub of_another_kind : (u s kind before : Bool) → kind ≡ false → before ≡ ((u && (s && kind)) || before)
of_another_kind true true true before h = absurd (cc)
of_another_kind true true false before h = refl
of_another_kind true false kind before h = refl
of_another_kind false s kind before h = refl

pub in_kind : (s kind before after : Bool) → kind ≡ true → after ≡ (s || before) → after ≡ ((s && kind) || before)
in_kind true true before after h e = e
in_kind false kind before after h e = e
in_kind true false before after h e = absurd (cc)

-- ---- cancelled messages

-- a fact that doesn't hang on the element
pub any_and : {X : Type 0} (f : X → Bool) (b : Bool) (xs : List X) → list_any (λ x. f x && b) xs ≡ (b && list_any f xs)
any_and f true [] = refl
any_and f false [] = refl
any_and f b (x ∷ xs) = ap (λ r. (f x && b) || r) (any_and f b xs) ∙ taken_out (f x) b (list_any f xs)
  where
    taken_out : (a b c : Bool) → ((a && b) || (b && c)) ≡ (b && (a || c))
    taken_out true true c = refl
    taken_out false true c = refl
    taken_out true false c = refl
    taken_out false false c = refl

-- one test or the other holds of some element
pub any_or : {X : Type 0} (f g h : X → Bool) → ((x : X) → (f x || g x) ≡ h x) → (xs : List X) → (list_any f xs || list_any g xs) ≡ list_any h xs
any_or f g h each [] = refl
any_or f g h each (x ∷ xs) =
    woven (f x) (g x) (list_any f xs) (list_any g xs) ∙ ap (λ b. b || (list_any f xs || list_any g xs)) (each x) ∙ ap (λ b. h x || b) (any_or f g h each xs)
  where
    woven : (a b c d : Bool) → ((a || c) || (b || d)) ≡ ((a || b) || (c || d))
    woven true b c d = refl
    woven false true true d = refl
    woven false true false d = refl
    woven false false c d = refl

-- all of them pass such a fact, or none does
pub all_pass : {X : Type 0} (f : X → Bool) (b : Bool) (xs : List X) → b ≡ true → list_any f xs ≡ list_any (λ x. f x && b) xs
all_pass f b xs h = sym (any_and f b xs ∙ ap (λ c. c && list_any f xs) h)

pub none_pass : {X : Type 0} (f : X → Bool) (b : Bool) (xs : List X) → b ≡ false → false ≡ list_any (λ x. f x && b) xs
none_pass f b xs h = sym (any_and f b xs ∙ ap (λ c. c && list_any f xs) h)

-- one of two tests
pub by_either : (a b f r : Bool) → (a || b) ≡ f → r ≡ a → r ≡ true → r ≡ f
by_either a b f r whole e h = h ∙ ap (λ c. c || b) (sym (sym e ∙ h)) ∙ whole

pub by_other : (a b f p r : Bool) → (a || b) ≡ f → p ≡ a → p ≡ false → r ≡ b → r ≡ f
by_other a b f p r whole e h k = k ∙ ap (λ c. c || b) (sym (sym e ∙ h)) ∙ whole

-- a message was cancelled or it was not
pub either_kind : (m : Message) (q : Receive) → (offers false m (pattern_of q) || offers true m (pattern_of q)) ≡ envelopes_fit m q
either_kind m q = either (envelopes_fit m q) (is_void m.trust)
  where
    either : (a v : Bool) → ((a && not v) || (a && v)) ≡ a
    either true true = refl
    either true false = refl
    either false v = refl
