-- Lists of places in rising order: two of the same places are one list, and one may stand behind another.
use Rattle.std.proofs.Common.{◌≡◌, ◌⊎◌, inl, inr, ℕ, List, [], ◌∷◌, ◌++◌, refl, sym, subst, arith}
use Rattle.std.specs.Prelude.{Contains, ◌↔◌}
use Rattle.std.specs.List.{AllByRecursion}
use Rattle.std.specs.List.Sorted.{IsStrictlySortedBy}
use Rattle.std.specs.declared.cmp.Ordering.TheVariants.{Less}
use Rattle.std.proofs.lemmas.Bool.Decides.{nat_tests}
use Rattle.std.proofs.lemmas.List.Elements.{Contains-append_cases, Contains-append_right, Contains-push_cases}
use Rattle.trace_know.specs.View.{place_cmp}

abbrev pub Place : Type 0
Place = ℕ × ℕ

abbrev pub Rise : List Place → Type 0
Rise xs = IsStrictlySortedBy place_cmp xs

nowhere : (x : Place) → Contains [] x → ⊥
nowhere x h = omega (arith, h.1)

here : (x : Place) (xs : List Place) → Contains (x ∷ xs) x
here x xs = (0, omega arith, refl)

there : (y x : Place) (xs : List Place) → Contains xs x → Contains (y ∷ xs) x
there y x xs h = Contains-append_right (y ∷ []) xs x h

split : (y x : Place) (xs : List Place) → Contains (y ∷ xs) x → (y ≡ x) ⊎ Contains xs x
split y x xs h = elim (Contains-append_cases (y ∷ []) xs x h) [
  | inl one ↦ elim (Contains-push_cases [] y x one) [ inl none ↦ absurd (nowhere x none) | inr is ↦ inl is ]
  | inr later ↦ inr later
]

all_of : (P : Place → Type 0) (xs : List Place) → ((x : Place) → Contains xs x → P x) → AllByRecursion P xs
all_of P [] h = tt
all_of P (x ∷ xs) h = (h x (here x xs), all_of P xs (λ y c. h y (there x y xs c)))

of_all : (P : Place → Type 0) (xs : List Place) (x : Place) → AllByRecursion P xs → Contains xs x → P x
of_all P [] x all c = absurd (nowhere x c)
of_all P (y ∷ xs) x all c = elim (split y x xs c) [ inl e ↦ subst P e all.0 | inr later ↦ of_all P xs x all.1 later ]

not_both : (r p s q : ℕ) → place_cmp (r, p) (s, q) ≡ Less → place_cmp (s, q) (r, p) ≡ Less → ⊥
not_both r p s q h k = grind (arith, nat_tests, h, k)

not_itself : (r p : ℕ) → place_cmp (r, p) (r, p) ≡ Less → ⊥
not_itself r p h = grind (arith, nat_tests, h)

-- ---- the one behind the other

pub behind : (xs ys : List Place) → Rise xs → Rise ys → ((x y : Place) → Contains xs x → Contains ys y → place_cmp x y ≡ Less) → Rise (xs ++ ys)
unfolding IsStrictlySortedBy
behind [] ys a b less = b
behind (x ∷ xs) ys a b less = (
  all_of (λ y. place_cmp x y ≡ Less) (xs ++ ys) (λ y c. elim (Contains-append_cases xs ys y c) [
    | inl own ↦ of_all (λ y. place_cmp x y ≡ Less) xs y a.0 own
    | inr later ↦ less x y (here x xs) later
  ]),
  behind xs ys a.1 b (λ z y c d. less z y (there x z xs c) d),
)

-- ---- the same places

abbrev pub Same : List Place → List Place → Type 0
Same xs ys = (x : Place) → Contains xs x ↔ Contains ys x

-- the first of two rising lists of the same places
same_first : (x y : Place) (xs ys : List Place) → AllByRecursion (λ z. place_cmp x z ≡ Less) xs → AllByRecursion (λ z. place_cmp y z ≡ Less) ys
    → Same (x ∷ xs) (y ∷ ys) → x ≡ y
same_first x y xs ys a b same = elim (split y x ys ((same x).0 (here x xs))) [
  | inl e ↦ sym e
  | inr below ↦ elim (split x y xs ((same y).1 (here y ys))) [
    | inl e ↦ e
    | inr above ↦ absurd (not_both x.0 x.1 y.0 y.1 (of_all (λ z. place_cmp x z ≡ Less) xs y a above) (of_all (λ z. place_cmp y z ≡ Less) ys x b below))
  ]
]

-- what stands behind the first of a rising list is not the first
later : (x y z : Place) (xs ys : List Place) → AllByRecursion (λ z. place_cmp x z ≡ Less) xs → x ≡ y → Contains xs z → Contains (y ∷ ys) z → Contains ys z
later x y z xs ys a e c d = elim (split y z ys d) [
  | inl is ↦ absurd (not_itself z.0 z.1 (subst (λ (w : Place). place_cmp w z ≡ Less) (e_to is) (of_all (λ z. place_cmp x z ≡ Less) xs z a c)))
  | inr behind ↦ behind
]
  where
    e_to : y ≡ z → x ≡ z
    e_to is = subst (λ (w : Place). x ≡ w) is e

pub one_list : (xs ys : List Place) → Rise xs → Rise ys → Same xs ys → xs ≡ ys
unfolding IsStrictlySortedBy
one_list [] [] a b same = refl
one_list [] (y ∷ ys) a b same = absurd (nowhere y ((same y).1 (here y ys)))
one_list (x ∷ xs) [] a b same = absurd (nowhere x ((same x).0 (here x xs)))
one_list (x ∷ xs) (y ∷ ys) a b same =
    let first = same_first x y xs ys a.0 b.0 same in
    let rest = one_list xs ys a.1 b.1 (λ z. (
      λ c. later x y z xs ys a.0 first c ((same z).0 (there x z xs c)),
      λ c. later y x z ys xs b.0 (sym first) c ((same z).1 (there y z ys c)),
    )) in
    λ i. first i ∷ rest i
