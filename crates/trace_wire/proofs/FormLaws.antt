-- What is read is spelled so, and what is spelled so is read, whatever follows.
use Rattle.std.proofs.Common.{◌≡◌, ℕ, zero, suc, ◌+◌, ◌^◌, ◌<◌, ◌≤◌, Bool, true, false, cond, ltb, eqb, List, [], ◌∷◌, ◌++◌, length, take, drop, Option, Some, None, refl, sym, ap, subst, ◌∙◌, append_assoc, arith, inl, inr, ◌⊎◌}
use Rattle.std.specs.List.{flat_map, All, AllByRecursion}
use Rattle.std.proofs.lemmas.List.Elements.{All-from_recursion, recursion_from_All}
use Rattle.std.specs.Int.{Width, w16, w32, w64, byte_len, from_be_bytes, to_be_bytes}
use Rattle.std.proofs.lemmas.Bool.{cases_lt, ltb-false, le-ltb}
use Rattle.std.proofs.lemmas.List.{take_at, drop_at, take-append-drop, length-append, length-take, get_or-drop, get_or-take, get_or_past}
use Rattle.std.proofs.lemmas.List.Concat.{flat_map-cons}
use Rattle.std.proofs.lemmas.Nat.{be_bytes_2, be_bytes_4, be_bytes_8, from_be_bytes-to_be_bytes_2, from_be_bytes-to_be_bytes_4, from_be_bytes-to_be_bytes_8}
use Rattle.std.proofs.lemmas.Bool.{eqb-true}
use Rattle.trace_wire.specs.Forms.{IsBytes, byte_at, byte, guarded, ◌>>=◌, Form, number_at, number, mapped, pair, items_at, list}

pub IsBytes-drop : (n : ℕ) (bytes : List ℕ) → IsBytes bytes → IsBytes (drop n bytes)
IsBytes-drop n bytes h i = rw get_or-drop (h (n + i))

pub IsBytes-take : (n : ℕ) (bytes : List ℕ) → IsBytes bytes → IsBytes (take n bytes)
IsBytes-take n bytes h i =
    elim (cases_lt i n) [
      | inl lt ↦ rw (get_or-take n bytes i 0 lt) (h i)
      | inr le ↦ rw (get_or_past (take n bytes) i 0 (omega (arith, length-take n bytes))) (omega arith)
    ]

-- the value of a step that did not fail
pub bind_some : {A B : Type 0} (r : Option A) (f : A → Option B) (y : B) → (r >>= f) ≡ Some y → (x : A) × (r ≡ Some x) × (f x ≡ Some y)
bind_some (Some x) f y e = (x, refl, e)
bind_some None f y e = absurd cc

-- a test that did not fail
pub guard_some : {A : Type 0} (b : Bool) (x y : A) → cond b None (Some x) ≡ Some y → (b ≡ false) × (x ≡ y)
guard_some true x y e = absurd cc
guard_some false x y e = (refl, cc)

pub some_is : {A : Type 0} (x y : A) → Some x ≡ Some y → x ≡ y
some_is x y e = cc

-- what a reader took from the front
pub record Takes (bytes text rest : List ℕ) : Type 0 where
  pub parts : bytes ≡ text ++ rest
  pub rest_fits : IsBytes rest

pub Takes-then : (a x b y c : List ℕ) → Takes a x b → Takes b y c → Takes a (x ++ y) c
Takes-then a x b y c p q = record { parts = p.parts ∙ ap (λ (t : List ℕ). x ++ t) q.parts ∙ sym (append_assoc x y c); rest_fits = q.rest_fits }

-- A form is read and spelled alike, over the values that fit it. What is spelled isn't too long for a length to be
-- written.
pub record IsForm {A : Type 0} (form : Form A) (Fits : A → Type 0) : Type 0 where
  pub takes : (bytes : List ℕ) (x : A × List ℕ) → IsBytes bytes → form.read bytes ≡ Some x → Takes bytes (form.spell x.0) x.1 × Fits x.0
  pub again : (a : A) (rest : List ℕ) → Fits a → length (form.spell a) < 2 ^ 32 → form.read (form.spell a ++ rest) ≡ Some (a, rest)

-- ---- numbers

pub record IsWide (w : Width) (limit : ℕ) : Type 0 where
  pub len : (n : ℕ) → length (to_be_bytes w n) ≡ byte_len w
  pub back : (bytes : List ℕ) → length bytes ≡ byte_len w → IsBytes bytes → to_be_bytes w (from_be_bytes w bytes) ≡ bytes
  pub again : (n : ℕ) → n < limit → from_be_bytes w (to_be_bytes w n) ≡ n
  pub below : (bytes : List ℕ) → IsBytes bytes → from_be_bytes w bytes < limit

pub wide16 : IsWide w16 (2 ^ 16)
wide16 = record {
  len = λ n. refl;
  back = λ bytes len fits. be_bytes_2 bytes _ len fits refl;
  again = λ n lt. from_be_bytes-to_be_bytes_2 n lt;
  below = λ bytes fits. omega (arith, fits 0, fits 1);
}

pub wide32 : IsWide w32 (2 ^ 32)
wide32 = record {
  len = λ n. refl;
  back = λ bytes len fits. be_bytes_4 bytes _ len fits refl;
  again = λ n lt. from_be_bytes-to_be_bytes_4 n lt;
  below = λ bytes fits. omega (arith, fits 0, fits 1, fits 2, fits 3);
}

pub wide64 : IsWide w64 (2 ^ 64)
wide64 = record {
  len = λ n. refl;
  back = λ bytes len fits. be_bytes_8 bytes _ len fits refl;
  again = λ n lt. from_be_bytes-to_be_bytes_8 n lt;
  below = λ bytes fits. omega (arith, fits 0, fits 1, fits 2, fits 3, fits 4, fits 5, fits 6, fits 7);
}

pub number_takes : (w : Width) (limit : ℕ) (wide : IsWide w limit) (bytes : List ℕ) (x : ℕ × List ℕ) → IsBytes bytes → number_at w bytes ≡ Some x → Takes bytes (to_be_bytes w x.0) x.1 × (x.0 < limit)
number_takes w limit wide bytes x fits e =
    let g = guard_some (ltb (length bytes) (byte_len w)) (from_be_bytes w (take (byte_len w) bytes), drop (byte_len w) bytes) x e in
    let long : byte_len w ≤ length bytes = ltb-false _ _ g.0 in
    let n-is : from_be_bytes w (take (byte_len w) bytes) ≡ x.0 = ap (λ (p : ℕ × List ℕ). p.0) g.1 in
    let rest-is : drop (byte_len w) bytes ≡ x.1 = ap (λ (p : ℕ × List ℕ). p.1) g.1 in
    let front : to_be_bytes w x.0 ≡ take (byte_len w) bytes = rw (← n-is) (wide.back (take (byte_len w) bytes) (omega (arith, length-take (byte_len w) bytes)) (IsBytes-take (byte_len w) bytes fits)) in
    (record { parts = rw (front, ← rest-is) (sym (take-append-drop (byte_len w) bytes)); rest_fits = rw (← rest-is) (IsBytes-drop (byte_len w) bytes fits) }, rw (← n-is) (wide.below (take (byte_len w) bytes) (IsBytes-take (byte_len w) bytes fits)))

pub number_again : (w : Width) (limit : ℕ) (wide : IsWide w limit) (n : ℕ) (rest : List ℕ) → n < limit → number_at w (to_be_bytes w n ++ rest) ≡ Some (n, rest)
number_again w limit wide n rest lt =
    let len = wide.len n in
    let long : ltb (length (to_be_bytes w n ++ rest)) (byte_len w) ≡ false = le-ltb _ _ (omega (arith, length-append (to_be_bytes w n) rest)) in
    rw (long, take_at (to_be_bytes w n) rest (byte_len w) len, drop_at (to_be_bytes w n) rest (byte_len w) len, wide.again n lt) refl

pub number_form : (w : Width) (limit : ℕ) (wide : IsWide w limit) → IsForm (number w) (λ n. n < limit)
number_form w limit wide = record {
  takes = λ bytes x fits e. number_takes w limit wide bytes x fits e;
  again = λ n rest lt short. number_again w limit wide n rest lt;
}

-- ---- some of another form's values

pub record IsCode {A B : Type 0} (code : B → A) (of : A → Option B) (FitsA : A → Type 0) (FitsB : B → Type 0) : Type 0 where
  pub back : (a : A) (b : B) → FitsA a → of a ≡ Some b → (code b ≡ a) × FitsB b
  pub again : (b : B) → FitsB b → of (code b) ≡ Some b
  pub fits : (b : B) → FitsB b → FitsA (code b)

pub mapped_form : {A B : Type 0} (form : Form A) (code : B → A) (of : A → Option B) (FitsA : A → Type 0) (FitsB : B → Type 0) → IsForm form FitsA → IsCode code of FitsA FitsB → IsForm (mapped form code of) FitsB
mapped_form {A} {B} form code of FitsA FitsB is codes = record {
  takes = λ bytes x fits e.
      let p = bind_some (form.read bytes) (λ y. of y.0 >>= λ z. Some (z, y.1)) x e in
      let q = bind_some (of p.0.0) (λ z. Some (z, p.0.1)) x p.2 in
      let t = is.takes bytes p.0 fits p.1 in
      let c = codes.back p.0.0 q.0 t.1 q.1 in
      let one : Takes bytes (form.spell (code q.0)) p.0.1 = subst (λ (a : A). Takes bytes (form.spell a) p.0.1) (sym c.0) t.0 in
      subst (λ (y : B × List ℕ). Takes bytes (form.spell (code y.0)) y.1 × FitsB y.0) (some_is (q.0, p.0.1) x q.2) (one, c.1);
  again = λ b rest fits short. rw (is.again (code b) rest (codes.fits b fits) short, codes.again b fits) refl;
}

-- ---- one form after another

pub pair_form : {A B : Type 0} (first : Form A) (second : Form B) (FitsA : A → Type 0) (FitsB : B → Type 0) → IsForm first FitsA → IsForm second FitsB → IsForm (pair first second) (λ x. FitsA x.0 × FitsB x.1)
pair_form {A} {B} first second FitsA FitsB one two = record {
  takes = λ bytes x fits e.
      let p = bind_some (first.read bytes) (λ y. second.read y.1 >>= λ z. Some ((y.0, z.0), z.1)) x e in
      let q = bind_some (second.read p.0.1) (λ z. Some ((p.0.0, z.0), z.1)) x p.2 in
      let s = one.takes bytes p.0 fits p.1 in
      let t = two.takes p.0.1 q.0 s.0.rest_fits q.1 in
      let both = Takes-then bytes (first.spell p.0.0) p.0.1 (second.spell q.0.0) q.0.1 s.0 t.0 in
      subst (λ (y : (A × B) × List ℕ). Takes bytes (first.spell y.0.0 ++ second.spell y.0.1) y.1 × (FitsA y.0.0 × FitsB y.0.1)) (some_is ((p.0.0, q.0.0), q.0.1) x q.2) (both, (s.1, t.1));
  again = λ x rest fits short.
      let here : length (first.spell x.0) < 2 ^ 32 = omega (arith, length-append (first.spell x.0) (second.spell x.1), short) in
      let there : length (second.spell x.1) < 2 ^ 32 = omega (arith, length-append (first.spell x.0) (second.spell x.1), short) in
      rw (append_assoc (first.spell x.0) (second.spell x.1) rest, one.again x.0 (second.spell x.1 ++ rest) fits.0 here, two.again x.1 rest fits.1 there) refl;
}

-- ---- lists

pub items_take : {A : Type 0} (form : Form A) (Fits : A → Type 0) → IsForm form Fits → (n : ℕ) (bytes : List ℕ) (x : List A × List ℕ) → IsBytes bytes → items_at form n bytes ≡ Some x → Takes bytes (flat_map form.spell x.0) x.1 × ((length x.0 ≡ n) × AllByRecursion Fits x.0)
unfolding items_at
items_take {A} form Fits is zero bytes x fits e =
    subst (λ (y : List A × List ℕ). Takes bytes (flat_map form.spell y.0) y.1 × ((length y.0 ≡ 0) × AllByRecursion Fits y.0)) (some_is ([], bytes) x e) (record { parts = refl; rest_fits = fits }, (refl, tt))
items_take {A} form Fits is (suc n) bytes x fits e =
    let a = bind_some (form.read bytes) (λ first. items_at form n first.1 >>= λ others. Some (first.0 ∷ others.0, others.1)) x e in
    let b = bind_some (items_at form n a.0.1) (λ others. Some (a.0.0 ∷ others.0, others.1)) x a.2 in
    let first = is.takes bytes a.0 fits a.1 in
    let second = items_take form Fits is n a.0.1 b.0 first.0.rest_fits b.1 in
    let both = Takes-then bytes (form.spell a.0.0) a.0.1 (flat_map form.spell b.0.0) b.0.1 first.0 second.0 in
    let made : List A × List ℕ = (a.0.0 ∷ b.0.0, b.0.1) in
    subst (λ (y : List A × List ℕ). Takes bytes (flat_map form.spell y.0) y.1 × ((length y.0 ≡ suc n) × AllByRecursion Fits y.0)) (some_is made x b.2) (rw flat_map-cons both, (ap suc second.1.0, (first.1, second.1.1)))

pub items_again : {A : Type 0} (form : Form A) (Fits : A → Type 0) → IsForm form Fits → (xs : List A) (rest : List ℕ) → AllByRecursion Fits xs → length (flat_map form.spell xs) < 2 ^ 32 → items_at form (length xs) (flat_map form.spell xs ++ rest) ≡ Some (xs, rest)
unfolding items_at
items_again form Fits is [] rest fits short = refl
items_again form Fits is (x ∷ xs) rest fits short =
    let parts : flat_map form.spell (x ∷ xs) ≡ form.spell x ++ flat_map form.spell xs = flat_map-cons form.spell x xs in
    let len : length (flat_map form.spell (x ∷ xs)) ≡ length (form.spell x) + length (flat_map form.spell xs) = ap length parts ∙ length-append (form.spell x) (flat_map form.spell xs) in
    let here : length (form.spell x) < 2 ^ 32 = omega (arith, len, short) in
    let there : length (flat_map form.spell xs) < 2 ^ 32 = omega (arith, len, short) in
    let regrouped : flat_map form.spell (x ∷ xs) ++ rest ≡ form.spell x ++ (flat_map form.spell xs ++ rest) = ap (λ (t : List ℕ). t ++ rest) parts ∙ append_assoc (form.spell x) (flat_map form.spell xs) rest in
    ap (items_at form (suc (length xs))) regrouped ∙ rw (is.again x (flat_map form.spell xs ++ rest) fits.0 here, items_again form Fits is xs rest fits.1 there) refl

-- a list of items that each take a byte is no longer than its spelling
pub items_short : {A : Type 0} (spell : A → List ℕ) → ((a : A) → 0 < length (spell a)) → (xs : List A) → length xs ≤ length (flat_map spell xs)
items_short spell some [] = omega arith
items_short spell some (x ∷ xs) =
    let len : length (flat_map spell (x ∷ xs)) ≡ length (spell x) + length (flat_map spell xs) = ap length (flat_map-cons spell x xs) ∙ length-append (spell x) (flat_map spell xs) in
    let one = some x in
    let others = items_short spell some xs in
    let k : suc (length xs) ≤ length (flat_map spell (x ∷ xs)) = omega (arith, len, one, others) in
    k

pub list_form : {A : Type 0} (form : Form A) (Fits : A → Type 0) → IsForm form Fits → ((a : A) → 0 < length (form.spell a)) → IsForm (list form) (All Fits)
list_form {A} form Fits is some = record {
  takes = λ bytes x fits e.
      let p = bind_some (number_at w32 bytes) (λ n. items_at form n.0 n.1) x e in
      let s = number_takes w32 (2 ^ 32) wide32 bytes p.0 fits p.1 in
      let t = items_take form Fits is p.0.0 p.0.1 x s.0.rest_fits p.2 in
      let both = Takes-then bytes (to_be_bytes w32 p.0.0) p.0.1 (flat_map form.spell x.0) x.1 s.0 t.0 in
      (subst (λ (n : ℕ). Takes bytes (to_be_bytes w32 n ++ flat_map form.spell x.0) x.1) (sym t.1.0) both, All-from_recursion Fits x.0 t.1.1);
  again = λ xs rest fits short.
      let len = length-append (to_be_bytes w32 (length xs)) (flat_map form.spell xs) in
      let there : length (flat_map form.spell xs) < 2 ^ 32 = omega (arith, len, short) in
      let count : length xs < 2 ^ 32 = omega (arith, items_short form.spell some xs, there) in
      rw (append_assoc (to_be_bytes w32 (length xs)) (flat_map form.spell xs) rest, number_again w32 (2 ^ 32) wide32 (length xs) (flat_map form.spell xs ++ rest) count, items_again form Fits is xs rest (recursion_from_All Fits xs fits) there) refl;
}

-- ---- one byte

pub IsBytes-rest : (b : ℕ) (bytes : List ℕ) → IsBytes (b ∷ bytes) → IsBytes bytes
IsBytes-rest b bytes h i = h (suc i)

byte_takes : (bytes : List ℕ) (x : ℕ × List ℕ) → IsBytes bytes → byte_at bytes ≡ Some x → Takes bytes (x.0 ∷ []) x.1 × (x.0 < 256)
byte_takes [] x fits e = absurd cc
byte_takes (b ∷ bytes) x fits e = subst (λ (y : ℕ × List ℕ). Takes (b ∷ bytes) (y.0 ∷ []) y.1 × (y.0 < 256)) (some_is (b, bytes) x e) (record { parts = refl; rest_fits = IsBytes-rest b bytes fits }, fits 0)

pub byte_form : IsForm byte (λ n. n < 256)
byte_form = record { takes = byte_takes; again = λ n rest lt short. refl }

-- ---- values that pass a test

-- which way a test went
pub chosen : {A : Type 0} (b : Bool) (x y z : A) → cond b x y ≡ z → ((b ≡ true) × (x ≡ z)) ⊎ ((b ≡ false) × (y ≡ z))
chosen true x y z e = inl (refl, e)
chosen false x y z e = inr (refl, e)

-- one more case of a chain of codes
pub choose : {A : Type 0} (P : ℕ → Type 0) (n k : ℕ) (x r : Option A) (y : A) → cond (eqb n k) x r ≡ Some y → (x ≡ Some y → P k) → (r ≡ Some y → P n) → P n
choose P n k x r y e one other = elim (chosen (eqb n k) x r (Some y) e) [
  | inl p ↦ subst P (sym (eqb-true n k p.0)) (one p.1)
  | inr p ↦ other p.1
]

pub no_value : {A : Type 0} (P : Type 0) (y : A) → None ≡ Some y → P
no_value P y e = absurd cc

passes : {A : Type 0} (test : A → Bool) (a b : A) → cond (test a) (Some a) None ≡ Some b → (b ≡ a) × (test b ≡ true)
passes test a b e = elim (chosen (test a) (Some a) None (Some b) e) [
  | inl p ↦ (sym (some_is a b p.1), subst (λ c. test c ≡ true) (some_is a b p.1) p.0)
  | inr p ↦ no_value _ b p.1
]

pub guarded_form : {A : Type 0} (form : Form A) (test : A → Bool) (Fits : A → Type 0) → IsForm form Fits → IsForm (guarded form test) (λ a. Fits a × (test a ≡ true))
guarded_form {A} form test Fits is = mapped_form form (λ a. a) (λ a. cond (test a) (Some a) None) Fits (λ a. Fits a × (test a ≡ true)) is (record {
  back = λ a b fits e. let p = passes test a b e in (p.0, (subst Fits (sym p.0) fits, p.1));
  again = λ b fits. rw fits.1 refl;
  fits = λ b fits. fits.0;
})

-- the same form with other words for what fits
pub refit : {A : Type 0} (form : Form A) (FitsA FitsB : A → Type 0) → ((a : A) → FitsA a → FitsB a) → ((a : A) → FitsB a → FitsA a) → IsForm form FitsA → IsForm form FitsB
refit form FitsA FitsB there here is = record {
  takes = λ bytes x fits e. let t = is.takes bytes x fits e in (t.0, there x.0 t.1);
  again = λ a rest fits short. is.again a rest (here a fits) short;
}

-- a record, read as its fields
pub record_form : {A B : Type 0} (form : Form A) (code : B → A) (of : A → B) (FitsA : A → Type 0) (FitsB : B → Type 0) → ((a : A) → code (of a) ≡ a) → ((b : B) → of (code b) ≡ b) → ((a : A) → FitsA a → FitsB (of a)) → ((b : B) → FitsB b → FitsA (code b)) → IsForm form FitsA → IsForm (mapped form code (λ a. Some (of a))) FitsB
record_form {A} {B} form code of FitsA FitsB left right there here is = mapped_form form code (λ a. Some (of a)) FitsA FitsB is (record {
  back = λ a b fits e. let k = some_is (of a) b e in subst (λ (c : B). (code c ≡ a) × FitsB c) k (left a, there a fits);
  again = λ b fits. ap (λ (c : B). Some c) (right b);
  fits = here;
})
