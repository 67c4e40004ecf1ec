-- The number of eight digits, by the bytes that they stand in.
use Rattle.std.proofs.Common.{◌≡◌, ℕ, zero, suc, ◌+◌, ◌-◌, ◌*◌, ◌/◌, ◌%◌, ◌<◌, ◌≤◌, true, List, [], ◌∷◌, length, get_or, drop, take, refl, sym, ap, ◌∙◌, arith}
use Rattle.std.specs.Int.{from_le_bytes, w64}
use Rattle.std.specs.List.{list_all}
use Rattle.std.specs.Prelude.{bit_and}
use Rattle.std.proofs.lemmas.Nat.{and_block, and_mask}
use Rattle.std.proofs.lemmas.List.{take_all}
use Rattle.dumpi_text.specs.EightAtOnce.{eight_of, fours_of, pairs_of}
use Rattle.dumpi_text.specs.Time.{is_digit, number_of}
use Rattle.dumpi_text.proofs.Numbers.{digit_is}
use Rattle.dumpi_text.proofs.QuickTime.{number_more}
use Rattle.dumpi_text.proofs.Splits.{first_passes, rest_passes}

-- ---- lanes

-- the low byte of sixteen bits, and the low half of 32
low_byte : (v high low : ℕ) → low < 256 → v ≡ high * 256 + low → bit_and v 255 ≡ low
low_byte v high low small is = let rest : v % 256 ≡ low = omega arith in and_mask v 8 ∙ rest

low_half : (v high low : ℕ) → low < 65536 → v ≡ high * 65536 + low → bit_and v 65535 ≡ low
low_half v high low small is = let rest : v % 65536 ≡ low = omega arith in and_mask v 16 ∙ rest

low_word : (v high low : ℕ) → low < 4294967296 → v ≡ high * 4294967296 + low → bit_and v 4294967295 ≡ low
low_word v high low small is = let rest : v % 4294967296 ≡ low = omega arith in and_mask v 32 ∙ rest

two_lanes : (v0 v1 : ℕ) → v0 < 4294967296 → bit_and (v1 * 4294967296 + v0) 281470681808895 ≡ bit_and v1 65535 * 4294967296 + bit_and v0 65535
two_lanes v0 v1 small = and_block 32 v1 65535 v0 65535 small (omega arith)

four_lanes : (v0 v1 v2 v3 : ℕ) → v0 < 65536 → v1 < 65536 → v2 < 65536
    → bit_and (((v3 * 65536 + v2) * 65536 + v1) * 65536 + v0) 71777214294589695 ≡ ((bit_and v3 255 * 65536 + bit_and v2 255) * 65536 + bit_and v1 255) * 65536 + bit_and v0 255
four_lanes v0 v1 v2 v3 s0 s1 s2 =
    and_block 16 ((v3 * 65536 + v2) * 65536 + v1) 1095233372415 v0 255 s0 (omega arith)
    ∙ ap (λ (n : ℕ). n * 65536 + bit_and v0 255) (and_block 16 (v3 * 65536 + v2) 16711935 v1 255 s1 (omega arith))
    ∙ ap (λ (n : ℕ). (n * 65536 + bit_and v1 255) * 65536 + bit_and v0 255) (and_block 16 v3 255 v2 255 s2 (omega arith))

-- ---- by the values of the digits

module _ (a b c d e f g h : ℕ) (a9 : a ≤ 9) (b9 : b ≤ 9) (c9 : c ≤ 9) (d9 : d ≤ 9) (e9 : e ≤ 9) (f9 : f ≤ 9) (g9 : g ≤ 9) (h9 : h ≤ 9) where
  abbrev values : ℕ
  values = a + b * 256 + c * 65536 + d * 16777216 + e * 4294967296 + f * 1099511627776 + g * 281474976710656 + h * 72057594037927936

  abbrev four_pairs : ℕ
  four_pairs = (((10 * g + h) * 65536 + (10 * e + f)) * 65536 + (10 * c + d)) * 65536 + (10 * a + b)

  abbrev two_fours : ℕ
  two_fours = (1000 * e + 100 * f + 10 * g + h) * 4294967296 + (1000 * a + 100 * b + 10 * c + d)

  pairs_are : (x : ℕ) → x ≡ values → pairs_of x ≡ four_pairs
  pairs_are x is =
      let next : x / 256 ≡ b + c * 256 + d * 65536 + e * 16777216 + f * 4294967296 + g * 1099511627776 + h * 281474976710656 = omega arith in
      let v0 : ℕ = (10 * b + c) * 256 + (10 * a + b) in
      let v1 : ℕ = (10 * d + e) * 256 + (10 * c + d) in
      let v2 : ℕ = (10 * f + g) * 256 + (10 * e + f) in
      let v3 : ℕ = 10 * h * 256 + (10 * g + h) in
      let whole : 10 * x + x / 256 ≡ ((v3 * 65536 + v2) * 65536 + v1) * 65536 + v0 = omega (arith, is, next) in
      let l0 : bit_and v0 255 ≡ 10 * a + b = low_byte v0 (10 * b + c) (10 * a + b) (omega arith) refl in
      let l1 : bit_and v1 255 ≡ 10 * c + d = low_byte v1 (10 * d + e) (10 * c + d) (omega arith) refl in
      let l2 : bit_and v2 255 ≡ 10 * e + f = low_byte v2 (10 * f + g) (10 * e + f) (omega arith) refl in
      let l3 : bit_and v3 255 ≡ 10 * g + h = low_byte v3 (10 * h) (10 * g + h) (omega arith) refl in
      ap (λ (n : ℕ). bit_and n 71777214294589695) whole ∙ four_lanes v0 v1 v2 v3 (omega arith) (omega arith) (omega arith)
      ∙ ap (λ (n : ℕ). ((n * 65536 + bit_and v2 255) * 65536 + bit_and v1 255) * 65536 + bit_and v0 255) l3
      ∙ ap (λ (n : ℕ). (((10 * g + h) * 65536 + n) * 65536 + bit_and v1 255) * 65536 + bit_and v0 255) l2
      ∙ ap (λ (n : ℕ). (((10 * g + h) * 65536 + (10 * e + f)) * 65536 + n) * 65536 + bit_and v0 255) l1
      ∙ ap (λ (n : ℕ). (((10 * g + h) * 65536 + (10 * e + f)) * 65536 + (10 * c + d)) * 65536 + n) l0

  fours_are : (y : ℕ) → y ≡ four_pairs → fours_of y ≡ two_fours
  fours_are y is =
      let next : y / 65536 ≡ ((10 * g + h) * 65536 + (10 * e + f)) * 65536 + (10 * c + d) = omega arith in
      let w0 : ℕ = (1000 * c + 100 * d + 10 * e + f) * 65536 + (1000 * a + 100 * b + 10 * c + d) in
      let w1 : ℕ = (1000 * g + 100 * h) * 65536 + (1000 * e + 100 * f + 10 * g + h) in
      let whole : 100 * y + y / 65536 ≡ w1 * 4294967296 + w0 = omega (arith, is, next) in
      let l0 : bit_and w0 65535 ≡ 1000 * a + 100 * b + 10 * c + d = low_half w0 (1000 * c + 100 * d + 10 * e + f) (1000 * a + 100 * b + 10 * c + d) (omega arith) refl in
      let l1 : bit_and w1 65535 ≡ 1000 * e + 100 * f + 10 * g + h = low_half w1 (1000 * g + 100 * h) (1000 * e + 100 * f + 10 * g + h) (omega arith) refl in
      ap (λ (n : ℕ). bit_and n 281470681808895) whole ∙ two_lanes w0 w1 (omega arith)
      ∙ ap (λ (n : ℕ). n * 4294967296 + bit_and w0 65535) l1
      ∙ ap (λ (n : ℕ). (1000 * e + 100 * f + 10 * g + h) * 4294967296 + n) l0

  abbrev spelled : ℕ
  spelled = 10000000 * a + 1000000 * b + 100000 * c + 10000 * d + 1000 * e + 100 * f + 10 * g + h

  eight_is : (z : ℕ) → z ≡ two_fours → eight_of z ≡ spelled
  eight_is z is =
      let next : z / 4294967296 ≡ 1000 * e + 100 * f + 10 * g + h = omega arith in
      let high : ℕ = 10000 * (1000 * e + 100 * f + 10 * g + h) in
      let whole : 10000 * z + z / 4294967296 ≡ high * 4294967296 + spelled = omega (arith, is, next) in
      low_word (10000 * z + z / 4294967296) high spelled (omega arith) whole

  values_small : values ≤ 651061555542690057
  values_small = omega arith

  pairs_small : four_pairs ≤ 27866447902605411
  pairs_small = omega arith

  fours_small : two_fours ≤ 42945378002703
  fours_small = omega arith

  spelled_small : spelled < 100000000
  spelled_small = omega arith

-- ---- by the digits

-- eight bytes, each 48 above a value
bytes_are : (a b c d e f g h p q r s t u v w word : ℕ) → p ≡ a + 48 → q ≡ b + 48 → r ≡ c + 48 → s ≡ d + 48 → t ≡ e + 48 → u ≡ f + 48 → v ≡ g + 48 → w ≡ h + 48
    → word ≡ p + q * 256 + r * 65536 + s * 16777216 + t * 4294967296 + u * 1099511627776 + v * 281474976710656 + w * 72057594037927936
    → word ≡ a + b * 256 + c * 65536 + d * 16777216 + e * 4294967296 + f * 1099511627776 + g * 281474976710656 + h * 72057594037927936 + 3472328296227680304
bytes_are a b c d e f g h p q r s t u v w word p_is q_is r_is s_is t_is u_is v_is w_is is = omega arith

-- one digit after the other
one_by_one : (a b c d e f g h : ℕ) → 10 * (10 * (10 * (10 * (10 * (10 * (10 * (10 * 0 + a) + b) + c) + d) + e) + f) + g) + h ≡ 10000000 * a + 1000000 * b + 100000 * c + 10000 * d + 1000 * e + 100 * f + 10 * g + h
one_by_one a b c d e f g h = omega arith

-- What eight digits are: their values, of which their bytes are made, and their number.
record AreEight (digits : List ℕ) (word : ℕ) : Type 0 where
  a : ℕ
  b : ℕ
  c : ℕ
  d : ℕ
  e : ℕ
  f : ℕ
  g : ℕ
  h : ℕ
  a9 : a ≤ 9
  b9 : b ≤ 9
  c9 : c ≤ 9
  d9 : d ≤ 9
  e9 : e ≤ 9
  f9 : f ≤ 9
  g9 : g ≤ 9
  h9 : h ≤ 9
  sum : word ≡ values a b c d e f g h a9 b9 c9 d9 e9 f9 g9 h9 + 3472328296227680304
  number : number_of digits ≡ spelled a b c d e f g h a9 b9 c9 d9 e9 f9 g9 h9

value_small : (b : ℕ) → is_digit b ≡ true → (b ≡ b - 48 + 48) × (b - 48 ≤ 9)
value_small b digit =
    let bounds = digit_is (b ∷ []) 0 (rw digit refl) (omega arith) in
    let low : 48 ≤ b = bounds.0 in
    let high : b ≤ 57 = bounds.1 in
    (omega (arith, low), omega (arith, low, high))

are_eight : (digits : List ℕ) (word : ℕ) → length digits ≡ 8 → list_all is_digit digits ≡ true → word ≡ from_le_bytes w64 digits → AreEight digits word
are_eight [] word long all is = absurd (omega arith)
are_eight (p ∷ []) word long all is = absurd (omega arith)
are_eight (p ∷ q ∷ []) word long all is = absurd (omega arith)
are_eight (p ∷ q ∷ r ∷ []) word long all is = absurd (omega arith)
are_eight (p ∷ q ∷ r ∷ s ∷ []) word long all is = absurd (omega arith)
are_eight (p ∷ q ∷ r ∷ s ∷ t ∷ []) word long all is = absurd (omega arith)
are_eight (p ∷ q ∷ r ∷ s ∷ t ∷ u ∷ []) word long all is = absurd (omega arith)
are_eight (p ∷ q ∷ r ∷ s ∷ t ∷ u ∷ v ∷ []) word long all is = absurd (omega arith)
are_eight (p ∷ q ∷ r ∷ s ∷ t ∷ u ∷ v ∷ w ∷ x ∷ xs) word long all is = absurd (omega arith)
are_eight (p ∷ q ∷ r ∷ s ∷ t ∷ u ∷ v ∷ w ∷ []) word long all is =
    let all1 = rest_passes is_digit p (q ∷ r ∷ s ∷ t ∷ u ∷ v ∷ w ∷ []) all in
    let all2 = rest_passes is_digit q (r ∷ s ∷ t ∷ u ∷ v ∷ w ∷ []) all1 in
    let all3 = rest_passes is_digit r (s ∷ t ∷ u ∷ v ∷ w ∷ []) all2 in
    let all4 = rest_passes is_digit s (t ∷ u ∷ v ∷ w ∷ []) all3 in
    let all5 = rest_passes is_digit t (u ∷ v ∷ w ∷ []) all4 in
    let all6 = rest_passes is_digit u (v ∷ w ∷ []) all5 in
    let all7 = rest_passes is_digit v (w ∷ []) all6 in
    let dp = value_small p (first_passes is_digit p (q ∷ r ∷ s ∷ t ∷ u ∷ v ∷ w ∷ []) all) in
    let dq = value_small q (first_passes is_digit q (r ∷ s ∷ t ∷ u ∷ v ∷ w ∷ []) all1) in
    let dr = value_small r (first_passes is_digit r (s ∷ t ∷ u ∷ v ∷ w ∷ []) all2) in
    let ds = value_small s (first_passes is_digit s (t ∷ u ∷ v ∷ w ∷ []) all3) in
    let dt = value_small t (first_passes is_digit t (u ∷ v ∷ w ∷ []) all4) in
    let du = value_small u (first_passes is_digit u (v ∷ w ∷ []) all5) in
    let dv = value_small v (first_passes is_digit v (w ∷ []) all6) in
    let dw = value_small w (first_passes is_digit w [] all7) in
    let bytes : word ≡ p + q * 256 + r * 65536 + s * 16777216 + t * 4294967296 + u * 1099511627776 + v * 281474976710656 + w * 72057594037927936 = is in
    record {
      a = p - 48;
      b = q - 48;
      c = r - 48;
      d = s - 48;
      e = t - 48;
      f = u - 48;
      g = v - 48;
      h = w - 48;
      a9 = dp.1;
      b9 = dq.1;
      c9 = dr.1;
      d9 = ds.1;
      e9 = dt.1;
      f9 = du.1;
      g9 = dv.1;
      h9 = dw.1;
      sum = bytes_are (p - 48) (q - 48) (r - 48) (s - 48) (t - 48) (u - 48) (v - 48) (w - 48) p q r s t u v w word dp.0 dq.0 dr.0 ds.0 dt.0 du.0 dv.0 dw.0 bytes;
      number = one_by_one (p - 48) (q - 48) (r - 48) (s - 48) (t - 48) (u - 48) (v - 48) (w - 48);
    }

-- the values, without what the bytes are above them
less_zeros : (word rest : ℕ) → word ≡ rest + 3472328296227680304 → (3472328296227680304 ≤ word) × (word - 3472328296227680304 ≡ rest)
less_zeros word rest is = (omega arith, omega arith)

-- the eight bytes of a text of eight are the text
word_of : (digits : List ℕ) (word : ℕ) → length digits ≡ 8 → word ≡ from_le_bytes w64 (take 8 (drop 0 digits)) → word ≡ from_le_bytes w64 digits
word_of digits word long is = is ∙ ap (λ (t : List ℕ). from_le_bytes w64 t) (take_all 8 digits (omega arith))

pub no_less : (digits : List ℕ) (word : ℕ) → length digits ≡ 8 → list_all is_digit digits ≡ true → word ≡ from_le_bytes w64 (take 8 (drop 0 digits)) → 3472328296227680304 ≤ word
no_less digits word long all is =
    let x = are_eight digits word long all (word_of digits word long is) in
    (less_zeros word (values x.a x.b x.c x.d x.e x.f x.g x.h x.a9 x.b9 x.c9 x.d9 x.e9 x.f9 x.g9 x.h9) x.sum).0

pub values_fit : (digits : List ℕ) (word : ℕ) → length digits ≡ 8 → list_all is_digit digits ≡ true → word ≡ from_le_bytes w64 (take 8 (drop 0 digits)) → word - 3472328296227680304 ≤ 651061555542690057
values_fit digits word long all is =
    let x = are_eight digits word long all (word_of digits word long is) in
    let less : word - 3472328296227680304 ≡ values x.a x.b x.c x.d x.e x.f x.g x.h x.a9 x.b9 x.c9 x.d9 x.e9 x.f9 x.g9 x.h9 = (less_zeros word (values x.a x.b x.c x.d x.e x.f x.g x.h x.a9 x.b9 x.c9 x.d9 x.e9 x.f9 x.g9 x.h9) x.sum).1 in
    omega (arith, less, values_small x.a x.b x.c x.d x.e x.f x.g x.h x.a9 x.b9 x.c9 x.d9 x.e9 x.f9 x.g9 x.h9)

module _ (digits : List ℕ) (word : ℕ) (long : length digits ≡ 8) (all : list_all is_digit digits ≡ true) (is : word ≡ from_le_bytes w64 (take 8 (drop 0 digits))) where
  abbrev their : AreEight digits word
  their = are_eight digits word long all (word_of digits word long is)

  less : word - 3472328296227680304 ≡ values their.a their.b their.c their.d their.e their.f their.g their.h their.a9 their.b9 their.c9 their.d9 their.e9 their.f9 their.g9 their.h9
  less = (less_zeros word (values their.a their.b their.c their.d their.e their.f their.g their.h their.a9 their.b9 their.c9 their.d9 their.e9 their.f9 their.g9 their.h9) their.sum).1

  paired : (pairs : ℕ) → pairs ≡ pairs_of (word - 3472328296227680304) → pairs ≡ four_pairs their.a their.b their.c their.d their.e their.f their.g their.h their.a9 their.b9 their.c9 their.d9 their.e9 their.f9 their.g9 their.h9
  paired pairs pairs_is =
      pairs_is ∙ pairs_are their.a their.b their.c their.d their.e their.f their.g their.h their.a9 their.b9 their.c9 their.d9 their.e9 their.f9 their.g9 their.h9 (word - 3472328296227680304) less

  halved : (pairs fours : ℕ) → pairs ≡ pairs_of (word - 3472328296227680304) → fours ≡ fours_of pairs
      → fours ≡ two_fours their.a their.b their.c their.d their.e their.f their.g their.h their.a9 their.b9 their.c9 their.d9 their.e9 their.f9 their.g9 their.h9
  halved pairs fours pairs_is fours_is =
      fours_is ∙ fours_are their.a their.b their.c their.d their.e their.f their.g their.h their.a9 their.b9 their.c9 their.d9 their.e9 their.f9 their.g9 their.h9 pairs (paired pairs pairs_is)

pub pairs_fit : (digits : List ℕ) (word pairs : ℕ) → length digits ≡ 8 → list_all is_digit digits ≡ true → word ≡ from_le_bytes w64 (take 8 (drop 0 digits)) → pairs ≡ pairs_of (word - 3472328296227680304) → pairs ≤ 27866447902605411
pairs_fit digits word pairs long all is pairs_is =
    let x = are_eight digits word long all (word_of digits word long is) in
    omega (arith, paired digits word long all is pairs pairs_is, pairs_small x.a x.b x.c x.d x.e x.f x.g x.h x.a9 x.b9 x.c9 x.d9 x.e9 x.f9 x.g9 x.h9)

pub fours_fit : (digits : List ℕ) (word pairs fours : ℕ) → length digits ≡ 8 → list_all is_digit digits ≡ true → word ≡ from_le_bytes w64 (take 8 (drop 0 digits)) → pairs ≡ pairs_of (word - 3472328296227680304) → fours ≡ fours_of pairs → fours ≤ 42945378002703
fours_fit digits word pairs fours long all is pairs_is fours_is =
    let x = are_eight digits word long all (word_of digits word long is) in
    omega (arith, halved digits word long all is pairs fours pairs_is fours_is, fours_small x.a x.b x.c x.d x.e x.f x.g x.h x.a9 x.b9 x.c9 x.d9 x.e9 x.f9 x.g9 x.h9)

pub eight_spelled : (digits : List ℕ) (word pairs fours result : ℕ) → length digits ≡ 8 → list_all is_digit digits ≡ true → word ≡ from_le_bytes w64 (take 8 (drop 0 digits)) → pairs ≡ pairs_of (word - 3472328296227680304) → fours ≡ fours_of pairs → result ≡ eight_of fours → result ≡ number_of digits
eight_spelled digits word pairs fours result long all is pairs_is fours_is result_is =
    let x = are_eight digits word long all (word_of digits word long is) in
    result_is ∙ eight_is x.a x.b x.c x.d x.e x.f x.g x.h x.a9 x.b9 x.c9 x.d9 x.e9 x.f9 x.g9 x.h9 fours (halved digits word long all is pairs fours pairs_is fours_is) ∙ sym x.number

pub eight_below : (digits : List ℕ) (word pairs fours result : ℕ) → length digits ≡ 8 → list_all is_digit digits ≡ true → word ≡ from_le_bytes w64 (take 8 (drop 0 digits)) → pairs ≡ pairs_of (word - 3472328296227680304) → fours ≡ fours_of pairs → result ≡ eight_of fours → result < 100000000
eight_below digits word pairs fours result long all is pairs_is fours_is result_is =
    let x = are_eight digits word long all (word_of digits word long is) in
    omega (arith, eight_spelled digits word pairs fours result long all is pairs_is fours_is result_is, x.number, spelled_small x.a x.b x.c x.d x.e x.f x.g x.h x.a9 x.b9 x.c9 x.d9 x.e9 x.f9 x.g9 x.h9)

-- ---- one digit more

pub front_digits : (digits : List ℕ) (count : ℕ) → list_all is_digit digits ≡ true → list_all is_digit (take count digits) ≡ true
front_digits digits zero all = refl
front_digits [] (suc count) all = refl
front_digits (d ∷ ds) (suc count) all = rw (first_passes is_digit d ds all) (front_digits ds count (rest_passes is_digit d ds all))

pub one_digit_more : (digits : List ℕ) (count front result : ℕ) → length digits ≡ count + 1 → front ≡ number_of (take count digits) → result ≡ 10 * front + (get_or digits count 0 - 48) → result ≡ number_of digits
one_digit_more digits count front result long front_is is =
    let more : number_of (take (count + 1) digits) ≡ 10 * number_of (take count digits) + (get_or digits count 0 - 48) = number_more 0 digits count (omega arith) in
    let whole : number_of (take (count + 1) digits) ≡ number_of digits = ap (λ (t : List ℕ). number_of t) (take_all (count + 1) digits (omega arith)) in
    is ∙ ap (λ (n : ℕ). 10 * n + (get_or digits count 0 - 48)) front_is ∙ sym more ∙ whole
