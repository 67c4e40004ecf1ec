-- Ranges, three numbers each.
use Rattle.std.proofs.Common.{◌≡◌, ◌≢◌, ◌∙◌, ◌<◌, ◌≤◌, ◌+◌, ℕ, ℤ, pos, suc, List, [], ◌∷◌, ◌++◌, Option, Some, None, option_map, drop, get_or, length, length-drop, ap, sym, refl, arith, append_assoc}
use Rattle.std.proofs.Math.Seq.{drop-cons}
use Rattle.comm_makings.specs.declared.calls.RankRange.{RankRange}
use Rattle.comm_calls.specs.Lists.{range_at, ranges_of}

-- three numbers, and what follows them
three : (ns : List ℤ) (at : ℕ) → at + 2 < length ns → drop at ns ≡ get_or ns at (pos 0) ∷ get_or ns (at + 1) (pos 0) ∷ get_or ns (at + 2) (pos 0) ∷ drop (at + 3) ns
three ns at h =
    let d : ℤ = pos 0 in
    let second : suc at ≡ at + 1 = omega arith in
    let third : suc (at + 1) ≡ at + 2 = omega arith in
    let next : suc (at + 2) ≡ at + 3 = omega arith in
    drop-cons ns at d (omega (arith, h))
    ∙ ap (λ (k : ℕ). get_or ns at d ∷ drop k ns) second
    ∙ ap (λ (l : List ℤ). get_or ns at d ∷ l) (drop-cons ns (at + 1) d (omega (arith, h)))
    ∙ ap (λ (k : ℕ). get_or ns at d ∷ get_or ns (at + 1) d ∷ drop k ns) third
    ∙ ap (λ (l : List ℤ). get_or ns at d ∷ get_or ns (at + 1) d ∷ l) (drop-cons ns (at + 2) d h)
    ∙ ap (λ (k : ℕ). get_or ns at d ∷ get_or ns (at + 1) d ∷ get_or ns (at + 2) d ∷ drop k ns) next

moved : (rs : List RankRange) (r : RankRange) (o : Option (List RankRange)) → option_map (λ (x : List RankRange). rs ++ x) (option_map (λ (x : List RankRange). r ∷ x) o) ≡ option_map (λ (x : List RankRange). (rs ++ r ∷ []) ++ x) o
moved rs r None = refl
moved rs r (Some x) = ap (λ (l : List RankRange). Some l) (sym (append_assoc rs (r ∷ []) x))

-- one range more
pub range_more : (ns : List ℤ) (at : ℕ) (old new : List RankRange) → at + 2 < length ns → new ≡ old ++ range_at ns at ∷ []
    → option_map (λ (x : List RankRange). old ++ x) (ranges_of (drop at ns)) ≡ ranges_of ns → option_map (λ (x : List RankRange). new ++ x) (ranges_of (drop (at + 3) ns)) ≡ ranges_of ns
range_more ns at old new h e inv =
    ap (λ (l : List RankRange). option_map (λ (x : List RankRange). l ++ x) (ranges_of (drop (at + 3) ns))) e
    ∙ sym (moved old (range_at ns at) (ranges_of (drop (at + 3) ns)))
    ∙ ap (λ (l : List ℤ). option_map (λ (x : List RankRange). old ++ x) (ranges_of l)) (sym (three ns at h))
    ∙ inv

-- one number or two are no range
few : (xs : List ℤ) → 0 < length xs → length xs ≤ 2 → ranges_of xs ≡ None
few [] h k = absurd (omega (arith, h))
few (a ∷ []) h k = refl
few (a ∷ b ∷ []) h k = refl
few (a ∷ b ∷ c ∷ xs) h k = absurd (omega (arith, k))

-- some are left
pub ranges_left : (ns : List ℤ) (at : ℕ) (rs : List RankRange) → at ≤ length ns → length ns ≤ at + 2 → at ≢ length ns
    → option_map (λ (x : List RankRange). rs ++ x) (ranges_of (drop at ns)) ≡ ranges_of ns → None ≡ ranges_of ns
ranges_left ns at rs h k apart inv =
    let len = length-drop at ns in
    ap (λ (o : Option (List RankRange)). option_map (λ (x : List RankRange). rs ++ x) o) (sym (few (drop at ns) (omega (arith, len, h, k, apart)) (omega (arith, len, h, k)))) ∙ inv
