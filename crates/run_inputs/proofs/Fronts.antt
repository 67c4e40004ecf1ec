-- The first bytes of a reader and of a file.
use Rattle.std.proofs.Common.{◌≡◌, ◌∙◌, ◌<◌, ◌≤◌, ◌-◌, ◌++◌, ℕ, zero, suc, List, [], ◌∷◌, Option, Some, None, ap, arith, length, length-take, min, refl, subst, sym, take}
use Rattle.std.specs.Io.KnownBytes.{Consumes, IsAtEnd, Keeps}
use Rattle.run_inputs.specs.Files.{IsLength, StandsAtFirst}
use Rattle.run_inputs.specs.Seen.{front_of}

-- so many bytes of those that were taken and of those that are left
take_given : (buffer rest : List ℕ) (taken limit given : ℕ) → taken ≤ length buffer → given ≡ min limit taken → take limit (take taken buffer ++ rest) ≡ take given buffer ++ take (limit - given) rest
take_given buffer rest zero limit given within is =
    let none : given ≡ 0 = grind (arith, is) in
    let all : limit - 0 ≡ limit = omega arith in
    ap (λ (k : ℕ). take k rest) (sym all) ∙ ap (λ (n : ℕ). take n buffer ++ take (limit - n) rest) (sym none)
take_given [] rest (suc taken) limit given within is = absurd (omega (arith, within))
take_given (byte ∷ buffer) rest (suc taken) zero given within is =
    let none : given ≡ 0 = grind (arith, is) in
    ap (λ (n : ℕ). take n (byte ∷ buffer) ++ take (0 - n) rest) (sym none)
take_given (byte ∷ buffer) rest (suc taken) (suc limit) given within is =
    let more : given ≡ suc (min limit taken) = grind (arith, is) in
    let less : suc limit - suc (min limit taken) ≡ limit - min limit taken = omega arith in
    ap (λ (l : List ℕ). byte ∷ l) (take_given buffer rest taken limit (min limit taken) (omega (arith, within)) refl)
    ∙ ap (λ (k : ℕ). byte ∷ take (min limit taken) buffer ++ take k rest) (sym less)
    ∙ ap (λ (n : ℕ). take n (byte ∷ buffer) ++ take (suc limit - n) rest) (sym more)

limit_consumes : (limit taken given : ℕ) (old new : Option (List ℕ)) (buffer : List ℕ) → taken ≤ length buffer → given ≡ min limit taken → Consumes old new (take taken buffer)
    → Consumes (front_of (Some limit) old) (front_of (Some (limit - given)) new) (take given buffer)
limit_consumes limit taken given None new buffer within is consumes = tt
limit_consumes limit taken given (Some bytes) None buffer within is consumes = absurd consumes
limit_consumes limit taken given (Some bytes) (Some rest) buffer within is consumes = ap (take limit) consumes ∙ take_given buffer rest taken limit given within is

nothing : (n : ℕ) → take {A = ℕ} n [] ≡ []
nothing zero = refl
nothing (suc n) = refl

front_end : (limit taken given : ℕ) (new : Option (List ℕ)) (room : ℕ) → given ≡ min limit taken → (taken ≡ 0 → 0 < room → IsAtEnd new) → given ≡ 0 → 0 < room → IsAtEnd (front_of (Some (limit - given)) new)
front_end limit taken given None room is end none some = tt
front_end zero taken given (Some rest) room is end none some =
    let over : 0 - given ≡ 0 = omega arith in ap (λ (n : ℕ). take n rest) over
front_end (suc limit) taken given (Some rest) room is end none some =
    let over : rest ≡ [] = end (grind (arith, is, none)) some in
    ap (λ (l : List ℕ). take (suc limit - given) l) over ∙ nothing (suc limit - given)

-- ---- a read of a front

pub front_consumes : (at : Option ℕ) (limit taken given left : ℕ) (old new : Option (List ℕ)) (buffer : List ℕ) → at ≡ Some limit → given ≡ min limit taken → left ≡ limit - given → taken ≤ length buffer
    → Consumes old new (take taken buffer) → Consumes (front_of at old) (front_of (Some left) new) (take given buffer)
front_consumes at limit taken given left old new buffer is most rest within consumes =
    subst (λ (a : Option ℕ). Consumes (front_of a old) (front_of (Some left) new) (take given buffer)) (sym is)
    (subst (λ (l : ℕ). Consumes (front_of (Some limit) old) (front_of (Some l) new) (take given buffer)) (sym rest) (limit_consumes limit taken given old new buffer within most consumes))

pub front_ends : (limit taken given left : ℕ) (new : Option (List ℕ)) (room : ℕ) → given ≡ min limit taken → left ≡ limit - given → (taken ≡ 0 → 0 < room → IsAtEnd new) → given ≡ 0 → 0 < room
    → IsAtEnd (front_of (Some left) new)
front_ends limit taken given left new room most rest end none some =
    subst (λ (l : ℕ). IsAtEnd (front_of (Some l) new)) (sym rest) (front_end limit taken given new room most end none some)

pub all_consumes : (before after : Option ℕ) (old new : Option (List ℕ)) (bytes : List ℕ) → before ≡ None → after ≡ None → Consumes old new bytes → Consumes (front_of before old) (front_of after new) bytes
all_consumes before after old new bytes is stays consumes =
    subst (λ (a : Option ℕ). Consumes (front_of a old) (front_of after new) bytes) (sym is) (subst (λ (a : Option ℕ). Consumes old (front_of a new) bytes) (sym stays) consumes)

pub all_ends : (after : Option ℕ) (new : Option (List ℕ)) → after ≡ None → IsAtEnd new → IsAtEnd (front_of after new)
all_ends after new stays end = subst (λ (a : Option ℕ). IsAtEnd (front_of a new)) (sym stays) end

pub front_keeps : (at : Option ℕ) (old new : Option (List ℕ)) → Keeps old new → Keeps (front_of at old) (front_of at new)
front_keeps None old new keeps = keeps
front_keeps (Some limit) None new keeps = tt
front_keeps (Some limit) (Some bytes) None keeps = absurd keeps
front_keeps (Some limit) (Some bytes) (Some rest) keeps = ap (take limit) keeps

-- ---- a file

stands_so : (limit : Option ℕ) (file left : Option (List ℕ)) → StandsAtFirst file left → StandsAtFirst (front_of limit file) (front_of limit left)
stands_so None file left stands = stands
stands_so (Some limit) None left stands = tt
stands_so (Some limit) (Some bytes) left stands = ap (front_of (Some limit)) stands

pub stands_there : (limit given : Option ℕ) (file left inner : Option (List ℕ)) → given ≡ limit → inner ≡ left → StandsAtFirst file left → StandsAtFirst (front_of limit file) (front_of given inner)
stands_there limit given file left inner is same stands =
    subst (λ (l : Option ℕ). StandsAtFirst (front_of limit file) (front_of l inner)) (sym is)
    (subst (λ (i : Option (List ℕ)). StandsAtFirst (front_of limit file) (front_of limit i)) (sym same) (stands_so limit file left stands))

front_length : (limit count : ℕ) (file : Option (List ℕ)) → IsLength file count → IsLength (front_of (Some limit) file) (min count limit)
front_length limit count None is = tt
front_length limit count (Some bytes) is = let long = length-take limit bytes in grind (arith, is, long)

pub length_of_front : (at : Option ℕ) (limit count least : ℕ) (file : Option (List ℕ)) → at ≡ Some limit → least ≡ min count limit → IsLength file count → IsLength (front_of at file) least
length_of_front at limit count least file is less long =
    subst (λ (a : Option ℕ). IsLength (front_of a file) least) (sym is) (subst (λ (n : ℕ). IsLength (front_of (Some limit) file) n) (sym less) (front_length limit count file long))

pub length_of_all : (at : Option ℕ) (count : ℕ) (file : Option (List ℕ)) → at ≡ None → IsLength file count → IsLength (front_of at file) count
length_of_all at count file is long = subst (λ (a : Option ℕ). IsLength (front_of a file) count) (sym is) long

pub front_none : (limit : Option ℕ) (file : Option (List ℕ)) → file ≡ None → front_of limit file ≡ None
front_none None file none = none
front_none (Some limit) file none = ap (front_of (Some limit)) none
