-- Parts that come twice may be left out.
use Rattle.std.proofs.Common.{Vec, Global, ◌≡◌, ℕ, zero, suc, ◌+◌, ◌<◌, Bool, true, false, ◌&&◌, ◌||◌, List, [], ◌∷◌, ◌++◌, Option, Some, None, length, take, get_or, refl, sym, ◌∙◌, ap, arith}
use Rattle.std.specs.Prelude.{slice_get, unwrap_or}
use Rattle.std.specs.Option.{option_map}
use Rattle.std.specs.List.{list_any, list_all}
use Rattle.std.specs.declared.sync.Arc.{Arc}
use Rattle.std.proofs.lemmas.List.{take_more}
use Rattle.std.proofs.lemmas.List.Folds.{list_all-append, list_any-append, list_all_more, list_any_more}
use Rattle.trace_ops.specs.declared.state.State.{State}
use Rattle.trace_stuck.specs.declared.condition.Condition.{Condition}
use Rattle.trace_stuck.specs.declared.condition.Condition.TheViews as views
use Rattle.trace_stuck.specs.Holds.{holds, may_go}
use Rattle.trace_stuck.specs.States.{is_free}
use Rattle.trace_stuck.specs.Release.{among, IsReleasedAfter, IsWhole}
use Rattle.trace_stuck.specs.Distinct.{HoldAlike, PartsHoldAlike, HasAlike, held, AllHoldAlike}
use Rattle.trace_stuck.proofs.Holds.{holds_All, holds_One, holds_OneRank, holds_AllRanks}
use Rattle.trace_stuck.proofs.Shapes.{map_push}

-- ---- one part

pub alike_ranks : (first second : Condition) (r s : ℕ) → first ≡ views.made-Rank r → second ≡ views.made-Rank s → r ≡ s → HoldAlike first second
alike_ranks first second r s f g e able = ap (holds able) (f ∙ ap (λ (x : ℕ). views.made-Rank x) e ∙ sym g)

pub alike_one : (first second : Condition) (ranks others : Arc (Vec ℕ Global) Global) → first ≡ views.made-OneRank ranks → second ≡ views.made-OneRank others → ranks.value.items ≡ others.value.items → HoldAlike first second
alike_one first second ranks others f g e able =
    ap (holds able) f ∙ holds_OneRank able ranks ∙ ap (list_any able) e ∙ sym (holds_OneRank able others) ∙ sym (ap (holds able) g)

pub alike_all : (first second : Condition) (ranks others : Arc (Vec ℕ Global) Global) → first ≡ views.made-AllRanks ranks → second ≡ views.made-AllRanks others → ranks.value.items ≡ others.value.items → HoldAlike first second
alike_all first second ranks others f g e able =
    ap (holds able) f ∙ holds_AllRanks able ranks ∙ ap (list_all able) e ∙ sym (holds_AllRanks able others) ∙ sym (ap (holds able) g)

pub alike_All : (condition : Condition) (kept parts : Vec Condition Global) → condition ≡ views.All parts → PartsHoldAlike kept.items parts.items → HoldAlike (views.All kept) condition
alike_All condition kept parts f h able = holds_All able kept ∙ (h able).0 ∙ sym (holds_All able parts) ∙ sym (ap (holds able) f)

pub alike_One : (condition : Condition) (kept parts : Vec Condition Global) → condition ≡ views.One parts → PartsHoldAlike kept.items parts.items → HoldAlike (views.One kept) condition
alike_One condition kept parts f h able = holds_One able kept ∙ (h able).1 ∙ sym (holds_One able parts) ∙ sym (ap (holds able) f)

-- ---- parts

and_end : (a : Bool) → a ≡ (a && true)
and_end true = refl
and_end false = refl

or_end : (a : Bool) → a ≡ (a || false)
or_end true = refl
or_end false = refl

and_first : (a l b : Bool) → a ≡ b → (a && l) ≡ ((a && l) && b)
and_first true true b e = e
and_first true false b e = refl
and_first false l b e = refl

and_later : (a l b : Bool) → l ≡ (l && b) → (a && l) ≡ ((a && l) && b)
and_later true l b h = h
and_later false l b h = refl

or_first : (a l b : Bool) → a ≡ b → (a || l) ≡ ((a || l) || b)
or_first true l b e = refl
or_first false true b e = refl
or_first false false b e = e

or_later : (a l b : Bool) → l ≡ (l || b) → (a || l) ≡ ((a || l) || b)
or_later true l b h = refl
or_later false l b h = h

module _ (p : Condition → Bool) where
  all_with : (kept : List Condition) (k : ℕ) (d : Condition) (b : Bool) → slice_get kept k ≡ Some d → p d ≡ b → list_all p kept ≡ (list_all p kept && b)
  all_with [] k d b at h = absurd (cc)
  all_with (x ∷ xs) zero d b at h = let e : x ≡ d = cc in and_first (p x) (list_all p xs) b (ap p e ∙ h)
  all_with (x ∷ xs) (suc k) d b at h = and_later (p x) (list_all p xs) b (all_with xs k d b at h)

  any_with : (kept : List Condition) (k : ℕ) (d : Condition) (b : Bool) → slice_get kept k ≡ Some d → p d ≡ b → list_any p kept ≡ (list_any p kept || b)
  any_with [] k d b at h = absurd (cc)
  any_with (x ∷ xs) zero d b at h = let e : x ≡ d = cc in or_first (p x) (list_any p xs) b (ap p e ∙ h)
  any_with (x ∷ xs) (suc k) d b at h = or_later (p x) (list_any p xs) b (any_with xs k d b at h)

-- a part that is kept needn't be added
pub kept_alike : (kept : List Condition) (c : Condition) → HasAlike kept c → PartsHoldAlike kept (kept ++ c ∷ [])
kept_alike kept c h able = (
  all_with (holds able) kept h.0 h.1 (holds able c && true) h.2 (h.3 able ∙ and_end (holds able c)) ∙ sym (list_all-append (holds able) kept (c ∷ [])),
  any_with (holds able) kept h.0 h.1 (holds able c || false) h.2 (h.3 able ∙ or_end (holds able c)) ∙ sym (list_any-append (holds able) kept (c ∷ [])),
)

pub equal_alike : (first second : List Condition) → first ≡ second → PartsHoldAlike first second
equal_alike first second e able = (ap (list_all (holds able)) e, ap (list_any (holds able)) e)

-- one part more
pub alike_more : (kept after parts : List Condition) (i : ℕ) (c d : Condition) → i < length parts → c ≡ get_or parts i c → HoldAlike d c →
    PartsHoldAlike after (kept ++ d ∷ []) → PartsHoldAlike kept (take i parts) → PartsHoldAlike after (take (i + 1) parts)
alike_more kept after parts i c d lt is h step before able = (
  (step able).0 ∙ list_all-append (holds able) kept (d ∷ []) ∙ ap (λ (b : Bool). b && (holds able d && true)) (before able).0
      ∙ ap (λ (b : Bool). list_all (holds able) (take i parts) && b) (sym (and_end (holds able d)) ∙ h able ∙ ap (holds able) is)
      ∙ sym (list_all_more (holds able) parts i c lt),
  (step able).1 ∙ list_any-append (holds able) kept (d ∷ []) ∙ ap (λ (b : Bool). b || (holds able d || false)) (before able).1
      ∙ ap (λ (b : Bool). list_any (holds able) (take i parts) || b) (sym (or_end (holds able d)) ∙ h able ∙ ap (holds able) is)
      ∙ sym (list_any_more (holds able) parts i c lt),
)

-- ---- the conditions of all ranks

pub held_more : (able : ℕ → Bool) (out pushed conditions : List (Option Condition)) (i : ℕ) (c d : Option Condition) → i < length conditions → c ≡ get_or conditions i c →
    option_map (holds able) d ≡ option_map (holds able) c → pushed ≡ out ++ d ∷ [] → held able out ≡ held able (take i conditions) → held able pushed ≡ held able (take (i + 1) conditions)
held_more able out pushed conditions i c d lt is h e before =
    ap (held able) e ∙ map_push (option_map (holds able)) out d ∙ ap (λ (l : List (Option Bool)). l ++ option_map (holds able) d ∷ []) before
    ∙ ap (λ (b : Option Bool). held able (take i conditions) ++ b ∷ []) (h ∙ ap (option_map (holds able)) is)
    ∙ sym (map_push (option_map (holds able)) (take i conditions) (get_or conditions i c)) ∙ sym (ap (held able) (take_more conditions i c lt))

pub some_alike : (able : ℕ → Bool) (copy told : Condition) (c : Option Condition) → c ≡ Some told → holds able copy ≡ holds able told → option_map (holds able) (Some copy) ≡ option_map (holds able) c
some_alike able copy told c is h = ap (λ (b : Bool). Some b) h ∙ sym (ap (option_map (holds able)) is)

goes_first : (able : ℕ → Bool) (c : Option Condition) (conditions : List (Option Condition)) → may_go (c ∷ conditions) able zero ≡ unwrap_or (option_map (holds able) c) false
goes_first able None conditions = refl
goes_first able (Some c) conditions = refl

-- a rank may go by its condition where it may go by one that holds alike
pub go_alike : (able : ℕ → Bool) (first second : List (Option Condition)) (r : ℕ) → held able first ≡ held able second → may_go first able r ≡ may_go second able r
go_alike able [] [] r h = refl
go_alike able [] (d ∷ ds) r h = absurd (cc)
go_alike able (c ∷ cs) [] r h = absurd (cc)
go_alike able (c ∷ cs) (d ∷ ds) zero h =
    let e : option_map (holds able) c ≡ option_map (holds able) d = cc in
    goes_first able c cs ∙ ap (λ (b : Option Bool). unwrap_or b false) e ∙ sym (goes_first able d ds)
go_alike able (c ∷ cs) (d ∷ ds) (suc r) h = let e : held able cs ≡ held able ds = cc in go_alike able cs ds r e

module _ (states : List State) (first second : List (Option Condition)) (alike : AllHoldAlike first second) where
  pub released_alike : (before ranks : List ℕ) → IsReleasedAfter states first before ranks → IsReleasedAfter states second before ranks
  released_alike before [] o = tt
  released_alike before (r ∷ ranks) o = (
    o.0,
    o.1,
    sym (go_alike (λ s. is_free states s || among before s) first second r (alike (λ s. is_free states s || among before s))) ∙ o.2,
    released_alike (before ++ r ∷ []) ranks o.3,
  )

  pub whole_alike : (release : List ℕ) → IsWhole states first release → IsWhole states second release
  whole_alike release w r l = sym (go_alike (λ s. is_free states s || among release s) first second r (alike (λ s. is_free states s || among release s))) ∙ w r l

-- two lists are the same up to one place more
pub equal_more : (xs ys : List ℕ) (i : ℕ) → i < length xs → length xs ≡ length ys → get_or xs i 0 ≡ get_or ys i 0 → take i xs ≡ take i ys → take (i + 1) xs ≡ take (i + 1) ys
equal_more xs ys i lt len e h =
    take_more xs i 0 lt ∙ ap (λ (l : List ℕ). l ++ get_or xs i 0 ∷ []) h ∙ ap (λ (z : ℕ). take i ys ++ z ∷ []) e ∙ sym (take_more ys i 0 (omega (arith, lt, len)))
