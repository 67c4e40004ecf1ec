-- The parts of a grid, where some are made.
use Rattle.std.proofs.Common.{◌≡◌, ◌<◌, ◌≤◌, ◌+◌, ℕ, ◌==◌, Bool, true, false, List, Option, Some, None, All, is_some, length, get_or, ap, ◌∙◌, refl, sym, subst, inl, inr, ⊎_elim, arith}
use Rattle.std.proofs.lemmas.Bool.{cases_lt}
use Rattle.std.proofs.lemmas.Bool.Decides.{nat_tests}
use Rattle.std.proofs.lemmas.Option.{get_or_from_slice_get, slice_get_within}
use Rattle.comm_groups.specs.Grids.{size_within}
use Rattle.comm_makings.specs.Makes.{AllSay, AreSaidAlike, AreSilent, AreSilentTo, IsGrid, IsPartOfGrid, IsSilent, IsTopology, MaySay, dims_fit, dims_in, remain_in}
use Rattle.comm_makings.specs.Parts.{IsGridOutcome, IsGridWithin, IsParts, IsSizedGrid}
use Rattle.comm_makings.specs.Selection.{Selection}
use Rattle.comm_makings.specs.State.{IfParts, parts_in}
use Rattle.comm_makings.specs.declared.calls.RankCalls.{RankCalls}
use Rattle.comm_makings.specs.declared.here.Here.{Here}
use Rattle.comm_makings.specs.declared.parts.Outcome.{Outcome}
use Rattle.comm_makings.specs.declared.parts.Outcome.TheVariants as outcomes
use Rattle.comm_makings.specs.declared.view.RankView.{RankView}

parts_are : (outcome : Outcome) (made parts : List Selection) → IsParts made outcome → parts_in outcome ≡ Some parts → parts ≡ made
parts_are (outcomes.Parts items) made parts is e = let same : items.items ≡ parts = cc in sym same ∙ is
parts_are outcomes.Untold made parts is e = absurd is
parts_are outcomes.Unsound made parts is e = absurd is
parts_are outcomes.Waits made parts is e = absurd is

module _ (ranks : List RankCalls) (known : Option (List ℕ)) (dims : List ℕ) (remain : List Bool) (all : List (Option Here)) (members : ℕ) (outcome : Outcome)
    (is : known ≡ Some dims) (said : AllSay ranks remain_in remain all) (many : members ≡ length all)
    (differ : (length remain ≡ length dims → ⊥) → outcome ≡ outcomes.Unsound)
    (fit : length remain ≡ length dims → IsGridWithin members dims remain outcome) where
  by_size : (o : Option ℕ) → size_within members dims ≡ o → length remain ≡ length dims → (parts : List Selection) → parts_in outcome ≡ Some parts
      → IsPartOfGrid ranks known all parts
  by_size None e same parts f =
      let untold : outcome ≡ outcomes.Untold = subst (λ (o : Option ℕ). IsSizedGrid o dims remain outcome) e (fit same) in
      let none : parts_in outcome ≡ None = ap parts_in untold in
      absurd (cc)
  by_size (Some size) e same parts f =
      let grid : IsGridOutcome dims remain outcome = subst (λ (o : Option ℕ). IsSizedGrid o dims remain outcome) e (fit same) in
      record {
        sizes = dims;
        known = is;
        size = size;
        fits = subst (λ (n : ℕ). size_within n dims ≡ Some size) many e;
        remain = remain;
        same_remain = said;
        same_length = same;
        groups = grid.0;
        agree = grid.1;
        made = parts_are outcome _ parts grid.2 f;
      }

  by_length : (t : Bool) → (length remain == length dims) ≡ t → (parts : List Selection) → parts_in outcome ≡ Some parts → IsPartOfGrid ranks known all parts
  by_length true e parts f =
      let same : length remain ≡ length dims = grind (arith, nat_tests) in
      by_size (size_within members dims) refl same parts f
  by_length false e parts f =
      let other : length remain ≡ length dims → ⊥ = λ same. absurd (grind (arith, nat_tests)) in
      let none : parts_in outcome ≡ None = ap parts_in (differ other) in
      absurd (cc)

  pub grid_part : (parts : List Selection) → parts_in outcome ≡ Some parts → IsPartOfGrid ranks known all parts
  grid_part parts f = by_length (length remain == length dims) refl parts f

-- ---- dimensions that not all calls say

module _ (ranks : List RankCalls) (all : List (Option Here)) where
  pub silent_none : AreSilentTo ranks dims_in all 0
  silent_none = record { each = λ place here e less. absurd (omega arith) }

  pub silent_more : (count : ℕ) (d : Option Here) → AreSilentTo ranks dims_in all count → count < length all → IsSilent ranks dims_in (get_or all count d) → AreSilentTo ranks dims_in all (count + 1)
  silent_more count d silent below here = record {
    each = λ place one e less. ⊎_elim
        (λ (l : place < count). silent.each place one e l)
        (λ (g : count ≤ place).
        let there : place ≡ count = omega arith in
        let same : get_or all count d ≡ one = ap (λ (k : ℕ). get_or all k d) (sym there) ∙ get_or_from_slice_get all place one d e in
        subst (IsSilent ranks dims_in) same here)
        (cases_lt place count);
  }

  pub silent_all : (count : ℕ) → AreSilentTo ranks dims_in all count → length all ≤ count → AreSilent ranks dims_in all
  silent_all count silent most = record { each = λ place here e. (let within : place < length all = slice_get_within all place here e in silent.each place here e (omega arith)) }

  pub none_said : (members : ℕ) → AreSilent ranks dims_in all → AreSaidAlike ranks dims_in (dims_fit members) all
  none_said members silent = inl silent

  pub dims_said : (members : ℕ) (dims : List ℕ) → is_some (size_within members dims) ≡ true → All (MaySay ranks dims_in dims) all → AreSaidAlike ranks dims_in (dims_fit members) all
  dims_said members dims fit same = inr (record { x = dims; same = same; fit = fit })

  pub unknown_grid : (views : List RankView) (members : ℕ) (outcome : Outcome) → members ≡ length all → AreSaidAlike ranks dims_in (dims_fit members) all
      → IfParts (IsTopology ranks views all None None) outcome → IfParts (IsGrid ranks views all) outcome
  unknown_grid views members outcome many alike made parts e =
      let t = made parts e in
      inr (record { alike = subst (λ (n : ℕ). AreSaidAlike ranks dims_in (dims_fit n) all) many alike; reorders = t.0; made = t.1 })
