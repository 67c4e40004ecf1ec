use Rattle.std.proofs.Common.{◌≡◌, ◌↔◌, ℕ, ◌-◌, ◌≤◌, false, true, None, IsTrue, ◌∙◌, arith, sym, length, leb}
use Rattle.std.specs.FinMap.{len, len-entries, entries}
use Rattle.std.proofs.lemmas.Bool.Decides.{nat_tests}
use Rattle.std.proofs.lemmas.List.{length-map}
use Rattle.std.proofs.lemmas.Option.{slice_get-get_or}
use Rattle.trace_know.specs.Cell.{shown}
use Rattle.trace_know.specs.Listing.{as_shown, cells_of}
use Rattle.trace_know.specs.View.{View}
use Rattle.trace_node.proofs.LastCell.{tells, nobody}
use Rattle.trace_node.proofs.strangers.has_stranger.Goals as goal

nothing : false ≡ true → ⊥
nothing h = cc

is_at_most : (m n k : ℕ) → m ≡ k → IsTrue (leb m n) ↔ (k ≤ n)
is_at_most m n k e = (λ h. grind (arith, nat_tests), λ h. grind (arith, nat_tests))

counted : (view : View) → length (cells_of view) ≡ len view
counted view = length-map (entries view) as_shown ∙ sym (len-entries view)

pub returns-then-count-eq0 : goal.returns-then-count-eq0
returns-then-count-eq0 c = (
  λ (h : false ≡ true). absurd (nothing h),
  λ s. absurd (nobody c.args.layout.now c.args.know.now (c.listing_laws.ensures.cells c.args.know.now) (c.listing_laws.ensures.cells_rise c.args.know.now)
      (counted c.args.know.now ∙ sym c.count-count.ensures ∙ c.if-count-eq0.true) s),
)

pub returns-in-Some : goal.returns-in-Some
returns-in-Some c =
    let last = counted c.args.know.now ∙ sym c.count-count.ensures in
    tells c.args.layout.now c.args.know.now (c.listing_laws.ensures.cells c.args.know.now) (c.listing_laws.ensures.cells_rise c.args.know.now)
    (c.count-count.result - 1) c.in-Some.rank c.in-Some.field-0-1 (shown c.in-Some.field-0-2) (omega (arith, last, c.if-count-eq0.false)) (sym c.in-Some.ensures)
    (leb c.ranks.result c.in-Some.rank) (is_at_most c.ranks.result c.in-Some.rank c.args.layout.now.ranks c.ranks.ensures.value)

pub returns-in-None : goal.returns-in-None
returns-in-None c =
    let last = counted c.args.know.now ∙ sym c.count-count.ensures in
    let some = slice_get-get_or (cells_of c.args.know.now) (c.count-count.result - 1) ((0, 0), None) (omega (arith, last, c.if-count-eq0.false)) in
    let none = c.in-None.ensures in
    absurd (cc)
