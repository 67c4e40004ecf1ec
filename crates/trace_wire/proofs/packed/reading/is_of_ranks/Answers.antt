use Rattle.std.proofs.Common.{◌≡◌, ℕ, ◌-◌, ◌≤◌, ◌<◌, false, true, None, ◌∙◌, arith, sym, length, ltb}
use Rattle.std.specs.FinMap.{len, len-entries, entries}
use Rattle.std.proofs.lemmas.Bool.Decides.{nat_tests}
use Rattle.std.proofs.lemmas.List.{length-map}
use Rattle.std.proofs.lemmas.Option.{slice_get-get_or}
use Rattle.trace_know.specs.Cell.{shown}
use Rattle.trace_know.specs.Listing.{as_shown, cells_of}
use Rattle.trace_know.specs.View.{View}
use Rattle.trace_wire.proofs.LastRank.{nobody, of_last, other_last}
use Rattle.trace_wire.proofs.packed.reading.is_of_ranks.Goals as goal

counted : (view : View) → length (cells_of view) ≡ len view
counted view = length-map (entries view) as_shown ∙ sym (len-entries view)

is_below : (m n : ℕ) → ltb m n ≡ true → m < n
is_below m n h = grind (arith, nat_tests)

is_not_below : (m n : ℕ) → ltb m n ≡ false → n ≤ m
is_not_below m n h = grind (arith, nat_tests)

pub returns-then-count-eq0-clause-of : goal.returns-then-count-eq0-clause-of
returns-then-count-eq0-clause-of c = λ yes.
    nobody c.args.ranks c.args.know.now (c.listing_laws.ensures.cells c.args.know.now) (counted c.args.know.now ∙ sym c.count-count.ensures ∙ c.if-count-eq0.true)

pub returns-in-Some-clause-of : goal.returns-in-Some-clause-of
returns-in-Some-clause-of c = λ yes.
    let last = counted c.args.know.now ∙ sym c.count-count.ensures in
    of_last c.args.ranks c.args.know.now (c.listing_laws.ensures.cells c.args.know.now) (c.listing_laws.ensures.cells_rise c.args.know.now)
    (c.count-count.result - 1) c.in-Some.rank c.in-Some.field-0-1 (shown c.in-Some.field-0-2) (omega (arith, last, c.if-count-eq0.false)) (sym c.in-Some.ensures) (is_below c.in-Some.rank c.args.ranks yes)

pub returns-in-Some-clause-other : goal.returns-in-Some-clause-other
returns-in-Some-clause-other c = λ no.
    other_last c.args.ranks c.args.know.now (c.listing_laws.ensures.cells c.args.know.now)
    (c.count-count.result - 1) c.in-Some.rank c.in-Some.field-0-1 (shown c.in-Some.field-0-2) (sym c.in-Some.ensures) (is_not_below c.in-Some.rank c.args.ranks no)

pub returns-in-None-clause-of : goal.returns-in-None-clause-of
returns-in-None-clause-of c =
    let last = counted c.args.know.now ∙ sym c.count-count.ensures in
    let some = slice_get-get_or (cells_of c.args.know.now) (c.count-count.result - 1) ((0, 0), None) (omega (arith, last, c.if-count-eq0.false)) in
    let none = c.in-None.ensures in
    absurd (cc)
