use Rattle.std.proofs.Common.{◌≡◌, List, ℕ, Ok, refl, subst}
use Rattle.std.specs.FinMap.{entries}
use Rattle.trace_wire.specs.declared.version.Version.TheVariants.{One}
use Rattle.trace_wire.specs.FirstFault.{parts_of}
use Rattle.trace_wire.specs.Outcomes.{FailsWith}
use Rattle.trace_wire.proofs.HeldCells.{cells_held, cells_short, no_cells_held, nothing_coming}
use Rattle.trace_wire.proofs.read.payload.cells_held.Goals as goal

pub keep-requires : goal.keep-requires
keep-requires g c =
    let es = entries c.in-Ok-cells_of.found.0 in
    let is : parts_of One c.args.count c.fill_to.new.window.bytes ≡ Ok (es, c.in-Ok-cells_of.found.1.now) = subst (λ (b : List ℕ). parts_of One c.args.count b ≡ Ok (es, c.in-Ok-cells_of.found.1.now)) c.held.ensures.value c.in-Ok-cells_of.ensures.value in
    cells_short c.args.count c.fill_to.new.window.bytes es c.in-Ok-cells_of.found.1.now c.held.ensures.bytes is

pub returns-in-Ok-cells_of-clause-ok : goal.returns-in-Ok-cells_of-clause-ok
returns-in-Ok-cells_of-clause-ok g c =
    let es = entries c.in-Ok-cells_of.found.0 in
    let is : parts_of One c.args.count c.fill_to.new.window.bytes ≡ Ok (es, c.in-Ok-cells_of.found.1.now) = subst (λ (b : List ℕ). parts_of One c.args.count b ≡ Ok (es, c.in-Ok-cells_of.found.1.now)) c.held.ensures.value c.in-Ok-cells_of.ensures.value in
    let end = nothing_coming c.fill_to.new.window c.held.ensures.short c.in-Ok.ensures.enough in
    cells_held _ _ _ c.fill_to.new.window _ c.args.count es c.in-Ok-cells_of.found.1.now _ c.in-Ok.ensures.ok end c.held.ensures.bytes is refl c.keep.ensures

pub returns-in-Err-cells_of-clause-err : goal.returns-in-Err-cells_of-clause-err
returns-in-Err-cells_of-clause-err g c =
    let fails : FailsWith c.in-Err-cells_of.fault (parts_of One c.args.count c.fill_to.new.window.bytes) = subst (λ (b : List ℕ). FailsWith c.in-Err-cells_of.fault (parts_of One c.args.count b)) c.held.ensures.value c.in-Err-cells_of.ensures.value in
    let end = nothing_coming c.fill_to.new.window c.held.ensures.short c.in-Ok.ensures.enough in
    no_cells_held _ _ _ _ _ c.fill_to.new.window c.args.count c.in-Err-cells_of.fault c.in-Ok.ensures.ok end c.in-Ok.ensures.no_failure c.in-Err-cells_of.ensures.cause fails
