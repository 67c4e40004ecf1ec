use Rattle.std.proofs.Common.{◌≡◌, List, ℕ, Some, refl, subst}
use Rattle.trace_wire.specs.Cells.{place_form}
use Rattle.trace_wire.proofs.CellLaws.{place_law}
use Rattle.trace_wire.proofs.Windows.{kept_passes, rest_short}
use Rattle.trace_wire.proofs.read.front.held_place.Goals as goal

pub keep-requires : goal.keep-requires
keep-requires c =
    let is : place_form.read c.args.window.now.bytes ≡ Some (c.in-Ok.found.0, c.in-Ok.found.1.now) = subst (λ (b : List ℕ). place_form.read b ≡ Some (c.in-Ok.found.0, c.in-Ok.found.1.now)) c.held.ensures.value c.in-Ok.ensures in
    rest_short place_form _ place_law c.args.window.now.bytes c.in-Ok.found.0 c.in-Ok.found.1.now c.held.ensures.bytes is

pub returns-in-Ok-clause-ok : goal.returns-in-Ok-clause-ok
returns-in-Ok-clause-ok c =
    let is : place_form.read c.args.window.now.bytes ≡ Some (c.in-Ok.found.0, c.in-Ok.found.1.now) = subst (λ (b : List ℕ). place_form.read b ≡ Some (c.in-Ok.found.0, c.in-Ok.found.1.now)) c.held.ensures.value c.in-Ok.ensures in
    kept_passes place_form _ place_law c.args.window.now _ c.in-Ok.found.0 c.in-Ok.found.1.now _ c.held.ensures.bytes c.held.ensures.short is refl c.keep.ensures
