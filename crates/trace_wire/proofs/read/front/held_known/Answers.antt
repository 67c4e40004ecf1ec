use Rattle.std.proofs.Common.{◌≡◌, List, ℕ, Some, refl, subst}
use Rattle.trace_wire.specs.Parts.{known_at}
use Rattle.trace_wire.proofs.Fronts.{known_form}
use Rattle.trace_wire.proofs.Windows.{kept_passes, rest_short}
use Rattle.trace_wire.proofs.read.front.held_known.Goals as goal

pub keep-requires : goal.keep-requires
keep-requires c =
    let is : known_at c.args.place c.args.window.now.bytes ≡ Some (c.in-Ok.found.0, c.in-Ok.found.1.now) = subst (λ (b : List ℕ). known_at c.args.place b ≡ Some (c.in-Ok.found.0, c.in-Ok.found.1.now)) c.held.ensures.value c.in-Ok.ensures in
    rest_short _ _ (known_form c.args.place) c.args.window.now.bytes c.in-Ok.found.0 c.in-Ok.found.1.now c.held.ensures.bytes is

pub returns-in-Ok-clause-ok : goal.returns-in-Ok-clause-ok
returns-in-Ok-clause-ok c =
    let is : known_at c.args.place c.args.window.now.bytes ≡ Some (c.in-Ok.found.0, c.in-Ok.found.1.now) = subst (λ (b : List ℕ). known_at c.args.place b ≡ Some (c.in-Ok.found.0, c.in-Ok.found.1.now)) c.held.ensures.value c.in-Ok.ensures in
    kept_passes _ _ (known_form c.args.place) c.args.window.now _ c.in-Ok.found.0 c.in-Ok.found.1.now _ c.held.ensures.bytes c.held.ensures.short is refl c.keep.ensures
