use Rattle.std.proofs.Common.{◌≡◌, ◌^◌, List, ℕ, Some, refl, subst}
use Rattle.std.specs.Int.{w32}
use Rattle.trace_wire.specs.Forms.{number, number_at}
use Rattle.trace_wire.proofs.FormLaws.{number_form, wide32}
use Rattle.trace_wire.proofs.Windows.{kept_passes, rest_short}
use Rattle.trace_wire.proofs.read.front.held_u32.Goals as goal

pub keep-requires : goal.keep-requires
keep-requires c =
    let is : number_at w32 c.args.window.now.bytes ≡ Some (c.in-Ok.found.0, c.in-Ok.found.1.now) = subst (λ (b : List ℕ). number_at w32 b ≡ Some (c.in-Ok.found.0, c.in-Ok.found.1.now)) c.held.ensures.value c.in-Ok.ensures in
    rest_short (number w32) _ (number_form w32 (2 ^ 32) wide32) c.args.window.now.bytes c.in-Ok.found.0 c.in-Ok.found.1.now c.held.ensures.bytes is

pub returns-in-Ok-clause-ok : goal.returns-in-Ok-clause-ok
returns-in-Ok-clause-ok c =
    let is : number_at w32 c.args.window.now.bytes ≡ Some (c.in-Ok.found.0, c.in-Ok.found.1.now) = subst (λ (b : List ℕ). number_at w32 b ≡ Some (c.in-Ok.found.0, c.in-Ok.found.1.now)) c.held.ensures.value c.in-Ok.ensures in
    kept_passes (number w32) _ (number_form w32 (2 ^ 32) wide32) c.args.window.now _ c.in-Ok.found.0 c.in-Ok.found.1.now _ c.held.ensures.bytes c.held.ensures.short is refl c.keep.ensures
