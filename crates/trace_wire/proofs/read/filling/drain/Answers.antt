use Rattle.std.proofs.Common.{◌≡◌, ◌++◌, ap, arith, ◌∙◌}
use Rattle.std.proofs.KnownBytes.{Consumes-trans}
use Rattle.std.proofs.lemmas.List.{length-append}
use Rattle.trace_wire.specs.Held.{Held}
use Rattle.trace_wire.proofs.Taking.{taken_after}
use Rattle.trace_wire.proofs.Windows.{leaves_both}
use Rattle.trace_wire.proofs.read.filling.drain.Goals as goal

pub loop-window-preserved : goal.loop-window-preserved
loop-window-preserved g c =
    let f = c.loop-window.invariant.far in
    let p = c.in_ok-more.ensures.ok in
    let kept : c.keep.new.self.coming ≡ c.loop-window.window.coming = ap (λ (w : Held). w.coming) c.keep.ensures in
    record {
      far = (f.0 ++ p.taken, Consumes-trans _ _ _ f.0 p.taken f.1 p.took, omega (arith, length-append f.0 p.taken, f.2, p.count, kept));
      no_failure = c.in_ok-more.ensures.no_failure ∙ c.loop-window.invariant.no_failure;
      beside = leaves_both _ _ _ c.loop-window.invariant.beside c.in_ok-more.ensures.beside;
    }

pub returns-in_err-more-clause-taken : goal.returns-in_err-more-clause-taken
returns-in_err-more-clause-taken g c =
    let f = c.loop-window.invariant.far in
    let kept : c.keep.new.self.coming ≡ c.loop-window.window.coming = ap (λ (w : Held). w.coming) c.keep.ensures in
    taken_after _ _ _ f.0 c.keep.new.self.coming c.args.window.now.coming f.1 c.in_err-more.ensures.taken (omega (arith, f.2, kept))
