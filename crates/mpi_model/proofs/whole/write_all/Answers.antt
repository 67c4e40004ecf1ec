use Rattle.std.proofs.Common.{◌≤◌, ◌-◌, length, List, ℕ, arith, subst, sym, ◌∙◌}
use Rattle.std.proofs.KnownBytes.{Appends-trans}
use Rattle.std.specs.Io.KnownBytes.{Appends}
use Rattle.std.proofs.lemmas.Grind.{common_steps}
use Rattle.mpi_model.proofs.Known.{next_part, leaves_both}
use Rattle.mpi_model.proofs.whole.write_all.Goals as goal

pub loop-written-preserved : goal.loop-written-preserved
loop-written-preserved g c =
    let fits : c.in-Ok.count ≤ length c.args.piece.now - c.loop-written.written = grind (arith, common_steps, c.in-Ok.ensures.within) in
    let e = next_part c.loop-written.written c.in-Ok.count c.args.piece.now fits in
    record {
      within = omega (arith, fits, c.loop-written.invariant.within);
      front = subst (λ (xs : List ℕ). Appends (g.W.Write.written c.args.writer.now) (g.W.Write.written c.write.new.self) xs) (sym e) (Appends-trans _ _ _ _ _ c.loop-written.invariant.front c.in-Ok.ensures.bytes);
      no_failure = c.in-Ok.ensures.failures.1 ∙ c.loop-written.invariant.no_failure;
      beside = leaves_both _ _ _ c.loop-written.invariant.beside c.write.ensures.beside;
    }
