use Rattle.std.proofs.Common.{◌≡◌, ◌-◌, length, List, ℕ, arith, subst, sym, ◌∙◌}
use Rattle.std.proofs.KnownBytes.{Consumes-trans}
use Rattle.std.specs.Io.KnownBytes.{Consumes}
use Rattle.std.proofs.lemmas.Grind.{common_steps}
use Rattle.mpi_model.proofs.Known.{filled_more, leaves_both}
use Rattle.mpi_model.proofs.whole.read_exactly.Goals as goal

pub loop-taken-preserved : goal.loop-taken-preserved
loop-taken-preserved g c =
    let room : length c.read.new.buffer ≡ length c.loop-taken.buffer - c.loop-taken.taken = grind (arith, common_steps, c.read.auto.buffer) in
    let e = filled_more c.loop-taken.taken c.in-Ok.count c.loop-taken.buffer c.read.new.buffer c.loop-taken.invariant.within room (omega (arith, c.in-Ok.ensures.within)) in
    record {
      within = grind (arith, common_steps, c.loop-taken.invariant.within, room);
      front = subst (λ (xs : List ℕ). Consumes (g.R.Read.left c.args.reader.now) (g.R.Read.left c.read.new.self) xs) (sym e) (Consumes-trans _ _ _ _ _ c.loop-taken.invariant.front c.in-Ok.ensures.bytes.0);
      no_failure = c.in-Ok.ensures.failures.1 ∙ c.loop-taken.invariant.no_failure;
      beside = leaves_both _ _ _ c.loop-taken.invariant.beside c.read.ensures.beside;
    }
