use Rattle.std.proofs.Common.{◌≡◌, ℕ, ◌+◌, ◌/◌, ◌%◌, ◌<◌, ◌≤◌, length, get_or, drop, arith, ap, ◌∙◌}
use Rattle.comm_groups.specs.Grids.{grid_size}
use Rattle.comm_groups.proofs.Sizes.{alike_kept, alike_left_out, rest_le, rest_some, size_rest}
use Rattle.comm_groups.proofs.grid.first_alike.Goals as goal
use Rattle.comm_groups.proofs.grid.first_alike.Goals.{then-not-remain-i, else-not-remain-i}

pub nonzero_rem-inside : goal.nonzero_rem-inside
nonzero_rem-inside c =
    let below : c.loop-i.i < length c.args.dims.now = omega arith in
    let behind : c.loop-i.below / get_or c.args.dims.now c.loop-i.i 0 ≡ grid_size (drop (c.loop-i.i + 1) c.args.dims.now)
    = ap (λ (n : ℕ). n / get_or c.args.dims.now c.loop-i.i 0) c.loop-i.invariant.size ∙ size_rest c.args.dims.now c.loop-i.i c.requires.sizes below in
    rw behind (rest_some c.args.dims.now (c.loop-i.i + 1) c.requires.sizes)

pub loop-i-preserved : goal.loop-i-preserved
loop-i-preserved c =
    let below : c.loop-i.i < length c.args.dims.now = omega arith in
    let inside : c.loop-i.i < length c.args.remain.now = omega (arith, c.requires.same) in
    let behind : c.loop-i.below / get_or c.args.dims.now c.loop-i.i 0 ≡ grid_size (drop (c.loop-i.i + 1) c.args.dims.now)
    = ap (λ (n : ℕ). n / get_or c.args.dims.now c.loop-i.i 0) c.loop-i.invariant.size ∙ size_rest c.args.dims.now c.loop-i.i c.requires.sizes below in
    let part : c.loop-i.left % (c.loop-i.below / get_or c.args.dims.now c.loop-i.i 0) ≤ c.loop-i.left = rest_le c.loop-i.left (c.loop-i.below / get_or c.args.dims.now c.loop-i.i 0) in
    elim c.if-not-remain-i.branch [
      | then-not-remain-i w ↦ record {
        size = behind;
        bound = rw (w.first-is, w.left-is) (omega (arith, part, c.loop-i.invariant.bound));
        alike = rw (w.first-is, w.left-is, behind) (alike_left_out c.args.dims.now c.args.remain.now c.loop-i.i c.loop-i.first c.loop-i.left below inside w.if-not-remain-i.true ∙ c.loop-i.invariant.alike);
      }
      | else-not-remain-i w ↦ record {
        size = behind;
        bound = rw (w.first-is, w.left-is) (omega (arith, part, c.loop-i.invariant.bound));
        alike = rw (w.first-is, w.left-is, behind) (alike_kept c.args.dims.now c.args.remain.now c.loop-i.i c.loop-i.first c.loop-i.left below inside w.if-not-remain-i.false ∙ c.loop-i.invariant.alike);
      }
    ]
