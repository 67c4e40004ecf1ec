use Rattle.std.proofs.Common.{◌≡◌, ℕ, ◌*◌, ◌^◌, ◌<◌, ◌≤◌, length, get_or, arith, ap, subst, sym, ◌∙◌, ⊎_elim}
use Rattle.std.proofs.lemmas.Bool.{cases_lt}
use Rattle.comm_groups.proofs.Sizes.{size_more, sizes_more, too_large}
use Rattle.comm_groups.proofs.grid.grid_size.Goals as goal

pub returns-in-None : goal.returns-in-None
returns-in-None c =
    let d : ℕ = get_or c.args.dims.now c.loop-d.d-index 0 in
    let below : c.loop-d.d-index < length c.args.dims.now = omega arith in
    let large : c.args.limit < c.loop-d.size * d
    = ⊎_elim (λ (fits : c.loop-d.size * d < 2 ^ 32). absurd (c.in-None.ensures fits)) (λ (high : 2 ^ 32 ≤ c.loop-d.size * d). omega arith) (cases_lt (c.loop-d.size * d) (2 ^ 32)) in
    too_large c.args.limit c.args.dims.now c.loop-d.d-index below (subst (λ (n : ℕ). c.args.limit < n * d) c.loop-d.invariant.size large)

pub loop-d-preserved : goal.loop-d-preserved
loop-d-preserved c =
    let d : ℕ = get_or c.args.dims.now c.loop-d.d-index 0 in
    let below : c.loop-d.d-index < length c.args.dims.now = omega arith in
    let more : c.in-Some.more ≡ c.loop-d.size * d = omega (arith, c.in-Some.ensures) in
    record {
      sizes = sizes_more c.args.dims.now c.loop-d.d-index below c.loop-d.invariant.sizes (omega arith);
      size = more ∙ ap (λ (n : ℕ). n * d) c.loop-d.invariant.size ∙ sym (size_more c.args.dims.now c.loop-d.d-index below);
    }
