use Rattle.std.proofs.Common.{◌≡◌, ◌<◌, ◌∙◌, ap, sym, List, length, get_or, arith, rules, w64, to_z, of_z}
use Rattle.std.specs.Prelude.{ℤ, pos, Some}
use Rattle.std.specs.Option.{option_map}
use Rattle.std.proofs.lemmas.Int.{to_z-of_z}
use Rattle.trace_ops.specs.Held.{plain_init}
use Rattle.trace_ops.specs.Request.{started_by}
use Rattle.trace_ops.specs.Steps.{begun_step, part_step}
use Rattle.trace_ops.proofs.Parts.{inits_count, with_part, without_init}
use Rattle.trace_ops.proofs.held.begun_at.Goals as goal

pub returns-in_err-init : goal.returns-in_err-init
returns-in_err-init c before read listed h =
    let x = get_or c.args.requests.now c.args.place (pos 0) in
    let count : length c.args.requests.now ≡ length (started_by read.call) = ap (λ (l : List ℤ). length l) listed in
    let lt : c.args.place < length (started_by read.call) = omega (arith, count, c.requires) in
    let many = inits_count before read c.args.inits.now h in
    ap (option_map (begun_step (length before) read)) c.from_residual-in_err-init.ensures
    ∙ without_init before read c.args.inits.now c.args.place x c.init_at.result lt h (c.init_at.ensures (omega (arith, lt, many))) (ap (λ (l : List ℤ). get_or l c.args.place (pos 0)) listed) c.in_err-init.was

pub returns : goal.returns
returns c before read listed h =
    let x = get_or c.args.requests.now c.args.place (pos 0) in
    let back : to_z w64 (of_z w64 x) ≡ x = to_z-of_z w64 x (search rules) in
    let count : length c.args.requests.now ≡ length (started_by read.call) = ap (λ (l : List ℤ). length l) listed in
    let lt : c.args.place < length (started_by read.call) = omega (arith, count, c.requires) in
    let many = inits_count before read c.args.inits.now h in
    ap (λ (z : ℤ). Some (part_step (length before) c.in_ok-part.part read z (plain_init c.in_ok-init.init))) back
    ∙ with_part before read c.args.inits.now c.args.place x c.init_at.result lt h (c.init_at.ensures (omega (arith, lt, many))) (ap (λ (l : List ℤ). get_or l c.args.place (pos 0)) listed)
    c.in_ok-part.part c.in_ok-init.init (sym c.part_at.ensures ∙ c.in_ok-part.was) c.in_ok-init.was
