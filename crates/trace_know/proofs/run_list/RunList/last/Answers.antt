use Rattle.std.proofs.Common.{◌≡◌, ◌-◌, ℕ, length, slice_index_or, ap, ◌∙◌, arith}
use Rattle.trace_know.proofs.run_list.RunList.last.Goals as goal

pub returns : goal.returns
returns c =
    let last : c.len.result - 1 ≡ length c.args.self.now.items - 1 = omega arith in
    c.at.ensures ∙ ap (λ (n : ℕ). slice_index_or c.args.self.now.items n c.at.result.now) last
