use Rattle.std.proofs.Common.{◌≡◌, ◌-◌, ℕ, ◌++◌, ◌∷◌, [], length, take, slice_index_or, sym, ap, ◌∙◌, arith}
use Rattle.std.specs.List.{remove}
use Rattle.trace_know.proofs.Covering.{last-run}
use Rattle.trace_know.proofs.Packing.{less-last}
use Rattle.trace_know.proofs.run_list.RunList.pop.Goals as goal

pub returns-clause-items : goal.returns-clause-items
returns-clause-items c =
    let all = c.args.self.now.items in
    let n = length all - 1 in
    let last : c.len-last.result - 1 ≡ n = omega arith in
    let fewer : c.remove.new.self.items ≡ take n all = c.remove.ensures.items ∙ ap (remove all) last ∙ less-last all n (omega arith) in
    let run : c.remove.result ≡ slice_index_or all n c.remove.result = c.remove.ensures.value ∙ ap (λ (m : ℕ). slice_index_or all m c.remove.result) last in
    last-run all n c.remove.result (omega arith) ∙ sym (λ i. fewer i ++ run i ∷ [])
