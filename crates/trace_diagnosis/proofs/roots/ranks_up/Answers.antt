use Rattle.std.proofs.Common.{◌∙◌, ◌++◌, ◌∷◌, [], Bool, List, ℕ, ap, filter, if◌then◌else◌, sym}
use Rattle.std.specs.List.{range_with_len}
use Rattle.trace_stuck.specs.Graph.{is_up}
use Rattle.trace_diagnosis.proofs.Ranges.{filter_more}
use Rattle.trace_diagnosis.proofs.roots.ranks_up.Goals as goal

pub loop-rank-preserved : goal.loop-rank-preserved
loop-rank-preserved c =
    let p = is_up c.args.flags.now in
    let n = c.loop-rank.rank in
    c.in_ok-push_if.ensures
    ∙ ap (λ (l : List ℕ). l ++ (if c.is_up.result then n ∷ [] else [])) c.loop-rank.invariant
    ∙ ap (λ (b : Bool). filter p (range_with_len 0 n) ++ (if b then n ∷ [] else [])) c.is_up.ensures
    ∙ sym (filter_more p n)
