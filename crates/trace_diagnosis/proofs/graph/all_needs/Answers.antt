use Rattle.std.proofs.Common.{◌∙◌, ◌++◌, ◌∷◌, [], Global, List, Vec, ap, arith, map, sym}
use Rattle.std.specs.List.{range_with_len}
use Rattle.trace_diagnosis.specs.Askers.{shapes}
use Rattle.trace_diagnosis.specs.Graph.{needs_at}
use Rattle.diagnosis_value.specs.declared.diagnosis.Need.{Need}
use Rattle.trace_diagnosis.proofs.Ranges.{map_more, map_push}
use Rattle.trace_diagnosis.proofs.graph.all_needs.Goals as goal

pub loop-rank-preserved : goal.loop-rank-preserved
loop-rank-preserved c =
    let n = c.loop-rank.rank in
    let items = λ (v : Vec Need Global). v.items in
    let f = needs_at c.args.able.now (shapes c.args.conditions.now) in
    record {
      len = omega (arith, c.in_ok-push.ensures.len, c.loop-rank.invariant.len);
      needs = ap (map items) c.in_ok-push.ensures.items ∙ map_push items c.loop-rank.all.items c.in_ok-needs.needs
          ∙ ap (λ (l : List (List Need)). l ++ c.in_ok-needs.needs.items ∷ []) c.loop-rank.invariant.needs
          ∙ ap (λ (x : List Need). map f (range_with_len 0 n) ++ x ∷ []) c.in_ok-needs.ensures ∙ sym (map_more f n);
    }
