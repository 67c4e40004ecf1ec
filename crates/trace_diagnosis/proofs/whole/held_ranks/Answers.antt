use Rattle.std.proofs.Common.{◌≡◌, ◌∙◌, ◌++◌, None, List, Option, ap, arith, length, map, set, sym}
use Rattle.std.specs.Option.{option_map}
use Rattle.std.proofs.lemmas.List.{length-map, length-set, take_at}
use Rattle.trace_stuck.specs.Shape.{Wait, shape}
use Rattle.trace_stuck.specs.declared.condition.Condition.{Condition}
use Rattle.trace_diagnosis.specs.Askers.{shapes}
use Rattle.trace_diagnosis.specs.Conditions.{wait_at}
use Rattle.trace_diagnosis.specs.Waiting.{held_at, held_by, held_told}
use Rattle.trace_diagnosis.proofs.Lists.{at_other, flat_range_step}
use Rattle.trace_diagnosis.proofs.whole.held_ranks.Goals as goal

pub loop-rank-preserved : goal.loop-rank-preserved
loop-rank-preserved c =
    let n = c.loop-rank.rank in
    let all = shapes c.args.conditions.items in
    let old = c.loop-rank.conditions in
    let new = c.take_at-condition.new.conditions in
    let same : shapes c.deref_mut.result.now ≡ shapes old.items = ap shapes c.deref_mut.ensures.value in
    let taken : option_map shape c.take_at-condition.result ≡ wait_at all n
    = c.take_at-condition.ensures.taken ∙ ap (λ (ws : List (Option Wait)). wait_at ws n) same ∙ c.loop-rank.invariant.rest n (omega arith) in
    let now : shapes new ≡ set (shapes old.items) n None = c.take_at-condition.ensures.rest ∙ ap (λ (ws : List (Option Wait)). set ws n None) same in
    let whole : length new ≡ old.len
    = sym (length-map new (option_map shape)) ∙ ap length now ∙ length-set (shapes old.items) n None ∙ length-map old.items (option_map shape) ∙ sym old.ok.0 in
    record {
      found = flat_range_step held_told (held_at all) c.loop-rank.found.items _ n
          (c.in_ok-push_held.ensures ∙ ap (λ (o : Option Wait). map held_told c.loop-rank.found.items ++ held_by n o) taken) c.loop-rank.invariant.found;
      rest = λ r le.
          ap (λ (l : List (Option Condition)). wait_at (shapes l) r) (take_at new _ old.len whole)
          ∙ ap (λ (ws : List (Option Wait)). wait_at ws r) now ∙ at_other (shapes old.items) n r None (λ e. absurd (omega (arith, e, le)))
          ∙ c.loop-rank.invariant.rest r (omega arith);
    }
