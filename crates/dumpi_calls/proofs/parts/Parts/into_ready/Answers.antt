use Rattle.std.proofs.Common.{rules, ◌≡◌, ◌∙◌, ◌+◌, ◌*◌, ◌<◌, List, [], ◌∷◌, ◌++◌, length, length-append, ap, sym, arith}
use Rattle.std.proofs.lemmas.List.{map-id}
use Rattle.std.proofs.lemmas.Iterator.Adapters.{YieldsList-from_vec}
use Rattle.std.proofs.lemmas.Iterator.Consumers.{YieldsList-end, YieldsList-so_far, YieldsList-turn}
use Rattle.trace_know.specs.Segment.{PlacedEvents}
use Rattle.dumpi_calls.specs.Collected.{placed}
use Rattle.dumpi_calls.proofs.Joined.{in_turn, joined_count, last_alternates, no_events, one_more, placed_parts, with_last, without_last}
use Rattle.dumpi_calls.proofs.parts.Parts.into_ready.Goals as goal
use Rattle.dumpi_calls.proofs.parts.Parts.into_ready.Goals.{then-count-gt0+in_ok-into_ready-2+in_ok-push-2, else-count-gt0}

pub into_ready-requires : goal.into_ready-requires
into_ready-requires c =
    let parts = c.args.self in
    let b = c.into_iter-part-iterator.ensures.into_iter_gives in
    let road = YieldsList-from_vec {s = c.into_iter-part-iterator.result} parts.full.items b.0 (b.1 ∙ parts.full.ok.0) in
    let so_far = YieldsList-so_far road c.loop-part.yielded _ c.loop-part.yielded_by in
    let turn = YieldsList-turn road c.loop-part.yielded _ c.loop-part.yielded_by _ c.next.new.self c.in-Some.part c.in-Some.is c.next.ensures.steps in
    let known = in_turn parts.full.items c.loop-part.yielded c.in-Some.part parts.last so_far turn c.requires.parts.full c.requires.halves in
    record {
      some = omega (arith, known.count);
      most = omega (arith, known.count);
      places = omega (arith, known.count, known.within, c.loop-part.invariant.next, c.requires.places);
      halves = known.halves;
    }

pub loop-part-preserved : goal.loop-part-preserved
loop-part-preserved c =
    let part = c.in-Some.part in
    let pushed : c.push.new.self.items ≡ c.loop-part.segments.items ++ placed c.args.rank c.loop-part.next part ∷ [] = search rules in
    record {
      segments =
          pushed
          ∙ ap (λ (segments : List PlacedEvents). segments ++ placed c.args.rank c.loop-part.next part ∷ []) c.loop-part.invariant.segments
          ∙ ap (λ n. placed_parts c.args.rank c.args.first c.loop-part.yielded ++ placed c.args.rank n part ∷ []) c.loop-part.invariant.next
          ∙ sym (one_more c.args.rank c.args.first c.loop-part.yielded part);
      next = omega (arith, c.loop-part.invariant.next, length-append c.loop-part.yielded (part ∷ []));
    }

pub into_ready-requires-then-count-gt0-clause-places : goal.into_ready-requires-then-count-gt0-clause-places
into_ready-requires-then-count-gt0-clause-places c =
    let parts = c.args.self in
    let b = c.into_iter-part-iterator.ensures.into_iter_gives in
    let road = YieldsList-from_vec {s = c.into_iter-part-iterator.result} parts.full.items b.0 (b.1 ∙ parts.full.ok.0) in
    let all = YieldsList-end road c.loop-part.yielded _ c.loop-part.yielded_by _ c.next.new.self c.in-None.is c.next.ensures.steps in
    omega (arith, all.1, c.loop-part.invariant.next, joined_count parts.full.items parts.last c.requires.parts.full, c.requires.places)

pub into_ready-requires-then-count-gt0-clause-halves : goal.into_ready-requires-then-count-gt0-clause-halves
into_ready-requires-then-count-gt0-clause-halves c = last_alternates c.args.self.full.items c.args.self.last c.requires.parts.full c.requires.halves

pub returns : goal.returns
returns c =
    let parts = c.args.self in
    let b = c.into_iter-part-iterator.ensures.into_iter_gives in
    let road = YieldsList-from_vec {s = c.into_iter-part-iterator.result} parts.full.items b.0 (b.1 ∙ parts.full.ok.0) in
    let all = YieldsList-end road c.loop-part.yielded _ c.loop-part.yielded_by _ c.next.new.self c.in-None.is c.next.ensures.steps in
    let same : c.loop-part.yielded ≡ parts.full.items = sym (map-id c.loop-part.yielded) ∙ all.0 in
    let next : c.loop-part.next ≡ c.args.first + 32768 * length parts.full.items = omega (arith, all.1, c.loop-part.invariant.next) in
    let segments : c.loop-part.segments.items ≡ placed_parts c.args.rank c.args.first parts.full.items = rw (← same) c.loop-part.invariant.segments in
    elim c.if-count-gt0.branch [
      | then-count-gt0+in_ok-into_ready-2+in_ok-push-2 w ↦
          let pushed : w.push-then-count-gt0.new.self.items ≡ c.loop-part.segments.items ++ placed c.args.rank c.loop-part.next parts.last ∷ [] = search rules in
          let some : 0 < length parts.last = search rules in
          rw (w.segments-is, pushed, segments, next) (with_last c.args.rank c.args.first parts.full.items parts.last c.requires.parts.full some c.requires.parts.most)
      | else-count-gt0 w ↦
          let count : length parts.last ≡ 0 = search rules in
          rw (w.segments-is, segments, no_events parts.last count) (without_last c.args.rank c.args.first parts.full.items c.requires.parts.full)
    ]
