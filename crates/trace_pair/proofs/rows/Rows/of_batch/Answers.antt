use Rattle.std.proofs.Common.{◌∙◌, ap, sym, List}
use Rattle.std.specs.Prelude.{slice_get}
use Rattle.std.specs.Option.{option_map}
use Rattle.mpi_model.specs.declared.message.Message.{Message}
use Rattle.trace_pair.specs.After.{comes_after}
use Rattle.trace_pair.specs.Pairing.{receive_of}
use Rattle.trace_pair.specs.Table.{pair_of, postponed_name}
use Rattle.trace_pair.proofs.Tabled.{row_there}
use Rattle.trace_pair.proofs.rows.Rows.of_batch.Goals as goal

pub loop-place-preserved : goal.loop-place-preserved
loop-place-preserved c =
    let i = c.loop-place.place in
    let l = c.messages-messages.result.now in
    let there = c.at.ensures in
    record {
      ahead = c.in_ok-read.ensures ∙ c.loop-place.invariant.ahead;
      pairs = λ ms qs s. row_there (λ m. option_map (pair_of m) (receive_of (comes_after c.args.reaches.now) ms qs m)) c.loop-place.rows.pairs c.add_settled.new.self.pairs l i _ there (c.loop-place.invariant.pairs ms qs s)
          (c.in_ok-add_settled.ensures.pairs ms qs s (ap (λ (k : List Message). slice_get k i) (sym (c.messages-messages.ensures ∙ s.messages)) ∙ there));
      postponed = λ ms qs s. row_there (postponed_name (comes_after c.args.reaches.now) ms qs) c.loop-place.rows.postponed c.add_settled.new.self.postponed l i _ there (c.loop-place.invariant.postponed ms qs s)
          (c.in_ok-add_settled.ensures.postponed ms qs s (ap (λ (k : List Message). slice_get k i) (sym (c.messages-messages.ensures ∙ s.messages)) ∙ there));
    }
