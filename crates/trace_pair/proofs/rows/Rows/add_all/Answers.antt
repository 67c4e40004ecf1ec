use Rattle.std.proofs.Common.{◌∙◌, ◌++◌, List, ap, arith}
use Rattle.std.proofs.lemmas.List.{take_all}
use Rattle.std.specs.List.{filter_map}
use Rattle.std.specs.Option.{option_map}
use Rattle.trace_pair.specs.After.{comes_after}
use Rattle.mpi_model.specs.declared.message.Message.{Message}
use Rattle.trace_pair.specs.Pairing.{receive_of}
use Rattle.trace_pair.specs.Table.{pair_of, postponed_name}
use Rattle.trace_pair.proofs.Tabled.{rows_next, has_at}
use Rattle.trace_pair.proofs.rows.Rows.add_all.Goals as goal

pub loop-m-preserved : goal.loop-m-preserved
loop-m-preserved c =
    let i = c.loop-m.m-index in
    let lt = c.loop-m-test.true in
    record {
      pairs = λ ms qs h w. rows_next (λ m. option_map (pair_of m) (receive_of (comes_after c.args.reaches.now) ms qs m)) c.args.self.now.pairs c.loop-m.self.pairs c.add.new.self.pairs c.args.some.now i _ lt
          (c.loop-m.invariant.pairs ms qs h w) (c.in_ok-add.ensures.pairs ms qs h (w _ (has_at c.args.some.now i _ lt)));
      postponed = λ ms qs h w. rows_next (postponed_name (comes_after c.args.reaches.now) ms qs) c.args.self.now.postponed c.loop-m.self.postponed c.add.new.self.postponed c.args.some.now i _ lt
          (c.loop-m.invariant.postponed ms qs h w) (c.in_ok-add.ensures.postponed ms qs h (w _ (has_at c.args.some.now i _ lt)));
    }

pub returns-clause-pairs : goal.returns-clause-pairs
returns-clause-pairs c = λ ms qs h w.
    c.loop-m.invariant.pairs ms qs h w
    ∙ ap (λ (l : List Message). c.args.self.now.pairs ++ filter_map (λ m. option_map (pair_of m) (receive_of (comes_after c.args.reaches.now) ms qs m)) l) (take_all c.loop-m.m-index c.args.some.now (omega arith))
