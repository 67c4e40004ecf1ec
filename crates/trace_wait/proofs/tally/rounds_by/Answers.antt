use Rattle.std.proofs.Common.{◌∙◌, ◌++◌, ap, sym, arith, List}
use Rattle.trace_wait.specs.declared.round.Round.{Round}
use Rattle.trace_wait.specs.Rounds.{rounds_on}
use Rattle.trace_wait.proofs.Columns.{comm_more, comm_end}
use Rattle.trace_wait.proofs.tally.rounds_by.Goals as goal

pub overflow_add-i : goal.overflow_add-i
overflow_add-i c = omega (arith, c.loop-comm.invariant.within, c.known.ensures.few_comms)

pub loop-comm-smaller : goal.loop-comm-smaller
loop-comm-smaller c =
    let p = comm_more (rounds_on c.args.layout.now.comms c.args.entries.now) c.args.layout.now.comms c.loop-comm.i c.in-Some.comm (sym c.in-Some.ensures) in
    omega (arith, p.0)

pub loop-comm-preserved : goal.loop-comm-preserved
loop-comm-preserved c =
    let p = comm_more (rounds_on c.args.layout.now.comms c.args.entries.now) c.args.layout.now.comms c.loop-comm.i c.in-Some.comm (sym c.in-Some.ensures) in
    record {
      within = omega (arith, p.0);
      out = c.in_ok-push_comm.ensures ∙ ap (λ (l : List Round). l ++ rounds_on c.args.layout.now.comms c.args.entries.now c.in-Some.comm) c.loop-comm.invariant.out ∙ sym p.1;
    }

pub returns : goal.returns
returns c = c.loop-comm.invariant.out ∙ comm_end (rounds_on c.args.layout.now.comms c.args.entries.now) c.args.layout.now.comms c.loop-comm.i (sym c.in_default.ensures)
