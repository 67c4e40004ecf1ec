use Rattle.command_runs.proofs.Worlds.{IsNew, all_done, stopped}
use Rattle.command_runs.proofs.verbs.replay.world_after.Goals as goal

pub returns-in-Ok-ran-clause-ok : goal.returns-in-Ok-ran-clause-ok
returns-in-Ok-ran-clause-ok c =
    let new : IsNew c.args.layout.now c.args.nodes c.in-Ok.world = record { shows = c.in-Ok.ensures.shows; layout = c.in-Ok.ensures.layout; fresh = c.in-Ok.ensures.fresh } in
    all_done c.args.layout.now c.args.nodes c.args.steps.now c.in-Ok.world c.run-ran.new.self new c.run-ran.ensures.same c.known.ensures
    c.in-Ok-ran.ensures.ok c.in-Ok-ran.ensures.possible c.in-Ok-ran.ensures.fresh

pub returns-clause-err : goal.returns-clause-err
returns-clause-err c =
    let new : IsNew c.args.layout.now c.args.nodes c.in-Ok.world = record { shows = c.in-Ok.ensures.shows; layout = c.in-Ok.ensures.layout; fresh = c.in-Ok.ensures.fresh } in
    rw c.stop_of.ensures (stopped c.states_refuse.ensures c.args.layout.now c.args.nodes c.args.steps.now c.in-Ok.world c.run-ran.new.self c.in-Err-ran.stop.step c.in-Err-ran.stop.fault new c.run-ran.ensures.same
    c.known.ensures c.in-Err-ran.ensures.err.1 c.in-Err-ran.ensures.possible_before c.in-Err-ran.ensures.cause)
