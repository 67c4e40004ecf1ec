use Rattle.std.proofs.lemmas.Result.{err_from_is_err_and}
use Rattle.trace_cluster.proofs.Stopping.{stops_refused}
use Rattle.trace_cluster.proofs.crews.none_stops.Goals as goal

pub returns-in_err-without_refusals-clause-err : goal.returns-in_err-without_refusals-clause-err
returns-in_err-without_refusals-clause-err c =
    let p = err_from_is_err_and c.from_residual-in_err-without_refusals.result c.from_residual-in_err-without_refusals.ensures.1 in
    rw (p.1, p.2) (
    stops_refused c.args.faults.items c.args.others.items c.args.refused.now.items c.args.refused_later.now.items c.in_err-without_refusals.field-0.0 c.in_ok-without_faults.ensures.ok c.in_ok-without_faults-2.ensures.ok c.in_err-without_refusals.ensures.err
    )
