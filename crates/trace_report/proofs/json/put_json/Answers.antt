use Rattle.std.proofs.Common.{ap}
use Rattle.trace_report.specs.Json.{conflict_object, joined, name_object, pair_object, round_object, stuck_object}
use Rattle.trace_report.proofs.Printing.{then, reads}
use Rattle.trace_report.proofs.json.put_json.Goals as goal

pub returns : goal.returns
returns g c =
    then (then (then (then (then (then (then (then (then (then (then (then c.put_head.ensures c.put_ranks.ensures)
    c.put.ensures) (reads c.put_all.ensures (ap (joined conflict_object) c.conflicts.ensures)))
    c.put-2.ensures) (reads c.put_all-2.ensures (ap (joined pair_object) c.pairs.ensures)))
    c.put-3.ensures) (reads c.put_all-3.ensures (ap (joined name_object) c.postponed.ensures)))
    c.put-4.ensures) (reads c.put_all-4.ensures (ap (joined round_object) c.rounds.ensures)))
    c.put-5.ensures) (reads c.put_all_stuck.ensures (ap (joined stuck_object) c.stuck.ensures))) c.put_last.ensures
