use Rattle.std.proofs.Common.{ap}
use Rattle.std.specs.List.{flat_map}
use Rattle.trace_report.specs.Report.{conflict_line, pair_line, postponed_line, round_line, stuck_lines}
use Rattle.trace_report.proofs.Printing.{then, reads}
use Rattle.trace_report.proofs.report.put_report.Goals as goal

pub returns : goal.returns
returns g c =
    then (then (then (then (then (then (then c.put_head.ensures c.put_ranks.ensures)
    (reads c.put_conflicts.ensures (ap (flat_map conflict_line) c.conflicts.ensures)))
    (reads c.put_pairs.ensures (ap (flat_map pair_line) c.pairs.ensures)))
    (reads c.put_all_postponed.ensures (ap (flat_map postponed_line) c.postponed.ensures)))
    (reads c.put_rounds.ensures (ap (flat_map round_line) c.rounds.ensures)))
    (reads c.put_all_stuck.ensures (ap stuck_lines c.stuck.ensures))) c.put_last.ensures
