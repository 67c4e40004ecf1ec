use Rattle.std.proofs.Common.{◌≡◌, take}
use Rattle.std.specs.List.{fold}
use Rattle.command_runs.specs.CheckJson.{next, nothing, of_scan}
use Rattle.command_runs.proofs.verbs.check_json.check_json.Given as goal

abbrev pub invariant-loop-byte : goal.invariant-loop-byte
invariant-loop-byte l = of_scan l.scan ≡ fold next nothing (take l.byte-index l.lines)
