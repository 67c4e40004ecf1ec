use Rattle.std.proofs.Common.{subst}
use Rattle.trace_diagnosis.specs.Ways.{PutsMessage, meets}
use Rattle.trace_diagnosis.specs.declared.near.Place.{Place}
use Rattle.trace_diagnosis.proofs.Nearing.{thing_as_message}
use Rattle.trace_diagnosis.proofs.near.put_at.Goals as goal

pub returns : goal.returns
returns c = subst (λ (p : Place). PutsMessage (meets p) c.args.at c.args.shelf.now c.put.new.self) c.place_for-place.ensures (thing_as_message c.place_for-place.result c.args.at c.args.shelf.now c.put.new.self c.in_ok-put.ensures)
