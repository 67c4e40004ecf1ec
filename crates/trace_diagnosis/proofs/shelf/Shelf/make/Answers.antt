use Rattle.std.proofs.Common.{◌∙◌, sym}
use Rattle.trace_diagnosis.proofs.Shelving.{key_made, key_there}
use Rattle.trace_diagnosis.proofs.shelf.Shelf.make.Goals as goal

pub returns-then-contains_key : goal.returns-then-contains_key
returns-then-contains_key c = key_there c.args.key c.args.self.now.things (sym c.contains_key.ensures ∙ c.if-contains_key.true)

pub returns : goal.returns
returns c = key_made c.args.key c.args.self.now.things c.insert.new.self c.none.result c.none.ensures (sym c.contains_key.ensures ∙ c.if-contains_key.false)
    c.in_ok-insert.ensures.updates.0 c.in_ok-insert.ensures.updates.1
