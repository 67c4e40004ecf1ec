use Rattle.trace_diagnosis.proofs.Shelving.{none_put, thing_put}
use Rattle.trace_diagnosis.proofs.shelf.Shelf.put.Goals as goal

pub returns-in_ok-put-in-Some : goal.returns-in_ok-put-in-Some
returns-in_ok-put-in-Some c = thing_put c.args.key c.args.value c.args.place c.args.self.now.things (c.get_mut.follows.lender c.put.new.self) c.in-Some.things.now c.put.new.self
    c.in-Some.ensures.value (c.get_mut.follows.holds c.put.new.self) c.in_ok-put-in-Some.ensures

pub returns-in-None : goal.returns-in-None
returns-in-None c = none_put c.args.key c.args.value c.args.place c.args.self.now.things c.get_mut.follows.lender-at-none c.in-None.ensures.value c.get_mut.follows.holds-at-none
