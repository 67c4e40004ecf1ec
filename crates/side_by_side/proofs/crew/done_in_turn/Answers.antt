use Rattle.std.proofs.Common.{subst, sym}
use Rattle.std.proofs.lemmas.List.Elements.{All-nil}
use Rattle.side_by_side.specs.Jobs.{AllDone}
use Rattle.side_by_side.proofs.crew.done_in_turn.Goals as goal

pub loop-init : goal.loop-init
loop-init g c =
    let gives = g.J.Jobs.gives c.args.jobs.now in
    subst (λ l. AllDone gives l) (sym c.new-done.ensures.items) (All-nil (λ one. gives one.number one.given))
