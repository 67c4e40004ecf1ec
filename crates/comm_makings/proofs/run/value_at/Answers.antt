use Rattle.std.proofs.Common.{sym}
use Rattle.comm_makings.proofs.Values.{given_value}
use Rattle.comm_makings.proofs.run.value_at.Goals as goal

pub returns : goal.returns
returns c =
    given_value c.args.ranks.now c.args.views.now c.args.made.comms.now c.args.made.inters.now c.args.rank c.args.at c.args.standings.now c.args.values.now c.in-Some.group.now c.in-Some-meant_at.meant
    (sym c.in-Some.ensures) (sym c.in-Some-meant_at.ensures) c.requires.comms c.requires.inters c.requires.standings c.requires.groups c.in_ok-value.value c.in_ok-value.ensures
