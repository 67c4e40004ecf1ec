use Rattle.std.proofs.Common.{Some, Vec, Global, ℕ, option_map, ap, ◌∙◌, sym}
use Rattle.comm_makings.proofs.GridParts.{grid_part}
use Rattle.comm_makings.proofs.grids.cart_sub_outcome.Goals as goal

pub returns-in_ok-outcome-in-Some-agreed_remain : goal.returns-in_ok-outcome-in-Some-agreed_remain
returns-in_ok-outcome-in-Some-agreed_remain c = λ parts e.
    grid_part c.args.ranks.now _ c.deref.result.now c.in-Some-agreed_remain.remain.now c.args.all.now c.args.members _
    (ap (option_map (λ (v : Vec ℕ Global). v.items)) c.in-Some.is ∙ ap Some (sym c.deref.ensures.value)) c.in-Some-agreed_remain.ensures c.requires
    c.in_ok-outcome-in-Some-agreed_remain.ensures.length c.in_ok-outcome-in-Some-agreed_remain.ensures.parts parts e
