use Rattle.std.proofs.Common.{◌∙◌, ap, List, count_by, nat_lt, subst, sym}
use Rattle.std.specs.List.Sorted.{IsNonDecreasingBy}
use Rattle.std.proofs.lemmas.List.Kept.{IsNonDecreasingBy-filter}
use Rattle.std.specs.Prelude.{◌==◌}
use Rattle.trace_ops.specs.declared.entered.Entered.{Entered}
use Rattle.trace_wait.specs.Ranks.{ops_of}
use Rattle.trace_wait.proofs.Before.{calls_rise, count_on}
use Rattle.trace_wait.proofs.entries.Entries.round_number.Goals as goal

pub count_before-requires : goal.count_before-requires
count_before-requires c =
    let comm = c.args.entered.now.comm in
    let rounds = (ops_of c.args.self.now c.args.r).rounds in
    subst (IsNonDecreasingBy (λ (e : Entered). e.call)) (sym c.on.ensures) (IsNonDecreasingBy-filter (λ (e : Entered). e.call) (λ (e : Entered). e.comm == comm) rounds (calls_rise rounds c.requires))

pub returns : goal.returns
returns c =
    let comm = c.args.entered.now.comm in
    let n = c.args.entered.now.call in
    let rounds = (ops_of c.args.self.now c.args.r).rounds in
    c.count_before.ensures ∙ ap (λ (l : List Entered). count_by (λ e. nat_lt e.call n) l) c.on.ensures ∙ count_on comm n rounds
