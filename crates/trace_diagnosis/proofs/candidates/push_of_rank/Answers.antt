use Rattle.std.proofs.Common.{◌∙◌, ◌++◌, ◌&&◌, Bool, List, ap, filter}
use Rattle.std.specs.Prelude.{is_none}
use Rattle.std.specs.BTreeSet.{contains}
use Rattle.mpi_model.specs.Trusts.{is_sure}
use Rattle.mpi_model.specs.declared.message.Receive.{Receive}
use Rattle.trace_pair.specs.KeyOrders.{name_cmp}
use Rattle.trace_wait.specs.Matching.{is_unpaired_receive}
use Rattle.trace_diagnosis.specs.Starving.{is_pending, may_starve, waiting_probe}
use Rattle.trace_diagnosis.proofs.Listing.{filter_on, three_behind}
use Rattle.trace_diagnosis.proofs.candidates.push_of_rank.Goals as goal

pub returns : goal.returns
returns c =
    let pairs = c.args.pairs.now in
    let own = c.args.own.now in
    let polls = c.args.polls.now in
    let old = c.args.found.now.items in
    let pending = contains name_cmp c.in_ok-pending.pending in
    let w = waiting_probe c.args.layout.now c.args.rank own.waiting in
    let same = filter_on (may_starve pending pairs) (may_starve (is_pending c.args.rank own) pairs) own.receives
    (λ q i. ap (λ (b : Bool). is_sure q.trust && is_none q.ended && b && is_unpaired_receive pairs q) (c.in_ok-pending.ensures q.name)) in
    c.in_ok-extend_from_slice.ensures.items
    ∙ ap (λ (l : List Receive). l ++ polls) (c.in_ok-push_waiting.ensures ∙ ap (λ (l : List Receive). l ++ w) (c.in_ok-push_receives.ensures
    ∙ ap (λ (l : List Receive). old ++ filter (may_starve pending pairs) l) c.receives.ensures ∙ ap (λ (l : List Receive). old ++ l) same))
    ∙ three_behind old (filter (may_starve (is_pending c.args.rank own) pairs) own.receives) w polls
