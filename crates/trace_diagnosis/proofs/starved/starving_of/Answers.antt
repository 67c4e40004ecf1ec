use Rattle.std.proofs.Common.{◌≡◌, ◌∙◌, ap, filter, true}
use Rattle.std.specs.BTreeSet.{contains}
use Rattle.std.specs.List.{list_all, list_any}
use Rattle.std.specs.Ordering.{is_eq}
use Rattle.mpi_model.specs.declared.message.Receive.{Receive}
use Rattle.trace_ops.specs.Order.{Has}
use Rattle.trace_pair.specs.After.{comes_after}
use Rattle.trace_pair.specs.Ends.{may_take}
use Rattle.trace_wait.specs.Patterns.{pattern_cmp, pattern_of}
use Rattle.trace_diagnosis.specs.Listed.{is_starved_by}
use Rattle.trace_diagnosis.specs.Starving.{is_starved, opened_before}
use Rattle.trace_diagnosis.proofs.Listing.{filter_on, has_any}
use Rattle.trace_diagnosis.proofs.Naming.{pattern_itself}
use Rattle.trace_diagnosis.proofs.starved.starving_of.Goals as goal

pub returns : goal.returns
returns c =
    let ops = c.args.ops.now in
    let messages = c.args.messages.now in
    let lists = c.in_ok-lists.lists in
    let receives = c.in_ok-receives.receives.items in
    let asked = c.in_ok-asked.asked in
    let is_asked : (q : Receive) → Has receives q → contains pattern_cmp asked (pattern_of q) ≡ true =
    λ q i. c.in_ok-asked.ensures (pattern_of q) ∙ ap (list_any (λ u. is_eq (pattern_cmp (pattern_of u) (pattern_of q)))) c.deref.ensures.value ∙ has_any (λ u. is_eq (pattern_cmp (pattern_of u) (pattern_of q))) receives q i (pattern_itself (pattern_of q)) in
    c.in_ok-found.ensures
    ∙ ap (filter (is_starved_by ops lists)) c.deref-2.ensures.value
    ∙ filter_on (is_starved_by ops lists) (is_starved ops messages) receives
    (λ q i. ap (list_all (may_take (comes_after ops) (opened_before ops q))) (c.in_ok-lists.ensures (pattern_of q) (is_asked q i)))
    ∙ ap (filter (is_starved ops messages)) c.in_ok-receives.ensures
