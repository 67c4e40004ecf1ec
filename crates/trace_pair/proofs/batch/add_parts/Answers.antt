use Rattle.std.proofs.Common.{ℕ, true, false, List, Option, ap, subst, sym, ◌∙◌, length}
use Rattle.std.specs.List.{AllZip}
use Rattle.trace_pair.specs.After.{comes_after}
use Rattle.trace_pair.specs.Indexed.{with_kind}
use Rattle.trace_pair.specs.Settled.{SettlesAmong, IsOfferedAt}
use Rattle.trace_pair.specs.declared.batch.Batch.{Batch}
use Rattle.trace_pair.proofs.PartKinds.{any_first, tagged_then, all_kinds}
use Rattle.trace_pair.proofs.SettlingParts.{absent_part, all_settled}
use Rattle.trace_pair.proofs.batch.add_parts.Goals as goal

pub settle_receives-requires-clause-long : goal.settle_receives-requires-clause-long
settle_receives-requires-clause-long c = ap (λ (l : List (Option ℕ)). length l) c.deref.ensures.value ∙ c.in_ok-found.ensures.long

pub settle_receives-requires-2-clause-long : goal.settle_receives-requires-2-clause-long
settle_receives-requires-2-clause-long c = ap (λ (l : List (Option ℕ)). length l) c.deref-2.ensures.value ∙ c.in_ok-found.ensures.long

pub returns : goal.returns
returns c = λ ms qs more adds apart s.
    let after = comes_after c.args.reaches.now in
    let call = c.args.call.now in
    let first = c.in_ok-enter_receives.ensures after ms qs more adds apart s in
    let offered = c.in_ok-found.ensures.found ms qs more adds first in
    let at = λ (l : List (Option ℕ)). AllZip (IsOfferedAt after ms qs more) call l in
    let absent = absent_part after ms qs more call adds in
    let any = c.in_ok-settle_receives.ensures.settled after ms qs more qs adds (subst at (sym c.deref.ensures.value) offered) (any_first qs call absent) (subst (λ (b : Batch). SettlesAmong after ms more qs more b) (sym c.offered_places.ensures.kept) first) in
    let tagged = c.in_ok-settle_receives-2.ensures.settled after ms qs more (with_kind true call qs) adds (subst at (sym c.deref-2.ensures.value) offered) (tagged_then qs call absent) any in
    all_settled after ms qs more call adds (with_kind false call (with_kind true call qs)) c.settle_receives-2.new.batch (all_kinds qs call more adds.cases) tagged
