use Rattle.std.proofs.Common.{◌∙◌, ◌||◌, Bool, ap}
use Rattle.std.specs.BTreeSet.{contains}
use Rattle.trace_pair.specs.KeyOrders.{name_cmp}
use Rattle.trace_pair.specs.Table.{same_name}
use Rattle.trace_diagnosis.proofs.Listing.{any_next}
use Rattle.trace_diagnosis.proofs.Naming.{name_same}
use Rattle.trace_diagnosis.proofs.candidates.note_posts.Goals as goal

pub loop-post-preserved : goal.loop-post-preserved
loop-post-preserved c = λ n.
    any_next (λ p. same_name p.1 n) c.args.active.now c.loop-post.post-index _ _ _ _ c.loop-post-test.true (c.loop-post.invariant n)
    (c.in_ok-note.ensures n ∙ ap (λ (b : Bool). b || contains name_cmp c.loop-post.names n) (name_same _ n))
