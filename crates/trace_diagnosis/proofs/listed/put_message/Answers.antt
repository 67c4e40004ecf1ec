use Rattle.trace_diagnosis.proofs.Listing.{put_all}
use Rattle.trace_diagnosis.proofs.listed.put_message.Goals as goal

pub returns : goal.returns
returns c = λ p h.
    put_all c.args.m.now p _ _ _ _ _ (c.in_ok-put_under.ensures p h) (c.in_ok-put_under-2.ensures p h) (c.in_ok-put_under-3.ensures p h) (c.in_ok-put_under-4.ensures p h)
