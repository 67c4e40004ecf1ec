use Rattle.trace_pair.proofs.Queued.{none_of_kinds}
use Rattle.trace_pair.proofs.queues.Receives.fits_some.Goals as goal

pub returns-clause-no : goal.returns-clause-no
returns-clause-no c = λ h. none_of_kinds c.args.self.now c.args.m.now (c.fits_with.ensures.no c.if-fits_with.false) (c.fits_with-2.ensures.no c.if-fits_with-2.false) (c.fits_with-3.ensures.no c.if-fits_with-3.false)
    (c.fits_with-4.ensures.no h)
