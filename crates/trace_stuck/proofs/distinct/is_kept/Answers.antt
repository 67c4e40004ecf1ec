use Rattle.trace_stuck.proofs.distinct.is_kept.Goals as goal

pub returns-in-Some : goal.returns-in-Some
returns-in-Some c = λ h. (c.guess_for.result, c.in-Some.earlier.now, c.in-Some.ensures, c.is_repeated.ensures h)
