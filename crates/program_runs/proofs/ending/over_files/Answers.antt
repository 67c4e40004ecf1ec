use Rattle.std.proofs.Common.{inl, inr, refl}
use Rattle.std.proofs.lemmas.Result.{IfOk-weaker}
use Rattle.program_runs.proofs.ending.over_files.Goals as goal

pub returns-then-are_texts : goal.returns-then-are_texts
returns-then-are_texts g c = IfOk-weaker c.over_texts.result _ _ (λ e h. inl (c.are_texts.ensures c.if-are_texts.true, h)) c.over_texts.ensures

pub returns-in-Some : goal.returns-in-Some
returns-in-Some g c = IfOk-weaker c.over_pair.result _ _ (λ e h. inr (inl (_, _, c.in-Some.ensures.two, h))) c.over_pair.ensures

pub returns-in-None : goal.returns-in-None
returns-in-None g c =
    IfOk-weaker c.over_no_texts.result _ _ (λ e h. inr (inr (c.two_of.ensures.other c.in-None.is, refl, h))) c.over_no_texts.ensures
