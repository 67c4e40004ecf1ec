use Rattle.std.proofs.Common.{◌∙◌, ap}
use Rattle.page_words.specs.Page.{page_around}
use Rattle.program_runs.proofs.page.page_with.Goals as goal

pub returns-clause-ok : goal.returns-clause-ok
returns-clause-ok g c =
    (c.in_ok-json.json.items, c.in_ok-json.ensures.ok, c.in_ok-page.ensures ∙ ap page_around c.deref.ensures.value)
