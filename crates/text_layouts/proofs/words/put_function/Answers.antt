use Rattle.std.proofs.Common.{◌∙◌}
use Rattle.text_layouts.proofs.Adding.{reads}
use Rattle.text_layouts.proofs.words.put_function.Goals as goal

pub returns : goal.returns
returns c = reads c.put.ensures (c.as_bytes.ensures.value ∙ c.function_text.ensures)
