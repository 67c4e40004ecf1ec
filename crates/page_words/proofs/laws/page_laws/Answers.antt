use Rattle.page_words.proofs.Markup.{stays_out}
use Rattle.page_words.proofs.laws.page_laws.Goals as goal

pub returns : goal.returns
returns c = stays_out
