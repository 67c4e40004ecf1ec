use Rattle.std.proofs.Common.{ap}
use Rattle.call_words.specs.Words.{received_text, sent_text}
use Rattle.call_words.proofs.Adding.{then, reads}
use Rattle.call_words.proofs.calls.put_exchange.Goals as goal

pub returns : goal.returns
returns c = then (then (then c.put.ensures (reads c.put_sent.ensures (ap sent_text c.send.ensures.value))) c.put-2.ensures) (reads c.put_received.ensures (ap received_text c.receive.ensures.value))
