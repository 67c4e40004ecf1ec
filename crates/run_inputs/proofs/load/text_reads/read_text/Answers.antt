use Rattle.run_inputs.proofs.load.text_reads.read_text.Goals as goal

pub returns : goal.returns
returns g c = record { ok = c.calls_of_seat-calls.ensures.ok; err = c.calls_of_seat-calls.ensures.err }
