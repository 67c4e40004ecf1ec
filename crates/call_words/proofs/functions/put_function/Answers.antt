use Rattle.std.proofs.Common.{ap, codes, sym, ◌∙◌}
use Rattle.mpi_model.specs.declared.envelope.CommRef.{CommRef}
use Rattle.mpi_model.specs.declared.envelope.Envelope.{Envelope}
use Rattle.call_words.specs.Functions.{function_text}
use Rattle.call_words.specs.Words.{on_text}
use Rattle.call_words.proofs.Adding.{reads}
use Rattle.call_words.proofs.functions.put_function.Goals as goal

pub returns-in-Sendrecv : goal.returns-in-Sendrecv
returns-in-Sendrecv c = reads c.put_on-in-Sendrecv.ensures (ap (λ (e : Envelope). on_text (codes "MPI_Sendrecv") e.comm) c.send.ensures.value ∙ sym (ap function_text c.in-Sendrecv.is))

pub returns-in-Waitany : goal.returns-in-Waitany
returns-in-Waitany c = reads c.put-in-Waitany.ensures (sym (ap function_text c.in-Waitany.is))

pub returns-in-Waitsome : goal.returns-in-Waitsome
returns-in-Waitsome c = reads c.put-in-Waitsome.ensures (sym (ap function_text c.in-Waitsome.is))

pub returns-in-Testany : goal.returns-in-Testany
returns-in-Testany c = reads c.put-in-Testany.ensures (sym (ap function_text c.in-Testany.is))

pub returns-in-Testsome : goal.returns-in-Testsome
returns-in-Testsome c = reads c.put-in-Testsome.ensures (sym (ap function_text c.in-Testsome.is))

pub returns-in-Cancel : goal.returns-in-Cancel
returns-in-Cancel c = reads c.put-in-Cancel.ensures (sym (ap function_text c.in-Cancel.is))

pub returns-in-Free : goal.returns-in-Free
returns-in-Free c = reads c.put-in-Free.ensures (sym (ap function_text c.in-Free.is))

pub returns-in-Unread : goal.returns-in-Unread
returns-in-Unread c = reads c.put-in-Unread.ensures (sym (ap function_text c.in-Unread.is))

pub returns-in-Startall : goal.returns-in-Startall
returns-in-Startall c = reads c.put-in-Startall.ensures (sym (ap function_text c.in-Startall.is))

pub returns-in-Imrecv : goal.returns-in-Imrecv
returns-in-Imrecv c = reads c.put-in-Imrecv.ensures (sym (ap function_text c.in-Imrecv.is))

pub returns-in-RecvInit : goal.returns-in-RecvInit
returns-in-RecvInit c = reads c.put_on-in-RecvInit.ensures (ap (λ (e : Envelope). on_text (codes "MPI_Recv_init") e.comm) c.envelope-in-RecvInit.ensures.value ∙ sym (ap function_text c.in-RecvInit.is))

pub returns-in-Improbe : goal.returns-in-Improbe
returns-in-Improbe c = reads c.put_on-in-Improbe.ensures (ap (λ (m : CommRef). on_text (codes "MPI_Improbe") m) c.comm-in-Improbe.ensures.value ∙ sym (ap function_text c.in-Improbe.is))

pub returns-in-Iprobe : goal.returns-in-Iprobe
returns-in-Iprobe c = reads c.put_on-in-Iprobe.ensures (ap (λ (m : CommRef). on_text (codes "MPI_Iprobe") m) c.comm-in-Iprobe.ensures.value ∙ sym (ap function_text c.in-Iprobe.is))
