use Rattle.std.proofs.Common.{ℤ, List, ap, codes, length, sym, ◌∙◌}
use Rattle.mpi_model.specs.declared.envelope.Envelope.{Envelope}
use Rattle.call_words.specs.Words.{call_text, of_requests_text, receive_text}
use Rattle.call_words.proofs.Adding.{reads}
use Rattle.call_words.proofs.calls.put_call.Goals as goal

pub returns-in-Waitall : goal.returns-in-Waitall
returns-in-Waitall c = reads c.put_of_requests.ensures (ap (λ (l : List ℤ). of_requests_text (codes "MPI_Waitall") (length l)) c.as_slice.ensures ∙ sym (ap call_text c.in-Waitall.is))

pub returns-in-Waitany : goal.returns-in-Waitany
returns-in-Waitany c = reads c.put_of_requests-in-Waitany.ensures (ap (λ (l : List ℤ). of_requests_text (codes "MPI_Waitany") (length l)) c.as_slice-in-Waitany.ensures ∙ sym (ap call_text c.in-Waitany.is))

pub returns-in-Waitsome : goal.returns-in-Waitsome
returns-in-Waitsome c = reads c.put_of_requests-in-Waitsome.ensures (ap (λ (l : List ℤ). of_requests_text (codes "MPI_Waitsome") (length l)) c.as_slice-in-Waitsome.ensures ∙ sym (ap call_text c.in-Waitsome.is))

pub returns-in-Testall : goal.returns-in-Testall
returns-in-Testall c = reads c.put_of_requests-in-Testall.ensures (ap (λ (l : List ℤ). of_requests_text (codes "MPI_Testall") (length l)) c.as_slice-in-Testall.ensures ∙ sym (ap call_text c.in-Testall.is))

pub returns-in-Testany : goal.returns-in-Testany
returns-in-Testany c = reads c.put_of_requests-in-Testany.ensures (ap (λ (l : List ℤ). of_requests_text (codes "MPI_Testany") (length l)) c.as_slice-in-Testany.ensures ∙ sym (ap call_text c.in-Testany.is))

pub returns-in-Testsome : goal.returns-in-Testsome
returns-in-Testsome c = reads c.put_of_requests-in-Testsome.ensures (ap (λ (l : List ℤ). of_requests_text (codes "MPI_Testsome") (length l)) c.as_slice-in-Testsome.ensures ∙ sym (ap call_text c.in-Testsome.is))

pub returns-in-Wait : goal.returns-in-Wait
returns-in-Wait c = reads c.put-in-Wait.ensures (sym (ap call_text c.in-Wait.is))

pub returns-in-Test : goal.returns-in-Test
returns-in-Test c = reads c.put-in-Test.ensures (sym (ap call_text c.in-Test.is))

pub returns-in-Cancel : goal.returns-in-Cancel
returns-in-Cancel c = reads c.put-in-Cancel.ensures (sym (ap call_text c.in-Cancel.is))

pub returns-in-Free : goal.returns-in-Free
returns-in-Free c = reads c.put-in-Free.ensures (sym (ap call_text c.in-Free.is))

pub returns-in-Unread : goal.returns-in-Unread
returns-in-Unread c = reads c.put-in-Unread.ensures (sym (ap call_text c.in-Unread.is))

pub returns-in-Start : goal.returns-in-Start
returns-in-Start c = reads c.put-in-Start.ensures (sym (ap call_text c.in-Start.is))

pub returns-in-Startall : goal.returns-in-Startall
returns-in-Startall c = reads c.put_of_requests-in-Startall.ensures (ap (λ (l : List ℤ). of_requests_text (codes "MPI_Startall") (length l)) c.as_slice-in-Startall.ensures ∙ sym (ap call_text c.in-Startall.is))

pub returns-in-Imrecv : goal.returns-in-Imrecv
returns-in-Imrecv c = reads c.put-in-Imrecv.ensures (sym (ap call_text c.in-Imrecv.is))

pub returns-in-RecvInit : goal.returns-in-RecvInit
returns-in-RecvInit c = reads c.put_receive-in-RecvInit.ensures (ap (λ (e : Envelope). receive_text (codes "MPI_Recv_init") e) c.envelope-in-RecvInit.ensures.value ∙ sym (ap call_text c.in-RecvInit.is))

pub returns-in-Improbe : goal.returns-in-Improbe
returns-in-Improbe c = reads c.put_probe-in-Improbe.ensures (sym (ap call_text c.in-Improbe.is))

pub returns-in-Iprobe : goal.returns-in-Iprobe
returns-in-Iprobe c = reads c.put_probe-in-Iprobe.ensures (sym (ap call_text c.in-Iprobe.is))
