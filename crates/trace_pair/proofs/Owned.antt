-- The calls of all ranks, where each rank's are its own and in order.
use Rattle.std.proofs.Common.{◌≡◌, ℕ, ◌+◌, ◌<◌, true, List, [], ◌∷◌, ◌++◌, inl, inr, ⊎_elim, refl, sym, ◌∙◌, arith}
use Rattle.std.proofs.lemmas.Bool.Decides.{nat_tests}
use Rattle.mpi_model.specs.declared.event.OpName.{OpName}
use Rattle.mpi_model.specs.declared.message.Message.{Message}
use Rattle.mpi_model.specs.declared.message.Receive.{Receive}
use Rattle.trace_ops.specs.Ops.{Ops, IsOwn, AreOwn}
use Rattle.trace_ops.specs.Order.{Has, AreInOrder, ArePosted}
use Rattle.trace_pair.specs.Calls.{IsOwnMessage, IsOwnReceive, AreApart, ArePostedApart}
use Rattle.trace_pair.specs.Indexed.{name_lt}
use Rattle.trace_pair.specs.Table.{sends_of, receives_of}
use Rattle.trace_pair.specs.Rising.{AreRising}
use Rattle.trace_pair.proofs.Listed.{one_named}
use Rattle.trace_pair.proofs.Names.{sent_listed, posted_listed, named_message, named_receive}
use Rattle.trace_pair.proofs.Ranked.{at_least}
use Rattle.trace_pair.proofs.Ranks.{has_either}

-- each call is its rank's own, and calls at one place are one call
pub record AreOwnCalls (ms : List Message) (qs : List Receive) : Type 0 where
  pub senders : (m : Message) → Has ms m → IsOwnMessage m
  pub receivers : (q : Receive) → Has qs q → IsOwnReceive q
  pub messages_apart : AreApart ms
  pub receives_apart : ArePostedApart qs

rising_both : {X : Type 0} (name : X → OpName) (xs ys : List X) → AreRising name xs → AreRising name ys → ((x y : X) → Has xs x → Has ys y → name_lt (name x) (name y) ≡ true) → AreRising name (xs ++ ys)
rising_both name [] ys a b h = b
rising_both {X = X} name (x ∷ xs) ys a b h =
    (λ y i. ⊎_elim (λ (j : Has xs y). a.0 y j) (λ (j : Has ys y). h x y (inl refl) j) (has_either xs ys y i), rising_both name xs ys a.1 b (λ v w i j. h v w (inr i) j))

sends_rise : (ms : List Message) → AreInOrder ms → ((m : Message) → Has ms m → IsOwnMessage m) → AreRising (λ m. m.name) ms
sends_rise [] o own = tt
sends_rise (m ∷ ms) o own = (λ n i. sent_listed m n (own m (inl refl)) (own n (inr i)) (o.0 n i), sends_rise ms o.1 (λ n i. own n (inr i)))

receives_rise : (qs : List Receive) → ArePosted qs → ((q : Receive) → Has qs q → IsOwnReceive q) → AreRising (λ q. q.name) qs
receives_rise [] o own = tt
receives_rise (q ∷ qs) o own = (λ r i. posted_listed q r (own q (inl refl)) (own r (inr i)) (o.0 r i), receives_rise qs o.1 (λ r i. own r (inr i)))

lower_rank : (a b : OpName) → a.rank < b.rank → name_lt a b ≡ true
lower_rank a b h = grind (arith, nat_tests)

own_message : (rank : ℕ) (o : Ops) (m : Message) → IsOwn rank o → Has o.sends m → IsOwnMessage m
own_message rank o m w i = w.sent m i ∙ sym (w.sent_from m i)

own_receive : (rank : ℕ) (o : Ops) (q : Receive) → IsOwn rank o → Has o.receives q → IsOwnReceive q
own_receive rank o q w i = w.posted q i ∙ sym (w.posted_at q i)

pub all_senders : (os : List Ops) (first : ℕ) → AreOwn first os → (m : Message) → Has (sends_of os) m → IsOwnMessage m
all_senders [] first a m i = absurd i
all_senders (o ∷ os) first a m i = ⊎_elim (λ (j : Has o.sends m). own_message first o m a.0 j) (λ (j : Has (sends_of os) m). all_senders os (first + 1) a.1 m j) (has_either o.sends (sends_of os) m i)

pub all_receivers : (os : List Ops) (first : ℕ) → AreOwn first os → (q : Receive) → Has (receives_of os) q → IsOwnReceive q
all_receivers [] first a q i = absurd i
all_receivers (o ∷ os) first a q i = ⊎_elim (λ (j : Has o.receives q). own_receive first o q a.0 j) (λ (j : Has (receives_of os) q). all_receivers os (first + 1) a.1 q j) (has_either o.receives (receives_of os) q i)

pub all_sends_rise : (os : List Ops) (first : ℕ) → AreOwn first os → AreRising (λ m. m.name) (sends_of os)
all_sends_rise [] first a = tt
all_sends_rise (o ∷ os) first a =
    rising_both (λ m. m.name) o.sends (sends_of os) (sends_rise o.sends a.0.sends_rise (λ m i. own_message first o m a.0 i)) (all_sends_rise os (first + 1) a.1)
    (λ m n i j. let x = a.0.sent m i in let y = at_least (λ o. o.sends) (λ m. m.name.rank) (λ r o m w. w.sent m) os (first + 1) n a.1 j in lower_rank m.name n.name (omega arith))

pub all_receives_rise : (os : List Ops) (first : ℕ) → AreOwn first os → AreRising (λ q. q.name) (receives_of os)
all_receives_rise [] first a = tt
all_receives_rise (o ∷ os) first a =
    rising_both (λ q. q.name) o.receives (receives_of os) (receives_rise o.receives a.0.receives_rise (λ q i. own_receive first o q a.0 i)) (all_receives_rise os (first + 1) a.1)
    (λ q r i j. let x = a.0.posted q i in let y = at_least (λ o. o.receives) (λ q. q.name.rank) (λ r o q w. w.posted q) os (first + 1) r a.1 j in lower_rank q.name r.name (omega arith))

pub own_calls : (os : List Ops) → AreOwn 0 os → AreOwnCalls (sends_of os) (receives_of os)
own_calls os a = record {
  senders = all_senders os 0 a;
  receivers = all_receivers os 0 a;
  messages_apart = λ m n i j e. one_named (λ m. m.name) (sends_of os) m n (all_sends_rise os 0 a) i j (named_message m n (all_senders os 0 a m i) (all_senders os 0 a n j) e);
  receives_apart = λ q r i j e. one_named (λ q. q.name) (receives_of os) q r (all_receives_rise os 0 a) i j (named_receive q r (all_receivers os 0 a q i) (all_receivers os 0 a r j) e);
}
