-- The order of names: by rank, then by call, and then by part.
use Rattle.std.proofs.Common.{◌≡◌, ℕ, true, ◌&&◌, ◌∙◌, sym, ap, arith, eqb}
use Rattle.std.proofs.lemmas.Bool.Decides.{nat_tests}
use Rattle.mpi_model.specs.declared.event.OpName.{OpName}
use Rattle.mpi_model.specs.declared.message.Message.{Message}
use Rattle.mpi_model.specs.declared.message.Receive.{Receive}
use Rattle.trace_ops.specs.Order.{named_before}
use Rattle.trace_pair.specs.Places.{sent_at, posted_at}
use Rattle.trace_pair.specs.Calls.{IsOwnMessage, IsOwnReceive}
use Rattle.trace_pair.specs.Indexed.{name_lt}
use Rattle.trace_pair.proofs.Obeyed.{both}
use Rattle.trace_pair.proofs.Certain.{same_name, one_call, one_part}

same_number : (a b : ℕ) → eqb a b ≡ true → a ≡ b
same_number a b h = grind (arith, nat_tests)

-- and so what stands before in the list of a rank
listed_name : (a b : OpName) → a.rank ≡ b.rank → named_before a b ≡ true → name_lt a b ≡ true
listed_name a b e h = grind (arith, nat_tests)

pub sent_listed : (m n : Message) → IsOwnMessage m → IsOwnMessage n → ((eqb m.from n.from) && named_before m.name n.name) ≡ true → name_lt m.name n.name ≡ true
sent_listed m n o p h =
    let b = both (eqb m.from n.from) (named_before m.name n.name) h in
    listed_name m.name n.name (o ∙ same_number m.from n.from b.0 ∙ sym p) b.1

pub posted_listed : (q r : Receive) → IsOwnReceive q → IsOwnReceive r → ((eqb q.at r.at) && named_before q.name r.name) ≡ true → name_lt q.name r.name ≡ true
posted_listed q r o p h =
    let b = both (eqb q.at r.at) (named_before q.name r.name) h in
    listed_name q.name r.name (o ∙ same_number q.at r.at b.0 ∙ sym p) b.1

pub name_along : (a b c : OpName) → name_lt a b ≡ true → name_lt b c ≡ true → name_lt a c ≡ true
name_along a b c h g = grind (arith, nat_tests)

-- calls of one name stand at one place
pub placed : (m n : Message) → IsOwnMessage m → IsOwnMessage n → m.name ≡ n.name → sent_at m ≡ sent_at n
placed m n o p e = same_name (sent_at m) (sent_at n) (sym o ∙ ap (λ (x : OpName). x.rank) e ∙ p) (one_call m.name n.name e) (one_part m.name n.name e)

pub placed_receive : (q r : Receive) → IsOwnReceive q → IsOwnReceive r → q.name ≡ r.name → posted_at q ≡ posted_at r
placed_receive q r o p e = same_name (posted_at q) (posted_at r) (sym o ∙ ap (λ (x : OpName). x.rank) e ∙ p) (one_call q.name r.name e) (one_part q.name r.name e)

-- receives at one place have one name
pub named_receive : (q r : Receive) → IsOwnReceive q → IsOwnReceive r → posted_at q ≡ posted_at r → q.name ≡ r.name
named_receive q r o p e = same_name q.name r.name (o ∙ ap (λ (x : OpName). x.rank) e ∙ sym p) (one_call (posted_at q) (posted_at r) e) (one_part (posted_at q) (posted_at r) e)

pub named_message : (m n : Message) → IsOwnMessage m → IsOwnMessage n → sent_at m ≡ sent_at n → m.name ≡ n.name
named_message m n o p e = same_name m.name n.name (o ∙ ap (λ (x : OpName). x.rank) e ∙ sym p) (one_call (sent_at m) (sent_at n) e) (one_part (sent_at m) (sent_at n) e)
