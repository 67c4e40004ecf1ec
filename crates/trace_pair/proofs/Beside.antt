-- A legal matching is one beside which some doubtful messages and receives stand as if they were void.
use Rattle.std.proofs.Common.{◌≡◌, Bool, true, false, List, refl}
use Rattle.std.specs.List.{list_any}
use Rattle.mpi_model.specs.declared.event.OpName.{OpName}
use Rattle.mpi_model.specs.declared.message.Message.{Message}
use Rattle.mpi_model.specs.declared.message.Receive.{Receive}
use Rattle.trace_pair.specs.Matching.{IsLegal, IsLegalBeside, SomeOf}
use Rattle.trace_pair.specs.Pairing.{After}
use Rattle.mpi_model.specs.Trusts.{is_doubtful}
use Rattle.trace_pair.proofs.Obeyed.{any_found, any_of}

-- whichever stand outside, the matching is legal
pub legal_beside : (after : After) (ms : List Message) (qs : List Receive) (Couple : Message → Receive → Type 0) (Unsent : Message → Type 0) (Unposted : Receive → Type 0) →
    IsLegalBeside after ms qs Couple Unsent Unposted → IsLegal after ms qs Couple
legal_beside after ms qs Couple Unsent Unposted l = record {
  one_receive = l.one_receive;
  one_message = l.one_message;
  fit = l.fit;
  not_after = l.not_after;
  progress = λ m q i j f no joins_m joins_q. l.progress m q i j f no
      (λ u. let r = joins_m (l.unsent m i u) in l.unsent_apart m r.0 i r.1 r.2 u)
      (λ u. let n = joins_q (l.unposted q j u) in l.unposted_apart n.0 q n.1 j n.2 u);
}

some_unless_not : {X : Type 0} (p : X → Bool) (xs : List X) → ((SomeOf xs (λ x. p x ≡ true) → ⊥) → ⊥) → SomeOf xs (λ x. p x ≡ true)
some_unless_not {X = X} p xs h =
    elim (list_any p xs) as (λ b. list_any p xs ≡ b → SomeOf xs (λ x. p x ≡ true)) [
      | true ↦ λ e. any_found p xs e
      | false ↦ λ e. absurd (h (λ w. let g = any_of p xs w.0 w.1 w.2 in absurd (cc)))
    ] refl

-- and beside a legal matching stand the doubtful ones that are in no couple
module _ (after : After) (ms : List Message) (qs : List Receive) (L : OpName → OpName → Bool) where
  pub beside_legal : IsLegal after ms qs (λ m q. L m.name q.name ≡ true) → IsLegalBeside after ms qs (λ m q. L m.name q.name ≡ true)
      (λ m. (is_doubtful m.trust ≡ true) × (SomeOf qs (λ r. L m.name r.name ≡ true) → ⊥))
      (λ q. (is_doubtful q.trust ≡ true) × (SomeOf ms (λ n. L n.name q.name ≡ true) → ⊥))
  beside_legal l = record {
    unsent = λ m i u. u.0;
    unposted = λ q j u. u.0;
    unsent_apart = λ m q i j c u. u.1 (q, j, c);
    unposted_apart = λ m q i j c u. u.1 (m, i, c);
    one_receive = l.one_receive;
    one_message = l.one_message;
    fit = l.fit;
    not_after = l.not_after;
    progress = λ m q i j f no not_m not_q. l.progress m q i j f no
        (λ d. some_unless_not (λ (r : Receive). L m.name r.name) qs (λ none. not_m (d, none)))
        (λ d. some_unless_not (λ (n : Message). L n.name q.name) ms (λ none. not_q (d, none)));
  }
