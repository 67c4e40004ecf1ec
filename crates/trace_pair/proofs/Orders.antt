-- The orders of calls and keys are total, and tell all apart.
use Rattle.std.proofs.Common.{◌≡◌, ℕ, true, refl, ◌∙◌, ap, arith, Option, Some, None, ℤ, ◌<ℤ◌, inl, inr}
use Rattle.std.specs.declared.cmp.Ordering.{Ordering}
use Rattle.std.specs.declared.cmp.Ordering.TheVariants.{Less, Equal, Greater}
use Rattle.std.specs.Ordering.{nat_cmp, int_cmp, ordering_then, is_gt}
use Rattle.std.specs.Option.{option_cmp}
use Rattle.std.specs.Cmp.{IsTotalOrder}
use Rattle.std.specs.Cmp.Lexicographic.{options_total}
use Rattle.std.proofs.lemmas.Cmp.{on_total, then_total, nat_cmp_total, int_cmp_total, int_ranked, by_ranked}
use Rattle.std.proofs.lemmas.Bool.{cases_lt}
use Rattle.mpi_model.specs.declared.envelope.Mode.{Mode}
use Rattle.mpi_model.specs.declared.envelope.Mode.TheVariants.{Standard, Synchronous, Buffered, Ready}
use Rattle.mpi_model.specs.contracts.envelope.ModeOrd.TheImpl.Laws as mode_laws
use Rattle.mpi_model.specs.contracts.message.TrustOrd.TheImpl.Laws as trust_laws
use Rattle.std.proofs.lemmas.Bool.Decides.{nat_tests}
use Rattle.std.proofs.lemmas.Map.Lookups.{CmpEqualImpliesEq}
use Rattle.mpi_model.specs.declared.event.OpName.{OpName}
use Rattle.mpi_model.specs.declared.message.Message.{Message}
use Rattle.mpi_model.specs.declared.message.Receive.{Receive}
use Rattle.mpi_model.specs.declared.message.Trust.{Trust}
use Rattle.mpi_model.specs.declared.message.Trust.TheVariants.{Sure, Doubtful, Void}
use Rattle.trace_pair.specs.Indexed.{name_lt}
use Rattle.trace_pair.specs.KeyOrders.{name_cmp, message_cmp, receive_cmp, Queue, queue_cmp, Lane, lane_cmp, ReceiveKey, receive_key_cmp, mode_cmp, trust_cmp}

then_equal : (a b : Ordering) → ordering_then a b ≡ Equal → (a ≡ Equal) × (b ≡ Equal)
then_equal Less b h = absurd (cc)
then_equal Equal b h = (refl, h)
then_equal Greater b h = absurd (cc)

pub exact_nats : CmpEqualImpliesEq nat_cmp
exact_nats a b h = grind (arith, nat_tests)

exact_ints : CmpEqualImpliesEq int_cmp
exact_ints a b h = by_ranked (a <ℤ b) (a ≡ b) (b <ℤ a) (int_cmp a b) (int_ranked a b (int_cmp a b) refl) (λ e _. absurd (cc)) (λ _ e. e) (λ e _. absurd (cc))

exact_modes : CmpEqualImpliesEq mode_cmp
exact_modes Standard Standard h = refl
exact_modes Synchronous Synchronous h = refl
exact_modes Buffered Buffered h = refl
exact_modes Ready Ready h = refl
exact_modes Standard Synchronous h = absurd (cc)
exact_modes Standard Buffered h = absurd (cc)
exact_modes Standard Ready h = absurd (cc)
exact_modes Synchronous Standard h = absurd (cc)
exact_modes Synchronous Buffered h = absurd (cc)
exact_modes Synchronous Ready h = absurd (cc)
exact_modes Buffered Standard h = absurd (cc)
exact_modes Buffered Synchronous h = absurd (cc)
exact_modes Buffered Ready h = absurd (cc)
exact_modes Ready Standard h = absurd (cc)
exact_modes Ready Synchronous h = absurd (cc)
exact_modes Ready Buffered h = absurd (cc)

exact_trusts : CmpEqualImpliesEq trust_cmp
exact_trusts Sure Sure h = refl
exact_trusts Doubtful Doubtful h = refl
exact_trusts Void Void h = refl
exact_trusts Sure Doubtful h = absurd (cc)
exact_trusts Sure Void h = absurd (cc)
exact_trusts Doubtful Sure h = absurd (cc)
exact_trusts Doubtful Void h = absurd (cc)
exact_trusts Void Sure h = absurd (cc)
exact_trusts Void Doubtful h = absurd (cc)

exact_options : CmpEqualImpliesEq (option_cmp nat_cmp)
exact_options None None h = refl
exact_options None (Some b) h = absurd (cc)
exact_options (Some a) None h = absurd (cc)
exact_options (Some a) (Some b) h = ap (λ (x : ℕ). Some x) (exact_nats a b h)

pub name_total : IsTotalOrder name_cmp
name_total = then_total (on_total (λ (x : OpName). x.rank) nat_cmp_total) (then_total (on_total (λ (x : OpName). x.call) nat_cmp_total) (on_total (λ (x : OpName). x.part) nat_cmp_total))

pub messages_total : IsTotalOrder message_cmp
messages_total = then_total (on_total (λ (x : Message). x.name) name_total) (then_total (on_total (λ (x : Message). x.comm) nat_cmp_total) (then_total (on_total (λ (x : Message). x.from) nat_cmp_total) (then_total (on_total (λ (x : Message). x.to) nat_cmp_total) (then_total (on_total (λ (x : Message). x.tag) nat_cmp_total) (then_total (on_total (λ (x : Message). x.mode) mode_laws.total-law) (then_total (on_total (λ (x : Message). x.trust) trust_laws.total-law) (then_total (on_total (λ (x : Message). x.count) nat_cmp_total) (on_total (λ (x : Message). x.datatype) int_cmp_total))))))))

pub receives_total : IsTotalOrder receive_cmp
receives_total = then_total (on_total (λ (x : Receive). x.name) name_total) (then_total (on_total (λ (x : Receive). x.comm) nat_cmp_total) (then_total (on_total (λ (x : Receive). x.at) nat_cmp_total) (then_total (on_total (λ (x : Receive). x.source) (options_total nat_cmp_total)) (then_total (on_total (λ (x : Receive). x.tag) (options_total nat_cmp_total)) (then_total (on_total (λ (x : Receive). x.count) nat_cmp_total) (then_total (on_total (λ (x : Receive). x.trust) trust_laws.total-law) (then_total (on_total (λ (x : Receive). x.datatype) int_cmp_total) (on_total (λ (x : Receive). x.ended) (options_total nat_cmp_total)))))))))

pub queues_total : IsTotalOrder queue_cmp
queues_total = then_total (then_total (then_total (on_total (λ (x : Queue). x.0) nat_cmp_total) (on_total (λ (x : Queue). x.1) nat_cmp_total)) (on_total (λ (x : Queue). x.2) nat_cmp_total)) (on_total (λ (x : Queue). x.3) nat_cmp_total)

pub lanes_total : IsTotalOrder lane_cmp
lanes_total = then_total (then_total (on_total (λ (x : Lane). x.0) nat_cmp_total) (on_total (λ (x : Lane). x.1) nat_cmp_total)) (on_total (λ (x : Lane). x.2) nat_cmp_total)

pub receive_keys_total : IsTotalOrder receive_key_cmp
receive_keys_total = then_total (then_total (then_total (on_total (λ (x : ReceiveKey). x.0) nat_cmp_total) (on_total (λ (x : ReceiveKey). x.1) (options_total nat_cmp_total))) (on_total (λ (x : ReceiveKey). x.2) (options_total nat_cmp_total))) (on_total (λ (x : ReceiveKey). x.3) nat_cmp_total)

abbrev name : ℕ → ℕ → ℕ → OpName
name r c p = record { rank = r; call = c; part = p }

abbrev message : OpName → ℕ → ℕ → ℕ → ℕ → Mode → Trust → ℕ → ℤ → Message
message n c f t g k u e d = record { name = n; comm = c; from = f; to = t; tag = g; mode = k; trust = u; count = e; datatype = d }

abbrev receive : OpName → ℕ → ℕ → Option ℕ → Option ℕ → ℕ → Trust → ℤ → Option ℕ → Receive
receive n c a s g e u d f = record { name = n; comm = c; at = a; source = s; tag = g; count = e; trust = u; datatype = d; ended = f }

abbrev queue : ℕ → ℕ → ℕ → ℕ → Queue
queue a b c d = (a, b, c, d)

abbrev lane : ℕ → ℕ → ℕ → Lane
lane a b c = (a, b, c)

abbrev receive_key : ℕ → Option ℕ → Option ℕ → ℕ → ReceiveKey
receive_key a b c d = (a, b, c, d)

pub exact_names : CmpEqualImpliesEq name_cmp
exact_names a b h =
    let h0 = then_equal (nat_cmp a.rank b.rank) (ordering_then (nat_cmp a.call b.call) (nat_cmp a.part b.part)) h in
    let h1 = then_equal (nat_cmp a.call b.call) (nat_cmp a.part b.part) h0.1 in
    ap (λ x. name x a.call a.part) (exact_nats a.rank b.rank h0.0)
    ∙ ap (λ x. name b.rank x a.part) (exact_nats a.call b.call h1.0)
    ∙ ap (λ x. name b.rank b.call x) (exact_nats a.part b.part h1.1)

pub exact_messages : CmpEqualImpliesEq message_cmp
exact_messages a b h =
    let h0 = then_equal (name_cmp a.name b.name) (ordering_then (nat_cmp a.comm b.comm) (ordering_then (nat_cmp a.from b.from) (ordering_then (nat_cmp a.to b.to) (ordering_then (nat_cmp a.tag b.tag) (ordering_then (mode_cmp a.mode b.mode) (ordering_then (trust_cmp a.trust b.trust) (ordering_then (nat_cmp a.count b.count) (int_cmp a.datatype b.datatype)))))))) h in
    let h1 = then_equal (nat_cmp a.comm b.comm) (ordering_then (nat_cmp a.from b.from) (ordering_then (nat_cmp a.to b.to) (ordering_then (nat_cmp a.tag b.tag) (ordering_then (mode_cmp a.mode b.mode) (ordering_then (trust_cmp a.trust b.trust) (ordering_then (nat_cmp a.count b.count) (int_cmp a.datatype b.datatype))))))) h0.1 in
    let h2 = then_equal (nat_cmp a.from b.from) (ordering_then (nat_cmp a.to b.to) (ordering_then (nat_cmp a.tag b.tag) (ordering_then (mode_cmp a.mode b.mode) (ordering_then (trust_cmp a.trust b.trust) (ordering_then (nat_cmp a.count b.count) (int_cmp a.datatype b.datatype)))))) h1.1 in
    let h3 = then_equal (nat_cmp a.to b.to) (ordering_then (nat_cmp a.tag b.tag) (ordering_then (mode_cmp a.mode b.mode) (ordering_then (trust_cmp a.trust b.trust) (ordering_then (nat_cmp a.count b.count) (int_cmp a.datatype b.datatype))))) h2.1 in
    let h4 = then_equal (nat_cmp a.tag b.tag) (ordering_then (mode_cmp a.mode b.mode) (ordering_then (trust_cmp a.trust b.trust) (ordering_then (nat_cmp a.count b.count) (int_cmp a.datatype b.datatype)))) h3.1 in
    let h5 = then_equal (mode_cmp a.mode b.mode) (ordering_then (trust_cmp a.trust b.trust) (ordering_then (nat_cmp a.count b.count) (int_cmp a.datatype b.datatype))) h4.1 in
    let h6 = then_equal (trust_cmp a.trust b.trust) (ordering_then (nat_cmp a.count b.count) (int_cmp a.datatype b.datatype)) h5.1 in
    let h7 = then_equal (nat_cmp a.count b.count) (int_cmp a.datatype b.datatype) h6.1 in
    ap (λ x. message x a.comm a.from a.to a.tag a.mode a.trust a.count a.datatype) (exact_names a.name b.name h0.0)
    ∙ ap (λ x. message b.name x a.from a.to a.tag a.mode a.trust a.count a.datatype) (exact_nats a.comm b.comm h1.0)
    ∙ ap (λ x. message b.name b.comm x a.to a.tag a.mode a.trust a.count a.datatype) (exact_nats a.from b.from h2.0)
    ∙ ap (λ x. message b.name b.comm b.from x a.tag a.mode a.trust a.count a.datatype) (exact_nats a.to b.to h3.0)
    ∙ ap (λ x. message b.name b.comm b.from b.to x a.mode a.trust a.count a.datatype) (exact_nats a.tag b.tag h4.0)
    ∙ ap (λ x. message b.name b.comm b.from b.to b.tag x a.trust a.count a.datatype) (exact_modes a.mode b.mode h5.0)
    ∙ ap (λ x. message b.name b.comm b.from b.to b.tag b.mode x a.count a.datatype) (exact_trusts a.trust b.trust h6.0)
    ∙ ap (λ x. message b.name b.comm b.from b.to b.tag b.mode b.trust x a.datatype) (exact_nats a.count b.count h7.0)
    ∙ ap (λ x. message b.name b.comm b.from b.to b.tag b.mode b.trust b.count x) (exact_ints a.datatype b.datatype h7.1)

pub exact_receives : CmpEqualImpliesEq receive_cmp
exact_receives a b h =
    let h0 = then_equal (name_cmp a.name b.name) (ordering_then (nat_cmp a.comm b.comm) (ordering_then (nat_cmp a.at b.at) (ordering_then (option_cmp nat_cmp a.source b.source) (ordering_then (option_cmp nat_cmp a.tag b.tag) (ordering_then (nat_cmp a.count b.count) (ordering_then (trust_cmp a.trust b.trust) (ordering_then (int_cmp a.datatype b.datatype) (option_cmp nat_cmp a.ended b.ended)))))))) h in
    let h1 = then_equal (nat_cmp a.comm b.comm) (ordering_then (nat_cmp a.at b.at) (ordering_then (option_cmp nat_cmp a.source b.source) (ordering_then (option_cmp nat_cmp a.tag b.tag) (ordering_then (nat_cmp a.count b.count) (ordering_then (trust_cmp a.trust b.trust) (ordering_then (int_cmp a.datatype b.datatype) (option_cmp nat_cmp a.ended b.ended))))))) h0.1 in
    let h2 = then_equal (nat_cmp a.at b.at) (ordering_then (option_cmp nat_cmp a.source b.source) (ordering_then (option_cmp nat_cmp a.tag b.tag) (ordering_then (nat_cmp a.count b.count) (ordering_then (trust_cmp a.trust b.trust) (ordering_then (int_cmp a.datatype b.datatype) (option_cmp nat_cmp a.ended b.ended)))))) h1.1 in
    let h3 = then_equal (option_cmp nat_cmp a.source b.source) (ordering_then (option_cmp nat_cmp a.tag b.tag) (ordering_then (nat_cmp a.count b.count) (ordering_then (trust_cmp a.trust b.trust) (ordering_then (int_cmp a.datatype b.datatype) (option_cmp nat_cmp a.ended b.ended))))) h2.1 in
    let h4 = then_equal (option_cmp nat_cmp a.tag b.tag) (ordering_then (nat_cmp a.count b.count) (ordering_then (trust_cmp a.trust b.trust) (ordering_then (int_cmp a.datatype b.datatype) (option_cmp nat_cmp a.ended b.ended)))) h3.1 in
    let h5 = then_equal (nat_cmp a.count b.count) (ordering_then (trust_cmp a.trust b.trust) (ordering_then (int_cmp a.datatype b.datatype) (option_cmp nat_cmp a.ended b.ended))) h4.1 in
    let h6 = then_equal (trust_cmp a.trust b.trust) (ordering_then (int_cmp a.datatype b.datatype) (option_cmp nat_cmp a.ended b.ended)) h5.1 in
    let h7 = then_equal (int_cmp a.datatype b.datatype) (option_cmp nat_cmp a.ended b.ended) h6.1 in
    ap (λ x. receive x a.comm a.at a.source a.tag a.count a.trust a.datatype a.ended) (exact_names a.name b.name h0.0)
    ∙ ap (λ x. receive b.name x a.at a.source a.tag a.count a.trust a.datatype a.ended) (exact_nats a.comm b.comm h1.0)
    ∙ ap (λ x. receive b.name b.comm x a.source a.tag a.count a.trust a.datatype a.ended) (exact_nats a.at b.at h2.0)
    ∙ ap (λ x. receive b.name b.comm b.at x a.tag a.count a.trust a.datatype a.ended) (exact_options a.source b.source h3.0)
    ∙ ap (λ x. receive b.name b.comm b.at b.source x a.count a.trust a.datatype a.ended) (exact_options a.tag b.tag h4.0)
    ∙ ap (λ x. receive b.name b.comm b.at b.source b.tag x a.trust a.datatype a.ended) (exact_nats a.count b.count h5.0)
    ∙ ap (λ x. receive b.name b.comm b.at b.source b.tag b.count x a.datatype a.ended) (exact_trusts a.trust b.trust h6.0)
    ∙ ap (λ x. receive b.name b.comm b.at b.source b.tag b.count b.trust x a.ended) (exact_ints a.datatype b.datatype h7.0)
    ∙ ap (λ x. receive b.name b.comm b.at b.source b.tag b.count b.trust b.datatype x) (exact_options a.ended b.ended h7.1)

pub exact_queues : CmpEqualImpliesEq queue_cmp
exact_queues a b h =
    let h3 = then_equal (ordering_then (ordering_then (nat_cmp a.0 b.0) (nat_cmp a.1 b.1)) (nat_cmp a.2 b.2)) (nat_cmp a.3 b.3) h in
    let h2 = then_equal (ordering_then (nat_cmp a.0 b.0) (nat_cmp a.1 b.1)) (nat_cmp a.2 b.2) h3.0 in
    let h1 = then_equal (nat_cmp a.0 b.0) (nat_cmp a.1 b.1) h2.0 in
    ap (λ x. queue x a.1 a.2 a.3) (exact_nats a.0 b.0 h1.0)
    ∙ ap (λ x. queue b.0 x a.2 a.3) (exact_nats a.1 b.1 h1.1)
    ∙ ap (λ x. queue b.0 b.1 x a.3) (exact_nats a.2 b.2 h2.1)
    ∙ ap (λ x. queue b.0 b.1 b.2 x) (exact_nats a.3 b.3 h3.1)

pub exact_lanes : CmpEqualImpliesEq lane_cmp
exact_lanes a b h =
    let h2 = then_equal (ordering_then (nat_cmp a.0 b.0) (nat_cmp a.1 b.1)) (nat_cmp a.2 b.2) h in
    let h1 = then_equal (nat_cmp a.0 b.0) (nat_cmp a.1 b.1) h2.0 in
    ap (λ x. lane x a.1 a.2) (exact_nats a.0 b.0 h1.0)
    ∙ ap (λ x. lane b.0 x a.2) (exact_nats a.1 b.1 h1.1)
    ∙ ap (λ x. lane b.0 b.1 x) (exact_nats a.2 b.2 h2.1)

pub exact_receive_keys : CmpEqualImpliesEq receive_key_cmp
exact_receive_keys a b h =
    let h3 = then_equal (ordering_then (ordering_then (nat_cmp a.0 b.0) (option_cmp nat_cmp a.1 b.1)) (option_cmp nat_cmp a.2 b.2)) (nat_cmp a.3 b.3) h in
    let h2 = then_equal (ordering_then (nat_cmp a.0 b.0) (option_cmp nat_cmp a.1 b.1)) (option_cmp nat_cmp a.2 b.2) h3.0 in
    let h1 = then_equal (nat_cmp a.0 b.0) (option_cmp nat_cmp a.1 b.1) h2.0 in
    ap (λ x. receive_key x a.1 a.2 a.3) (exact_nats a.0 b.0 h1.0)
    ∙ ap (λ x. receive_key b.0 x a.2 a.3) (exact_options a.1 b.1 h1.1)
    ∙ ap (λ x. receive_key b.0 b.1 x a.3) (exact_options a.2 b.2 h2.1)
    ∙ ap (λ x. receive_key b.0 b.1 b.2 x) (exact_nats a.3 b.3 h3.1)

-- where the first of two orders is one, or the next decides
first_above : (x y : Ordering) → x ≡ Greater → ordering_then x y ≡ Greater
first_above x y e = ap (λ (o : Ordering). ordering_then o y) e

next_above : (x y : Ordering) → x ≡ Equal → y ≡ Greater → ordering_then x y ≡ Greater
next_above x y e f = ap (λ (o : Ordering). ordering_then o y) e ∙ f

-- the later name is above
name_above : (a b : OpName) → name_lt a b ≡ true → name_cmp b a ≡ Greater
name_above a b h =
    let parts = ordering_then (nat_cmp b.call a.call) (nat_cmp b.part a.part) in
    elim (cases_lt a.rank b.rank) [
      | inl lt ↦ first_above (nat_cmp b.rank a.rank) parts (grind (arith, nat_tests))
      | inr le ↦ elim (cases_lt a.call b.call) [
        | inl lt ↦ next_above (nat_cmp b.rank a.rank) parts (grind (arith, nat_tests)) (first_above (nat_cmp b.call a.call) (nat_cmp b.part a.part) (grind (arith, nat_tests)))
        | inr le' ↦ next_above (nat_cmp b.rank a.rank) parts (grind (arith, nat_tests))
            (next_above (nat_cmp b.call a.call) (nat_cmp b.part a.part) (grind (arith, nat_tests)) (grind (arith, nat_tests)))
      ]
    ]

above_name : (a b : OpName) (rest : Ordering) → name_lt a b ≡ true → is_gt (ordering_then (name_cmp b a) rest) ≡ true
above_name a b rest h = ap is_gt (first_above (name_cmp b a) rest (name_above a b h))

pub later_name : (a b : OpName) → name_lt a b ≡ true → is_gt (name_cmp b a) ≡ true
later_name a b h = ap is_gt (name_above a b h)

pub later_message : (p n : Message) → name_lt p.name n.name ≡ true → is_gt (message_cmp n p) ≡ true
later_message p n h = above_name p.name n.name _ h

pub later_receive : (p q : Receive) → name_lt p.name q.name ≡ true → is_gt (receive_cmp q p) ≡ true
later_receive p q h = above_name p.name q.name _ h
