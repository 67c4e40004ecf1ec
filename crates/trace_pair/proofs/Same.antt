-- Receives that are equal in every part are one receive.
use Rattle.std.proofs.Common.{◌≡◌, ℕ, ℤ, ◌&&◌, eqb, refl, ◌∙◌, ap, Option, Some, None}
use Rattle.std.specs.Bool.{Decides}
use Rattle.std.specs.Ordering.{int_eq}
use Rattle.std.specs.Option.{option_eq}
use Rattle.std.proofs.lemmas.Bool.Decides.{Decides-eqb, Decides-int_eq, Decides-and, Decides-like}
use Rattle.mpi_model.specs.contracts.message.ReceivePartialEq.TheImpl as receive_eq
use Rattle.mpi_model.specs.contracts.message.TrustPartialEq.TheImpl as trust_eq
use Rattle.mpi_model.specs.declared.message.Receive.{Receive}
use Rattle.mpi_model.specs.declared.message.Trust.{Trust}
use Rattle.mpi_model.specs.declared.message.Trust.TheVariants.{Sure, Doubtful, Void}

abbrev receive : ℕ → ℕ → ℕ → ℕ → ℕ → Option ℕ → Option ℕ → ℕ → Trust → ℤ → Option ℕ → Receive
receive r k o c a s g e u d f = record { name = record { rank = r; call = k; part = o }; comm = c; at = a; source = s; tag = g; count = e; trust = u; datatype = d; ended = f }

same_options : (x y : Option ℕ) → Decides (option_eq eqb x y) (x ≡ y)
same_options None None = (λ h. refl, λ h. refl)
same_options None (Some y) = (λ h. absurd (cc), λ h. absurd (cc))
same_options (Some x) None = (λ h. absurd (cc), λ h. absurd (cc))
same_options (Some x) (Some y) = Decides-like (eqb x y) (λ (e : x ≡ y). ap (λ (n : ℕ). Some n) e) (λ (e : Some x ≡ Some y). cc) (Decides-eqb x y)

same_trusts : (x y : Trust) → Decides ((trust_eq.ghosts).eq x y) (x ≡ y)
same_trusts Sure Sure = (λ h. refl, λ h. refl)
same_trusts Doubtful Doubtful = (λ h. refl, λ h. refl)
same_trusts Void Void = (λ h. refl, λ h. refl)
same_trusts Sure Doubtful = (λ h. absurd (cc), λ h. absurd (cc))
same_trusts Sure Void = (λ h. absurd (cc), λ h. absurd (cc))
same_trusts Doubtful Sure = (λ h. absurd (cc), λ h. absurd (cc))
same_trusts Doubtful Void = (λ h. absurd (cc), λ h. absurd (cc))
same_trusts Void Sure = (λ h. absurd (cc), λ h. absurd (cc))
same_trusts Void Doubtful = (λ h. absurd (cc), λ h. absurd (cc))

record Parts (a b : Receive) : Type 0 where
  rank : a.name.rank ≡ b.name.rank
  call : a.name.call ≡ b.name.call
  part : a.name.part ≡ b.name.part
  comm : a.comm ≡ b.comm
  at : a.at ≡ b.at
  source : a.source ≡ b.source
  tag : a.tag ≡ b.tag
  count : a.count ≡ b.count
  trust : a.trust ≡ b.trust
  datatype : a.datatype ≡ b.datatype
  ended : a.ended ≡ b.ended

all_parts : (a b : Receive) → Parts a b → a ≡ b
all_parts a b p =
    ap (λ x. receive x a.name.call a.name.part a.comm a.at a.source a.tag a.count a.trust a.datatype a.ended) p.rank
    ∙ ap (λ x. receive b.name.rank x a.name.part a.comm a.at a.source a.tag a.count a.trust a.datatype a.ended) p.call
    ∙ ap (λ x. receive b.name.rank b.name.call x a.comm a.at a.source a.tag a.count a.trust a.datatype a.ended) p.part
    ∙ ap (λ x. receive b.name.rank b.name.call b.name.part x a.at a.source a.tag a.count a.trust a.datatype a.ended) p.comm
    ∙ ap (λ x. receive b.name.rank b.name.call b.name.part b.comm x a.source a.tag a.count a.trust a.datatype a.ended) p.at
    ∙ ap (λ x. receive b.name.rank b.name.call b.name.part b.comm b.at x a.tag a.count a.trust a.datatype a.ended) p.source
    ∙ ap (λ x. receive b.name.rank b.name.call b.name.part b.comm b.at b.source x a.count a.trust a.datatype a.ended) p.tag
    ∙ ap (λ x. receive b.name.rank b.name.call b.name.part b.comm b.at b.source b.tag x a.trust a.datatype a.ended) p.count
    ∙ ap (λ x. receive b.name.rank b.name.call b.name.part b.comm b.at b.source b.tag b.count x a.datatype a.ended) p.trust
    ∙ ap (λ x. receive b.name.rank b.name.call b.name.part b.comm b.at b.source b.tag b.count b.trust x a.ended) p.datatype
    ∙ ap (λ x. receive b.name.rank b.name.call b.name.part b.comm b.at b.source b.tag b.count b.trust b.datatype x) p.ended

pub same_receives : (a b : Receive) → Decides ((receive_eq.ghosts).eq a b) (a ≡ b)
same_receives a b =
    let t = (trust_eq.ghosts).eq a.trust b.trust in
    let d = int_eq a.datatype b.datatype in
    let n = eqb a.name.rank b.name.rank && (eqb a.name.part b.name.part && eqb a.name.call b.name.call) in
    let c = eqb a.comm b.comm in
    let p = eqb a.at b.at in
    let s = option_eq eqb a.source b.source in
    let g = option_eq eqb a.tag b.tag in
    let e = eqb a.count b.count in
    let f = option_eq eqb a.ended b.ended in
    Decides-like ((receive_eq.ghosts).eq a b)
    (λ h. all_parts a b (record { rank = h.0.0; call = h.0.1.1; part = h.0.1.0; comm = h.1.0; at = h.1.1.0; source = h.1.1.1.0; tag = h.1.1.1.1.0; count = h.1.1.1.1.1.0; trust = h.1.1.1.1.1.1.0; datatype = h.1.1.1.1.1.1.1.0; ended = h.1.1.1.1.1.1.1.1 }))
    (λ (h : a ≡ b). ((ap (λ (x : Receive). x.name.rank) h, (ap (λ (x : Receive). x.name.part) h, ap (λ (x : Receive). x.name.call) h)), (ap (λ (x : Receive). x.comm) h, (ap (λ (x : Receive). x.at) h, (ap (λ (x : Receive). x.source) h, (ap (λ (x : Receive). x.tag) h, (ap (λ (x : Receive). x.count) h, (ap (λ (x : Receive). x.trust) h, (ap (λ (x : Receive). x.datatype) h, ap (λ (x : Receive). x.ended) h)))))))))
    (Decides-and n (c && (p && (s && (g && (e && (t && (d && f))))))) (Decides-and (eqb a.name.rank b.name.rank) (eqb a.name.part b.name.part && eqb a.name.call b.name.call) (Decides-eqb a.name.rank b.name.rank)
    (Decides-and (eqb a.name.part b.name.part) (eqb a.name.call b.name.call) (Decides-eqb a.name.part b.name.part) (Decides-eqb a.name.call b.name.call)))
    (Decides-and c (p && (s && (g && (e && (t && (d && f)))))) (Decides-eqb a.comm b.comm)
    (Decides-and p (s && (g && (e && (t && (d && f))))) (Decides-eqb a.at b.at)
    (Decides-and s (g && (e && (t && (d && f)))) (same_options a.source b.source)
    (Decides-and g (e && (t && (d && f))) (same_options a.tag b.tag)
    (Decides-and e (t && (d && f)) (Decides-eqb a.count b.count)
    (Decides-and t (d && f) (same_trusts a.trust b.trust)
    (Decides-and d f (Decides-int_eq a.datatype b.datatype) (same_options a.ended b.ended)))))))))
