-- Chains put together, turned round and followed.
use Rattle.std.proofs.Common.{◌≡◌, ℕ, Bool, true, List, [], ◌∷◌, ◌++◌, refl, sym, subst}
use Rattle.trace_stuck.specs.Chains.{IsChain, Leads}

module _ (step : ℕ → ℕ → Bool) where
  pub leads_self : (r : ℕ) → Leads step r r
  leads_self r = ([], refl)

  chain_next : (through : List ℕ) (r s t : ℕ) → IsChain step r through s → step s t ≡ true → IsChain step r (through ++ t ∷ []) t
  chain_next [] r s t e h = (subst (λ (x : ℕ). step x t ≡ true) (sym e) h, refl)
  chain_next (u ∷ through) r s t c h = (c.0, chain_next through u s t c.1 h)

  -- one step more
  pub leads_next : (r s t : ℕ) → Leads step r s → step s t ≡ true → Leads step r t
  leads_next r s t p h = (p.0 ++ t ∷ [], chain_next p.0 r s t p.1 h)

  chain_then : (first second : List ℕ) (r s t : ℕ) → IsChain step r first s → IsChain step s second t → IsChain step r (first ++ second) t
  chain_then [] second r s t e c = subst (λ (x : ℕ). IsChain step x second t) (sym e) c
  chain_then (u ∷ first) second r s t b c = (b.0, chain_then first second u s t b.1 c)

  -- one chain after another
  pub leads_then : (r s t : ℕ) → Leads step r s → Leads step s t → Leads step r t
  leads_then r s t p q = (p.0 ++ q.0, chain_then p.0 q.0 r s t p.1 q.1)

  chain_along : (P : ℕ → Type 0) → ((x y : ℕ) → P x → step x y ≡ true → P y) → (through : List ℕ) (r s : ℕ) → IsChain step r through s → P r → P s
  chain_along P keeps [] r s e p = subst P e p
  chain_along P keeps (t ∷ through) r s c p = chain_along P keeps through t s c.1 (keeps r t p c.0)

  -- what each step keeps, a chain keeps
  pub along : (P : ℕ → Type 0) → ((x y : ℕ) → P x → step x y ≡ true → P y) → (r s : ℕ) → Leads step r s → P r → P s
  along P keeps r s l p = chain_along P keeps l.0 r s l.1 p

-- a chain against the steps leads back
pub leads_back : (step against : ℕ → ℕ → Bool) → ((x y : ℕ) → against x y ≡ true → step y x ≡ true) → (r s : ℕ) → Leads against r s → Leads step s r
leads_back step against turn r s l = chain_back l.0 r s l.1
  where
    chain_back : (through : List ℕ) (r s : ℕ) → IsChain against r through s → Leads step s r
    chain_back [] r s e = subst (λ (x : ℕ). Leads step s x) (sym e) (leads_self step s)
    chain_back (t ∷ through) r s c = leads_next step s t r (chain_back through t s c.1) (turn r t c.0)

-- a chain of steps that are all steps of another kind
pub leads_as : (step other : ℕ → ℕ → Bool) → ((x y : ℕ) → step x y ≡ true → other x y ≡ true) → (r s : ℕ) → Leads step r s → Leads other r s
leads_as step other same r s l =
    along step (λ z. Leads other r z) (λ x y p h. leads_next other r x y p (same x y h)) r s l (leads_self other r)
