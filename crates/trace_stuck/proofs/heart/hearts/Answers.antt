use Rattle.std.proofs.Common.{◌≡◌, ℕ, Bool, Option, List, refl, subst, Vec, Global}
use Rattle.std.proofs.lemmas.Result.{IfOk-weaker}
use Rattle.trace_stuck.specs.Graph.{edge, is_up, IsFirst, label_at}
use Rattle.trace_stuck.specs.Search.{LeakIs, RootIs}
use Rattle.trace_stuck.proofs.Found.{hearts_found, hearts_reached}
use Rattle.trace_stuck.proofs.heart.hearts.Goals as goal

-- a search over lists that are these
searched : (edges edges2 : List (Vec ℕ Global)) (starts starts2 : List Bool) (labels : List (Option ℕ)) → edges ≡ edges2 → starts ≡ starts2 →
    ((x : ℕ) → IsFirst (edge edges) (is_up starts) x (label_at labels x)) → (x : ℕ) → IsFirst (edge edges2) (is_up starts2) x (label_at labels x)
searched edges edges2 starts starts2 labels e f h x =
    subst (λ (l : List (Vec ℕ Global)). IsFirst (edge l) (is_up starts2) x (label_at labels x)) e
    (subst (λ (l : List Bool). IsFirst (edge edges) (is_up l) x (label_at labels x)) f (h x))

leaked : (edges : List (Vec ℕ Global)) (labels labels2 : List (Option ℕ)) (leaks : List Bool) → labels ≡ labels2 →
    ((x : ℕ) → LeakIs edges labels x (is_up leaks x)) → (x : ℕ) → LeakIs edges labels2 x (is_up leaks x)
leaked edges labels labels2 leaks f h x = subst (λ (l : List (Option ℕ)). LeakIs edges l x (is_up leaks x)) f (h x)

rooted : (least least2 strays strays2 : List (Option ℕ)) (roots : List Bool) → least ≡ least2 → strays ≡ strays2 →
    ((x : ℕ) → RootIs least strays x (is_up roots x)) → (x : ℕ) → RootIs least2 strays2 x (is_up roots x)
rooted least least2 strays strays2 roots e f h x =
    subst (λ (l : List (Option ℕ)). RootIs l strays2 x (is_up roots x)) e (subst (λ (l : List (Option ℕ)). RootIs least l x (is_up roots x)) f (h x))

pub returns-clause-hearts : goal.returns-clause-hearts
returns-clause-hearts c =
    IfOk-weaker c.firsts-3.result _ _ (λ v h.
    hearts_found c.args.edges.now c.in_ok-starts.starts.items c.in_ok-starts.ensures.up
    c.in_ok-askers.askers.items c.in_ok-askers.ensures.turned
    c.in_ok-least.least.items c.in_ok-strays.strays.items v.items c.in_ok-leaks.leaks.items c.in_ok-roots.roots.items
    (searched _ _ _ _ c.in_ok-least.least.items c.deref.ensures.value c.deref-2.ensures.value c.in_ok-least.ensures.firsts)
    (leaked _ _ _ c.in_ok-leaks.leaks.items c.deref-3.ensures.value c.in_ok-leaks.ensures.leaks)
    (searched _ _ _ _ c.in_ok-strays.strays.items c.deref-4.ensures.value c.deref-5.ensures.value c.in_ok-strays.ensures.firsts)
    (rooted _ _ _ _ c.in_ok-roots.roots.items c.deref-6.ensures.value c.deref-7.ensures.value c.in_ok-roots.ensures.roots)
    (searched _ _ _ _ v.items refl c.deref-8.ensures.value h)) c.firsts-3.ensures.firsts

pub returns-clause-reached : goal.returns-clause-reached
returns-clause-reached c =
    IfOk-weaker c.firsts-3.result _ _ (λ v h.
    hearts_reached c.args.edges.now c.in_ok-starts.starts.items c.in_ok-starts.ensures.up
    c.in_ok-askers.askers.items c.in_ok-askers.ensures.turned
    c.in_ok-least.least.items c.in_ok-strays.strays.items v.items c.in_ok-leaks.leaks.items c.in_ok-roots.roots.items
    (searched _ _ _ _ c.in_ok-least.least.items c.deref.ensures.value c.deref-2.ensures.value c.in_ok-least.ensures.firsts)
    (leaked _ _ _ c.in_ok-leaks.leaks.items c.deref-3.ensures.value c.in_ok-leaks.ensures.leaks)
    (searched _ _ _ _ c.in_ok-strays.strays.items c.deref-4.ensures.value c.deref-5.ensures.value c.in_ok-strays.ensures.firsts)
    (rooted _ _ _ _ c.in_ok-roots.roots.items c.deref-6.ensures.value c.deref-7.ensures.value c.in_ok-roots.ensures.roots)
    (searched _ _ _ _ v.items refl c.deref-8.ensures.value h)) c.firsts-3.ensures.firsts
