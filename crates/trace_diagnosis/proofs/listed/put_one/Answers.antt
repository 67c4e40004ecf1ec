use Rattle.std.proofs.Common.{◌≡◌, ◌∙◌, ◌++◌, ◌∷◌, [], List, None, Option, Some, ap, arith, refl, subst, sym}
use Rattle.std.specs.Prelude.{IsSome, Vec}
use Rattle.std.specs.BTreeMap.{get}
use Rattle.std.specs.Ordering.{is_eq}
use Rattle.std.specs.declared.alloc.Global.{Global}
use Rattle.std.proofs.lemmas.Grind.{common_steps}
use Rattle.mpi_model.specs.declared.message.Message.{Message}
use Rattle.trace_wait.specs.Patterns.{pattern_cmp}
use Rattle.trace_diagnosis.specs.Listed.{Lists, listed, one_if}
use Rattle.trace_diagnosis.proofs.Listing.{put_behind, put_first}
use Rattle.trace_diagnosis.proofs.listed.put_one.Goals as goal

pub returns-in-Some : goal.returns-in-Some
returns-in-Some c = λ p.
    let old = c.args.lists.now in
    let had : get pattern_cmp old c.args.pattern ≡ Some c.in-Some.list.now = grind (arith, common_steps) in
    put_behind c.args.m.now old (c.get_mut.follows.lender c.push.new.self) c.args.pattern p c.in-Some.list.now c.push.new.self had c.in_ok-push.ensures.items
    (((c.get_mut.follows.holds c.push.new.self).3 (subst (λ (o : Option (Vec Message Global)). IsSome o) (sym had) refl)).0 p)

pub returns : goal.returns
returns c = λ p.
    let old = c.args.lists.now in
    let same = c.get_mut.follows.holds-at-none in
    let none : get pattern_cmp old c.args.pattern ≡ None = grind (arith, common_steps) in
    put_first c.args.m.now c.get_mut.follows.lender-at-none c.insert.new.self c.args.pattern p c.push-2.new.self (ap (λ (l : Lists). get pattern_cmp l c.args.pattern) same ∙ none)
    (c.in_ok-push-2.ensures.items ∙ ap (λ (l : List Message). l ++ c.args.m.now ∷ []) c.new-list.ensures.items) (c.in_ok-insert.ensures.updates.0 p)
    ∙ ap (λ (l : Lists). listed l p ++ one_if (is_eq (pattern_cmp c.args.pattern p)) c.args.m.now) same
