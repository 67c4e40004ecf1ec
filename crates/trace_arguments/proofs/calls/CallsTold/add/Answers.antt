use Rattle.std.proofs.Common.{◌≡◌, ◌∙◌, Bool, Option, Some, None, ap, cond, refl, sym}
use Rattle.std.specs.Prelude.{unwrap_or}
use Rattle.std.specs.BTreeMap.{get}
use Rattle.call_arguments.specs.Known.{ToldParts}
use Rattle.trace_wait.specs.Patterns.{Place, place_cmp}
use Rattle.trace_arguments.proofs.Added.{absent, there}
use Rattle.trace_arguments.proofs.Keys.{place_same}
use Rattle.trace_arguments.proofs.calls.CallsTold.add.Goals as goal

pub returns-then-has : goal.returns-then-has
returns-then-has c = record {
  first_stays = there (get place_cmp c.args.self.now.calls (c.args.rank, c.args.number)) c.args.told (sym c.has.ensures ∙ c.if-has.true);
  others_stay = λ r n apart. refl;
}

pub returns : goal.returns
returns c =
    let key : Place = (c.args.rank, c.args.number) in
    let old = c.args.self.now.calls in
    let none = absent (get place_cmp old key) (sym c.has.ensures ∙ c.if-has.false) in
    record {
      first_stays = c.in_ok-insert.ensures.updates.1 ∙ ap (λ (o : Option ToldParts). Some (unwrap_or o c.args.told)) (sym none);
      others_stay = λ r n apart.
          c.in_ok-insert.ensures.updates.0 (r, n)
          ∙ ap (λ (b : Bool). cond b (Some c.args.told) (get place_cmp old (r, n))) (place_same key (r, n) ∙ apart);
    }
