use Rattle.std.proofs.Common.{ℕ, ◌+◌, List, Option, rules, subst, sym, ◌∙◌, take}
use Rattle.std.specs.List.{All, AllZip}
use Rattle.std.proofs.lemmas.List.Elements.{All-push}
use Rattle.trace_pair.specs.After.{comes_after}
use Rattle.trace_pair.specs.Settled.{SettlesAmong, IsOfferedAt, IsWithin}
use Rattle.trace_pair.specs.declared.batch.Batch.{Batch}
use Rattle.trace_pair.proofs.PartKinds.{zip_next}
use Rattle.trace_pair.proofs.Tabled.{has_at}
use Rattle.trace_pair.proofs.batch.offered_places.Goals as goal

pub loop-q-preserved : goal.loop-q-preserved
loop-q-preserved c =
    let i = c.loop-q.q-index in
    let call = c.args.call.now in
    let lt = c.loop-q-test.true in
    let place = c.in_ok-place.place in
    let w = c.loop-q.invariant in
    let pushed = sym c.in_ok-push.ensures.items in
    let R = comes_after c.args.reaches.now in
    record {
      kept = c.offered_place.ensures.kept ∙ w.kept;
      long = search rules;
      within = subst (λ (l : List (Option ℕ)). All (IsWithin c.args.batch.now) l) pushed (All-push (IsWithin c.args.batch.now) c.loop-q.found.items place w.within (subst (λ (b : Batch). IsWithin b place) w.kept c.in_ok-place.ensures.within));
      found = λ ms qs more adds s.
          let t = subst (λ (b : Batch). SettlesAmong R ms more qs more b) (sym w.kept) s in
          let offered = c.in_ok-place.ensures.found ms qs more call _ t.opened adds (has_at call i _ lt) t.last t.messages t.held in
          subst (λ (l : List (Option ℕ)). AllZip (IsOfferedAt R ms qs more) (take (i + 1) call) l) pushed (zip_next (IsOfferedAt R ms qs more) call c.loop-q.found.items i _ place (w.found ms qs more adds s) lt offered);
    }
