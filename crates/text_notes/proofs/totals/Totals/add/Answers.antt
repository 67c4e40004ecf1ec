use Rattle.std.proofs.Common.{◌≡◌, ◌∙◌, ◌<◌, ◌++◌, ◌∷◌, [], ℕ, List, None, Some, sym, ap, get_or, length, set, arith}
use Rattle.text_notes.specs.Noted.{UnreadParts, with_count}
use Rattle.text_notes.specs.Places.{place_of}
use Rattle.text_notes.specs.Words.{Totals as TotalParts, added}
use Rattle.text_notes.specs.declared.totals.TheConstants.{MOST_SHOWN}
use Rattle.text_notes.proofs.Found.{added_at, added_last, within}
use Rattle.text_notes.proofs.totals.Totals.add.Goals as goal

pub index_mut-requires : goal.index_mut-requires
index_mut-requires c =
    let place : place_of c.args.function.now.name c.self.inside.functions.items ≡ Some c.in-Some.at = cc in
    let w : c.in-Some.at < length c.self.inside.functions.items = within c.args.function.now.name c.self.inside.functions.items c.in-Some.at place in
    omega arith

pub returns-in-Some : goal.returns-in-Some
returns-in-Some c =
    let items = c.self.inside.functions.items in
    let f = c.args.function.now in
    let place : place_of f.name items ≡ Some c.in-Some.at = cc in
    let t : TotalParts = record { functions = items; others = c.self.inside.others } in
    let new : c.add.new.self ≡ with_count f.count (get_or items c.in-Some.at c.index_mut.result.now) =
    c.add.ensures ∙ ap (λ (n : ℕ). with_count n c.index_mut.result.now) c.count.ensures ∙ ap (λ (g : UnreadParts). with_count f.count g) c.index_mut.ensures.value in
    ap (λ (g : UnreadParts). record { functions = set items c.in-Some.at g; others = c.self.inside.others }) new
    ∙ sym (added_at t f c.in-Some.at c.index_mut.result.now place)
    ∙ ap (λ (s : TotalParts). added s f) c.self.view_is

pub returns-in_ok-push-in-None : goal.returns-in_ok-push-in-None
returns-in_ok-push-in-None c =
    let items = c.self.inside.functions.items in
    let f = c.args.function.now in
    let place : place_of f.name items ≡ None = cc in
    let room : length items < MOST_SHOWN = omega arith in
    let t : TotalParts = record { functions = items; others = c.self.inside.others } in
    let more : c.push.new.self.items ≡ items ++ f ∷ [] = c.in_ok-push-in-None.ensures.items ∙ ap (λ (g : UnreadParts). items ++ g ∷ []) c.in_ok-copy-in-None.ensures in
    ap (λ (fs : List UnreadParts). record { functions = fs; others = c.self.inside.others }) more
    ∙ sym (added_last t f place room)
    ∙ ap (λ (s : TotalParts). added s f) c.self.view_is
