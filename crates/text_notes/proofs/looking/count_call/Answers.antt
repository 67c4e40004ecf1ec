use Rattle.std.proofs.Common.{◌≡◌, ◌∙◌, ◌<◌, ◌++◌, ◌∷◌, [], List, None, Some, ap, sym, set, length, arith}
use Rattle.text_notes.specs.Noted.{UnreadParts, with_count}
use Rattle.text_notes.specs.Places.{place_of}
use Rattle.text_notes.proofs.Found.{counted_at, counted_last, within}
use Rattle.text_notes.proofs.looking.count_call.Goals as goal

pub index_mut-requires : goal.index_mut-requires
index_mut-requires c =
    let place : place_of c.args.name.now c.args.functions.now.items ≡ Some c.in-Some.at = cc in
    let w : c.in-Some.at < length c.args.functions.now.items = within c.args.name.now c.args.functions.now.items c.in-Some.at place in
    omega arith

pub returns-in-Some-clause-ok : goal.returns-in-Some-clause-ok
returns-in-Some-clause-ok c =
    let fs = c.args.functions.now.items in
    let place : place_of c.args.name.now fs ≡ Some c.in-Some.at = cc in
    let more : c.add.new.self ≡ with_count 1 c.index_mut.result.now = c.add.ensures in
    ap (λ (f : UnreadParts). set fs c.in-Some.at f) (more ∙ ap (λ (f : UnreadParts). with_count 1 f) c.index_mut.ensures.value)
    ∙ sym (counted_at c.args.number 1 c.args.name.now fs c.in-Some.at c.index_mut.result.now place)

pub returns-in_ok-push-in-None-clause-ok : goal.returns-in_ok-push-in-None-clause-ok
returns-in_ok-push-in-None-clause-ok c =
    let fs = c.args.functions.now.items in
    let place : place_of c.args.name.now fs ≡ None = cc in
    c.in_ok-push-in-None.ensures.items ∙ ap (λ (f : UnreadParts). fs ++ f ∷ []) c.in_ok-function-in-None.ensures
    ∙ sym (counted_last c.args.number 1 c.args.name.now fs place)
