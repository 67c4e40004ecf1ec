use Rattle.std.proofs.Common.{◌≡◌, ◌∙◌, ◌<◌, ◌++◌, ◌∷◌, [], List, None, Some, true, refl, ap, length, arith}
use Rattle.dumpi_calls.specs.Rows.{OnOther}
use Rattle.dumpi_calls.specs.Seen.{Seen, seen}
use Rattle.text_notes.specs.Noted.{Noted, UnreadParts, is_local, noted}
use Rattle.text_notes.specs.Places.{place_of}
use Rattle.text_notes.proofs.Found.{within}
use Rattle.text_notes.proofs.NotedMore.{local_at, local_last}
use Rattle.text_notes.proofs.noting.NotingCallSink.on_other.Goals as goal

pub index_mut-requires : goal.index_mut-requires
index_mut-requires c =
    let place : place_of c.args.name.now c.self.inside.local.items ≡ Some c.in-Some.at = cc in
    let w : c.in-Some.at < length c.self.inside.local.items = within c.args.name.now c.self.inside.local.items c.in-Some.at place in
    omega arith

pub returns-in_ok-on_other-in-Some-clause-ok : goal.returns-in_ok-on_other-in-Some-clause-ok
returns-in_ok-on_other-in-Some-clause-ok c =
    let old : Noted = record { events = c.self.inside.collect; calls = c.self.inside.calls; unread = c.self.inside.unread.items; needs = record { local = c.self.inside.local.items; last_size = c.self.inside.last_size; compares = c.self.inside.compares } } in
    let call : Seen = seen (OnOther c.args.name.now) c.args.call c.args.enter c.args.exit in
    let loc : is_local c.args.call ≡ true = cc in
    let place : place_of c.args.name.now c.self.inside.local.items ≡ Some c.in-Some.at = cc in
    local_at old call c.args.name.now c.in-Some.at c.index_mut.result.now c.add.new.self _ c.on_other-in-Some.new.self _ refl loc place c.index_mut.ensures.value c.add.ensures
    c.last_size_with-self-inside.ensures c.in_ok-on_other-in-Some.ensures.ok c.saturating_add-self-inside-in-Some.ensures
    ∙ ap (λ (n : Noted). noted n call) c.self.view_is

pub returns-in_ok-push-in-None-clause-ok : goal.returns-in_ok-push-in-None-clause-ok
returns-in_ok-push-in-None-clause-ok c =
    let old : Noted = record { events = c.self.inside.collect; calls = c.self.inside.calls; unread = c.self.inside.unread.items; needs = record { local = c.self.inside.local.items; last_size = c.self.inside.last_size; compares = c.self.inside.compares } } in
    let call : Seen = seen (OnOther c.args.name.now) c.args.call c.args.enter c.args.exit in
    let loc : is_local c.args.call ≡ true = cc in
    let place : place_of c.args.name.now c.self.inside.local.items ≡ None = cc in
    let more : c.push.new.self.items ≡ c.self.inside.local.items ++ c.in_ok-function-in-None.function ∷ [] =
    c.in_ok-push-in-None.ensures.items ∙ ap (λ (l : List UnreadParts). l ++ c.in_ok-function-in-None.function ∷ []) c.reserve.ensures.items in
    local_last old call c.args.name.now c.in_ok-function-in-None.function c.push.new.self.items _ c.on_other-in-None.new.self _ refl loc place c.in_ok-function-in-None.ensures more
    c.last_size_with-self-inside-in-None.ensures c.in_ok-on_other-in-None.ensures.ok c.saturating_add-self-inside-in-None.ensures
    ∙ ap (λ (n : Noted). noted n call) c.self.view_is
