use Rattle.std.proofs.Common.{◌≡◌, ◌∙◌, ◌<◌, ◌++◌, ◌∷◌, [], List, None, Some, refl, ap, length, arith}
use Rattle.dumpi_calls.specs.Rows.{OnUnread}
use Rattle.dumpi_calls.specs.Seen.{Seen, seen}
use Rattle.text_notes.specs.Noted.{Noted, UnreadParts, noted}
use Rattle.text_notes.specs.Places.{place_of}
use Rattle.text_notes.proofs.Found.{within}
use Rattle.text_notes.proofs.NotedMore.{noted_at, noted_last}
use Rattle.text_notes.proofs.noting.NotingCallSink.on_unread.Goals as goal

pub index_mut-requires : goal.index_mut-requires
index_mut-requires c =
    let place : place_of c.args.name.now c.self.inside.unread.items ≡ Some c.in-Some.at = cc in
    let w : c.in-Some.at < length c.self.inside.unread.items = within c.args.name.now c.self.inside.unread.items c.in-Some.at place in
    omega arith

pub returns-in_ok-on_unread-in-Some-clause-ok : goal.returns-in_ok-on_unread-in-Some-clause-ok
returns-in_ok-on_unread-in-Some-clause-ok c =
    let old : Noted = record { events = c.self.inside.collect; calls = c.self.inside.calls; unread = c.self.inside.unread.items; needs = record { local = c.self.inside.local.items; last_size = c.self.inside.last_size; compares = c.self.inside.compares } } in
    let call : Seen = seen (OnUnread c.args.name.now) c.args.call c.args.enter c.args.exit in
    let place : place_of c.args.name.now c.self.inside.unread.items ≡ Some c.in-Some.at = cc in
    noted_at old call c.args.name.now c.in-Some.at c.index_mut.result.now c.add.new.self c.on_unread.new.self _ refl place c.index_mut.ensures.value c.add.ensures
    c.in_ok-on_unread-in-Some.ensures.ok c.saturating_add-self-inside.ensures
    ∙ ap (λ (n : Noted). noted n call) c.self.view_is

pub returns-in_ok-push-in-None-clause-ok : goal.returns-in_ok-push-in-None-clause-ok
returns-in_ok-push-in-None-clause-ok c =
    let old : Noted = record { events = c.self.inside.collect; calls = c.self.inside.calls; unread = c.self.inside.unread.items; needs = record { local = c.self.inside.local.items; last_size = c.self.inside.last_size; compares = c.self.inside.compares } } in
    let call : Seen = seen (OnUnread c.args.name.now) c.args.call c.args.enter c.args.exit in
    let place : place_of c.args.name.now c.self.inside.unread.items ≡ None = cc in
    let more : c.push.new.self.items ≡ c.self.inside.unread.items ++ c.in_ok-function-in-None.function ∷ [] =
    c.in_ok-push-in-None.ensures.items ∙ ap (λ (l : List UnreadParts). l ++ c.in_ok-function-in-None.function ∷ []) c.reserve.ensures.items in
    noted_last old call c.args.name.now c.in_ok-function-in-None.function c.push.new.self.items c.on_unread-in-None.new.self _ refl place c.in_ok-function-in-None.ensures more
    c.in_ok-on_unread-in-None.ensures.ok c.saturating_add-self-inside-in-None.ensures
    ∙ ap (λ (n : Noted). noted n call) c.self.view_is
