use Rattle.std.proofs.Common.{◌≡◌, ◌+◌, ℕ, List, Some, ap, drop, subst, sym, arith}
use Rattle.mpi_model.specs.Times.{Times}
use Rattle.dumpi_text.specs.Call.{CallContent}
use Rattle.dumpi_text.specs.Next.{IsNext}
use Rattle.dumpi_text.specs.Source.{rest_of}
use Rattle.dumpi_text.specs.Usual.{HasCall, call_after}
use Rattle.dumpi_text.specs.declared.step.Position.{Position}
use Rattle.dumpi_calls.specs.InPlace.{IsWhole, usual_name}
use Rattle.dumpi_calls.proofs.Advancing.{follows_whole, still_read}
use Rattle.dumpi_calls.proofs.walking.whole_of.Goals as goal

pub returns-clause-goes_on : goal.returns-clause-goes_on
returns-clause-goes_on g c = λ text calls is_read.
    let old = c.args.texts.now in
    let new = c.pass_call.new.self in
    let found = c.in_ok-whole.whole in
    let hand = old.rest.at_hand in
    let whole : IsWhole found.function found.call found.bytes found.lines hand = subst (λ (t : List ℕ). IsWhole found.function found.call found.bytes found.lines t) c.in_ok-text.ensures.bytes c.in_ok-whole.ensures.whole in
    let content : CallContent = record { name = usual_name found.function; params = whole.params } in
    let same : old.told.line ≡ old.at.line = ap (λ (p : Position). p.line) is_read.told in
    let first : c.saturating_add-line.result ≡ old.told.line + 1 = omega (arith, same, c.in_ok-text.ensures.lines, c.line.ensures, c.saturating_add-line.ensures) in
    let passed = c.pass_call.ensures in
    let entered : c.enter.result ≡ found.call.enter = c.enter.ensures in
    let stands : HasCall content c.enter.result whole.exit hand (drop found.bytes hand) = subst (λ (e : Times). HasCall content e whole.exit hand (drop found.bytes hand)) (sym entered) whole.stands in
    let next : IsNext old.at (rest_of old.rest) (Some (call_after old.at content found.call.enter whole.exit)) new.at (rest_of new.rest) =
    subst (λ (e : Times). IsNext old.at (rest_of old.rest) (Some (call_after old.at content e whole.exit)) new.at (rest_of new.rest)) entered (passed.next content whole.exit stands whole.counted) in
    follows_whole c.reading_call_by_call.ensures.goes_on text calls old new found.function found.call found.bytes found.lines c.saturating_add-line.result
    (still_read text calls old c.in_ok-text.ensures.reading is_read) is_read whole next passed.told passed.reading first
