use Rattle.std.proofs.Common.{◌≡◌, Bool, false, Result, Ok, ap}
use Rattle.dumpi_text.specs.declared.fault.TextFault.{TextFault}
use Rattle.dumpi_text.specs.Shown.{put_in}
use Rattle.dumpi_calls.proofs.NextCall.{keeps_going, nothing_put, put_whole}
use Rattle.dumpi_calls.proofs.walking.next_looked.Goals as goal

pub returns-in-Ok-clause-goes_on : goal.returns-in-Ok-clause-goes_on
returns-in-Ok-clause-goes_on g c =
    let e = c.in-Ok.ensures in
    let laws = c.reading_call_by_call.ensures in
    let call = c.next_kept-read.new.call in
    let next = c.in-Ok.found in
    let as_ok : Bool → Result Bool TextFault = λ b. Ok b in
    λ text calls. keeps_going (record { goes_on = laws.goes_on; at_a_thread = laws.ends_at_a_thread; ends = laws.ends; after_the_last = laws.ends_after_the_last })
    text calls (put_in next call) c.args.texts.now c.next_kept-read.new.self
    e.found e.told e.ok e.over (λ reading. put_whole next call (λ is. (e.returned reading (ap as_ok is)).1))
    (λ finished. let f = e.finished finished in let none : next ≡ false = cc in nothing_put next call none) (λ finished. (e.finished finished).1)
