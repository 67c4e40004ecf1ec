use Rattle.std.proofs.Common.{◌≡◌, true, false, None, Some, refl, rules, arith}
use Rattle.std.proofs.lemmas.Grind.{common_steps}
use Rattle.dumpi_text.specs.Shown.{put_in}
use Rattle.dumpi_calls.specs.Walks.{FollowsKept, FollowsWhole}
use Rattle.dumpi_calls.proofs.Advancing.{as_it_was, kept_next, kept_refused, none_follows, whole_next, whole_refused}
use Rattle.dumpi_calls.proofs.walking.advance.Goals as goal

pub returns-in-Ok-clause-ok : goal.returns-in-Ok-clause-ok
returns-in-Ok-clause-ok g c = λ text before is_read.
    let whole = c.in-Some.whole in
    let follows : FollowsWhole text before whole.function whole.call c.in-Some.line c.whole_of.new.texts = c.in-Some.ensures.goes_on text before is_read in
    whole_next g.S.CallSink.step text before whole.function whole.call c.in-Some.line c.whole_of.new.texts c.args.sink.now c.take_whole.new.sink follows (λ raw is. c.in-Ok.ensures.ok raw is)

pub returns-in-Err-clause-err : goal.returns-in-Err-clause-err
returns-in-Err-clause-err g c = λ text before is_read.
    let whole = c.in-Some.whole in
    let follows : FollowsWhole text before whole.function whole.call c.in-Some.line c.whole_of.new.texts = c.in-Some.ensures.goes_on text before is_read in
    whole_refused text before whole.function whole.call c.in-Some.line c.in-Err.fault.line c.in-Err.fault.cause c.whole_of.new.texts follows (λ raw is. c.in-Err.ensures.err raw is)

pub returns-in-Err-take-clause-err : goal.returns-in-Err-take-clause-err
returns-in-Err-take-clause-err g c = λ text before is_read.
    let mid = c.whole_of.new.texts in
    let raw = c.next_looked.new.raw in
    let same : mid ≡ c.args.texts.now = first_of (search rules, grind (arith, common_steps)) in
    let found : FollowsKept text before (put_in c.in-Ok-true.field-0 raw) c.next_looked.new.texts = c.in-Ok-true.ensures.goes_on text before (as_it_was text before c.args.texts.now mid same is_read) in
    let is_true : c.in-Ok-true.field-0 ≡ true = c.in-Ok-true.field-0-test in
    let read : FollowsKept text before (Some raw) c.next_looked.new.texts = rw is_true at found in
    kept_refused text before raw c.in-Err-take.fault.cause c.in-Err-take.fault.line c.next_looked.new.texts read c.in-Err-take.ensures.err

pub returns-in-Ok-take-clause-ok : goal.returns-in-Ok-take-clause-ok
returns-in-Ok-take-clause-ok g c = λ text before is_read.
    let mid = c.whole_of.new.texts in
    let raw = c.next_looked.new.raw in
    let same : mid ≡ c.args.texts.now = first_of (search rules, grind (arith, common_steps)) in
    let found : FollowsKept text before (put_in c.in-Ok-true.field-0 raw) c.next_looked.new.texts = c.in-Ok-true.ensures.goes_on text before (as_it_was text before c.args.texts.now mid same is_read) in
    let is_true : c.in-Ok-true.field-0 ≡ true = c.in-Ok-true.field-0-test in
    let read : FollowsKept text before (Some raw) c.next_looked.new.texts = rw is_true at found in
    kept_next g.S.CallSink.step text before raw c.handed.result.open_line c.next_looked.new.texts c.args.sink.now c.take.new.sink read c.in-Ok-take.ensures.ok c.handed.ensures

pub returns-in-Ok-false-clause-ok : goal.returns-in-Ok-false-clause-ok
returns-in-Ok-false-clause-ok g c = λ text before is_read.
    let mid = c.whole_of.new.texts in
    let raw = c.next_looked.new.raw in
    let same : mid ≡ c.args.texts.now = first_of (search rules, grind (arith, common_steps)) in
    let found : FollowsKept text before (put_in c.in-Ok-false.field-0 raw) c.next_looked.new.texts = c.in-Ok-false.ensures.goes_on text before (as_it_was text before c.args.texts.now mid same is_read) in
    let is_false : c.in-Ok-false.field-0 ≡ false = c.in-Ok-false.field-0-test in
    let none : FollowsKept text before None c.next_looked.new.texts = rw is_false at found in
    (none_follows text before c.next_looked.new.texts none, refl)
