use Rattle.std.proofs.Common.{◌≡◌, ◌∙◌, ap, subst, sym, ℕ, List}
use Rattle.std.specs.Fmt.{HasWritten}
use Rattle.dumpi_calls.specs.Readings.{name_of}
use Rattle.run_inputs.specs.ShownBytes.{value_text}
use Rattle.run_inputs.specs.Advice.{found_text}
use Rattle.run_inputs.proofs.faults.advice.put_found.Goals as goal

pub returns-in-Some : goal.returns-in-Some
returns-in-Some g c plain ok =
    let name : value_text c.name.result.now c.deref.result.now ≡ value_text (name_of c.args.parameter) c.deref.result.now = ap (λ (n : List ℕ). value_text n c.deref.result.now) c.name.ensures in
    let bytes : value_text (name_of c.args.parameter) c.deref.result.now ≡ value_text (name_of c.args.parameter) c.in-Some.value.items = ap (value_text (name_of c.args.parameter)) c.deref.ensures.value in
    let there : found_text c.args.parameter c.args.value.now ≡ value_text (name_of c.args.parameter) c.in-Some.value.items = ap (found_text c.args.parameter) c.in-Some.is in
    subst (λ (t : List ℕ). HasWritten g.W.Write.write_str_gives c.args.f.now t c.put_value.new.f) (name ∙ bytes ∙ sym there) (c.put_value.ensures plain ok)
