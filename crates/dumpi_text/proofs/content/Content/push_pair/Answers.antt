use Rattle.std.proofs.Common.{◌≡◌, ◌∙◌, ◌≤◌, ℕ, ◌+◌, ◌∷◌, ◌++◌, List, length, take, ap, arith}
use Rattle.std.proofs.lemmas.Grind.{common_steps}
use Rattle.std.proofs.lemmas.List.{take-append-le}
use Rattle.dumpi_text.proofs.Spans.{params_pushed, spans_pushed}
use Rattle.dumpi_text.proofs.content.Content.push_pair.Goals as goal

pub invariant_of-self-2 : goal.invariant_of-self-2
invariant_of-self-2 c =
    let bytes = c.self.inside.bytes.items in
    let name = c.args.name.now in
    let value = c.args.value.now in
    let all = c.extend_from_slice.new.self.items in
    let more : all ≡ bytes ++ c.args.pair.now = grind (arith, common_steps) in
    let put : all ≡ bytes ++ (name ++ 61 ∷ value) = more ∙ ap (λ (r : List ℕ). bytes ++ r) c.requires in
    let start : c.len-start.result ≡ length bytes = grind (arith, common_steps) in
    let name_end = c.len-start.result + length name in
    let within : c.self.inside.name_end ≤ length all = grind (arith, common_steps) in (
      within,
      spans_pushed bytes name value all c.self.inside.spans.items c.push.new.self.items c.len-start.result name_end (name_end + 1 + length value)
          c.self.invariant.1 put start (grind arith) (grind arith) (grind (arith, common_steps)),
    )

pub returns : goal.returns
returns c =
    let bytes = c.self.inside.bytes.items in
    let name = c.args.name.now in
    let value = c.args.value.now in
    let all = c.extend_from_slice.new.self.items in
    let more : all ≡ bytes ++ c.args.pair.now = grind (arith, common_steps) in
    let put : all ≡ bytes ++ (name ++ 61 ∷ value) = more ∙ ap (λ (r : List ℕ). bytes ++ r) c.requires in
    let start : c.len-start.result ≡ length bytes = grind (arith, common_steps) in
    let name_end = c.len-start.result + length name in
    let params = params_pushed bytes name value all c.self.inside.spans.items c.push.new.self.items c.len-start.result name_end (name_end + 1 + length value)
    c.self.invariant.1 put start (grind arith) (grind arith) (grind (arith, common_steps)) in
    let same : take c.self.inside.name_end all ≡ take c.self.inside.name_end bytes =
    ap (λ (r : List ℕ). take c.self.inside.name_end r) put ∙ take-append-le c.self.inside.name_end bytes (name ++ 61 ∷ value) c.self.invariant.0 in
    grind (arith, common_steps, params, same)
