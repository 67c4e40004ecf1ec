use Rattle.std.proofs.Common.{◌≡◌, ◌∙◌, ◌∷◌, ◌++◌, [], IfOk, List, ℕ, ap, subst}
use Rattle.json.specs.Print.{print}
use Rattle.json.specs.Token.{Token}
use Rattle.json.specs.Tree.{json_tokens}
use Rattle.text_layouts.specs.Found.{found_value}
use Rattle.text_layouts.proofs.found.found_json.Goals as goal

pub returns : goal.returns
returns c =
    let a = c.args in
    let value = found_value a.layout.now a.manifest.now a.by_digits a.missing.now a.calls a.made.now in
    let out = c.put_found.new.out in
    let put = c.in_ok-put_found.ensures in
    let before : out.before ≡ [] = put.before ∙ c.new-out.ensures.before ∙ c.new.ensures.items in
    let tokens : out.tokens ≡ json_tokens value = put.put ∙ ap (λ (ts : List Token). ts ++ json_tokens value) c.new-out.ensures.tokens in
    let line = ap (λ (text : List ℕ). text ++ print out.tokens ++ 10 ∷ []) before ∙ ap (λ (ts : List Token). print ts ++ 10 ∷ []) tokens in
    subst (λ (line : List ℕ). IfOk c.line_of.result (λ text. text.items ≡ line)) line c.line_of.ensures
