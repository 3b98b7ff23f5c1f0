-- One string token is written, into an empty room.
use Rattle.std.proofs.Common.{◌≡◌, ℕ, ◌∷◌, [], ◌++◌, ap, ◌∙◌}
use Rattle.std.specs.Global.{Vec}
use Rattle.json.specs.Token as token
use Rattle.json.specs.Print.{print}
use Rattle.host_calls.proofs.Printed.{print-string}
use Rattle.host_calls.proofs.id.put_quoted.Goals as goal

pub returns : goal.returns
returns c =
    let before : c.string.new.self.before ≡ [] = c.string.ensures.room.0 ∙ c.new-writer.ensures.before ∙ ap (λ (v : Vec ℕ). v.items) c.replace.ensures.value ∙ c.requires in
    let tokens : c.string.new.self.tokens ≡ token.string c.args.text.now ∷ [] = c.in_ok-string.ensures.ok ∙ ap (λ ts. ts ++ token.string c.args.text.now ∷ []) c.new-writer.ensures.tokens in
    c.into_inner.ensures.items ∙ ap (λ bytes. bytes ++ print c.string.new.self.tokens) before
    ∙ ap (λ ts. print ts) tokens ∙ print-string c.args.text.now
