-- One string token is written behind the bytes.
use Rattle.std.proofs.Common.{◌≡◌, ◌∷◌, [], ◌++◌, ap, ◌∙◌}
use Rattle.json.specs.Token as token
use Rattle.json.specs.Print.{print, quoted}
use Rattle.message_texts.proofs.OnResults.{OnOk-follows, print-string}
use Rattle.message_texts.proofs.parts.put_quoted.Goals as goal

pub returns-clause-text : goal.returns-clause-text
returns-clause-text c =
    let before : c.string-put.new.self.before ≡ c.args.bytes.now.items = c.string-put.ensures.room.0 ∙ c.new-writer.ensures.before ∙ ap (λ bytes. bytes.items) c.replace-before.ensures.value in
    OnOk-follows c.string-put.result
    (λ put.
    let tokens = put ∙ ap (λ ts. ts ++ token.string c.args.text.now ∷ []) c.new-writer.ensures.tokens in
    c.into_inner.ensures.items ∙ ap (λ ts. c.string-put.new.self.before ++ print ts) tokens
    ∙ ap (λ bytes. c.string-put.new.self.before ++ bytes) (print-string c.args.text.now) ∙ ap (λ front. front ++ quoted c.args.text.now) before)
    c.string-put.ensures.ok
