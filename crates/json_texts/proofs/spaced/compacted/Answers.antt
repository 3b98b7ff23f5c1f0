use Rattle.std.proofs.Common.{◌≡◌, Some, [], ap, sym, subst, ◌∙◌}
use Rattle.std.specs.Str.{IsUtf8}
use Rattle.json.specs.Lex.{tokens}
use Rattle.json_texts.specs.Texts.{compact_text}
use Rattle.json_texts.specs.Compacting.{HasWrittenValue}
use Rattle.json_texts.proofs.Written.{compact_is, itself_is}
use Rattle.json_texts.proofs.spaced.compacted.Goals as goal

pub returns-in-Some-clause-compact : goal.returns-in-Some-clause-compact
returns-in-Some-clause-compact c =
    let out = c.append_text.new.out in
    let text = c.args.text.now in
    let value : HasWrittenValue c.args.levels [] out = c.in_ok-append_text.ensures.value c.if-not-branch.false in
    let same : tokens out ≡ tokens text = c.in_ok-append_text.ensures.same c.if-not-branch.false ∙ ap tokens c.as_bytes.ensures.value in
    let utf8 : IsUtf8 out = subst (λ l. IsUtf8 l) (c.as_slice.ensures.value ∙ c.into_vec-bytes.ensures) c.in-Some.ensures.1 in
    let is : c.from-text.result ≡ out = c.from-text.ensures ∙ ap (λ v. v.items) c.from_utf8_unchecked.ensures.value ∙ c.into_vec-bytes.ensures in
    compact_is c.args.levels text out c.utf8.text utf8 same value ∙ ap Some (sym is)

pub returns-in-Some-clause-itself : goal.returns-in-Some-clause-itself
returns-in-Some-clause-itself c =
    let out = c.append_text.new.out in
    let value : HasWrittenValue c.args.levels [] out = c.in_ok-append_text.ensures.value c.if-not-branch.false in
    let utf8 : IsUtf8 out = subst (λ l. IsUtf8 l) (c.as_slice.ensures.value ∙ c.into_vec-bytes.ensures) c.in-Some.ensures.1 in
    let is : c.from-text.result ≡ out = c.from-text.ensures ∙ ap (λ v. v.items) c.from_utf8_unchecked.ensures.value ∙ c.into_vec-bytes.ensures in
    ap (compact_text c.args.levels) is ∙ itself_is c.args.levels out utf8 value ∙ ap Some (sym is)
