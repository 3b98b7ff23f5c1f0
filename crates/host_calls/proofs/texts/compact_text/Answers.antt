use Rattle.std.proofs.Common.{◌≡◌, subst, sym}
use Rattle.std.specs.Str.{IsUtf8}
use Rattle.json_texts.specs.declared.json_text.TheConstants.{MOST_DEPTH_OUT}
use Rattle.json_texts.specs.Texts.{json_text, IsJsonText}
use Rattle.json_texts.proofs.Placed.{value_text}
use Rattle.json_texts.proofs.ReadBack.{is_json_text}
use Rattle.host_calls.proofs.texts.compact_text.Goals as goal

pub returns-then-end-bytes : goal.returns-then-end-bytes
returns-then-end-bytes c =
    let bytes = c.args.bytes.now in
    let v = c.in_ok-end.ensures.value in
    let text = c.in_ok-text.ensures in
    let same : json_text v.value ≡ bytes = value_text MOST_DEPTH_OUT bytes c.in_ok-end.end v c.if-end-bytes.true in
    (text.0, subst (λ t. IsJsonText t) (sym text.0) (subst (λ t. IsJsonText t) same (is_json_text v.value v.numbers v.nests (subst (λ t. IsUtf8 t) (sym same) text.1))))
