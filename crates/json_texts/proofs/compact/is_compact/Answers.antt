use Rattle.std.proofs.Common.{◌≡◌, length, subst, sym, eqb-true}
use Rattle.std.specs.Str.{IsUtf8}
use Rattle.json_texts.specs.declared.json_text.TheConstants.{MOST_DEPTH_OUT}
use Rattle.json_texts.specs.Standing.{HasValue}
use Rattle.json_texts.specs.Texts.{json_text, IsJsonText}
use Rattle.json_texts.proofs.Placed.{value_text}
use Rattle.json_texts.proofs.ReadBack.{is_json_text}
use Rattle.json_texts.proofs.compact.is_compact.Goals as goal

pub returns-in-Some : goal.returns-in-Some
returns-in-Some c is =
    let text = c.args.text.now in
    let end = c.in-Some.end in
    let v : HasValue MOST_DEPTH_OUT text 0 end = subst (λ t. HasValue MOST_DEPTH_OUT t 0 end) c.as_bytes.ensures.value c.in-Some.ensures.value in
    let same : json_text v.value ≡ text = value_text MOST_DEPTH_OUT text end v (eqb-true end (length text) is) in
    subst (λ t. IsJsonText t) same (is_json_text v.value v.numbers v.nests (subst (λ t. IsUtf8 t) (sym same) c.utf8.text))
