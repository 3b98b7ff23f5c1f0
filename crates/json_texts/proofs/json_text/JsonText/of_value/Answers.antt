use Rattle.std.proofs.Common.{sym, subst, List, ℕ}
use Rattle.json.specs.Value.{value_view}
use Rattle.json_texts.specs.Texts.{IsJsonText}
use Rattle.json_texts.proofs.ReadBack.{is_json_text}
use Rattle.json_texts.proofs.json_text.JsonText.of_value.Goals as goal

pub invariant_of-result : goal.invariant_of-result
invariant_of-result c =
    let P : List ℕ → Type 0 = λ text. IsJsonText text in
    subst P (sym c.in_ok-text_of.ensures.text) (is_json_text (value_view c.args.value.now) c.requires.numbers c.requires.nests c.in_ok-text_of.ensures.utf8)
