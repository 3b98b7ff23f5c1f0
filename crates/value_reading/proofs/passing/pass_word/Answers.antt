use Rattle.std.proofs.Common.{◌≡◌, ◌+◌, ◌++◌, length, drop, nat_eq, true, sym, ap, ◌∙◌, drop-drop}
use Rattle.std.proofs.lemmas.List.{take_rest}
use Rattle.std.specs.List.{starts_with}
use Rattle.json_texts.proofs.Placed.{starts_with-is}
use Rattle.value_reading.proofs.passing.pass_word.Goals as goal

pub returns-then-starts_with-clause-word : goal.returns-then-starts_with-clause-word
returns-then-starts_with-clause-word c =
    let text = c.args.text.now in
    let word = c.args.word.now in
    let from = c.args.at.now in
    let bytes = c.as_bytes-bytes.result.now in
    let same : bytes ≡ text = c.as_bytes-bytes.ensures.value in
    let is : starts_with nat_eq (drop from bytes) word ≡ true =
    ap (λ rest. starts_with nat_eq rest word) (sym (take_rest bytes from)) ∙ sym c.starts_with.ensures.value ∙ c.if-starts_with.true in
    ap (drop from) (sym same) ∙ starts_with-is (drop from bytes) word is ∙ ap (λ l. word ++ l) (drop-drop (length word) from bytes ∙ ap (drop (from + length word)) same)
