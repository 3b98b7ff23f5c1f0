use Rattle.std.proofs.Common.{◌≡◌, ◌++◌, length, drop, nat_eq, true, refl, ap, sym, ◌∙◌, take, drop-drop}
use Rattle.std.proofs.lemmas.Bool.{false≢true}
use Rattle.std.proofs.lemmas.List.{take_rest, take_at}
use Rattle.std.specs.List.{starts_with}
use Rattle.json_texts.specs.Found.{FindsWord}
use Rattle.json_texts.proofs.Placed.{starts_with-is, starts_with-so}
use Rattle.json_texts.proofs.compact.word_end.Goals as goal

pub returns-then-starts_with-clause-word : goal.returns-then-starts_with-clause-word
returns-then-starts_with-clause-word c =
    let text = c.args.text.now in
    let word = c.args.word.now in
    let is : starts_with nat_eq (drop c.args.from text) word ≡ true =
    ap (λ rest. starts_with nat_eq rest word) (sym (take_rest text c.args.from)) ∙ sym c.starts_with.ensures.value ∙ c.if-starts_with.true in
    starts_with-is (drop c.args.from text) word is ∙ ap (λ l. word ++ l) (drop-drop (length word) c.args.from text)

pub returns-then-starts_with-clause-found : goal.returns-then-starts_with-clause-found
unfolding FindsWord
returns-then-starts_with-clause-found c rest stands = refl

pub returns-else-starts_with-clause-found : goal.returns-else-starts_with-clause-found
unfolding FindsWord
returns-else-starts_with-clause-found c rest stands =
    let text = c.args.text.now in
    let word = c.args.word.now in
    let front : word ≡ take (length word) (drop c.args.from text) = sym (take_at word rest (length word) refl) ∙ ap (take (length word)) (sym stands) in
    let is : starts_with nat_eq (drop c.args.from text) word ≡ true = starts_with-so (drop c.args.from text) word front in
    absurd (false≢true (sym c.if-starts_with.false ∙ c.starts_with.ensures.value ∙ ap (λ rest. starts_with nat_eq rest word) (take_rest text c.args.from) ∙ is))
