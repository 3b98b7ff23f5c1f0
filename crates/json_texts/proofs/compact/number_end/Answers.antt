use Rattle.std.proofs.Common.{◌||◌, ◌==◌, None, sym, ap, ◌∙◌}
use Rattle.std.specs.Char.{is_ascii_digit}
use Rattle.json_texts.proofs.FoundNumbers.{no_number_found, whole_found}
use Rattle.json_texts.proofs.compact.number_end.Goals as goal

pub returns-then-not-begins_number-clause-found : goal.returns-then-not-begins_number-clause-found
returns-then-not-begins_number-clause-found c =
    no_number_found c.args.text.now c.args.from None
    (ap (λ x. is_ascii_digit x || (x == 45)) (sym c.byte_at.ensures) ∙ sym c.begins_number.ensures ∙ c.if-not-begins_number.true)

pub returns-in-Some-clause-found : goal.returns-in-Some-clause-found
returns-in-Some-clause-found c = whole_found c.args.text.now c.args.from c.in-Some.end c.requires c.in-Some.ensures.bounds.1 c.in-Some.ensures.rest
