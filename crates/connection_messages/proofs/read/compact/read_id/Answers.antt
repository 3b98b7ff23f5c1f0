use Rattle.std.proofs.Common.{◌≡◌, sym, ap, ◌∙◌}
use Rattle.std.specs.Prelude.{codes}
use Rattle.std.proofs.lemmas.Slice.Eq.{bytes_eq-Decides}
use Rattle.json.specs.Print.{quoted}
use Rattle.connection_messages.proofs.Enveloped.{number_gives, null_gives, text_gives}
use Rattle.connection_messages.proofs.read.compact.read_id.Goals as goal

pub returns-in-Some-unsigned : goal.returns-in-Some-unsigned
returns-in-Some-unsigned c =
    number_gives c.args.part c.in-Some.part c.in-Some-unsigned.number c.in-Some.is (sym c.in-Some-unsigned.ensures)

pub returns-then-is_word : goal.returns-then-is_word
returns-then-is_word c =
    let same : c.in-Some.part.now ≡ codes "null" = (bytes_eq-Decides c.in-Some.part.now (codes "null")).0 (sym c.is_word.ensures ∙ c.if-is_word.true) in
    null_gives c.args.part c.in-Some.part c.in-Some.is same

pub returns-in_ok-copy_of-in-Some-plain : goal.returns-in_ok-copy_of-in-Some-plain
returns-in_ok-copy_of-in-Some-plain c =
    text_gives c.args.part c.in-Some.part c.in_ok-copy_of-in-Some-plain.field-0 c.in-Some.is (c.in-Some-plain.ensures ∙ ap quoted (sym c.in_ok-copy_of-in-Some-plain.ensures))
