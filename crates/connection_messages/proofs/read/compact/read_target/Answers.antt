use Rattle.std.proofs.Common.{sym, ap, ◌∙◌}
use Rattle.json.specs.Print.{quoted}
use Rattle.message_ids.specs.declared.id.Id.TheVariants.{Text, Unsigned}
use Rattle.connection_messages.proofs.Enveloped.{target_of, number_target, string_target}
use Rattle.connection_messages.proofs.read.compact.read_target.Goals as goal

pub returns-in-Some-unsigned : goal.returns-in-Some-unsigned
returns-in-Some-unsigned c =
    let part = c.in-Some-target.part in
    let number = c.in-Some-unsigned.number in
    target_of c.args.by 126 c.args.params.now c.in-Some.end c.note_object.new.self part (Unsigned number) c.in-Some.ensures.envelope c.if-end-params.false (sym c.target.ensures ∙ c.in-Some-target.is)
    (number_target part.now number (sym c.in-Some-unsigned.ensures))

pub returns-in_ok-copy_of-in-Some-plain : goal.returns-in_ok-copy_of-in-Some-plain
returns-in_ok-copy_of-in-Some-plain c =
    let part = c.in-Some-target.part in
    let copy = c.in_ok-copy_of-in-Some-plain in
    target_of c.args.by 126 c.args.params.now c.in-Some.end c.note_object.new.self part (Text copy.field-0) c.in-Some.ensures.envelope c.if-end-params.false (sym c.target.ensures ∙ c.in-Some-target.is)
    (string_target part.now copy.field-0 (c.in-Some-plain.ensures ∙ ap quoted (sym copy.ensures)))
