use Rattle.std.proofs.Common.{ap, sym, ◌∙◌}
use Rattle.rpc_messages.specs.Shown.{shown}
use Rattle.rpc_messages.specs.Unit.{unit_of_reading}
use Rattle.value_reading.proofs.Lexemes.{text_read}
use Rattle.rpc_messages.proofs.read.direct.read_direct.Goals as goal

pub returns : goal.returns
returns c =
    let done = c.in_ok-unit.ensures in
    let text = c.args.text.now in
    done.2
    ∙ ap (λ read. shown c.args.with_params (unit_of_reading read))
    (sym (text_read text c.read_unit.new.at c.next_byte.new.at done.0 done.1 c.next_byte.ensures.blanks c.if-at-text.false))
