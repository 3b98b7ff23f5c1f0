use Rattle.value_reading.proofs.Placed.{string_read}
use Rattle.rpc_messages.proofs.read.direct.read_piece.Goals as goal

pub returns-in-Ok-clause-piece : goal.returns-in-Ok-clause-piece
returns-in-Ok-clause-piece c =
    string_read c.args.levels c.args.text.now c.in-Ok.string.now c.args.at.now c.read_string.new.at c.in-Ok.ensures.string
