use Rattle.std.specs.Prelude.{codes}
use Rattle.json.specs.Value.{value_view}
use Rattle.connection_messages.proofs.Members.{member_has_numbers}
use Rattle.connection_messages.proofs.read.reply.read_error.Goals as goal

pub read_data-requires : goal.read_data-requires
read_data-requires c = member_has_numbers (codes "data") (value_view c.args.error.now) c.get.result c.get.ensures c.requires
