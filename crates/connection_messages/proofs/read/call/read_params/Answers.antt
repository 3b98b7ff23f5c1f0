use Rattle.std.specs.Prelude.{codes}
use Rattle.json.specs.Value.{value_view}
use Rattle.connection_messages.proofs.Members.{member_has_numbers}
use Rattle.connection_messages.proofs.read.call.read_params.Goals as goal

pub text_of-requires : goal.text_of-requires
text_of-requires c = member_has_numbers (codes "params") (value_view c.args.value.now) c.get.result c.get.ensures c.requires c.in-Some.params c.in-Some.is
