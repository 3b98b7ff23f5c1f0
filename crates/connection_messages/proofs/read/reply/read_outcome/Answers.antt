use Rattle.std.proofs.Common.{option_map}
use Rattle.std.specs.Prelude.{codes}
use Rattle.json.specs.Value.{value_view}
use Rattle.connection_messages.proofs.Members.{member_has_numbers, other_has_numbers}
use Rattle.connection_messages.proofs.read.reply.read_outcome.Goals as goal

pub text_of-requires : goal.text_of-requires
text_of-requires c = member_has_numbers (codes "result") (value_view c.args.value.now) c.get-2.result c.get-2.ensures c.requires c.in-None-Some.result c.in-None-Some.is-1

pub read_error-requires : goal.read_error-requires
read_error-requires c =
    other_has_numbers (codes "error") (value_view c.args.value.now) (option_map (λ v. value_view v.now) c.get.result) c.not_null.result c.get.ensures c.not_null.ensures c.requires
    c.in-Some-default.error c.in-Some-default.is-0
