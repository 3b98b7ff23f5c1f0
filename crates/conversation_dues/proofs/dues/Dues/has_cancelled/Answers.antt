use Rattle.std.proofs.Common.{◌&&◌, ◌∙◌, ap}
use Rattle.std.specs.List.{list_any}
use Rattle.conversation_dues.proofs.Firsts.{any_is}
use Rattle.conversation_open.specs.Open.{open_entries}
use Rattle.conversation_rules.specs.Dues.{has_cancelled}
use Rattle.conversation_rules.specs.Matching.{is_request_for}
use Rattle.conversation_dues.proofs.dues.Dues.has_cancelled.Goals as goal

pub returns : goal.returns
returns c = c.is_there.ensures ∙ any_is (λ due. list_any (λ owed. is_request_for c.args.id.now owed && owed.is_cancelled) due.entries) (open_entries c.self.inside.contents) ∙ ap (has_cancelled c.args.id.now) c.self.view_is
