use Rattle.std.proofs.Common.{◌∙◌, ap}
use Rattle.std.specs.List.{list_any}
use Rattle.conversation_dues.proofs.Firsts.{any_is}
use Rattle.conversation_open.specs.Open.{open_entries}
use Rattle.conversation_rules.specs.Dues.{is_asked}
use Rattle.conversation_rules.specs.Matching.{is_request_for}
use Rattle.conversation_dues.proofs.dues.Dues.is_asked.Goals as goal

pub returns : goal.returns
returns c = c.is_there.ensures ∙ any_is (λ due. list_any (is_request_for c.args.id.now) due.entries) (open_entries c.self.inside.contents) ∙ ap (is_asked c.args.id.now) c.self.view_is
