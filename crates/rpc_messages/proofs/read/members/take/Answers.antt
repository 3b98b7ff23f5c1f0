use Rattle.std.proofs.Common.{option_map, ap, ◌∙◌}
use Rattle.serde_json.specs.View.{view, members_view}
use Rattle.serde_json.specs.Find.{get_member}
use Rattle.serde_json.proofs.Views.{view-lookup}
use Rattle.rpc_messages.proofs.TakenMember.{get_member-remove_entry}
use Rattle.rpc_messages.proofs.read.members.take.Goals as goal

pub returns-clause-found : goal.returns-clause-found
returns-clause-found c = ap (option_map view) c.remove.ensures.value ∙ view-lookup c.args.name.now c.args.members.now.entries

pub returns-clause-others : goal.returns-clause-others
returns-clause-others c = λ other differs.
    ap (λ es. get_member other (members_view es)) c.remove.ensures.entries
    ∙ get_member-remove_entry other c.args.name.now c.args.members.now.entries differs
