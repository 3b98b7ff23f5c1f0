use Rattle.std.proofs.Common.{ap, ◌∙◌}
use Rattle.serde_json.specs.View.{members_view}
use Rattle.serde_json.proofs.Views.{members_view-insert_entry}
use Rattle.json_values.proofs.WholeParts.{members_have_float-put}
use Rattle.json_values.proofs.json_object.JsonObject.insert.Goals as goal

pub invariant_of-self-2 : goal.invariant_of-self-2
invariant_of-self-2 c =
    let all = ap members_view c.in_ok-insert.ensures.entries ∙ members_view-insert_entry c.self.inside.members.entries c.into_string.result c.into_value.result in
    rw (all, c.into_string.ensures, c.into_value.ensures.value)
    (members_have_float-put c.args.name c.args.value _ c.into_value.ensures.whole c.self.invariant)

pub returns-clause-ok : goal.returns-clause-ok
returns-clause-ok c =
    let all = ap members_view c.in_ok-insert.ensures.entries ∙ members_view-insert_entry c.self.inside.members.entries c.into_string.result c.into_value.result in
    rw (all, c.into_string.ensures, c.into_value.ensures.value, c.self.view_is)
