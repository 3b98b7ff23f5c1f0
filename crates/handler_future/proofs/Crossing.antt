-- A handler may go to another thread, since each of its parts may.
use denote.Param.Send.{IsSend, IsSync, sendable, view_send, recorded_send, struct_send}
use denote.Param.SendFields.{declared_send}
use denote.Struct.Declared.{shape}
use Rattle.std.proofs.Crossing as std
use Rattle.std.proofs.MapsCrossing as maps
use Rattle.std.proofs.option.Option.TheSendSync as option
use Rattle.std.proofs.alloc.Global.TheSendSync as global
use Rattle.std.proofs.string.String.TheSendSync as string
use Rattle.serde_json.proofs.value.Value.TheLaws.TheKnot as value
use Rattle.json_values.proofs.text.Text.TheSendSync as text
use Rattle.message_ids.proofs.id.Id.TheSendSync as id
use Rattle.json_values.proofs.negative.Negative.TheSendSync as negative
use Rattle.message_ids.proofs.standard.Standard.TheSendSync as standard
use Rattle.json_values.specs.contracts.json_value.Json as Json
use Rattle.rpc_messages.specs.contracts.call.Call as Call
use Rattle.rpc_messages.specs.contracts.reply.Reply as Reply
use Rattle.rpc_messages.specs.contracts.outgoing.Outgoing as Outgoing
use Rattle.method_templates.proofs.template.Template.TheLaws.TheKnot as template
use Rattle.method_templates.proofs.step.Step.TheSendSync as step
use Rattle.method_templates.proofs.step.OnError.TheSendSync as on_error
use Rattle.method_templates.specs.contracts.step.ListedCall as ListedCall
use Rattle.method_templates.specs.contracts.template.Template as Template
use Rattle.method_templates.specs.contracts.locals.Locals as Locals
use Rattle.method_templates.specs.contracts.locals.Row as Row
use Rattle.method_templates.specs.contracts.name.Name as Name
use Rattle.json_values.proofs.items.Items.TheSendSync as items
use Rattle.handler_future.proofs.course.CourseOf.TheSendSync as course
use Rattle.handler_future.specs.contracts.message.Message as Message
use Rattle.handler_future.specs.contracts.run.Run as Run
use Rattle.handler_future.specs.contracts.handler.Handler.{the_row}
use Rattle.handler_future.specs.contracts.handler.Handler.TheInside as inside

-- what is known of the parts of a type, as a set for `search`
pub ruleset known = (
  sendable,
  std.crosses,
  maps.crosses,
  std.send,
  std.sync,
  option.the_send,
  option.the_sync,
  option.the_field_send,
  option.the_field_sync,
  global.the_send,
  global.the_sync,
  global.the_field_send,
  global.the_field_sync,
  string.the_send,
  string.the_sync,
  string.the_field_send,
  string.the_field_sync,
  text.the_send,
  text.the_sync,
  id.the_send,
  id.the_sync,
  id.the_field_send,
  id.the_field_sync,
  negative.the_send,
  negative.the_sync,
  standard.the_send,
  standard.the_sync,
  standard.the_field_send,
  standard.the_field_sync,
  on_error.the_send,
  on_error.the_sync,
  on_error.the_field_send,
  on_error.the_field_sync,
)

json_send : IsSend Json.the_row
json_send = search (known, value.crosses, value.crosses_both) depth 14 fits 8000

json_sync : IsSync Json.the_row
json_sync = search (known, value.crosses, value.crosses_both) depth 14 fits 8000

call_send : IsSend Call.the_row
call_send = search (known, json_send) depth 12

call_sync : IsSync Call.the_row
call_sync = search (known, json_sync) depth 12

pub reply_send : IsSend Reply.the_row
reply_send = search (known, json_send) depth 12

outgoing_send : IsSend Outgoing.the_row
outgoing_send = search (known, json_send) depth 12

message_send : IsSend Message.the_row
message_send = search (known, json_send, outgoing_send, items.the_send) depth 14 fits 8000

template_send : IsSend Template.the_row
template_send = search (known, json_send, template.crosses) depth 12

template_sync : IsSync Template.the_row
template_sync = search (known, json_send, json_sync, template.crosses) depth 12

listed_send : IsSend ListedCall.the_row
listed_send = search (known, template_send) depth 12

listed_sync : IsSync ListedCall.the_row
listed_sync = search (known, template_sync) depth 12

name_send : IsSend Name.the_row
name_send = search known depth 12

row_send : IsSend Row.the_row
row_send = search (known, json_send, name_send) depth 12

locals_send : IsSend Locals.the_row
locals_send = search (known, row_send) depth 12

run_send : IsSend Run.the_row
run_send = declared_send Run.the_type (
  search known depth 12,
  (
    search known depth 12,
    (
      search (known, call_send, call_sync) depth 12,
      (
        search (known, step.the_send, step.the_sync, items.the_send, items.the_sync, template_send, template_sync, listed_send, listed_sync) depth 12,
        (search (known, course.the_field_send, locals_send, message_send, reply_send) depth 12, (search known depth 12, tt)),
      ),
    ),
  ),
)

fields_send : IsSend inside.the_row
fields_send = recorded_send inside.the_field.row _ _ inside.the_type.to_one (struct_send (shape inside.the_type) (
  search (known, run_send) depth 12,
  tt,
))

pub handler_send : IsSend the_row
handler_send = search (view_send, fields_send)
