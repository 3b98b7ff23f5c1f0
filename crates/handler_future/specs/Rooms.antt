-- A room that waits for the next handler: it holds nothing of a call, and its lists have room for a few items.
use Rattle.std.specs.Prelude.{◌≡◌, ◌≤◌, length, is_some, false, vec_capacity}
use Rattle.handler_future.specs.declared.run.Run.{Run}

pub record IsVacant (run : Run) : Type 0 where
  pub call : is_some run.call ≡ false
  pub registers : length run.course.registers ≡ 0
  pub messages : length run.course.messages.items ≡ 0
  pub waits : length run.course.waits.items ≡ 0
  pub heard : length run.course.heard.items ≡ 0
  pub messages_room : vec_capacity run.course.messages ≤ 32
  pub waits_room : vec_capacity run.course.waits ≤ 32
  pub heard_room : vec_capacity run.course.heard ≤ 32
