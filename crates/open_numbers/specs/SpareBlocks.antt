-- Blocks that wait to serve again: they hold nothing of the numbers that they stood for.
use Rattle.std.specs.Prelude.{◌&&◌, List, Bool, true, false}
use Rattle.std.specs.List.{list_all}
use Rattle.std.specs.Global.{Box}
use Rattle.message_ids.specs.declared.id.Id.{Id}
use Rattle.message_ids.specs.declared.id.Id.TheVariants as id
use Rattle.rpc_messages.specs.declared.reply.Reply.{Reply}
use Rattle.rpc_messages.specs.declared.reply.Reply.TheVariants as reply
use Rattle.open_numbers.specs.declared.kept.Kept.{Kept}
use Rattle.open_numbers.specs.declared.kept.Kept.TheVariants.{Open, Answered}

-- the id null, and an answer of a fixed text: neither takes memory
abbrev pub is_null : Id → Bool
is_null id.Null = true
is_null (id.Text text) = false
is_null (id.Signed number) = false
is_null (id.Unsigned number) = false

abbrev pub is_fixed : Reply → Bool
is_fixed (reply.Done value) = false
is_fixed (reply.Error error) = false
is_fixed (reply.Standard standard) = true

-- it holds neither a call with its replies, nor an id, nor an answer of its own
abbrev pub is_empty : Kept → Bool
is_empty (Open call) = false
is_empty (Answered id reply) = is_null id && is_fixed reply

abbrev pub are_empty : List (Box Kept) → Bool
are_empty blocks = list_all (λ block. is_empty block.value) blocks
