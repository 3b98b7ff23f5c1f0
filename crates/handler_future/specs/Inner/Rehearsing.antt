-- A rehearsal on its way: what it has still to hear.
use Rattle.std.specs.Prelude.{◌≡◌, ◌≢◌, ℕ, false, Contains, unwrap_or}
use Rattle.std.specs.BTreeMap.{BTreeMap, get}
use Rattle.std.specs.Ordering.{nat_cmp}
use Rattle.rpc_messages.specs.declared.reply.Reply.{Reply}
use Rattle.rpc_messages.specs.declared.reply.Reply.TheVariants.{Standard}
use Rattle.message_ids.specs.declared.standard.Standard.TheVariants.{NoReply}
use Rattle.handler_future.specs.Evaluation.{Replies}
use Rattle.handler_future.specs.Front.{AgreesWith, is_heard}
use Rattle.handler_future.specs.State.{HandlerState, with_heard}

abbrev pub listed_reply : BTreeMap ℕ Reply → ℕ → Reply
listed_reply listed t = unwrap_or (get nat_cmp listed t) (Standard NoReply)

-- the map gives each turn that was heard its reply, and each other one the listed reply
pub record Follows (R : Replies) (s : HandlerState) (listed : BTreeMap ℕ Reply) : Type 0 where
  pub agrees : AgreesWith s.heard R
  pub rest : (t : ℕ) → is_heard s.heard t ≡ false → listed_reply listed t ≡ R t

-- an awaited turn hears its listed reply, which is taken off the list
pub record HearsOne (before after : HandlerState) (listed left : BTreeMap ℕ Reply) : Type 0 where
  pub turn : ℕ
  pub awaited : Contains before.waits turn
  pub state : after ≡ with_heard before turn (listed_reply listed turn)
  pub others : (t : ℕ) → turn ≢ t → get nat_cmp left t ≡ get nat_cmp listed t
