-- What a connection was made with.
use Rattle.std.specs.Prelude.{ℕ, Bool, ◌&&◌, nat_le, Option}
use Rattle.connection_messages.specs.declared.cancels.Cancels.{Cancels}
use Rattle.connection_messages.specs.declared.rules.Rules.{Rules}
use Rattle.connection_history.specs.declared.order.Order.{Order}
use Rattle.content_streams.specs.declared.framing.Framing.{Framing}
use Rattle.lsp_frames.specs.declared.limits.TheConstants.{LONGEST_CONTENT}

pub record Chosen : Type 0 where
  pub framing : Framing
  pub order : Order
  -- whose cancels are told apart from calls, and withdraw ours
  pub cancels : Option Cancels
  -- how many entries a batch may have, where that is limited; and whether params that are null are told as null
  pub most_entries : Option ℕ
  pub null_params : Bool
  -- whether broken input is told
  pub tells_broken : Bool
  -- how many bytes a content may have, and how many calls may come
  pub content : ℕ
  pub calls : ℕ

-- how contents are read
abbrev pub rules_of : Chosen → Rules
rules_of c = record { cancels = c.cancels; most_entries = c.most_entries; null_params = c.null_params }

abbrev pub are_possible : ℕ → ℕ → Bool
are_possible content calls = nat_le 1 content && nat_le content LONGEST_CONTENT && nat_le 1 calls
