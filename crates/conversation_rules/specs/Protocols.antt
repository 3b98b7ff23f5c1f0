-- What differs between the protocols: JSON-RPC 2.0, LSP 3.17, and four versions of MCP. `Mcp` is that of 2025-11-25.
use Rattle.std.specs.Prelude.{ℕ, List, Option, Some, None, Bool, true, false, codes}
use Rattle.conversation_rules.specs.declared.level.Level.{Level}
use Rattle.conversation_rules.specs.declared.level.Level.TheVariants.{Must, Should, Note}
use Rattle.conversation_rules.specs.declared.protocol.Protocol.{Protocol}
use Rattle.conversation_rules.specs.declared.protocol.Protocol.TheVariants.{JsonRpc, Lsp, Mcp, Mcp20250618, Mcp20250326, Mcp20241105}

-- how bad a batch is, where the rules have none (LSP and MCP 2024-11-05 have no word on them; MCP, changes of 2025-06-18)
abbrev pub batch_level : Protocol → Option Level
batch_level JsonRpc = None
batch_level Lsp = Some Note
batch_level Mcp = Some Must
batch_level Mcp20250618 = Some Must
batch_level Mcp20250326 = None
batch_level Mcp20241105 = Some Note

-- how bad an id is that is null or has a fraction (JSON-RPC 4; LSP, Request Message; MCP, messages)
abbrev pub odd_id_level : Protocol → Level
odd_id_level JsonRpc = Should
odd_id_level Lsp = Must
odd_id_level Mcp = Must
odd_id_level Mcp20250618 = Must
odd_id_level Mcp20250326 = Must
odd_id_level Mcp20241105 = Must

-- whether a request with the id null may be left unanswered
abbrev pub may_leave_null : Protocol → Bool
may_leave_null JsonRpc = false
may_leave_null Lsp = true
may_leave_null Mcp = true
may_leave_null Mcp20250618 = true
may_leave_null Mcp20250326 = true
may_leave_null Mcp20241105 = true

abbrev pub is_lsp : Protocol → Bool
is_lsp JsonRpc = false
is_lsp Lsp = true
is_lsp Mcp = false
is_lsp Mcp20250618 = false
is_lsp Mcp20250326 = false
is_lsp Mcp20241105 = false

-- whether it is MCP: no id is used twice, and a request whose cancel was seen needn't be answered any more
abbrev pub is_mcp : Protocol → Bool
is_mcp JsonRpc = false
is_mcp Lsp = false
is_mcp Mcp = true
is_mcp Mcp20250618 = true
is_mcp Mcp20250326 = true
is_mcp Mcp20241105 = true

-- the method of a cancel
abbrev pub cancel_method : Protocol → Option (List ℕ)
cancel_method JsonRpc = None
cancel_method Lsp = Some (codes "$/cancelRequest")
cancel_method Mcp = Some (codes "notifications/cancelled")
cancel_method Mcp20250618 = Some (codes "notifications/cancelled")
cancel_method Mcp20250326 = Some (codes "notifications/cancelled")
cancel_method Mcp20241105 = Some (codes "notifications/cancelled")

-- MCP since 2025-11-25: an error to what can't be read may be without an id, and a cancel without that of a request
abbrev pub may_leave_ids_out : Protocol → Bool
may_leave_ids_out JsonRpc = false
may_leave_ids_out Lsp = false
may_leave_ids_out Mcp = true
may_leave_ids_out Mcp20250618 = false
may_leave_ids_out Mcp20250326 = false
may_leave_ids_out Mcp20241105 = false
