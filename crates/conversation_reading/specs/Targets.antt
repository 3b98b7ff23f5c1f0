-- The id that a cancel names: LSP 3.17, Cancellation Support; MCP 2025-06-18, Cancellation.
use Rattle.std.specs.Prelude.{ℕ, List, Bool, true, Option, Some, None, option_and_then, is_some, codes, if◌then◌else◌}
use Rattle.std.specs.Option.{option_map_or}
use Rattle.std.specs.Str.{bytes_eq}
use Rattle.json.specs.Json.{Json, null, boolean, number, string, array, object}
use Rattle.json.specs.Find.{get, as_str}
use Rattle.conversation_reading.specs.Numbers.{is_whole}
use Rattle.conversation_reading.specs.declared.entry.WrittenId.{WrittenId}
use Rattle.conversation_reading.specs.declared.entry.WrittenId.TheVariants.{Text, Number}

-- a string, or a number that is whole by its value
abbrev pub target_as : Json → Option WrittenId
target_as null = None
target_as (boolean b) = None
target_as (number s) = if is_whole s then Some (Number s) else None
target_as (string s) = Some (Text s)
target_as (array js) = None
target_as (object ms) = None

-- of params, by the name of the member
abbrev pub target_named : List ℕ → Json → Option WrittenId
target_named name params = option_and_then target_as (get name params)

-- a reason is a string, where there is one
abbrev pub has_fit_reason : Json → Bool
has_fit_reason params = option_map_or (λ reason. is_some (as_str reason)) (get (codes "reason") params) true

abbrev pub lsp_target : Json → Option WrittenId
lsp_target params = target_named (codes "id") params

abbrev pub mcp_target : Json → Option WrittenId
mcp_target params = if has_fit_reason params then target_named (codes "requestId") params else None

abbrev pub target_by : List ℕ → Json → Option WrittenId
target_by method params =
    if bytes_eq method (codes "$/cancelRequest") then lsp_target params
    else (if bytes_eq method (codes "notifications/cancelled") then mcp_target params else None)

abbrev pub target_in : Json → Option WrittenId
target_in j = option_and_then (λ method. option_and_then (target_by method) (get (codes "params") j)) (option_and_then as_str (get (codes "method") j))
