-- What a reply to a call of ours says (JSON-RPC 2.0, sections 5 and 5.1).
use Rattle.std.specs.Prelude.{ℕ, ℤ, List, Option, Some, None, option_map, option_and_then, unwrap_or, is_some, codes, if◌then◌else◌}
use Rattle.serde_json.specs.Data.{Data, null}
use Rattle.serde_json.specs.Find.{get, as_str, as_number, as_i64}
use Rattle.rpc_messages.specs.Call.{is_version_2}
use Rattle.rpc_messages.specs.Envelope.{SeenEnvelope}
use Rattle.json_values.specs.Whole.{whole}
use Rattle.rpc_messages.specs.declared.reply.Reply.{Reply}
use Rattle.rpc_messages.specs.declared.reply.Reply.TheVariants.{Done, Error, Standard}
use Rattle.message_ids.specs.declared.standard.Standard.TheVariants.{InvalidReply}

-- null counts as absent
abbrev pub unless_null : Option Data → Option Data
unless_null (Some null) = None
unless_null member = member

-- the member `data` of an error, where there is one, has no fraction in it
abbrev pub extra_in : Option Data → Option (Option Data)
extra_in None = Some None
extra_in (Some d) = option_map Some (whole d)

-- section 5.1: an error has a whole number as its code and a string as its message, and may have data
abbrev pub error_from : Option ℤ → Option (List ℕ) → Option (Option Data) → Option Reply
error_from (Some c) (Some m) (Some x) = Some (Error (record { code = c; message = m; extra = x }))
error_from _ _ _ = None

abbrev pub error_in : Data → Option Reply
error_in d =
    error_from (option_and_then as_i64 (option_and_then as_number (get (codes "code") d))) (option_and_then as_str (get (codes "message") d))
    (extra_in (get (codes "data") d))

-- section 5: either an error or a result, and not both
abbrev pub outcome_of : Option Data → Option Data → Option Reply
outcome_of None None = None
outcome_of None (Some d) = option_map Done (whole d)
outcome_of (Some e) answer = if is_some (unless_null answer) then None else error_in e

-- a reply of another version, or of neither or both, is a faulty one
abbrev pub reply_in : SeenEnvelope → Reply
reply_in e = if is_version_2 e.version then unwrap_or (outcome_of (unless_null e.error) e.result) (Standard InvalidReply) else Standard InvalidReply
