use Rattle.std.proofs.Common.{◌≡◌, ◌-◌, ◌∷◌, length, ap, ap₂, ◌∙◌, arith}
use Rattle.json.specs.Json.{parse_map, members, value}
use Rattle.json.specs.Reads.{token_of}
use Rattle.json.proofs.Grammar.{value-begin_object}
use Rattle.json_reading.proofs.Reading.{converted-object}
use Rattle.serde_json.specs.Data.{object}
use Rattle.serde_json.specs.Read.{of_json, converted}
use Rattle.serde_json.specs.View.{view}
use Rattle.rpc_messages.specs.Entry.{message_in}
use Rattle.rpc_messages.proofs.Tokens.{invalid_unless_object}
use Rattle.rpc_messages.proofs.read.entry_from.Goals as goal

pub returns-then-depth-eq0-clause-refused : goal.returns-then-depth-eq0-clause-refused
unfolding value
returns-then-depth-eq0-clause-refused c never =
    let none : c.args.depth ≡ 0 = omega arith in
    ap (converted of_json) (ap₂ value none (ap (λ t. token_of t ∷ c.args.reader.now) c.in-BeginObject.is))

pub returns-in_err-envelope-in-BeginObject-clause-refused : goal.returns-in_err-envelope-in-BeginObject-clause-refused
returns-in_err-envelope-in-BeginObject-clause-refused c refused =
    let ts = c.args.reader.now in
    let first = ap (λ t. token_of t ∷ ts) c.in-BeginObject.is in
    let opened = ap (converted of_json) (ap (value c.args.depth) first ∙ value-begin_object c.args.depth ts (omega arith)) ∙ converted-object (members (value (c.args.depth - 1)) (length ts) ts) in
    opened ∙ ap (parse_map object) (c.read_envelope.ensures.refused (grind arith))

pub returns-in_ok-read_message-in-BeginObject-clause-ok : goal.returns-in_ok-read_message-in-BeginObject-clause-ok
returns-in_ok-read_message-in-BeginObject-clause-ok c =
    let ts = c.args.reader.now in
    let first = ap (λ t. token_of t ∷ ts) c.in-BeginObject.is in
    let opened = ap (converted of_json) (ap (value c.args.depth) first ∙ value-begin_object c.args.depth ts (omega arith)) ∙ converted-object (members (value (c.args.depth - 1)) (length ts) ts) in
    let found = c.in_ok-envelope-in-BeginObject.ensures.ok in
    (object found.0, opened ∙ ap (parse_map object) found.1, c.in_ok-read_message-in-BeginObject.ensures ∙ ap message_in found.2)

pub returns-in_ok-value_from-in_default-clause-ok : goal.returns-in_ok-value_from-in_default-clause-ok
returns-in_ok-value_from-in_default-clause-ok c =
    let done = c.in_ok-value_from-in_default.ensures.ok in
    (view c.in_ok-value_from-in_default.field-0, done, invalid_unless_object c.args.depth c.args.token c.args.reader.now _ _ c.in_default.not-BeginObject done)
