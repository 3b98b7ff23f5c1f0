use Rattle.std.proofs.Common.{◌≡◌, [], ◌∷◌, length, ap, ◌∙◌, arith}
use Rattle.std.proofs.lemmas.Result.{IfOk-weaker}
use Rattle.json.specs.Json.{parse_map, items, value}
use Rattle.json.specs.Reads.{token_of}
use Rattle.json.proofs.Grammar.{value_is, value-begin_array}
use Rattle.json_reading.proofs.Reading.{converted-array}
use Rattle.serde_json.specs.Data.{array}
use Rattle.serde_json.specs.Read.{of_json, converted, max_depth}
use Rattle.rpc_messages.specs.Unit.{single}
use Rattle.rpc_messages.proofs.Tokens.{single_unless_array}
use Rattle.rpc_messages.proofs.read.read_whole.Goals as goal

pub returns-in_err-token-clause-refused : goal.returns-in_err-token-clause-refused
returns-in_err-token-clause-refused c refused =
    let empty : c.args.reader.now ≡ [] = grind arith in
    ap (converted of_json) (ap (value max_depth) empty ∙ value_is max_depth [])

pub returns-in-BeginArray-clause-refused : goal.returns-in-BeginArray-clause-refused
returns-in-BeginArray-clause-refused c refused =
    let ts = c.next.new.self in
    let first : c.args.reader.now ≡ token_of c.in_ok-token.token ∷ ts = grind arith in
    let opened = ap (converted of_json) (ap (value max_depth) (first ∙ ap (λ t. token_of t ∷ ts) c.in-BeginArray.is) ∙ value-begin_array max_depth ts (omega arith)) ∙ converted-array (items (value 126) (length ts) ts) in
    opened ∙ ap (parse_map array) (c.read_array.ensures.refused refused)

pub returns-in-BeginArray-clause-ok : goal.returns-in-BeginArray-clause-ok
returns-in-BeginArray-clause-ok c =
    let ts = c.next.new.self in
    let first : c.args.reader.now ≡ token_of c.in_ok-token.token ∷ ts = grind arith in
    let opened = ap (converted of_json) (ap (value max_depth) (first ∙ ap (λ t. token_of t ∷ ts) c.in-BeginArray.is) ∙ value-begin_array max_depth ts (omega arith)) ∙ converted-array (items (value 126) (length ts) ts) in
    IfOk-weaker c.read_array.result _ _ (λ u found. (array found.0, opened ∙ ap (parse_map array) found.1, found.2)) c.read_array.ensures.ok

pub returns-in_ok-entry_from-in_default-clause-ok : goal.returns-in_ok-entry_from-in_default-clause-ok
returns-in_ok-entry_from-in_default-clause-ok c =
    let ts = c.next.new.self in
    let first : c.args.reader.now ≡ token_of c.in_ok-token.token ∷ ts = grind arith in
    let done = c.in_ok-entry_from-in_default.ensures.ok in
    let whole = ap (λ ts. converted of_json (value max_depth ts)) first ∙ done.1 in
    (done.0, whole, ap single done.2 ∙ single_unless_array max_depth c.in_ok-token.token ts _ _ c.in_default.not-BeginArray done.1)
