-- The contents of the worked rows, and the texts of what goes out.
use Rattle.std.specs.Prelude.{ℕ, List, codes}

-- ---- that come in

abbrev pub unknown : List ℕ
unknown = codes "{\"jsonrpc\":\"2.0\",\"method\":\"nope\",\"id\":1}"

abbrev pub ask : List ℕ
ask = codes "{\"jsonrpc\":\"2.0\",\"method\":\"ask\",\"params\":[\"x\"],\"id\":7}"

abbrev pub add : List ℕ
add = codes "{\"jsonrpc\":\"2.0\",\"method\":\"add\",\"params\":[2,3],\"id\":8}"

abbrev pub yes : List ℕ
yes = codes "{\"jsonrpc\":\"2.0\",\"id\":\"1.1\",\"result\":true}"

abbrev pub no : List ℕ
no = codes "{\"jsonrpc\":\"2.0\",\"id\":\"1.1\",\"result\":false}"

abbrev pub cancel : List ℕ
cancel = codes "{\"jsonrpc\":\"2.0\",\"method\":\"$/cancelRequest\",\"params\":{\"id\":7}}"

abbrev pub cancel_text : List ℕ
cancel_text = codes "{\"jsonrpc\":\"2.0\",\"method\":\"$/cancelRequest\",\"params\":{\"id\":\"7\"}}"

-- ---- that go out

abbrev pub not_found : List ℕ
not_found = codes "{\"error\":{\"code\":-32601,\"message\":\"Method not found\"},\"id\":1,\"jsonrpc\":\"2.0\"}"

abbrev pub invalid_request : List ℕ
invalid_request = codes "{\"error\":{\"code\":-32600,\"message\":\"Invalid Request\"},\"id\":null,\"jsonrpc\":\"2.0\"}"

abbrev pub parse_error : List ℕ
parse_error = codes "{\"error\":{\"code\":-32700,\"message\":\"Parse error\"},\"id\":null,\"jsonrpc\":\"2.0\"}"

abbrev pub call_1 : List ℕ
call_1 = codes "{\"id\":\"1.1\",\"jsonrpc\":\"2.0\",\"method\":\"confirm\",\"params\":[\"x\"]}"

abbrev pub call_2 : List ℕ
call_2 = codes "{\"id\":\"2.1\",\"jsonrpc\":\"2.0\",\"method\":\"confirm\",\"params\":[\"x\"]}"

abbrev pub said_yes : List ℕ
said_yes = codes "{\"id\":7,\"jsonrpc\":\"2.0\",\"result\":true}"

abbrev pub said_no : List ℕ
said_no = codes "{\"id\":7,\"jsonrpc\":\"2.0\",\"result\":false}"

abbrev pub no_reply : List ℕ
no_reply = codes "{\"error\":{\"code\":-32000,\"message\":\"No reply\"},\"id\":7,\"jsonrpc\":\"2.0\"}"

abbrev pub cancelled : List ℕ
cancelled = codes "{\"error\":{\"code\":-32800,\"message\":\"Request cancelled\"},\"id\":7,\"jsonrpc\":\"2.0\"}"

abbrev pub withdrawal_1 : List ℕ
withdrawal_1 = codes "{\"jsonrpc\":\"2.0\",\"method\":\"$/cancelRequest\",\"params\":{\"id\":\"1.1\"}}"

abbrev pub withdrawal_2 : List ℕ
withdrawal_2 = codes "{\"jsonrpc\":\"2.0\",\"method\":\"$/cancelRequest\",\"params\":{\"id\":\"2.1\"}}"

abbrev pub sum_told : List ℕ
sum_told = codes "{\"id\":8,\"jsonrpc\":\"2.0\",\"result\":5}"
