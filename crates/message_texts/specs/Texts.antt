-- The texts of the messages that go out (JSON-RPC 2.0, sections 4 to 6): compact, an object's members in the byte order of
-- their names.
use Rattle.std.specs.Prelude.{◌<◌, ◌^◌, ℕ, ℤ, List, [], ◌∷◌, ◌++◌, codes, decimal, Option, Some, None, ⊤, pos, negsuc}
use Rattle.std.specs.Fmt.{signed_decimal}
use Rattle.std.specs.List.{join_with_byte}
use Rattle.json.specs.Print.{quoted}
use Rattle.message_ids.specs.Standard.{code_of, message_of}
use Rattle.message_ids.specs.declared.id.Id.{Id}
use Rattle.message_ids.specs.declared.id.Id.TheVariants.{Null, Text, Signed, Unsigned}
use Rattle.message_ids.specs.declared.standard.Standard.{Standard}
use Rattle.message_texts.specs.declared.keys.CallKey.{CallKey}
use Rattle.message_texts.specs.declared.keys.CallKey.TheVariants.{Number, Pair}

-- ---- parts

-- an id as JSON
abbrev pub id_text : Id → List ℕ
id_text Null = codes "null"
id_text (Text s) = quoted s
id_text (Signed z) = signed_decimal z
id_text (Unsigned n) = decimal n

-- a number of i64; `negsuc n` is the number -(n + 1)
abbrev pub CodeFits : ℤ → Type 0
CodeFits (pos n) = n < 2 ^ 63
CodeFits (negsuc n) = n < 2 ^ 63

-- the number of an id is one of 64 bits
abbrev pub IdFits : Id → Type 0
IdFits Null = ⊤
IdFits (Text s) = ⊤
IdFits (Signed z) = CodeFits z
IdFits (Unsigned n) = n < 2 ^ 64

-- two numbers with a point between
abbrev pub pair_text : ℕ → ℕ → List ℕ
pair_text one other = decimal one ++ 46 ∷ decimal other

-- the id of a call of ours as JSON: a number, or the string of two
abbrev pub key_text : CallKey → List ℕ
key_text (Number k) = decimal k
key_text (Pair one other) = codes "\"" ++ pair_text one other ++ codes "\""

-- the member `data` of an error and the comma after it, where there is data
abbrev pub data_member : Option (List ℕ) → List ℕ
data_member None = []
data_member (Some text) = codes "\"data\":" ++ text ++ codes ","

-- the member `params` and the comma before it, where there are params
abbrev pub params_member : Option (List ℕ) → List ℕ
params_member None = []
params_member (Some text) = codes ",\"params\":" ++ text

-- an error object (section 5.1): its code, and what stands after it
unfoldable pub code_text : ℤ → List ℕ
code_text code = codes "{\"code\":" ++ signed_decimal code ++ codes ","

unfoldable pub error_rest : List ℕ → Option (List ℕ) → List ℕ
error_rest message extra = data_member extra ++ codes "\"message\":" ++ quoted message ++ codes "}"

abbrev pub error_text : ℤ → List ℕ → Option (List ℕ) → List ℕ
error_text code message extra = code_text code ++ error_rest message extra

-- a fixed error, which has no data
abbrev pub fixed_error_text : Standard → List ℕ
fixed_error_text s = error_text (code_of s) (message_of s) None

-- ---- messages

-- a response with a result (section 5)
abbrev pub result_text : Id → List ℕ → List ℕ
result_text id text = codes "{\"id\":" ++ id_text id ++ codes ",\"jsonrpc\":\"2.0\",\"result\":" ++ text ++ codes "}"

-- a response with an error (section 5): what stands before it, and after it
unfoldable pub error_head : List ℕ
error_head = codes "{\"error\":"

unfoldable pub error_end : Id → List ℕ
error_end id = codes ",\"id\":" ++ id_text id ++ codes ",\"jsonrpc\":\"2.0\"}"

abbrev pub error_answer_text : Id → List ℕ → List ℕ
error_answer_text id error = error_head ++ error ++ error_end id

-- the members `method` and `params` and the end of a call or notification; without params the member `params` is absent
abbrev pub method_text : List ℕ → Option (List ℕ) → List ℕ
method_text method params = codes ",\"method\":" ++ quoted method ++ params_member params ++ codes "}"

-- a call, which is a request (section 4)
abbrev pub call_text : CallKey → List ℕ → Option (List ℕ) → List ℕ
call_text key method params = codes "{\"id\":" ++ key_text key ++ codes ",\"jsonrpc\":\"2.0\"" ++ method_text method params

-- a notification (section 4.1)
abbrev pub notice_text : List ℕ → Option (List ℕ) → List ℕ
notice_text method params = codes "{\"jsonrpc\":\"2.0\"" ++ method_text method params

-- the notification of this method that withdraws our call, which its params name by this member (LSP 3.17, "Cancellation
-- Support"; MCP 2025-06-18, "Cancellation"): what stands before the key, and the whole. Neither name needs escapes.
abbrev pub withdrawal_head : List ℕ → List ℕ → List ℕ
withdrawal_head method member = codes "{\"jsonrpc\":\"2.0\",\"method\":\"" ++ method ++ codes "\",\"params\":{\"" ++ member ++ codes "\":"

abbrev pub withdrawal_text : List ℕ → List ℕ → CallKey → List ℕ
withdrawal_text method member key = withdrawal_head method member ++ key_text key ++ codes "}}"

-- texts in one array (section 6)
abbrev pub batch_text : List (List ℕ) → List ℕ
batch_text texts = codes "[" ++ join_with_byte 44 texts ++ codes "]"
