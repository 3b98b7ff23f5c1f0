-- The messages that go out, as JSON values (JSON-RPC 2.0, sections 4 to 6). An object's members stand in the byte order of
-- their names. A message's text is the compact text of its value: `compact_text` of serde_json, with no space. The law
-- `each_text_is_of_its_parts` has these texts as message_texts puts them together.
use Rattle.std.specs.Prelude.{◌≡◌, ℕ, ◌+◌, List, [], ◌∷◌, codes, false, Option, Some, None, ⊤}
use Rattle.serde_json.specs.Data.{Data, null, number, string, array, object, unsigned, Members, member, no_members}
use Rattle.serde_json.specs.Find.{of_integer}
use Rattle.serde_json.specs.View.{items_of}
use Rattle.serde_json.specs.Read.{read}
use Rattle.serde_json.specs.Written.{compact_text, has_float}
use Rattle.message_texts.specs.Texts.{batch_text}
use Rattle.rpc_messages.specs.Key.{key_text}
use Rattle.message_ids.specs.Standard.{code_of, message_of}
use Rattle.rpc_messages.specs.declared.error_value.ErrorValue.{ErrorValue}
use Rattle.message_ids.specs.declared.id.Id.{Id}
use Rattle.message_ids.specs.declared.id.Id.TheVariants.{Null, Text, Signed, Unsigned}
use Rattle.rpc_messages.specs.declared.outgoing.Outgoing.{Outgoing}
use Rattle.rpc_messages.specs.declared.reply.Reply.{Reply}
use Rattle.rpc_messages.specs.declared.reply.Reply.TheVariants.{Done, Error, Standard as Fixed}
use Rattle.message_ids.specs.declared.standard.Standard.{Standard}

-- ---- parts

abbrev pub id_data : Id → Data
id_data Null = null
id_data (Text s) = string s
id_data (Signed z) = number (of_integer z)
id_data (Unsigned n) = number (unsigned n)

-- the member, where there is a value for it, before the others
abbrev pub member_if : List ℕ → Option Data → Members → Members
member_if name None others = others
member_if name (Some d) others = member name d others

-- an error object (JSON-RPC 2.0, section 5.1)
abbrev pub error_data : ErrorValue → Data
error_data e = object (member (codes "code") (number (of_integer e.code)) (member_if (codes "data") e.extra (member (codes "message") (string e.message) no_members)))

-- a fixed error, which has no `data`
abbrev pub standard_error : Standard → ErrorValue
standard_error s = record { code = code_of s; message = message_of s; extra = None }

-- the member `jsonrpc`, which each message has, before the others
abbrev pub versioned : Members → Members
versioned others = member (codes "jsonrpc") (string (codes "2.0")) others

-- ---- messages

abbrev pub error_answer_of : Id → ErrorValue → Data
error_answer_of id e = object (member (codes "error") (error_data e) (member (codes "id") (id_data id) (versioned no_members)))

-- a response (JSON-RPC 2.0, section 5)
abbrev pub answer_of : Id → Reply → Data
answer_of id (Done d) = object (member (codes "id") (id_data id) (versioned (member (codes "result") d no_members)))
answer_of id (Error e) = error_answer_of id e
answer_of id (Fixed s) = error_answer_of id (standard_error s)

-- the members `method` and `params` of a call or notification; without params the member `params` is absent
abbrev pub method_members : Outgoing → Members
method_members o = member (codes "method") (string o.method) (member_if (codes "params") o.params no_members)

-- call t of handler n, a request (JSON-RPC 2.0, section 4)
abbrev pub call_of : ℕ → ℕ → Outgoing → Data
call_of n t o = object (member (codes "id") (string (key_text n t)) (versioned (method_members o)))

-- calls of handler n with turns from t on, each one more than the last
abbrev pub calls_of : ℕ → ℕ → List Outgoing → List Data
calls_of n t [] = []
calls_of n t (o ∷ os) = call_of n t o ∷ calls_of n (t + 1) os

-- a notification (JSON-RPC 2.0, section 4.1)
abbrev pub notice_of : Outgoing → Data
notice_of o = object (versioned (method_members o))

-- the withdrawal of call t of handler n (LSP 3.17, "Cancellation Support"): a notification that names the call's id
abbrev pub withdrawal_of : ℕ → ℕ → Data
withdrawal_of n t = notice_of (record { method = codes "$/cancelRequest"; params = Some (object (member (codes "id") (string (key_text n t)) no_members)) })

-- ---- texts

abbrev pub answer_text_of : Id → Reply → List ℕ
answer_text_of id reply = compact_text (answer_of id reply)

abbrev pub call_text_of : ℕ → ℕ → Outgoing → List ℕ
call_text_of n t o = compact_text (call_of n t o)

-- a batch of calls (JSON-RPC 2.0, section 6)
abbrev pub calls_text_of : ℕ → ℕ → List Outgoing → List ℕ
calls_text_of n t os = compact_text (array (items_of (calls_of n t os)))

abbrev pub notice_text_of : Outgoing → List ℕ
notice_text_of o = compact_text (notice_of o)

abbrev pub withdraw_text_of : ℕ → ℕ → List ℕ
withdraw_text_of n t = compact_text (withdrawal_of n t)

-- a batch of answers (JSON-RPC 2.0, section 6): the texts with commas between, in brackets
abbrev pub batch_text_of : List (List ℕ) → List ℕ
batch_text_of texts = batch_text texts

-- ---- reading back

-- serde_json writes the value so, and reads it back
pub record IsTextOf (text : List ℕ) (d : Data) : Type 0 where
  pub written : text ≡ compact_text d
  pub whole : has_float d ≡ false
  pub reads_back : read text ≡ Some d

-- each of the texts is that of the value at its place
abbrev pub AreTextsOf : List (List ℕ) → List Data → Type 0
AreTextsOf [] [] = ⊤
AreTextsOf [] (d ∷ ds) = ⊥
AreTextsOf (s ∷ ss) [] = ⊥
AreTextsOf (s ∷ ss) (d ∷ ds) = IsTextOf s d × AreTextsOf ss ds
