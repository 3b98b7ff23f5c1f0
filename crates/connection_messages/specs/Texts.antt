-- The texts of the messages that go out (JSON-RPC 2.0, sections 4 to 6), of the parts that message_texts defines: compact, an
-- object's members in the byte order of their names.
use Rattle.std.specs.Prelude.{ℕ, ◌+◌, List, [], ◌∷◌, None}
use Rattle.message_ids.specs.Standard.{code_of, message_of}
use Rattle.message_ids.specs.declared.id.Id.{Id}
use Rattle.message_ids.specs.declared.standard.Standard.{Standard}
pub use Rattle.message_texts.specs.Texts.{id_text, data_member, params_member, result_text, batch_text}
unfoldable pub use Rattle.message_texts.specs.Texts.{code_text, error_rest, error_head, error_end}
use Rattle.message_texts.specs.Texts as texts
use Rattle.message_texts.specs.declared.keys.CallKey.TheVariants.{Number}
use Rattle.connection_messages.specs.Reading.{cancel_method, cancel_member}
use Rattle.connection_messages.specs.declared.answer.Answer.{Answer}
use Rattle.connection_messages.specs.declared.answer.Answer.TheVariants.{Result, Error, Standard as Fixed}
use Rattle.connection_messages.specs.declared.answer.AnswerError.{AnswerError}
use Rattle.connection_messages.specs.declared.cancels.Cancels.{Cancels}
use Rattle.connection_messages.specs.declared.outgoing.Outgoing.{Outgoing}

-- ---- answers

-- an error object (section 5.1)
abbrev pub error_text : AnswerError → List ℕ
error_text e = texts.error_text e.code e.message e.«data»

-- a fixed error, which has no data
abbrev pub fixed_error : Standard → AnswerError
fixed_error s = record { code = code_of s; message = message_of s; «data» = None }

abbrev pub error_answer_text : Id → AnswerError → List ℕ
error_answer_text id e = texts.error_answer_text id (error_text e)

-- a response (section 5)
abbrev pub answer_text : Id → Answer → List ℕ
answer_text id (Result text) = result_text id text
answer_text id (Error e) = error_answer_text id e
answer_text id (Fixed s) = error_answer_text id (fixed_error s)

-- ---- calls and notifications

-- the members `method` and `params` and the end of a call or notification; without params the member `params` is absent
abbrev pub method_text : Outgoing → List ℕ
method_text o = texts.method_text o.method o.params

-- our call with the key k, a request whose id is the number k (section 4)
abbrev pub call_text : ℕ → Outgoing → List ℕ
call_text k o = texts.call_text (Number k) o.method o.params

-- the texts of calls whose keys count up from k
abbrev pub call_texts : ℕ → List Outgoing → List (List ℕ)
call_texts k [] = []
call_texts k (o ∷ os) = call_text k o ∷ call_texts (k + 1) os

-- a batch of calls, one array even of one (section 6)
abbrev pub calls_text : ℕ → List Outgoing → List ℕ
calls_text k os = batch_text (call_texts k os)

-- a notification (section 4.1)
abbrev pub notice_text : Outgoing → List ℕ
notice_text o = texts.notice_text o.method o.params

-- the notification that withdraws our call k (LSP 3.17, "Cancellation Support"; MCP 2025-06-18, "Cancellation"): a cancel as we
-- read it, of the id k; what stands before the key, and the whole
abbrev pub withdrawal_head : Cancels → List ℕ
withdrawal_head by = texts.withdrawal_head (cancel_method by) (cancel_member by)

abbrev pub withdrawal_text : Cancels → ℕ → List ℕ
withdrawal_text by k = texts.withdrawal_text (cancel_method by) (cancel_member by) (Number k)
