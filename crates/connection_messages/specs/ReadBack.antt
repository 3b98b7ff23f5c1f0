-- What the other side reads in the texts that go out.
use Rattle.std.specs.Prelude.{◌≡◌, ◌≢◌, ◌<◌, ◌+◌, ◌^◌, ℕ, ℤ, pos, negsuc, List, [], ◌∷◌, Option, Some, None, IsUtf8, true, ⊤}
use Rattle.json_texts.specs.Texts.{IsJsonText}
use Rattle.message_ids.specs.declared.id.Id.{Id}
use Rattle.message_ids.specs.declared.id.Id.TheVariants.{Null, Text, Signed, Unsigned}
use Rattle.connection_messages.specs.Params.{is_structured}
use Rattle.connection_messages.specs.Reading.{own_key, reply_entry}
use Rattle.connection_messages.specs.Texts.{answer_text, fixed_error}
use Rattle.connection_messages.specs.declared.answer.Answer.{Answer}
use Rattle.connection_messages.specs.declared.answer.Answer.TheVariants.{Result, Error, Standard as Fixed}
use Rattle.connection_messages.specs.declared.answer.AnswerError.{AnswerError}
use Rattle.connection_messages.specs.declared.call.Call.{Call as Came}
use Rattle.connection_messages.specs.declared.entry.Entry.{Entry}
use Rattle.connection_messages.specs.declared.entry.Entry.TheVariants.{Call}
use Rattle.connection_messages.specs.declared.outgoing.Outgoing.{Outgoing}
use Rattle.connection_messages.specs.declared.reply.Reply.{Reply}
use Rattle.connection_messages.specs.declared.reply.Reply.TheVariants as reply

-- ---- what can be said

-- no text, or a JSON value's
abbrev pub IsData : Option (List ℕ) → Type 0
IsData None = ⊤
IsData (Some text) = IsJsonText text

-- no params, or such as `OutgoingParams` are: the compact text of an array or an object
abbrev pub AreParams : Option (List ℕ) → Type 0
AreParams None = ⊤
AreParams (Some text) = IsJsonText text × (is_structured text ≡ true)

-- a call or a notification as a host says it
pub record IsSayable (o : Outgoing) : Type 0 where
  pub method : IsUtf8 o.method
  pub params : AreParams o.params

abbrev pub AreSayable : List Outgoing → Type 0
AreSayable [] = ⊤
AreSayable (o ∷ os) = IsSayable o × AreSayable os

-- a number of i64; `negsuc n` is the number -(n + 1)
abbrev pub IsI64 : ℤ → Type 0
IsI64 (pos n) = n < 2 ^ 63
IsI64 (negsuc n) = n < 2 ^ 63

-- an error as a host says it
pub record IsFailure (e : AnswerError) : Type 0 where
  pub code : IsI64 e.code
  pub message : IsUtf8 e.message
  pub extra : IsData e.«data»

abbrev pub IsAnswer : Answer → Type 0
IsAnswer (Result text) = IsJsonText text
IsAnswer (Error e) = IsFailure e
IsAnswer (Fixed s) = ⊤

-- an id as one comes
abbrev pub IsId : Id → Type 0
IsId Null = ⊤
IsId (Text s) = IsUtf8 s
IsId (Signed (pos n)) = ⊥
IsId (Signed (negsuc n)) = n < 2 ^ 63
IsId (Unsigned n) = n < 2 ^ 64

-- the answers of a batch, each with the id of its request
abbrev pub AreAnswers : List (Id × Answer) → Type 0
AreAnswers [] = ⊤
AreAnswers (a ∷ more) = IsId a.0 × IsAnswer a.1 × AreAnswers more

abbrev pub answer_texts : List (Id × Answer) → List (List ℕ)
answer_texts [] = []
answer_texts (a ∷ more) = answer_text a.0 a.1 ∷ answer_texts more

-- ---- what is read

-- our call with the key k, as it comes to the other side
abbrev pub call_as_read : ℕ → Outgoing → Came
call_as_read k o = record { id = Some (Unsigned k); method = o.method; params = o.params }

-- those of a batch, whose keys count up from k
abbrev pub calls_as_read : ℕ → List Outgoing → List Entry
calls_as_read k [] = []
calls_as_read k (o ∷ os) = Call (call_as_read k o) ∷ calls_as_read (k + 1) os

-- a notification, as it comes to the other side
abbrev pub notice_as_read : Outgoing → Came
notice_as_read o = record { id = None; method = o.method; params = o.params }

abbrev error_as_read : AnswerError → Reply
error_as_read e = reply.Error (record { code = e.code; message = e.message; «data» = e.«data» })

abbrev pub reply_as_read : Answer → Reply
reply_as_read (Result text) = reply.Result text
reply_as_read (Error e) = error_as_read e
reply_as_read (Fixed s) = error_as_read (fixed_error s)

-- the key of ours that an id is
abbrev pub own_id : Id → Option ℕ
own_id Null = None
own_id (Text s) = None
own_id (Signed z) = None
own_id (Unsigned n) = own_key (Some n)

-- an answer, as it comes to the other side: the reply to its call with that key; with any other id it is stray
abbrev pub answer_as_read : Id → Answer → Entry
answer_as_read id a = reply_entry (own_id id) (reply_as_read a)

abbrev pub answers_as_read : List (Id × Answer) → List Entry
answers_as_read [] = []
answers_as_read (a ∷ more) = answer_as_read a.0 a.1 ∷ answers_as_read more

-- ---- lines

-- no byte of the text is a line feed
abbrev pub IsLine : List ℕ → Type 0
IsLine [] = ⊤
IsLine (x ∷ xs) = (x ≢ 10) × IsLine xs
