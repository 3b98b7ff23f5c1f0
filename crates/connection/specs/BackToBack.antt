-- Two connections, joined back to back: what the one says, and what the other reads.
use Rattle.std.specs.Prelude.{◌≡◌, ◌≢◌, ◌⊎◌, ℕ, ◌+◌, ◌-◌, ◌≤◌, nat_le, List, [], ◌∷◌, ◌++◌, length, take, map, flat_map, get_or, false, Option, Some, None, ⊤, if◌then◌else◌}
use Rattle.message_ids.specs.declared.id.Id.{Id}
use Rattle.message_ids.specs.declared.id.Id.TheVariants.{Null, Unsigned}
use Rattle.message_ids.specs.declared.standard.Standard.TheVariants.{ParseError, InvalidRequest}
use Rattle.connection_messages.specs.Envelope.{cancels_by}
use Rattle.connection_messages.specs.ReadBack.{IsLine, answer_texts, call_as_read, calls_as_read, notice_as_read, answer_as_read, answers_as_read}
use Rattle.connection_messages.specs.Reading.{are_too_many}
use Rattle.connection_messages.specs.Texts.{call_text, calls_text, notice_text, withdrawal_text, answer_text, batch_text}
use Rattle.connection_messages.specs.declared.answer.Answer.{Answer}
use Rattle.connection_messages.specs.declared.answer.Answer.TheVariants.{Standard}
use Rattle.connection_messages.specs.declared.cancels.Cancels.{Cancels}
use Rattle.connection_messages.specs.declared.entry.Entry.{Entry}
use Rattle.connection_messages.specs.declared.entry.Entry.TheVariants.{Call, Cancel, Reply, Stray, Invalid}
use Rattle.connection_messages.specs.declared.outgoing.Outgoing.{Outgoing}
use Rattle.connection_messages.specs.declared.unit.Unit.{Unit}
use Rattle.connection_messages.specs.declared.unit.Unit.TheVariants.{Unreadable, Single, Batch}
use Rattle.connection_history.specs.declared.order.Order.{Order}
use Rattle.connection_history.specs.Stream.{entries_in, call_in, calls_in}
use Rattle.connection_history.specs.History.{Happening, came, called, called_all, noticed, withdrew, answered, ended, History, units_of, key_count, answer_to}
use Rattle.connection_history.specs.Items.{answers_at}
use Rattle.connection_history.specs.Written.{places_in}
use Rattle.content_streams.specs.Streams.{joined}
use Rattle.content_streams.specs.declared.framing.Framing.{Framing}
use Rattle.content_streams.specs.declared.framing.Framing.TheVariants.{Frames, Lines, Contents}
use Rattle.content_streams.specs.declared.ending.HowEnded.{HowEnded}
use Rattle.content_streams.specs.declared.ending.HowEnded.TheVariants.{Closed}
use Rattle.lsp_frames.specs.declared.limits.TheConstants.{LONGEST_CONTENT}
use Rattle.outbox.specs.Output.{framed, bytes_of_texts, full_count}
use Rattle.connection.specs.Connections.{Connection, next_content, output}

-- ---- messages

-- What goes out as one text.
pub data Message : Type 0 where
  -- our call, with its key
  call : ℕ → Outgoing → Message
  -- several, in one array; their keys count up from this one
  calls : ℕ → List Outgoing → Message
  notice : Outgoing → Message
  -- our call with this key isn't wanted any more
  withdrawal : Cancels → ℕ → Message
  -- the answer to a request, with its id
  answer : Id → Answer → Message
  -- those of a batch, in one array
  answers : List (Id × Answer) → Message

abbrev pub text_of : Message → List ℕ
text_of (call key o) = call_text key o
text_of (calls key os) = calls_text key os
text_of (notice o) = notice_text o
text_of (withdrawal by key) = withdrawal_text by key
text_of (answer id a) = answer_text id a
text_of (answers all) = batch_text (answer_texts all)

-- as what the other side has it
abbrev pub as_read : Message → Unit
as_read (call key o) = Single (Call (call_as_read key o))
as_read (calls key os) = Batch (calls_as_read key os)
as_read (notice o) = Single (Call (notice_as_read o))
as_read (withdrawal by key) = Single (Cancel (Unsigned key))
as_read (answer id a) = Single (answer_as_read id a)
as_read (answers all) = Batch (answers_as_read all)

-- the batches have no more entries than the reader takes
abbrev pub IsWithin : Option ℕ → Message → Type 0
IsWithin most (call key o) = ⊤
IsWithin most (calls key os) = are_too_many most (length os) ≡ false
IsWithin most (notice o) = ⊤
IsWithin most (withdrawal by key) = ⊤
IsWithin most (answer id a) = ⊤
IsWithin most (answers all) = are_too_many most (length all) ≡ false

abbrev pub AllWithin : Option ℕ → List Message → Type 0
AllWithin most [] = ⊤
AllWithin most (m ∷ ms) = IsWithin most m × AllWithin most ms

-- ---- what a connection says

-- what its host says, and goes out at once
abbrev pub said_at : History → Happening → List Message
said_at past (came o u) = []
said_at past (called n o) = call (key_count past + 1) o ∷ []
said_at past (called_all n os) = calls (key_count past + 1) os ∷ []
said_at past (noticed o) = notice o ∷ []
said_at past (withdrew by key) = withdrawal by key ∷ []
said_at past (answered n a) = []
said_at past (ended close) = []

-- the host's answer to a request with this id; a notification has none, and a request may be closed without one
abbrev pub given_to : Option Id → Option (Option Answer) → List (Id × Answer)
given_to None given = []
given_to (Some id) None = []
given_to (Some id) (Some None) = []
given_to (Some id) (Some (Some a)) = (id, a) ∷ []

-- the answer of an entry, where the next call has this number: what is invalid has one too
abbrev pub answer_in : History → ℕ → Entry → List (Id × Answer)
answer_in history n (Call c) = given_to c.id (answer_to n history)
answer_in history n (Cancel id) = []
answer_in history n (Reply k r) = []
answer_in history n Stray = []
answer_in history n Invalid = (Null, Standard InvalidRequest) ∷ []

abbrev pub answers_in : History → ℕ → List Entry → List (Id × Answer)
answers_in history n [] = []
answers_in history n (e ∷ es) = answer_in history n e ++ answers_in history (n + length (call_in e)) es

-- a batch is answered by one message, where it has any answer
abbrev pub in_one : List (Id × Answer) → List Message
in_one [] = []
in_one (a ∷ more) = answers (a ∷ more) ∷ []

-- the message that answers a unit, where its first call has this number
abbrev pub answer_of : History → ℕ → Unit → List Message
answer_of history n Unreadable = answer Null (Standard ParseError) ∷ []
answer_of history n (Single e) = map (λ a. answer a.0 a.1) (answer_in history n e)
answer_of history n (Batch es) = in_one (answers_in history n es)

abbrev pub answers_along : History → ℕ → List Unit → List (List Message)
answers_along history n [] = []
answers_along history n (u ∷ us) = answer_of history n u ∷ answers_along history (n + length (calls_in (entries_in u))) us

-- the message that answers the unit at this place, from 0
abbrev pub answer_at : History → ℕ → List Message
answer_at history place = get_or (answers_along history 1 (units_of history)) place []

-- what the host says, and then the answers that go out with it
abbrev pub messages_at : Order → History → Happening → List Message
messages_at order past h = said_at past h ++ flat_map (answer_at (h ∷ past)) (places_in (answers_at order past h))

-- all that a connection says, in its order
abbrev pub messages_of : Order → History → List Message
messages_of order [] = []
messages_of order (h ∷ past) = messages_of order past ++ messages_at order past h

-- ---- what is a line, and what is a notification

-- a notification hasn't the name of a cancel
abbrev pub IsNoCancel : Option Cancels → Happening → Type 0
IsNoCancel cancels (came o u) = ⊤
IsNoCancel cancels (called n o) = ⊤
IsNoCancel cancels (called_all n os) = ⊤
IsNoCancel cancels (noticed o) = cancels_by cancels o.method ≡ None
IsNoCancel cancels (withdrew by key) = ⊤
IsNoCancel cancels (answered n a) = ⊤
IsNoCancel cancels (ended close) = ⊤

abbrev pub NoCancelNoticed : Option Cancels → History → Type 0
NoCancelNoticed cancels [] = ⊤
NoCancelNoticed cancels (h ∷ past) = IsNoCancel cancels h × NoCancelNoticed cancels past

-- no text has a line feed
abbrev pub AreLines : List (List ℕ) → Type 0
AreLines [] = ⊤
AreLines (text ∷ texts) = IsLine text × AreLines texts

-- ---- what of it has come

-- The pieces are the first n bytes of the texts as they are written, however cut. In Contents they are the first n texts.
abbrev pub AreFirst : Framing → ℕ → List (List ℕ) → List (List ℕ) → Type 0
AreFirst Frames n texts pieces = joined pieces ≡ take n (bytes_of_texts Frames texts)
AreFirst Lines n texts pieces = joined pieces ≡ take n (bytes_of_texts Lines texts)
AreFirst Contents n texts pieces = pieces ≡ take n texts

-- how many texts are whole in the first n bytes
abbrev pub whole_in : Framing → ℕ → List (List ℕ) → ℕ
whole_in framing n [] = 0
whole_in framing n (text ∷ texts) = if nat_le (length (framed framing text)) n then whole_in framing (n - length (framed framing text)) texts + 1 else 0

abbrev pub whole_count : Framing → ℕ → List (List ℕ) → ℕ
whole_count Frames n texts = whole_in Frames n texts
whole_count Lines n texts = whole_in Lines n texts
whole_count Contents n texts = n

-- Each text fits into a content, of which the largest is no larger than any may be.
abbrev pub AllFit : ℕ → List (List ℕ) → Type 0
AllFit limit [] = limit ≤ LONGEST_CONTENT
AllFit limit (text ∷ texts) = (length text ≤ limit) × AllFit limit texts

-- The input wasn't said to be closed inside a text: either it wasn't closed, or all has come.
abbrev pub IsEndedWhole : Framing → ℕ → List (List ℕ) → Option HowEnded → Type 0
IsEndedWhole framing n texts how = (how ≢ Some Closed) ⊎ (full_count framing texts ≤ n)

-- So much of what the writer wrote is what the reader was fed.
pub record AreJoined (n : ℕ) (writer reader : Connection) : Type 0 where
  pub framing : reader.settings.framing ≡ writer.settings.framing
  pub cancels : reader.settings.cancels ≡ writer.settings.cancels
  pub fed : AreFirst writer.settings.framing n (output writer).written reader.stream.pieces
  pub fits : AllFit reader.settings.content (output writer).written
  pub ended : IsEndedWhole writer.settings.framing n (output writer).written reader.stream.ended

-- What came to the reader is what the writer said, in its order, each message once: the first ones; and once the reader has
-- gone through its contents, those that have come whole, or all, where all bytes have come.
pub record Understands (n : ℕ) (writer reader : Connection) (said heard : History) : Type 0 where
  pub first : units_of heard ≡ map as_read (take (length (units_of heard)) (messages_of writer.settings.order said))
  pub whole : next_content reader heard ≡ None
      → units_of heard ≡ map as_read (take (whole_count writer.settings.framing n (output writer).written) (messages_of writer.settings.order said))
  pub all : next_content reader heard ≡ None → full_count writer.settings.framing (output writer).written ≤ n
      → units_of heard ≡ map as_read (messages_of writer.settings.order said)
