-- What can be read is read as what it is, and its text is one line.
use Rattle.std.proofs.Common.{◌≡◌, ℕ, ◌+◌, ◌-◌, ◌<◌, ◌≤◌, ◌^◌, ◌==◌, false, List, [], ◌∷◌, ◌++◌, get_or, length, Option, Some, None, refl, sym, ap, ◌∙◌, arith, append_assoc, decimal}
use Rattle.std.proofs.lemmas.List.{length-append, get_or_at}
use Rattle.std.specs.Prelude.{codes}
use Rattle.std.specs.List.{join_with_byte}
use Rattle.message_ids.specs.declared.id.Id.{Id}
use Rattle.message_ids.specs.declared.id.Id.TheVariants.{Unsigned}
use Rattle.connection_messages.specs.Envelope.{cancels_by}
use Rattle.connection_messages.specs.ReadBack.{IsSayable, AreSayable, IsId, IsAnswer, AreAnswers, IsLine, answer_texts, answer_as_read, answers_as_read, call_as_read, calls_as_read, notice_as_read}
use Rattle.connection_messages.specs.Reading.{are_too_many, unit_of}
use Rattle.connection_messages.specs.Texts.{id_text, error_head, error_end, error_text, fixed_error, method_text, answer_text, batch_text, call_text, call_texts, calls_text, notice_text, withdrawal_head, withdrawal_text}
use Rattle.connection_messages.specs.declared.answer.Answer.{Answer}
use Rattle.connection_messages.specs.declared.answer.Answer.TheVariants.{Result, Error, Standard as Fixed}
use Rattle.connection_messages.specs.declared.answer.AnswerError.{AnswerError}
use Rattle.connection_messages.specs.declared.cancels.Cancels.{Cancels}
use Rattle.connection_messages.specs.declared.cancels.Cancels.TheVariants.{Lsp, Mcp}
use Rattle.connection_messages.specs.declared.entry.Entry.TheVariants.{Call, Cancel}
use Rattle.connection_messages.specs.declared.outgoing.Outgoing.{Outgoing}
use Rattle.connection_messages.specs.declared.rules.Rules.{Rules}
use Rattle.connection_messages.specs.declared.unit.Unit.TheVariants.{Single, Batch}
use Rattle.content_streams.specs.Lines.{ends_in_cr, is_blank}
use Rattle.connection.specs.BackToBack.{Message, call, calls, notice, withdrawal, answer, answers, text_of, as_read, IsWithin}
use Rattle.connection.proofs.OwnNames.{HasOwnName}
use Rattle.connection.proofs.SaidSound.{IsSound}

-- What the laws of connection_messages say of what is read.
pub record ReadLaws : Type 0 where
  pub call_reads : (rules : Rules) (key : ℕ) (o : Outgoing) → key < 2 ^ 64 → IsSayable o → unit_of rules false (call_text key o) ≡ Single (Call (call_as_read key o))
  pub calls_read : (rules : Rules) (first : ℕ) (o : Outgoing) (os : List Outgoing) → first + length (o ∷ os) ≤ 2 ^ 64 → are_too_many rules.most_entries (length (o ∷ os)) ≡ false → AreSayable (o ∷ os)
      → unit_of rules false (calls_text first (o ∷ os)) ≡ Batch (calls_as_read first (o ∷ os))
  pub notice_reads : (rules : Rules) (o : Outgoing) → IsSayable o → cancels_by rules.cancels o.method ≡ None → unit_of rules false (notice_text o) ≡ Single (Call (notice_as_read o))
  pub withdrawal_reads : (rules : Rules) (by : Cancels) (key : ℕ) → rules.cancels ≡ Some by → key < 2 ^ 64 → unit_of rules false (withdrawal_text by key) ≡ Single (Cancel (Unsigned key))
  pub answer_reads : (rules : Rules) (id : Id) (a : Answer) → IsId id → IsAnswer a → unit_of rules false (answer_text id a) ≡ Single (answer_as_read id a)
  pub answers_read : (rules : Rules) (a : Id × Answer) (more : List (Id × Answer)) → are_too_many rules.most_entries (length (a ∷ more)) ≡ false → AreAnswers (a ∷ more)
      → unit_of rules false (batch_text (answer_texts (a ∷ more))) ≡ Batch (answers_as_read (a ∷ more))

-- What they say of lines.
pub record LineLaws : Type 0 where
  pub call_line : (key : ℕ) (o : Outgoing) → key < 2 ^ 64 → IsSayable o → IsLine (call_text key o)
  pub calls_line : (first : ℕ) (os : List Outgoing) → first + length os ≤ 2 ^ 64 → AreSayable os → IsLine (calls_text first os)
  pub notice_line : (o : Outgoing) → IsSayable o → IsLine (notice_text o)
  pub withdrawal_line : (by : Cancels) (key : ℕ) → key < 2 ^ 64 → IsLine (withdrawal_text by key)
  pub answer_line : (id : Id) (a : Answer) → IsId id → IsAnswer a → IsLine (answer_text id a)
  pub answers_line : (all : List (Id × Answer)) → AreAnswers all → IsLine (batch_text (answer_texts all))

-- ---- read

pub message_reads : ReadLaws → (rules : Rules) (m : Message) → IsSound rules.cancels m → HasOwnName rules.cancels m → IsWithin rules.most_entries m → unit_of rules false (text_of m) ≡ as_read m
message_reads laws rules (call key o) sound named kept = laws.call_reads rules key o sound.0 sound.1
message_reads laws rules (calls key []) sound named kept = absurd sound
message_reads laws rules (calls key (o ∷ os)) sound named kept = laws.calls_read rules key o os sound.0 kept sound.1
message_reads laws rules (notice o) sound named kept = laws.notice_reads rules o sound named
message_reads laws rules (withdrawal by key) sound named kept = laws.withdrawal_reads rules by key sound.1 sound.0
message_reads laws rules (answer id a) sound named kept = laws.answer_reads rules id a sound.0 sound.1
message_reads laws rules (answers []) sound named kept = absurd sound
message_reads laws rules (answers (a ∷ more)) sound named kept = laws.answers_read rules a more kept sound

pub message_line : LineLaws → (cancels : Option Cancels) (m : Message) → IsSound cancels m → IsLine (text_of m)
message_line laws cancels (call key o) sound = laws.call_line key o sound.0 sound.1
message_line laws cancels (calls key []) sound = absurd sound
message_line laws cancels (calls key (o ∷ os)) sound = laws.calls_line key (o ∷ os) sound.0 sound.1
message_line laws cancels (notice o) sound = laws.notice_line o sound
message_line laws cancels (withdrawal by key) sound = laws.withdrawal_line by key sound.0
message_line laws cancels (answer id a) sound = laws.answer_line id a sound.0 sound.1
message_line laws cancels (answers []) sound = absurd sound
message_line laws cancels (answers (a ∷ more)) sound = laws.answers_line (a ∷ more) sound

-- ---- the bytes at its ends

-- It ends in a bracket.
pub record IsClosed (text : List ℕ) : Type 0 where
  pub front : List ℕ
  pub last : ℕ
  pub is : text ≡ front ++ last ∷ []
  pub no_cr : (last == 13) ≡ false

behind : (xs ys : List ℕ) → IsClosed ys → IsClosed (xs ++ ys)
behind xs ys closed = record { front = xs ++ closed.front; last = closed.last; is = ap (λ t. xs ++ t) closed.is ∙ sym (append_assoc xs closed.front (closed.last ∷ [])); no_cr = closed.no_cr }

error_closed : (id : Id) (e : AnswerError) → IsClosed (error_head ++ error_text e ++ error_end id)
unfolding error_end
error_closed id e = behind (error_head ++ error_text e) (error_end id) (record { front = codes ",\"id\":" ++ id_text id ++ codes ",\"jsonrpc\":\"2.0\""; last = 125; is = sym (append_assoc (codes ",\"id\":" ++ id_text id) (codes ",\"jsonrpc\":\"2.0\"") (125 ∷ [])); no_cr = refl })

array_closed : (texts : List (List ℕ)) → IsClosed (batch_text texts)
array_closed texts = record { front = codes "[" ++ join_with_byte 44 texts; last = 93; is = refl; no_cr = refl }

braced : (front : List ℕ) → IsClosed (front ++ 125 ∷ [])
braced front = record { front = front; last = 125; is = refl; no_cr = refl }

method_closed : (front : List ℕ) (o : Outgoing) → IsClosed (front ++ method_text o)
method_closed front o = behind front (method_text o) (search braced)

answer_closed : (id : Id) (a : Answer) → IsClosed (answer_text id a)
answer_closed id (Result text) = record { front = codes "{\"id\":" ++ id_text id ++ codes ",\"jsonrpc\":\"2.0\",\"result\":" ++ text; last = 125; is = refl; no_cr = refl }
answer_closed id (Error e) = error_closed id e
answer_closed id (Fixed s) = error_closed id (fixed_error s)

message_closed : (m : Message) → IsClosed (text_of m)
message_closed (call key o) = method_closed (codes "{\"id\":" ++ decimal key ++ codes ",\"jsonrpc\":\"2.0\"") o
message_closed (calls key os) = array_closed (call_texts key os)
message_closed (notice o) = method_closed (codes "{\"jsonrpc\":\"2.0\"") o
message_closed (withdrawal by key) = record { front = withdrawal_head by ++ decimal key ++ codes "}"; last = 125; is = sym (append_assoc (withdrawal_head by ++ decimal key) (125 ∷ []) (125 ∷ [])); no_cr = refl }
message_closed (answer id a) = answer_closed id a
message_closed (answers all) = array_closed (answer_texts all)

answer_begins : (id : Id) (a : Answer) → is_blank (answer_text id a) ≡ false
unfolding error_head
answer_begins id (Result text) = refl
answer_begins id (Error e) = refl
answer_begins id (Fixed s) = refl

message_begins : (m : Message) → is_blank (text_of m) ≡ false
message_begins (call key o) = refl
message_begins (calls key os) = refl
message_begins (notice o) = refl
message_begins (withdrawal Lsp key) = refl
message_begins (withdrawal Mcp key) = refl
message_begins (answer id a) = answer_begins id a
message_begins (answers all) = refl

closed_is : (text : List ℕ) → IsClosed text → ends_in_cr text ≡ false
closed_is text closed =
    let size : length text ≡ length closed.front + 1 = ap length closed.is ∙ length-append closed.front (closed.last ∷ []) in
    let place : length closed.front ≡ length text - 1 = omega (arith, size) in
    ap (λ t. get_or t (length text - 1) 0 == 13) closed.is
    ∙ ap (λ b. b == 13) (get_or_at closed.front closed.last [] 0 (length text - 1) place) ∙ closed.no_cr

-- ---- all of them

-- One line, which isn't blank and has no CR at its end.
pub record IsWhole (limit : ℕ) (text : List ℕ) : Type 0 where
  pub fits : length text ≤ limit
  pub line : IsLine text
  pub last : ends_in_cr text ≡ false
  pub first : is_blank text ≡ false

pub message_whole : LineLaws → (cancels : Option Cancels) (limit : ℕ) (m : Message) → IsSound cancels m → length (text_of m) ≤ limit → IsWhole limit (text_of m)
message_whole laws cancels limit m sound fits = record { fits = fits; line = message_line laws cancels m sound; last = closed_is (text_of m) (message_closed m); first = message_begins m }
