-- Each message that a connection says is read strictly as one.
use Rattle.std.proofs.Common.{◌≡◌, ℕ, ◌+◌, ◌<◌, ◌≤◌, ◌^◌, Bool, true, false, List, [], ◌∷◌, length, map, take, Option, None, sym, ap, subst, arith, zero, suc}
use Rattle.connection_messages.specs.Texts.{call_text, calls_text, notice_text, withdrawal_text, answer_text, batch_text}
use Rattle.connection_messages.specs.ReadBack.{answer_texts}
use Rattle.connection_messages.specs.declared.cancels.Cancels.{Cancels}
use Rattle.connection.specs.BackToBack.{Message, call, calls, notice, withdrawal, answer, answers, text_of}
use Rattle.content_streams.specs.Streams.{plain}
use Rattle.conversation_reading.specs.Strictly.{reading_of, limited_reading}
use Rattle.conversation_reading.specs.declared.entry.Entry.{Entry}
use Rattle.conversation_reading.specs.declared.entry.Kind.TheVariants.{Request, Notification, Answer}
use Rattle.conversation_reading.specs.declared.reading.Reading.{Reading}
use Rattle.conversation_reading.specs.declared.reading.Reading.TheVariants.{Foreign, NotText, NotJson, OverLimits, HalfPair, Single, Array}
use Rattle.conversation_rules.specs.Entries.{is_answer, is_request}
use Rattle.judge_laws.specs.Messages.{IsEntry, AreEntries, IsMessage, AreMessages, HasKey, HaveKeys, IsKeyed, AreKeyed, HasNoId}
use Rattle.judge_laws.proofs.Batches.{calls_messages, calls_keyed, answers_messages}
use Rattle.judge_laws.proofs.Failures.{answer_message}
use Rattle.judge_laws.proofs.SaidStrictly.{call_message, call_keyed, notice_message, notice_unnamed, withdrawal_message, withdrawal_unnamed}
use Rattle.our_side.specs.Saying.{IsSaid, AreSaid, IsWell, AreWell}
use Rattle.connection.proofs.SaidSound.{IsSound, AreSound}
use Rattle.our_side.proofs.Limited.{limited_keeps}

no : (b : Bool) {A : Type 0} → b ≡ true → b ≡ false → A
no true is isnt = cc
no false is isnt = cc

-- ---- entries

call_said : (key : ℕ) (entry : Entry) → key < 2 ^ 64 → IsEntry Request entry → HasKey key entry → IsSaid entry
call_said key entry small is named = record {
  faultless = is.faultless;
  one_kind = is.one_kind;
  once = is.once;
  plain = λ kind. record { key = key; small = small; is = named };
  unnamed = λ kind other. no (is_request entry.kind) (ap is_request is.kind_is) kind;
}

notice_said : (entry : Entry) → IsEntry Notification entry → entry.id ≡ None → IsSaid entry
notice_said entry is none = record {
  faultless = is.faultless;
  one_kind = is.one_kind;
  once = is.once;
  plain = λ kind. no (is_request entry.kind) kind (ap is_request is.kind_is);
  unnamed = λ kind other. none;
}

answer_said : (entry : Entry) → IsEntry Answer entry → IsSaid entry
answer_said entry is = record {
  faultless = is.faultless;
  one_kind = is.one_kind;
  once = is.once;
  plain = λ kind. no (is_request entry.kind) kind (ap is_request is.kind_is);
  unnamed = λ kind other. no (is_answer entry.kind) (ap is_answer is.kind_is) other;
}

calls_said : (key : ℕ) (entries : List Entry) → key + length entries ≤ 2 ^ 64 → AreEntries Request entries → HaveKeys key entries → AreSaid entries
calls_said key [] few are named = tt
calls_said key (entry ∷ entries) few are named =
    let f : key + suc (length entries) ≤ 2 ^ 64 = few in (
      call_said key entry (omega (arith, f)) are.0 named.0,
      calls_said (key + 1) entries (omega (arith, f)) are.1 named.1,
    )

answers_said : (entries : List Entry) → AreEntries Answer entries → AreSaid entries
answers_said [] are = tt
answers_said (entry ∷ entries) are = (answer_said entry are.0, answers_said entries are.1)

-- ---- contents

call_well : (key : ℕ) (reading : Reading) → key < 2 ^ 64 → IsMessage Request reading → IsKeyed key reading → IsWell reading
call_well key Foreign small is named = absurd is
call_well key NotText small is named = absurd is
call_well key NotJson small is named = absurd is
call_well key OverLimits small is named = absurd is
call_well key HalfPair small is named = absurd is
call_well key (Single entry) small is named = call_said key entry small is named
call_well key (Array entries) small is named = absurd is

calls_well : (key count : ℕ) (reading : Reading) → key + count ≤ 2 ^ 64 → AreMessages Request reading → AreKeyed key count reading → IsWell reading
calls_well key count Foreign few are named = absurd are
calls_well key count NotText few are named = absurd are
calls_well key count NotJson few are named = absurd are
calls_well key count OverLimits few are named = absurd are
calls_well key count HalfPair few are named = absurd are
calls_well key count (Single entry) few are named = absurd are
calls_well key count (Array []) few are named = absurd are
calls_well key count (Array (entry ∷ entries)) few are named = calls_said key (entry ∷ entries) (subst (λ c. key + c ≤ 2 ^ 64) (sym named.0) few) are named.1

notice_well : (reading : Reading) → IsMessage Notification reading → HasNoId reading → IsWell reading
notice_well Foreign is none = absurd is
notice_well NotText is none = absurd is
notice_well NotJson is none = absurd is
notice_well OverLimits is none = absurd is
notice_well HalfPair is none = absurd is
notice_well (Single entry) is none = notice_said entry is none
notice_well (Array entries) is none = absurd is

answer_well : (reading : Reading) → IsMessage Answer reading → IsWell reading
answer_well Foreign is = absurd is
answer_well NotText is = absurd is
answer_well NotJson is = absurd is
answer_well OverLimits is = absurd is
answer_well HalfPair is = absurd is
answer_well (Single entry) is = answer_said entry is
answer_well (Array entries) is = absurd is

answers_well : (reading : Reading) → AreMessages Answer reading → IsWell reading
answers_well Foreign are = absurd are
answers_well NotText are = absurd are
answers_well NotJson are = absurd are
answers_well OverLimits are = absurd are
answers_well HalfPair are = absurd are
answers_well (Single entry) are = absurd are
answers_well (Array []) are = absurd are
answers_well (Array (entry ∷ entries)) are = answers_said (entry ∷ entries) are

-- ---- messages

message_read : (cancels : Option Cancels) (m : Message) → IsSound cancels m → IsWell (reading_of false (text_of m))
message_read cancels (call key o) sound = call_well key (reading_of false (call_text key o)) sound.0 (call_message key o sound.0 sound.1) (call_keyed key o sound.0 sound.1)
message_read cancels (calls key []) sound = absurd sound
message_read cancels (calls key (o ∷ os)) sound =
    calls_well key (length (o ∷ os)) (reading_of false (calls_text key (o ∷ os))) sound.0 (calls_messages key o os sound.0 sound.1) (calls_keyed key o os sound.0 sound.1)
message_read cancels (notice o) sound = notice_well (reading_of false (notice_text o)) (notice_message o sound) (notice_unnamed o sound)
message_read cancels (withdrawal by key) sound = notice_well (reading_of false (withdrawal_text by key)) (withdrawal_message by key sound.0) (withdrawal_unnamed by key sound.0)
message_read cancels (answer id a) sound = answer_well (reading_of false (answer_text id a)) (answer_message id a sound.0 sound.1)
message_read cancels (answers []) sound = absurd sound
message_read cancels (answers (a ∷ more)) sound = answers_well (reading_of false (batch_text (answer_texts (a ∷ more)))) (answers_messages a more sound)

pub message_well : (cancels : Option Cancels) (m : Message) → IsSound cancels m → IsWell (limited_reading false (text_of m))
message_well cancels m sound = limited_keeps IsWell tt (reading_of false (text_of m)) (message_read cancels m sound)

-- those that are whole in what was seen
pub messages_well : (cancels : Option Cancels) (ms : List Message) (n : ℕ) → AreSound cancels ms → AreWell (map plain (take n (map text_of ms)))
messages_well cancels ms zero sound = tt
messages_well cancels [] (suc n) sound = tt
messages_well cancels (m ∷ ms) (suc n) sound = (message_well cancels m sound.0, messages_well cancels ms n sound.1)
