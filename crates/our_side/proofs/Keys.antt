-- The keys of what a connection says go up.
use Rattle.std.proofs.Common.{◌≡◌, ℕ, zero, suc, ◌+◌, ◌<◌, ◌≤◌, ◌^◌, Bool, true, false, List, [], ◌∷◌, ◌++◌, length, map, take, Option, refl, sym, ap, subst, ◌∙◌, arith, get_or}
use Rattle.std.proofs.lemmas.List.{length-append, length-map}
use Rattle.std.specs.Prelude.{⊤, flat_map}
use Rattle.lsp_frames.specs.declared.frame.Frame.{Frame}
use Rattle.message_ids.specs.declared.id.Id.{Id}
use Rattle.connection_messages.specs.ReadBack.{answer_texts}
use Rattle.connection_messages.specs.Texts.{call_text, calls_text, notice_text, withdrawal_text, answer_text, batch_text}
use Rattle.connection_messages.specs.declared.answer.Answer.{Answer as Given}
use Rattle.connection_messages.specs.declared.cancels.Cancels.{Cancels}
use Rattle.connection_messages.specs.declared.outgoing.Outgoing.{Outgoing}
use Rattle.connection_messages.specs.declared.unit.Unit.{Unit}
use Rattle.connection_messages.specs.declared.unit.Unit.TheVariants.{Unreadable, Single as Alone, Batch}
use Rattle.connection.specs.BackToBack as back
use Rattle.connection.specs.BackToBack.{Message, call, calls, notice, withdrawal, answer, answers, text_of, said_at, answer_in, answers_in, in_one, answer_of, answers_along, messages_at, messages_of}
use Rattle.connection_history.specs.declared.order.Order.{Order}
use Rattle.connection_history.specs.History.{Happening, came, called, called_all, noticed, withdrew, answered, ended, History, units_of, callers, callers_at, key_count}
use Rattle.connection_history.specs.Items.{answers_at}
use Rattle.connection_history.specs.Stream.{entries_in, calls_in}
use Rattle.connection_history.specs.Written.{places_in}
use Rattle.content_streams.specs.Streams.{plain}
use Rattle.conversation_reading.specs.Strictly.{reading_of, limited, limited_reading}
use Rattle.conversation_reading.specs.declared.entry.Entry.{Entry}
use Rattle.conversation_reading.specs.declared.entry.Kind.{Kind}
use Rattle.conversation_reading.specs.declared.entry.Kind.TheVariants.{Request, Notification, Answer}
use Rattle.conversation_reading.specs.declared.reading.Reading.{Reading}
use Rattle.conversation_reading.specs.declared.reading.Reading.TheVariants.{Foreign, NotText, NotJson, OverLimits, HalfPair, Single, Array}
use Rattle.conversation_rules.specs.Entries.{is_request}
use Rattle.judge_laws.specs.Messages.{IsEntry, AreEntries, IsMessage, AreMessages, HasKey, HaveKeys, IsKeyed, AreKeyed}
use Rattle.judge_laws.proofs.Batches.{calls_keyed, answers_messages}
use Rattle.judge_laws.proofs.Failures.{answer_message}
use Rattle.judge_laws.proofs.SaidStrictly.{call_keyed, notice_message, withdrawal_message}
use Rattle.our_side.proofs.Again.{EntryUp, EntriesUp, ReadingUp, ContentsUp}
use Rattle.connection.proofs.SaidSound.{AreSound}
use Rattle.our_side.proofs.Limited.{limited_keeps}

-- ---- the keys of messages

abbrev end_key : ℕ → List Message → ℕ
end_key b [] = b
end_key b (call key o ∷ ms) = end_key (key + 1) ms
end_key b (calls key os ∷ ms) = end_key (key + length os) ms
end_key b (notice o ∷ ms) = end_key b ms
end_key b (withdrawal by key ∷ ms) = end_key b ms
end_key b (answer id a ∷ ms) = end_key b ms
end_key b (answers all ∷ ms) = end_key b ms

abbrev pub KeysUp : ℕ → List Message → Type 0
KeysUp b [] = ⊤
KeysUp b (call key o ∷ ms) = (b ≤ key) × KeysUp (key + 1) ms
KeysUp b (calls key os ∷ ms) = (b ≤ key) × KeysUp (key + length os) ms
KeysUp b (notice o ∷ ms) = KeysUp b ms
KeysUp b (withdrawal by key ∷ ms) = KeysUp b ms
KeysUp b (answer id a ∷ ms) = KeysUp b ms
KeysUp b (answers all ∷ ms) = KeysUp b ms

up-append : (b : ℕ) (ms more : List Message) → KeysUp b ms → KeysUp (end_key b ms) more → KeysUp b (ms ++ more)
up-append b [] more first second = second
up-append b (call key o ∷ ms) more first second = (first.0, up-append (key + 1) ms more first.1 second)
up-append b (calls key os ∷ ms) more first second = (first.0, up-append (key + length os) ms more first.1 second)
up-append b (notice o ∷ ms) more first second = up-append b ms more first second
up-append b (withdrawal by key ∷ ms) more first second = up-append b ms more first second
up-append b (answer id a ∷ ms) more first second = up-append b ms more first second
up-append b (answers all ∷ ms) more first second = up-append b ms more first second

end-append : (b : ℕ) (ms more : List Message) → end_key b (ms ++ more) ≡ end_key (end_key b ms) more
end-append b [] more = refl
end-append b (call key o ∷ ms) more = end-append (key + 1) ms more
end-append b (calls key os ∷ ms) more = end-append (key + length os) ms more
end-append b (notice o ∷ ms) more = end-append b ms more
end-append b (withdrawal by key ∷ ms) more = end-append b ms more
end-append b (answer id a ∷ ms) more = end-append b ms more
end-append b (answers all ∷ ms) more = end-append b ms more

-- ---- answers have none

abbrev Keyless : List Message → Type 0
Keyless [] = ⊤
Keyless (call key o ∷ ms) = ⊥
Keyless (calls key os ∷ ms) = ⊥
Keyless (notice o ∷ ms) = Keyless ms
Keyless (withdrawal by key ∷ ms) = Keyless ms
Keyless (answer id a ∷ ms) = Keyless ms
Keyless (answers all ∷ ms) = Keyless ms

keyless_up : (b : ℕ) (ms : List Message) → Keyless ms → KeysUp b ms × (end_key b ms ≡ b)
keyless_up b [] none = (tt, refl)
keyless_up b (call key o ∷ ms) none = absurd none
keyless_up b (calls key os ∷ ms) none = absurd none
keyless_up b (notice o ∷ ms) none = keyless_up b ms none
keyless_up b (withdrawal by key ∷ ms) none = keyless_up b ms none
keyless_up b (answer id a ∷ ms) none = keyless_up b ms none
keyless_up b (answers all ∷ ms) none = keyless_up b ms none

keyless-append : (ms more : List Message) → Keyless ms → Keyless more → Keyless (ms ++ more)
keyless-append [] more first second = second
keyless-append (call key o ∷ ms) more first second = absurd first
keyless-append (calls key os ∷ ms) more first second = absurd first
keyless-append (notice o ∷ ms) more first second = keyless-append ms more first second
keyless-append (withdrawal by key ∷ ms) more first second = keyless-append ms more first second
keyless-append (answer id a ∷ ms) more first second = keyless-append ms more first second
keyless-append (answers all ∷ ms) more first second = keyless-append ms more first second

each_keyless : (xs : List (Id × Given)) → Keyless (map (λ a. answer a.0 a.1) xs)
each_keyless [] = tt
each_keyless (x ∷ xs) = each_keyless xs

one_keyless : (xs : List (Id × Given)) → Keyless (in_one xs)
one_keyless [] = tt
one_keyless (x ∷ xs) = tt

unit_keyless : (history : History) (n : ℕ) (u : Unit) → Keyless (answer_of history n u)
unit_keyless history n Unreadable = tt
unit_keyless history n (Alone e) = each_keyless (answer_in history n e)
unit_keyless history n (Batch es) = one_keyless (answers_in history n es)

along_keyless : (history : History) (n : ℕ) (us : List Unit) (place : ℕ) → Keyless (get_or (answers_along history n us) place [])
along_keyless history n [] place = tt
along_keyless history n (u ∷ us) zero = unit_keyless history n u
along_keyless history n (u ∷ us) (suc place) = along_keyless history (n + length (calls_in (entries_in u))) us place

places_keyless : (history : History) (places : List ℕ) → Keyless (flat_map (back.answer_at history) places)
places_keyless history [] = tt
places_keyless history (place ∷ places) = keyless-append (back.answer_at history place) (flat_map (back.answer_at history) places) (along_keyless history 1 (units_of history) place) (places_keyless history places)

-- ---- what the host says

abbrev next_key : History → ℕ
next_key history = key_count history + 1

more_keys : (past : History) (h : Happening) → next_key (h ∷ past) ≡ next_key past + length (callers_at h)
more_keys past h = let size = length-append (callers past) (callers_at h) in omega (arith, size)

said_up : (past : History) (h : Happening) → KeysUp (next_key past) (said_at past h) × (end_key (next_key past) (said_at past h) ≡ next_key (h ∷ past))
said_up past (came o u) = (tt, let more = more_keys past (came o u) in omega (arith, more))
said_up past (called n o) = ((omega arith, tt), let more = more_keys past (called n o) in omega (arith, more))
said_up past (called_all n os) =
    let more = more_keys past (called_all n os) in
    let size = length-map os (λ (o : Outgoing). n) in
    ((omega arith, tt), omega (arith, more, size))
said_up past (noticed o) = (tt, let more = more_keys past (noticed o) in omega (arith, more))
said_up past (withdrew by k) = (tt, let more = more_keys past (withdrew by k) in omega (arith, more))
said_up past (answered n a) = (tt, let more = more_keys past (answered n a) in omega (arith, more))
said_up past (ended close) = (tt, let more = more_keys past (ended close) in omega (arith, more))

all_up : (order : Order) (history : History) → KeysUp 1 (messages_of order history) × (end_key 1 (messages_of order history) ≡ next_key history)
all_up order [] = (tt, refl)
all_up order (h ∷ past) =
    let front = messages_of order past in
    let said = said_at past h in
    let back = flat_map (back.answer_at (h ∷ past)) (places_in (answers_at order past h)) in
    let before = all_up order past in
    let now = said_up past h in
    let none = places_keyless (h ∷ past) (places_in (answers_at order past h)) in
    let behind = keyless_up (end_key (next_key past) said) back none in
    let these : KeysUp (next_key past) (said ++ back) = up-append (next_key past) said back now.0 behind.0 in (
      up-append 1 front (said ++ back) before.0 (subst (λ k. KeysUp k (said ++ back)) (sym before.1) these),
      end-append 1 front (said ++ back) ∙ ap (λ k. end_key k (said ++ back)) before.1 ∙ end-append (next_key past) said back ∙ behind.1 ∙ now.1,
    )

pub keys_up : (order : Order) (history : History) → KeysUp 1 (messages_of order history)
keys_up order history = (all_up order history).0

-- ---- as they are read

abbrev pub FramesUp : ℕ → List Frame → Type 0
FramesUp b [] = ⊤
FramesUp b (frame ∷ frames) = (e : ℕ) × ReadingUp b e (limited_reading frame.foreign frame.content) × FramesUp e frames

entry_up : (b key : ℕ) (entry : Entry) → b ≤ key → key < 2 ^ 64 → HasKey key entry → EntryUp b (key + 1) entry
entry_up b key entry le small is = record { rises = omega (arith, le); key = λ request. record { key = key; above = le; below = omega arith; small = small; is = is } }

entries_up : (b key : ℕ) (entries : List Entry) → b ≤ key → key + length entries ≤ 2 ^ 64 → HaveKeys key entries → EntriesUp b (key + length entries) entries
entries_up b key [] le few are = omega (arith, le)
entries_up b key (entry ∷ entries) le few are =
    let f : key + suc (length entries) ≤ 2 ^ 64 = few in
    let rest = entries_up (key + 1) (key + 1) entries (omega arith) (omega (arith, f)) are.1 in
    (key + 1, entry_up b key entry le (omega (arith, f)) are.0, subst (λ e. EntriesUp (key + 1) e entries) (let same : key + 1 + length entries ≡ key + suc (length entries) = omega arith in same) rest)

call_up : (b key : ℕ) (reading : Reading) → b ≤ key → key < 2 ^ 64 → IsKeyed key reading → ReadingUp b (key + 1) reading
call_up b key Foreign le small is = tt
call_up b key NotText le small is = tt
call_up b key NotJson le small is = tt
call_up b key OverLimits le small is = absurd is
call_up b key HalfPair le small is = tt
call_up b key (Single entry) le small is = entry_up b key entry le small is
call_up b key (Array entries) le small is = absurd is

calls_up : (b key count : ℕ) (reading : Reading) → b ≤ key → key + count ≤ 2 ^ 64 → AreKeyed key count reading → ReadingUp b (key + count) reading
calls_up b key count Foreign le few are = tt
calls_up b key count NotText le few are = tt
calls_up b key count NotJson le few are = tt
calls_up b key count OverLimits le few are = absurd are
calls_up b key count HalfPair le few are = tt
calls_up b key count (Single entry) le few are = absurd are
calls_up b key count (Array entries) le few are =
    subst (λ c. EntriesUp b (key + c) entries) are.0 (entries_up b key entries le (subst (λ c. key + c ≤ 2 ^ 64) (sym are.0) few) are.1)

-- what is no request has none
no_request : (kind : Kind) → kind ≡ Request → is_request kind ≡ true
no_request kind is = ap is_request is

other_up : (b : ℕ) (kind : Kind) (entry : Entry) → is_request kind ≡ false → IsEntry kind entry → EntryUp b b entry
other_up b kind entry other is = record { rises = omega arith; key = λ request. absurd (no (is_request entry.kind) request (ap is_request is.kind_is ∙ other)) }
  where
    no : (c : Bool) → c ≡ true → c ≡ false → ⊥
    no true e isnt = cc
    no false e isnt = cc

others_up : (b : ℕ) (kind : Kind) (entries : List Entry) → is_request kind ≡ false → AreEntries kind entries → EntriesUp b b entries
others_up b kind [] other are = omega arith
others_up b kind (entry ∷ entries) other are = (b, other_up b kind entry other are.0, others_up b kind entries other are.1)

message_up : (b : ℕ) (kind : Kind) (reading : Reading) → is_request kind ≡ false → IsMessage kind reading → ReadingUp b b reading
message_up b kind Foreign other is = tt
message_up b kind NotText other is = tt
message_up b kind NotJson other is = tt
message_up b kind OverLimits other is = absurd is
message_up b kind HalfPair other is = tt
message_up b kind (Single entry) other is = other_up b kind entry other is
message_up b kind (Array entries) other is = absurd is

messages_up : (b : ℕ) (kind : Kind) (reading : Reading) → is_request kind ≡ false → AreMessages kind reading → ReadingUp b b reading
messages_up b kind Foreign other are = tt
messages_up b kind NotText other are = tt
messages_up b kind NotJson other are = tt
messages_up b kind OverLimits other are = absurd are
messages_up b kind HalfPair other are = tt
messages_up b kind (Single entry) other are = absurd are
messages_up b kind (Array []) other are = absurd are
messages_up b kind (Array (entry ∷ entries)) other are = others_up b kind (entry ∷ entries) other are

entries_rise : (b e : ℕ) (entries : List Entry) → EntriesUp b e entries → b ≤ e
entries_rise b e [] up = up
entries_rise b e (entry ∷ entries) up = let first = up.1.rises in let rest = entries_rise up.0 e entries up.2 in omega (arith, first, rest)

limited_up : (b e : ℕ) (reading : Reading) → ReadingUp b e reading → ReadingUp b e (limited reading)
limited_up b e Foreign up = tt
limited_up b e NotText up = tt
limited_up b e NotJson up = tt
limited_up b e OverLimits up = up
limited_up b e HalfPair up = tt
limited_up b e (Single entry) up = up
limited_up b e (Array entries) up = limited_keeps (λ reading. ReadingUp b e reading) (entries_rise b e entries up) (Array entries) up

pub frames_up : (cancels : Option Cancels) (ms : List Message) (b n : ℕ) → AreSound cancels ms → KeysUp b ms → FramesUp b (map plain (take n (map text_of ms)))
frames_up cancels ms b zero sound up = tt
frames_up cancels [] b (suc n) sound up = tt
frames_up cancels (call key o ∷ ms) b (suc n) sound up =
    (key + 1, limited_up b (key + 1) (reading_of false (call_text key o)) (call_up b key (reading_of false (call_text key o)) up.0 sound.0.0 (call_keyed key o sound.0.0 sound.0.1)), frames_up cancels ms (key + 1) n sound.1 up.1)
frames_up cancels (calls key [] ∷ ms) b (suc n) sound up = absurd sound.0
frames_up cancels (calls key (o ∷ os) ∷ ms) b (suc n) sound up = (
  key + length (o ∷ os),
  limited_up b (key + length (o ∷ os)) (reading_of false (calls_text key (o ∷ os))) (calls_up b key (length (o ∷ os)) (reading_of false (calls_text key (o ∷ os))) up.0 sound.0.0 (calls_keyed key o os sound.0.0 sound.0.1)),
  frames_up cancels ms (key + length (o ∷ os)) n sound.1 up.1,
)
frames_up cancels (notice o ∷ ms) b (suc n) sound up = (b, limited_up b b (reading_of false (notice_text o)) (message_up b Notification (reading_of false (notice_text o)) refl (notice_message o sound.0)), frames_up cancels ms b n sound.1 up)
frames_up cancels (withdrawal by key ∷ ms) b (suc n) sound up = (b, limited_up b b (reading_of false (withdrawal_text by key)) (message_up b Notification (reading_of false (withdrawal_text by key)) refl (withdrawal_message by key sound.0.0)), frames_up cancels ms b n sound.1 up)
frames_up cancels (answer id a ∷ ms) b (suc n) sound up = (b, limited_up b b (reading_of false (answer_text id a)) (message_up b Answer (reading_of false (answer_text id a)) refl (answer_message id a sound.0.0 sound.0.1)), frames_up cancels ms b n sound.1 up)
frames_up cancels (answers [] ∷ ms) b (suc n) sound up = absurd sound.0
frames_up cancels (answers (a ∷ more) ∷ ms) b (suc n) sound up =
    (b, limited_up b b (reading_of false (batch_text (answer_texts (a ∷ more)))) (messages_up b Answer (reading_of false (batch_text (answer_texts (a ∷ more)))) refl (answers_messages a more sound.0)), frames_up cancels ms b n sound.1 up)

pub placed_up : (b : ℕ) (placed : List (ℕ × Frame)) → FramesUp b (map (λ placed. placed.1) placed) → ContentsUp b placed
placed_up b [] up = tt
placed_up b (p ∷ placed) up = (up.0, up.1, placed_up up.0 placed up.2)
