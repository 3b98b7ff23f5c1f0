-- What a connection says, as it is read.
use Rattle.std.proofs.Common.{◌≡◌, inl, inr, ℕ, zero, suc, ◌+◌, ◌≤◌, Bool, true, false, if◌then◌else◌, List, [], ◌∷◌, ◌++◌, map, take, Option, Some, refl, ap, ◌∙◌, arith}
use Rattle.std.specs.Option.{option_to_list}
use Rattle.std.specs.Prelude.{⊤, pos, negsuc}
use Rattle.lsp_frames.specs.declared.frame.Frame.{Frame}
use Rattle.connection.specs.BackToBack.{Message, call, calls, notice, withdrawal, answer, answers, text_of}
use Rattle.connection_messages.specs.ReadBack.{IsId, AreAnswers as AreGiven, answer_texts}
use Rattle.connection_messages.specs.Texts.{call_text, calls_text, notice_text, withdrawal_text, answer_text, batch_text}
use Rattle.connection_messages.specs.declared.answer.Answer.{Answer as Given}
use Rattle.connection_messages.specs.declared.cancels.Cancels.{Cancels}
use Rattle.content_streams.specs.Streams.{plain}
use Rattle.conversation_reading.specs.Strictly.{reading_of, limited_reading}
use Rattle.conversation_reading.specs.declared.entry.Entry.{Entry}
use Rattle.conversation_reading.specs.declared.entry.Kind.{Kind}
use Rattle.conversation_reading.specs.declared.entry.Kind.TheVariants.{Request, Notification, Answer}
use Rattle.conversation_reading.specs.declared.entry.WrittenId.{WrittenId}
use Rattle.conversation_reading.specs.declared.reading.Reading.{Reading}
use Rattle.conversation_reading.specs.declared.reading.Reading.TheVariants.{Foreign, NotText, NotJson, OverLimits, HalfPair, Single, Array}
use Rattle.conversation_rules.specs.Entries.{is_answer, is_well}
use Rattle.judge_laws.proofs.Batches.{calls_messages, answers_messages, answers_named}
use Rattle.judge_laws.proofs.Failures.{answer_message, answer_named}
use Rattle.judge_laws.proofs.SaidStrictly.{call_message, notice_message, withdrawal_message}
use Rattle.judge_laws.specs.Messages.{AreEntries, IsMessage, AreMessages, HasId, EachHasId, HaveIds, written_as}
use Rattle.message_ids.specs.declared.id.Id.{Id}
use Rattle.message_ids.specs.declared.id.Id.TheVariants as ids
use Rattle.our_side.specs.Answered.{said_alone, said_together, total}
use Rattle.our_side.specs.Asked.{IsPlain, AreNoAnswers, AreAnswers, Says, AllSay, Question, alone, together, by_array, under_null, CanBeAsked, as_number, answered_under, ids_answered, answered_together, answered_by, answered_in}
use Rattle.our_side.proofs.Asking.{counts, counts_all}
use Rattle.connection.proofs.SaidSound.{IsSound, AreSound}
use Rattle.our_side.proofs.Limited.{limited_keeps}

no : {A : Type 0} (b : Bool) → b ≡ true → b ≡ false → A
no true is isnt = absurd (cc)
no false is isnt = absurd (cc)

-- ---- as they are read

abbrev pub said_by : Question → Message → ℕ
said_by q m = said_alone (counts q) m + said_together (counts_all q) m

-- It is such as may be said, and answers nothing more often than the message does.
record SaysAs (reading : Reading) (m : Message) : Type 0 where
  says : Says reading
  few : (q : Question) → CanBeAsked q → answered_by q reading ≤ said_by q m

other_says : (kind : Kind) (reading : Reading) (m : Message) → is_answer kind ≡ false → IsMessage kind reading → SaysAs reading m
other_says kind Foreign m other is = absurd is
other_says kind NotText m other is = absurd is
other_says kind NotJson m other is = absurd is
other_says kind OverLimits m other is = absurd is
other_says kind HalfPair m other is = absurd is
other_says kind (Single entry) m other is =
    let none : is_answer entry.kind ≡ false = ap is_answer is.kind_is ∙ other in
    record {
      says = λ one. no (is_answer entry.kind) one none;
      few = λ q can. let zero_times : answered_by q (Single entry) ≡ 0 = ap (λ b. if b then answered_under q entry.id else 0) none in omega (arith, zero_times);
    }
other_says kind (Array entries) m other is = absurd is

no_answers : (kind : Kind) (entries : List Entry) → is_answer kind ≡ false → AreEntries kind entries → AreNoAnswers entries
no_answers kind [] other are = tt
no_answers kind (entry ∷ entries) other are = (ap is_answer are.0.kind_is ∙ other, no_answers kind entries other are.1)

none_answered : (entries : List Entry) → AreNoAnswers entries → ids_answered entries ≡ []
none_answered [] none = refl
none_answered (entry ∷ entries) none = ap (λ b. if b then option_to_list entry.id ++ ids_answered entries else ids_answered entries) none.0 ∙ none_answered entries none.1

nothing_together : (q : Question) → CanBeAsked q → answered_together q [] ≡ 0
nothing_together (alone id) can = refl
nothing_together (together []) can = absurd can
nothing_together (together (id ∷ more)) can = refl
nothing_together by_array can = refl
nothing_together under_null can = refl

others_say : (kind : Kind) (reading : Reading) (m : Message) → is_answer kind ≡ false → AreMessages kind reading → SaysAs reading m
others_say kind Foreign m other are = absurd are
others_say kind NotText m other are = absurd are
others_say kind NotJson m other are = absurd are
others_say kind OverLimits m other are = absurd are
others_say kind HalfPair m other are = absurd are
others_say kind (Single entry) m other are = absurd are
others_say kind (Array []) m other are = absurd are
others_say kind (Array (entry ∷ entries)) m other are =
    let none = no_answers kind (entry ∷ entries) other are in
    record {
      says = inl none;
      few = λ q can. let zero_times : answered_by q (Array (entry ∷ entries)) ≡ 0 = ap (answered_together q) (none_answered (entry ∷ entries) none) ∙ nothing_together q can in omega (arith, zero_times);
    }

-- ---- answers

id_plain : (id : Id) → IsId id → IsPlain (written_as id)
id_plain ids.Null is = tt
id_plain (ids.Text text) is = tt
id_plain (ids.Signed (pos n)) is = absurd is
id_plain (ids.Signed (negsuc n)) is = inr (n, is, refl)
id_plain (ids.Unsigned n) is = inl (n, is, refl)

under_few : (q : Question) (o : Id) (a : Given) → answered_under q (Some (written_as o)) ≤ as_number (counts q (o, a))
under_few (alone id) o a = omega arith
under_few (together all) o a = omega arith
under_few by_array o a = omega arith
under_few under_null o a = omega arith

answer_says : (o : Id) (a : Given) (reading : Reading) → IsId o → IsMessage Answer reading → HasId (written_as o) reading → SaysAs reading (answer o a)
answer_says o a Foreign known is named = absurd is
answer_says o a NotText known is named = absurd is
answer_says o a NotJson known is named = absurd is
answer_says o a OverLimits known is named = absurd is
answer_says o a HalfPair known is named = absurd is
answer_says o a (Single entry) known is named = record {
  says = λ one. (ap is_well is.kind_is, (written_as o, id_plain o known, named));
  few = λ q can.
      let one : is_answer entry.kind ≡ true = ap is_answer is.kind_is in
      let once : answered_by q (Single entry) ≡ answered_under q (Some (written_as o)) = (λ i. if one i then answered_under q (named i) else 0) in
      let few = under_few q o a in
      omega (arith, once, few);
}
answer_says o a (Array entries) known is named = absurd is

abbrev ids_given : List (Id × Given) → List WrittenId
ids_given all = map (λ a. written_as a.0) all

each_answers : (all : List (Id × Given)) (entries : List Entry) → AreGiven all → AreEntries Answer entries → EachHasId (ids_given all) entries → AreAnswers entries
each_answers [] [] given are named = tt
each_answers [] (entry ∷ entries) given are named = absurd named
each_answers (a ∷ all) [] given are named = absurd named
each_answers (a ∷ all) (entry ∷ entries) given are named =
    (ap is_answer are.0.kind_is, (written_as a.0, id_plain a.0 given.0, named.0), each_answers all entries given.2 are.1 named.1)

ids_are : (all : List (Id × Given)) (entries : List Entry) → AreEntries Answer entries → EachHasId (ids_given all) entries → ids_answered entries ≡ map written_as (map (λ a. a.0) all)
ids_are [] [] are named = refl
ids_are [] (entry ∷ entries) are named = absurd named
ids_are (a ∷ all) [] are named = absurd named
ids_are (a ∷ all) (entry ∷ entries) are named =
    let one : is_answer entry.kind ≡ true = ap is_answer are.0.kind_is in
    (λ i. if one i then option_to_list (named.0 i) ++ ids_are all entries are.1 named.1 i else ids_answered entries)

together_few : (q : Question) (those : List Id) → answered_together q (map written_as those) ≤ as_number (counts_all q those)
together_few (alone id) those = omega arith
together_few (together all) those = omega arith
together_few by_array [] = omega arith
together_few by_array (id ∷ those) = omega arith
together_few under_null [] = omega arith
together_few under_null (id ∷ those) = omega arith

answers_say : (all : List (Id × Given)) (reading : Reading) → AreGiven all → AreMessages Answer reading → HaveIds (ids_given all) reading → SaysAs reading (answers all)
answers_say all Foreign given are named = absurd are
answers_say all NotText given are named = absurd are
answers_say all NotJson given are named = absurd are
answers_say all OverLimits given are named = absurd are
answers_say all HalfPair given are named = absurd are
answers_say all (Single entry) given are named = absurd are
answers_say all (Array []) given are named = absurd are
answers_say all (Array (entry ∷ entries)) given are named = record {
  says = inr (each_answers all (entry ∷ entries) given are named);
  few = λ q can.
      let same : answered_by q (Array (entry ∷ entries)) ≡ answered_together q (map written_as (map (λ a. a.0) all)) = ap (answered_together q) (ids_are all (entry ∷ entries) are named) in
      let few = together_few q (map (λ a. a.0) all) in
      omega (arith, same, few);
}

message_read : (cancels : Option Cancels) (m : Message) → IsSound cancels m → SaysAs (reading_of false (text_of m)) m
message_read cancels (call key o) sound = other_says Request (reading_of false (call_text key o)) (call key o) refl (call_message key o sound.0 sound.1)
message_read cancels (calls key []) sound = absurd sound
message_read cancels (calls key (o ∷ os)) sound = others_say Request (reading_of false (calls_text key (o ∷ os))) (calls key (o ∷ os)) refl (calls_messages key o os sound.0 sound.1)
message_read cancels (notice o) sound = other_says Notification (reading_of false (notice_text o)) (notice o) refl (notice_message o sound)
message_read cancels (withdrawal by key) sound = other_says Notification (reading_of false (withdrawal_text by key)) (withdrawal by key) refl (withdrawal_message by key sound.0)
message_read cancels (answer id a) sound =
    answer_says id a (reading_of false (answer_text id a)) sound.0 (answer_message id a sound.0 sound.1) (answer_named id a sound.0 sound.1)
message_read cancels (answers []) sound = absurd sound
message_read cancels (answers (a ∷ more)) sound =
    answers_say (a ∷ more) (reading_of false (batch_text (answer_texts (a ∷ more)))) sound (answers_messages a more sound) (answers_named a more sound)

over_says : (m : Message) → SaysAs OverLimits m
over_says m = record { says = tt; few = λ q can. omega arith }

message_says : (cancels : Option Cancels) (m : Message) → IsSound cancels m → SaysAs (limited_reading false (text_of m)) m
message_says cancels m sound = limited_keeps (λ reading. SaysAs reading m) (over_says m) (reading_of false (text_of m)) (message_read cancels m sound)

-- ---- all that is said

abbrev pub SayEach : List Frame → Type 0
SayEach [] = ⊤
SayEach (frame ∷ frames) = Says (limited_reading frame.foreign frame.content) × SayEach frames

abbrev pub answered_each : Question → List Frame → ℕ
answered_each q [] = 0
answered_each q (frame ∷ frames) = answered_by q (limited_reading frame.foreign frame.content) + answered_each q frames

pub all_say : (placed : List (ℕ × Frame)) → SayEach (map (λ placed. placed.1) placed) → AllSay placed
all_say [] say = tt
all_say (p ∷ placed) say = (say.0, all_say placed say.1)

pub each_answered : (q : Question) (placed : List (ℕ × Frame)) → answered_each q (map (λ placed. placed.1) placed) ≡ answered_in q placed
each_answered q [] = refl
each_answered q (p ∷ placed) = ap (λ n. answered_by q (limited_reading p.1.foreign p.1.content) + n) (each_answered q placed)

pub first_answered : (q : Question) (n : ℕ) (placed : List (ℕ × Frame)) → answered_in q (take n placed) ≤ answered_in q placed
first_answered q zero placed = omega arith
first_answered q (suc n) [] = omega arith
first_answered q (suc n) (p ∷ placed) = let rest = first_answered q n placed in omega (arith, rest)

-- those that are whole in what was seen
pub messages_say : (cancels : Option Cancels) (ms : List Message) (n : ℕ) → AreSound cancels ms → SayEach (map plain (take n (map text_of ms)))
messages_say cancels ms zero sound = tt
messages_say cancels [] (suc n) sound = tt
messages_say cancels (m ∷ ms) (suc n) sound = ((message_says cancels m sound.0).says, messages_say cancels ms n sound.1)

pub messages_few : (cancels : Option Cancels) (ms : List Message) (n : ℕ) (q : Question) → CanBeAsked q → AreSound cancels ms
    → answered_each q (map plain (take n (map text_of ms))) ≤ total (said_alone (counts q)) ms + total (said_together (counts_all q)) ms
messages_few cancels ms zero q can sound = omega arith
messages_few cancels [] (suc n) q can sound = omega arith
messages_few cancels (m ∷ ms) (suc n) q can sound =
    let first = (message_says cancels m sound.0).few q can in
    let rest = messages_few cancels ms n q can sound.1 in
    omega (arith, first, rest)
