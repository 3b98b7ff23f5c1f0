-- How often something is asked, and answered: an id alone, the ids of a batch, a batch, and null.
use Rattle.std.specs.Prelude.{◌≡◌, ◌⊎◌, ◌+◌, ◌<◌, ◌≤◌, ◌^◌, ℕ, suc, ◌&&◌, ◌||◌, List, [], ◌∷◌, ◌++◌, Bool, true, false, Option, Some, option_and_then, decimal, take, ⊤, if◌then◌else◌}
use Rattle.std.specs.Option.{option_map_or, option_to_list}
use Rattle.lsp_frames.specs.declared.frame.Frame.{Frame}
use Rattle.content_streams.specs.Streams.{Stream, placed_contents}
use Rattle.conversation_reading.specs.Strictly.{limited_reading}
use Rattle.conversation_reading.specs.declared.entry.Entry.{Entry}
use Rattle.conversation_reading.specs.declared.entry.WrittenId.{WrittenId}
use Rattle.conversation_reading.specs.declared.entry.WrittenId.TheVariants.{Null, Text, Number}
use Rattle.conversation_reading.specs.declared.reading.Reading.{Reading}
use Rattle.conversation_reading.specs.declared.reading.Reading.TheVariants.{Foreign, NotText, NotJson, OverLimits, HalfPair, Single, Array}
use Rattle.conversation_rules.specs.Amounts.{same_id, is_null}
use Rattle.conversation_rules.specs.Entries.{is_answer, is_well, may_leave}
use Rattle.conversation_rules.specs.Matching.{same_ids}
use Rattle.conversation_rules.specs.Owed.{owed_on}
use Rattle.conversation_rules.specs.declared.protocol.Protocol.{Protocol}
use Rattle.conversation_rules.specs.declared.protocol.Protocol.TheVariants.{JsonRpc}

-- ---- ids

-- a whole number of 64 bits in decimal digits, without a sign or below 0
abbrev pub IsWhole : List ℕ → Type 0
IsWhole digits = ((n : ℕ) × (n < 2 ^ 64) × (digits ≡ decimal n)) ⊎ ((n : ℕ) × (n < 2 ^ 63) × (digits ≡ 45 ∷ decimal (suc n)))

-- an id that a connection gives back as it is written
abbrev pub IsPlain : WrittenId → Type 0
IsPlain Null = ⊤
IsPlain (Text text) = ⊤
IsPlain (Number digits) = IsWhole digits

abbrev pub ArePlain : List WrittenId → Type 0
ArePlain [] = ⊤
ArePlain (id ∷ ids) = IsPlain id × ArePlain ids

-- and that isn't null
abbrev pub IsNamed : WrittenId → Type 0
IsNamed Null = ⊥
IsNamed (Text text) = ⊤
IsNamed (Number digits) = IsWhole digits

-- ---- what is asked

-- the id that the answer of an entry is expected to have, if any is: it is the same by all rules, and at each place
abbrev pub expected_of : Entry → Option WrittenId
expected_of entry = option_and_then (λ owed. owed.expected) (owed_on JsonRpc 0 entry)

abbrev pub ids_expected : List Entry → List WrittenId
ids_expected [] = []
ids_expected (entry ∷ entries) = option_to_list (expected_of entry) ++ ids_expected entries

-- ---- what is said

-- it has an id that a connection could have
abbrev pub HasPlain : Entry → Type 0
HasPlain entry = (id : WrittenId) × IsPlain id × (entry.id ≡ Some id)

abbrev pub AreNoAnswers : List Entry → Type 0
AreNoAnswers [] = ⊤
AreNoAnswers (entry ∷ entries) = (is_answer entry.kind ≡ false) × AreNoAnswers entries

abbrev pub AreAnswers : List Entry → Type 0
AreAnswers [] = ⊤
AreAnswers (entry ∷ entries) = (is_answer entry.kind ≡ true) × HasPlain entry × AreAnswers entries

-- A single answer breaks no rule by itself and has such an id, and an array has no answer, or is one of answers alone.
abbrev pub Says : Reading → Type 0
Says Foreign = ⊥
Says NotText = ⊥
Says NotJson = ⊥
Says OverLimits = ⊤
Says HalfPair = ⊥
Says (Single entry) = is_answer entry.kind ≡ true → (is_well entry.kind ≡ true) × HasPlain entry
Says (Array entries) = AreNoAnswers entries ⊎ AreAnswers entries

-- ---- how often

-- What is counted: an id alone; the ids of a batch together, in any order; a batch, by any array; and what may be answered alone
-- under the id null: what can't be read, what stands alone and is expected to be answered so, as what is invalid, and a batch,
-- which may be refused whole. Its array answers a batch as well.
pub data Question : Type 0 where
  alone : WrittenId → Question
  together : List WrittenId → Question
  by_array : Question
  under_null : Question

abbrev pub CanBeAsked : Question → Type 0
CanBeAsked (alone id) = IsNamed id
CanBeAsked (together []) = ⊥
CanBeAsked (together (id ∷ ids)) = ArePlain (id ∷ ids)
CanBeAsked by_array = ⊤
CanBeAsked under_null = ⊤

abbrev pub as_number : Bool → ℕ
as_number true = 1
as_number false = 0

-- how many of these ids are this one, and how many are null
abbrev pub times : WrittenId → List WrittenId → ℕ
times id [] = 0
times id (other ∷ ids) = as_number (same_id id other) + times id ids

abbrev pub nulls : List WrittenId → ℕ
nulls [] = 0
nulls (id ∷ ids) = as_number (is_null id) + nulls ids

abbrev pub any_id : {X : Type 0} → List X → Bool
any_id [] = false
any_id (id ∷ ids) = true

-- how often it is asked by a content, be it a batch or not, or one that can't be read, from which these ids are expected
abbrev pub asked_from : Question → Bool → Bool → List WrittenId → ℕ
asked_from (alone id) is_batch is_unread ids = if is_batch then 0 else times id ids
asked_from (together all) is_batch is_unread ids = as_number (is_batch && same_ids all ids)
asked_from by_array is_batch is_unread ids = as_number (is_batch && any_id ids)
asked_from under_null is_batch is_unread ids = if is_batch || is_unread then 1 else nulls ids

abbrev pub asked_by : Question → Reading → ℕ
asked_by question Foreign = asked_from question false true []
asked_by question NotText = asked_from question false true []
asked_by question NotJson = asked_from question false true []
asked_by question OverLimits = asked_from question false true []
asked_by question HalfPair = asked_from question false true []
asked_by question (Single entry) = asked_from question false false (option_to_list (expected_of entry))
asked_by question (Array []) = asked_from question false false (Null ∷ [])
asked_by question (Array (entry ∷ entries)) = asked_from question true false (ids_expected (entry ∷ entries))

-- a single answer
abbrev pub answered_under : Question → Option WrittenId → ℕ
answered_under (alone id) id_of = as_number (option_map_or (same_id id) id_of false)
answered_under (together ids) id_of = 0
answered_under by_array id_of = 0
answered_under under_null id_of = as_number (option_map_or is_null id_of false)

-- the answers of an array
abbrev pub ids_answered : List Entry → List WrittenId
ids_answered [] = []
ids_answered (entry ∷ entries) = if is_answer entry.kind then option_to_list entry.id ++ ids_answered entries else ids_answered entries

abbrev pub answered_together : Question → List WrittenId → ℕ
answered_together (alone id) ids = 0
answered_together (together all) ids = as_number (same_ids all ids)
answered_together by_array ids = as_number (any_id ids)
answered_together under_null [] = 0
answered_together under_null (id ∷ ids) = 1

abbrev pub answered_by : Question → Reading → ℕ
answered_by question Foreign = 0
answered_by question NotText = 0
answered_by question NotJson = 0
answered_by question OverLimits = 0
answered_by question HalfPair = 0
answered_by question (Single entry) = if is_answer entry.kind then answered_under question entry.id else 0
answered_by question (Array entries) = answered_together question (ids_answered entries)

-- ---- all contents of a stream

abbrev pub asked_in : Question → List (ℕ × Frame) → ℕ
asked_in question [] = 0
asked_in question (placed ∷ contents) = asked_by question (limited_reading placed.1.foreign placed.1.content) + asked_in question contents

abbrev pub answered_in : Question → List (ℕ × Frame) → ℕ
answered_in question [] = 0
answered_in question (placed ∷ contents) = answered_by question (limited_reading placed.1.foreign placed.1.content) + answered_in question contents

abbrev pub AllSay : List (ℕ × Frame) → Type 0
AllSay [] = ⊤
AllSay (placed ∷ contents) = Says (limited_reading placed.1.foreign placed.1.content) × AllSay contents

-- ---- cancels by which a request may be left

-- how many of these are such
abbrev pub leaving : Protocol → List Entry → ℕ
leaving protocol [] = 0
leaving protocol (entry ∷ entries) = as_number (may_leave protocol entry) + leaving protocol entries

abbrev pub leaves_by : Protocol → Reading → ℕ
leaves_by protocol Foreign = 0
leaves_by protocol NotText = 0
leaves_by protocol NotJson = 0
leaves_by protocol OverLimits = 0
leaves_by protocol HalfPair = 0
leaves_by protocol (Single entry) = leaving protocol (entry ∷ [])
leaves_by protocol (Array entries) = leaving protocol entries

abbrev pub leaves_in : Protocol → List (ℕ × Frame) → ℕ
leaves_in protocol [] = 0
leaves_in protocol (placed ∷ contents) = leaves_by protocol (limited_reading placed.1.foreign placed.1.content) + leaves_in protocol contents

-- ---- no more is answered than was asked

-- Behind such a cancel the array of a batch may have less than all of its ids.
abbrev pub MayHaveLess : Question → Type 0
MayHaveLess (alone id) = ⊥
MayHaveLess (together ids) = ⊤
MayHaveLess by_array = ⊥
MayHaveLess under_null = ⊥

-- by the contents of one side that were judged, and of the other
abbrev pub IsNoMore : Protocol → Question → List (ℕ × Frame) → List (ℕ × Frame) → Type 0
IsNoMore protocol question answers questions = (answered_in question answers ≤ asked_in question questions) ⊎ (MayHaveLess question × (1 ≤ leaves_in protocol questions))

-- those that were judged
abbrev pub judged : Stream → List (ℕ × Frame)
judged stream = take stream.taken (placed_contents stream)
