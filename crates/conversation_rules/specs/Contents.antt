-- What a content breaks, and what is kept of it.
use Rattle.std.specs.Prelude.{ℕ, suc, ◌+◌, ◌&&◌, ◌||◌, not, List, [], ◌∷◌, ◌++◌, length, ◌==◌, min, Bool, true, false, Option, Some, None, if◌then◌else◌}
use Rattle.std.specs.List.{list_all, list_any}
use Rattle.std.specs.Option.{option_map_or}
use Rattle.lsp_frames.specs.declared.frame.Frame.{Frame}
use Rattle.content_streams.specs.Streams.{capped}
use Rattle.conversation_reading.specs.Strictly.{limited_reading}
use Rattle.conversation_reading.specs.declared.entry.Entry.{Entry}
use Rattle.conversation_reading.specs.declared.entry.WrittenId.{WrittenId}
use Rattle.conversation_reading.specs.declared.reading.Reading.{Reading}
use Rattle.conversation_reading.specs.declared.reading.Reading.TheVariants.{Foreign, NotText, NotJson, OverLimits, HalfPair, Single, Array}
use Rattle.conversation_rules.specs.declared.reply.Reply.{Reply}
use Rattle.conversation_rules.specs.declared.reply.Sight.{Sight}
use Rattle.conversation_rules.specs.Answers.{reply_of, single_findings, refused_behind_single, behind_single, answers_findings, behind_answers}
use Rattle.conversation_rules.specs.Dues.{closed, owed_more, ids_read}
use Rattle.conversation_rules.specs.Entries.{is_answer, answer_id, entry_findings, behind_entry}
use Rattle.conversation_rules.specs.Matching.{is_guess}
use Rattle.conversation_rules.specs.Owed.{Due, new_due, unreadable_due, empty_array_owed}
use Rattle.conversation_rules.specs.Protocols.{batch_level}
use Rattle.conversation_rules.specs.Speakers.{Speaker, Pair, found, found_if, is_broken, one_more}
use Rattle.conversation_rules.specs.declared.finding.Finding.{Finding}
use Rattle.conversation_rules.specs.declared.finding.Message.{Message}
use Rattle.conversation_rules.specs.declared.finding.Rule.{Rule}
use Rattle.conversation_rules.specs.declared.finding.Rule.TheVariants as rules
use Rattle.conversation_rules.specs.declared.level.Level.{Level}
use Rattle.conversation_rules.specs.declared.level.Level.TheVariants.{Must, Note}
use Rattle.conversation_rules.specs.declared.protocol.Protocol.{Protocol}
use Rattle.conversation_rules.specs.declared.side.Side.{Side}

-- What comes of something that is seen: what was found, and what is kept of both sides.
pub record Outcome : Type 0 where
  pub findings : List Finding
  pub pair : Pair

-- ---- not-json, charset, cut-off, not-judged: a content that isn't read. It may have been an answer, a request or a cancel.

-- the last line, where its stream was closed behind it, was cut off
abbrev pub not_json_rule : Bool → Rule
not_json_rule is_unfinished = if is_unfinished then rules.CutOff else rules.NotJson

abbrev pub unreadable_pair : Message → Pair → Pair
unreadable_pair message pair = record {
  own = record pair.own { owed = pair.own.owed ++ unreadable_due message.number message.offset ∷ []; has_unreadable = true };
  other = record pair.other { unsure_up_to = pair.other.count };
}

abbrev pub unreadable : Message → Pair → Rule → Level → Outcome
unreadable message pair rule level = record { findings = found message 0 rule level ∷ []; pair = unreadable_pair message pair }

-- ---- a content that is read

abbrev pub sight_of : Pair → Sight
sight_of pair = record { is_broken = is_broken pair; has_unreadable = pair.other.has_unreadable; refusals = pair.other.refusals }

-- what is owed on it stands last, and is added to entry by entry
abbrev pub opened : Message → Bool → Bool → Speaker → Speaker
opened message is_batch has_huge own = record own { owed = own.owed ++ new_due message.number message.offset is_batch has_huge ∷ [] }

abbrev pub shut : Speaker → Speaker
shut own = record own { owed = closed own.owed }

-- ---- one entry

abbrev pub single_own : Protocol → Message → Entry → Speaker → Speaker
single_own protocol message entry own = shut (behind_entry protocol 0 entry (opened message false entry.has_huge own))

abbrev pub single_other : Protocol → Sight → Entry → Speaker → Speaker
single_other protocol sight entry other = record other {
  owed = if is_answer entry.kind then behind_single sight (reply_of protocol other.owed 0 entry) (answer_id protocol entry) other.owed else other.owed;
  refusals = if is_answer entry.kind then refused_behind_single sight (reply_of protocol other.owed 0 entry) (answer_id protocol entry) other.owed else other.refusals;
}

abbrev pub single_answer_findings : Protocol → Sight → Message → Entry → Speaker → List Finding
single_answer_findings protocol sight message entry other = if is_answer entry.kind then single_findings protocol sight message (reply_of protocol other.owed 0 entry) (answer_id protocol entry) other.owed else []

abbrev pub single_outcome : Protocol → Message → Entry → Pair → Outcome
single_outcome protocol message entry pair = record {
  findings = entry_findings protocol message false 0 entry (opened message false entry.has_huge pair.own)
      ++ single_answer_findings protocol (sight_of pair) message entry pair.other;
  pair = record { own = single_own protocol message entry pair.own; other = single_other protocol (sight_of pair) entry pair.other };
}

-- ---- an array: `empty-array`, `batch`

abbrev pub empty_findings : Message → List Finding
empty_findings message = found message 0 rules.EmptyArray Must ∷ []

-- `[]` is owed as one entry that is invalid
abbrev pub empty_own : Message → Speaker → Speaker
empty_own message own = record own { owed = owed_more empty_array_owed (own.owed ++ new_due message.number message.offset false false ∷ []) }

abbrev pub empty_outcome : Message → Pair → Outcome
empty_outcome message pair = record { findings = empty_findings message; pair = record { own = empty_own message pair.own; other = pair.other } }

-- an array of answers alone is no batch
abbrev pub are_answers : List Entry → Bool
are_answers entries = list_all (λ entry. is_answer entry.kind) entries

abbrev pub batch_findings : Protocol → Message → List Entry → List Finding
batch_findings protocol message entries = if are_answers entries then [] else option_map_or (λ level. found message 0 rules.Batch level ∷ []) (batch_level protocol) []

-- its entries, one behind another
abbrev pub entries_findings : Protocol → Message → ℕ → List Entry → Speaker → List Finding
entries_findings protocol message at [] own = []
entries_findings protocol message at (entry ∷ entries) own = entry_findings protocol message true at entry own ++ entries_findings protocol message (suc at) entries (behind_entry protocol at entry own)

abbrev pub behind_entries : Protocol → ℕ → List Entry → Speaker → Speaker
behind_entries protocol at [] own = own
behind_entries protocol at (entry ∷ entries) own = behind_entries protocol (suc at) entries (behind_entry protocol at entry own)

-- those that are answers, and their ids
abbrev pub replies_in : Protocol → List Due → ℕ → List Entry → List Reply
replies_in protocol owed at [] = []
replies_in protocol owed at (entry ∷ entries) = if is_answer entry.kind then reply_of protocol owed at entry ∷ replies_in protocol owed (suc at) entries else replies_in protocol owed (suc at) entries

abbrev pub reply_ids : List Entry → List (Option WrittenId)
reply_ids [] = []
reply_ids (entry ∷ entries) = if is_answer entry.kind then entry.id ∷ reply_ids entries else reply_ids entries

abbrev pub have_huge : List Entry → Bool
have_huge entries = list_any (λ entry. entry.has_huge) entries

-- An array on which nothing is open is kept as a number: it may be refused whole all the same. `own` is the side before it.
abbrev pub counted_array : Speaker → Speaker → Speaker
counted_array own after = record after { refusals = if length after.owed == length own.owed then record after.refusals { unowed = one_more after.refusals.unowed } else after.refusals }

-- The answers of an array. Behind a cancel by which a request may be left, an array may have less than its batch expects, and
-- ids may be used again: where it has to be guessed for which batch it is, what is open isn't known from then on.
abbrev pub guesses : Speaker → List (Option WrittenId) → Bool
guesses asker ids = asker.has_cancelled && is_guess (ids_read ids) asker.owed

abbrev pub array_sight : Pair → List (Option WrittenId) → Sight
array_sight pair ids = let sight = sight_of pair in record sight { is_broken = sight.is_broken || guesses pair.other ids }

abbrev pub array_answer_findings : Protocol → Message → List Entry → Pair → List Finding
array_answer_findings protocol message entries pair =
    answers_findings protocol (array_sight pair (reply_ids entries)) message (are_answers entries) (replies_in protocol pair.other.owed 1 entries) (reply_ids entries) pair.other.owed

abbrev pub array_other : Protocol → Message → List Entry → Pair → Speaker
array_other protocol message entries pair = record pair.other {
  owed = behind_answers protocol (array_sight pair (reply_ids entries)) message (replies_in protocol pair.other.owed 1 entries) (reply_ids entries) pair.other.owed;
  is_guessed = pair.other.is_guessed || guesses pair.other (reply_ids entries);
}

abbrev pub array_outcome : Protocol → Message → List Entry → Pair → Outcome
array_outcome protocol message entries pair =
    let own = opened message true (have_huge entries) pair.own in
    record {
      findings = batch_findings protocol message entries ++ entries_findings protocol message 1 entries own ++ array_answer_findings protocol message entries pair;
      pair = record { own = counted_array pair.own (shut (behind_entries protocol 1 entries own)); other = array_other protocol message entries pair };
    }

-- ---- line-end: a last line without its LF that is JSON is read

abbrev pub line_end_findings : Bool → Message → List Finding
line_end_findings is_unfinished message = found_if is_unfinished (found message 0 rules.LineEnd Note)

abbrev pub behind_line_end : Bool → Message → Outcome → Outcome
behind_line_end is_unfinished message outcome = record outcome { findings = line_end_findings is_unfinished message ++ outcome.findings }

abbrev pub items_outcome : Protocol → Message → Pair → List Entry → Outcome
items_outcome protocol message pair [] = empty_outcome message pair
items_outcome protocol message pair (entry ∷ entries) = array_outcome protocol message (entry ∷ entries) pair

abbrev pub reading_outcome : Protocol → Bool → Message → Pair → Reading → Outcome
reading_outcome protocol is_unfinished message pair Foreign = unreadable message pair rules.Charset Must
reading_outcome protocol is_unfinished message pair NotText = unreadable message pair (not_json_rule is_unfinished) Must
reading_outcome protocol is_unfinished message pair NotJson = unreadable message pair (not_json_rule is_unfinished) Must
reading_outcome protocol is_unfinished message pair OverLimits = unreadable message pair rules.NotJudged Note
reading_outcome protocol is_unfinished message pair HalfPair = unreadable message pair rules.NotJudged Note
reading_outcome protocol is_unfinished message pair (Single entry) = behind_line_end is_unfinished message (single_outcome protocol message entry pair)
reading_outcome protocol is_unfinished message pair (Array entries) = behind_line_end is_unfinished message (items_outcome protocol message pair entries)

-- ---- any content: the next of its side's stream, which begins at this offset

abbrev pub next_number : Speaker → ℕ
next_number own = one_more own.count

-- no more may have been refused than is open by now
abbrev pub counted : Pair → Pair
counted pair = record pair { own = record pair.own { count = next_number pair.own; refusals = record pair.own.refusals { refused = min pair.own.refusals.refused (length pair.own.owed) } } }

abbrev pub next_message : Side → ℕ → Pair → Message
next_message side place pair = record { side = side; number = next_number pair.own; offset = capped place }

abbrev pub content_outcome : Protocol → Side → Bool → ℕ × Frame → Pair → Outcome
content_outcome protocol side is_unfinished placed pair =
    reading_outcome protocol is_unfinished (next_message side placed.0 pair) (counted pair) (limited_reading placed.1.foreign placed.1.content)
