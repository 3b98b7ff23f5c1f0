-- A side that answers nothing more often than it was asked is accused of nothing.
use Rattle.std.proofs.Common.{◌≡◌, ◌⊎◌, inl, inr, ◌==◌, ◌||◌, ◌&&◌, not, ℕ, zero, suc, ◌+◌, ◌-◌, ◌^◌, ◌≤◌, length, Bool, true, false, if◌then◌else◌, List, [], ◌∷◌, ◌++◌, map, position, Option, Some, None, option_map, refl, sym, ap, subst, ◌∙◌, arith, append-nil, append_assoc}
use Rattle.std.proofs.lemmas.Bool.{eqb-true, eq-eqb}
use Rattle.std.specs.Prelude.{⊤, slice_get, remove, option_and_then, count_by}
use Rattle.std.specs.List.{list_all, list_any}
use Rattle.std.specs.Option.{option_map_or, option_to_list, is_none}
use Rattle.conversation_reading.specs.declared.entry.Entry.{Entry}
use Rattle.conversation_reading.specs.First.{First}
use Rattle.conversation_reading.specs.declared.entry.Kind.{Kind}
use Rattle.conversation_reading.specs.declared.entry.Kind.TheVariants.{Request, Notification, Answer, BrokenAnswer, Invalid}
use Rattle.conversation_reading.specs.declared.entry.WrittenId.{WrittenId}
use Rattle.conversation_reading.specs.declared.entry.WrittenId.TheVariants.{Null, Text, Number}
use Rattle.conversation_reading.specs.declared.reading.Reading.{Reading}
use Rattle.conversation_reading.specs.declared.reading.Reading.TheVariants.{Foreign, NotText, NotJson, OverLimits, HalfPair, Single, Array}
use Rattle.conversation_rules.specs.Amounts.{same_id, is_null, is_odd, is_plain}
use Rattle.conversation_rules.specs.Answers.{target_of_null, single_findings, behind_single, refused_behind_single, reply_of, cancelled_code_level, not_owed_level, or_note, answers_findings, answers_findings_of, behind_answers, behind_answers_of, batch_rest}
use Rattle.conversation_rules.specs.Contents.{reading_outcome, sight_of, array_sight, guesses, array_answer_findings, array_other, opened, shut, counted_array, have_huge, are_answers, replies_in, reply_ids, single_other, single_answer_findings, behind_entries}
use Rattle.conversation_rules.specs.Dues.{closed, owed_more, settled_batch, cancelled_in, ids_read, array_target, array_fits, found_batch}
use Rattle.conversation_rules.specs.Entries.{is_answer, is_well, may_lack_id, id_by, answer_id, is_cancel, cancelled_by, owed_after_last, is_first_cancel, owed_after_first, owed_after_cancel, behind_entry, id_findings}
use Rattle.conversation_rules.specs.Matching.{same_ids, expected_ids, is_just, is_just_due, is_guess, can_be_answered, left_batch_target, batch_target, named_target, named_in, or_else, oldest, is_due_for, is_request_for}
use Rattle.conversation_rules.specs.Owed.{Owed, Due, has_twice, first_id, request_owed, may_be_left, new_due, unreadable_due, has_id, has_null_params, is_expected, may_have, expected_without_params, owed_as, owed_on, empty_array_owed}
use Rattle.conversation_rules.specs.Protocols.{is_mcp, may_leave_null}
use Rattle.conversation_rules.specs.Speakers.{Speaker, Pair, found, one_more}
use Rattle.conversation_rules.specs.declared.finding.Finding.{Finding}
use Rattle.conversation_rules.specs.declared.finding.Message.{Message}
use Rattle.conversation_rules.specs.declared.finding.Rule.{Rule}
use Rattle.conversation_rules.specs.declared.finding.Rule.TheVariants as rules
use Rattle.conversation_rules.specs.declared.found.Target.{Target}
use Rattle.conversation_rules.specs.declared.level.Level.{Level}
use Rattle.conversation_rules.specs.declared.level.Level.TheVariants.{Must, Should, Note}
use Rattle.conversation_rules.specs.declared.protocol.Protocol.{Protocol}
use Rattle.conversation_rules.specs.declared.protocol.Protocol.TheVariants.{JsonRpc}
use Rattle.conversation_rules.specs.declared.reply.Refusals.{Refusals}
use Rattle.conversation_rules.specs.declared.reply.Reply.{Reply}
use Rattle.conversation_rules.specs.declared.reply.Sight.{Sight}
use Rattle.conversation_rules.specs.declared.side.Side.{Side}
use Rattle.our_side.specs.Asked.{IsPlain, ArePlain, IsNamed, expected_of, ids_expected, HasPlain, AreNoAnswers, AreAnswers, Says, Question, alone, together, by_array, under_null, CanBeAsked, as_number, any_id, asked_from, asked_by, answered_under, ids_answered, answered_together, answered_by}
use Rattle.our_side.specs.Breaking.{same_side, tells_of, is_note, accuses, is_of_answers}
use Rattle.our_side.specs.Expected.{NoneOf}
use Rattle.our_side.proofs.Cancels.{guesses_by}
use Rattle.our_side.proofs.Fair.{Silent, own_may, ids_each}
use Rattle.our_side.proofs.Formed.{IsFormed, AreFormed, IsFormedReading}
use Rattle.our_side.proofs.Ids.{same_itself, same_plain, named_plain, named_not_null, plain_named, only_null, same_as_other, same_list}
use Rattle.our_side.proofs.Matched.{array_none}
use Rattle.our_side.proofs.Kept.{Mild, mild_none, Enough, Leaves, Asks, same_left, more_most, one_more_is}
use Rattle.our_side.proofs.Open.{IsOfIds, open_on, open_in, AreOrderly, unreadable_more, unreadable_open, Ends, front_in, new_ends, new_front, new_length, map_length, more_length, ends_cancelled, front_cancelled, ends_more, front_more, closed_orderly, closed_open, closed_shut, nothing_alone, nothing_together, open_ends, ends_orderly, LastNew, LastOne, LastBatch, first_one, more_batch, new_cancelled, batch_cancelled, new_orderly, one_orderly, batch_orderly, new_open, one_open, batch_open, fitting, takes, none_oldest, alone_fits, wholes, any_whole, whole_any, open_batch, TakesWhole, takes_whole, none_whole, together_wholes}
use Rattle.our_side.proofs.UnderNull.{IsAnswered, target, entry_answered, null_answered}
use Rattle.our_side.proofs.Walking.{Each, May, Hosts, Faulty, Answering, EntriesMay, ReadingMay, single_each, answers_each}

-- ---- the id that is expected

formed_plain : (o : Option WrittenId) → IsFormed o → option_map_or is_odd o false ≡ false → ArePlain (option_to_list o)
formed_plain None formed even = tt
formed_plain (Some Null) formed even = (tt, tt)
formed_plain (Some (Text text)) formed even = (tt, tt)
formed_plain (Some (Number digits)) formed even = (formed (not_false (is_plain digits) even), tt)
  where
    not_false : (b : Bool) → not b ≡ false → b ≡ true
    not_false true e = refl
    not_false false e = cc

-- what a request is owed, by whether its id is a number that isn't plain
abbrev pub request_by : Protocol → ℕ → Option WrittenId → Bool → Owed
request_by rules place id odd = if odd then record { place = place; must = false; expected = Some Null; own = id; first = None; may_be_null = true; is_request = false; is_cancelled = false }
    else record { place = place; must = not (may_leave_null rules && option_map_or is_null id false); expected = id; own = id; first = None; may_be_null = false; is_request = true; is_cancelled = false }

module _ (entry : Entry) (formed : IsFormed entry.id) where
  even_plain : (odd : Bool) → option_map_or is_odd entry.id false ≡ odd → ArePlain (option_to_list (if odd then Some Null else entry.id))
  even_plain true is = (tt, tt)
  even_plain false is = formed_plain entry.id formed is

  request_plain : (odd : Bool) → option_map_or is_odd entry.id false ≡ odd → ArePlain (option_to_list (request_by JsonRpc 0 entry.id odd).expected)
  request_plain true is = (tt, tt)
  request_plain false is = formed_plain entry.id formed is

  invalid_plain : (only : Bool) → ArePlain (option_to_list (if only then expected_without_params entry.id else Some Null))
  invalid_plain true = even_plain (option_map_or is_odd entry.id false) refl
  invalid_plain false = (tt, tt)

  kind_plain : (kind : Kind) → ArePlain (option_to_list (option_and_then (λ owed. owed.expected) (owed_as JsonRpc 0 entry kind)))
  kind_plain Request = from (has_twice entry)
    where
      from : (t : Bool) → ArePlain (option_to_list (if t then may_be_left 0 (expected_without_params entry.id) entry.id (first_id entry) else request_owed JsonRpc 0 entry.id).expected)
      from true = even_plain (option_map_or is_odd entry.id false) refl
      from false = request_plain (option_map_or is_odd entry.id false) refl
  kind_plain Notification = from (has_twice entry)
    where
      from : (t : Bool) → ArePlain (option_to_list (option_and_then (λ owed. owed.expected) (if t then Some (may_be_left 0 None None None) else None)))
      from true = tt
      from false = tt
  kind_plain Answer = tt
  kind_plain BrokenAnswer = tt
  kind_plain Invalid = invalid_plain (has_null_params entry)

  expected_plain : ArePlain (option_to_list (expected_of entry))
  expected_plain = kind_plain entry.kind

plain-append : (xs ys : List WrittenId) → ArePlain xs → ArePlain ys → ArePlain (xs ++ ys)
plain-append [] ys first second = second
plain-append (x ∷ xs) ys first second = (first.0, plain-append xs ys first.1 second)

all_plain : (entries : List Entry) → AreFormed entries → ArePlain (ids_expected entries)
all_plain [] formed = tt
all_plain (entry ∷ entries) formed = plain-append (option_to_list (expected_of entry)) (ids_expected entries) (expected_plain entry formed.0) (all_plain entries formed.1)

module _ (protocol : Protocol) (at : ℕ) (entry : Entry) where
  -- it is the same by all rules
  request_same : (odd : Bool) → (request_by protocol at entry.id odd).expected ≡ (request_by JsonRpc 0 entry.id odd).expected
  request_same true = refl
  request_same false = refl

  kind_same : (kind : Kind) → option_and_then (λ owed. owed.expected) (owed_as protocol at entry kind) ≡ option_and_then (λ owed. owed.expected) (owed_as JsonRpc 0 entry kind)
  kind_same Request = from (has_twice entry)
    where
      from : (t : Bool) → (if t then may_be_left at (expected_without_params entry.id) entry.id (first_id entry) else request_owed protocol at entry.id).expected
          ≡ (if t then may_be_left 0 (expected_without_params entry.id) entry.id (first_id entry) else request_owed JsonRpc 0 entry.id).expected
      from true = refl
      from false = request_same (option_map_or is_odd entry.id false)
  kind_same Notification = from (has_twice entry)
    where
      from : (t : Bool) → option_and_then (λ owed. owed.expected) (if t then Some (may_be_left at None None None) else None)
          ≡ option_and_then (λ owed. owed.expected) (if t then Some (may_be_left 0 None None None) else None)
      from true = refl
      from false = refl
  kind_same Answer = refl
  kind_same BrokenAnswer = refl
  kind_same Invalid = refl

  expected_same : option_and_then (λ owed. owed.expected) (owed_on protocol at entry) ≡ expected_of entry
  expected_same = kind_same entry.kind

-- ---- what is asked

module _ (protocol : Protocol) (entry : Entry) where
  -- a cancel that it is
  module _ (P : Due → Type 0) (keeps : (settles : Bool) (by : WrittenId) (due : Due) → P due → P (cancelled_in settles by due)) where
    target_ends : (target : Option WrittenId) (owed : List Due) → Ends P owed → Ends P (cancelled_by protocol target owed)
    target_ends None owed ends = ends
    target_ends (Some by) owed ends = ends_cancelled (is_mcp protocol) by P (keeps (is_mcp protocol) by) owed ends

    last_ends : (owed : List Due) → Ends P owed → Ends P (owed_after_last protocol entry owed)
    last_ends owed ends = from (is_cancel protocol entry)
      where
        from : (b : Bool) → Ends P (if b then cancelled_by protocol entry.target owed else owed)
        from true = target_ends entry.target owed ends
        from false = ends

    first_ends : (first : Option First) (owed : List Due) → Ends P owed → Ends P (owed_after_first protocol first owed)
    first_ends None owed ends = ends
    first_ends (Some first) owed ends = from (is_first_cancel protocol first)
      where
        from : (b : Bool) → Ends P (if b then cancelled_by protocol first.target owed else owed)
        from true = target_ends first.target owed ends
        from false = ends

    base_ends : (owed : List Due) → Ends P owed → Ends P (owed_after_cancel protocol entry owed)
    base_ends owed ends = first_ends entry.first (owed_after_last protocol entry owed) (last_ends owed ends)

  target_front : (q : Question) (target : Option WrittenId) (owed : List Due) → front_in q (cancelled_by protocol target owed) ≡ front_in q owed
  target_front q None owed = refl
  target_front q (Some by) owed = front_cancelled (is_mcp protocol) by q owed

  last_front : (q : Question) (owed : List Due) → front_in q (owed_after_last protocol entry owed) ≡ front_in q owed
  last_front q owed = from (is_cancel protocol entry)
    where
      from : (b : Bool) → front_in q (if b then cancelled_by protocol entry.target owed else owed) ≡ front_in q owed
      from true = target_front q entry.target owed
      from false = refl

  first_front : (q : Question) (first : Option First) (owed : List Due) → front_in q (owed_after_first protocol first owed) ≡ front_in q owed
  first_front q None owed = refl
  first_front q (Some first) owed = from (is_first_cancel protocol first)
    where
      from : (b : Bool) → front_in q (if b then cancelled_by protocol first.target owed else owed) ≡ front_in q owed
      from true = target_front q first.target owed
      from false = refl

  target_size : (target : Option WrittenId) (owed : List Due) → length (cancelled_by protocol target owed) ≡ length owed
  target_size None owed = refl
  target_size (Some by) owed = map_length (cancelled_in (is_mcp protocol) by) owed

  last_size : (owed : List Due) → length (owed_after_last protocol entry owed) ≡ length owed
  last_size owed = from (is_cancel protocol entry)
    where
      from : (b : Bool) → length (if b then cancelled_by protocol entry.target owed else owed) ≡ length owed
      from true = target_size entry.target owed
      from false = refl

  first_size : (first : Option First) (owed : List Due) → length (owed_after_first protocol first owed) ≡ length owed
  first_size None owed = refl
  first_size (Some first) owed = from (is_first_cancel protocol first)
    where
      from : (b : Bool) → length (if b then cancelled_by protocol first.target owed else owed) ≡ length owed
      from true = target_size first.target owed
      from false = refl

  base_size : (owed : List Due) → length (owed_after_cancel protocol entry owed) ≡ length owed
  base_size owed = first_size entry.first (owed_after_last protocol entry owed) ∙ last_size owed

  base_front : (q : Question) (owed : List Due) → front_in q (owed_after_cancel protocol entry owed) ≡ front_in q owed
  base_front q owed = first_front q entry.first (owed_after_last protocol entry owed) ∙ last_front q owed

abbrev more_owed : Option Owed → List Due → List Due
more_owed o base = option_map_or (λ owed. owed_more owed base) o base

-- one more entry of a batch
batch_by : (ids : List WrittenId) (o : Option Owed) (base : List Due) → Ends (LastBatch ids) base → Ends (LastBatch (ids ++ option_to_list (option_and_then (λ owed. owed.expected) o))) (more_owed o base)
batch_by ids None base ends = subst (λ them. Ends (LastBatch them) base) (sym (append-nil ids)) ends
batch_by ids (Some x) base ends = ends_more (LastBatch ids) (LastBatch (ids ++ option_to_list x.expected)) x (more_batch ids x) base ends

front_by : (q : Question) (P : Due → Type 0) (o : Option Owed) (base : List Due) → Ends P base → front_in q (more_owed o base) ≡ front_in q base
front_by q P None base ends = refl
front_by q P (Some x) base ends = front_more q P x base ends

size_by : (P : Due → Type 0) (o : Option Owed) (base : List Due) → Ends P base → length (more_owed o base) ≡ length base
size_by P None base ends = refl
size_by P (Some x) base ends = more_length x P base ends

record Batched (protocol : Protocol) (at : ℕ) (entries : List Entry) (own : Speaker) (ids : List WrittenId) : Type 0 where
  ends : Ends (LastBatch (ids ++ ids_expected entries)) (behind_entries protocol at entries own).owed
  front : (q : Question) → front_in q (behind_entries protocol at entries own).owed ≡ front_in q own.owed
  size : length (behind_entries protocol at entries own).owed ≡ length own.owed
  kept : (behind_entries protocol at entries own).refusals ≡ own.refusals

batch_entries : (protocol : Protocol) (at : ℕ) (entries : List Entry) (own : Speaker) (ids : List WrittenId) → Ends (LastBatch ids) own.owed → Batched protocol at entries own ids
batch_entries protocol at [] own ids ends = record { ends = subst (λ them. Ends (LastBatch them) own.owed) (sym (append-nil ids)) ends; front = λ q. refl; size = refl; kept = refl }
batch_entries protocol at (entry ∷ entries) own ids ends =
    let base = owed_after_cancel protocol entry own.owed in
    let o = owed_on protocol at entry in
    let based = base_ends protocol entry (LastBatch ids) (λ settles by due last. batch_cancelled settles by ids due last) own.owed ends in
    let first : Ends (LastBatch (ids ++ option_to_list (expected_of entry))) (more_owed o base) =
    subst (λ e. Ends (LastBatch (ids ++ option_to_list e)) (more_owed o base)) (expected_same protocol at entry) (batch_by ids o base based) in
    let rest = batch_entries protocol (suc at) entries (behind_entry protocol at entry own) (ids ++ option_to_list (expected_of entry)) first in
    record {
      ends = subst (λ them. Ends (LastBatch them) (behind_entries protocol at (entry ∷ entries) own).owed) (append_assoc ids (option_to_list (expected_of entry)) (ids_expected entries)) rest.ends;
      front = λ q. rest.front q ∙ front_by q (LastBatch ids) o base based ∙ base_front protocol entry q own.owed;
      size = rest.size ∙ size_by (LastBatch ids) o base based ∙ base_size protocol entry own.owed;
      kept = rest.kept;
    }

-- what is owed behind a content
pub record IsAsked (before after : Speaker) (reading : Reading) : Type 0 where
  pub orderly : AreOrderly after.owed
  pub opened : (q : Question) → CanBeAsked q → Asks q before.refusals after.refusals (open_in q before.owed) (open_in q after.owed) (asked_by q reading)

-- nothing but what is owed has changed
owed_asked : (own : Speaker) (after : List Due) (reading : Reading) → AreOrderly after → ((q : Question) → CanBeAsked q → open_in q after ≡ open_in q own.owed + asked_by q reading) → IsAsked own (record own { owed = after }) reading
owed_asked own after reading orderly opened = record {
  orderly = orderly;
  opened = λ q can. let all = opened q can in record { most = λ most. most; left = inr (omega (arith, all)) };
}

record OneAsked (owed after : List Due) (reading : Reading) : Type 0 where
  orderly : AreOrderly after
  opened : (q : Question) → CanBeAsked q → open_in q after ≡ open_in q owed + asked_by q reading

single_by : (owed base : List Due) (entry : Entry) (o : Option Owed) → option_and_then (λ x. x.expected) o ≡ expected_of entry → ArePlain (option_to_list (expected_of entry))
    → Ends LastNew base → ((q : Question) → front_in q base ≡ open_in q owed) → OneAsked owed (closed (more_owed o base)) (Single entry)
single_by owed base entry None is plain ends front = record {
  orderly = closed_orderly LastNew new_orderly base ends;
  opened = λ q can.
      let all = closed_open q LastNew (asked_from q false false []) (new_open q) (λ due last. nothing_alone q can due last.batch) base ends in
      let same = front q in
      let asked : asked_from q false false [] ≡ asked_by q (Single entry) = ap (λ e. asked_from q false false (option_to_list e)) is in
      omega (arith, all, same, asked);
}
single_by owed base entry (Some x) is plain ends front =
    let one = ends_more LastNew (LastOne x) x (first_one x) base ends in
    record {
      orderly = closed_orderly (LastOne x) (one_orderly x (subst (λ e. ArePlain (option_to_list e)) (sym is) plain)) (owed_more x base) one;
      opened = λ q can.
          let all = closed_open q (LastOne x) (asked_from q false false (option_to_list x.expected)) (one_open q x) (λ due last. nothing_alone q can due last.batch) (owed_more x base) one in
          let same = front q in
          let more = front_more q LastNew x base ends in
          let asked : asked_from q false false (option_to_list x.expected) ≡ asked_by q (Single entry) = ap (λ e. asked_from q false false (option_to_list e)) is in
          omega (arith, all, same, more, asked);
    }

unreadable_asked : (own : Speaker) (number offset : ℕ) (reading : Reading) → ((q : Question) → asked_by q reading ≡ asked_from q false true []) → AreOrderly own.owed
    → IsAsked own (record own { owed = own.owed ++ unreadable_due number offset ∷ []; has_unreadable = true }) reading
unreadable_asked own number offset reading is orderly = record {
  orderly = unreadable_more own.owed number offset orderly;
  opened = λ q can. let all = unreadable_open q own.owed number offset in let same = is q in record { most = λ most. most; left = inr (omega (arith, all, same)) };
}

-- an array is counted where nothing of it is open
array_counted : (own after : Speaker) → after.refusals ≡ own.refusals → (front : ℕ) → front ≡ open_in under_null own.owed
    → ((open_in under_null after.owed ≡ front + 1) × (length after.owed ≡ suc (length own.owed))) ⊎ ((open_in under_null after.owed ≡ front) × (suc (length after.owed) ≡ suc (length own.owed)))
    → Asks under_null own.refusals (counted_array own after).refusals (open_in under_null own.owed) (open_in under_null after.owed) 1
array_counted own after kept front same shut = from (length after.owed == length own.owed) refl shut
  where
    unowed : ℕ
    unowed = after.refusals.unowed

    is_unowed : unowed ≡ own.refusals.unowed
    is_unowed = ap (λ r. r.unowed) kept

    is_refused : after.refusals.refused ≡ own.refusals.refused
    is_refused = ap (λ r. r.refused) kept

    more_left : open_in under_null after.owed ≡ front → (one_more unowed ≡ 2 ^ 64 - 1) ⊎ (one_more unowed ≡ unowed + 1)
        → (one_more unowed ≡ 2 ^ 64 - 1) ⊎ (open_in under_null own.owed + own.refusals.unowed + 1 + after.refusals.refused ≤ open_in under_null after.owed + one_more unowed + own.refusals.refused)
    more_left now (inl most) = inl most
    more_left now (inr more) = inr (let u = is_unowed in let r = is_refused in omega (arith, now, more, same, u, r))

    from : (b : Bool) → (length after.owed == length own.owed) ≡ b
        → ((open_in under_null after.owed ≡ front + 1) × (length after.owed ≡ suc (length own.owed))) ⊎ ((open_in under_null after.owed ≡ front) × (suc (length after.owed) ≡ suc (length own.owed)))
        → Asks under_null own.refusals (if b then record after.refusals { unowed = one_more unowed } else after.refusals) (open_in under_null own.owed) (open_in under_null after.owed) 1
    from true is (inl it) = absurd (let equal = eqb-true (length after.owed) (length own.owed) is in let longer = it.1 in omega (arith, equal, longer))
    from true is (inr it) = record { most = λ most. more_most unowed (is_unowed ∙ most); left = more_left it.0 (one_more_is unowed) }
    from false is (inl it) = record { most = λ most. is_unowed ∙ most; left = inr (let u = is_unowed in let r = is_refused in let o = it.0 in omega (arith, same, o, u, r)) }
    from false is (inr it) = absurd (let equal : length after.owed ≡ length own.owed = (let longer = it.1 in omega (arith, longer)) in let no : true ≡ false = sym (eq-eqb (length after.owed) (length own.owed) equal) ∙ is in cc)

pub ask_content : (protocol : Protocol) (is_unfinished : Bool) (message : Message) (pair : Pair) (reading : Reading) → AreOrderly pair.own.owed → IsFormedReading reading
    → IsAsked pair.own (reading_outcome protocol is_unfinished message pair reading).pair.own reading
ask_content protocol is_unfinished message pair Foreign orderly formed = unreadable_asked pair.own message.number message.offset Foreign (λ q. refl) orderly
ask_content protocol is_unfinished message pair NotText orderly formed = unreadable_asked pair.own message.number message.offset NotText (λ q. refl) orderly
ask_content protocol is_unfinished message pair NotJson orderly formed = unreadable_asked pair.own message.number message.offset NotJson (λ q. refl) orderly
ask_content protocol is_unfinished message pair OverLimits orderly formed = unreadable_asked pair.own message.number message.offset OverLimits (λ q. refl) orderly
ask_content protocol is_unfinished message pair HalfPair orderly formed = unreadable_asked pair.own message.number message.offset HalfPair (λ q. refl) orderly
ask_content protocol is_unfinished message pair (Single entry) orderly formed =
    let owed = pair.own.owed in
    let new = new_due message.number message.offset false entry.has_huge in
    let fresh = owed ++ new ∷ [] in
    let ends = new_ends LastNew owed new orderly (record { batch = refl; readable = refl; empty = refl }) in
    let one = single_by owed (owed_after_cancel protocol entry fresh) entry (owed_on protocol 0 entry) (expected_same protocol 0 entry) (expected_plain entry formed)
    (base_ends protocol entry LastNew (λ settles by due last. new_cancelled settles by due last) fresh ends)
    (λ q. base_front protocol entry q fresh ∙ new_front q owed new) in
    record {
      orderly = one.orderly;
      opened = λ q can. let all = one.opened q can in record { most = λ most. most; left = inr (omega (arith, all)) };
    }
ask_content protocol is_unfinished message pair (Array []) orderly formed =
    let owed = pair.own.owed in
    let new = new_due message.number message.offset false false in
    let fresh = owed ++ new ∷ [] in
    let x = empty_array_owed in
    let ends = new_ends LastNew owed new orderly (record { batch = refl; readable = refl; empty = refl }) in
    let one = ends_more LastNew (LastOne x) x (first_one x) fresh ends in
    record {
      orderly = ends_orderly (LastOne x) (one_orderly x (tt, tt)) (owed_more x fresh) one;
      opened = λ q can.
          let all = open_ends q (LastOne x) (asked_from q false false (Null ∷ [])) (one_open q x) (owed_more x fresh) one in
          let same = new_front q owed new in
          let more = front_more q LastNew x fresh ends in
          record { most = λ most. most; left = inr (omega (arith, all, same, more)) };
    }
ask_content protocol is_unfinished message pair (Array (entry ∷ entries)) orderly formed =
    record { orderly = closed_orderly (LastBatch ids) (batch_orderly ids (all_plain (entry ∷ entries) formed)) last.owed it.ends; opened = opened_by }
  where
    owed : List Due
    owed = pair.own.owed

    new : Due
    new = new_due message.number message.offset true (have_huge (entry ∷ entries))

    own : Speaker
    own = opened message true (have_huge (entry ∷ entries)) pair.own

    ids : List WrittenId
    ids = ids_expected (entry ∷ entries)

    last : Speaker
    last = behind_entries protocol 1 (entry ∷ entries) own

    it : Batched protocol 1 (entry ∷ entries) own []
    it = batch_entries protocol 1 (entry ∷ entries) own [] (new_ends (LastBatch []) owed new orderly (record { batch = refl; readable = refl; are = refl }))

    counted_own : (q : Question) → CanBeAsked q → IsOfIds q → open_in q (closed last.owed) ≡ open_in q owed + asked_from q true false ids
    counted_own q can of =
        let all = closed_open q (LastBatch ids) (asked_from q true false ids) (batch_open q ids) (λ due here. nothing_together q can of due here.batch) last.owed it.ends in
        let same = it.front q ∙ new_front q owed new in
        omega (arith, all, same)

    shut_is : ((open_in under_null (closed last.owed) ≡ front_in under_null last.owed + 1) × (length (closed last.owed) ≡ suc (length owed))) ⊎ ((open_in under_null (closed last.owed) ≡ front_in under_null last.owed) × (suc (length (closed last.owed)) ≡ suc (length owed)))
    shut_is =
        subst (λ n. ((open_in under_null (closed last.owed) ≡ front_in under_null last.owed + 1) × (length (closed last.owed) ≡ n)) ⊎ ((open_in under_null (closed last.owed) ≡ front_in under_null last.owed) × (suc (length (closed last.owed)) ≡ n)))
        (it.size ∙ new_length owed new) (closed_shut under_null (LastBatch ids) (batch_open under_null ids) last.owed it.ends)

    opened_by : (q : Question) → CanBeAsked q
        → Asks q pair.own.refusals (counted_array pair.own (shut last)).refusals (open_in q owed) (open_in q (closed last.owed)) (asked_from q true false ids)
    opened_by (alone id) can = let all = counted_own (alone id) can tt in record { most = λ most. most; left = inr (omega (arith, all)) }
    opened_by (together all_ids) can = let all = counted_own (together all_ids) can tt in record { most = λ most. most; left = inr (omega (arith, all)) }
    opened_by by_array can = let all = counted_own by_array can tt in record { most = λ most. most; left = inr (omega (arith, all)) }
    opened_by under_null can = array_counted pair.own (shut last) it.kept (front_in under_null last.owed) (it.front under_null ∙ new_front under_null owed new) shut_is

-- ---- a single answer

module _ (protocol : Protocol) (sight : Sight) (message : Message) (reply : Reply) (owed : List Due) (id : WrittenId) (named : IsNamed id) where
  abbrev aim : Option Target
  aim = target protocol sight message reply owed id

  named_few : (other : WrittenId) → id ≡ other → (q : Question) → CanBeAsked q → asked_from q false false (other ∷ []) ≤ answered_under q (Some id)
  named_few other equal (alone i) can = let same = ap (λ x. as_number (same_id i x)) equal in omega (arith, same)
  named_few other equal (together ids) can = omega arith
  named_few other equal by_array can = omega arith
  named_few other equal under_null can = let none = ap (λ x. as_number (is_null x)) (sym equal) ∙ ap as_number (named_not_null id named) in omega (arith, none)

  expected_few : (o : Option WrittenId) → has_id id o ≡ true → ArePlain (option_to_list o) → (q : Question) → CanBeAsked q → asked_from q false false (option_to_list o) ≤ answered_under q (Some id)
  expected_few None has plain q can = absurd (let no : false ≡ true = has in cc)
  expected_few (Some other) has plain q can = named_few other (same_plain id other (named_plain id named) plain.0 has) q can

  target_named : aim ≡ named_target id owed
  target_named = ap (λ b. if b then target_of_null sight reply owed else named_target id owed) (named_not_null id named)

  second_true : (a b : Bool) → (a && b) ≡ true → b ≡ true
  second_true true b is = is
  second_true false b is = cc

  abbrev target_by : Option Target → Option Target → Option Target → Option Target
  target_by due request expected = or_else (or_else due (or_else request (or_else expected (oldest false (may_have id) owed)))) (named_in true id owed)

  -- where none must be answered with it
  left_by : (n : ℕ) → fitting (is_request_for id) owed ≡ n → oldest false (is_due_for id) owed ≡ None → AreOrderly owed → 1 ≤ fitting (is_expected id) owed → IsAnswered protocol sight message reply owed id
  left_by zero none no_due orderly some =
      let it = takes (is_expected id) owed orderly some in
      entry_answered protocol sight message reply owed id (is_expected id) it (target_named ∙ (λ i. target_by (no_due i) (none_oldest (is_request_for id) owed none i) (it.is i))) (expected_few it.it.expected it.fits_it it.plain)
  left_by (suc n) many no_due orderly some =
      let it = takes (is_request_for id) owed orderly (omega (arith, many)) in
      entry_answered protocol sight message reply owed id (is_request_for id) it (target_named ∙ (λ i. target_by (no_due i) (it.is i) (oldest false (is_expected id) owed)))
      (expected_few it.it.expected (second_true it.it.is_request (is_expected id it.it) it.fits_it) it.plain)

  named_by : (n : ℕ) → fitting (is_due_for id) owed ≡ n → AreOrderly owed → 1 ≤ fitting (is_expected id) owed → IsAnswered protocol sight message reply owed id
  named_by zero none orderly some = left_by (fitting (is_request_for id) owed) refl (none_oldest (is_due_for id) owed none) orderly some
  named_by (suc n) many orderly some =
      let it = takes (is_due_for id) owed orderly (omega (arith, many)) in
      entry_answered protocol sight message reply owed id (is_due_for id) it (target_named ∙ ap (λ t. target_by t (oldest false (is_request_for id) owed) (oldest false (is_expected id) owed)) it.is)
      (expected_few it.it.expected (second_true it.it.must (is_expected id it.it) it.fits_it) it.plain)

  named_answered : AreOrderly owed → 1 ≤ open_in (alone id) owed → IsAnswered protocol sight message reply owed id
  named_answered orderly some = named_by (fitting (is_due_for id) owed) refl orderly (let same = alone_fits id owed in omega (arith, same, some))

-- an answer of which it is expected that it is owed
module _ (protocol : Protocol) (sight : Sight) (message : Message) (reply : Reply) (owed : List Due) (id : WrittenId) (plain : IsPlain id) (well : reply.is_well ≡ true) (may : is_null id ≡ true → reply.may_refuse ≡ true) (orderly : AreOrderly owed)
    (expects : (q : Question) → CanBeAsked q → 1 ≤ answered_under q (Some id) → Enough q sight.refusals 1 (open_in q owed)) where
  alone_open : (i : WrittenId) → Enough (alone i) sight.refusals 1 (open_in (alone i) owed) → 1 ≤ open_in (alone i) owed
  alone_open i (inl most) = absurd most
  alone_open i (inr enough) = omega (arith, enough)

  pub answered : IsAnswered protocol sight message reply owed id
  answered = from (is_null id) refl
    where
      from : (b : Bool) → is_null id ≡ b → IsAnswered protocol sight message reply owed id
      from true null =
          null_answered protocol sight message reply owed id (only_null id null) well (may null) orderly (expects under_null tt (let one = ap as_number null in omega (arith, one)))
      from false other =
          let named = plain_named id plain other in
          named_answered protocol sight message reply owed id named orderly (alone_open id (expects (alone id) named (let one = ap as_number (same_itself id plain) in omega (arith, one))))

-- ---- an array of answers

record AllAnswers (entries : List Entry) : Type 0 where
  ids : List WrittenId
  plain : ArePlain ids
  answered_ids : ids_answered entries ≡ ids
  replied : reply_ids entries ≡ map (λ id. Some id) ids
  all : list_all (λ entry. is_answer entry.kind) entries ≡ true

answers_are : (entries : List Entry) → AreAnswers entries → AllAnswers entries
answers_are [] are = record { ids = []; plain = tt; answered_ids = refl; replied = refl; all = refl }
answers_are (entry ∷ entries) are =
    let name = are.1 in
    let rest = answers_are entries are.2 in
    record {
      ids = name.0 ∷ rest.ids;
      plain = (name.1, rest.plain);
      answered_ids = (λ i. if are.0 i then option_to_list (name.2 i) ++ rest.answered_ids i else ids_answered entries);
      replied = (λ i. if are.0 i then name.2 i ∷ rest.replied i else reply_ids entries);
      all = (λ i. are.0 i && rest.all i);
    }

-- there is one at least
record SomeAnswers (entries : List Entry) : Type 0 where
  first : WrittenId
  more : List WrittenId
  plain : ArePlain (first ∷ more)
  answered_ids : ids_answered entries ≡ first ∷ more
  replied : reply_ids entries ≡ Some first ∷ map (λ id. Some id) more
  all : list_all (λ entry. is_answer entry.kind) entries ≡ true

answers_some : (entry : Entry) (entries : List Entry) → AreAnswers (entry ∷ entries) → SomeAnswers (entry ∷ entries)
answers_some entry entries are =
    let name = are.1 in
    let rest = answers_are entries are.2 in
    record {
      first = name.0;
      more = rest.ids;
      plain = (name.1, rest.plain);
      answered_ids = (λ i. if are.0 i then option_to_list (name.2 i) ++ rest.answered_ids i else ids_answered entries);
      replied = (λ i. if are.0 i then name.2 i ∷ rest.replied i else reply_ids entries);
      all = (λ i. are.0 i && rest.all i);
    }

read_back : (ids : List WrittenId) → ids_read (map (λ id. Some id) ids) ≡ ids
read_back [] = refl
read_back (id ∷ ids) = ap (λ rest. id ∷ rest) (read_back ids)

module _ (protocol : Protocol) (sight : Sight) (message : Message) (replies : List Reply) (given : List (Option WrittenId)) (owed : List Due) (id : WrittenId) (more : List WrittenId) (plain : ArePlain (id ∷ more))
    (read : ids_read given ≡ id ∷ more) (orderly : AreOrderly owed) (some : 1 ≤ wholes (is_just (id ∷ more)) owed) where
  first_true : (a b : Bool) → (a && b) ≡ true → (a ≡ true) × (b ≡ true)
  first_true true b is = (refl, is)
  first_true false b is = cc

  -- the batch that it takes, by one of two tests
  record Taken : Type 0 where
    test : Due → Bool
    it : TakesWhole test owed
    target : array_target given owed ≡ Some it.content
    just : is_just (id ∷ more) it.it ≡ true

  target_by_places : (due just : Option ℕ) → position (is_just_due (id ∷ more)) owed ≡ due → position (is_just (id ∷ more)) owed ≡ just
      → array_target given owed ≡ option_map_or Some due (option_map_or Some just (position (can_be_answered (id ∷ more) (count_by is_none given)) owed))
  target_by_places due just due_is just_is =
      ap (λ these. batch_target these (count_by is_none given) owed) read
      ∙ (λ i. option_map_or Some (due_is i) (option_map_or Some (just_is i) (position (can_be_answered (id ∷ more) (count_by is_none given)) owed)))

  taken_by_count : (n : ℕ) → wholes (is_just_due (id ∷ more)) owed ≡ n → Taken
  taken_by_count zero none =
      let it = takes_whole (is_just (id ∷ more)) owed orderly some in
      record { test = is_just (id ∷ more); it = it; target = target_by_places None (Some it.content) (none_whole (is_just_due (id ∷ more)) owed none) it.is; just = it.fits_it }
  taken_by_count (suc n) many =
      let it = takes_whole (is_just_due (id ∷ more)) owed orderly (omega (arith, many)) in
      record {
        test = is_just_due (id ∷ more);
        it = it;
        target = target_by_places (Some it.content) (position (is_just (id ∷ more)) owed) it.is refl;
        just = (first_true (list_any (λ owed. owed.must) it.it.entries) (is_just (id ∷ more) it.it) it.fits_it).1;
      }

  taken : Taken
  taken = taken_by_count (wholes (is_just_due (id ∷ more)) owed) refl

  abbrev it : TakesWhole taken.test owed
  it = taken.it

  batch_is : array_target given owed ≡ Some it.content
  batch_is = taken.target

  found_is : found_batch given owed ≡ Some (array_fits given it.it)
  found_is = ap (λ t. option_map (array_fits given) (option_and_then (slice_get owed) t)) batch_is ∙ ap (option_map (array_fits given)) it.there

  array_none_told : NoneOf is_of_answers (answers_findings protocol sight message true replies given owed)
  array_none_told = subst (λ o. NoneOf is_of_answers (answers_findings_of protocol sight message true replies given (batch_rest given owed) o)) (sym found_is) (array_none protocol sight message replies (array_fits given it.it))

  left_is : behind_answers protocol sight message replies given owed ≡ remove owed it.content
  left_is = ap (behind_answers_of protocol sight message replies given (batch_rest given owed)) found_is ∙ ap (λ t. settled_batch t owed) batch_is

  parts : (it.it.is_batch ≡ true) × (same_ids (id ∷ more) (expected_ids it.it) ≡ true)
  parts = first_true it.it.is_batch (same_ids (id ∷ more) (expected_ids it.it)) taken.just

  readable : it.it.is_unreadable ≡ false
  readable = from it.it.is_unreadable refl
    where
      no : (b : Bool) → b ≡ true → b ≡ false → ⊥
      no true is isnt = cc
      no false is isnt = cc

      from : (b : Bool) → it.it.is_unreadable ≡ b → it.it.is_unreadable ≡ false
      from true is = absurd (no it.it.is_batch parts.0 (it.was.empty is).0)
      from false is = is

  array_few : (q : Question) → CanBeAsked q → asked_from q true false (expected_ids it.it) ≤ answered_together q (id ∷ more)
  array_few (alone i) can = omega arith
  array_few (together []) can = absurd can
  array_few (together (x ∷ xs)) can = let same = ap as_number (same_as_other (id ∷ more) (expected_ids it.it) (x ∷ xs) plain it.was.plain can parts.1) in omega (arith, same)
  array_few by_array can = at_most_one (any_id (expected_ids it.it))
    where
      at_most_one : (b : Bool) → as_number b ≤ 1
      at_most_one true = omega arith
      at_most_one false = omega arith
  array_few under_null can = omega arith

  array_orderly : AreOrderly (behind_answers protocol sight message replies given owed)
  array_orderly = subst AreOrderly (sym left_is) it.orderly

  array_enough : (q : Question) → CanBeAsked q → open_in q owed ≤ open_in q (behind_answers protocol sight message replies given owed) + answered_together q (id ∷ more)
  array_enough q can =
      let all = it.left q in
      let on : open_on q it.it ≡ asked_from q true false (expected_ids it.it) = (λ i. asked_from q (parts.0 i) (readable i) (expected_ids it.it)) in
      let few = array_few q can in
      let same = ap (open_in q) left_is in
      omega (arith, all, on, few, same)

-- ---- what is said

-- What is said is still expected; the ids of a batch, where no cancel came by which one may be left.
abbrev pub IsCounted : Question → Bool → Type 0
IsCounted (alone id) has_cancelled = ⊤
IsCounted (together ids) has_cancelled = has_cancelled ≡ false
IsCounted by_array has_cancelled = ⊤
IsCounted under_null has_cancelled = ⊤

abbrev pub Expects : Speaker → Reading → Type 0
Expects asker reading = (q : Question) → CanBeAsked q → IsCounted q asker.has_cancelled → 1 ≤ answered_by q reading → Enough q asker.refusals 1 (open_in q asker.owed)

together_open : (r : Refusals) (ids : List WrittenId) (owed : List Due) → Enough (together ids) r 1 (open_in (together ids) owed) → 1 ≤ open_in (together ids) owed
together_open r ids owed (inl most) = absurd most
together_open r ids owed (inr enough) = omega (arith, enough)

array_open : (r : Refusals) (owed : List Due) → Enough by_array r 1 (open_in by_array owed) → 1 ≤ open_in by_array owed
array_open r owed (inl most) = absurd most
array_open r owed (inr enough) = omega (arith, enough)

-- a single answer counts for no ids of a batch
counted_singly : (q : Question) (id : WrittenId) (has_cancelled : Bool) → 1 ≤ answered_under q (Some id) → IsCounted q has_cancelled
counted_singly (alone other) id has_cancelled some = tt
counted_singly (together ids) id has_cancelled some = absurd (omega (arith, some))
counted_singly by_array id has_cancelled some = tt
counted_singly under_null id has_cancelled some = tt

-- from a batch just the ids of an array are expected, where that isn't guessed
module _ (asker : Speaker) (entry : Entry) (entries : List Entry) (are : AreAnswers (entry ∷ entries)) (expects : Expects asker (Array (entry ∷ entries))) where
  abbrev said : SomeAnswers (entry ∷ entries)
  said = answers_some entry entries are

  abbrev ids_said : List WrittenId
  ids_said = said.first ∷ said.more

  ids_are : ids_read (reply_ids (entry ∷ entries)) ≡ ids_said
  ids_are = ap ids_read said.replied ∙ read_back ids_said

  all_expected : asker.has_cancelled ≡ false → 1 ≤ wholes (is_just ids_said) asker.owed
  all_expected none =
      let one : answered_by (together ids_said) (Array (entry ∷ entries)) ≡ 1 = ap (λ others. as_number (same_ids ids_said others)) said.answered_ids ∙ ap as_number (same_list ids_said said.plain) in
      let some = together_open asker.refusals ids_said asker.owed (expects (together ids_said) said.plain none (omega (arith, one))) in
      let same = together_wholes ids_said asker.owed in
      omega (arith, some, same)

  is_open_one : list_any (λ due. due.is_batch) asker.owed ≡ true
  is_open_one =
      let one : answered_by by_array (Array (entry ∷ entries)) ≡ 1 = ap (λ ids. as_number (any_id ids)) said.answered_ids in
      open_batch asker.owed (array_open asker.refusals asker.owed (expects by_array tt tt (omega (arith, one))))

  guess_is : (b : Bool) → list_any (is_just ids_said) asker.owed ≡ b → asker.has_cancelled ≡ true → guesses asker (reply_ids (entry ∷ entries)) ≡ not b
  guess_is b is cancelled = (λ i. cancelled i && is_guess (ids_are i) asker.owed) ∙ (λ i. is_open_one i && not (is i))

  by_just : (b : Bool) → list_any (is_just ids_said) asker.owed ≡ b → asker.has_cancelled ≡ true → guesses asker (reply_ids (entry ∷ entries)) ≡ false → 1 ≤ wholes (is_just ids_said) asker.owed
  by_just true is cancelled certain = whole_any (is_just ids_said) asker.owed is
  by_just false is cancelled certain = absurd (let no : true ≡ false = sym (guess_is false is cancelled) ∙ certain in cc)

  array_some : guesses asker (reply_ids (entry ∷ entries)) ≡ false → 1 ≤ wholes (is_just ids_said) asker.owed
  array_some certain = from asker.has_cancelled refl
    where
      from : (b : Bool) → asker.has_cancelled ≡ b → 1 ≤ wholes (is_just ids_said) asker.owed
      from true cancelled = by_just (list_any (is_just ids_said) asker.owed) refl cancelled certain
      from false cancelled = all_expected cancelled

and_false : (b : Bool) → (b && false) ≡ false
and_false true = refl
and_false false = refl

-- none of a side's findings accuses it of its answers
abbrev pub Spared : Side → Finding → Type 0
Spared side finding = accuses side is_of_answers finding ≡ false

mild_spared : (side : Side) (f : Finding) → Mild f → Spared side f
mild_spared side f mild = from (same_side side f.side)
  where
    from : (b : Bool) → (b && is_of_answers f.rule && not (is_note f.level)) ≡ false
    from true = mild
    from false = refl

pub spared_of : (side : Side) (fs : List Finding) → Each Mild fs → Each (Spared side) fs
spared_of side [] each = tt
spared_of side (f ∷ fs) each = (mild_spared side f each.0, spared_of side fs each.1)

-- what isn't told at all
pub silent_spared : (side : Side) (f : Finding) → Silent side is_of_answers f → Spared side f
silent_spared side f silent = ap (λ b. b && not (is_note f.level)) silent

pub silent_each : (side : Side) (fs : List Finding) → Each (Silent side is_of_answers) fs → Each (Spared side) fs
silent_each side [] each = tt
silent_each side (f ∷ fs) each = (silent_spared side f each.0, silent_each side fs each.1)

-- an array without answers
no_replies : (protocol : Protocol) (owed : List Due) (at : ℕ) (entries : List Entry) → AreNoAnswers entries → replies_in protocol owed at entries ≡ []
no_replies protocol owed at [] none = refl
no_replies protocol owed at (entry ∷ entries) none =
    ap (λ b. if b then reply_of protocol owed at entry ∷ replies_in protocol owed (suc at) entries else replies_in protocol owed (suc at) entries) none.0 ∙ no_replies protocol owed (suc at) entries none.1

no_ids : (entries : List Entry) → AreNoAnswers entries → reply_ids entries ≡ []
no_ids [] none = refl
no_ids (entry ∷ entries) none = ap (λ b. if b then entry.id ∷ reply_ids entries else reply_ids entries) none.0 ∙ no_ids entries none.1

module _ (side : Side) where
  abbrev P : Finding → Type 0
  P = Spared side

  -- any rule but those of answers
  may : (message : Message) → message.side ≡ side → (rule : Rule) → is_of_answers rule ≡ false → May P message rule
  may message is rule other at level = silent_spared side (found message at rule level) (own_may side is_of_answers message is rule other at level)

  pub hosts : (message : Message) → message.side ≡ side → Hosts P message
  hosts message is = record {
    code = may message is rules.Code refl;
    name = may message is rules.RpcName refl;
    cancel_params = may message is rules.CancelParams refl;
    cancel_unknown = may message is rules.CancelUnknown refl;
    cancel_initialize = may message is rules.CancelInitialize refl;
    not_judged = may message is rules.NotJudged refl;
    line_end = may message is rules.LineEnd refl;
    batch = may message is rules.Batch refl;
    params_object = may message is rules.ParamsObject refl;
    result_object = may message is rules.ResultObject refl;
  }

  module _ (protocol : Protocol) (message : Message) (is : message.side ≡ side) where
    any_faults : (entry : Entry) → Faulty P message entry
    any_faults entry = record {
      object = λ e. may message is rules.Object refl;
      version = λ e. may message is rules.Version refl;
      method = λ e. may message is rules.Method refl;
      params = λ e. may message is rules.Params refl;
      id = λ e. may message is rules.Id refl;
      outcome = λ e. may message is rules.Outcome refl;
      error = λ e. may message is rules.Error refl;
      both = λ e. may message is rules.BothKinds refl;
      twice = λ e. may message is rules.Twice refl;
    }

    any_ids : (at : ℕ) (in_batch : Bool) (own : Speaker) (entry : Entry) → Each P (id_findings protocol message at in_batch own entry)
    any_ids at in_batch own entry =
        ids_each P message (may message is rules.IdAgain refl) (may message is rules.IdFraction refl) (may message is rules.IdNull refl)
        (may message is rules.IdForm refl) protocol at in_batch own entry

    any_entries : (at : ℕ) (entries : List Entry) (own : Speaker) → EntriesMay P message protocol at entries own
    any_entries at [] own = tt
    any_entries at (entry ∷ entries) own = (any_faults entry, any_ids at true own entry, any_entries (suc at) entries (behind_entry protocol at entry own))

    -- what is owed behind it
    pub record Behind (before after : Speaker) (reading : Reading) : Type 0 where
      pub orderly_after : AreOrderly after.owed
      pub leaves : (q : Question) → CanBeAsked q → Leaves q before.refusals after.refusals (open_in q before.owed) (open_in q after.owed) (answered_by q reading)

    nothing_behind : (asker : Speaker) (reading : Reading) → AreOrderly asker.owed → Behind asker asker reading
    nothing_behind asker reading orderly = record { orderly_after = orderly; leaves = λ q can. same_left q asker.refusals (open_in q asker.owed) (open_in q asker.owed) (answered_by q reading) (omega arith) }

    -- an answer
    may_be : (pair : Pair) (entry : Entry) (name : HasPlain entry) → is_well entry.kind ≡ true → is_null name.0 ≡ true → (reply_of protocol pair.other.owed 0 entry).may_refuse ≡ true
    may_be pair entry name well null = (λ i. (well i && option_map_or is_null (name.2 i) false) || may_lack_id protocol entry.there) ∙ ap (λ b. b || may_lack_id protocol entry.there) null

    one_answered : (pair : Pair) (entry : Entry) → AreOrderly pair.other.owed → is_answer entry.kind ≡ true → is_well entry.kind ≡ true → (name : HasPlain entry) → Expects pair.other (Single entry)
        → IsAnswered protocol (sight_of pair) message (reply_of protocol pair.other.owed 0 entry) pair.other.owed name.0
    one_answered pair entry orderly answer well name expects =
        answered protocol (sight_of pair) message (reply_of protocol pair.other.owed 0 entry) pair.other.owed name.0 name.1 well (may_be pair entry name well) orderly
        (λ q can some. expects q can (counted_singly q name.0 pair.other.has_cancelled some) (subst (λ n. 1 ≤ n) (sym (λ i. if answer i then answered_under q (name.2 i) else 0)) some))

    -- it is looked for by the id that it has
    by_name : (entry : Entry) (name : HasPlain entry) → answer_id protocol entry ≡ Some name.0
    by_name entry name = ap (λ o. id_by o (may_lack_id protocol entry.there)) name.2

    said_each : (pair : Pair) (entry : Entry) → AreOrderly pair.other.owed → Says (Single entry) → Expects pair.other (Single entry) → Each P (single_answer_findings protocol (sight_of pair) message entry pair.other)
    said_each pair entry orderly says expects = from (is_answer entry.kind) refl
      where
        from : (b : Bool) → is_answer entry.kind ≡ b → Each P (if b then single_findings protocol (sight_of pair) message (reply_of protocol pair.other.owed 0 entry) (answer_id protocol entry) pair.other.owed else [])
        from true answer =
            let name = (says answer).1 in
            subst (λ o. Each P (single_findings protocol (sight_of pair) message (reply_of protocol pair.other.owed 0 entry) o pair.other.owed)) (sym (by_name entry name))
            (spared_of side (single_findings protocol (sight_of pair) message (reply_of protocol pair.other.owed 0 entry) (Some name.0) pair.other.owed)
            (one_answered pair entry orderly answer (says answer).0 name expects).mild)
        from false answer = tt

    said_behind : (pair : Pair) (entry : Entry) → AreOrderly pair.other.owed → Says (Single entry) → Expects pair.other (Single entry) → Behind pair.other (single_other protocol (sight_of pair) entry pair.other) (Single entry)
    said_behind pair entry orderly says expects = from (is_answer entry.kind) refl
      where
        reply : Reply
        reply = reply_of protocol pair.other.owed 0 entry

        from : (b : Bool) → is_answer entry.kind ≡ b
            → Behind pair.other (record pair.other {
              owed = if b then behind_single (sight_of pair) reply (answer_id protocol entry) pair.other.owed else pair.other.owed;
              refusals = if b then refused_behind_single (sight_of pair) reply (answer_id protocol entry) pair.other.owed else pair.other.refusals;
            }) (Single entry)
        from true answer =
            let name = (says answer).1 in
            let it = one_answered pair entry orderly answer (says answer).0 name expects in
            let same = sym (by_name entry name) in
            record {
              orderly_after = subst (λ o. AreOrderly (behind_single (sight_of pair) reply o pair.other.owed)) same it.orderly;
              leaves = λ q can.
                  let count : answered_by q (Single entry) ≡ answered_under q (Some name.0) = (λ i. if answer i then answered_under q (name.2 i) else 0) in
                  subst (λ n. Leaves q pair.other.refusals (refused_behind_single (sight_of pair) reply (answer_id protocol entry) pair.other.owed) (open_in q pair.other.owed)
                  (open_in q (behind_single (sight_of pair) reply (answer_id protocol entry) pair.other.owed)) n) (sym count)
                  (subst (λ o. Leaves q pair.other.refusals (refused_behind_single (sight_of pair) reply o pair.other.owed) (open_in q pair.other.owed)
                  (open_in q (behind_single (sight_of pair) reply o pair.other.owed)) (answered_under q (Some name.0))) same (it.left q can));
            }
        from false answer = record { orderly_after = orderly; leaves = λ q can. same_left q pair.other.refusals (open_in q pair.other.owed) (open_in q pair.other.owed) (answered_by q (Single entry)) (omega arith) }

    -- ---- where it was guessed what is open, nothing is more than a note

    note : (rule : Rule) (at : ℕ) (level : Level) → level ≡ Note → P (found message at rule level)
    note rule at level level_is = ap (λ l. tells_of side is_of_answers (found message at rule l) && not (is_note l)) level_is ∙ and_false (tells_of side is_of_answers (found message at rule Note))

    either_note : (may_be_read : Bool) (level : Level) → level ≡ Note → (if may_be_read then Note else level) ≡ Note
    either_note true level level_is = refl
    either_note false level level_is = level_is

    guessed_answering : (sight : Sight) → sight.is_broken ≡ true → Answering P message sight
    guessed_answering sight broken = record {
      not_owed = λ at may_be_read. note rules.NotOwed at (not_owed_level sight may_be_read) (either_note may_be_read (or_note sight.is_broken Must) (ap (λ b. or_note b Must) broken));
      refused = λ at. note rules.NotOwed at Note refl;
      not_as_array = λ at. note rules.NotAsArray at (or_note sight.is_broken Should) (ap (λ b. or_note b Should) broken);
      cancelled_code = λ at. may message is rules.CancelledCode refl at (cancelled_code_level sight);
      after_cancel = λ at. may message is rules.AfterCancel refl at Note;
    }

    last_true : (b c : Bool) → (b || (c || true)) ≡ true
    last_true true c = refl
    last_true false true = refl
    last_true false false = refl

    guessed_sight : (pair : Pair) → pair.other.is_guessed ≡ true → (sight_of pair).is_broken ≡ true
    guessed_sight pair guessed = ap (λ g. pair.own.is_over || (pair.other.is_over || g)) guessed ∙ last_true pair.own.is_over pair.other.is_over

    guess_sight : (pair : Pair) (given : List (Option WrittenId)) → guesses pair.other given ≡ true → (array_sight pair given).is_broken ≡ true
    guess_sight pair given guess = ap (λ g. (sight_of pair).is_broken || g) guess ∙ or_true (sight_of pair).is_broken
      where
        or_true : (b : Bool) → (b || true) ≡ true
        or_true true = refl
        or_true false = refl

    -- what is known as long as nothing was guessed
    abbrev pub Known : Pair → Reading → Type 0
    Known pair reading = pair.other.is_guessed ≡ false → AreOrderly pair.other.owed × Expects pair.other reading

    said_by : (pair : Pair) (entry : Entry) → Says (Single entry) → Known pair (Single entry) → Each P (single_answer_findings protocol (sight_of pair) message entry pair.other)
    said_by pair entry says known = from pair.other.is_guessed refl
      where
        told : (b : Bool) → pair.other.is_guessed ≡ true → Each P (if b then single_findings protocol (sight_of pair) message (reply_of protocol pair.other.owed 0 entry) (answer_id protocol entry) pair.other.owed else [])
        told true guessed = single_each P message (sight_of pair) (guessed_answering (sight_of pair) (guessed_sight pair guessed)) protocol (reply_of protocol pair.other.owed 0 entry) (answer_id protocol entry) pair.other.owed
        told false guessed = tt

        from : (b : Bool) → pair.other.is_guessed ≡ b → Each P (single_answer_findings protocol (sight_of pair) message entry pair.other)
        from true guessed = told (is_answer entry.kind) guessed
        from false sure = let it = known sure in said_each pair entry it.0 says it.1

    module _ (pair : Pair) (entry : Entry) (entries : List Entry) where
      abbrev given : List (Option WrittenId)
      given = reply_ids (entry ∷ entries)

      abbrev replies : List Reply
      replies = replies_in protocol pair.other.owed 1 (entry ∷ entries)

      abbrev sight : Sight
      sight = array_sight pair given

      -- with these replies and ids
      abbrev told_with : Bool → List Reply → List (Option WrittenId) → List Finding
      told_with are_alone rs is = answers_findings protocol sight message are_alone rs is pair.other.owed

      guessed_array : sight.is_broken ≡ true → Each P (told_with (are_answers (entry ∷ entries)) replies given)
      guessed_array broken = answers_each P message sight (guessed_answering sight broken) protocol (are_answers (entry ∷ entries)) replies given pair.other.owed

      certain_array : (are : AreAnswers (entry ∷ entries)) → AreOrderly pair.other.owed → Expects pair.other (Array (entry ∷ entries)) → guesses pair.other given ≡ false → Each P (told_with (are_answers (entry ∷ entries)) replies given)
      certain_array are orderly expects certain =
          let all = answers_some entry entries are in
          subst (λ b. Each P (told_with b replies given)) (sym all.all)
          (spared_of side (told_with true replies given)
          (mild_none _ (array_none_told protocol sight message replies given pair.other.owed all.first all.more all.plain (ids_are pair.other entry entries are expects) orderly
          (array_some pair.other entry entries are expects certain))))

      -- an array without an answer, or with answers alone
      array_each : Says (Array (entry ∷ entries)) → Known pair (Array (entry ∷ entries)) → Each P (array_answer_findings protocol message (entry ∷ entries) pair)
      array_each (inl none) known =
          subst (λ rs. Each P (told_with (are_answers (entry ∷ entries)) rs given)) (sym (no_replies protocol pair.other.owed 1 (entry ∷ entries) none))
          (subst (λ is. Each P (told_with (are_answers (entry ∷ entries)) [] is)) (sym (no_ids (entry ∷ entries) none)) tt)
      array_each (inr are) known = from pair.other.is_guessed refl (guesses pair.other given) refl
        where
          from : (b : Bool) → pair.other.is_guessed ≡ b → (c : Bool) → guesses pair.other given ≡ c → Each P (told_with (are_answers (entry ∷ entries)) replies given)
          from true guessed c guess = guessed_array (ap (λ b. b || guesses pair.other given) (guessed_sight pair guessed))
          from false sure true guess = guessed_array (guess_sight pair given guess)
          from false sure false certain = let it = known sure in certain_array are it.0 it.1 certain

      abbrev left_with : List Reply → List (Option WrittenId) → List Due
      left_with rs is = behind_answers protocol sight message rs is pair.other.owed

      array_behind : Says (Array (entry ∷ entries)) → AreOrderly pair.other.owed → Expects pair.other (Array (entry ∷ entries)) → guesses pair.other given ≡ false
          → Behind pair.other (array_other protocol message (entry ∷ entries) pair) (Array (entry ∷ entries))
      array_behind (inl none) orderly expects certain =
          let left : left_with replies given ≡ pair.other.owed =
          ap (λ rs. left_with rs given) (no_replies protocol pair.other.owed 1 (entry ∷ entries) none) ∙ ap (left_with []) (no_ids (entry ∷ entries) none) in
          record {
            orderly_after = subst AreOrderly (sym left) orderly;
            leaves = λ q can. same_left q pair.other.refusals _ _ (answered_by q (Array (entry ∷ entries))) (let same = ap (open_in q) left in omega (arith, same));
          }
      array_behind (inr are) orderly expects certain =
          let all = answers_some entry entries are in
          let read = ids_are pair.other entry entries are expects in
          let some = array_some pair.other entry entries are expects certain in
          record {
            orderly_after = array_orderly protocol sight message replies given pair.other.owed all.first all.more all.plain read orderly some;
            leaves = λ q can. same_left q pair.other.refusals _ _ (answered_by q (Array (entry ∷ entries))) (
                let most = array_enough protocol sight message replies given pair.other.owed all.first all.more all.plain read orderly some q can in
                let count : answered_by q (Array (entry ∷ entries)) ≡ answered_together q (all.first ∷ all.more) = ap (answered_together q) all.answered_ids in
                omega (arith, most, count));
          }

    pub our_may : (is_unfinished : Bool) (pair : Pair) (reading : Reading) → Says reading → Known pair reading → ReadingMay P message protocol is_unfinished pair reading
    our_may is_unfinished pair Foreign says known = absurd says
    our_may is_unfinished pair NotText says known = absurd says
    our_may is_unfinished pair NotJson says known = absurd says
    our_may is_unfinished pair OverLimits says known = tt
    our_may is_unfinished pair HalfPair says known = tt
    our_may is_unfinished pair (Single entry) says known =
        (any_faults entry, any_ids 0 false (opened message false entry.has_huge pair.own) entry, said_by pair entry says known)
    our_may is_unfinished pair (Array []) says known = may message is rules.EmptyArray refl
    our_may is_unfinished pair (Array (entry ∷ entries)) says known =
        (any_entries 1 (entry ∷ entries) (opened message true (have_huge (entry ∷ entries)) pair.own), array_each pair entry entries says known)

    -- what may have been the answer to what is owed by now
    unsure_behind : (asker : Speaker) (reading : Reading) → AreOrderly asker.owed → Behind asker (record asker { unsure_up_to = asker.count }) reading
    unsure_behind asker reading orderly = record { orderly_after = orderly; leaves = λ q can. same_left q asker.refusals (open_in q asker.owed) (open_in q asker.owed) (answered_by q reading) (omega arith) }

    pub our_behind : (is_unfinished : Bool) (pair : Pair) (reading : Reading) → Says reading → AreOrderly pair.other.owed → Expects pair.other reading → guesses_by protocol is_unfinished message pair reading ≡ false
        → Behind pair.other (reading_outcome protocol is_unfinished message pair reading).pair.other reading
    our_behind is_unfinished pair Foreign says orderly expects certain = absurd says
    our_behind is_unfinished pair NotText says orderly expects certain = absurd says
    our_behind is_unfinished pair NotJson says orderly expects certain = absurd says
    our_behind is_unfinished pair OverLimits says orderly expects certain = unsure_behind pair.other OverLimits orderly
    our_behind is_unfinished pair HalfPair says orderly expects certain = absurd says
    our_behind is_unfinished pair (Single entry) says orderly expects certain = said_behind pair entry orderly says expects
    our_behind is_unfinished pair (Array []) says orderly expects certain = nothing_behind pair.other (Array []) orderly
    our_behind is_unfinished pair (Array (entry ∷ entries)) says orderly expects certain = array_behind pair entry entries says orderly expects certain
