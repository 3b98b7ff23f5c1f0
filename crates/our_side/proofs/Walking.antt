-- Each finding of a content is of its side, and of one of the rules that may be told.
use Rattle.std.proofs.Common.{◌≡◌, ℕ, suc, ◌||◌, ◌&&◌, not, Bool, true, false, if◌then◌else◌, List, [], ◌∷◌, ◌++◌, Option, Some, None, refl}
use Rattle.std.specs.Prelude.{⊤, is_some}
use Rattle.std.specs.Option.{option_map_or}
use Rattle.conversation_reading.specs.declared.entry.Entry.{Entry}
use Rattle.conversation_reading.specs.declared.entry.WrittenId.{WrittenId}
use Rattle.conversation_reading.specs.declared.reading.Reading.{Reading}
use Rattle.conversation_reading.specs.declared.reading.Reading.TheVariants.{Foreign, NotText, NotJson, OverLimits, HalfPair, Single, Array}
use Rattle.conversation_rules.specs.Answers.{Each as Taken, cancelled_code_level, fit_findings, stray_of, not_owed_level, refuses, not_owed, each_not_owed, are_told, not_owed_findings, behind_not_owed, single_fit_findings, single_findings_of, rest_of, target_of, single_findings, or_note, taken_findings, array_findings, are_well, among_findings, target_in_array, apart_findings, with_found, with_reply, each_of, strays_findings, new_each, none_fits, each_findings, answers_findings_of, batch_rest, answers_findings}
use Rattle.conversation_rules.specs.Contents.{Outcome, not_json_rule, sight_of, opened, single_answer_findings, single_outcome, empty_outcome, are_answers, batch_findings, entries_findings, have_huge, array_answer_findings, array_outcome, line_end_findings, behind_line_end, reading_outcome}
use Rattle.conversation_rules.specs.Dues as dues
use Rattle.conversation_rules.specs.Dues.{settled, found_batch, unreadable_target}
use Rattle.conversation_rules.specs.Entries.{is_cancel, is_request, is_undefined, is_well, code_of, is_kept_name, is_notification, is_both, fault_findings, both_findings, twice_findings, code_findings, name_findings, has_array_params, object_findings, may_lack_id, cancel_params_level, target_findings, cancel_findings, id_findings, fills_id, full_findings, part_findings, plain_findings, entry_findings, behind_entry, unknown_level}
use Rattle.conversation_rules.specs.Owed.{Due, has_twice}
use Rattle.conversation_rules.specs.Protocols.{batch_level, is_mcp}
use Rattle.conversation_rules.specs.Speakers.{Speaker, Pair, found, found_if}
use Rattle.conversation_rules.specs.Used.{is_used}
use Rattle.conversation_rules.specs.declared.finding.Finding.{Finding}
use Rattle.conversation_rules.specs.declared.finding.Message.{Message}
use Rattle.conversation_rules.specs.declared.finding.Rule.{Rule}
use Rattle.conversation_rules.specs.declared.finding.Rule.TheVariants as rules
use Rattle.conversation_rules.specs.declared.found.Fit.{Fit}
use Rattle.conversation_rules.specs.declared.found.Found.{Found}
use Rattle.conversation_rules.specs.declared.found.Found.TheVariants.{Whole, Entry as EntryFit}
use Rattle.conversation_rules.specs.declared.level.Level.{Level}
use Rattle.conversation_rules.specs.declared.level.Level.TheVariants.{Must, Should, Note}
use Rattle.conversation_rules.specs.declared.protocol.Protocol.{Protocol}
use Rattle.conversation_rules.specs.declared.reply.Reply.{Reply}
use Rattle.conversation_rules.specs.declared.reply.Sight.{Sight}
use Rattle.conversation_rules.specs.declared.reply.Stray.{Stray}

-- all findings are such
abbrev pub Each : (Finding → Type 0) → List Finding → Type 0
Each P [] = ⊤
Each P (f ∷ fs) = P f × Each P fs

pub each-append : (P : Finding → Type 0) (xs ys : List Finding) → Each P xs → Each P ys → Each P (xs ++ ys)
each-append P [] ys first second = second
each-append P (x ∷ xs) ys first second = (first.0, each-append P xs ys first.1 second)

pub each_if : (P : Finding → Type 0) (b : Bool) (f : Finding) → (b ≡ true → P f) → Each P (found_if b f)
each_if P true f is = (is refl, tt)
each_if P false f is = tt

each_unless : (P : Finding → Type 0) (b : Bool) (xs ys : List Finding) → Each P xs → Each P ys → Each P (if b then xs else ys)
each_unless P true xs ys first second = first
each_unless P false xs ys first second = second

-- a rule may be told of this message
abbrev pub May : (Finding → Type 0) → Message → Rule → Type 0
May P message rule = (at : ℕ) (level : Level) → P (found message at rule level)

-- what a host is to keep may be told
pub record Hosts (P : Finding → Type 0) (message : Message) : Type 0 where
  pub code : May P message rules.Code
  pub name : May P message rules.RpcName
  pub cancel_params : May P message rules.CancelParams
  pub cancel_unknown : May P message rules.CancelUnknown
  pub cancel_initialize : May P message rules.CancelInitialize
  pub not_judged : May P message rules.NotJudged
  pub line_end : May P message rules.LineEnd
  pub batch : May P message rules.Batch
  pub params_object : May P message rules.ParamsObject
  pub result_object : May P message rules.ResultObject

-- what is wrong with the members that an entry has may be told
pub record Faulty (P : Finding → Type 0) (message : Message) (entry : Entry) : Type 0 where
  pub object : entry.faults.object ≡ true → May P message rules.Object
  pub version : entry.faults.version ≡ true → May P message rules.Version
  pub method : entry.faults.method ≡ true → May P message rules.Method
  pub params : entry.faults.params ≡ true → May P message rules.Params
  pub id : entry.faults.id ≡ true → May P message rules.Id
  pub outcome : entry.faults.outcome ≡ true → May P message rules.Outcome
  pub error : entry.faults.error ≡ true → May P message rules.Error
  pub both : is_both entry.there ≡ true → May P message rules.BothKinds
  pub twice : has_twice entry ≡ true → May P message rules.Twice

-- what answers break by what is owed, as they are judged with this
pub record Answering (P : Finding → Type 0) (message : Message) (sight : Sight) : Type 0 where
  pub not_owed : (at : ℕ) (may_be_read : Bool) → P (found message at rules.NotOwed (not_owed_level sight may_be_read))
  pub refused : (at : ℕ) → P (found message at rules.NotOwed Note)
  pub not_as_array : (at : ℕ) → P (found message at rules.NotAsArray (or_note sight.is_broken Should))
  pub cancelled_code : (at : ℕ) → P (found message at rules.CancelledCode (cancelled_code_level sight))
  pub after_cancel : (at : ℕ) → P (found message at rules.AfterCancel Note)

-- where each of these rules may be told
pub any_answering : (P : Finding → Type 0) (message : Message) → May P message rules.NotOwed → May P message rules.NotAsArray → May P message rules.CancelledCode → May P message rules.AfterCancel → (sight : Sight) → Answering P message sight
any_answering P message not_owed not_as_array cancelled_code after_cancel sight = record {
  not_owed = λ at may_be_read. not_owed at (not_owed_level sight may_be_read);
  refused = λ at. not_owed at Note;
  not_as_array = λ at. not_as_array at (or_note sight.is_broken Should);
  cancelled_code = λ at. cancelled_code at (cancelled_code_level sight);
  after_cancel = λ at. after_cancel at Note;
}

-- entries one after another
abbrev pub EntriesMay : (Finding → Type 0) → Message → Protocol → ℕ → List Entry → Speaker → Type 0
EntriesMay P message protocol at [] own = ⊤
EntriesMay P message protocol at (entry ∷ entries) own = Faulty P message entry × Each P (id_findings protocol message at true own entry) × EntriesMay P message protocol (suc at) entries (behind_entry protocol at entry own)

-- ---- an entry by itself

left_of : (a b : Bool) → (a && b) ≡ true → a ≡ true
left_of true b is = refl
left_of false b is = is

module _ (P : Finding → Type 0) (message : Message) (host : Hosts P message) where
  faults_each : (protocol : Protocol) (at : ℕ) (entry : Entry) → Faulty P message entry → Each P (fault_findings protocol message at entry.there entry.faults)
  faults_each protocol at entry faulty =
      let f = entry.faults in
      let o = λ (r : Rule). found message at r Must in
      let has = not (may_lack_id protocol entry.there) in
      each-append P _ (found_if f.error (o rules.Error))
      (each-append P _ (found_if f.outcome (o rules.Outcome))
      (each-append P _ (found_if (f.id && has) (o rules.Id))
      (each-append P _ (found_if f.params (o rules.Params))
      (each-append P _ (found_if f.method (o rules.Method))
      (each-append P (found_if f.object (o rules.Object)) (found_if f.version (o rules.Version))
      (each_if P f.object (o rules.Object) (λ is. faulty.object is at Must))
      (each_if P f.version (o rules.Version) (λ is. faulty.version is at Must)))
      (each_if P f.method (o rules.Method) (λ is. faulty.method is at Must)))
      (each_if P f.params (o rules.Params) (λ is. faulty.params is at Must)))
      (each_if P (f.id && has) (o rules.Id) (λ is. faulty.id (left_of f.id has is) at Must)))
      (each_if P f.outcome (o rules.Outcome) (λ is. faulty.outcome is at Must)))
      (each_if P f.error (o rules.Error) (λ is. faulty.error is at Must))

  target_each : (protocol : Protocol) (at : ℕ) (own : Speaker) (level : Level) (target : Option WrittenId) → Each P (target_findings protocol message at own level target)
  target_each protocol at own level None = (host.cancel_params at level, tt)
  target_each protocol at own level (Some id) =
      each-append P (found_if (not (is_used id own.used) && not own.used.is_full) (found message at rules.CancelUnknown (unknown_level protocol own))) _
      (each_if P (not (is_used id own.used) && not own.used.is_full) (found message at rules.CancelUnknown (unknown_level protocol own)) (λ is. host.cancel_unknown at (unknown_level protocol own)))
      (each_if P (is_mcp protocol && is_used id own.initialize) (found message at rules.CancelInitialize Must) (λ is. host.cancel_initialize at Must))

  pub entry_each : (protocol : Protocol) (in_batch : Bool) (at : ℕ) (entry : Entry) (own : Speaker) → Faulty P message entry → Each P (id_findings protocol message at in_batch own entry)
      → Each P (entry_findings protocol message in_batch at entry own)
  entry_each protocol in_batch at entry own faulty ids =
      each-append P (plain_findings protocol message in_batch at entry own) (full_findings message at own entry)
      (each-append P _ (id_findings protocol message at in_batch own entry)
      (each-append P (part_findings protocol message at entry) (cancel_findings protocol message at own entry)
      (each-append P _ (object_findings protocol message at entry)
      (each-append P _ (name_findings message at entry)
      (each-append P _ (code_findings protocol message at entry)
      (each-append P _ (twice_findings message at entry)
      (each-append P (fault_findings protocol message at entry.there entry.faults) (both_findings message at entry) (faults_each protocol at entry faulty)
      (each_if P (is_both entry.there) (found message at rules.BothKinds Must) (λ is. faulty.both is at Must)))
      (each_if P (has_twice entry) (found message at rules.Twice Should) (λ is. faulty.twice is at Should)))
      (each_if P (is_well entry.kind && option_map_or (is_undefined protocol) (code_of entry) false) (found message at rules.Code Must) (λ is. host.code at Must)))
      (each_if P ((is_request entry.kind || is_notification entry.kind) && option_map_or is_kept_name entry.method false) (found message at rules.RpcName Note) (λ is. host.name at Note)))
      (each-append P (found_if (is_mcp protocol && has_array_params protocol entry) (found message at rules.ParamsObject Must)) _
      (each_if P (is_mcp protocol && has_array_params protocol entry) (found message at rules.ParamsObject Must) (λ is. host.params_object at Must))
      (each_if P (is_mcp protocol && (is_well entry.kind && entry.bare_result)) (found message at rules.ResultObject Must) (λ is. host.result_object at Must))))
      (each_unless P (is_cancel protocol entry) (target_findings protocol message at own (cancel_params_level protocol entry) entry.target) [] (target_each protocol at own (cancel_params_level protocol entry) entry.target) tt)) ids)
      (each_if P (fills_id entry own) (found message at rules.NotJudged Note) (λ is. host.not_judged at Note))

  pub entries_each : (protocol : Protocol) (at : ℕ) (entries : List Entry) (own : Speaker) → EntriesMay P message protocol at entries own → Each P (entries_findings protocol message at entries own)
  entries_each protocol at [] own may = tt
  entries_each protocol at (entry ∷ entries) own may =
      each-append P (entry_findings protocol message true at entry own) _ (entry_each protocol true at entry own may.0 may.1) (entries_each protocol (suc at) entries (behind_entry protocol at entry own) may.2)

-- ---- answers

module _ (P : Finding → Type 0) (message : Message) (sight : Sight) (answering : Answering P message sight) where
  fit_each : (protocol : Protocol) (reply : Reply) (fit : Fit) → Each P (fit_findings protocol sight message reply fit)
  fit_each protocol reply fit =
      each_unless P (fit.is_request && reply.is_well) _ [] (each-append P (found_if reply.is_uncalled (found message reply.at rules.CancelledCode (cancelled_code_level sight))) _
      (each_if P reply.is_uncalled (found message reply.at rules.CancelledCode (cancelled_code_level sight)) (λ is. answering.cancelled_code reply.at))
      (each_if P (is_mcp protocol && fit.is_cancelled) (found message reply.at rules.AfterCancel Note) (λ is. answering.after_cancel reply.at))) tt

  one_each : (may_be_read : Bool) (stray : Stray) → Each P (not_owed message (not_owed_level sight may_be_read) stray)
  one_each may_be_read stray = each_if P stray.is_well (found message stray.at rules.NotOwed (not_owed_level sight may_be_read)) (λ is. answering.not_owed stray.at may_be_read)

  all_each : (may_be_read : Bool) (strays : List Stray) → Each P (each_not_owed message (not_owed_level sight may_be_read) strays)
  all_each may_be_read [] = tt
  all_each may_be_read (stray ∷ strays) = each-append P (not_owed message (not_owed_level sight may_be_read) stray) _ (one_each may_be_read stray) (all_each may_be_read strays)

  not_owed_each : (strays : List Stray) (owed : List Due) → Each P (not_owed_findings sight message strays owed)
  not_owed_each strays owed =
      let may_be_read = is_some (unreadable_target owed) in
      each_unless P (are_told strays) (each_not_owed message (not_owed_level sight may_be_read) strays) [] (all_each may_be_read strays) tt

  single_fit_each : (protocol : Protocol) (reply : Reply) (fit : Fit) → Each P (single_fit_findings protocol sight message reply fit)
  single_fit_each protocol reply fit =
      each-append P (found_if (fit.in_batch && reply.is_well) (found message reply.at rules.NotAsArray (or_note sight.is_broken Should))) _
      (each_if P (fit.in_batch && reply.is_well) (found message reply.at rules.NotAsArray (or_note sight.is_broken Should)) (λ is. answering.not_as_array reply.at))
      (fit_each protocol reply fit)

  single_found_each : (protocol : Protocol) (reply : Reply) (rest : List Due) (o : Option Found) → Each P (single_findings_of protocol sight message reply rest o)
  single_found_each protocol reply rest None =
      each_unless P (refuses sight reply rest) (found_if reply.is_well (found message reply.at rules.NotOwed Note)) (not_owed_findings sight message (stray_of reply ∷ []) rest)
      (each_if P reply.is_well (found message reply.at rules.NotOwed Note) (λ is. answering.refused reply.at)) (not_owed_each (stray_of reply ∷ []) rest)
  single_found_each protocol reply rest (Some Whole) = tt
  single_found_each protocol reply rest (Some (EntryFit fit)) = single_fit_each protocol reply fit

  pub single_each : (protocol : Protocol) (reply : Reply) (id : Option WrittenId) (owed : List Due) → Each P (single_findings protocol sight message reply id owed)
  single_each protocol reply id owed = single_found_each protocol reply (rest_of sight reply id owed) (dues.found (target_of sight reply id owed) owed)

  taken_each : (protocol : Protocol) (reply : Reply) (fit : Option Fit) → Each P (taken_findings protocol sight message reply fit)
  taken_each protocol reply None = tt
  taken_each protocol reply (Some fit) = fit_each protocol reply fit

  array_each : (protocol : Protocol) (replies : List Reply) (fits : List (Option Fit)) → Each P (array_findings protocol sight message replies fits)
  array_each protocol [] fits = tt
  array_each protocol (reply ∷ replies) [] = tt
  array_each protocol (reply ∷ replies) (fit ∷ fits) = each-append P (taken_findings protocol sight message reply fit) _ (taken_each protocol reply fit) (array_each protocol replies fits)

  among_each : (are_alone : Bool) (replies : List Reply) → Each P (among_findings sight message are_alone replies)
  among_each are_alone replies =
      each_if P (not are_alone && are_well replies) (found message 0 rules.NotAsArray (or_note sight.is_broken Should)) (λ is. answering.not_as_array 0)

  apart_each : (protocol : Protocol) (reply : Reply) (is_told : Bool) (fit : Fit) → Each P (apart_findings protocol sight message reply is_told fit)
  apart_each protocol reply is_told fit =
      each-append P (found_if (reply.is_well && not is_told) (found message 0 rules.NotAsArray (or_note sight.is_broken Should))) _
      (each_if P (reply.is_well && not is_told) (found message 0 rules.NotAsArray (or_note sight.is_broken Should)) (λ is. answering.not_as_array 0))
      (fit_each protocol reply fit)

  with_found_each : (protocol : Protocol) (reply : Reply) (each : Taken) (rest : List Due) (o : Option Found) → Each P each.findings → Each P (with_found protocol sight message reply each rest o).findings
  with_found_each protocol reply each rest None so_far = so_far
  with_found_each protocol reply each rest (Some Whole) so_far = so_far
  with_found_each protocol reply each rest (Some (EntryFit fit)) so_far = each-append P each.findings _ so_far (apart_each protocol reply each.is_told fit)

  each_of_each : (protocol : Protocol) (replies : List Reply) (ids : List (Option WrittenId)) (each : Taken) → Each P each.findings → Each P (each_of protocol sight message replies ids each).findings
  each_of_each protocol [] ids each so_far = so_far
  each_of_each protocol (reply ∷ replies) [] each so_far = so_far
  each_of_each protocol (reply ∷ replies) (id ∷ ids) each so_far =
      each_of_each protocol replies ids (with_reply protocol sight message reply id each)
      (with_found_each protocol reply each (settled (target_in_array reply id each.owed) each.owed) (dues.found (target_in_array reply id each.owed) each.owed) so_far)

  strays_each : (strays : List Stray) (owed : List Due) → Each P (strays_findings sight message strays owed)
  strays_each [] owed = tt
  strays_each (stray ∷ strays) owed = each-append P (not_owed_findings sight message (stray ∷ []) owed) _ (not_owed_each (stray ∷ []) owed) (strays_each strays (behind_not_owed (stray ∷ []) owed))

  taken_all_each : (replies : List Reply) (each : Taken) → Each P each.findings → Each P (each_findings sight message replies each)
  taken_all_each replies each so_far =
      each-append P each.findings _ so_far (each_unless P (none_fits replies each) (not_owed_findings sight message each.strays each.owed) (strays_findings sight message each.strays each.owed)
      (not_owed_each each.strays each.owed) (strays_each each.strays each.owed))

  answers_of_each : (protocol : Protocol) (are_alone : Bool) (replies : List Reply) (ids : List (Option WrittenId)) (rest : List Due) (o : Option (List (Option Fit)))
      → Each P (answers_findings_of protocol sight message are_alone replies ids rest o)
  answers_of_each protocol are_alone replies ids rest (Some fits) = each-append P (among_findings sight message are_alone replies) _ (among_each are_alone replies) (array_each protocol replies fits)
  answers_of_each protocol are_alone replies ids rest None = taken_all_each replies (each_of protocol sight message replies ids (new_each rest)) (each_of_each protocol replies ids (new_each rest) tt)

  pub answers_each : (protocol : Protocol) (are_alone : Bool) (replies : List Reply) (ids : List (Option WrittenId)) (owed : List Due) → Each P (answers_findings protocol sight message are_alone replies ids owed)
  answers_each protocol are_alone replies ids owed = answers_of_each protocol are_alone replies ids (batch_rest ids owed) (found_batch ids owed)

-- ---- a content

-- what a content is read as breaks what may be told
abbrev pub ReadingMay : (Finding → Type 0) → Message → Protocol → Bool → Pair → Reading → Type 0
ReadingMay P message protocol is_unfinished pair Foreign = May P message rules.Charset
ReadingMay P message protocol is_unfinished pair NotText = May P message (not_json_rule is_unfinished)
ReadingMay P message protocol is_unfinished pair NotJson = May P message (not_json_rule is_unfinished)
ReadingMay P message protocol is_unfinished pair OverLimits = ⊤
ReadingMay P message protocol is_unfinished pair HalfPair = ⊤
ReadingMay P message protocol is_unfinished pair (Single entry) =
    Faulty P message entry × Each P (id_findings protocol message 0 false (opened message false entry.has_huge pair.own) entry)
    × Each P (single_answer_findings protocol (sight_of pair) message entry pair.other)
ReadingMay P message protocol is_unfinished pair (Array []) = May P message rules.EmptyArray
ReadingMay P message protocol is_unfinished pair (Array (entry ∷ entries)) =
    EntriesMay P message protocol 1 (entry ∷ entries) (opened message true (have_huge (entry ∷ entries)) pair.own)
    × Each P (array_answer_findings protocol message (entry ∷ entries) pair)

module _ (P : Finding → Type 0) (message : Message) (host : Hosts P message) where
  batch_each : (protocol : Protocol) (entries : List Entry) → Each P (batch_findings protocol message entries)
  batch_each protocol entries = each_unless P (are_answers entries) [] (option_map_or (λ level. found message 0 rules.Batch level ∷ []) (batch_level protocol) []) tt (by_level (batch_level protocol))
    where
      by_level : (o : Option Level) → Each P (option_map_or (λ level. found message 0 rules.Batch level ∷ []) o [])
      by_level None = tt
      by_level (Some level) = (host.batch 0 level, tt)

  ended_each : (is_unfinished : Bool) (outcome : Outcome) → Each P outcome.findings → Each P (behind_line_end is_unfinished message outcome).findings
  ended_each is_unfinished outcome each =
      each-append P (line_end_findings is_unfinished message) _ (each_if P is_unfinished (found message 0 rules.LineEnd Note) (λ is. host.line_end 0 Note)) each

  pub reading_each : (protocol : Protocol) (is_unfinished : Bool) (pair : Pair) (reading : Reading) → ReadingMay P message protocol is_unfinished pair reading → Each P (reading_outcome protocol is_unfinished message pair reading).findings
  reading_each protocol is_unfinished pair Foreign may = (may 0 Must, tt)
  reading_each protocol is_unfinished pair NotText may = (may 0 Must, tt)
  reading_each protocol is_unfinished pair NotJson may = (may 0 Must, tt)
  reading_each protocol is_unfinished pair OverLimits may = (host.not_judged 0 Note, tt)
  reading_each protocol is_unfinished pair HalfPair may = (host.not_judged 0 Note, tt)
  reading_each protocol is_unfinished pair (Single entry) may =
      ended_each is_unfinished (single_outcome protocol message entry pair)
      (each-append P (entry_findings protocol message false 0 entry (opened message false entry.has_huge pair.own)) _
      (entry_each P message host protocol false 0 entry (opened message false entry.has_huge pair.own) may.0 may.1) may.2)
  reading_each protocol is_unfinished pair (Array []) may = ended_each is_unfinished (empty_outcome message pair) (may 0 Must, tt)
  reading_each protocol is_unfinished pair (Array (entry ∷ entries)) may =
      ended_each is_unfinished (array_outcome protocol message (entry ∷ entries) pair)
      (each-append P _ (array_answer_findings protocol message (entry ∷ entries) pair)
      (each-append P (batch_findings protocol message (entry ∷ entries)) _ (batch_each protocol (entry ∷ entries))
      (entries_each P message host protocol 1 (entry ∷ entries) (opened message true (have_huge (entry ∷ entries)) pair.own) may.0)) may.1)
