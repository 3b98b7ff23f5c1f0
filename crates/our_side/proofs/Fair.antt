-- A side whose contents are messages breaks no rule of messages, nor of ids as they are written.
use Rattle.std.proofs.Common.{◌≡◌, ℕ, suc, ◌<◌, ◌^◌, ◌||◌, ◌&&◌, not, Bool, true, false, if◌then◌else◌, List, [], ◌∷◌, ◌++◌, Option, Some, None, map, refl, sym, ap, subst, ◌∙◌, decimal}
use Rattle.std.specs.Prelude.{⊤}
use Rattle.std.specs.Option.{option_map_or}
use Rattle.lsp_frames.specs.declared.frame.Frame.{Frame}
use Rattle.lsp_frames.specs.declared.frame.FrameFault.{FrameFault}
use Rattle.content_streams.specs.Streams.{Stream, placed_contents, close_of, fault_place}
use Rattle.content_streams.specs.declared.ending.HowEnded.{HowEnded}
use Rattle.content_streams.specs.declared.ending.StreamEnd.{StreamEnd}
use Rattle.content_streams.specs.declared.ending.StreamEnd.TheVariants as ends
use Rattle.content_streams.specs.declared.framing.Framing.{Framing}
use Rattle.conversation_reading.specs.Numbers.{is_whole}
use Rattle.conversation_reading.specs.Strictly.{has_fault, limited_reading}
use Rattle.conversation_reading.specs.declared.entry.Entry.{Entry}
use Rattle.conversation_reading.specs.declared.entry.WrittenId.{WrittenId}
use Rattle.conversation_reading.specs.declared.entry.WrittenId.TheVariants.{Null, Text, Number}
use Rattle.conversation_reading.specs.declared.reading.Reading.{Reading}
use Rattle.conversation_reading.specs.declared.reading.Reading.TheVariants.{Foreign, NotText, NotJson, OverLimits, HalfPair, Single, Array}
use Rattle.conversation_rules.specs.Amounts.{is_plain, is_null}
use Rattle.conversation_rules.specs.Answers.{reply_of}
use Rattle.conversation_rules.specs.Contents.{content_outcome, next_message, counted, sight_of, array_sight, opened, have_huge, not_json_rule, are_answers, replies_in, reply_ids}
use Rattle.conversation_rules.specs.Dues.{is_asked}
use Rattle.conversation_rules.specs.Entries.{is_request, is_answer, answer_id, is_both, form_findings, again_findings, request_findings, id_findings, behind_entry}
use Rattle.conversation_rules.specs.Owed.{has_twice}
use Rattle.conversation_rules.specs.Judging.{Seen, stream_of, state_of, fault_rule, fault_finding, fault_findings_of, fault_findings, unanswered_finding, is_excused, left_unanswered, unanswered_findings, findings_of}
use Rattle.conversation_rules.specs.Protocols.{is_mcp, odd_id_level}
use Rattle.conversation_rules.specs.Speakers.{Speaker, Pair, found, found_if, is_broken}
use Rattle.conversation_rules.specs.Used.{is_used}
use Rattle.conversation_rules.specs.declared.finding.Finding.{Finding}
use Rattle.conversation_rules.specs.declared.finding.Limits.{Limits}
use Rattle.conversation_rules.specs.declared.finding.Message.{Message}
use Rattle.conversation_rules.specs.declared.finding.Rule.{Rule}
use Rattle.conversation_rules.specs.declared.finding.Rule.TheVariants as rules
use Rattle.conversation_rules.specs.declared.found.Unanswered.{Unanswered}
use Rattle.conversation_rules.specs.declared.level.Level.TheVariants.{Must, Note}
use Rattle.conversation_rules.specs.declared.protocol.Protocol.{Protocol}
use Rattle.conversation_rules.specs.declared.reply.Sight.{Sight}
use Rattle.conversation_rules.specs.declared.side.Side.{Side}
use Rattle.conversation_rules.specs.declared.side.Side.TheVariants.{Client, Server}
use Rattle.our_side.specs.Breaking.{same_side, tells_of, BreaksNone}
use Rattle.our_side.specs.Saying.{IsPlainId, IsSaid, AreSaid, IsWell}
use Rattle.our_side.proofs.Plain.{whole, plain}
use Rattle.our_side.proofs.Found.{Keeps, all_each}
use Rattle.our_side.proofs.Streaming.{other, swap, Later, Grow}
use Rattle.our_side.proofs.Walking.{Each, each-append, each_if, May, Hosts, Faulty, Answering, any_answering, EntriesMay, ReadingMay, reading_each, single_each, answers_each}

-- ---- findings of the other side

other_not : (side : Side) → same_side side (other side) ≡ false
other_not Client = refl
other_not Server = refl

abbrev pub Silent : Side → (Rule → Bool) → Finding → Type 0
Silent side those finding = tells_of side those finding ≡ false

-- any rule
their_may : (side : Side) (those : Rule → Bool) (message : Message) → message.side ≡ other side → (rule : Rule) → May (Silent side those) message rule
their_may side those message is rule at level = ap (λ s. same_side side s && those rule) is ∙ ap (λ b. b && those rule) (other_not side)

their_hosts : (P : Finding → Type 0) (message : Message) → ((rule : Rule) → May P message rule) → Hosts P message
their_hosts P message may = record {
  code = may rules.Code;
  name = may rules.RpcName;
  cancel_params = may rules.CancelParams;
  cancel_unknown = may rules.CancelUnknown;
  cancel_initialize = may rules.CancelInitialize;
  not_judged = may rules.NotJudged;
  line_end = may rules.LineEnd;
  batch = may rules.Batch;
  params_object = may rules.ParamsObject;
  result_object = may rules.ResultObject;
}

their_answering : (P : Finding → Type 0) (message : Message) → ((rule : Rule) → May P message rule) → (sight : Sight) → Answering P message sight
their_answering P message may = any_answering P message (may rules.NotOwed) (may rules.NotAsArray) (may rules.CancelledCode) (may rules.AfterCancel)

their_faulty : (P : Finding → Type 0) (message : Message) → ((rule : Rule) → May P message rule) → (entry : Entry) → Faulty P message entry
their_faulty P message may entry = record {
  object = λ is. may rules.Object;
  version = λ is. may rules.Version;
  method = λ is. may rules.Method;
  params = λ is. may rules.Params;
  id = λ is. may rules.Id;
  outcome = λ is. may rules.Outcome;
  error = λ is. may rules.Error;
  both = λ is. may rules.BothKinds;
  twice = λ is. may rules.Twice;
}

-- ---- ids

pub none_each : (P : Finding → Type 0) (b : Bool) (xs : List Finding) → Each P xs → Each P (if b then xs else [])
none_each P true xs each = each
none_each P false xs each = tt

or_each : (P : Finding → Type 0) (b : Bool) (xs ys : List Finding) → Each P xs → Each P ys → Each P (if b then xs else ys)
or_each P true xs ys first second = first
or_each P false xs ys first second = second

module _ (P : Finding → Type 0) (message : Message) (again : May P message rules.IdAgain) where
  pub again_each : (protocol : Protocol) (at : ℕ) (in_batch : Bool) (own : Speaker) (id : WrittenId) → Each P (again_findings protocol message at in_batch own id)
  again_each protocol at in_batch own id =
      or_each P (is_null id) [] _ tt (or_each P (is_mcp protocol) _ _ (each_if P (is_used id own.used) (found message at rules.IdAgain Must) (λ is. again at Must))
      (each_if P (not in_batch && is_asked id own.owed) (found message at rules.IdAgain Note) (λ is. again at Note)))

  module _ (fraction : May P message rules.IdFraction) (null : May P message rules.IdNull) (form : May P message rules.IdForm) where
    form_each : (protocol : Protocol) (at : ℕ) (id : WrittenId) → Each P (form_findings protocol message at id)
    form_each protocol at Null = (null at (odd_id_level protocol), tt)
    form_each protocol at (Text text) = tt
    form_each protocol at (Number number) =
        or_each P (is_whole number) _ _ (each_if P (not (is_plain number)) (found message at rules.IdForm Note) (λ is. form at Note)) (fraction at (odd_id_level protocol), tt)

    by_id : (protocol : Protocol) (at : ℕ) (in_batch : Bool) (own : Speaker) (o : Option WrittenId) → Each P (option_map_or (request_findings protocol message at in_batch own) o [])
    by_id protocol at in_batch own None = tt
    by_id protocol at in_batch own (Some id) = each-append P (form_findings protocol message at id) _ (form_each protocol at id) (again_each protocol at in_batch own id)

    pub ids_each : (protocol : Protocol) (at : ℕ) (in_batch : Bool) (own : Speaker) (entry : Entry) → Each P (id_findings protocol message at in_batch own entry)
    ids_each protocol at in_batch own entry = none_each P (is_request entry.kind) _ (by_id protocol at in_batch own entry.id)

-- ---- a content of the other side

module _ (P : Finding → Type 0) (message : Message) (may : (rule : Rule) → May P message rule) where
  their_entries : (protocol : Protocol) (at : ℕ) (entries : List Entry) (own : Speaker) → EntriesMay P message protocol at entries own
  their_entries protocol at [] own = tt
  their_entries protocol at (entry ∷ entries) own = (
    their_faulty P message may entry,
    ids_each P message (may rules.IdAgain) (may rules.IdFraction) (may rules.IdNull) (may rules.IdForm) protocol at true own entry,
    their_entries protocol (suc at) entries (behind_entry protocol at entry own),
  )

  their_reading : (protocol : Protocol) (is_unfinished : Bool) (pair : Pair) (reading : Reading) → ReadingMay P message protocol is_unfinished pair reading
  their_reading protocol is_unfinished pair Foreign = may rules.Charset
  their_reading protocol is_unfinished pair NotText = may (not_json_rule is_unfinished)
  their_reading protocol is_unfinished pair NotJson = may (not_json_rule is_unfinished)
  their_reading protocol is_unfinished pair OverLimits = tt
  their_reading protocol is_unfinished pair HalfPair = tt
  their_reading protocol is_unfinished pair (Single entry) = (
    their_faulty P message may entry,
    ids_each P message (may rules.IdAgain) (may rules.IdFraction) (may rules.IdNull) (may rules.IdForm) protocol 0 false (opened message false entry.has_huge pair.own) entry,
    none_each P (is_answer entry.kind) _ (single_each P message (sight_of pair) (their_answering P message may (sight_of pair)) protocol (reply_of protocol pair.other.owed 0 entry) (answer_id protocol entry) pair.other.owed),
  )
  their_reading protocol is_unfinished pair (Array []) = may rules.EmptyArray
  their_reading protocol is_unfinished pair (Array (entry ∷ entries)) = (
    their_entries protocol 1 (entry ∷ entries) (opened message true (have_huge (entry ∷ entries)) pair.own),
    answers_each P message (array_sight pair (reply_ids (entry ∷ entries))) (their_answering P message may (array_sight pair (reply_ids (entry ∷ entries)))) protocol (are_answers (entry ∷ entries)) (replies_in protocol pair.other.owed 1 (entry ∷ entries)) (reply_ids (entry ∷ entries)) pair.other.owed,
  )

pub their_content : (side : Side) (those : Rule → Bool) (protocol : Protocol) (is_unfinished : Bool) (placed : ℕ × Frame) (pair : Pair)
    → Each (Silent side those) (content_outcome protocol (other side) is_unfinished placed pair).findings
their_content side those protocol is_unfinished placed pair =
    let message = next_message (other side) placed.0 pair in
    let may = their_may side those message refl in
    reading_each (Silent side those) message (their_hosts (Silent side those) message may) protocol is_unfinished (counted pair) (limited_reading placed.1.foreign placed.1.content)
    (their_reading (Silent side those) message may protocol is_unfinished (counted pair) (limited_reading placed.1.foreign placed.1.content))

-- ---- and what else is told of it

fault_each : (P : Finding → Type 0) (side : Side) (place : Option ℕ) (pair : Pair) (close : Option StreamEnd) → ((p : ℕ) (fault : FrameFault) → close ≡ Some (ends.Fault fault) → P (fault_finding side p pair fault)) → Each P (fault_findings_of side place pair close)
fault_each P side place pair None is = tt
fault_each P side place pair (Some ends.Clean) is = tt
fault_each P side place pair (Some ends.ReadFailed) is = tt
fault_each P side None pair (Some (ends.Fault fault)) is = tt
fault_each P side (Some p) pair (Some (ends.Fault fault)) is = (is p fault refl, tt)

pub faults_each : (P : Finding → Type 0) (side : Side) (s : Stream) (pair : Pair) → ((p : ℕ) (fault : FrameFault) → close_of s ≡ Some (ends.Fault fault) → P (fault_finding side p pair fault)) → Each P (fault_findings side s pair)
faults_each P side s pair is = or_each P pair.own.is_over [] _ tt (fault_each P side (fault_place s) pair (close_of s) is)

left_each : (P : Finding → Type 0) (side : Side) (end : HowEnded) (broken : Bool) (all : List Unanswered) → ((u : Unanswered) → P (unanswered_finding side end broken u)) → Each P (map (unanswered_finding side end broken) all)
left_each P side end broken [] is = tt
left_each P side end broken (u ∷ all) is = (is u, left_each P side end broken all is)

pub unanswered_each : (P : Finding → Type 0) (protocol : Protocol) (side : Side) (end : HowEnded) (pair : Pair) → ((u : Unanswered) → P (unanswered_finding side end (is_broken pair) u)) → Each P (unanswered_findings protocol side end pair)
unanswered_each P protocol side end pair is = or_each P (is_excused protocol side pair) [] _ tt (left_each P side end (is_broken pair) (left_unanswered pair.other) is)

-- ---- our own side

pub own_is : (side : Side) (b : Bool) → b ≡ false → (same_side side side && b) ≡ false
own_is Client b is = is
own_is Server b is = is

-- none of its findings is of these rules
pub own_may : (side : Side) (those : Rule → Bool) (message : Message) → message.side ≡ side → (rule : Rule) → those rule ≡ false → May (Silent side those) message rule
own_may side those message is rule other at level = ap (λ s. same_side side s && those rule) is ∙ own_is side (those rule) other

-- The rules that are a host's may be told.
pub record IsFair (those : Rule → Bool) : Type 0 where
  pub code : those rules.Code ≡ false
  pub name : those rules.RpcName ≡ false
  pub cancel_params : those rules.CancelParams ≡ false
  pub cancel_unknown : those rules.CancelUnknown ≡ false
  pub cancel_initialize : those rules.CancelInitialize ≡ false
  pub not_judged : those rules.NotJudged ≡ false
  pub line_end : those rules.LineEnd ≡ false
  pub batch : those rules.Batch ≡ false
  pub params_object : those rules.ParamsObject ≡ false
  pub result_object : those rules.ResultObject ≡ false
  pub cut_off : those rules.CutOff ≡ false
  pub unanswered : those rules.Unanswered ≡ false
  pub cancelled_code : those rules.CancelledCode ≡ false
  pub after_cancel : those rules.AfterCancel ≡ false

pub own_hosts : (side : Side) (those : Rule → Bool) (message : Message) → message.side ≡ side → IsFair those → Hosts (Silent side those) message
own_hosts side those message is fair = record {
  code = own_may side those message is rules.Code fair.code;
  name = own_may side those message is rules.RpcName fair.name;
  cancel_params = own_may side those message is rules.CancelParams fair.cancel_params;
  cancel_unknown = own_may side those message is rules.CancelUnknown fair.cancel_unknown;
  cancel_initialize = own_may side those message is rules.CancelInitialize fair.cancel_initialize;
  not_judged = own_may side those message is rules.NotJudged fair.not_judged;
  line_end = own_may side those message is rules.LineEnd fair.line_end;
  batch = own_may side those message is rules.Batch fair.batch;
  params_object = own_may side those message is rules.ParamsObject fair.params_object;
  result_object = own_may side those message is rules.ResultObject fair.result_object;
}

-- an entry without a fault tells of none
false_parts : (b c : Bool) → (b || c) ≡ false → (b ≡ false) × (c ≡ false)
false_parts true c is = cc
false_parts false c is = (refl, is)

never : (b : Bool) {A : Type 0} → b ≡ false → b ≡ true → A
never true is isnt = cc
never false is isnt = cc

pub faultless : (P : Finding → Type 0) (message : Message) (entry : Entry) → has_fault entry.faults ≡ false → is_both entry.there ≡ false → has_twice entry ≡ false → Faulty P message entry
faultless P message entry none one once =
    let f = entry.faults in
    let a = false_parts (f.object || f.version || f.method || f.params || f.id || f.outcome) f.error none in
    let b = false_parts (f.object || f.version || f.method || f.params || f.id) f.outcome a.0 in
    let c = false_parts (f.object || f.version || f.method || f.params) f.id b.0 in
    let d = false_parts (f.object || f.version || f.method) f.params c.0 in
    let e = false_parts (f.object || f.version) f.method d.0 in
    let g = false_parts f.object f.version e.0 in
    record {
      object = never f.object g.0;
      version = never f.version g.1;
      method = never f.method e.1;
      params = never f.params d.1;
      id = never f.id c.1;
      outcome = never f.outcome b.1;
      error = never f.error a.1;
      both = never (is_both entry.there) one;
      twice = never (has_twice entry) once;
    }

-- ---- ids of ours

plain_form : (protocol : Protocol) (message : Message) (at key : ℕ) → key < 2 ^ 64 → form_findings protocol message at (Number (decimal key)) ≡ []
plain_form protocol message at key small =
    ap (λ b. if b then found_if (not (is_plain (decimal key))) (found message at rules.IdForm Note) else found message at rules.IdFraction (odd_id_level protocol) ∷ []) (whole key small)
    ∙ ap (λ b. found_if (not b) (found message at rules.IdForm Note)) (plain key small)

module _ (P : Finding → Type 0) (protocol : Protocol) (message : Message) (at : ℕ) (in_batch : Bool) (own : Speaker) (entry : Entry) (said : IsSaid entry) where
  -- where it isn't told that its id is used again
  pub own_ids : ((key : ℕ) → key < 2 ^ 64 → entry.id ≡ Some (Number (decimal key)) → is_request entry.kind ≡ true → Each P (again_findings protocol message at in_batch own (Number (decimal key))))
      → Each P (id_findings protocol message at in_batch own entry)
  own_ids again = from (is_request entry.kind) refl
    where
      named : (id : IsPlainId entry) → is_request entry.kind ≡ true → Each P (option_map_or (request_findings protocol message at in_batch own) entry.id [])
      named id is =
          subst (λ o. Each P (option_map_or (request_findings protocol message at in_batch own) o [])) (sym id.is)
          (subst (λ fs. Each P (fs ++ again_findings protocol message at in_batch own (Number (decimal id.key)))) (sym (plain_form protocol message at id.key id.small)) (again id.key id.small id.is is))

      from : (b : Bool) → is_request entry.kind ≡ b → Each P (if b then option_map_or (request_findings protocol message at in_batch own) entry.id [] else [])
      from true is = named (said.plain is) is
      from false is = tt

-- ---- our contents, where ids that are used again and answers may be told

abbrev pub AllWell : List (ℕ × Frame) → Type 0
AllWell [] = ⊤
AllWell (placed ∷ contents) = IsWell (limited_reading placed.1.foreign placed.1.content) × AllWell contents

module _ (side : Side) (those : Rule → Bool) (fair : IsFair those) (again : those rules.IdAgain ≡ false) (not_owed : those rules.NotOwed ≡ false) (not_as_array : those rules.NotAsArray ≡ false) (protocol : Protocol) where
  abbrev P : Finding → Type 0
  P = Silent side those

  module _ (message : Message) (is : message.side ≡ side) where
    our_answering : (sight : Sight) → Answering P message sight
    our_answering =
        any_answering P message (own_may side those message is rules.NotOwed not_owed) (own_may side those message is rules.NotAsArray not_as_array)
        (own_may side those message is rules.CancelledCode fair.cancelled_code) (own_may side those message is rules.AfterCancel fair.after_cancel)

    our_ids : (at : ℕ) (in_batch : Bool) (own : Speaker) (entry : Entry) → IsSaid entry → Each P (id_findings protocol message at in_batch own entry)
    our_ids at in_batch own entry said =
        own_ids P protocol message at in_batch own entry said (λ key small id kind. again_each P message (own_may side those message is rules.IdAgain again) protocol at in_batch own (Number (decimal key)))

    our_entries : (at : ℕ) (entries : List Entry) (own : Speaker) → AreSaid entries → EntriesMay P message protocol at entries own
    our_entries at [] own said = tt
    our_entries at (entry ∷ entries) own said =
        (faultless P message entry said.0.faultless said.0.one_kind said.0.once, our_ids at true own entry said.0, our_entries (suc at) entries (behind_entry protocol at entry own) said.1)

    our_reading : (is_unfinished : Bool) (pair : Pair) (reading : Reading) → IsWell reading → ReadingMay P message protocol is_unfinished pair reading
    our_reading is_unfinished pair Foreign well = absurd well
    our_reading is_unfinished pair NotText well = absurd well
    our_reading is_unfinished pair NotJson well = absurd well
    our_reading is_unfinished pair OverLimits well = tt
    our_reading is_unfinished pair HalfPair well = tt
    our_reading is_unfinished pair (Single entry) said = (
      faultless P message entry said.faultless said.one_kind said.once,
      our_ids 0 false (opened message false entry.has_huge pair.own) entry said,
      none_each P (is_answer entry.kind) _ (single_each P message (sight_of pair) (our_answering (sight_of pair)) protocol (reply_of protocol pair.other.owed 0 entry) (answer_id protocol entry) pair.other.owed),
    )
    our_reading is_unfinished pair (Array []) well = absurd well
    our_reading is_unfinished pair (Array (entry ∷ entries)) said = (
      our_entries 1 (entry ∷ entries) (opened message true (have_huge (entry ∷ entries)) pair.own) said,
      answers_each P message (array_sight pair (reply_ids (entry ∷ entries))) (our_answering (array_sight pair (reply_ids (entry ∷ entries)))) protocol (are_answers (entry ∷ entries)) (replies_in protocol pair.other.owed 1 (entry ∷ entries)) (reply_ids (entry ∷ entries)) pair.other.owed,
    )

  our_content : (is_unfinished : Bool) (placed : ℕ × Frame) (pair : Pair) → IsWell (limited_reading placed.1.foreign placed.1.content) → Each P (content_outcome protocol side is_unfinished placed pair).findings
  our_content is_unfinished placed pair well =
      let message = next_message side placed.0 pair in
      reading_each P message (own_hosts side those message refl fair) protocol is_unfinished (counted pair) (limited_reading placed.1.foreign placed.1.content)
      (our_reading message refl is_unfinished (counted pair) (limited_reading placed.1.foreign placed.1.content) well)

-- ---- all of it

-- what a fault of a stream breaks may be told
abbrev pub EndsFairly : (Rule → Bool) → Stream → Type 0
EndsFairly those s = (fault : FrameFault) → close_of s ≡ Some (ends.Fault fault) → those (fault_rule fault) ≡ false

module _ (side : Side) (those : Rule → Bool) where
  pub our_fault_each : (final : Stream) → ((s : Stream) → Later s final → EndsFairly those s) → (s : Stream) (pair : Pair) → Later s final → Each (Silent side those) (fault_findings side s pair)
  our_fault_each final ends_well s pair later = faults_each (Silent side those) side s pair (λ place fault is. own_is side (those (fault_rule fault)) (ends_well s later fault is))

  pub their_fault_each : (s : Stream) (pair : Pair) → Each (Silent side those) (fault_findings (other side) s pair)
  their_fault_each s pair = faults_each (Silent side those) (other side) s pair (λ place fault is. ap (λ b. b && those (fault_rule fault)) (other_not side))

  pub we_left_each : those rules.Unanswered ≡ false → (protocol : Protocol) (end : HowEnded) (pair : Pair) → Each (Silent side those) (unanswered_findings protocol side end pair)
  we_left_each left protocol end pair = unanswered_each (Silent side those) protocol side end pair (λ u. own_is side (those rules.Unanswered) left)

  pub they_left_each : (protocol : Protocol) (end : HowEnded) (pair : Pair) → Each (Silent side those) (unanswered_findings protocol (other side) end pair)
  they_left_each protocol end pair = unanswered_each (Silent side those) protocol (other side) end pair (λ u. ap (λ b. b && those rules.Unanswered) (other_not side))

pub fair_keeps : (side : Side) (those : Rule → Bool) → IsFair those → those rules.IdAgain ≡ false → those rules.NotOwed ≡ false → those rules.NotAsArray ≡ false → (protocol : Protocol) (final : Stream)
    → ((s : Stream) → Later s final → EndsFairly those s) → Keeps protocol side (Silent side those) (λ rest pair. AllWell rest) final
fair_keeps side those fair again not_owed not_as_array protocol final ends_well = record {
  ours = λ is_unfinished placed rest pair holds. (our_content side those fair again not_owed not_as_array protocol is_unfinished placed pair holds.0, holds.1);
  theirs = λ is_unfinished placed rest pair holds. (their_content side those protocol is_unfinished placed (swap pair), holds);
  our_end = λ s rest pair holds. holds;
  their_end = λ s rest pair holds. holds;
  we_ended = λ rest pair holds. holds;
  they_ended = λ rest pair holds. holds;
  our_fault = our_fault_each side those final ends_well;
  their_fault = their_fault_each side those;
  we_left = we_left_each side those fair.unanswered protocol;
  they_left = they_left_each side those protocol;
}

pub breaks_none : (side : Side) (those : Rule → Bool) (findings : List Finding) → Each (Silent side those) findings → BreaksNone side those findings
breaks_none side those [] each = tt
breaks_none side those (f ∷ fs) each = (each.0, breaks_none side those fs each.1)

-- a side whose contents are messages, and whose stream ends fairly
pub fair_side : Grow → (protocol : Protocol) (side : Side) (those : Rule → Bool) (framing : Framing) (limits : Limits) (seen : List Seen) → IsFair those → those rules.IdAgain ≡ false → those rules.NotOwed ≡ false → those rules.NotAsArray ≡ false
    → ((s : Stream) → Later s (stream_of side (state_of protocol framing limits seen)) → EndsFairly those s) → AllWell (placed_contents (stream_of side (state_of protocol framing limits seen)))
    → BreaksNone side those (findings_of protocol framing limits seen)
fair_side grow protocol side those framing limits seen fair again not_owed not_as_array ends_well well =
    breaks_none side those (findings_of protocol framing limits seen)
    (all_each grow protocol side (Silent side those) (λ rest pair. AllWell rest) framing limits seen
    (fair_keeps side those fair again not_owed not_as_array protocol (stream_of side (state_of protocol framing limits seen)) ends_well) well)
