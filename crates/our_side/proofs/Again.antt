-- A side whose requests have keys that go up never uses an id again.
use Rattle.std.proofs.Common.{◌≡◌, ◌&&◌, not, ℕ, suc, ◌+◌, ◌<◌, ◌≤◌, ◌^◌, Bool, true, false, if◌then◌else◌, List, [], ◌∷◌, Option, Some, None, refl, sym, ap, subst, ◌∙◌, arith, decimal}
use Rattle.std.specs.Prelude.{⊤}
use Rattle.std.specs.Option.{option_map_or}
use Rattle.lsp_frames.specs.declared.frame.Frame.{Frame}
use Rattle.content_streams.specs.Streams.{Stream, placed_contents}
use Rattle.content_streams.specs.declared.framing.Framing.{Framing}
use Rattle.conversation_reading.specs.Strictly.{limited_reading}
use Rattle.conversation_reading.specs.declared.entry.Entry.{Entry}
use Rattle.conversation_reading.specs.First.{First}
use Rattle.conversation_reading.specs.declared.entry.Kind.{Kind}
use Rattle.conversation_reading.specs.declared.entry.Kind.TheVariants.{Request, Notification, Answer, BrokenAnswer, Invalid}
use Rattle.conversation_reading.specs.declared.entry.WrittenId.{WrittenId}
use Rattle.conversation_reading.specs.declared.entry.WrittenId.TheVariants.{Null, Number}
use Rattle.conversation_reading.specs.declared.reading.Reading.{Reading}
use Rattle.conversation_reading.specs.declared.reading.Reading.TheVariants.{Foreign, NotText, NotJson, OverLimits, HalfPair, Single, Array}
use Rattle.conversation_rules.specs.Answers.{reply_of, behind_single}
use Rattle.conversation_rules.specs.Contents.{content_outcome, reading_outcome, next_message, counted, sight_of, array_sight, opened, shut, have_huge, are_answers, replies_in, reply_ids, behind_entries}
use Rattle.conversation_rules.specs.Dues.{is_asked, owed_more}
use Rattle.conversation_rules.specs.Entries.{is_request, is_answer, answer_id, id_findings, again_findings, is_cancel, cancelled_by, owed_after_last, is_first_cancel, owed_after_first, owed_after_cancel, id_used, behind_entry}
use Rattle.conversation_rules.specs.Judging.{Seen, stream_of, pair_of, new_state, state_of, findings_of}
use Rattle.conversation_rules.specs.Amounts.{is_odd, is_null}
use Rattle.conversation_rules.specs.Owed.{Due, first_id, expected_without_params, request_owed, may_be_left, invalid_owed, owed_as}
use Rattle.conversation_rules.specs.Protocols.{is_mcp, may_leave_null}
use Rattle.conversation_rules.specs.Speakers.{Speaker, Pair, found}
use Rattle.conversation_rules.specs.Used.{Used, is_used, use_id}
use Rattle.conversation_rules.specs.declared.finding.Finding.{Finding}
use Rattle.conversation_rules.specs.declared.finding.Limits.{Limits}
use Rattle.conversation_rules.specs.declared.finding.Message.{Message}
use Rattle.conversation_rules.specs.declared.finding.Rule.{Rule}
use Rattle.conversation_rules.specs.declared.finding.Rule.TheVariants as rules
use Rattle.conversation_rules.specs.declared.level.Level.TheVariants.{Must, Note}
use Rattle.conversation_rules.specs.declared.protocol.Protocol.{Protocol}
use Rattle.conversation_rules.specs.declared.reply.Sight.{Sight}
use Rattle.conversation_rules.specs.declared.side.Side.{Side}
use Rattle.conversation_rules.specs.declared.side.Side.TheVariants.{Client, Server}
use Rattle.our_side.specs.Breaking.{BreaksNone}
use Rattle.our_side.specs.Saying.{IsSaid, AreSaid, IsWell}
use Rattle.our_side.proofs.Below.{all-append, IsKeyBelow, OneBelow, OwedBelow, owed_later, more_below, closed_below, cancelled_below, single_below, answers_below, not_asked, RunsBelow, runs_later, not_used, used_below}
use Rattle.our_side.proofs.Fair.{Silent, IsFair, AllWell, EndsFairly, own_may, own_hosts, faultless, own_ids, their_content, our_fault_each, their_fault_each, we_left_each, they_left_each, none_each, breaks_none}
use Rattle.our_side.proofs.Found.{Keeps, all_each}
use Rattle.our_side.proofs.Streaming.{other, swap, Later, Grow}
use Rattle.our_side.proofs.Walking.{Each, each_if, Answering, any_answering, EntriesMay, ReadingMay, reading_each, single_each, answers_each}

-- ---- keys that go up

pub record IsKeyUp (b e : ℕ) (entry : Entry) : Type 0 where
  pub key : ℕ
  pub above : b ≤ key
  pub below : key < e
  pub small : key < 2 ^ 64
  pub is : entry.id ≡ Some (Number (decimal key))

-- an entry from this number on, and what stands behind it from that
pub record EntryUp (b e : ℕ) (entry : Entry) : Type 0 where
  pub rises : b ≤ e
  pub key : is_request entry.kind ≡ true → IsKeyUp b e entry

abbrev pub EntriesUp : ℕ → ℕ → List Entry → Type 0
EntriesUp b e [] = b ≤ e
EntriesUp b e (entry ∷ entries) = (m : ℕ) × EntryUp b m entry × EntriesUp m e entries

abbrev pub ReadingUp : ℕ → ℕ → Reading → Type 0
ReadingUp b e Foreign = ⊤
ReadingUp b e NotText = ⊤
ReadingUp b e NotJson = ⊤
ReadingUp b e OverLimits = b ≤ e
ReadingUp b e HalfPair = ⊤
ReadingUp b e (Single entry) = EntryUp b e entry
ReadingUp b e (Array entries) = EntriesUp b e entries

abbrev pub ContentsUp : ℕ → List (ℕ × Frame) → Type 0
ContentsUp b [] = ⊤
ContentsUp b (placed ∷ contents) = (e : ℕ) × ReadingUp b e (limited_reading placed.1.foreign placed.1.content) × ContentsUp e contents

-- ---- what is kept of the side

pub record IsBelow (b : ℕ) (own : Speaker) : Type 0 where
  pub runs : RunsBelow (2 ^ 64 + b) own.used.runs
  pub owed : OwedBelow b own.owed

below_later : (b e : ℕ) → b ≤ e → (own : Speaker) → IsBelow b own → IsBelow e own
below_later b e le own is = record { runs = runs_later (2 ^ 64 + b) (2 ^ 64 + e) (omega (arith, le)) own.used.runs is.runs; owed = owed_later b e le own.owed is.owed }

opened_below : (b : ℕ) (message : Message) (is_batch has_huge : Bool) (own : Speaker) → IsBelow b own → IsBelow b (opened message is_batch has_huge own)
opened_below b message is_batch has_huge own is = record { runs = is.runs; owed = all-append _ own.owed _ is.owed (tt, tt) }

shut_below : (b : ℕ) (own : Speaker) → IsBelow b own → IsBelow b (shut own)
shut_below b own is = record { runs = is.runs; owed = closed_below b own.owed is.owed }

-- ---- an entry

no_answer : (kind : Kind) → is_request kind ≡ true → is_answer kind ≡ false
no_answer Request is = refl
no_answer Notification is = cc
no_answer Answer is = cc
no_answer BrokenAnswer is = cc
no_answer Invalid is = cc

module _ (protocol : Protocol) (at b e : ℕ) (entry : Entry) (said : IsSaid entry) (up : EntryUp b e entry) where
  used_after : (used : Used) → RunsBelow (2 ^ 64 + e) used.runs → RunsBelow (2 ^ 64 + e) (option_map_or (λ id. use_id id used) (id_used entry) used).runs
  used_after used runs = from (is_request entry.kind) refl
    where
      by_id : (o : Option WrittenId) → id_used entry ≡ o → RunsBelow (2 ^ 64 + e) (option_map_or (λ id. use_id id used) o used).runs → RunsBelow (2 ^ 64 + e) (option_map_or (λ id. use_id id used) (id_used entry) used).runs
      by_id o is below = subst (λ o. RunsBelow (2 ^ 64 + e) (option_map_or (λ id. use_id id used) o used).runs) (sym is) below

      other_kind : (answer : Bool) → is_answer entry.kind ≡ answer → is_request entry.kind ≡ false → id_used entry ≡ None
      other_kind true is isnt = ap (λ c. if c then None else entry.id) is
      other_kind false is isnt = ap (λ c. if c then None else entry.id) is ∙ said.unnamed isnt is

      from : (r : Bool) → is_request entry.kind ≡ r → RunsBelow (2 ^ 64 + e) (option_map_or (λ id. use_id id used) (id_used entry) used).runs
      from true is =
          let k = up.key is in
          by_id (Some (Number (decimal k.key))) (ap (λ c. if c then None else entry.id) (no_answer entry.kind is) ∙ k.is) (used_below e k.key k.below k.small used runs)
      from false is = by_id None (other_kind (is_answer entry.kind) refl is) runs

  cancel_below : (target : Option WrittenId) (owed : List Due) → OwedBelow e owed → OwedBelow e (cancelled_by protocol target owed)
  cancel_below None owed is = is
  cancel_below (Some id) owed is = cancelled_below e (is_mcp protocol) id owed is

  by_last : (owed : List Due) → OwedBelow e owed → OwedBelow e (owed_after_last protocol entry owed)
  by_last owed is = from (is_cancel protocol entry)
    where
      from : (c : Bool) → OwedBelow e (if c then cancelled_by protocol entry.target owed else owed)
      from true = cancel_below entry.target owed is
      from false = is

  by_first : (first : Option First) (owed : List Due) → OwedBelow e owed → OwedBelow e (owed_after_first protocol first owed)
  by_first None owed is = is
  by_first (Some first) owed is = from (is_first_cancel protocol first)
    where
      from : (c : Bool) → OwedBelow e (if c then cancelled_by protocol first.target owed else owed)
      from true = cancel_below first.target owed is
      from false = is

  notified_below : (owed : List Due) → OwedBelow e owed → OwedBelow e (owed_after_cancel protocol entry owed)
  notified_below owed is = by_first entry.first (owed_after_last protocol entry owed) (by_last owed is)

  -- one with a number that isn't plain isn't owed as a request
  request_below : (id : Option WrittenId) → IsKeyBelow e id → OneBelow e (request_owed protocol at id)
  request_below id is = from (option_map_or is_odd id false)
    where
      from : (c : Bool) → OneBelow e (if c then record { place = at; must = false; expected = Some Null; own = id; first = None; may_be_null = true; is_request = false; is_cancelled = false }
          else record { place = at; must = not (may_leave_null protocol && option_map_or is_null id false); expected = id; own = id; first = None; may_be_null = false; is_request = true; is_cancelled = false })
      from true = λ request. absurd (let no : false ≡ true = request in cc)
      from false = λ request. is

  owed_below : (kind : Kind) → entry.kind ≡ kind → (all : List Due) → OwedBelow e all → OwedBelow e (option_map_or (λ owed. owed_more owed all) (owed_as protocol at entry kind) all)
  owed_below Request is all below =
      let k = up.key (ap is_request is) in
      let way = λ (t : Bool). if t then may_be_left at (expected_without_params entry.id) entry.id (first_id entry) else request_owed protocol at entry.id in
      subst (λ t. OwedBelow e (owed_more (way t) all)) (sym said.once)
      (more_below e (request_owed protocol at entry.id) all (request_below entry.id (record { key = k.key; below = k.below; small = k.small; is = k.is })) below)
  owed_below Notification is all below = subst (λ t. OwedBelow e (option_map_or (λ owed. owed_more owed all) (if t then Some (may_be_left at None None None) else None) all)) (sym said.once) below
  owed_below Answer is all below = below
  owed_below BrokenAnswer is all below = more_below e (may_be_left at None entry.id (first_id entry)) all (λ request. absurd (let no : false ≡ true = request in cc)) below
  owed_below Invalid is all below = more_below e (invalid_owed at entry) all (λ request. absurd (let no : false ≡ true = request in cc)) below

  pub entry_below : (own : Speaker) → IsBelow b own → IsBelow e (behind_entry protocol at entry own)
  entry_below own is =
      let later = below_later b e up.rises own is in
      record { runs = used_after own.used later.runs; owed = owed_below entry.kind refl (owed_after_cancel protocol entry own.owed) (notified_below own.owed later.owed) }

pub entries_below : (protocol : Protocol) (at b e : ℕ) (entries : List Entry) (own : Speaker) → AreSaid entries → EntriesUp b e entries → IsBelow b own → IsBelow e (behind_entries protocol at entries own)
entries_below protocol at b e [] own said up is = below_later b e up own is
entries_below protocol at b e (entry ∷ entries) own said up is =
    entries_below protocol (suc at) up.0 e entries (behind_entry protocol at entry own) said.1 up.2 (entry_below protocol at b up.0 entry said.0 up.1 own is)

-- ---- no id is told as used again

never : (b : Bool) {A : Type 0} → b ≡ false → b ≡ true → A
never true is isnt = cc
never false is isnt = cc

second : (b c : Bool) → (b && c) ≡ true → c ≡ true
second true c is = is
second false c is = cc

or_each : (P : Finding → Type 0) (b : Bool) (xs ys : List Finding) → Each P xs → Each P ys → Each P (if b then xs else ys)
or_each P true xs ys first other = first
or_each P false xs ys first other = other

module _ (P : Finding → Type 0) (protocol : Protocol) (message : Message) (at : ℕ) (in_batch : Bool) (own : Speaker) where
  never_again : (b key : ℕ) → b ≤ key → key < 2 ^ 64 → IsBelow b own → Each P (again_findings protocol message at in_batch own (Number (decimal key)))
  never_again b key above small is =
      or_each P (is_mcp protocol) _ _
      (each_if P (is_used (Number (decimal key)) own.used) (found message at rules.IdAgain Must) (never (is_used (Number (decimal key)) own.used) (not_used b key above small own.used is.runs)))
      (each_if P (not in_batch && is_asked (Number (decimal key)) own.owed) (found message at rules.IdAgain Note)
      (λ asked. never (is_asked (Number (decimal key)) own.owed) (not_asked b key above small own.owed is.owed) (second (not in_batch) (is_asked (Number (decimal key)) own.owed) asked)))

  pub ids_below : (b e : ℕ) (entry : Entry) → IsSaid entry → EntryUp b e entry → IsBelow b own → Each P (id_findings protocol message at in_batch own entry)
  ids_below b e entry said up is =
      own_ids P protocol message at in_batch own entry said (λ key small id kind.
      let k = up.key kind in
      let same : Number (decimal k.key) ≡ Number (decimal key) = same_id_of (decimal k.key) (decimal key) (sym k.is ∙ id) in
      subst (λ it. Each P (again_findings protocol message at in_batch own it)) same (never_again b k.key k.above k.small is))
    where
      same_id_of : (xs ys : List ℕ) → Some (Number xs) ≡ Some (Number ys) → Number xs ≡ Number ys
      same_id_of xs ys is = cc

-- ---- a content of ours

module _ (side : Side) (those : Rule → Bool) (fair : IsFair those) (not_owed : those rules.NotOwed ≡ false) (not_as_array : those rules.NotAsArray ≡ false) (protocol : Protocol) where
  abbrev P : Finding → Type 0
  P = Silent side those

  module _ (message : Message) (is : message.side ≡ side) where
    our_answering : (sight : Sight) → Answering P message sight
    our_answering =
        any_answering P message (own_may side those message is rules.NotOwed not_owed) (own_may side those message is rules.NotAsArray not_as_array)
        (own_may side those message is rules.CancelledCode fair.cancelled_code) (own_may side those message is rules.AfterCancel fair.after_cancel)

    our_entries : (at b e : ℕ) (entries : List Entry) (own : Speaker) → AreSaid entries → EntriesUp b e entries → IsBelow b own → EntriesMay P message protocol at entries own
    our_entries at b e [] own said up below = tt
    our_entries at b e (entry ∷ entries) own said up below = (
      faultless P message entry said.0.faultless said.0.one_kind said.0.once,
      ids_below P protocol message at true own b up.0 entry said.0 up.1 below,
      our_entries (suc at) up.0 e entries (behind_entry protocol at entry own) said.1 up.2 (entry_below protocol at b up.0 entry said.0 up.1 own below),
    )

    our_reading : (is_unfinished : Bool) (b e : ℕ) (pair : Pair) (reading : Reading) → IsWell reading → ReadingUp b e reading → IsBelow b pair.own → ReadingMay P message protocol is_unfinished pair reading
    our_reading is_unfinished b e pair Foreign well up below = absurd well
    our_reading is_unfinished b e pair NotText well up below = absurd well
    our_reading is_unfinished b e pair NotJson well up below = absurd well
    our_reading is_unfinished b e pair OverLimits well up below = tt
    our_reading is_unfinished b e pair HalfPair well up below = tt
    our_reading is_unfinished b e pair (Single entry) said up below = (
      faultless P message entry said.faultless said.one_kind said.once,
      ids_below P protocol message 0 false (opened message false entry.has_huge pair.own) b e entry said up (opened_below b message false entry.has_huge pair.own below),
      none_each P (is_answer entry.kind) _ (single_each P message (sight_of pair) (our_answering (sight_of pair)) protocol (reply_of protocol pair.other.owed 0 entry) (answer_id protocol entry) pair.other.owed),
    )
    our_reading is_unfinished b e pair (Array []) well up below = absurd well
    our_reading is_unfinished b e pair (Array (entry ∷ entries)) said up below = (
      our_entries 1 b e (entry ∷ entries) (opened message true (have_huge (entry ∷ entries)) pair.own) said up (opened_below b message true (have_huge (entry ∷ entries)) pair.own below),
      answers_each P message (array_sight pair (reply_ids (entry ∷ entries))) (our_answering (array_sight pair (reply_ids (entry ∷ entries)))) protocol (are_answers (entry ∷ entries)) (replies_in protocol pair.other.owed 1 (entry ∷ entries)) (reply_ids (entry ∷ entries)) pair.other.owed,
    )

    our_below : (is_unfinished : Bool) (b e : ℕ) (pair : Pair) (reading : Reading) → IsWell reading → ReadingUp b e reading → IsBelow b pair.own → IsBelow e (reading_outcome protocol is_unfinished message pair reading).pair.own
    our_below is_unfinished b e pair Foreign well up below = absurd well
    our_below is_unfinished b e pair NotText well up below = absurd well
    our_below is_unfinished b e pair NotJson well up below = absurd well
    our_below is_unfinished b e pair OverLimits well up below =
        let later = below_later b e up pair.own below in
        record { runs = later.runs; owed = all-append _ pair.own.owed _ later.owed (tt, tt) }
    our_below is_unfinished b e pair HalfPair well up below = absurd well
    our_below is_unfinished b e pair (Single entry) said up below =
        let own = opened message false entry.has_huge pair.own in
        shut_below e (behind_entry protocol 0 entry own) (entry_below protocol 0 b e entry said up own (opened_below b message false entry.has_huge pair.own below))
    our_below is_unfinished b e pair (Array []) well up below = absurd well
    our_below is_unfinished b e pair (Array (entry ∷ entries)) said up below =
        let own = opened message true (have_huge (entry ∷ entries)) pair.own in
        let shut = shut_below e (behind_entries protocol 1 (entry ∷ entries) own) (entries_below protocol 1 b e (entry ∷ entries) own said up (opened_below b message true (have_huge (entry ∷ entries)) pair.own below)) in
        record { runs = shut.runs; owed = shut.owed }

  -- ---- a content of the other side

  their_below : (is_unfinished : Bool) (b : ℕ) (message : Message) (pair : Pair) (reading : Reading) → IsBelow b pair.other → IsBelow b (reading_outcome protocol is_unfinished message pair reading).pair.other
  their_below is_unfinished b message pair Foreign is = record { runs = is.runs; owed = is.owed }
  their_below is_unfinished b message pair NotText is = record { runs = is.runs; owed = is.owed }
  their_below is_unfinished b message pair NotJson is = record { runs = is.runs; owed = is.owed }
  their_below is_unfinished b message pair OverLimits is = record { runs = is.runs; owed = is.owed }
  their_below is_unfinished b message pair HalfPair is = record { runs = is.runs; owed = is.owed }
  their_below is_unfinished b message pair (Single entry) is = record { runs = is.runs; owed = from (is_answer entry.kind) }
    where
      from : (c : Bool) → OwedBelow b (if c then behind_single (sight_of pair) (reply_of protocol pair.other.owed 0 entry) (answer_id protocol entry) pair.other.owed else pair.other.owed)
      from true = single_below b (sight_of pair) (reply_of protocol pair.other.owed 0 entry) (answer_id protocol entry) pair.other.owed is.owed
      from false = is.owed
  their_below is_unfinished b message pair (Array []) is = is
  their_below is_unfinished b message pair (Array (entry ∷ entries)) is = record {
    runs = is.runs;
    owed = answers_below b protocol (array_sight pair (reply_ids (entry ∷ entries))) message (replies_in protocol pair.other.owed 1 (entry ∷ entries)) (reply_ids (entry ∷ entries)) pair.other.owed is.owed;
  }

  -- ---- all of it

  pub record Holds (rest : List (ℕ × Frame)) (pair : Pair) : Type 0 where
    pub well : AllWell rest
    pub from : ℕ
    pub up : ContentsUp from rest
    pub below : IsBelow from pair.own

  counted_below : (b : ℕ) (pair : Pair) → IsBelow b pair.own → IsBelow b (counted pair).own
  counted_below b pair is = record { runs = is.runs; owed = is.owed }

  our_content : (is_unfinished : Bool) (placed : ℕ × Frame) (rest : List (ℕ × Frame)) (pair : Pair) → Holds (placed ∷ rest) pair
      → Each P (content_outcome protocol side is_unfinished placed pair).findings × Holds rest (content_outcome protocol side is_unfinished placed pair).pair
  our_content is_unfinished placed rest pair holds =
      let message = next_message side placed.0 pair in
      let reading = limited_reading placed.1.foreign placed.1.content in
      let below = counted_below holds.from pair holds.below in (
        reading_each P message (own_hosts side those message refl fair) protocol is_unfinished (counted pair) reading
            (our_reading message refl is_unfinished holds.from holds.up.0 (counted pair) reading holds.well.0 holds.up.1 below),
        record {
          well = holds.well.1;
          from = holds.up.0;
          up = holds.up.2;
          below = our_below message refl is_unfinished holds.from holds.up.0 (counted pair) reading holds.well.0 holds.up.1 below;
        },
      )

  their_content_holds : (is_unfinished : Bool) (placed : ℕ × Frame) (rest : List (ℕ × Frame)) (pair : Pair) → Holds rest pair → Holds rest (swap (content_outcome protocol (other side) is_unfinished placed (swap pair)).pair)
  their_content_holds is_unfinished placed rest pair holds = record {
    well = holds.well;
    from = holds.from;
    up = holds.up;
    below = their_below is_unfinished holds.from (next_message (other side) placed.0 (swap pair)) (counted (swap pair)) (limited_reading placed.1.foreign placed.1.content) holds.below;
  }

  again_keeps : (final : Stream) → ((s : Stream) → Later s final → EndsFairly those s) → Keeps protocol side P Holds final
  again_keeps final ends_well =
      record {
        ours = our_content;
        theirs = λ is_unfinished placed rest pair holds. (their_content side those protocol is_unfinished placed (swap pair), their_content_holds is_unfinished placed rest pair holds);
        our_end = λ s rest pair holds. record { well = holds.well; from = holds.from; up = holds.up; below = record { runs = holds.below.runs; owed = holds.below.owed } };
        their_end = λ s rest pair holds. record { well = holds.well; from = holds.from; up = holds.up; below = holds.below };
        we_ended = λ rest pair holds. record { well = holds.well; from = holds.from; up = holds.up; below = record { runs = holds.below.runs; owed = holds.below.owed } };
        they_ended = λ rest pair holds. record { well = holds.well; from = holds.from; up = holds.up; below = record { runs = holds.below.runs; owed = tt } };
        our_fault = our_fault_each side those final ends_well;
        their_fault = their_fault_each side those;
        we_left = we_left_each side those fair.unanswered protocol;
        they_left = they_left_each side those protocol;
      }

start_below : (side : Side) (framing : Framing) (limits : Limits) → IsBelow 1 (pair_of side (new_state framing limits)).own
start_below Client framing limits = record { runs = tt; owed = tt }
start_below Server framing limits = record { runs = tt; owed = tt }

-- a side whose contents are messages with keys that go up, and whose stream ends fairly
pub again_side : Grow → (protocol : Protocol) (side : Side) (those : Rule → Bool) (framing : Framing) (limits : Limits) (seen : List Seen) → IsFair those → those rules.NotOwed ≡ false → those rules.NotAsArray ≡ false
    → ((s : Stream) → Later s (stream_of side (state_of protocol framing limits seen)) → EndsFairly those s) → AllWell (placed_contents (stream_of side (state_of protocol framing limits seen)))
    → ContentsUp 1 (placed_contents (stream_of side (state_of protocol framing limits seen))) → BreaksNone side those (findings_of protocol framing limits seen)
again_side grow protocol side those framing limits seen fair not_owed not_as_array ends_well well up =
    breaks_none side those (findings_of protocol framing limits seen)
    (all_each grow protocol side (Silent side those) (Holds side those fair not_owed not_as_array protocol) framing limits seen
    (again_keeps side those fair not_owed not_as_array protocol (stream_of side (state_of protocol framing limits seen)) ends_well)
    (record { well = well; from = 1; up = up; below = start_below side framing limits }))
