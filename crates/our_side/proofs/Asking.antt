-- What came asks a connection nothing more often than it asks by the judge.
use Rattle.std.proofs.Common.{◌≡◌, ◌≢◌, ◌⊎◌, inl, inr, ◌||◌, nat_lt, ℕ, zero, suc, ◌+◌, ◌≤◌, Bool, true, false, if◌then◌else◌, List, [], ◌∷◌, ◌++◌, map, take, length, Option, Some, None, refl, sym, ap, subst, ◌∙◌, arith}
use Rattle.std.specs.Prelude.{⊤}
use Rattle.std.specs.Option.{option_to_list}
use Rattle.std.specs.Str.{is_utf8}
use Rattle.json.specs.Json as json
use Rattle.json.specs.Json.{Json, array, object, no_items, item}
use Rattle.json.specs.Tree.{HasNumbers, ItemsHaveNumbers}
use Rattle.json_texts.specs.Texts.{value_of, text_value}
use Rattle.lsp_frames.specs.declared.frame.Frame.{Frame}
use Rattle.connection.specs.Connections.{read}
use Rattle.connection.specs.Settings.{Chosen, rules_of}
use Rattle.connection_messages.specs.Reading as lenient
use Rattle.connection_messages.specs.Reading.{are_too_many, batch_within, unit_of_reading, unit_of}
use Rattle.connection_history.specs.Stream.{entries_in, entries_along}
use Rattle.connection_messages.specs.declared.answer.Answer.{Answer as Given}
use Rattle.connection_messages.specs.declared.cancels.Cancels.{Cancels}
use Rattle.connection_messages.specs.declared.cancels.Cancels.TheVariants.{Lsp, Mcp}
use Rattle.connection_messages.specs.declared.entry.Entry.{Entry as Read}
use Rattle.connection_messages.specs.declared.entry.Entry.TheVariants.{Call, Cancel, Reply, Stray, Invalid as Nothing}
use Rattle.connection_messages.specs.declared.rules.Rules.{Rules}
use Rattle.connection_messages.specs.declared.unit.Unit.{Unit}
use Rattle.connection_messages.specs.declared.unit.Unit.TheVariants as units
use Rattle.conversation_reading.specs.Fronts.{is_json, front_of}
use Rattle.conversation_reading.specs.Strictly as strict
use Rattle.conversation_reading.specs.Strictly.{unreadable_with, json_reading, value_reading, reading_of, limited, limited_reading}
use Rattle.conversation_reading.specs.declared.entry.WrittenId.{WrittenId}
use Rattle.conversation_reading.specs.declared.entry.WrittenId.TheVariants.{Null}
use Rattle.conversation_reading.specs.declared.reading.Reading.{Reading}
use Rattle.conversation_reading.specs.declared.reading.Reading.TheVariants.{Foreign, NotText, NotJson, OverLimits, HalfPair, Single, Array}
use Rattle.conversation_reading.specs.declared.reading.TheConstants.{MOST_DEPTH_IN, MOST_ENTRIES_IN}
use Rattle.conversation_rules.specs.Amounts.{same_id, is_null}
use Rattle.conversation_rules.specs.Matching.{same_ids}
use Rattle.conversation_rules.specs.Protocols.{is_mcp}
use Rattle.conversation_rules.specs.declared.protocol.Protocol.{Protocol}
use Rattle.judge_laws.specs.Messages.{written_as}
use Rattle.message_ids.specs.declared.id.Id.{Id}
use Rattle.our_side.specs.Answered.{AreAnsweredWhole, any_cancel, has_ids, id_due, ids_due, passing, alone_at, came_alone, came_together, total}
use Rattle.our_side.specs.Asked.{ids_expected, nulls, any_id, Question, alone, together, by_array, under_null, CanBeAsked, as_number, asked_from, asked_by, asked_in, leaves_by, leaves_in}
use Rattle.our_side.specs.OurSide.{AreItsCancels, IsTaken, AllTaken}
use Rattle.our_side.proofs.Formed.{has_numbers}
use Rattle.our_side.proofs.Forms.{both_whole}
use Rattle.our_side.proofs.Ids.{not_named}
use Rattle.our_side.proofs.Leaving.{single_leaves, items_leave}
use Rattle.our_side.proofs.Tied.{entry_tied, items_tied, as_many}

-- ---- which answers count, by what is counted

abbrev pub counts : Question → Id × Given → Bool
counts (alone id) a = same_id id (written_as a.0)
counts (together all) a = false
counts by_array a = false
counts under_null a = is_null (written_as a.0)

-- whether the answer to a call alone with this id may
abbrev pub may_count : Question → Id → Bool
may_count (alone id) other = same_id id (written_as other)
may_count (together all) other = false
may_count by_array other = false
may_count under_null other = is_null (written_as other)

pub may_pass : (q : Question) (id : Id) (a : Given) → counts q (id, a) ≡ true → may_count q id ≡ true
may_pass (alone other) id a is = is
may_pass (together all) id a is = is
may_pass by_array id a is = is
may_pass under_null id a is = is

abbrev pub counts_all : Question → List Id → Bool
counts_all (alone id) those = false
counts_all (together all) those = same_ids all (map written_as those)
counts_all by_array those = has_ids those
counts_all under_null those = has_ids those

abbrev pub came_by : Question → Unit → ℕ
came_by q u = came_alone (counts q) (may_count q) u + came_together (counts_all q) u

-- ---- a unit that came

-- a batch is answered by a connection whose cancels the judge knows
abbrev pub IsIts : Protocol → Chosen → Unit → Type 0
IsIts protocol settings units.Unreadable = ⊤
IsIts protocol settings (units.Single e) = ⊤
IsIts protocol settings (units.Batch es) = AreItsCancels protocol settings

abbrev pub Leaves : Protocol → Chosen → Reading → Unit → Type 0
Leaves protocol settings reading u = is_mcp protocol ≡ true → settings.cancels ≡ Some Mcp → any_cancel (entries_in u) ≡ true → 1 ≤ leaves_by protocol reading

pub record ReadAs (protocol : Protocol) (settings : Chosen) (reading : Reading) (u : Unit) : Type 0 where
  pub few : (q : Question) → CanBeAsked q → came_by q u ≤ asked_by q reading
  pub its : IsIts protocol settings u
  pub leaves : Leaves protocol settings reading u

unread_few : (q : Question) → CanBeAsked q → came_by q units.Unreadable ≤ asked_from q false true []
unread_few (alone id) can = let none = ap as_number (not_named id Null can refl) in omega (arith, none)
unread_few (together all) can = omega arith
unread_few by_array can = omega arith
unread_few under_null can = omega arith

call_few : (q : Question) (o : Option Id) → passing (may_count q) (option_to_list o) ≤ asked_from q false false (map written_as (option_to_list o))
call_few (alone id) None = omega arith
call_few (alone id) (Some other) = omega arith
call_few (together all) None = omega arith
call_few (together all) (Some other) = omega arith
call_few by_array None = omega arith
call_few by_array (Some other) = omega arith
call_few under_null None = omega arith
call_few under_null (Some other) = omega arith

nothing_few : (q : Question) → alone_at (counts q) (may_count q) Nothing ≤ asked_from q false false (Null ∷ [])
nothing_few (alone id) = omega arith
nothing_few (together all) = omega arith
nothing_few by_array = omega arith
nothing_few under_null = omega arith

entry_few : (q : Question) (e : Read) → alone_at (counts q) (may_count q) e ≤ asked_from q false false (map written_as (id_due e))
entry_few q (Call c) = call_few q c.id
entry_few q (Cancel id) = omega arith
entry_few q (Reply key reply) = omega arith
entry_few q Stray = omega arith
entry_few q Nothing = nothing_few q

any_few : (ids : List Id) → as_number (has_ids ids) ≤ as_number (any_id (map written_as ids))
any_few [] = omega arith
any_few (id ∷ ids) = omega arith

most_one : (b : Bool) → as_number b ≤ 1
most_one true = omega arith
most_one false = omega arith

batch_few : (q : Question) (es : List Read) → as_number (counts_all q (ids_due es)) ≤ asked_from q true false (map written_as (ids_due es))
batch_few (alone id) es = omega arith
batch_few (together all) es = omega arith
batch_few by_array es = any_few (ids_due es)
batch_few under_null es = most_one (has_ids (ids_due es))

-- what is refused whole, by what the judge takes it for
refused_few : (q : Question) → CanBeAsked q → (batch unread : Bool) → (batch || unread) ≡ true → (ids : List WrittenId) → came_by q (units.Single Nothing) ≤ asked_from q batch unread ids
refused_few (alone id) can batch unread either ids = let none = ap as_number (not_named id Null can refl) in omega (arith, none)
refused_few (together all) can batch unread either ids = omega arith
refused_few by_array can batch unread either ids = omega arith
refused_few under_null can batch unread either ids = let one : asked_from under_null batch unread ids ≡ 1 = ap (λ b. if b then 1 else nulls ids) either in omega (arith, one)

-- ---- a content

module _ (protocol : Protocol) (settings : Chosen) where
  abbrev rules : Rules
  rules = rules_of settings

  abbrev Reads : Reading → Unit → Type 0
  Reads reading u = ReadAs protocol settings reading u

  unread_read : (reading : Reading) → ((q : Question) → asked_by q reading ≡ asked_from q false true []) → Reads reading units.Unreadable
  unread_read reading is = record {
    few = λ q can. (let most = unread_few q can in let same = is q in omega (arith, most, same));
    its = tt;
    leaves = λ mcp by any. absurd (let no : false ≡ true = any in cc);
  }

  front_read : (b : Bool) → Reads (if b then OverLimits else NotJson) units.Unreadable
  front_read true = unread_read OverLimits (λ q. refl)
  front_read false = unread_read NotJson (λ q. refl)

  half_read : (b : Bool) → Reads (if b then HalfPair else NotJson) units.Unreadable
  half_read true = unread_read HalfPair (λ q. refl)
  half_read false = unread_read NotJson (λ q. refl)

  single_read : (j : Json) → HasNumbers j → Reads (Single (strict.entry_of j)) (units.Single (lenient.entry_of rules j))
  single_read j numbers = record {
    few = λ q can.
        let most = entry_few q (lenient.entry_of rules j) in
        let same : asked_by q (Single (strict.entry_of j)) ≡ asked_from q false false (map written_as (id_due (lenient.entry_of rules j))) = ap (asked_from q false false) (entry_tied rules j numbers) in
        omega (arith, most, same);
    its = tt;
    leaves = λ mcp by any. single_leaves protocol mcp rules by j any;
  }

  -- what is refused whole
  refused_read : (reading : Reading) (batch unread : Bool) (ids : List WrittenId) → (batch || unread) ≡ true → ((q : Question) → asked_by q reading ≡ asked_from q batch unread ids) → Reads reading (units.Single Nothing)
  refused_read reading batch unread ids either is = record {
    few = λ q can. (let most = refused_few q can batch unread either ids in let same = is q in omega (arith, most, same));
    its = tt;
    leaves = λ mcp by any. absurd (let no : false ≡ true = any in cc);
  }

  nothing_read : Reads (Array []) (units.Single Nothing)
  nothing_read = record { few = λ q can. (let most = nothing_few q in omega (arith, most)); its = tt; leaves = λ mcp by any. absurd (let no : false ≡ true = any in cc) }

  empty_by : (b : Bool) → Reads (Array []) (if b then units.Single Nothing else units.Single Nothing)
  empty_by true = nothing_read
  empty_by false = nothing_read

  batch_refused : (j : Json) (js : json.Items) → Reads (Array (strict.entries_of (item j js))) (units.Single Nothing)
  batch_refused j js = refused_read (Array (strict.entries_of (item j js))) true false (ids_expected (strict.entries_of (item j js))) refl (λ q. refl)

  array_read : (js : json.Items) → ItemsHaveNumbers js → IsTaken protocol settings (Array (strict.entries_of js)) → Reads (Array (strict.entries_of js)) (batch_within rules.most_entries (lenient.entries_of rules js))
  array_read no_items numbers taken = empty_by (are_too_many settings.most_entries 0)
  array_read (item j js) numbers (inl many) =
      let es = lenient.entries_of rules (item j js) in
      let refused : are_too_many settings.most_entries (length es) ≡ true = ap (are_too_many settings.most_entries) (as_many rules (item j js)) ∙ many in
      subst (λ b. Reads (Array (strict.entries_of (item j js))) (if b then units.Single Nothing else units.Batch es)) (sym refused) (batch_refused j js)
  array_read (item j js) numbers (inr taken) = by_count (are_too_many rules.most_entries (length (lenient.entries_of rules (item j js)))) refl
    where
      by_count : (b : Bool) → are_too_many rules.most_entries (length (lenient.entries_of rules (item j js))) ≡ b → Reads (Array (strict.entries_of (item j js))) (if b then units.Single Nothing else units.Batch (lenient.entries_of rules (item j js)))
      by_count true many = batch_refused j js
      by_count false few = record {
        few = λ q can.
            let most = batch_few q (lenient.entries_of rules (item j js)) in
            let same : asked_by q (Array (strict.entries_of (item j js))) ≡ asked_from q true false (map written_as (ids_due (lenient.entries_of rules (item j js)))) = ap (asked_from q true false) (items_tied rules (item j js) numbers) in
            omega (arith, most, same);
        its = taken.0;
        leaves = λ mcp by any. items_leave protocol mcp rules by (item j js) any;
      }

  -- to the judge a refused one may be over its limits
  array_limited : (js : json.Items) → ItemsHaveNumbers js → IsTaken protocol settings (Array (strict.entries_of js)) → Reads (limited (Array (strict.entries_of js))) (batch_within rules.most_entries (lenient.entries_of rules js))
  array_limited no_items numbers taken = array_read no_items numbers taken
  array_limited (item j js) numbers taken = by_limit (nat_lt MOST_ENTRIES_IN (length (strict.entries_of (item j js)))) refl taken
    where
      over : are_too_many settings.most_entries (length (strict.entries_of (item j js))) ≡ true → Reads OverLimits (batch_within rules.most_entries (lenient.entries_of rules (item j js)))
      over many =
          subst (λ b. Reads OverLimits (if b then units.Single Nothing else units.Batch (lenient.entries_of rules (item j js)))) (sym (ap (are_too_many settings.most_entries) (as_many rules (item j js)) ∙ many))
          (refused_read OverLimits false true [] refl (λ q. refl))

      by_limit : (b : Bool) → nat_lt MOST_ENTRIES_IN (length (strict.entries_of (item j js))) ≡ b → IsTaken protocol settings (Array (strict.entries_of (item j js)))
          → Reads (if b then OverLimits else Array (strict.entries_of (item j js))) (batch_within rules.most_entries (lenient.entries_of rules (item j js)))
      by_limit false is taken = array_read (item j js) numbers taken
      by_limit true is (inl many) = over many
      by_limit true is (inr within) = absurd (let no : true ≡ false = sym is ∙ within.1 in cc)

  value_read : (j : Json) → HasNumbers j → IsTaken protocol settings (value_reading j) → Reads (limited (value_reading j)) (lenient.value_unit rules j)
  value_read json.null numbers taken = single_read json.null numbers
  value_read (json.boolean b) numbers taken = single_read (json.boolean b) numbers
  value_read (json.number s) numbers taken = single_read (json.number s) numbers
  value_read (json.string s) numbers taken = single_read (json.string s) numbers
  value_read (array js) numbers taken = array_limited js numbers taken
  value_read (object ms) numbers taken = single_read (object ms) numbers

  -- what can't be read is none that is limited
  unread_limited : (text : List ℕ) (front : Option (List ℕ)) → Reads (limited (unreadable_with text front)) units.Unreadable
  unread_limited text (Some front) = from (is_json front)
    where
      from : (b : Bool) → Reads (limited (if b then OverLimits else NotJson)) units.Unreadable
      from true = front_read true
      from false = front_read false
  unread_limited text None = from (is_json text)
    where
      from : (b : Bool) → Reads (limited (if b then HalfPair else NotJson)) units.Unreadable
      from true = half_read true
      from false = half_read false

  json_read : (text : List ℕ) (o : Option Json) → ((j : Json) → o ≡ Some j → HasNumbers j) → IsTaken protocol settings (json_reading text o) → Reads (limited (json_reading text o)) (unit_of_reading rules o)
  json_read text None numbers taken = unread_limited text (front_of text)
  json_read text (Some j) numbers taken = value_read j (numbers j refl) taken

  text_read : (content : List ℕ) → IsTaken protocol settings (reading_of false content) → Reads (limited_reading false content) (unit_of rules false content)
  unfolding value_of
  text_read content taken = by (is_utf8 content) taken
    where
      by : (b : Bool) → IsTaken protocol settings (if b then json_reading content (if b then text_value MOST_DEPTH_IN content else None) else NotText)
          → Reads (limited (if b then json_reading content (if b then text_value MOST_DEPTH_IN content else None) else NotText)) (unit_of_reading rules (if b then text_value MOST_DEPTH_IN content else None))
      by true these = json_read content (text_value MOST_DEPTH_IN content) (has_numbers content) these
      by false these = unread_read NotText (λ q. refl)

  within_read : (foreign : Bool) (content : List ℕ) → IsTaken protocol settings (reading_of foreign content) → Reads (limited_reading foreign content) (unit_of rules foreign content)
  within_read true content taken = unread_read Foreign (λ q. refl)
  within_read false content taken = text_read content taken

-- ---- contents, one behind another

abbrev pub TakenEach : Protocol → Chosen → List Frame → Type 0
TakenEach protocol settings [] = ⊤
TakenEach protocol settings (frame ∷ frames) = IsTaken protocol settings (reading_of frame.foreign frame.content) × TakenEach protocol settings frames

abbrev pub asked_each : Question → List Frame → ℕ
asked_each q [] = 0
asked_each q (frame ∷ frames) = asked_by q (limited_reading frame.foreign frame.content) + asked_each q frames

abbrev pub leaves_each : Protocol → List Frame → ℕ
leaves_each protocol [] = 0
leaves_each protocol (frame ∷ frames) = leaves_by protocol (limited_reading frame.foreign frame.content) + leaves_each protocol frames

pub each_taken : (protocol : Protocol) (settings : Chosen) (placed : List (ℕ × Frame)) → AllTaken protocol settings placed → TakenEach protocol settings (map (λ placed. placed.1) placed)
each_taken protocol settings [] taken = tt
each_taken protocol settings (p ∷ placed) taken = (taken.0, each_taken protocol settings placed taken.1)

pub each_asked : (q : Question) (placed : List (ℕ × Frame)) → asked_each q (map (λ placed. placed.1) placed) ≡ asked_in q placed
each_asked q [] = refl
each_asked q (p ∷ placed) = ap (λ n. asked_by q (limited_reading p.1.foreign p.1.content) + n) (each_asked q placed)

pub each_leaves : (protocol : Protocol) (placed : List (ℕ × Frame)) → leaves_each protocol (map (λ placed. placed.1) placed) ≡ leaves_in protocol placed
each_leaves protocol [] = refl
each_leaves protocol (p ∷ placed) = ap (λ n. leaves_by protocol (limited_reading p.1.foreign p.1.content) + n) (each_leaves protocol placed)

pub first_taken : (protocol : Protocol) (settings : Chosen) (n : ℕ) (frames : List Frame) → TakenEach protocol settings frames → TakenEach protocol settings (take n frames)
first_taken protocol settings zero frames taken = tt
first_taken protocol settings (suc n) [] taken = tt
first_taken protocol settings (suc n) (frame ∷ frames) taken = (taken.0, first_taken protocol settings n frames taken.1)

pub first_asked : (q : Question) (n : ℕ) (frames : List Frame) → asked_each q (take n frames) ≤ asked_each q frames
first_asked q zero frames = omega arith
first_asked q (suc n) [] = omega arith
first_asked q (suc n) (frame ∷ frames) = let rest = first_asked q n frames in omega (arith, rest)

pub first_leaves : (protocol : Protocol) (n : ℕ) (frames : List Frame) → leaves_each protocol (take n frames) ≤ leaves_each protocol frames
first_leaves protocol zero frames = omega arith
first_leaves protocol (suc n) [] = omega arith
first_leaves protocol (suc n) (frame ∷ frames) = let rest = first_leaves protocol n frames in omega (arith, rest)

any_split : (xs ys : List Read) (b : Bool) → any_cancel xs ≡ b → any_cancel (xs ++ ys) ≡ b || any_cancel ys
any_split [] ys b is = ap (λ c. c || any_cancel ys) is
any_split (Call c ∷ xs) ys b is = any_split xs ys b is
any_split (Cancel id ∷ xs) ys b is = ap (λ c. c || any_cancel ys) is
any_split (Reply k r ∷ xs) ys b is = any_split xs ys b is
any_split (Stray ∷ xs) ys b is = any_split xs ys b is
any_split (Nothing ∷ xs) ys b is = any_split xs ys b is

other_cancels : (settings : Chosen) (o : Option Cancels) → settings.cancels ≡ o → (o ≡ Some Mcp → ⊥) → settings.cancels ≢ Some Mcp
other_cancels settings o is not_mcp = λ e. not_mcp (sym is ∙ e)

module _ (protocol : Protocol) (settings : Chosen) where
  abbrev read_each : List Frame → List Unit
  read_each frames = map (read (rules_of settings)) frames

  whole_any : settings.cancels ≢ Some Mcp → (us : List Unit) → AreAnsweredWhole settings.cancels us
  whole_any other [] = tt
  whole_any other (units.Unreadable ∷ us) = whole_any other us
  whole_any other (units.Single e ∷ us) = whole_any other us
  whole_any other (units.Batch es ∷ us) = (other, whole_any other us)

  its_whole : is_mcp protocol ≡ false → (u : Unit) → IsIts protocol settings u → AreAnsweredWhole settings.cancels (u ∷ [])
  its_whole not_mcp units.Unreadable its = tt
  its_whole not_mcp (units.Single e) its = tt
  its_whole not_mcp (units.Batch es) (inl other) = (other, tt)
  its_whole not_mcp (units.Batch es) (inr mcp) = absurd (let no : true ≡ false = sym mcp ∙ not_mcp in cc)

  units_whole : is_mcp protocol ≡ false → (frames : List Frame) → TakenEach protocol settings frames → AreAnsweredWhole settings.cancels (read_each frames)
  units_whole not_mcp [] taken = tt
  units_whole not_mcp (frame ∷ frames) taken =
      both_whole settings.cancels (read (rules_of settings) frame) (read_each frames)
      (its_whole not_mcp (read (rules_of settings) frame) (within_read protocol settings frame.foreign frame.content taken.0).its) (units_whole not_mcp frames taken.1)

  units_quiet : is_mcp protocol ≡ true → settings.cancels ≡ Some Mcp → (frames : List Frame) → TakenEach protocol settings frames → leaves_each protocol frames ≡ 0 → any_cancel (entries_along (read_each frames)) ≡ false
  units_quiet mcp by [] taken none = refl
  units_quiet mcp by (frame ∷ frames) taken none =
      any_split (entries_in (read (rules_of settings) frame)) (entries_along (read_each frames)) false (from (any_cancel (entries_in (read (rules_of settings) frame))) refl) ∙ units_quiet mcp by frames taken.1 (omega (arith, none))
    where
      from : (b : Bool) → any_cancel (entries_in (read (rules_of settings) frame)) ≡ b → any_cancel (entries_in (read (rules_of settings) frame)) ≡ false
      from true any = absurd (let some = (within_read protocol settings frame.foreign frame.content taken.0).leaves mcp by any in omega (arith, some, none))
      from false any = any

  -- where no cancel came by which a request may be left, none was
  pub units_kept : (frames : List Frame) → TakenEach protocol settings frames → leaves_each protocol frames ≡ 0 → AreAnsweredWhole settings.cancels (read_each frames) ⊎ (any_cancel (entries_along (read_each frames)) ≡ false)
  units_kept frames taken none = by_rules (is_mcp protocol) refl
    where
      by_cancels : is_mcp protocol ≡ true → (o : Option Cancels) → settings.cancels ≡ o → AreAnsweredWhole settings.cancels (read_each frames) ⊎ (any_cancel (entries_along (read_each frames)) ≡ false)
      by_cancels mcp None is = inl (whole_any (other_cancels settings None is (λ e. let no : None ≡ Some Mcp = e in cc)) (read_each frames))
      by_cancels mcp (Some Lsp) is = inl (whole_any (other_cancels settings (Some Lsp) is (λ e. let no : Some Lsp ≡ Some Mcp = e in cc)) (read_each frames))
      by_cancels mcp (Some Mcp) is = inr (units_quiet mcp is frames taken none)

      by_rules : (b : Bool) → is_mcp protocol ≡ b → AreAnsweredWhole settings.cancels (read_each frames) ⊎ (any_cancel (entries_along (read_each frames)) ≡ false)
      by_rules true mcp = by_cancels mcp settings.cancels refl
      by_rules false not_mcp = inl (units_whole not_mcp frames taken)

  pub units_few : (frames : List Frame) (q : Question) → CanBeAsked q → TakenEach protocol settings frames
      → total (came_alone (counts q) (may_count q)) (read_each frames) + total (came_together (counts_all q)) (read_each frames) ≤ asked_each q frames
  units_few [] q can taken = omega arith
  units_few (frame ∷ frames) q can taken =
      let first = (within_read protocol settings frame.foreign frame.content taken.0).few q can in
      let rest = units_few frames q can taken.1 in
      omega (arith, first, rest)
