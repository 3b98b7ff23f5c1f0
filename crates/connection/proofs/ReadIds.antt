-- The ids of the calls that came are such as ids are, and their params can be said again, unless they nest too deep.
use Rattle.std.proofs.Common.{◌≡◌, ◌⊎◌, inl, inr, ℕ, zero, suc, ◌-◌, ◌<◌, ◌≤◌, ◌^◌, ◌==◌, ◌&&◌, ◌||◌, nat_lt, nat_le, Bool, true, false, cond, List, [], ◌∷◌, ◌++◌, length, map, take, Option, Some, None, option_map, refl, sym, ap, subst, ◌∙◌, arith, append_assoc, decimal}
use Rattle.std.proofs.lemmas.Bool.Decides.{nat_tests}
use Rattle.std.proofs.lemmas.Str.{IsUtf8-from_is_utf8}
use Rattle.std.specs.Prelude.{⊤, ℤ, negsuc, codes, option_and_then, is_some, slice_get}
use Rattle.std.specs.Str.{is_utf8, bytes_eq}
use Rattle.std.specs.Str.Parse.{digits_value}
use Rattle.json.specs.Find.{get, as_str}
use Rattle.json.specs.Json as json
use Rattle.json.specs.Json.{Json, array, object, Items, no_items, item, value, if_last}
use Rattle.json.specs.Lex.{tokens}
use Rattle.json.specs.Token.{Token}
use Rattle.json.specs.Tree.{HasNumbers, ItemsHaveNumbers}
use Rattle.json.proofs.Numbered.{value-HasNumbers, ArePrintableOrBad-tokens, HasNumbers-get}
use Rattle.json_texts.specs.Texts.{json_text, text_value, value_of}
use Rattle.lsp_frames.specs.declared.frame.Frame.{Frame}
use Rattle.message_ids.specs.declared.id.Id.{Id}
use Rattle.message_ids.specs.declared.id.Id.TheVariants.{Signed}
use Rattle.connection_messages.specs.Numbers.{unsigned_of, negated, negative_of}
use Rattle.connection_messages.specs.ReadBack.{IsId, AreParams}
use Rattle.connection_messages.specs.Reading.{is_version_2, number_id_of, id_of, call_id, null_params, call_params, call_from, call_in, target_in, is_cancel, cancel_or_call, call_entry, key_in, reply_in, reply_entry, entry_of, entries_of, batch_of, are_too_many, value_unit, unit_of_reading, unit_of}
use Rattle.connection_messages.specs.declared.call.Call.{Call as Came}
use Rattle.connection_messages.specs.declared.cancels.Cancels.{Cancels}
use Rattle.connection_messages.specs.declared.entry.Entry.{Entry}
use Rattle.connection_messages.specs.declared.entry.Entry.TheVariants.{Call, Cancel, Reply, Stray, Invalid}
use Rattle.connection_messages.specs.declared.read.unit.TheConstants.{MOST_DEPTH_IN}
use Rattle.connection_messages.specs.declared.reply.Reply.{Reply as Replied}
use Rattle.connection_messages.specs.declared.rules.Rules.{Rules}
use Rattle.connection_messages.specs.declared.unit.Unit.{Unit}
use Rattle.connection_messages.specs.declared.unit.Unit.TheVariants.{Single}
use Rattle.connection_history.specs.declared.event.Event.{Event}
use Rattle.connection_history.specs.Stream.{entries_in, entries_along, call_in as call_among, calls_in, call_numbered}
use Rattle.connection_history.specs.History.{History, units_of, stream}
use Rattle.content_streams.specs.Streams.{contents}
use Rattle.connection.specs.Connections.{Connection, StandsAfter, read}
use Rattle.connection.specs.Rules.{IsDeep, IsToldNull}
use Rattle.connection.specs.Settings.{rules_of}
use Rattle.connection.proofs.ReadAgain.{AreAgain, again, array_structured, object_structured}
use Rattle.connection.proofs.ReadValues.{tokens_are_texts, HasTexts, ItemsHaveTexts, IfHasTexts, value_has_texts, member_has_texts}
use Rattle.connection.proofs.SaidSound.{HasId, HaveIds, UnitsHaveIds}

-- ---- ids

abbrev IfUnsigned : Option ℕ → Type 0
IfUnsigned None = ⊤
IfUnsigned (Some n) = n < 2 ^ 64

abbrev IfSigned : Option ℤ → Type 0
IfSigned None = ⊤
IfSigned (Some z) = IsId (Signed z)

abbrev IfId : Option Id → Type 0
IfId None = ⊤
IfId (Some id) = IsId id

unsigned_if : (n : ℕ) (p q : Bool) → nat_lt n (2 ^ 64) ≡ p → IfUnsigned (cond (p && q) (Some n) None)
unsigned_if n true true e = grind (arith, nat_tests)
unsigned_if n true false e = tt
unsigned_if n false q e = tt

unsigned_is : (s : List ℕ) → IfUnsigned (unsigned_of s)
unsigned_is s = unsigned_if (digits_value 10 s) (nat_lt (digits_value 10 s) (2 ^ 64)) (bytes_eq (decimal (digits_value 10 s)) s) refl

below : (n : ℕ) (p q : Bool) → nat_lt 0 n ≡ p → nat_le n (2 ^ 63) ≡ q → IfSigned (cond (p && q) (Some (negsuc (n - 1))) None)
below n true true e f =
    let some : 0 < n = grind (arith, nat_tests) in
    let few : n ≤ 2 ^ 63 = grind (arith, nat_tests) in
    omega (arith, some, few)
below n true false e f = tt
below n false q e f = tt

negated_is : (o : Option ℕ) → IfSigned (negated o)
negated_is None = tt
negated_is (Some n) = below n (nat_lt 0 n) (nat_le n (2 ^ 63)) refl refl

signed_if : (b : Bool) (o : Option ℕ) → IfSigned (cond b (negated o) None)
signed_if true o = negated_is o
signed_if false o = tt

negative_is : (s : List ℕ) → IfSigned (negative_of s)
negative_is [] = tt
negative_is (b ∷ digits) = signed_if (b == 45) (unsigned_of digits)

number_is : (n : Option ℕ) (z : Option ℤ) → IfUnsigned n → IfSigned z → IfId (number_id_of n z)
number_is (Some n) z p q = p
number_is None None p q = tt
number_is None (Some z) p q = q

id_is : (j : Json) → HasTexts j → IfId (id_of j)
id_is json.null has = tt
id_is (json.boolean b) has = tt
id_is (json.number s) has = number_is (unsigned_of s) (negative_of s) (unsigned_is s) (negative_is s)
id_is (json.string s) has = has
id_is (array js) has = tt
id_is (object ms) has = tt

abbrev IfHasId : Option (Option Id) → Type 0
IfHasId None = ⊤
IfHasId (Some id) = HasId id

given_id : (o : Option Id) → IfId o → IfHasId (option_map Some o)
given_id None is = tt
given_id (Some id) is = is

call_id_is : (o : Option Json) → IfHasTexts o → IfHasId (call_id o)
call_id_is None has = tt
call_id_is (Some j) has = given_id (id_of j) (id_is j has)

-- ---- params

-- the value's strings are UTF-8 and its numbers are numbers
abbrev IsSafe : Json → Type 0
IsSafe j = HasTexts j × HasNumbers j

abbrev IfSafe : Option Json → Type 0
IfSafe None = ⊤
IfSafe (Some j) = IsSafe j

both_safe : (o : Option Json) → IfHasTexts o → ((part : Json) → Some part ≡ o → HasNumbers part) → IfSafe o
both_safe None texts numbers = tt
both_safe (Some j) texts numbers = (texts, numbers j refl)

member_safe : (name : List ℕ) (j : Json) → IsSafe j → IfSafe (get name j)
member_safe name j safe = both_safe (get name j) (member_has_texts name j safe.0) (λ part is. HasNumbers-get name j part safe.1 is)

id_safe : (o : Option Json) → IfSafe o → IfHasId (call_id o)
id_safe None safe = tt
id_safe (Some j) safe = call_id_is (Some j) safe.0

-- They can be said again, or are null and such are told.
abbrev AreGiven : Bool → Option (List ℕ) → Type 0
AreGiven told None = ⊤
AreGiven told (Some params) = AreParams (Some params) ⊎ IsDeep params ⊎ IsToldNull told params

given_again : (told : Bool) (text : List ℕ) → AreAgain (Some text) → AreGiven told (Some text)
given_again told text (inl are) = inl are
given_again told text (inr deep) = inr (inl deep)

abbrev IfParams : Bool → Option (Option (List ℕ)) → Type 0
IfParams told None = ⊤
IfParams told (Some params) = AreGiven told params

null_given : (told : Bool) → AreGiven told (null_params told)
null_given true = inr (inr (refl, refl))
null_given false = tt

params_safe : (told : Bool) (o : Option Json) → IfSafe o → IfParams told (call_params told o)
params_safe told None safe = tt
params_safe told (Some json.null) safe = null_given told
params_safe told (Some (json.boolean b)) safe = tt
params_safe told (Some (json.number s)) safe = tt
params_safe told (Some (json.string s)) safe = tt
params_safe told (Some (array js)) safe = given_again told (json_text (array js)) (again (array js) safe.0 safe.1 (array_structured js))
params_safe told (Some (object ms)) safe = given_again told (json_text (object ms)) (again (object ms) safe.0 safe.1 (object_structured ms))

pub last_is : (p : Option (Json × List Token)) (j : Json) → option_and_then (λ p. if_last p.0 p.1) p ≡ Some j → p ≡ Some (j, [])
last_is None j e = cc
last_is (Some (i, [])) j e = cc
last_is (Some (i, t ∷ ts)) j e = cc

read_is_safe : (levels : ℕ) (text : List ℕ) (j : Json) → value_of levels text ≡ Some j → IsSafe j
unfolding value_of
read_is_safe levels text j is = go (is_utf8 text) refl is
  where
    go : (b : Bool) → is_utf8 text ≡ b → cond b (text_value levels text) None ≡ Some j → IsSafe j
    go true utf8 same =
        let first = last_is (value levels (tokens text)) j same in (
          value_has_texts levels (tokens text) [] j (tokens_are_texts text (IsUtf8-from_is_utf8 text utf8)) first,
          value-HasNumbers levels (tokens text) [] j (ArePrintableOrBad-tokens text) first,
        )
    go false utf8 same = absurd (cc)

calls-append : (es more : List Entry) → calls_in (es ++ more) ≡ calls_in es ++ calls_in more
calls-append [] more = refl
calls-append (e ∷ es) more = ap (λ cs. call_among e ++ cs) (calls-append es more) ∙ sym (append_assoc (call_among e) (calls_in es) (calls_in more))

module _ (rules : Rules) where
  -- ---- calls

  -- its id is such as ids are, and its params can be said again
  abbrev IsWell : Came → Type 0
  IsWell c = HasId c.id × AreGiven rules.null_params c.params

  abbrev AreWell : List Came → Type 0
  AreWell [] = ⊤
  AreWell (c ∷ cs) = IsWell c × AreWell cs

  abbrev IfWell : Option Came → Type 0
  IfWell None = ⊤
  IfWell (Some c) = IsWell c

  call_from_is : (version : Bool) (method : Option (List ℕ)) (params : Option (Option (List ℕ))) (id : Option (Option Id)) → IfParams rules.null_params params → IfHasId id → IfWell (call_from version method params id)
  call_from_is true (Some m) (Some p) (Some id) are is = (is, are)
  call_from_is true (Some m) (Some p) None are is = tt
  call_from_is true (Some m) None id are is = tt
  call_from_is true None params id are is = tt
  call_from_is false method params id are is = tt

  abbrev EntryIsWell : Entry → Type 0
  EntryIsWell e = AreWell (calls_in (e ∷ []))

  if_cancel : (b : Bool) (target : Id) (c : Came) → IsWell c → EntryIsWell (cond b (Cancel target) (Call c))
  if_cancel true target c well = tt
  if_cancel false target c well = (well, tt)

  cancel_or_call_is : (by : Cancels) (c : Came) (target : Option Id) → IsWell c → EntryIsWell (cancel_or_call by c target)
  cancel_or_call_is by c None well = (well, tt)
  cancel_or_call_is by c (Some target) well = if_cancel (is_cancel by c) target c well

  call_entry_is : (cancels : Option Cancels) (o : Option Came) (j : Json) → IfWell o → EntryIsWell (call_entry cancels o j)
  call_entry_is cancels None j well = tt
  call_entry_is None (Some c) j well = (well, tt)
  call_entry_is (Some by) (Some c) j well = cancel_or_call_is by c (target_in by j) well

  reply_is : (key : Option ℕ) (r : Replied) → EntryIsWell (reply_entry key r)
  reply_is None r = tt
  reply_is (Some k) r = tt

  either_entry : (p q : Bool) (first second : Entry) → EntryIsWell first → EntryIsWell second → EntryIsWell (cond p first (cond q second Invalid))
  either_entry true q first second well other = well
  either_entry false true first second well other = other
  either_entry false false first second well other = tt

  call_in_is : (j : Json) → IsSafe j → IfWell (call_in rules.null_params j)
  call_in_is j safe =
      call_from_is (is_version_2 j) (option_and_then as_str (get (codes "method") j)) (call_params rules.null_params (get (codes "params") j)) (call_id (get (codes "id") j))
      (params_safe rules.null_params (get (codes "params") j) (member_safe (codes "params") j safe)) (id_safe (get (codes "id") j) (member_safe (codes "id") j safe))

  entry_is : (j : Json) → IsSafe j → EntryIsWell (entry_of rules j)
  entry_is j safe =
      either_entry (is_some (get (codes "method") j)) (is_some (get (codes "result") j) || is_some (get (codes "error") j)) (call_entry rules.cancels (call_in rules.null_params j) j) (reply_entry (key_in j) (reply_in j))
      (call_entry_is rules.cancels (call_in rules.null_params j) j (call_in_is j safe)) (reply_is (key_in j) (reply_in j))

  -- ---- units

  more_well : (e : Entry) (es : List Entry) → EntryIsWell e → AreWell (calls_in es) → AreWell (calls_in (e ∷ es))
  more_well (Call c) es first rest = (first.0, rest)
  more_well (Cancel id) es first rest = rest
  more_well (Reply k r) es first rest = rest
  more_well Stray es first rest = rest
  more_well Invalid es first rest = rest

  entries_are : (js : Items) → ItemsHaveTexts js → ItemsHaveNumbers js → AreWell (calls_in (entries_of rules js))
  entries_are no_items texts numbers = tt
  entries_are (item j js) texts numbers =
      more_well (entry_of rules j) (entries_of rules js) (entry_is j (texts.0, numbers.0)) (entries_are js texts.1 numbers.1)

  batch_is : (es : List Entry) → AreWell (calls_in es) → AreWell (calls_in (entries_in (batch_of es)))
  batch_is [] well = tt
  batch_is (e ∷ es) well = well

  within_is : (over : Bool) (es : List Entry) → AreWell (calls_in es) → AreWell (calls_in (entries_in (cond over (Single Invalid) (batch_of es))))
  within_is true es well = tt
  within_is false es well = batch_is es well

  value_is : (j : Json) → IsSafe j → AreWell (calls_in (entries_in (value_unit rules j)))
  value_is json.null safe = entry_is json.null safe
  value_is (json.boolean b) safe = entry_is (json.boolean b) safe
  value_is (json.number s) safe = entry_is (json.number s) safe
  value_is (json.string s) safe = entry_is (json.string s) safe
  value_is (array js) safe = within_is (are_too_many rules.most_entries (length (entries_of rules js))) (entries_of rules js) (entries_are js safe.0 safe.1)
  value_is (object ms) safe = entry_is (object ms) safe

  reading_is : (o : Option Json) → ((j : Json) → o ≡ Some j → IsSafe j) → AreWell (calls_in (entries_in (unit_of_reading rules o)))
  reading_is None safe = tt
  reading_is (Some j) safe = value_is j (safe j refl)

  unit_is : (foreign : Bool) (content : List ℕ) → AreWell (calls_in (entries_in (unit_of rules foreign content)))
  unit_is true content = tt
  unit_is false content = reading_is (value_of MOST_DEPTH_IN content) (λ j is. read_is_safe MOST_DEPTH_IN content j is)

  abbrev UnitsAreWell : List Unit → Type 0
  UnitsAreWell [] = ⊤
  UnitsAreWell (u ∷ us) = AreWell (calls_in (entries_in u)) × UnitsAreWell us

  units_are : (frames : List Frame) → UnitsAreWell (map (read rules) frames)
  units_are [] = tt
  units_are (f ∷ frames) = (unit_is f.foreign f.content, units_are frames)

  -- ---- ids

  well_ids : (cs : List Came) → AreWell cs → HaveIds cs
  well_ids [] well = tt
  well_ids (c ∷ cs) well = (well.0.0, well_ids cs well.1)

  units_ids : (us : List Unit) → UnitsAreWell us → UnitsHaveIds us
  units_ids [] well = tt
  units_ids (u ∷ us) well = (well_ids (calls_in (entries_in u)) well.0, units_ids us well.1)

  -- ---- the call with a number

  well-append : (cs more : List Came) → AreWell cs → AreWell more → AreWell (cs ++ more)
  well-append [] more first second = second
  well-append (c ∷ cs) more first second = (first.0, well-append cs more first.1 second)

  along_well : (us : List Unit) → UnitsAreWell us → AreWell (calls_in (entries_along us))
  along_well [] well = tt
  along_well (u ∷ us) well =
      subst AreWell (sym (calls-append (entries_in u) (entries_along us))) (well-append (calls_in (entries_in u)) (calls_in (entries_along us)) well.0 (along_well us well.1))

  at_well : (cs : List Came) (n : ℕ) (call : Came) → AreWell cs → slice_get cs n ≡ Some call → IsWell call
  at_well [] n call well is = absurd (cc)
  at_well (c ∷ cs) zero call well is = let same : c ≡ call = cc in subst IsWell same well.0
  at_well (c ∷ cs) (suc n) call well is = at_well cs n call well.1 is

  numbered_well : (n : ℕ) (es : List Entry) (call : Came) → AreWell (calls_in es) → call_numbered n es ≡ Some call → IsWell call
  numbered_well zero es call well is = absurd (cc)
  numbered_well (suc n) es call well is = at_well (calls_in es) n call well is

-- ---- what came

came_are_well : (c : Connection) (history : History) (told : List Event) → StandsAfter c history told → UnitsAreWell (rules_of c.settings) (units_of history)
came_are_well c history told stands = subst (UnitsAreWell (rules_of c.settings)) (sym stands.stream.came) (units_are (rules_of c.settings) (take c.stream.taken (contents c.stream)))

pub came_have_ids : (c : Connection) (history : History) (told : List Event) → StandsAfter c history told → UnitsHaveIds (units_of history)
came_have_ids c history told stands = units_ids (rules_of c.settings) (units_of history) (came_are_well c history told stands)

given_params : (nulls : Bool) (params : Option (List ℕ)) (text : List ℕ) → params ≡ Some text → AreGiven nulls params → AreParams (Some text) ⊎ IsDeep text ⊎ IsToldNull nulls text
given_params nulls None text is given = absurd (cc)
given_params nulls (Some p) text is given = let same : p ≡ text = cc in subst (λ t. AreParams (Some t) ⊎ IsDeep t ⊎ IsToldNull nulls t) same given

-- the params that came with a call can be said again, unless they nest too deep, or are null and such are told
pub params_again : (c : Connection) (history : History) (told : List Event) (n : ℕ) (call : Came) (params : List ℕ) → StandsAfter c history told → call_numbered n (stream history) ≡ Some call → call.params ≡ Some params
    → AreParams (Some params) ⊎ IsDeep params ⊎ IsToldNull c.settings.null_params params
params_again c history told n call params stands is given =
    let rules = rules_of c.settings in
    given_params c.settings.null_params call.params params given
    (numbered_well rules n (stream history) call (along_well rules (units_of history) (came_are_well c history told stands)) is).1
