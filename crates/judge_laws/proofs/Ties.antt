-- The two readings of one value.
use Rattle.std.proofs.Common.{◌≡◌, ℕ, ◌&&◌, ◌||◌, not, Bool, true, false, if◌then◌else◌, List, ◌∷◌, Option, Some, None, is_some, length, refl, ap, sym, ◌∙◌}
use Rattle.std.specs.Prelude.{codes, option_and_then}
use Rattle.std.specs.Option.{is_none}
use Rattle.std.specs.Str.{is_utf8}
use Rattle.connection_messages.specs.Reading as lenient
use Rattle.connection_messages.specs.Reading.{call_from, call_in, call_id, call_params, call_entry, cancel_or_call, is_cancel, reply_entry, key_in, reply_in, id_of, number_id}
use Rattle.connection_messages.specs.declared.call.Call.{Call as Came}
use Rattle.connection_messages.specs.declared.cancels.Cancels.{Cancels}
use Rattle.connection_messages.specs.declared.entry.Entry.{Entry as Read}
use Rattle.connection_messages.specs.declared.entry.Entry.TheVariants.{Call, Cancel, Invalid as Nothing}
use Rattle.connection_messages.specs.declared.reply.Reply.{Reply as Replied}
use Rattle.connection_messages.specs.declared.rules.Rules.{Rules}
use Rattle.connection_messages.specs.declared.unit.Unit.TheVariants as units
use Rattle.conversation_reading.specs.Twice.{has_twice}
use Rattle.conversation_reading.specs.Strictly.{has, there_in, is_object, is_version_2, written_id, id_in, method_in, are_unfit, call_faults, answer_faults, no_object, faults_of, has_fault, call_kind, entry_of, unreadable_with, json_reading, value_reading, reading_of}
use Rattle.conversation_reading.specs.declared.entry.Kind.TheVariants.{Answer, BrokenAnswer, Invalid}
use Rattle.conversation_reading.specs.declared.reading.TheConstants.{MOST_DEPTH_IN}
use Rattle.conversation_reading.specs.Fronts.{is_json, front_of}
use Rattle.conversation_reading.specs.declared.reading.Reading.TheVariants.{NotText, NotJson, OverLimits, HalfPair}
use Rattle.json.specs.Find.{get}
use Rattle.json.specs.Json.{Json, null, boolean, number, string, array, object, no_items, item}
use Rattle.message_ids.specs.declared.id.Id.{Id}
use Rattle.json_texts.specs.Texts.{value_of, text_value}
use Rattle.judge_laws.specs.Tied.{can_be_read, is_answer_kind, is_call_kind, is_answer, is_well_call, has_other_faults, may_be_call, is_unit, is_reply, is_call, has_known_id}

-- ---- contents

front_is : (b : Bool) → can_be_read (if b then OverLimits else NotJson) ≡ false
front_is true = refl
front_is false = refl

half_is : (b : Bool) → can_be_read (if b then HalfPair else NotJson) ≡ false
half_is true = refl
half_is false = refl

unreadable_is : (text : List ℕ) (front : Option (List ℕ)) → can_be_read (unreadable_with text front) ≡ false
unreadable_is text (Some front) = front_is (is_json front)
unreadable_is text None = half_is (is_json text)

batch_is : (many : Bool) (e : Read) (es : List Read) → is_unit (if many then units.Single Nothing else units.Batch (e ∷ es)) ≡ true
batch_is true e es = refl
batch_is false e es = refl

none_is : (many : Bool) → is_unit (if many then units.Single Nothing else units.Single Nothing) ≡ true
none_is true = refl
none_is false = refl

value_is : (rules : Rules) (j : Json) → can_be_read (value_reading j) ≡ is_unit (lenient.value_unit rules j)
value_is rules null = refl
value_is rules (boolean b) = refl
value_is rules (number s) = refl
value_is rules (string s) = refl
value_is rules (array no_items) = sym (none_is (lenient.are_too_many rules.most_entries 0))
value_is rules (array (item j js)) =
    sym (batch_is (lenient.are_too_many rules.most_entries (length (lenient.entries_of rules (item j js)))) (lenient.entry_of rules j) (lenient.entries_of rules js))
value_is rules (object ms) = refl

json_is : (rules : Rules) (text : List ℕ) (o : Option Json) → can_be_read (json_reading text o) ≡ is_unit (lenient.unit_of_reading rules o)
json_is rules text None = unreadable_is text (front_of text)
json_is rules text (Some j) = value_is rules j

text_is : (rules : Rules) (content : List ℕ) → can_be_read (reading_of false content) ≡ is_unit (lenient.unit_of rules false content)
unfolding value_of
text_is rules content = by (is_utf8 content)
  where
    by : (b : Bool) → can_be_read (if b then json_reading content (if b then text_value MOST_DEPTH_IN content else None) else NotText) ≡
        is_unit (lenient.unit_of_reading rules (if b then text_value MOST_DEPTH_IN content else None))
    by true = json_is rules content (text_value MOST_DEPTH_IN content)
    by false = refl

pub contents_are : (rules : Rules) (foreign : Bool) (content : List ℕ) → can_be_read (reading_of foreign content) ≡ is_unit (lenient.unit_of rules foreign content)
contents_are rules true content = refl
contents_are rules false content = text_is rules content

-- ---- replies

chosen : (by : Cancels) (c : Came) (target : Id) (b : Bool) → is_reply (if b then Cancel target else Call c) ≡ false
chosen by c target true = refl
chosen by c target false = refl

target_is : (by : Cancels) (c : Came) (o : Option Id) → is_reply (cancel_or_call by c o) ≡ false
target_is by c None = refl
target_is by c (Some target) = chosen by c target (is_cancel by c)

call_is_none : (cancels : Option Cancels) (c : Option Came) (j : Json) → is_reply (call_entry cancels c j) ≡ false
call_is_none None None j = refl
call_is_none (Some by) None j = refl
call_is_none None (Some c) j = refl
call_is_none (Some by) (Some c) j = target_is by c (lenient.target_in by j)

reply_is : (key : Option ℕ) (r : Replied) → is_reply (reply_entry key r) ≡ true
reply_is None r = refl
reply_is (Some k) r = refl

strict_call : (faulty named : Bool) → is_answer_kind (call_kind faulty named) ≡ false
strict_call true named = refl
strict_call false true = refl
strict_call false false = refl

strict_answer : (faulty : Bool) → is_answer_kind (if faulty then BrokenAnswer else Answer) ≡ true
strict_answer true = refl
strict_answer false = refl

pub replies_are : (rules : Rules) (j : Json) → is_reply (lenient.entry_of rules j) ≡ is_answer (entry_of j)
replies_are rules j = by (has (codes "method") j) (has (codes "result") j || has (codes "error") j)
  where
    by : (m r : Bool) → is_reply (if m then call_entry rules.cancels (call_in rules.null_params j) j else (if r then reply_entry (key_in j) (reply_in j) else Nothing)) ≡
        is_answer_kind (if m then call_kind (has_fault (faults_of j)) (has (codes "id") j) else (if r then (if has_fault (faults_of j) || has_twice j then BrokenAnswer else Answer) else Invalid))
    by true r = call_is_none rules.cancels (call_in rules.null_params j) j ∙ sym (strict_call (has_fault (faults_of j)) (has (codes "id") j))
    by false true = reply_is (key_in j) (reply_in j) ∙ sym (strict_answer (has_fault (faults_of j) || has_twice j))
    by false false = refl

-- ---- calls

chosen_call : (by : Cancels) (c : Came) (target : Id) (b : Bool) → is_call (if b then Cancel target else Call c) ≡ true
chosen_call by c target true = refl
chosen_call by c target false = refl

target_call : (by : Cancels) (c : Came) (o : Option Id) → is_call (cancel_or_call by c o) ≡ true
target_call by c None = refl
target_call by c (Some target) = chosen_call by c target (is_cancel by c)

call_is : (cancels : Option Cancels) (c : Came) (j : Json) → is_call (call_entry cancels (Some c) j) ≡ true
call_is None c j = refl
call_is (Some by) c j = target_call by c (lenient.target_in by j)

well_parts : (m f t i r : Bool) → is_call_kind (if m then call_kind f i else (if r then (if f || t then BrokenAnswer else Answer) else Invalid)) ≡ true → (m ≡ true) × (f ≡ false)
well_parts true true t i r is = cc
well_parts true false t i r is = (refl, refl)
well_parts false true t i true is = cc
well_parts false false true i true is = cc
well_parts false false false i true is = cc
well_parts false f t i false is = cc

or_left : (a b : Bool) → (a || b) ≡ false → a ≡ false
or_left true b is = is
or_left false b is = refl

or_right : (a b : Bool) → (a || b) ≡ false → b ≡ false
or_right true b is = cc
or_right false b is = is

params_known : (told : Bool) (o : Option Json) → are_unfit o ≡ false → is_some (call_params told o) ≡ true
params_known told None fit = refl
params_known told (Some null) fit = cc
params_known told (Some (boolean b)) fit = cc
params_known told (Some (number s)) fit = cc
params_known told (Some (string s)) fit = cc
params_known told (Some (array js)) fit = refl
params_known told (Some (object ms)) fit = refl

came_by : (version : Bool) (method : Option (List ℕ)) (params : Option (Option (List ℕ))) (id : Option (Option Id)) → not version ≡ false → is_none method ≡ false → is_some params ≡ true → is_some id ≡ true →
    is_some (call_from version method params id) ≡ true
came_by true (Some method) (Some params) (Some id) v m p i = refl
came_by false method params id v m p i = cc
came_by true None params id v m p i = cc
came_by true (Some method) None id v m p i = cc
came_by true (Some method) (Some params) None v m p i = cc

known_call : (cancels : Option Cancels) (j : Json) (o : Option Came) → is_some o ≡ true → is_call (call_entry cancels o j) ≡ true
known_call cancels j None is = cc
known_call cancels j (Some c) is = call_is cancels c j

-- none of seven
record None7 (a b c d e f g : Bool) : Type 0 where
  first : a ≡ false
  second : b ≡ false
  third : c ≡ false
  fourth : d ≡ false
  fifth : e ≡ false

none7 : (a b c d e f g : Bool) → (a || b || c || d || e || f || g) ≡ false → None7 a b c d e f g
none7 true b c d e f g is = cc
none7 false true c d e f g is = cc
none7 false false true d e f g is = cc
none7 false false false true e f g is = cc
none7 false false false false true f g is = cc
none7 false false false false false f g is = record { first = refl; second = refl; third = refl; fourth = refl; fifth = refl }

of_call : (j : Json) (b m : Bool) → m ≡ true → has_fault (if b then (if m then call_faults j else answer_faults j (there_in j)) else no_object) ≡ false → has_fault (call_faults j) ≡ false
of_call j true true m is = is
of_call j true false m is = cc
of_call j false true m is = cc
of_call j false false m is = cc

named_call : (rules : Rules) (j : Json) (m r : Bool) → m ≡ true → is_call (call_entry rules.cancels (call_in rules.null_params j) j) ≡ true →
    is_call (if m then call_entry rules.cancels (call_in rules.null_params j) j else (if r then reply_entry (key_in j) (reply_in j) else Nothing)) ≡ true
named_call rules j true r m is = is
named_call rules j false r m is = cc

pub calls_are : (rules : Rules) (j : Json) → is_well_call (entry_of j) ≡ true → has_known_id j ≡ true → is_call (lenient.entry_of rules j) ≡ true
calls_are rules j well known =
    let parts = well_parts (has (codes "method") j) (has_fault (faults_of j)) (has_twice j) (has (codes "id") j) (has (codes "result") j || has (codes "error") j) well in
    let faultless = of_call j (is_object j) (has (codes "method") j) parts.0 parts.1 in
    let none = none7 false (not (is_version_2 j)) (is_none (method_in j)) (are_unfit (get (codes "params") j)) (has (codes "id") j && is_none (id_in j)) false false faultless in
    named_call rules j (has (codes "method") j) (has (codes "result") j || has (codes "error") j) parts.0
    (known_call rules.cancels j (call_in rules.null_params j)
    (came_by (is_version_2 j) (method_in j) (call_params rules.null_params (get (codes "params") j)) (call_id (get (codes "id") j)) none.second none.third (params_known rules.null_params (get (codes "params") j) none.fourth) known))

-- ---- and back

not_reply : (key : Option ℕ) (r : Replied) → is_call (reply_entry key r) ≡ true → ⊥
not_reply None r is = cc
not_reply (Some k) r is = cc

call_parts : (rules : Rules) (j : Json) (m r : Bool) → is_call (if m then call_entry rules.cancels (call_in rules.null_params j) j else (if r then reply_entry (key_in j) (reply_in j) else Nothing)) ≡ true →
    (m ≡ true) × (is_call (call_entry rules.cancels (call_in rules.null_params j) j) ≡ true)
call_parts rules j true r is = (refl, is)
call_parts rules j false true is = absurd (not_reply (key_in j) (reply_in j) is)
call_parts rules j false false is = cc

came_some : (cancels : Option Cancels) (j : Json) (o : Option Came) → is_call (call_entry cancels o j) ≡ true → is_some o ≡ true
came_some None j None is = cc
came_some (Some by) j None is = cc
came_some cancels j (Some c) is = refl

came_parts : (version : Bool) (method : Option (List ℕ)) (params : Option (Option (List ℕ))) (id : Option (Option Id)) → is_some (call_from version method params id) ≡ true →
    (version ≡ true) × (is_none method ≡ false) × (is_some id ≡ true)
came_parts true (Some method) (Some params) (Some id) is = (refl, refl, refl)
came_parts false method params id is = cc
came_parts true None params id is = cc
came_parts true (Some method) None id is = cc
came_parts true (Some method) (Some params) None is = cc

pub object_of : (j : Json) → has (codes "method") j ≡ true → is_object j ≡ true
object_of null is = cc
object_of (boolean b) is = cc
object_of (number s) is = cc
object_of (string s) is = cc
object_of (array js) is = cc
object_of (object ms) is = refl

known_id : (o : Option Json) → is_some (call_id o) ≡ true → (is_some o && is_none (option_and_then written_id o)) ≡ false
known_id None is = refl
known_id (Some null) is = refl
known_id (Some (boolean b)) is = cc
known_id (Some (number s)) is = refl
known_id (Some (string s)) is = refl
known_id (Some (array js)) is = cc
known_id (Some (object ms)) is = cc

none_other : (version method id : Bool) → version ≡ true → method ≡ false → id ≡ false → (false || (not version || (method || (id || (false || false))))) ≡ false
none_other true false false v m i = refl
none_other false method id v m i = cc
none_other true true id v m i = cc
none_other true false true v m i = cc

call_faults_are : (j : Json) (b m : Bool) → b ≡ true → m ≡ true → has_other_faults (call_faults j) ≡ false →
    (m && not (has_other_faults (if b then (if m then call_faults j else answer_faults j (there_in j)) else no_object))) ≡ true
call_faults_are j true true b m none = ap not none
call_faults_are j false m' b m none = cc
call_faults_are j true false b m none = cc

pub calls_back : (rules : Rules) (j : Json) → is_call (lenient.entry_of rules j) ≡ true → may_be_call (entry_of j) ≡ true
calls_back rules j is =
    let parts = call_parts rules j (has (codes "method") j) (has (codes "result") j || has (codes "error") j) is in
    let came = came_parts (is_version_2 j) (method_in j) (call_params rules.null_params (get (codes "params") j)) (call_id (get (codes "id") j)) (came_some rules.cancels j (call_in rules.null_params j) parts.1) in
    call_faults_are j (is_object j) (has (codes "method") j) (object_of j parts.0) parts.0
    (none_other (is_version_2 j) (is_none (method_in j)) (has (codes "id") j && is_none (id_in j)) came.0 came.1 (known_id (get (codes "id") j) came.2))
