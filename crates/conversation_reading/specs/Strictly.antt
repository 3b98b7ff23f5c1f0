-- What a content is, strictly by JSON-RPC 2.0, sections 4 to 6.
use Rattle.std.specs.Prelude.{ℕ, ◌&&◌, ◌||◌, not, nat_lt, List, [], ◌∷◌, length, Bool, true, false, Option, Some, None, option_and_then, is_some, codes, if◌then◌else◌}
use Rattle.std.specs.Option.{option_map_or, is_none}
use Rattle.std.specs.Str.{bytes_eq, is_utf8}
use Rattle.json.specs.Json.{Json, null, number, string, array, object, Items, no_items, item}
use Rattle.json.specs.Find.{get, as_str, as_number}
use Rattle.json_texts.specs.Texts.{value_of}
use Rattle.conversation_reading.specs.Fronts.{is_json, front_of}
use Rattle.conversation_reading.specs.Huge.{has_huge}
use Rattle.conversation_reading.specs.Nesting.{is_deep_request}
use Rattle.conversation_reading.specs.Numbers.{is_whole}
use Rattle.conversation_reading.specs.Targets.{has_fit_reason, target_by, target_in}
use Rattle.conversation_reading.specs.Twice.{has_twice, first_of}
use Rattle.conversation_reading.specs.declared.entry.Entry.{Entry}
use Rattle.conversation_reading.specs.declared.entry.Faults.{Faults}
use Rattle.conversation_reading.specs.First.{First}
use Rattle.conversation_reading.specs.declared.entry.Kind.{Kind}
use Rattle.conversation_reading.specs.declared.entry.Kind.TheVariants.{Request, Notification, Answer, BrokenAnswer, Invalid}
use Rattle.conversation_reading.specs.declared.entry.There.{There}
use Rattle.conversation_reading.specs.declared.entry.WrittenId.{WrittenId}
use Rattle.conversation_reading.specs.declared.entry.WrittenId.TheVariants.{Null, Text, Number}
use Rattle.conversation_reading.specs.declared.reading.Reading.{Reading}
use Rattle.conversation_reading.specs.declared.reading.Reading.TheVariants.{Foreign, NotText, NotJson, OverLimits, HalfPair, Single, Array}
use Rattle.conversation_reading.specs.declared.reading.TheConstants.{MOST_DEPTH_IN, MOST_ENTRIES_IN}

-- ---- members: null is there, and of a name that stands twice the last counts

abbrev pub has : List ℕ → Json → Bool
has name j = is_some (get name j)

abbrev pub there_in : Json → There
there_in j = record { id = has (codes "id") j; method = has (codes "method") j; params = has (codes "params") j; result = has (codes "result") j; error = has (codes "error") j }

abbrev pub is_object : Json → Bool
is_object (object ms) = true
is_object _ = false

-- section 4: the member `jsonrpc` is exactly "2.0"
abbrev pub is_version_2 : Json → Bool
is_version_2 j = option_map_or (bytes_eq (codes "2.0")) (option_and_then as_str (get (codes "jsonrpc") j)) false

-- section 4: an id is a string, a number or null
abbrev pub written_id : Json → Option WrittenId
written_id null = Some Null
written_id (string s) = Some (Text s)
written_id (number s) = Some (Number s)
written_id _ = None

abbrev pub id_in : Json → Option WrittenId
id_in j = option_and_then written_id (get (codes "id") j)

abbrev pub method_in : Json → Option (List ℕ)
method_in j = option_and_then as_str (get (codes "method") j)

-- section 4.2: params are an array or an object
abbrev pub is_structured : Json → Bool
is_structured (array js) = true
is_structured (object ms) = true
is_structured _ = false

abbrev pub are_unfit : Option Json → Bool
are_unfit None = false
are_unfit (Some params) = not (is_structured params)

abbrev pub is_null_value : Json → Bool
is_null_value null = true
is_null_value _ = false

abbrev pub is_array : Json → Bool
is_array (array js) = true
is_array _ = false

abbrev pub is_bare : Json → Bool
is_bare j = not (is_object j)

-- section 5.1: an error has a whole number as its code, and a string as its message
abbrev pub code_in : Json → Option (List ℕ)
code_in error = option_and_then as_number (get (codes "code") error)

abbrev pub is_error : Json → Bool
is_error error = option_map_or is_whole (code_in error) false && is_some (option_and_then as_str (get (codes "message") error))

-- beside a result it isn't looked into
abbrev pub is_unfit_error : Option Json → Option Json → Bool
is_unfit_error None result = false
is_unfit_error (Some error) (Some result) = false
is_unfit_error (Some error) None = not (is_error error)

-- ---- why an entry is no message

abbrev pub no_object : Faults
no_object = record { object = true; version = false; method = false; params = false; id = false; outcome = false; error = false }

-- of an object with a method: it is to be a request or a notification (section 4)
abbrev pub call_faults : Json → Faults
call_faults j = record { object = false; version = not (is_version_2 j); method = is_none (method_in j); params = are_unfit (get (codes "params") j); id = has (codes "id") j && is_none (id_in j); outcome = false; error = false }

-- of an object without one: it is to be an answer, which has an id, and a result or an error (section 5)
abbrev pub answer_faults : Json → There → Faults
answer_faults j there = record { object = false; version = not (is_version_2 j); method = false; params = false; id = is_none (id_in j) && (there.id || there.result || there.error); outcome = (there.result && there.error) || not (there.result || there.error); error = is_unfit_error (get (codes "error") j) (get (codes "result") j) }

abbrev pub faults_of : Json → Faults
faults_of j = if is_object j then (if has (codes "method") j then call_faults j else answer_faults j (there_in j)) else no_object

abbrev pub has_fault : Faults → Bool
has_fault f = f.object || f.version || f.method || f.params || f.id || f.outcome || f.error

-- ---- a cancel of MCP that names no request (MCP 2025-11-25, cancellation: a task has a cancel of its own)

abbrev pub names_none : Option Json → Bool
names_none None = true
names_none (Some params) = is_object params && has_fit_reason params && is_none (get (codes "requestId") params)

abbrev pub cancels_by : List ℕ → Option Json → Bool
cancels_by method params = bytes_eq method (codes "notifications/cancelled") && names_none params

abbrev pub cancels_none : Option (List ℕ) → Option Json → Bool
cancels_none method params = option_map_or (λ method. cancels_by method params) method false

-- ---- by the members that stand first

abbrev pub first_method : Json → Option (List ℕ)
first_method j = option_and_then as_str (first_of (codes "method") j)

abbrev pub first_target : Json → Option WrittenId
first_target j = option_and_then (λ method. option_and_then (target_by method) (first_of (codes "params") j)) (first_method j)

-- what else an entry may be to its reader, where a member stands twice in it
abbrev pub first_by : Bool → Json → Option First
first_by false j = None
first_by true j = Some (record { id = option_and_then written_id (first_of (codes "id") j); method = first_method j; target = first_target j })

abbrev pub first_in : Json → Option First
first_in j = first_by (has_twice j) j

-- ---- entries

abbrev pub call_kind : Bool → Bool → Kind
call_kind true has_id = Invalid
call_kind false true = Request
call_kind false false = Notification

-- an answer with a member that stands twice is broken, since it may have been another
abbrev pub kind_of : There → Bool → Bool → Kind
kind_of there is_faulty is_twice = if there.method then call_kind is_faulty there.id else (if there.result || there.error then (if is_faulty || is_twice then BrokenAnswer else Answer) else Invalid)

abbrev pub is_message : Kind → Bool
is_message Request = true
is_message Notification = true
is_message Answer = true
is_message BrokenAnswer = false
is_message Invalid = false

abbrev pub kind_in : Json → Kind
kind_in j = kind_of (there_in j) (has_fault (faults_of j)) (has_twice j)

abbrev pub entry_of : Json → Entry
entry_of j = record { kind = kind_in j; there = there_in j; faults = faults_of j; id = id_in j; method = method_in j; null_params = option_map_or is_null_value (get (codes "params") j) false; array_params = option_map_or is_array (get (codes "params") j) false; bare_result = option_map_or is_bare (get (codes "result") j) false; code = option_and_then code_in (get (codes "error") j); target = target_in j; cancels_none = cancels_none (method_in j) (get (codes "params") j); first = first_in j; has_huge = has_huge j || (has_twice j || is_deep_request (kind_in j) j) }

abbrev pub entries_of : Items → List Entry
entries_of no_items = []
entries_of (item j js) = entry_of j ∷ entries_of js

-- ---- contents

abbrev pub value_reading : Json → Reading
value_reading (array js) = Array (entries_of js)
value_reading j = Single (entry_of j)

-- why a text has no value: it nests too deep, and is JSON up to there; or it is JSON all the same, with half of a pair
abbrev pub unreadable_with : List ℕ → Option (List ℕ) → Reading
unreadable_with text (Some front) = if is_json front then OverLimits else NotJson
unreadable_with text None = if is_json text then HalfPair else NotJson

abbrev pub unreadable : List ℕ → Reading
unreadable text = unreadable_with text (front_of text)

abbrev pub json_reading : List ℕ → Option Json → Reading
json_reading text None = unreadable text
json_reading text (Some j) = value_reading j

-- A content whose frame is foreign isn't looked into. JSON is a text in UTF-8 (RFC 8259, section 8.1).
abbrev pub reading_of : Bool → List ℕ → Reading
reading_of true content = Foreign
reading_of false content = if is_utf8 content then json_reading content (value_of MOST_DEPTH_IN content) else NotText

-- ---- an array with more entries than the reader takes isn't looked into

abbrev pub limited : Reading → Reading
limited (Array entries) = if nat_lt MOST_ENTRIES_IN (length entries) then OverLimits else Array entries
limited reading = reading

abbrev pub limited_reading : Bool → List ℕ → Reading
limited_reading foreign content = limited (reading_of foreign content)
