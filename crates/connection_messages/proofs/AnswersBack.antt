-- The answers that go out are read as replies.
use Rattle.std.proofs.Common.{◌≡◌, ℕ, suc, ◌<◌, ◌≤◌, ◌^◌, List, [], ◌∷◌, ◌++◌, length, get_or, IsUtf8, true, false, Option, Some, None, option_map, if◌then◌else◌, refl, sym, ap, ◌∙◌, arith, append_assoc, decimal}
use Rattle.std.specs.Prelude.{codes, option_and_then, ℤ, pos, negsuc, nat_lt, nat_le, ◌-◌, ◌&&◌}
use Rattle.std.specs.Fmt.{signed_decimal}
use Rattle.std.proofs.lemmas.Bool.Decides.{nat_tests}
use Rattle.std.proofs.lemmas.Fmt.{decimal_is_IsNumeral}
use Rattle.std.proofs.lemmas.Str.{IsUtf8-append}
use Rattle.std.proofs.lemmas.Str.Parse.{digit_at}
use Rattle.json.specs.Find.{get, as_str, as_number}
use Rattle.json.specs.Json.{Json, null, number, string, object, no_items, item, Members, no_members, member}
use Rattle.json.specs.Print.{escape_byte, quoted}
use Rattle.json.proofs.Printed.Decimals.{IsNumber-decimal, IsNumber-signed_decimal}
use Rattle.json.proofs.Printed.Utf8.{IsUtf8-are_ascii}
use Rattle.json_texts.specs.Texts.{json_text}
use Rattle.message_ids.specs.Standard.{message_of}
use Rattle.message_ids.specs.declared.id.Id.{Id}
use Rattle.message_ids.specs.declared.id.Id.TheVariants.{Null, Text, Signed, Unsigned}
use Rattle.message_ids.specs.declared.standard.Standard.{Standard}
use Rattle.message_ids.specs.declared.standard.Standard.TheVariants.{ParseError, InvalidRequest, MethodNotFound, InvalidParams, InternalError, Cancelled, NoReply, InvalidReply}
use Rattle.connection_messages.specs.Numbers.{unsigned_of, negated, small_of, or_negative, integer_of}
use Rattle.connection_messages.specs.ReadBack.{IsData, IsI64, IsFailure, IsAnswer, IsId, AreAnswers, answer_texts, own_id, answer_as_read, answers_as_read}
use Rattle.connection_messages.specs.Reading.{error_from, error_in, own_key, reply_entry, entry_of, are_too_many, value_unit, unit_of}
use Rattle.connection_messages.specs.Texts.{id_text, code_text, error_rest, error_text, error_head, error_end, result_text, error_answer_text, fixed_error, answer_text, batch_text}
use Rattle.connection_messages.specs.declared.answer.Answer.{Answer}
use Rattle.connection_messages.specs.declared.answer.Answer.TheVariants.{Result, Error, Standard as Fixed}
use Rattle.connection_messages.specs.declared.answer.AnswerError.{AnswerError}
use Rattle.connection_messages.specs.declared.entry.Entry.{Entry}
use Rattle.connection_messages.specs.declared.reply.Reply.TheVariants as reply
use Rattle.connection_messages.specs.declared.unit.Unit.TheVariants.{Single, Batch}
use Rattle.connection_messages.specs.declared.rules.Rules.{Rules}
use Rattle.connection_messages.proofs.Batched.{AreRead, read_of}
use Rattle.connection_messages.proofs.Decimals.{below_is_true, unsigned_of-decimal, unsigned_of-none, negative_of-none}
use Rattle.connection_messages.proofs.SaidBack.{named, ascii_decimal, whole_version, unit_is}
use Rattle.connection_messages.proofs.Whole.{IsWhole, AreWhole, whole_deeper, json_of, string_text, number_text, null_text, whole_string, whole_null, whole_number, rest_text, rest_member, rest_end, object_text, none_whole, more_whole, object_whole}

-- ---- numbers

no_minus : (n : ℕ) (rest : List ℕ) → n < 2 ^ 64 → decimal n ≡ 45 ∷ rest → ⊥
no_minus n rest small is =
    let numeral = decimal_is_IsNumeral n small in
    let digit = digit_at (decimal n) 0 numeral.0.1 numeral.0.0 in
    let first : get_or (decimal n) 0 0 ≡ 45 = ap (λ t. get_or t 0 0) is in
    omega (arith, digit, first)

-- a text that begins with a minus is no decimal
minus_is_none : (s rest : List ℕ) → s ≡ 45 ∷ rest → unsigned_of s ≡ None
minus_is_none s rest is = unsigned_of-none s (λ n same small. no_minus n rest small (sym same ∙ is))

within_true : (m n : ℕ) → m ≤ n → nat_le m n ≡ true
within_true m n h = grind (arith, nat_tests)

-- a code is read as that code
pub code_read : (z : ℤ) → IsI64 z → integer_of (signed_decimal z) ≡ Some z
code_read (pos n) fits =
    let below : n < 2 ^ 64 = omega (arith, fits) in
    ap (λ o. or_negative o (small_of (unsigned_of (decimal n)))) (sym (negative_of-none (decimal n) (λ rest is. no_minus n rest below is)))
    ∙ ap small_of (unsigned_of-decimal n below) ∙ ap (λ b. if b then Some (pos n) else None) (below_is_true n (2 ^ 63) fits)
code_read (negsuc n) fits =
    let below : suc n < 2 ^ 64 = omega (arith, fits) in
    ap (λ o. or_negative (negated o) (small_of (unsigned_of (45 ∷ decimal (suc n))))) (unsigned_of-decimal (suc n) below)
    ∙ ap (λ b. or_negative (if nat_lt 0 (suc n) && b then Some (negsuc (suc n - 1)) else None) (small_of (unsigned_of (45 ∷ decimal (suc n))))) (within_true (suc n) (2 ^ 63) (omega (arith, fits)))
    ∙ ap (λ b. or_negative (if b && true then Some (negsuc (suc n - 1)) else None) (small_of (unsigned_of (45 ∷ decimal (suc n))))) (below_is_true 0 (suc n) (omega arith))
    ∙ ap (λ m. Some (negsuc m)) (let same : suc n - 1 ≡ n = omega arith in same)

number_whole : (levels : ℕ) (z : ℤ) → IsI64 z → IsWhole levels (number (signed_decimal z))
number_whole levels (pos n) fits = whole_number levels (decimal n) (IsNumber-decimal n (omega (arith, fits))) (ascii_decimal n (omega (arith, fits)))
number_whole levels (negsuc n) fits =
    whole_number levels (45 ∷ decimal (suc n)) (IsNumber-signed_decimal (negsuc n) fits)
    (IsUtf8-append (45 ∷ []) (decimal (suc n)) (IsUtf8-are_ascii (45 ∷ []) refl) (ascii_decimal (suc n) (omega (arith, fits))))

-- ---- ids

abbrev pub id_value : Id → Json
id_value Null = null
id_value (Text s) = string s
id_value (Signed z) = number (signed_decimal z)
id_value (Unsigned n) = number (decimal n)

id_value_text : (id : Id) → json_text (id_value id) ≡ id_text id
id_value_text Null = null_text
id_value_text (Text s) = string_text s
id_value_text (Signed z) = number_text (signed_decimal z)
id_value_text (Unsigned n) = number_text (decimal n)

id_whole : (levels : ℕ) (id : Id) → IsId id → IsWhole levels (id_value id)
id_whole levels Null is = whole_null levels
id_whole levels (Text s) is = whole_string levels s is
id_whole levels (Signed (pos n)) is = absurd is
id_whole levels (Signed (negsuc n)) is = number_whole levels (negsuc n) is
id_whole levels (Unsigned n) is = whole_number levels (decimal n) (IsNumber-decimal n is) (ascii_decimal n is)

key_read : (id : Id) → IsId id → own_key (option_and_then unsigned_of (as_number (id_value id))) ≡ own_id id
key_read Null is = refl
key_read (Text s) is = refl
key_read (Signed (pos n)) is = absurd is
key_read (Signed (negsuc n)) is = ap own_key (minus_is_none (45 ∷ decimal (suc n)) (decimal (suc n)) refl)
key_read (Unsigned n) is = ap own_key (unsigned_of-decimal n is)

-- ---- results

plain_names : (quoted (codes "result") ≡ codes "\"result\"") × (quoted (codes "error") ≡ codes "\"error\"") × (quoted (codes "code") ≡ codes "\"code\"") × (quoted (codes "data") ≡ codes "\"data\"")
    × (quoted (codes "message") ≡ codes "\"message\"") × (quoted (codes "id") ≡ codes "\"id\"") × (quoted (codes "jsonrpc") ≡ codes "\"jsonrpc\"") × (quoted (codes "2.0") ≡ codes "\"2.0\"")
unfolding escape_byte
plain_names = (refl, refl, refl, refl, refl, refl, refl, refl)

abbrev pub result_value : Id → Json → Json
result_value id j = object (member (codes "id") (id_value id) (member (codes "jsonrpc") (string (codes "2.0")) (member (codes "result") j no_members)))

version_rest : (ms : Members) → rest_text (member (codes "jsonrpc") (string (codes "2.0")) ms) ≡ codes ",\"jsonrpc\":\"2.0\"" ++ rest_text ms
version_rest ms =
    rest_member (codes "jsonrpc") (string (codes "2.0")) ms
    ∙ ap (λ s. 44 ∷ s) (named (codes "jsonrpc") (codes "\"jsonrpc\"") (string (codes "2.0")) (codes "\"2.0\"") (rest_text ms) plain_names.6 (string_text (codes "2.0") ∙ plain_names.7))

pub result_value_text : (id : Id) (j : Json) (text : List ℕ) → json_text j ≡ text → json_text (result_value id j) ≡ result_text id text
result_value_text id j text is =
    let last = member (codes "result") j no_members in
    object_text (codes "id") (id_value id) (member (codes "jsonrpc") (string (codes "2.0")) last)
    ∙ ap (λ s. 123 ∷ s) (named (codes "id") (codes "\"id\"") (id_value id) (id_text id) _ plain_names.5 (id_value_text id))
    ∙ ap (λ s. codes "{\"id\":" ++ (id_text id ++ s))
    (version_rest last
    ∙ ap (λ s. codes ",\"jsonrpc\":\"2.0\"" ++ s) (rest_member (codes "result") j no_members ∙ ap (λ s. 44 ∷ s) (named (codes "result") (codes "\"result\"") j text (rest_text no_members) plain_names.0 is))
    ∙ ap (λ s. codes ",\"jsonrpc\":\"2.0\",\"result\":" ++ (text ++ s)) rest_end)
    ∙ ap (λ s. codes "{\"id\":" ++ s)
    (sym (append_assoc (id_text id) (codes ",\"jsonrpc\":\"2.0\",\"result\":") (text ++ codes "}"))
    ∙ sym (append_assoc (id_text id ++ codes ",\"jsonrpc\":\"2.0\",\"result\":") text (codes "}")))

pub result_whole : (id : Id) (j : Json) → IsId id → IsWhole 120 j → IsWhole 121 (result_value id j)
result_whole id j is whole =
    object_whole 120 (codes "id") (id_value id) (member (codes "jsonrpc") (string (codes "2.0")) (member (codes "result") j no_members)) (IsUtf8-are_ascii (codes "id") refl) (id_whole 120 id is)
    (more_whole 120 (codes "jsonrpc") (string (codes "2.0")) (member (codes "result") j no_members) (IsUtf8-are_ascii (codes "jsonrpc") refl) (whole_version 120)
    (more_whole 120 (codes "result") j no_members (IsUtf8-are_ascii (codes "result") refl) whole (none_whole 120)))

pub result_entry : (rules : Rules) (id : Id) (j : Json) → IsId id → entry_of rules (result_value id j) ≡ reply_entry (own_id id) (reply.Result (json_text j))
result_entry rules id j is = ap (λ k. reply_entry k (reply.Result (json_text j))) (key_read id is)

-- ---- errors

abbrev message_members : List ℕ → Members
message_members message = member (codes "message") (string message) no_members

abbrev pub data_members : List ℕ → Option Json → Members
data_members message None = message_members message
data_members message (Some j) = member (codes "data") j (message_members message)

abbrev pub error_value : ℤ → List ℕ → Option Json → Json
error_value code message extra = object (member (codes "code") (number (signed_decimal code)) (data_members message extra))

abbrev pub answer_value : Id → Json → Json
answer_value id e = object (member (codes "error") e (member (codes "id") (id_value id) (member (codes "jsonrpc") (string (codes "2.0")) no_members)))

message_rest : (message : List ℕ) → rest_text (message_members message) ≡ codes ",\"message\":" ++ quoted message ++ codes "}"
message_rest message =
    rest_member (codes "message") (string message) no_members
    ∙ ap (λ s. 44 ∷ s) (named (codes "message") (codes "\"message\"") (string message) (quoted message) (rest_text no_members) plain_names.4 (string_text message))
    ∙ ap (λ s. codes ",\"message\":" ++ (quoted message ++ s)) rest_end

data_rest : (message : List ℕ) (given : Option (List ℕ)) (extra : Option Json) → option_map json_text extra ≡ given → rest_text (data_members message extra) ≡ codes "," ++ error_rest message given
unfolding error_rest
data_rest message None None is = message_rest message
data_rest message None (Some j) is = cc
data_rest message (Some text) None is = cc
data_rest message (Some text) (Some j) is =
    let same : json_text j ≡ text = cc in
    rest_member (codes "data") j (message_members message) ∙ ap (λ s. 44 ∷ s) (named (codes "data") (codes "\"data\"") j text (rest_text (message_members message)) plain_names.3 same)
    ∙ ap (λ s. codes ",\"data\":" ++ (text ++ s)) (message_rest message)
    ∙ ap (λ s. codes ",\"data\":" ++ s)
    (sym (append_assoc (text ++ codes "," ++ codes "\"message\":") (quoted message) (codes "}")
    ∙ append_assoc (text ++ codes ",") (codes "\"message\":") (quoted message ++ codes "}") ∙ append_assoc text (codes ",") (codes "\"message\":" ++ (quoted message ++ codes "}"))))

pub error_value_text : (e : AnswerError) (extra : Option Json) → option_map json_text extra ≡ e.«data» → json_text (error_value e.code e.message extra) ≡ error_text e
unfolding code_text
error_value_text e extra is =
    object_text (codes "code") (number (signed_decimal e.code)) (data_members e.message extra)
    ∙ ap (λ s. 123 ∷ s) (named (codes "code") (codes "\"code\"") (number (signed_decimal e.code)) (signed_decimal e.code) (rest_text (data_members e.message extra)) plain_names.2 (number_text (signed_decimal e.code)))
    ∙ ap (λ s. codes "{\"code\":" ++ (signed_decimal e.code ++ s)) (data_rest e.message e.«data» extra is)
    ∙ ap (λ s. codes "{\"code\":" ++ s) (sym (append_assoc (signed_decimal e.code) (codes ",") (error_rest e.message e.«data»)))

pub answer_value_text : (id : Id) (e : AnswerError) (j : Json) → json_text j ≡ error_text e → json_text (answer_value id j) ≡ error_answer_text id e
unfolding error_head error_end
answer_value_text id e j is =
    let behind = member (codes "id") (id_value id) (member (codes "jsonrpc") (string (codes "2.0")) no_members) in
    object_text (codes "error") j behind ∙ ap (λ s. 123 ∷ s) (named (codes "error") (codes "\"error\"") j (error_text e) (rest_text behind) plain_names.1 is)
    ∙ ap (λ s. codes "{\"error\":" ++ (error_text e ++ s))
    (rest_member (codes "id") (id_value id) (member (codes "jsonrpc") (string (codes "2.0")) no_members)
    ∙ ap (λ s. 44 ∷ s) (named (codes "id") (codes "\"id\"") (id_value id) (id_text id) _ plain_names.5 (id_value_text id))
    ∙ ap (λ s. codes ",\"id\":" ++ (id_text id ++ s)) (version_rest no_members ∙ ap (λ s. codes ",\"jsonrpc\":\"2.0\"" ++ s) rest_end)
    ∙ ap (λ s. codes ",\"id\":" ++ s) search)

-- the data of an error, where there are some
record HasExtra (message : List ℕ) (extra : Option (List ℕ)) : Type 0 where
  value : Option Json
  is : option_map json_text value ≡ extra
  whole : AreWhole 120 (data_members message value)

data_whole : (message : List ℕ) (extra : Option (List ℕ)) → IsUtf8 message → IsData extra → HasExtra message extra
data_whole message None utf8 is =
    record { value = None; is = refl; whole = more_whole 120 (codes "message") (string message) no_members (IsUtf8-are_ascii (codes "message") refl) (whole_string 120 message utf8) (none_whole 120) }
data_whole message (Some text) utf8 is =
    let it = json_of text is in
    record {
      value = Some it.value;
      is = ap Some it.is;
      whole = more_whole 120 (codes "data") it.value (message_members message) (IsUtf8-are_ascii (codes "data") refl) it.whole
          (more_whole 120 (codes "message") (string message) no_members (IsUtf8-are_ascii (codes "message") refl) (whole_string 120 message utf8) (none_whole 120));
    }

error_whole : (e : AnswerError) (h : HasExtra e.message e.«data») → IsI64 e.code → IsWhole 121 (error_value e.code e.message h.value)
error_whole e h fits = object_whole 120 (codes "code") (number (signed_decimal e.code)) (data_members e.message h.value) (IsUtf8-are_ascii (codes "code") refl) (number_whole 120 e.code fits) h.whole

answer_whole : (id : Id) (j : Json) → IsId id → IsWhole 121 j → IsWhole 122 (answer_value id j)
answer_whole id j is whole =
    object_whole 121 (codes "error") j (member (codes "id") (id_value id) (member (codes "jsonrpc") (string (codes "2.0")) no_members)) (IsUtf8-are_ascii (codes "error") refl) whole
    (more_whole 121 (codes "id") (id_value id) (member (codes "jsonrpc") (string (codes "2.0")) no_members) (IsUtf8-are_ascii (codes "id") refl) (id_whole 121 id is)
    (more_whole 121 (codes "jsonrpc") (string (codes "2.0")) no_members (IsUtf8-are_ascii (codes "jsonrpc") refl) (whole_version 121) (none_whole 121)))

error_found : (code : ℤ) (message : List ℕ) (extra : Option Json) → (get (codes "code") (error_value code message extra) ≡ Some (number (signed_decimal code)))
    × (get (codes "message") (error_value code message extra) ≡ Some (string message)) × (get (codes "data") (error_value code message extra) ≡ extra)
error_found code message None = (refl, refl, refl)
error_found code message (Some j) = (refl, refl, refl)

error_read : (e : AnswerError) (extra : Option Json) → IsI64 e.code → option_map json_text extra ≡ e.«data»
    → error_in (error_value e.code e.message extra) ≡ reply.Error (record { code = e.code; message = e.message; «data» = e.«data» })
error_read e extra fits is =
    let j = error_value e.code e.message extra in
    let f = error_found e.code e.message extra in
    let coded : option_and_then integer_of (option_and_then as_number (get (codes "code") j)) ≡ Some e.code = ap (λ o. option_and_then integer_of (option_and_then as_number o)) f.0 ∙ code_read e.code fits in
    ap (λ c. error_from c (option_and_then as_str (get (codes "message") j)) (option_map json_text (get (codes "data") j))) coded
    ∙ ap (λ m. error_from (Some e.code) (option_and_then as_str m) (option_map json_text (get (codes "data") j))) f.1
    ∙ ap (λ d. error_from (Some e.code) (Some e.message) (option_map json_text d)) f.2 ∙ ap (λ d. error_from (Some e.code) (Some e.message) d) is

error_entry : (rules : Rules) (id : Id) (e : AnswerError) (extra : Option Json) → IsId id → IsI64 e.code → option_map json_text extra ≡ e.«data»
    → entry_of rules (answer_value id (error_value e.code e.message extra)) ≡ reply_entry (own_id id) (reply.Error (record { code = e.code; message = e.message; «data» = e.«data» }))
error_entry rules id e extra is fits same =
    ap (λ r. reply_entry (own_key (option_and_then unsigned_of (as_number (id_value id)))) r) (error_read e extra fits same)
    ∙ ap (λ k. reply_entry k (reply.Error (record { code = e.code; message = e.message; «data» = e.«data» }))) (key_read id is)

-- ---- answers

pub record ReadsAs (rules : Rules) (text : List ℕ) (e : Entry) : Type 0 where
  pub value : Json
  pub is : json_text value ≡ text
  pub whole : IsWhole 122 value
  pub alone : value_unit rules value ≡ Single (entry_of rules value)
  pub entry : entry_of rules value ≡ e

failure_is : (rules : Rules) (id : Id) (e : AnswerError) → IsId id → IsFailure e
    → ReadsAs rules (error_answer_text id e) (reply_entry (own_id id) (reply.Error (record { code = e.code; message = e.message; «data» = e.«data» })))
failure_is rules id e is failure =
    let h = data_whole e.message e.«data» failure.message failure.extra in
    let j = error_value e.code e.message h.value in
    record {
      value = answer_value id j;
      is = answer_value_text id e j (error_value_text e h.value h.is);
      whole = answer_whole id j is (error_whole e h failure.code);
      alone = refl;
      entry = error_entry rules id e h.value is failure.code h.is;
    }

fixed_is : (s : Standard) → IsFailure (fixed_error s)
fixed_is ParseError = record { code = omega arith; message = IsUtf8-are_ascii (message_of ParseError) refl; extra = tt }
fixed_is InvalidRequest = record { code = omega arith; message = IsUtf8-are_ascii (message_of InvalidRequest) refl; extra = tt }
fixed_is MethodNotFound = record { code = omega arith; message = IsUtf8-are_ascii (message_of MethodNotFound) refl; extra = tt }
fixed_is InvalidParams = record { code = omega arith; message = IsUtf8-are_ascii (message_of InvalidParams) refl; extra = tt }
fixed_is InternalError = record { code = omega arith; message = IsUtf8-are_ascii (message_of InternalError) refl; extra = tt }
fixed_is Cancelled = record { code = omega arith; message = IsUtf8-are_ascii (message_of Cancelled) refl; extra = tt }
fixed_is NoReply = record { code = omega arith; message = IsUtf8-are_ascii (message_of NoReply) refl; extra = tt }
fixed_is InvalidReply = record { code = omega arith; message = IsUtf8-are_ascii (message_of InvalidReply) refl; extra = tt }

pub answer_is : (rules : Rules) (id : Id) (a : Answer) → IsId id → IsAnswer a → ReadsAs rules (answer_text id a) (answer_as_read id a)
answer_is rules id (Result text) is answer =
    let it = json_of text answer in
    record {
      value = result_value id it.value;
      is = result_value_text id it.value text it.is;
      whole = whole_deeper 121 122 (result_value id it.value) (omega arith) (result_whole id it.value is it.whole);
      alone = refl;
      entry = result_entry rules id it.value is ∙ ap (λ s. reply_entry (own_id id) (reply.Result s)) it.is;
    }
answer_is rules id (Error e) is answer = failure_is rules id e is answer
answer_is rules id (Fixed s) is answer = failure_is rules id (fixed_error s) is (fixed_is s)

pub answer_read : (rules : Rules) (id : Id) (a : Answer) → IsId id → IsAnswer a → unit_of rules false (answer_text id a) ≡ Single (answer_as_read id a)
answer_read rules id a is answer =
    let it = answer_is rules id a is answer in
    unit_is rules 122 it.value (answer_text id a) it.is it.whole (omega arith) ∙ it.alone ∙ ap Single it.entry

answers_are : (rules : Rules) (as_given : List (Id × Answer)) → AreAnswers as_given → AreRead rules 122 (answer_texts as_given) (answers_as_read as_given)
answers_are rules [] are = record { items = no_items; are = tt }
answers_are rules (a ∷ more) are =
    let it = answer_is rules a.0 a.1 are.0 are.1 in
    let others = answers_are rules more are.2 in
    record { items = item it.value others.items; are = (it.is, it.whole, it.entry, others.are) }

length-answers : (all : List (Id × Answer)) → length (answers_as_read all) ≡ length all
length-answers [] = refl
length-answers (a ∷ more) = ap suc (length-answers more)

pub answers_read : (rules : Rules) (a : Id × Answer) (more : List (Id × Answer)) → are_too_many rules.most_entries (length (a ∷ more)) ≡ false → AreAnswers (a ∷ more)
    → unit_of rules false (batch_text (answer_texts (a ∷ more))) ≡ Batch (answers_as_read (a ∷ more))
answers_read rules a more kept are =
    read_of rules 122 (answer_text a.0 a.1) (answer_texts more) (answer_as_read a.0 a.1) (answers_as_read more) (omega arith) (ap (are_too_many rules.most_entries) (length-answers (a ∷ more)) ∙ kept) (answers_are rules (a ∷ more) are)
