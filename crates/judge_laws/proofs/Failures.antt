-- Answers with an error, as a connection writes them.
use Rattle.std.proofs.Common.{◌≡◌, ◌==◌, ◌&&◌, ◌||◌, not, ℕ, suc, ◌+◌, ◌<◌, List, [], ◌∷◌, IsUtf8, Bool, true, false, cond, Option, Some, None, option_map, if◌then◌else◌, refl, sym, ap, subst, ◌∙◌, arith, decimal, position, nat_lt, length}
use Rattle.std.specs.Prelude.{codes, ℤ, pos, negsuc}
use Rattle.std.specs.Fmt.{signed_decimal}
use Rattle.std.specs.List.{position_or_len}
use Rattle.std.specs.Char.{digit_value}
use Rattle.std.specs.Str.Parse.{AllDigits}
use Rattle.std.proofs.lemmas.Bool.{eqb-true, false_from_ne_true, ltb-true, lt-ltb}
use Rattle.std.proofs.lemmas.Fmt.{decimal_is_IsNumeral}
use Rattle.std.proofs.lemmas.Str.{IsUtf8-append}
use Rattle.json.specs.Json.{Json, number, string, no_members, member}
use Rattle.json.proofs.Printed.Decimals.{IsNumber-decimal, IsNumber-signed_decimal}
use Rattle.json.proofs.Printed.Utf8.{IsUtf8-are_ascii}
use Rattle.json_texts.specs.Texts.{json_text}
use Rattle.connection_messages.specs.ReadBack.{IsData, IsI64, IsFailure, IsAnswer, IsId}
use Rattle.connection_messages.specs.Texts.{error_answer_text, answer_text, fixed_error, result_text}
use Rattle.connection_messages.specs.declared.answer.Answer.{Answer as Said}
use Rattle.connection_messages.specs.declared.answer.Answer.TheVariants.{Result, Error, Standard as Fixed}
use Rattle.connection_messages.specs.declared.answer.AnswerError.{AnswerError}
use Rattle.connection_messages.proofs.AnswersBack.{id_value, data_members, error_value, error_value_text, answer_value, answer_value_text, result_value, result_value_text, result_whole}
use Rattle.connection_messages.proofs.SaidBack.{ascii_decimal, whole_version}
use Rattle.connection_messages.proofs.Whole.{IsWhole, AreWhole, whole_deeper, json_of, whole_string, whole_null, whole_number, none_whole, more_whole, object_whole}
use Rattle.conversation_reading.specs.Numbers.{parts_at, is_mark, is_point, is_whole, is_whole_of, is_whole_with}
use Rattle.conversation_reading.specs.Strictly.{is_error, entry_of, has_fault, reading_of}
use Rattle.conversation_reading.specs.declared.entry.Faults.{Faults}
use Rattle.conversation_reading.specs.declared.entry.Kind.{Kind}
use Rattle.conversation_reading.specs.declared.entry.Kind.TheVariants.{Answer, BrokenAnswer}
use Rattle.message_ids.specs.Standard.{message_of}
use Rattle.message_ids.specs.declared.id.Id.{Id}
use Rattle.message_ids.specs.declared.id.Id.TheVariants.{Null, Text, Signed, Unsigned}
use Rattle.message_ids.specs.declared.standard.Standard.{Standard}
use Rattle.message_ids.specs.declared.standard.Standard.TheVariants.{ParseError, InvalidRequest, MethodNotFound, InvalidParams, InternalError, Cancelled, NoReply, InvalidReply}
use Rattle.judge_laws.specs.Messages.{IsEntry, IsMessage, written_as, HasId, code_of, HasCode}
use Rattle.judge_laws.proofs.SaidStrictly.{object_reading, result_is, result_message}

-- ---- the decimals of a code are a whole number

lt_more : (n m : ℕ) → nat_lt (1 + n) (suc m) ≡ nat_lt n m
lt_more n m = both (nat_lt (1 + n) (suc m)) (nat_lt n m) (λ is. let e = ltb-true (1 + n) (suc m) is in lt-ltb n m (omega arith)) (λ is. let e = ltb-true n m is in lt-ltb (1 + n) (suc m) (omega arith))
  where
    both : (a b : Bool) → (a ≡ true → b ≡ true) → (b ≡ true → a ≡ true) → a ≡ b
    both true true f g = refl
    both true false f g = sym (f refl)
    both false true f g = g refl
    both false false f g = refl

later_by : (b : Bool) (n : ℕ) → cond b (Some n) None ≡ None → cond b (Some (1 + n)) None ≡ None
later_by true n is = cc
later_by false n is = refl

pub passed_by : {X : Type 0} (p : X → Bool) (x : X) (xs : List X) → p x ≡ false → position p xs ≡ None → position p (x ∷ xs) ≡ None
passed_by p x xs fails none =
    ap (λ b. cond (nat_lt (cond (not b) (1 + position_or_len p xs) 0) (suc (length xs))) (Some (cond (not b) (1 + position_or_len p xs) 0)) None) fails
    ∙ ap (λ t. cond t (Some (1 + position_or_len p xs)) None) (lt_more (position_or_len p xs) (length xs))
    ∙ later_by (nat_lt (position_or_len p xs) (length xs)) (position_or_len p xs) none

pub none_among : (p : ℕ → Bool) → ((c : ℕ) → digit_value c < 10 → p c ≡ false) → (cs : List ℕ) → AllDigits 10 cs → position p cs ≡ None
none_among p fails [] digits = refl
none_among p fails (c ∷ cs) digits = passed_by p c cs (fails c digits.0) (none_among p fails cs digits.1)

pub not_this : (c other : ℕ) → digit_value c < 10 → (digit_value other < 10 → ⊥) → (c == other) ≡ false
not_this c other digit no_digit = false_from_ne_true (c == other) (λ is. absurd (no_digit (subst (λ n. digit_value n < 10) (eqb-true c other is) digit)))

no_e : digit_value 101 < 10 → ⊥
no_e lt = omega arith

no_large_e : digit_value 69 < 10 → ⊥
no_large_e lt = omega arith

no_dot : digit_value 46 < 10 → ⊥
no_dot lt = omega arith

pub no_mark : (c : ℕ) → digit_value c < 10 → is_mark c ≡ false
no_mark c digit = ap (λ b. b || (c == 69)) (not_this c 101 digit no_e) ∙ not_this c 69 digit no_large_e

pub no_point : (c : ℕ) → digit_value c < 10 → is_point c ≡ false
no_point c digit = not_this c 46 digit no_dot

pub whole_by : (digits : List ℕ) → position is_mark digits ≡ None → position is_point digits ≡ None → is_whole digits ≡ true
whole_by digits marks points = ap (λ o. is_whole_of (parts_at digits o)) marks ∙ ap (λ o. is_whole_with (parts_at digits o) []) points

code_whole : (z : ℤ) → IsI64 z → is_whole (signed_decimal z) ≡ true
code_whole (pos n) fits =
    let digits = (decimal_is_IsNumeral n (omega (arith, fits))).0.1 in
    whole_by (decimal n) (none_among is_mark no_mark (decimal n) digits) (none_among is_point no_point (decimal n) digits)
code_whole (negsuc n) fits =
    let digits = (decimal_is_IsNumeral (suc n) (omega (arith, fits))).0.1 in
    whole_by (45 ∷ decimal (suc n)) (passed_by is_mark 45 (decimal (suc n)) refl (none_among is_mark no_mark (decimal (suc n)) digits))
    (passed_by is_point 45 (decimal (suc n)) refl (none_among is_point no_point (decimal (suc n)) digits))

-- ---- the parts of an answer

number_is_whole : (levels : ℕ) (z : ℤ) → IsI64 z → IsWhole levels (number (signed_decimal z))
number_is_whole levels (pos n) fits = whole_number levels (decimal n) (IsNumber-decimal n (omega (arith, fits))) (ascii_decimal n (omega (arith, fits)))
number_is_whole levels (negsuc n) fits =
    whole_number levels (45 ∷ decimal (suc n)) (IsNumber-signed_decimal (negsuc n) fits)
    (IsUtf8-append (45 ∷ []) (decimal (suc n)) (IsUtf8-are_ascii (45 ∷ []) refl) (ascii_decimal (suc n) (omega (arith, fits))))

id_is_whole : (levels : ℕ) (id : Id) → IsId id → IsWhole levels (id_value id)
id_is_whole levels Null is = whole_null levels
id_is_whole levels (Text s) is = whole_string levels s is
id_is_whole levels (Signed (pos n)) is = absurd is
id_is_whole levels (Signed (negsuc n)) is = number_is_whole levels (negsuc n) is
id_is_whole levels (Unsigned n) is = whole_number levels (decimal n) (IsNumber-decimal n is) (ascii_decimal n is)

-- the data of an error, where there are some
record HasData (message : List ℕ) (given : Option (List ℕ)) : Type 0 where
  value : Option Json
  is : option_map json_text value ≡ given
  whole : AreWhole 120 (data_members message value)

data_is_whole : (message : List ℕ) (given : Option (List ℕ)) → IsUtf8 message → IsData given → HasData message given
data_is_whole message None utf8 is =
    record { value = None; is = refl; whole = more_whole 120 (codes "message") (string message) no_members (IsUtf8-are_ascii (codes "message") refl) (whole_string 120 message utf8) (none_whole 120) }
data_is_whole message (Some text) utf8 is =
    let it = json_of text is in
    record {
      value = Some it.value;
      is = ap Some it.is;
      whole = more_whole 120 (codes "data") it.value (member (codes "message") (string message) no_members) (IsUtf8-are_ascii (codes "data") refl) it.whole
          (more_whole 120 (codes "message") (string message) no_members (IsUtf8-are_ascii (codes "message") refl) (whole_string 120 message utf8) (none_whole 120));
    }

answer_is_whole : (id : Id) (j : Json) → IsId id → IsWhole 121 j → IsWhole 122 (answer_value id j)
answer_is_whole id j is whole =
    object_whole 121 (codes "error") j (member (codes "id") (id_value id) (member (codes "jsonrpc") (string (codes "2.0")) no_members)) (IsUtf8-are_ascii (codes "error") refl) whole
    (more_whole 121 (codes "id") (id_value id) (member (codes "jsonrpc") (string (codes "2.0")) no_members) (IsUtf8-are_ascii (codes "id") refl) (id_is_whole 121 id is)
    (more_whole 121 (codes "jsonrpc") (string (codes "2.0")) no_members (IsUtf8-are_ascii (codes "jsonrpc") refl) (whole_version 121) (none_whole 121)))

-- ---- read strictly

error_is : (code : ℤ) (message : List ℕ) (extra : Option Json) → IsI64 code → is_error (error_value code message extra) ≡ true
error_is code message None fits = ap (λ b. b && true) (code_whole code fits)
error_is code message (Some j) fits = ap (λ b. b && true) (code_whole code fits)

abbrev faults_with : Bool → Faults
faults_with error = record { object = false; version = false; method = false; params = false; id = false; outcome = false; error = error }

abbrev kind_with : Bool → Kind
kind_with faulty = if faulty then BrokenAnswer else Answer

failure_by : (id : Id) (e : Json) → is_error e ≡ true → IsEntry Answer (entry_of (answer_value id e))
failure_by Null e is = record { kind_is = ap (λ b. kind_with (has_fault (faults_with (not b)) || false)) is; faultless = ap (λ b. has_fault (faults_with (not b))) is; one_kind = refl; once = refl }
failure_by (Text s) e is = record { kind_is = ap (λ b. kind_with (has_fault (faults_with (not b)) || false)) is; faultless = ap (λ b. has_fault (faults_with (not b))) is; one_kind = refl; once = refl }
failure_by (Signed z) e is = record { kind_is = ap (λ b. kind_with (has_fault (faults_with (not b)) || false)) is; faultless = ap (λ b. has_fault (faults_with (not b))) is; one_kind = refl; once = refl }
failure_by (Unsigned n) e is = record { kind_is = ap (λ b. kind_with (has_fault (faults_with (not b)) || false)) is; faultless = ap (λ b. has_fault (faults_with (not b))) is; one_kind = refl; once = refl }

failure_named : (id : Id) (e : Json) → (entry_of (answer_value id e)).id ≡ Some (written_as id)
failure_named Null e = refl
failure_named (Text s) e = refl
failure_named (Signed z) e = refl
failure_named (Unsigned n) e = refl

failure_coded : (id : Id) (code : ℤ) (message : List ℕ) (extra : Option Json) → (entry_of (answer_value id (error_value code message extra))).code ≡ Some (signed_decimal code)
failure_coded id code message None = refl
failure_coded id code message (Some j) = refl

result_named : (id : Id) (j : Json) → (entry_of (result_value id j)).id ≡ Some (written_as id)
result_named Null j = refl
result_named (Text s) j = refl
result_named (Signed z) j = refl
result_named (Unsigned n) j = refl

-- the value of an answer's text
pub record AnswerValue (id : Id) (code : Option (List ℕ)) (text : List ℕ) : Type 0 where
  pub value : Json
  pub is : json_text value ≡ text
  pub whole : IsWhole 122 value
  pub entry : IsEntry Answer (entry_of value)
  pub id_is : (entry_of value).id ≡ Some (written_as id)
  pub code_is : (entry_of value).code ≡ code
  pub coded : HasCode code (reading_of false text)
  pub alone : IsMessage Answer (reading_of false text)
  pub named : HasId (written_as id) (reading_of false text)

failure_value : (id : Id) (e : AnswerError) → IsId id → IsFailure e → AnswerValue id (Some (signed_decimal e.code)) (error_answer_text id e)
failure_value id e is failure =
    let h = data_is_whole e.message e.«data» failure.message failure.extra in
    let j = error_value e.code e.message h.value in
    let whole = object_whole 120 (codes "code") (number (signed_decimal e.code)) (data_members e.message h.value) (IsUtf8-are_ascii (codes "code") refl) (number_is_whole 120 e.code failure.code) h.whole in
    let text = answer_value_text id e j (error_value_text e h.value h.is) in
    let entry = failure_by id j (error_is e.code e.message h.value failure.code) in
    record {
      value = answer_value id j;
      is = text;
      whole = answer_is_whole id j is whole;
      entry = entry;
      id_is = failure_named id j;
      code_is = failure_coded id e.code e.message h.value;
      coded = subst (HasCode (Some (signed_decimal e.code))) (sym (object_reading 122 _ (error_answer_text id e) text (answer_is_whole id j is whole) (omega arith))) (failure_coded id e.code e.message h.value);
      alone = subst (IsMessage Answer) (sym (object_reading 122 _ (error_answer_text id e) text (answer_is_whole id j is whole) (omega arith))) entry;
      named = subst (HasId (written_as id)) (sym (object_reading 122 _ (error_answer_text id e) text (answer_is_whole id j is whole) (omega arith))) (failure_named id j);
    }

fixed_is : (s : Standard) → IsFailure (fixed_error s)
fixed_is ParseError = record { code = omega arith; message = IsUtf8-are_ascii (message_of ParseError) refl; extra = tt }
fixed_is InvalidRequest = record { code = omega arith; message = IsUtf8-are_ascii (message_of InvalidRequest) refl; extra = tt }
fixed_is MethodNotFound = record { code = omega arith; message = IsUtf8-are_ascii (message_of MethodNotFound) refl; extra = tt }
fixed_is InvalidParams = record { code = omega arith; message = IsUtf8-are_ascii (message_of InvalidParams) refl; extra = tt }
fixed_is InternalError = record { code = omega arith; message = IsUtf8-are_ascii (message_of InternalError) refl; extra = tt }
fixed_is Cancelled = record { code = omega arith; message = IsUtf8-are_ascii (message_of Cancelled) refl; extra = tt }
fixed_is NoReply = record { code = omega arith; message = IsUtf8-are_ascii (message_of NoReply) refl; extra = tt }
fixed_is InvalidReply = record { code = omega arith; message = IsUtf8-are_ascii (message_of InvalidReply) refl; extra = tt }

pub answer_value_of : (id : Id) (a : Said) → IsId id → IsAnswer a → AnswerValue id (code_of a) (answer_text id a)
answer_value_of id (Result text) is answer =
    let it = json_of text answer in
    record {
      value = result_value id it.value;
      is = result_value_text id it.value text it.is;
      whole = whole_deeper 121 122 (result_value id it.value) (omega arith) (result_whole id it.value is it.whole);
      entry = result_is id it.value;
      id_is = result_named id it.value;
      code_is = refl;
      coded = subst (HasCode None) (sym (object_reading 121 _ (result_text id text) (result_value_text id it.value text it.is) (result_whole id it.value is it.whole) (omega arith))) refl;
      alone = result_message id text is answer;
      named = subst (HasId (written_as id)) (sym (object_reading 121 _ (result_text id text) (result_value_text id it.value text it.is) (result_whole id it.value is it.whole) (omega arith))) (result_named id it.value);
    }
answer_value_of id (Error e) is answer = failure_value id e is answer
answer_value_of id (Fixed s) is answer = failure_value id (fixed_error s) is (fixed_is s)

pub answer_message : (id : Id) (a : Said) → IsId id → IsAnswer a → IsMessage Answer (reading_of false (answer_text id a))
answer_message id a is answer = (answer_value_of id a is answer).alone

pub answer_named : (id : Id) (a : Said) → IsId id → IsAnswer a → HasId (written_as id) (reading_of false (answer_text id a))
answer_named id a is answer = (answer_value_of id a is answer).named

pub answer_coded : (id : Id) (a : Said) → IsId id → IsAnswer a → HasCode (code_of a) (reading_of false (answer_text id a))
answer_coded id a is answer = (answer_value_of id a is answer).coded
