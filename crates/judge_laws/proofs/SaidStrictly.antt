-- The texts that a connection writes are read strictly as messages.
use Rattle.std.proofs.Common.{◌≡◌, ℕ, ◌<◌, ◌≤◌, ◌^◌, not, List, Bool, true, false, Option, Some, None, option_map, if◌then◌else◌, refl, sym, ap, subst, ◌∙◌, arith}
use Rattle.std.specs.Str.{is_utf8}
use Rattle.std.proofs.lemmas.Str.{is_utf8-from_IsUtf8}
use Rattle.json.specs.Json.{Json, null, boolean, number, string, array, object, Members}
use Rattle.json_texts.specs.Texts.{json_text, value_of}
use Rattle.connection_messages.specs.ReadBack.{IsSayable, IsId, IsAnswer}
use Rattle.connection_messages.specs.Reading.{call_params}
use Rattle.connection_messages.specs.Texts.{call_text, notice_text, withdrawal_text, result_text}
use Rattle.connection_messages.specs.declared.answer.Answer.TheVariants.{Result}
use Rattle.connection_messages.specs.declared.cancels.Cancels.{Cancels}
use Rattle.connection_messages.specs.declared.cancels.Cancels.TheVariants.{Lsp, Mcp}
use Rattle.connection_messages.specs.declared.outgoing.Outgoing.{Outgoing}
use Rattle.connection_messages.proofs.AnswersBack.{result_value, result_value_text, result_whole}
use Rattle.connection_messages.proofs.SaidBack.{params_of, call_value, call_value_text, call_whole, notice_value, notice_value_text, notice_whole, withdrawal_value, withdrawal_value_text, withdrawal_whole}
use Rattle.connection_messages.proofs.Whole.{IsWhole, read_back, whole_deeper, json_of}
use Rattle.conversation_reading.specs.Strictly.{is_structured, are_unfit, entry_of, has_fault, call_kind, json_reading, reading_of}
use Rattle.conversation_reading.specs.declared.entry.Faults.{Faults}
use Rattle.conversation_reading.specs.declared.entry.Kind.TheVariants.{Request, Notification, Answer}
use Rattle.conversation_reading.specs.declared.reading.Reading.TheVariants.{Single, NotText}
use Rattle.conversation_reading.specs.declared.reading.TheConstants.{MOST_DEPTH_IN}
use Rattle.message_ids.specs.declared.id.Id.{Id}
use Rattle.message_ids.specs.declared.id.Id.TheVariants.{Null, Text, Signed, Unsigned}
use Rattle.judge_laws.specs.Messages.{IsEntry, IsMessage, HasKey, IsKeyed, HasNoId}

-- ---- a whole object's text

utf8_by : (levels : ℕ) (j : Json) → IsWhole levels j → is_utf8 (json_text j) ≡ true
utf8_by levels j whole = is_utf8-from_IsUtf8 (json_text j) whole.utf8

pub object_reading : (levels : ℕ) (ms : Members) (text : List ℕ) → json_text (object ms) ≡ text → IsWhole levels (object ms) → levels ≤ MOST_DEPTH_IN → reading_of false text ≡ Single (entry_of (object ms))
object_reading levels ms text is whole few =
    let j : Json = object ms in
    ap (λ t. if is_utf8 t then json_reading t (value_of MOST_DEPTH_IN t) else NotText) (sym is)
    ∙ ap (λ b. if b then json_reading (json_text j) (value_of MOST_DEPTH_IN (json_text j)) else NotText) (utf8_by levels j whole)
    ∙ ap (json_reading (json_text j)) (read_back MOST_DEPTH_IN j (whole_deeper levels MOST_DEPTH_IN j few whole))

-- ---- params that can be said

structured_by : (j : Json) (text : List ℕ) → call_params false (Some j) ≡ Some (Some text) → is_structured j ≡ true
structured_by null text is = cc
structured_by (boolean b) text is = cc
structured_by (number s) text is = cc
structured_by (string s) text is = cc
structured_by (array js) text is = refl
structured_by (object ms) text is = refl

pub fit_by : (params : Option (List ℕ)) (value : Option Json) → option_map json_text value ≡ params → call_params false value ≡ Some params → are_unfit value ≡ false
fit_by params None is read = refl
fit_by None (Some j) is read = cc
fit_by (Some text) (Some j) is read = ap not (structured_by j text read)

-- ---- calls, notifications and withdrawals

abbrev faults_with : Bool → Faults
faults_with params = record { object = false; version = false; method = false; params = params; id = false; outcome = false; error = false }

pub call_is : (key : ℕ) (method : List ℕ) (value : Option Json) → are_unfit value ≡ false → IsEntry Request (entry_of (call_value key method value))
call_is key method None fit = record { kind_is = refl; faultless = refl; one_kind = refl; once = refl }
call_is key method (Some j) fit = record {
  kind_is = ap (λ b. call_kind (has_fault (faults_with b)) true) fit;
  faultless = ap (λ b. has_fault (faults_with b)) fit;
  one_kind = refl;
  once = refl;
}

notice_is : (method : List ℕ) (value : Option Json) → are_unfit value ≡ false → IsEntry Notification (entry_of (notice_value method value))
notice_is method None fit = record { kind_is = refl; faultless = refl; one_kind = refl; once = refl }
notice_is method (Some j) fit = record {
  kind_is = ap (λ b. call_kind (has_fault (faults_with b)) false) fit;
  faultless = ap (λ b. has_fault (faults_with b)) fit;
  one_kind = refl;
  once = refl;
}

pub call_message : (key : ℕ) (o : Outgoing) → key < 2 ^ 64 → IsSayable o → IsMessage Request (reading_of false (call_text key o))
call_message key o fits sayable =
    let h = params_of o.params sayable.params in
    subst (IsMessage Request) (sym (object_reading 121 _ (call_text key o) (call_value_text key o h.value h.is) (call_whole key o h fits sayable.method) (omega arith)))
    (call_is key o.method h.value (fit_by o.params h.value h.is (h.read false)))

pub call_has_key : (key : ℕ) (method : List ℕ) (value : Option Json) → HasKey key (entry_of (call_value key method value))
call_has_key key method None = refl
call_has_key key method (Some j) = refl

pub call_keyed : (key : ℕ) (o : Outgoing) → key < 2 ^ 64 → IsSayable o → IsKeyed key (reading_of false (call_text key o))
call_keyed key o fits sayable =
    let h = params_of o.params sayable.params in
    subst (IsKeyed key) (sym (object_reading 121 _ (call_text key o) (call_value_text key o h.value h.is) (call_whole key o h fits sayable.method) (omega arith)))
    (call_has_key key o.method h.value)

pub notice_message : (o : Outgoing) → IsSayable o → IsMessage Notification (reading_of false (notice_text o))
notice_message o sayable =
    let h = params_of o.params sayable.params in
    subst (IsMessage Notification) (sym (object_reading 121 _ (notice_text o) (notice_value_text o h.value h.is) (notice_whole o h sayable.method) (omega arith)))
    (notice_is o.method h.value (fit_by o.params h.value h.is (h.read false)))

no_id : (method : List ℕ) (value : Option Json) → (entry_of (notice_value method value)).id ≡ None
no_id method None = refl
no_id method (Some j) = refl

pub notice_unnamed : (o : Outgoing) → IsSayable o → HasNoId (reading_of false (notice_text o))
notice_unnamed o sayable =
    let h = params_of o.params sayable.params in
    subst HasNoId (sym (object_reading 121 _ (notice_text o) (notice_value_text o h.value h.is) (notice_whole o h sayable.method) (omega arith))) (no_id o.method h.value)

withdrawal_is : (by : Cancels) (key : ℕ) → IsEntry Notification (entry_of (withdrawal_value by key))
withdrawal_is Lsp key = record { kind_is = refl; faultless = refl; one_kind = refl; once = refl }
withdrawal_is Mcp key = record { kind_is = refl; faultless = refl; one_kind = refl; once = refl }

pub withdrawal_message : (by : Cancels) (key : ℕ) → key < 2 ^ 64 → IsMessage Notification (reading_of false (withdrawal_text by key))
withdrawal_message by key fits =
    subst (IsMessage Notification) (sym (object_reading 121 _ (withdrawal_text by key) (withdrawal_value_text by key) (withdrawal_whole by key fits) (omega arith))) (withdrawal_is by key)

withdrawal_no_id : (by : Cancels) (key : ℕ) → (entry_of (withdrawal_value by key)).id ≡ None
withdrawal_no_id Lsp key = refl
withdrawal_no_id Mcp key = refl

pub withdrawal_unnamed : (by : Cancels) (key : ℕ) → key < 2 ^ 64 → HasNoId (reading_of false (withdrawal_text by key))
withdrawal_unnamed by key fits =
    subst HasNoId (sym (object_reading 121 _ (withdrawal_text by key) (withdrawal_value_text by key) (withdrawal_whole by key fits) (omega arith))) (withdrawal_no_id by key)

-- ---- answers with a result

pub result_is : (id : Id) (j : Json) → IsEntry Answer (entry_of (result_value id j))
result_is Null j = record { kind_is = refl; faultless = refl; one_kind = refl; once = refl }
result_is (Text s) j = record { kind_is = refl; faultless = refl; one_kind = refl; once = refl }
result_is (Signed z) j = record { kind_is = refl; faultless = refl; one_kind = refl; once = refl }
result_is (Unsigned n) j = record { kind_is = refl; faultless = refl; one_kind = refl; once = refl }

pub result_message : (id : Id) (text : List ℕ) → IsId id → IsAnswer (Result text) → IsMessage Answer (reading_of false (result_text id text))
result_message id text is json =
    let it = json_of text json in
    subst (IsMessage Answer) (sym (object_reading 121 _ (result_text id text) (result_value_text id it.value text it.is) (result_whole id it.value is it.whole) (omega arith))) (result_is id it.value)
