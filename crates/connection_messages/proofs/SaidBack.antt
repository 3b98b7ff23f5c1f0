-- The texts that go out are read as what was said.
use Rattle.std.proofs.Common.{◌≡◌, ℕ, ◌<◌, ◌≤◌, ◌^◌, List, ◌∷◌, ◌++◌, IsUtf8, Bool, true, false, ◌||◌, Option, Some, None, option_map, is_some, if◌then◌else◌, refl, sym, ap, ◌∙◌, arith, append_assoc, decimal}
use Rattle.std.specs.Prelude.{codes, option_and_then}
use Rattle.std.proofs.lemmas.Fmt.{IsAscii-decimal}
use Rattle.std.proofs.lemmas.Str.{IsUtf8-from_ascii}
use Rattle.json.specs.Find.{get, as_str}
use Rattle.json.specs.Json.{Json, number, string, object, Members, no_members, member}
use Rattle.json.specs.Print.{escape_byte, quoted}
use Rattle.json.proofs.Printed.Decimals.{IsNumber-decimal}
use Rattle.json.proofs.Printed.Utf8.{IsUtf8-are_ascii}
use Rattle.json_texts.specs.Texts.{json_text, value_of}
use Rattle.message_ids.specs.declared.id.Id.{Id}
use Rattle.message_ids.specs.declared.id.Id.TheVariants.{Unsigned}
use Rattle.connection_messages.specs.Envelope.{cancels_by}
use Rattle.connection_messages.specs.Numbers.{negative_of}
use Rattle.connection_messages.specs.Params.{is_structured}
use Rattle.connection_messages.specs.ReadBack.{AreParams, IsSayable, call_as_read, notice_as_read}
use Rattle.connection_messages.specs.Reading.{is_version_2, number_id_of, call_id, call_params, call_in, cancel_method, cancel_member, cancelled_id, cancel_or_call, call_entry, target_in, key_in, reply_in, reply_entry, entry_of, unit_of, unit_of_reading, value_unit}
use Rattle.connection_messages.specs.Texts.{params_member, method_text, call_text, notice_text, withdrawal_head, withdrawal_text}
use Rattle.connection_messages.specs.declared.call.Call.{Call as Came}
use Rattle.connection_messages.specs.declared.cancels.Cancels.{Cancels}
use Rattle.connection_messages.specs.declared.cancels.Cancels.TheVariants.{Lsp, Mcp}
use Rattle.connection_messages.specs.declared.entry.Entry.TheVariants.{Call, Cancel, Invalid}
use Rattle.connection_messages.specs.declared.outgoing.Outgoing.{Outgoing}
use Rattle.connection_messages.specs.declared.read.unit.TheConstants.{MOST_DEPTH_IN}
use Rattle.connection_messages.specs.declared.rules.Rules.{Rules}
use Rattle.connection_messages.specs.declared.unit.Unit.TheVariants.{Single}
use Rattle.connection_messages.proofs.Decimals.{unsigned_of-decimal}
use Rattle.connection_messages.proofs.Enveloped.{call_is, call_entry_is, cancel_is, structured_value}
use Rattle.connection_messages.proofs.Whole.{IsWhole, AreWhole, read_back, whole_deeper, json_of, string_text, number_text, whole_string, whole_number, rest_text, member_text, rest_member, rest_end, object_text, none_whole, more_whole, object_whole}

-- ---- names

plain_names : (quoted (codes "jsonrpc") ≡ codes "\"jsonrpc\"") × (quoted (codes "id") ≡ codes "\"id\"") × (quoted (codes "method") ≡ codes "\"method\"") × (quoted (codes "params") ≡ codes "\"params\"")
    × (quoted (codes "2.0") ≡ codes "\"2.0\"")
unfolding escape_byte
plain_names = (refl, refl, refl, refl, refl)

-- a member with a plain name
pub named : (k name : List ℕ) (j : Json) (text rest : List ℕ) → quoted k ≡ name → json_text j ≡ text → member_text k j rest ≡ name ++ 58 ∷ (text ++ rest)
named k name j text rest is same = ap (λ s. s ++ 58 ∷ (json_text j ++ rest)) is ∙ ap (λ s. name ++ 58 ∷ (s ++ rest)) same

-- ---- params

abbrev pub params_members : Option Json → Members
params_members None = no_members
params_members (Some p) = member (codes "params") p no_members

pub record HasParams (params : Option (List ℕ)) : Type 0 where
  pub value : Option Json
  pub is : option_map json_text value ≡ params
  pub whole : AreWhole 120 (params_members value)
  pub read : (told : Bool) → call_params told value ≡ Some params

pub params_of : (params : Option (List ℕ)) → AreParams params → HasParams params
params_of None are = record { value = None; is = refl; whole = none_whole 120; read = λ told. refl }
params_of (Some text) are =
    let it = json_of text are.0 in
    record {
      value = Some it.value;
      is = ap Some it.is;
      whole = more_whole 120 (codes "params") it.value no_members (IsUtf8-are_ascii (codes "params") refl) it.whole (none_whole 120);
      read = λ told. structured_value told it.value it.whole.numbers (ap is_structured it.is ∙ are.1) ∙ ap (λ s. Some (Some s)) it.is;
    }

params_text : (params : Option (List ℕ)) (p : Option Json) → option_map json_text p ≡ params → rest_text (params_members p) ≡ params_member params ++ codes "}"
params_text None None is = rest_end
params_text None (Some p) is = cc
params_text (Some text) None is = cc
params_text (Some text) (Some p) is =
    let same : json_text p ≡ text = cc in
    rest_member (codes "params") p no_members ∙ ap (λ s. 44 ∷ s) (named (codes "params") (codes "\"params\"") p text (rest_text no_members) plain_names.3 same)
    ∙ ap (λ s. codes ",\"params\":" ++ (text ++ s)) rest_end ∙ sym (append_assoc (codes ",\"params\":") text (codes "}"))

-- ---- calls and notifications

abbrev pub method_members : List ℕ → Option Json → Members
method_members method p = member (codes "method") (string method) (params_members p)

abbrev pub notice_members : List ℕ → Option Json → Members
notice_members method p = member (codes "jsonrpc") (string (codes "2.0")) (method_members method p)

abbrev pub call_value : ℕ → List ℕ → Option Json → Json
call_value k method p = object (member (codes "id") (number (decimal k)) (notice_members method p))

abbrev pub notice_value : List ℕ → Option Json → Json
notice_value method p = object (notice_members method p)

method_rest : (o : Outgoing) (p : Option Json) → option_map json_text p ≡ o.params → rest_text (method_members o.method p) ≡ method_text o
method_rest o p is =
    rest_member (codes "method") (string o.method) (params_members p)
    ∙ ap (λ s. 44 ∷ s) (named (codes "method") (codes "\"method\"") (string o.method) (quoted o.method) (rest_text (params_members p)) plain_names.2 (string_text o.method))
    ∙ ap (λ s. codes ",\"method\":" ++ (quoted o.method ++ s)) (params_text o.params p is)
    ∙ ap (λ s. codes ",\"method\":" ++ s) (sym (append_assoc (quoted o.method) (params_member o.params) (codes "}")))

version_text : (ms : Members) (rest : List ℕ) → rest_text ms ≡ rest → member_text (codes "jsonrpc") (string (codes "2.0")) (rest_text ms) ≡ codes "\"jsonrpc\":\"2.0\"" ++ rest
version_text ms rest is =
    named (codes "jsonrpc") (codes "\"jsonrpc\"") (string (codes "2.0")) (codes "\"2.0\"") (rest_text ms) plain_names.0 (string_text (codes "2.0") ∙ plain_names.4)
    ∙ ap (λ s. codes "\"jsonrpc\":\"2.0\"" ++ s) is

pub call_value_text : (k : ℕ) (o : Outgoing) (p : Option Json) → option_map json_text p ≡ o.params → json_text (call_value k o.method p) ≡ call_text k o
call_value_text k o p is =
    object_text (codes "id") (number (decimal k)) (notice_members o.method p)
    ∙ ap (λ s. 123 ∷ s) (named (codes "id") (codes "\"id\"") (number (decimal k)) (decimal k) (rest_text (notice_members o.method p)) plain_names.1 (number_text (decimal k)))
    ∙ ap (λ s. codes "{\"id\":" ++ (decimal k ++ s))
    (rest_member (codes "jsonrpc") (string (codes "2.0")) (method_members o.method p) ∙ ap (λ s. 44 ∷ s) (version_text (method_members o.method p) (method_text o) (method_rest o p is)))
    ∙ ap (λ s. codes "{\"id\":" ++ s) (sym (append_assoc (decimal k) (codes ",\"jsonrpc\":\"2.0\"") (method_text o)))

pub notice_value_text : (o : Outgoing) (p : Option Json) → option_map json_text p ≡ o.params → json_text (notice_value o.method p) ≡ notice_text o
notice_value_text o p is =
    object_text (codes "jsonrpc") (string (codes "2.0")) (method_members o.method p) ∙ ap (λ s. 123 ∷ s) (version_text (method_members o.method p) (method_text o) (method_rest o p is))

pub ascii_decimal : (n : ℕ) → n < 2 ^ 64 → IsUtf8 (decimal n)
ascii_decimal n fits = IsUtf8-from_ascii (decimal n) (IsAscii-decimal n fits)

whole_notice : (o : Outgoing) (h : HasParams o.params) → IsUtf8 o.method → AreWhole 120 (method_members o.method h.value)
whole_notice o h utf8 = more_whole 120 (codes "method") (string o.method) (params_members h.value) (IsUtf8-are_ascii (codes "method") refl) (whole_string 120 o.method utf8) h.whole

pub whole_version : (levels : ℕ) → IsWhole levels (string (codes "2.0"))
whole_version levels = whole_string levels (codes "2.0") (IsUtf8-are_ascii (codes "2.0") refl)

pub call_whole : (k : ℕ) (o : Outgoing) (h : HasParams o.params) → k < 2 ^ 64 → IsUtf8 o.method → IsWhole 121 (call_value k o.method h.value)
call_whole k o h fits utf8 =
    object_whole 120 (codes "id") (number (decimal k)) (notice_members o.method h.value) (IsUtf8-are_ascii (codes "id") refl)
    (whole_number 120 (decimal k) (IsNumber-decimal k fits) (ascii_decimal k fits))
    (more_whole 120 (codes "jsonrpc") (string (codes "2.0")) (method_members o.method h.value) (IsUtf8-are_ascii (codes "jsonrpc") refl) (whole_version 120) (whole_notice o h utf8))

pub notice_whole : (o : Outgoing) (h : HasParams o.params) → IsUtf8 o.method → IsWhole 121 (notice_value o.method h.value)
notice_whole o h utf8 = object_whole 120 (codes "jsonrpc") (string (codes "2.0")) (method_members o.method h.value) (IsUtf8-are_ascii (codes "jsonrpc") refl) (whole_version 120) (whole_notice o h utf8)

-- ---- what they are read as

-- the members of a call, whatever its params
found : (k : ℕ) (method : List ℕ) (p : Option Json) → (is_version_2 (call_value k method p) ≡ true) × (get (codes "method") (call_value k method p) ≡ Some (string method))
    × (get (codes "params") (call_value k method p) ≡ p) × (get (codes "id") (call_value k method p) ≡ Some (number (decimal k)))
found k method None = (refl, refl, refl, refl)
found k method (Some p) = (refl, refl, refl, refl)

notice_found : (method : List ℕ) (p : Option Json) → (is_version_2 (notice_value method p) ≡ true) × (get (codes "method") (notice_value method p) ≡ Some (string method))
    × (get (codes "params") (notice_value method p) ≡ p) × (get (codes "id") (notice_value method p) ≡ None)
notice_found method None = (refl, refl, refl, refl)
notice_found method (Some p) = (refl, refl, refl, refl)

call_is_entry : (rules : Rules) (j : Json) (c : Came) → is_some (get (codes "method") j) ≡ true → call_in rules.null_params j ≡ Some c → entry_of rules j ≡ call_entry rules.cancels (Some c) j
call_is_entry rules j c named came =
    ap (λ b. if b then call_entry rules.cancels (call_in rules.null_params j) j
    else (if is_some (get (codes "result") j) || is_some (get (codes "error") j) then reply_entry (key_in j) (reply_in j) else Invalid)) named
    ∙ ap (λ o. call_entry rules.cancels o j) came

-- a call with an id is no cancel
request_entry : (cancels : Option Cancels) (c : Came) (j : Json) (i : Id) → c.id ≡ Some i → call_entry cancels (Some c) j ≡ Call c
request_entry None c j i is = refl
request_entry (Some by) c j i is = by_target (target_in by j)
  where
    by_target : (t : Option Id) → cancel_or_call by c t ≡ Call c
    by_target None = refl
    by_target (Some target) = rw is refl

id_read : (k : ℕ) → k < 2 ^ 64 → call_id (Some (number (decimal k))) ≡ Some (Some (Unsigned k))
id_read k fits = ap (λ o. option_map Some (number_id_of o (negative_of (decimal k)))) (unsigned_of-decimal k fits)

pub call_entry_read : (rules : Rules) (k : ℕ) (o : Outgoing) (h : HasParams o.params) → k < 2 ^ 64 → entry_of rules (call_value k o.method h.value) ≡ Call (call_as_read k o)
call_entry_read rules k o h fits =
    let j = call_value k o.method h.value in
    let f = found k o.method h.value in
    let came : call_in rules.null_params j ≡ Some (call_as_read k o) =
    call_is rules.null_params j o.method o.params (Some (Unsigned k)) f.0 (ap (option_and_then as_str) f.1) (ap (call_params rules.null_params) f.2 ∙ h.read rules.null_params) (ap call_id f.3 ∙ id_read k fits) in
    call_is_entry rules j (call_as_read k o) (ap is_some f.1) came ∙ request_entry rules.cancels (call_as_read k o) j (Unsigned k) refl

pub unit_is : (rules : Rules) (levels : ℕ) (j : Json) (text : List ℕ) → json_text j ≡ text → IsWhole levels j → levels ≤ MOST_DEPTH_IN → unit_of rules false text ≡ value_unit rules j
unit_is rules levels j text is whole few =
    ap (λ t. unit_of_reading rules (value_of MOST_DEPTH_IN t)) (sym is) ∙ ap (unit_of_reading rules) (read_back MOST_DEPTH_IN j (whole_deeper levels MOST_DEPTH_IN j few whole))

pub call_read : (rules : Rules) (k : ℕ) (o : Outgoing) → k < 2 ^ 64 → IsSayable o → unit_of rules false (call_text k o) ≡ Single (Call (call_as_read k o))
call_read rules k o fits sayable =
    let h = params_of o.params sayable.params in
    unit_is rules 121 (call_value k o.method h.value) (call_text k o) (call_value_text k o h.value h.is) (call_whole k o h fits sayable.method) (omega arith)
    ∙ ap Single (call_entry_read rules k o h fits)

pub notice_entry_read : (rules : Rules) (o : Outgoing) (h : HasParams o.params) → cancels_by rules.cancels o.method ≡ None → entry_of rules (notice_value o.method h.value) ≡ Call (notice_as_read o)
notice_entry_read rules o h other =
    let j = notice_value o.method h.value in
    let f = notice_found o.method h.value in
    let came : call_in rules.null_params j ≡ Some (notice_as_read o) = call_is rules.null_params j o.method o.params None f.0 (ap (option_and_then as_str) f.1) (ap (call_params rules.null_params) f.2 ∙ h.read rules.null_params) (ap call_id f.3) in
    sym (call_entry_is rules j (notice_as_read o) (ap is_some f.1) came other)

pub notice_read : (rules : Rules) (o : Outgoing) → IsSayable o → cancels_by rules.cancels o.method ≡ None → unit_of rules false (notice_text o) ≡ Single (Call (notice_as_read o))
notice_read rules o sayable other =
    let h = params_of o.params sayable.params in
    unit_is rules 121 (notice_value o.method h.value) (notice_text o) (notice_value_text o h.value h.is) (notice_whole o h sayable.method) (omega arith)
    ∙ ap Single (notice_entry_read rules o h other)

-- ---- withdrawals

abbrev pub target_value : Cancels → ℕ → Json
target_value by k = object (member (cancel_member by) (number (decimal k)) no_members)

abbrev pub withdrawal_value : Cancels → ℕ → Json
withdrawal_value by k = notice_value (cancel_method by) (Some (target_value by k))

method_quoted : (by : Cancels) → quoted (cancel_method by) ≡ codes "\"" ++ cancel_method by ++ codes "\""
unfolding escape_byte
method_quoted Lsp = refl
method_quoted Mcp = refl

member_quoted : (by : Cancels) → quoted (cancel_member by) ≡ codes "\"" ++ cancel_member by ++ codes "\""
unfolding escape_byte
member_quoted Lsp = refl
member_quoted Mcp = refl

abbrev target_text : Cancels → ℕ → List ℕ
target_text by k = 123 ∷ ((codes "\"" ++ cancel_member by ++ codes "\"") ++ 58 ∷ (decimal k ++ codes "}"))

target_value_text : (by : Cancels) (k : ℕ) → json_text (target_value by k) ≡ target_text by k
target_value_text by k =
    object_text (cancel_member by) (number (decimal k)) no_members
    ∙ ap (λ s. 123 ∷ s) (named (cancel_member by) (codes "\"" ++ cancel_member by ++ codes "\"") (number (decimal k)) (decimal k) (rest_text no_members) (member_quoted by) (number_text (decimal k)))
    ∙ ap (λ s. 123 ∷ ((codes "\"" ++ cancel_member by ++ codes "\"") ++ 58 ∷ (decimal k ++ s))) rest_end

abbrev withdrawing : Cancels → ℕ → Outgoing
withdrawing by k = record { method = cancel_method by; params = Some (target_text by k) }

withdrawal_same : (by : Cancels) (k : ℕ) → notice_text (withdrawing by k) ≡ withdrawal_text by k
withdrawal_same by k = laid_out by (method_quoted by)
  where
    laid_out : (by : Cancels) → quoted (cancel_method by) ≡ codes "\"" ++ cancel_method by ++ codes "\"" → notice_text (withdrawing by k) ≡ withdrawal_text by k
    laid_out Lsp is =
        ap (λ q. codes "{\"jsonrpc\":\"2.0\"" ++ (codes ",\"method\":" ++ q ++ (codes ",\"params\":" ++ target_text Lsp k) ++ codes "}")) is
        ∙ ap (λ s. withdrawal_head Lsp ++ s) (append_assoc (decimal k) (codes "}") (codes "}")) ∙ sym (append_assoc (withdrawal_head Lsp) (decimal k) (codes "}}"))
    laid_out Mcp is =
        ap (λ q. codes "{\"jsonrpc\":\"2.0\"" ++ (codes ",\"method\":" ++ q ++ (codes ",\"params\":" ++ target_text Mcp k) ++ codes "}")) is
        ∙ ap (λ s. withdrawal_head Mcp ++ s) (append_assoc (decimal k) (codes "}") (codes "}")) ∙ sym (append_assoc (withdrawal_head Mcp) (decimal k) (codes "}}"))

pub withdrawal_value_text : (by : Cancels) (k : ℕ) → json_text (withdrawal_value by k) ≡ withdrawal_text by k
withdrawal_value_text by k = notice_value_text (withdrawing by k) (Some (target_value by k)) (ap Some (target_value_text by k)) ∙ withdrawal_same by k

names_utf8 : (by : Cancels) → IsUtf8 (cancel_method by) × IsUtf8 (cancel_member by)
names_utf8 Lsp = (IsUtf8-are_ascii (cancel_method Lsp) refl, IsUtf8-are_ascii (cancel_member Lsp) refl)
names_utf8 Mcp = (IsUtf8-are_ascii (cancel_method Mcp) refl, IsUtf8-are_ascii (cancel_member Mcp) refl)

target_whole : (by : Cancels) (k : ℕ) → k < 2 ^ 64 → IsWhole 1 (target_value by k)
target_whole by k fits =
    object_whole 0 (cancel_member by) (number (decimal k)) no_members (names_utf8 by).1 (whole_number 0 (decimal k) (IsNumber-decimal k fits) (ascii_decimal k fits)) (none_whole 0)

withdrawal_params : (by : Cancels) (k : ℕ) → k < 2 ^ 64 → HasParams (Some (target_text by k))
withdrawal_params by k fits =
    let p = target_value by k in
    record {
      value = Some p;
      is = ap Some (target_value_text by k);
      whole = more_whole 120 (codes "params") p no_members (IsUtf8-are_ascii (codes "params") refl) (whole_deeper 1 120 p (omega arith) (target_whole by k fits)) (none_whole 120);
      read = λ told. ap (λ s. Some (Some s)) (target_value_text by k);
    }

pub withdrawal_whole : (by : Cancels) (k : ℕ) → k < 2 ^ 64 → IsWhole 121 (withdrawal_value by k)
unfolding withdrawal_params
withdrawal_whole by k fits = notice_whole (withdrawing by k) (withdrawal_params by k fits) (names_utf8 by).0

target_read : (by : Cancels) (k : ℕ) → k < 2 ^ 64 → option_and_then cancelled_id (get (cancel_member by) (target_value by k)) ≡ Some (Unsigned k)
target_read Lsp k fits = ap (λ o. number_id_of o (negative_of (decimal k))) (unsigned_of-decimal k fits)
target_read Mcp k fits = ap (λ o. number_id_of o (negative_of (decimal k))) (unsigned_of-decimal k fits)

pub withdrawal_read : (rules : Rules) (by : Cancels) (k : ℕ) → rules.cancels ≡ Some by → k < 2 ^ 64 → unit_of rules false (withdrawal_text by k) ≡ Single (Cancel (Unsigned k))
unfolding withdrawal_params
withdrawal_read rules by k theirs fits =
    let h = withdrawal_params by k fits in
    let p = target_value by k in
    let j = withdrawal_value by k in
    let f = notice_found (cancel_method by) (Some p) in
    unit_is rules 121 j (withdrawal_text by k) (withdrawal_value_text by k) (withdrawal_whole by k fits) (omega arith)
    ∙ ap Single (sym (cancel_is rules by j p (target_text by k) (Unsigned k) theirs f.0 (ap is_some f.1) (ap (option_and_then as_str) f.1) f.3 f.2 (h.read rules.null_params) (target_read by k fits)))
