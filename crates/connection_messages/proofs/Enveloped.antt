-- What the compact texts of an object's members say of it.
use Rattle.std.proofs.Common.{◌≡◌, ℕ, zero, suc, ◌+◌, ◌<◌, ◌≤◌, List, [], ◌∷◌, Bool, true, false, ◌&&◌, ◌||◌, ◌==◌, Option, Some, None, option_map, is_some, if◌then◌else◌, Bor, ◌++◌, length, refl, sym, ap, ◌∙◌, subst, arith, append-nil, inl, inr, eqb-true, ne_eqb, IfSome}
use Rattle.std.specs.Prelude.{codes, option_and_then}
use Rattle.std.specs.Option.{option_map_or, is_none}
use Rattle.std.specs.Str.{bytes_eq}
use Rattle.std.proofs.lemmas.Bool.{cases_Bool}
use Rattle.std.proofs.lemmas.List.{drop_all}
use Rattle.std.proofs.lemmas.Slice.Eq.{bytes_eq-Decides}
use Rattle.json.specs.Json.{Json, null, boolean, number, string, array, object, value}
use Rattle.json.specs.Find.{get, as_str, as_number}
use Rattle.json.specs.Lex.{tokens}
use Rattle.json.specs.Print.{escape_byte, print, print_from, quoted, IsNumber}
use Rattle.json.specs.Tree.{json_tokens, depth, HasNumbers}
use Rattle.json.specs.Word.{after_number}
use Rattle.json.proofs.Numbered.{HasNumbers-get}
use Rattle.json.proofs.Printed.Decimals.{IsNumber-decimal}
use Rattle.json.proofs.Printed.Tokens.{tokens-print}
use Rattle.json.proofs.Printed.Trees.{value-json_tokens, ArePrintable-json_tokens}
use Rattle.json_texts.specs.Texts.{json_text}
use Rattle.message_ids.specs.declared.id.Id.{Id}
use Rattle.message_ids.specs.declared.id.Id.TheVariants.{Null, Text, Unsigned}
use Rattle.connection_messages.specs.Envelope.{IsMember, MemberHasNumbers, HasEnvelopeAt, Names, GivesId, GivesParams, target_part, cancels_by, GivesTarget}
use Rattle.connection_messages.specs.Numbers.{unsigned_of, negative_of}
use Rattle.connection_messages.specs.Params.{is_structured}
use Rattle.connection_messages.specs.Reading.{is_version_2, number_id_of, call_id, null_params, call_params, call_from, call_in, cancel_method, cancel_member, cancelled_id, target_in, cancel_or_call, call_entry, reply_in, own_key, key_in, reply_entry, entry_of}
use Rattle.connection_messages.specs.declared.call.Call.{Call as Came}
use Rattle.connection_messages.specs.declared.cancels.Cancels.{Cancels}
use Rattle.connection_messages.specs.declared.cancels.Cancels.TheVariants.{Lsp, Mcp}
use Rattle.connection_messages.specs.declared.entry.Entry.TheVariants.{Call, Cancel, Reply, Invalid}
use Rattle.connection_messages.specs.declared.rules.Rules.{Rules}
use Rattle.connection_messages.specs.declared.read.envelope.Envelope.{Envelope}
use Rattle.connection_messages.specs.declared.reply.Reply.TheVariants.{Result}
use Rattle.connection_messages.proofs.Decimals.{unsigned_of-is}
use Rattle.connection_messages.proofs.Whole.{string_text, number_text, null_text}

-- ---- values by their texts

-- a text is that of one value at most
pub json_text-same : (j k : Json) → HasNumbers j → HasNumbers k → json_text j ≡ json_text k → j ≡ k
unfolding json_text
json_text-same j k j_numbers k_numbers same =
    let levels = depth j + depth k in
    let read : (i : Json) → HasNumbers i → depth i ≤ levels → value levels (tokens (print (json_tokens i))) ≡ Some (i, []) = λ i numbers shallow.
    ap (value levels) (tokens-print (json_tokens i) (ArePrintable-json_tokens i numbers) ∙ sym (append-nil (json_tokens i))) ∙ value-json_tokens i levels [] shallow in
    let both : Some (j, []) ≡ Some (k, []) = sym (read j j_numbers (omega arith)) ∙ ap (λ t. value levels (tokens t)) same ∙ read k k_numbers (omega arith) in
    ap (λ o. option_map_or (λ p. p.0) o j) both

string_is : (v : Json) (s : List ℕ) → HasNumbers v → json_text v ≡ quoted s → v ≡ string s
string_is v s numbers same = json_text-same v (string s) numbers tt (same ∙ sym (string_text s))

number_is : (v : Json) (s : List ℕ) → HasNumbers v → IsNumber s → json_text v ≡ s → v ≡ number s
number_is v s numbers is same = json_text-same v (number s) numbers is (same ∙ sym (number_text s))

null_is : (v : Json) → HasNumbers v → json_text v ≡ codes "null" → v ≡ null
null_is v numbers same = json_text-same v null numbers tt (same ∙ sym null_text)

-- ---- members by their texts

abbrev pub Found : Option Json → List ℕ → Type 0
Found o s = (v : Json) × (o ≡ Some v) × (json_text v ≡ s)

found : (o : Option Json) (s : List ℕ) → Some s ≡ option_map json_text o → Found o s
found None s e = absurd (let f : Some s ≡ None = e in cc)
found (Some v) s e = (v, refl, (let f : Some s ≡ Some (json_text v) = e in cc))

pub member_found : (part : Option (Bor (List ℕ))) (text : Bor (List ℕ)) (o : Option Json) → part ≡ Some text → IsMember part o → Found o text.now
member_found part text o is member = found o text.now (ap (option_map (λ s. s.now)) (sym is) ∙ member)

pub member_absent : (part : Option (Bor (List ℕ))) (o : Option Json) → part ≡ None → IsMember part o → o ≡ None
member_absent part None is member = refl
member_absent part (Some v) is member = absurd (let f : None ≡ Some (json_text v) = ap (option_map (λ s. s.now)) (sym is) ∙ member in cc)

pub member_numbers : (name : List ℕ) (j : Json) → HasNumbers j → MemberHasNumbers (get name j)
member_numbers name j numbers = by_member (get name j) refl
  where
    by_member : (o : Option Json) → o ≡ get name j → MemberHasNumbers o
    by_member None is = tt
    by_member (Some v) is = HasNumbers-get name j v numbers is

numbers_of : (o : Option Json) (v : Json) → MemberHasNumbers o → o ≡ Some v → HasNumbers v
numbers_of o v numbers is = subst MemberHasNumbers is numbers

version_text : codes "\"2.0\"" ≡ quoted (codes "2.0")
unfolding escape_byte
version_text = refl

pub version_is : (part : Option (Bor (List ℕ))) (text : Bor (List ℕ)) (j : Json) → part ≡ Some text → text.now ≡ codes "\"2.0\"" → HasNumbers j → IsMember part (get (codes "jsonrpc") j)
    → is_version_2 j ≡ true
version_is part text j is same numbers member =
    let f = member_found part text (get (codes "jsonrpc") j) is member in
    let v = f.0 in
    let string_2 : v ≡ string (codes "2.0") = string_is v (codes "2.0") (HasNumbers-get (codes "jsonrpc") j v numbers (sym f.1)) (f.2 ∙ same ∙ version_text) in
    ap (λ o. option_map_or (bytes_eq (codes "2.0")) (option_and_then as_str o) false) (f.1 ∙ ap Some string_2)

pub method_is : (part : Option (Bor (List ℕ))) (text : Bor (List ℕ)) (method : List ℕ) (j : Json) → part ≡ Some text → text.now ≡ quoted method → HasNumbers j → IsMember part (get (codes "method") j)
    → (is_some (get (codes "method") j) ≡ true) × (option_and_then as_str (get (codes "method") j) ≡ Some method)
method_is part text method j is same numbers member =
    let f = member_found part text (get (codes "method") j) is member in
    let v = f.0 in
    let string_m : v ≡ string method = string_is v method (HasNumbers-get (codes "method") j v numbers (sym f.1)) (f.2 ∙ same) in
    (ap is_some f.1, ap (option_and_then as_str) (f.1 ∙ ap Some string_m))

-- ---- ids

pub number_gives : (part : Option (Bor (List ℕ))) (text : Bor (List ℕ)) (n : ℕ) → part ≡ Some text → unsigned_of text.now ≡ Some n → GivesId part (Some (Unsigned n))
number_gives part text n is read member numbers named =
    let s = text.now in
    let f = member_found part text member is named in
    let decimal_s = unsigned_of-is n s read in
    let is_number : IsNumber s = subst IsNumber (sym decimal_s.0) (IsNumber-decimal n decimal_s.1) in
    let number_s : f.0 ≡ number s = number_is f.0 s (numbers_of member f.0 numbers f.1) is_number f.2 in
    ap call_id (f.1 ∙ ap Some number_s) ∙ ap (λ o. option_map Some (number_id_of o (negative_of s))) read

pub null_gives : (part : Option (Bor (List ℕ))) (text : Bor (List ℕ)) → part ≡ Some text → text.now ≡ codes "null" → GivesId part (Some Null)
null_gives part text is same member numbers named =
    let f = member_found part text member is named in
    let null_v : f.0 ≡ null = null_is f.0 (numbers_of member f.0 numbers f.1) (f.2 ∙ same) in
    ap call_id (f.1 ∙ ap Some null_v)

pub text_gives : (part : Option (Bor (List ℕ))) (text : Bor (List ℕ)) (s : List ℕ) → part ≡ Some text → text.now ≡ quoted s → GivesId part (Some (Text s))
text_gives part text s is same member numbers named =
    let f = member_found part text member is named in
    let string_v : f.0 ≡ string s = string_is f.0 s (numbers_of member f.0 numbers f.1) (f.2 ∙ same) in
    ap call_id (f.1 ∙ ap Some string_v)

-- ---- params

no_bracket : (x : ℕ) (s : List ℕ) → IsNumber (x ∷ s) → (x == 91 || x == 123) ≡ true → ⊥
unfolding after_number
no_bracket x s is bracket =
    elim (cases_Bool (x == 91)) [
      | inl bracketed ↦ let f : None ≡ Some [] = subst (λ y. IsNumber (y ∷ s)) (eqb-true x 91 bracketed) is in cc
      | inr other ↦
          let brace : (x == 123) ≡ true = ap (λ b. b || x == 123) (sym other) ∙ bracket in
          let f : None ≡ Some [] = subst (λ y. IsNumber (y ∷ s)) (eqb-true x 123 brace) is in cc
    ]

pub structured_value : (told : Bool) (v : Json) → HasNumbers v → is_structured (json_text v) ≡ true → call_params told (Some v) ≡ Some (Some (json_text v))
unfolding json_text print_from
structured_value told null numbers is = absurd (let f : false ≡ true = is in cc)
structured_value told (boolean true) numbers is = absurd (let f : false ≡ true = is in cc)
structured_value told (boolean false) numbers is = absurd (let f : false ≡ true = is in cc)
structured_value told (number []) numbers is = absurd (let f : false ≡ true = is in cc)
structured_value told (number (x ∷ s)) numbers is = absurd (no_bracket x s numbers is)
structured_value told (string s) numbers is = absurd (let f : false ≡ true = is in cc)
structured_value told (array js) numbers is = refl
structured_value told (object ms) numbers is = refl

pub params_give : (told : Bool) (part : Option (Bor (List ℕ))) (text : Bor (List ℕ)) (copy : List ℕ) → part ≡ Some text → is_structured text.now ≡ true → copy ≡ text.now → GivesParams told part (Some copy)
params_give told part text copy is structured copied member numbers named =
    let f = member_found part text member is named in
    ap (call_params told) f.1 ∙ structured_value told f.0 (numbers_of member f.0 numbers f.1) (ap is_structured f.2 ∙ structured) ∙ ap (λ s. Some (Some s)) (f.2 ∙ sym copied)

pub null_params_give : (told : Bool) (part : Option (Bor (List ℕ))) (text : Bor (List ℕ)) (params : Option (List ℕ)) → part ≡ Some text → text.now ≡ codes "null" → params ≡ null_params told
    → GivesParams told part params
null_params_give told part text params is same as_told member numbers named =
    let f = member_found part text member is named in
    let null_v : f.0 ≡ null = null_is f.0 (numbers_of member f.0 numbers f.1) (f.2 ∙ same) in
    ap (call_params told) (f.1 ∙ ap Some null_v) ∙ ap Some (sym as_told)

-- ---- entries

pub call_is : (told : Bool) (j : Json) (method : List ℕ) (params : Option (List ℕ)) (id : Option Id) → is_version_2 j ≡ true → option_and_then as_str (get (codes "method") j) ≡ Some method
    → call_params told (get (codes "params") j) ≡ Some params → call_id (get (codes "id") j) ≡ Some id → call_in told j ≡ Some (record { id = id; method = method; params = params })
call_is told j method params id version named given identified =
    ap (λ b. call_from b (option_and_then as_str (get (codes "method") j)) (call_params told (get (codes "params") j)) (call_id (get (codes "id") j))) version
    ∙ ap (λ m. call_from true m (call_params told (get (codes "params") j)) (call_id (get (codes "id") j))) named
    ∙ ap (λ p. call_from true (Some method) p (call_id (get (codes "id") j))) given
    ∙ ap (λ i. call_from true (Some method) (Some params) i) identified

pub and_false : (a b : Bool) → b ≡ false → (a && b) ≡ false
and_false true b is = is
and_false false b is = refl

no_cancel : (by : Cancels) (call : Came) (target : Option Id) → bytes_eq call.method (cancel_method by) ≡ false → Call call ≡ cancel_or_call by call target
no_cancel by call None other = refl
no_cancel by call (Some target) other = ap (λ b. if b then Cancel target else Call call) (sym (and_false (is_none call.id) (bytes_eq call.method (cancel_method by)) other))

none_by : (by : Cancels) (b : Bool) → (if b then Some by else None) ≡ None → b ≡ false
none_by by true e = cc
none_by by false e = refl

some_call : (cancels : Option Cancels) (call : Came) (j : Json) → cancels_by cancels call.method ≡ None → Call call ≡ call_entry cancels (Some call) j
some_call None call j other = refl
some_call (Some by) call j other = no_cancel by call (target_in by j) (none_by by (bytes_eq call.method (cancel_method by)) other)

pub call_entry_is : (rules : Rules) (j : Json) (call : Came) → is_some (get (codes "method") j) ≡ true → call_in rules.null_params j ≡ Some call
    → cancels_by rules.cancels call.method ≡ None → Call call ≡ entry_of rules j
call_entry_is rules j call named is other =
    some_call rules.cancels call j other ∙ ap (λ o. call_entry rules.cancels o j) (sym is)
    ∙ ap (λ b. if b then call_entry rules.cancels (call_in rules.null_params j) j
    else (if is_some (get (codes "result") j) || is_some (get (codes "error") j) then reply_entry (key_in j) (reply_in j) else Invalid)) (sym named)

pub key_is : (part : Option (Bor (List ℕ))) (text : Bor (List ℕ)) (k : ℕ) (j : Json) → part ≡ Some text → unsigned_of text.now ≡ Some k → 0 < k → HasNumbers j → IsMember part (get (codes "id") j)
    → key_in j ≡ Some k
key_is part text zero j is read positive numbers member = absurd (omega (arith, positive))
key_is part text (suc k) j is read positive numbers member =
    let s = text.now in
    let f = member_found part text (get (codes "id") j) is member in
    let decimal_s = unsigned_of-is (suc k) s read in
    let is_number : IsNumber s = subst IsNumber (sym decimal_s.0) (IsNumber-decimal (suc k) decimal_s.1) in
    let number_s : f.0 ≡ number s = number_is f.0 s (HasNumbers-get (codes "id") j f.0 numbers (sym f.1)) is_number f.2 in
    ap (λ o. own_key (option_and_then unsigned_of (option_and_then as_number o))) (f.1 ∙ ap Some number_s) ∙ ap own_key read
    ∙ ap (λ b. if b then None else Some (suc k)) (ne_eqb (suc k) 0 (λ e. omega (arith, e)))

pub result_entry_is : (rules : Rules) (j v : Json) (k : ℕ) → is_version_2 j ≡ true → get (codes "method") j ≡ None → get (codes "result") j ≡ Some v → get (codes "error") j ≡ None → key_in j ≡ Some k
    → Reply k (Result (json_text v)) ≡ entry_of rules j
result_entry_is rules j v k version no_method result no_error key = rw (no_method, result, no_error, key, version) refl

pub some_holds : {X : Type 0} (P : X → Type 0) (o : Option X) (x : X) → o ≡ Some x → IfSome o P → P x
some_holds P o x is holds = subst (λ p. IfSome p P) is holds

-- ---- cancels

whole_object : (levels : ℕ) (params : List ℕ) (end : ℕ) (e : Envelope) (h : HasEnvelopeAt levels params 0 end e) → end ≡ length params → params ≡ json_text (object h.members)
whole_object levels params end e h whole =
    h.stands ∙ ap (λ l. json_text (object h.members) ++ l) (drop_all end params (omega (arith, whole))) ∙ append-nil (json_text (object h.members))

target_member : (by : Cancels) (e : Envelope) (j : Json) → Names e j → IsMember (target_part by e) (get (cancel_member by) j)
target_member Lsp e j names = names.id
target_member Mcp e j names = names.request

pub target_of : (by : Cancels) (levels : ℕ) (params : List ℕ) (end : ℕ) (e : Envelope) (part : Bor (List ℕ)) (target : Id) → HasEnvelopeAt levels params 0 end e → end ≡ length params
    → target_part by e ≡ Some part → ((v : Json) → HasNumbers v → json_text v ≡ part.now → cancelled_id v ≡ Some target) → GivesTarget by params target
target_of by levels params end e part target h whole is gives p numbers same =
    let o = object h.members in
    let text : params ≡ json_text o = whole_object levels params end e h whole in
    let object_p : p ≡ o = json_text-same p o numbers h.numbers (same ∙ text) in
    let f = member_found (target_part by e) part (get (cancel_member by) o) is (target_member by e o h.names) in (
      λ told. ap (λ q. call_params told (Some q)) object_p ∙ ap (λ s. Some (Some s)) (sym text),
      ap (λ q. option_and_then cancelled_id (get (cancel_member by) q)) object_p ∙ ap (option_and_then cancelled_id) f.1 ∙ gives f.0 (HasNumbers-get (cancel_member by) o f.0 h.numbers (sym f.1)) f.2,
    )

pub number_target : (s : List ℕ) (n : ℕ) → unsigned_of s ≡ Some n → (v : Json) → HasNumbers v → json_text v ≡ s → cancelled_id v ≡ Some (Unsigned n)
number_target s n read v numbers same =
    let decimal_s = unsigned_of-is n s read in
    let is_number : IsNumber s = subst IsNumber (sym decimal_s.0) (IsNumber-decimal n decimal_s.1) in
    ap cancelled_id (number_is v s numbers is_number same) ∙ ap (λ o. number_id_of o (negative_of s)) read

pub string_target : (text s : List ℕ) → text ≡ quoted s → (v : Json) → HasNumbers v → json_text v ≡ text → cancelled_id v ≡ Some (Text s)
string_target text s is v numbers same = ap cancelled_id (string_is v s numbers (same ∙ is))

cancelled : (by : Cancels) (call : Came) (target : Id) → is_none call.id ≡ true → call.method ≡ cancel_method by → Cancel target ≡ cancel_or_call by call (Some target)
cancelled by call target no_id named =
    let same : bytes_eq call.method (cancel_method by) ≡ true = (bytes_eq-Decides call.method (cancel_method by)).1 named in
    ap (λ b. if b then Cancel target else Call call) (sym (ap (λ b. b && bytes_eq call.method (cancel_method by)) no_id ∙ same))

-- the cancels whose method it is
pub cancels_by_is : (cancels : Option Cancels) (method : List ℕ) (by : Cancels) → cancels_by cancels method ≡ Some by → (cancels ≡ Some by) × (method ≡ cancel_method by)
cancels_by_is None method by e = cc
cancels_by_is (Some theirs) method by e = by_test (bytes_eq method (cancel_method theirs)) refl e
  where
    by_test : (b : Bool) → bytes_eq method (cancel_method theirs) ≡ b → (if b then Some theirs else None) ≡ Some by → (Some theirs ≡ Some by) × (method ≡ cancel_method by)
    by_test true same is =
        let one : theirs ≡ by = cc in
        (is, (bytes_eq-Decides method (cancel_method theirs)).0 same ∙ ap cancel_method one)
    by_test false same is = cc

pub cancel_is : (rules : Rules) (by : Cancels) (j p : Json) (params : List ℕ) (target : Id) → rules.cancels ≡ Some by → is_version_2 j ≡ true → is_some (get (codes "method") j) ≡ true
    → option_and_then as_str (get (codes "method") j) ≡ Some (cancel_method by) → get (codes "id") j ≡ None → get (codes "params") j ≡ Some p → call_params rules.null_params (Some p) ≡ Some (Some params)
    → option_and_then cancelled_id (get (cancel_member by) p) ≡ Some target → Cancel target ≡ entry_of rules j
cancel_is rules by j p params target theirs version some named absent found given targeted =
    let call : Came = record { id = None; method = cancel_method by; params = Some params } in
    let came : call_in rules.null_params j ≡ Some call = call_is rules.null_params j (cancel_method by) (Some params) None version named (ap (call_params rules.null_params) found ∙ given) (ap call_id absent) in
    let aimed : target_in by j ≡ Some target = ap (option_and_then (λ q. option_and_then cancelled_id (get (cancel_member by) q))) found ∙ targeted in
    cancelled by call target refl refl ∙ ap (λ t. cancel_or_call by call t) (sym aimed) ∙ ap (λ c. call_entry (Some by) c j) (sym came)
    ∙ ap (λ b. call_entry b (call_in rules.null_params j) j) (sym theirs)
    ∙ ap (λ b. if b then call_entry rules.cancels (call_in rules.null_params j) j
    else (if is_some (get (codes "result") j) || is_some (get (codes "error") j) then reply_entry (key_in j) (reply_in j) else Invalid)) (sym some)
