-- The ids under which a connection answers what came are those that the judge expects.
use Rattle.std.proofs.Common.{◌≡◌, inl, inr, ◌==◌, ◌||◌, ◌&&◌, not, ℕ, zero, suc, ◌-◌, ◌<◌, ◌^◌, nat_lt, nat_le, Bool, true, false, if◌then◌else◌, List, [], ◌∷◌, ◌++◌, map, length, Option, Some, None, option_map, is_some, refl, sym, ap, subst, ◌∙◌, arith, decimal}
use Rattle.std.proofs.lemmas.Bool.{eqb-true}
use Rattle.std.proofs.lemmas.Bool.Decides.{nat_tests}
use Rattle.std.proofs.lemmas.Fmt.{decimal_is_IsNumeral}
use Rattle.std.proofs.lemmas.List.{map-append}
use Rattle.std.specs.Option.{option_map_or, option_to_list, is_none}
use Rattle.std.specs.Prelude.{ℤ, negsuc, codes, option_and_then}
use Rattle.std.specs.Str.{bytes_eq}
use Rattle.std.specs.Str.Parse.{AllDigits}
use Rattle.json.specs.Find.{get}
use Rattle.json.specs.Json as json
use Rattle.json.specs.Json.{Json, array, object, Items, no_items, item}
use Rattle.json.specs.Tree.{HasNumbers, ItemsHaveNumbers}
use Rattle.json_texts.specs.Texts.{json_text}
use Rattle.connection_messages.proofs.Decimals.{unsigned_of-decimal, unsigned_of-is, unsigned_of-none}
use Rattle.connection_messages.specs.Numbers.{unsigned_of, negated, negative_of}
use Rattle.connection_messages.specs.Reading as lenient
use Rattle.connection_messages.specs.Reading.{number_id_of, number_id, id_of, call_id, call_params, null_params, call_from, call_in as came_in, target_in, is_cancel, cancel_or_call, call_entry, key_in, reply_in, reply_entry}
use Rattle.connection_messages.specs.declared.call.Call.{Call as Came}
use Rattle.connection_messages.specs.declared.cancels.Cancels.{Cancels}
use Rattle.connection_messages.specs.declared.entry.Entry.{Entry as Read}
use Rattle.connection_messages.specs.declared.entry.Entry.TheVariants.{Call, Cancel, Invalid as Nothing}
use Rattle.connection_messages.specs.declared.reply.Reply.{Reply as Replied}
use Rattle.connection_messages.specs.declared.rules.Rules.{Rules}
use Rattle.conversation_reading.specs.Strictly as strict
use Rattle.conversation_reading.specs.Twice.{has_twice as stands_twice}
use Rattle.conversation_reading.specs.Strictly.{has, there_in, is_object, is_version_2, written_id, id_in, method_in, are_unfit, is_null_value, call_faults, answer_faults, no_object, faults_of, has_fault, call_kind}
use Rattle.conversation_reading.specs.declared.entry.Entry.{Entry}
use Rattle.conversation_reading.specs.declared.entry.Faults.{Faults}
use Rattle.conversation_reading.specs.declared.entry.Kind.{Kind}
use Rattle.conversation_reading.specs.declared.entry.Kind.TheVariants.{Request, Notification, Answer, BrokenAnswer, Invalid}
use Rattle.conversation_reading.specs.declared.entry.WrittenId.{WrittenId}
use Rattle.conversation_reading.specs.declared.entry.WrittenId.TheVariants.{Null, Number}
use Rattle.conversation_rules.specs.Amounts.{is_odd, is_plain}
use Rattle.conversation_rules.specs.Owed.{has_twice, first_id, request_owed, may_be_left, only_params, has_null_params, expected_without_params, owed_as}
use Rattle.conversation_rules.specs.declared.protocol.Protocol.TheVariants.{JsonRpc}
use Rattle.judge_laws.proofs.Ties.{object_of}
use Rattle.judge_laws.specs.Messages.{written_as}
use Rattle.message_ids.specs.declared.id.Id.{Id}
use Rattle.message_ids.specs.declared.id.Id.TheVariants as ids
use Rattle.our_side.specs.Answered.{id_due, ids_due}
use Rattle.our_side.specs.Asked.{IsWhole, expected_of, ids_expected}
use Rattle.our_side.proofs.Answering.{request_by}
use Rattle.our_side.proofs.Formed.{IsFormed, entry_formed}
use Rattle.our_side.proofs.Ids.{whole_plain}
use Rattle.our_side.proofs.Plain.{no_minus, plain, below_plain}

-- ---- numbers as ids

below_unsigned : (digits : List ℕ) → unsigned_of (45 ∷ digits) ≡ None
below_unsigned digits = unsigned_of-none (45 ∷ digits) (λ m is small. no_minus (let all = subst (AllDigits 10) (sym is) (decimal_is_IsNumeral m small).0.1 in all.0))

tests_hold : (n : ℕ) → n < 2 ^ 63 → (nat_lt 0 (suc n) && nat_le (suc n) (2 ^ 63)) ≡ true
tests_hold n small = grind (arith, nat_tests)

below_number : (n : ℕ) → n < 2 ^ 63 → number_id (45 ∷ decimal (suc n)) ≡ Some (ids.Signed (negsuc n))
below_number n small =
    ap (λ o. number_id_of o (negative_of (45 ∷ decimal (suc n)))) (below_unsigned (decimal (suc n)))
    ∙ ap (λ o. lenient.signed_id (negated o)) (unsigned_of-decimal (suc n) (omega (arith, small)))
    ∙ ap (λ b. lenient.signed_id (if b then Some (negsuc (suc n - 1)) else None)) (tests_hold n small)
    ∙ ap (λ m. Some (ids.Signed (negsuc m))) (let same : suc n - 1 ≡ n = omega arith in same)

-- a number that is known below 0 is one in digits behind a minus
negated_whole : (b : ℕ) (digits : List ℕ) (m : ℕ) (z : ℤ) (t : Bool) → (nat_lt 0 m && nat_le m (2 ^ 63)) ≡ t → b ≡ 45 → digits ≡ decimal m → (if t then Some (negsuc (m - 1)) else None) ≡ Some z → IsWhole (b ∷ digits)
negated_whole b digits zero z true tests minus is read = absurd (let no : false ≡ true = tests in cc)
negated_whole b digits (suc k) z true tests minus is read = inr (k, (let few : k < 2 ^ 63 = grind (arith, nat_tests) in few), (λ i. minus i ∷ is i))
negated_whole b digits m z false tests minus is read = absurd (let no : None ≡ Some z = read in cc)

negative_by : (b : ℕ) (digits : List ℕ) (z : ℤ) (o : Option ℕ) → unsigned_of digits ≡ o → b ≡ 45 → negated o ≡ Some z → IsWhole (b ∷ digits)
negative_by b digits z None read minus is = absurd (let no : None ≡ Some z = is in cc)
negative_by b digits z (Some m) read minus is = negated_whole b digits m z (nat_lt 0 m && nat_le m (2 ^ 63)) refl minus (unsigned_of-is m digits read).0 is

negative_whole : (s : List ℕ) (z : ℤ) → negative_of s ≡ Some z → IsWhole s
negative_whole [] z is = absurd (let no : None ≡ Some z = is in cc)
negative_whole (b ∷ digits) z is = from (b == 45) refl is
  where
    from : (t : Bool) → (b == 45) ≡ t → (if t then negated (unsigned_of digits) else None) ≡ Some z → IsWhole (b ∷ digits)
    from true minus read = negative_by b digits z (unsigned_of digits) refl (eqb-true b 45 minus) read
    from false minus read = absurd (let no : None ≡ Some z = read in cc)

whole_is_plain : (s : List ℕ) → IsWhole s → is_plain s ≡ true
whole_is_plain s whole = not_false (is_plain s) (whole_plain s whole)
  where
    not_false : (b : Bool) → not b ≡ false → b ≡ true
    not_false true is = refl
    not_false false is = cc

never : {A : Type 0} (b : Bool) → b ≡ true → b ≡ false → A
never true is isnt = absurd (cc)
never false is isnt = absurd (cc)

unknown_by : (s : List ℕ) → is_plain s ≡ false → (n : Option ℕ) → unsigned_of s ≡ n → (z : Option ℤ) → negative_of s ≡ z → number_id_of n z ≡ None
unknown_by s odd (Some n) is z below = let it = unsigned_of-is n s is in never (is_plain s) (ap is_plain it.0 ∙ plain n it.1) odd
unknown_by s odd None is (Some z) below = never (is_plain s) (whole_is_plain s (negative_whole s z below)) odd
unknown_by s odd None is None below = refl

-- ---- ids

-- the member `id`: whether it is there, its id as it is written, and to a connection
data IsMember : Bool → Option WrittenId → Option (Option Id) → Type 0 where
  absent : IsMember false None (Some None)
  none : IsMember true None None
  odd : (w : WrittenId) → is_odd w ≡ true → IsMember true (Some w) None
  known : (o : Id) → is_odd (written_as o) ≡ false → IsMember true (Some (written_as o)) (Some (Some o))

known_number : (s : List ℕ) → IsWhole s → IsMember true (Some (Number s)) (option_map Some (number_id s))
known_number s (inl whole) =
    subst (λ t. IsMember true (Some (Number t)) (option_map Some (number_id t))) (sym whole.2)
    (subst (λ o. IsMember true (Some (Number (decimal whole.0))) (option_map Some o)) (sym (ap (λ o. number_id_of o (negative_of (decimal whole.0))) (unsigned_of-decimal whole.0 whole.1)))
    (known (ids.Unsigned whole.0) (ap not (plain whole.0 whole.1))))
known_number s (inr whole) =
    subst (λ t. IsMember true (Some (Number t)) (option_map Some (number_id t))) (sym whole.2)
    (subst (λ o. IsMember true (Some (Number (45 ∷ decimal (suc whole.0)))) (option_map Some o)) (sym (below_number whole.0 whole.1))
    (known (ids.Signed (negsuc whole.0)) (ap not (below_plain whole.0 whole.1))))

number_member : (s : List ℕ) → IsFormed (Some (Number s)) → IsMember true (Some (Number s)) (option_map Some (number_id s))
number_member s formed = from (is_plain s) refl
  where
    from : (b : Bool) → is_plain s ≡ b → IsMember true (Some (Number s)) (option_map Some (number_id s))
    from true is = known_number s (formed is)
    from false is = subst (λ o. IsMember true (Some (Number s)) (option_map Some o)) (sym (unknown_by s is (unsigned_of s) refl (negative_of s) refl)) (odd (Number s) (ap not is))

id_member : (i : Json) → IsFormed (written_id i) → IsMember true (written_id i) (call_id (Some i))
id_member json.null formed = known ids.Null refl
id_member (json.boolean b) formed = none
id_member (json.number s) formed = number_member s formed
id_member (json.string s) formed = known (ids.Text s) refl
id_member (array js) formed = none
id_member (object ms) formed = none

member_is : (o : Option Json) → IsFormed (option_and_then written_id o) → IsMember (is_some o) (option_and_then written_id o) (call_id o)
member_is None formed = absent
member_is (Some i) formed = id_member i formed

-- ---- params

-- whether they are unfit, and null; and what they are to a connection
data AreParams : Bool → Bool → Option (Option (List ℕ)) → Type 0 where
  fit : (q : Option (List ℕ)) → AreParams false false (Some q)
  null : (q : Option (List ℕ)) → AreParams true true (Some q)
  unfit : AreParams true false None

params_are : (told : Bool) (o : Option Json) → AreParams (are_unfit o) (option_map_or is_null_value o false) (call_params told o)
params_are told None = fit None
params_are told (Some json.null) = null (null_params told)
params_are told (Some (json.boolean b)) = unfit
params_are told (Some (json.number s)) = unfit
params_are told (Some (json.string s)) = unfit
params_are told (Some (array js)) = fit (Some (json_text (array js)))
params_are told (Some (object ms)) = fit (Some (json_text (object ms)))

-- ---- calls

-- what the answer is expected to have, by the kind, the id, and whether its only fault is that its params are null
abbrev expected_by : Kind → Option WrittenId → Bool → Option WrittenId
expected_by Request id only = if option_map_or is_odd id false then Some Null else id
expected_by Notification id only = None
expected_by Answer id only = None
expected_by BrokenAnswer id only = None
expected_by Invalid id only = if only then expected_without_params id else Some Null

request_expected : (id : Option WrittenId) (is_odd_id : Bool) → (request_by JsonRpc 0 id is_odd_id).expected ≡ (if is_odd_id then Some Null else id)
request_expected id true = refl
request_expected id false = refl

kind_expected : (entry : Entry) (kind : Kind) → option_and_then (λ owed. owed.expected) (owed_as JsonRpc 0 entry kind) ≡ expected_by kind entry.id (has_null_params entry)
kind_expected entry Request = from (has_twice entry)
  where
    from : (t : Bool) → (if t then may_be_left 0 (expected_without_params entry.id) entry.id (first_id entry) else request_owed JsonRpc 0 entry.id).expected
        ≡ (if option_map_or is_odd entry.id false then Some Null else entry.id)
    from true = refl
    from false = request_expected entry.id (option_map_or is_odd entry.id false)
kind_expected entry Notification = from (has_twice entry)
  where
    from : (t : Bool) → option_and_then (λ owed. owed.expected) (if t then Some (may_be_left 0 None None None) else None) ≡ None
    from true = refl
    from false = refl
kind_expected entry Answer = refl
kind_expected entry BrokenAnswer = refl
kind_expected entry Invalid = refl

expected_is : (entry : Entry) → expected_of entry ≡ expected_by entry.kind entry.id (has_null_params entry)
expected_is entry = kind_expected entry entry.kind

entry_none : (cancels : Option Cancels) (j : Json) → call_entry cancels None j ≡ Nothing
entry_none None j = refl
entry_none (Some by) j = refl

by_test : (c : Came) (target : Id) (b : Bool) → c.id ≡ None → id_due (if b then Cancel target else Call c) ≡ option_to_list c.id
by_test c target true no_id = sym (ap option_to_list no_id)
by_test c target false no_id = refl

chosen_is : (id : Option Id) (method : List ℕ) (params : Option (List ℕ)) (by : Cancels) (target : Id) → id_due (if is_cancel by (record { id = id; method = method; params = params }) then Cancel target else Call (record { id = id; method = method; params = params })) ≡ option_to_list id
chosen_is None method params by target = by_test (record { id = None; method = method; params = params }) target (bytes_eq method (lenient.cancel_method by)) refl
chosen_is (Some id) method params by target = refl

target_is : (id : Option Id) (method : List ℕ) (params : Option (List ℕ)) (by : Cancels) (o : Option Id) → id_due (cancel_or_call by (record { id = id; method = method; params = params }) o) ≡ option_to_list id
target_is id method params by None = refl
target_is id method params by (Some target) = chosen_is id method params by target

entry_some : (cancels : Option Cancels) (id : Option Id) (method : List ℕ) (params : Option (List ℕ)) (j : Json) → id_due (call_entry cancels (Some (record { id = id; method = method; params = params })) j) ≡ option_to_list id
entry_some None id method params j = refl
entry_some (Some by) id method params j = target_is id method params by (target_in by j)

-- the entry is answered as is expected
abbrev IsTied : Option WrittenId → Read → Type 0
IsTied expected e = option_to_list expected ≡ map written_as (id_due e)

abbrev faulty : Bool → Bool → Bool → Bool → Bool
faulty version method params id = false || not version || method || params || id || false || false

-- its only fault is that its params are null
abbrev only : Bool → Bool → Bool → Bool → Bool → Bool
only version method params nulls id = (params && not (false || not version || method || id || false || false)) && nulls

module _ (cancels : Option Cancels) (j : Json) where
  nothing_tied : IsTied (Some Null) (call_entry cancels None j)
  nothing_tied = ap (λ e. map written_as (id_due e)) (sym (entry_none cancels j))

  call_some : (id : Option Id) (method : List ℕ) (q : Option (List ℕ)) (expected : Option WrittenId) → option_to_list expected ≡ map written_as (option_to_list id)
      → IsTied expected (call_entry cancels (Some (record { id = id; method = method; params = q })) j)
  call_some id method q expected same = same ∙ ap (map written_as) (sym (entry_some cancels id method q j))

  odd_expected : (w : WrittenId) → is_odd w ≡ true → IsTied (if is_odd w then Some Null else Some w) (call_entry cancels None j)
  odd_expected w is = subst (λ b. IsTied (if b then Some Null else Some w) (call_entry cancels None j)) (sym is) nothing_tied

  known_call : (o : Id) (method : List ℕ) (q : Option (List ℕ)) → is_odd (written_as o) ≡ false
      → IsTied (if is_odd (written_as o) then Some Null else Some (written_as o)) (call_entry cancels (Some (record { id = Some o; method = method; params = q })) j)
  known_call o method q is =
      subst (λ b. IsTied (if b then Some Null else Some (written_as o)) (call_entry cancels (Some (record { id = Some o; method = method; params = q })) j)) (sym is)
      (call_some (Some o) method q (Some (written_as o)) refl)

  abbrev Tied : Bool → Option (List ℕ) → Bool → Bool → Option (Option (List ℕ)) → Bool → Option WrittenId → Option (Option Id) → Type 0
  Tied version method unfit_ones null_ones params there id given =
      IsTied (expected_by (call_kind (faulty version (is_none method) unfit_ones (there && is_none id)) there) id (only version (is_none method) unfit_ones null_ones (there && is_none id))) (call_entry cancels (call_from version method params given) j)

  call_tied : (version : Bool) (method : Option (List ℕ)) (unfit_ones null_ones : Bool) (params : Option (Option (List ℕ))) (there : Bool) (id : Option WrittenId) (given : Option (Option Id))
      → AreParams unfit_ones null_ones params → IsMember there id given → Tied version method unfit_ones null_ones params there id given
  call_tied false method _ _ _ _ _ _ (fit q) member = nothing_tied
  call_tied false method _ _ _ _ _ _ (null q) member = nothing_tied
  call_tied false method _ _ _ _ _ _ unfit member = nothing_tied
  call_tied true None _ _ _ _ _ _ (fit q) member = nothing_tied
  call_tied true None _ _ _ _ _ _ (null q) member = nothing_tied
  call_tied true None _ _ _ _ _ _ unfit member = nothing_tied
  call_tied true (Some m) _ _ _ _ _ _ (fit q) absent = call_some None m q None refl
  call_tied true (Some m) _ _ _ _ _ _ (fit q) none = nothing_tied
  call_tied true (Some m) _ _ _ _ _ _ (fit q) (odd w is) = odd_expected w is
  call_tied true (Some m) _ _ _ _ _ _ (fit q) (known o is) = known_call o m q is
  call_tied true (Some m) _ _ _ _ _ _ (null q) absent = call_some None m q None refl
  call_tied true (Some m) _ _ _ _ _ _ (null q) none = nothing_tied
  call_tied true (Some m) _ _ _ _ _ _ (null q) (odd w is) = odd_expected w is
  call_tied true (Some m) _ _ _ _ _ _ (null q) (known o is) = known_call o m q is
  call_tied true (Some m) _ _ _ _ _ _ unfit absent = nothing_tied
  call_tied true (Some m) _ _ _ _ _ _ unfit none = nothing_tied
  call_tied true (Some m) _ _ _ _ _ _ unfit (odd w is) = nothing_tied
  call_tied true (Some m) _ _ _ _ _ _ unfit (known o is) = nothing_tied

-- ---- entries

module _ (rules : Rules) (j : Json) (numbers : HasNumbers j) where
  abbrev faults_with : Bool → Bool → Faults
  faults_with is_one m = if is_one then (if m then call_faults j else answer_faults j (there_in j)) else no_object

  abbrev kind_with : Bool → Bool → Bool → Kind
  kind_with is_one m r = if m then call_kind (has_fault (faults_with is_one m)) (has (codes "id") j) else (if r then (if has_fault (faults_with is_one m) || stands_twice j then BrokenAnswer else Answer) else Invalid)

  abbrev null_with : Bool → Bool → Bool
  null_with is_one m = only_params (faults_with is_one m) && option_map_or is_null_value (get (codes "params") j) false

  abbrev read_with : Bool → Bool → Read
  read_with m r = if m then call_entry rules.cancels (came_in rules.null_params j) j else (if r then reply_entry (key_in j) (reply_in j) else Nothing)

  abbrev TiedWith : Bool → Bool → Bool → Type 0
  TiedWith is_one m r = IsTied (expected_by (kind_with is_one m r) (id_in j) (null_with is_one m)) (read_with m r)

  reply_tied : (id : Option WrittenId) (only_one is_faulty : Bool) (key : Option ℕ) (r : Replied) → IsTied (expected_by (if is_faulty then BrokenAnswer else Answer) id only_one) (reply_entry key r)
  reply_tied id only_one true None r = refl
  reply_tied id only_one true (Some k) r = refl
  reply_tied id only_one false None r = refl
  reply_tied id only_one false (Some k) r = refl

  tied_with : (is_one m r : Bool) → (m ≡ true → is_one ≡ true) → TiedWith is_one m r
  tied_with true true r is =
      call_tied rules.cancels j (is_version_2 j) (method_in j) (are_unfit (get (codes "params") j)) (option_map_or is_null_value (get (codes "params") j) false)
      (call_params rules.null_params (get (codes "params") j)) (has (codes "id") j) (id_in j) (call_id (get (codes "id") j))
      (params_are rules.null_params (get (codes "params") j)) (member_is (get (codes "id") j) (entry_formed j numbers))
  tied_with false true r is = never false (is refl) refl
  tied_with is_one false true is = reply_tied (id_in j) (null_with is_one false) (has_fault (faults_with is_one false) || stands_twice j) (key_in j) (reply_in j)
  tied_with true false false is = refl
  tied_with false false false is = refl

  pub entry_tied : option_to_list (expected_of (strict.entry_of j)) ≡ map written_as (id_due (lenient.entry_of rules j))
  entry_tied =
      ap option_to_list (expected_is (strict.entry_of j))
      ∙ tied_with (is_object j) (has (codes "method") j) (has (codes "result") j || has (codes "error") j) (object_of j)

-- those of an array
pub items_tied : (rules : Rules) (js : Items) → ItemsHaveNumbers js → ids_expected (strict.entries_of js) ≡ map written_as (ids_due (lenient.entries_of rules js))
items_tied rules no_items numbers = refl
items_tied rules (item j js) numbers =
    (λ i. entry_tied rules j numbers.0 i ++ items_tied rules js numbers.1 i)
    ∙ sym (map-append written_as (id_due (lenient.entry_of rules j)) (ids_due (lenient.entries_of rules js)))

pub as_many : (rules : Rules) (js : Items) → length (lenient.entries_of rules js) ≡ length (strict.entries_of js)
as_many rules no_items = refl
as_many rules (item j js) = ap suc (as_many rules js)
