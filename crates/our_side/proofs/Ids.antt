-- Ids that a connection could have are equal to the judge exactly where they are the same; and so are lists of them, but for
-- their order.
use Rattle.std.proofs.Common.{◌≡◌, inl, inr, ◌==◌, ◌&&◌, not, ℕ, suc, ◌+◌, ◌*◌, ◌≤◌, ◌^◌, Bool, true, false, List, [], ◌∷◌, Option, Some, None, option_map, refl, sym, ap, subst, ◌∙◌, arith, decimal, if◌then◌else◌}
use Rattle.std.proofs.lemmas.Bool.{eqb-true}
use Rattle.std.proofs.lemmas.Bool.Decides.{nat_tests}
use Rattle.std.proofs.lemmas.Slice.Eq.{bytes_eq-Decides}
use Rattle.std.specs.Option.{option_map_or}
use Rattle.conversation_reading.specs.declared.entry.WrittenId.{WrittenId}
use Rattle.conversation_reading.specs.declared.entry.WrittenId.TheVariants.{Null, Text, Number}
use Rattle.conversation_rules.specs.Amounts.{amount_of, same_amount, same_id, is_null, is_odd}
use Rattle.conversation_rules.specs.Matching.{without_id, same_ids}
use Rattle.our_side.specs.Asked.{IsWhole, IsPlain, ArePlain, IsNamed, as_number, times}
use Rattle.our_side.proofs.Plain.{amount, plain, below_amount, below_plain}

-- ---- numbers

and_first : (b c : Bool) → (b && c) ≡ true → b ≡ true
and_first true c is = refl
and_first false c is = cc

and_second : (b c : Bool) → (b && c) ≡ true → c ≡ true
and_second true c is = is
and_second false c is = cc

times_one : (a b : ℕ) → a * 10 ^ 0 ≡ b * 10 ^ 0 → a ≡ b
times_one a b is = omega (arith, is)

itself : (n : ℕ) → (n == n) ≡ true
itself n = grind (arith, nat_tests)

sizes_are : (a b : ℕ) (c : Bool) → (a * 10 ^ 0 == b * 10 ^ 0 && c) ≡ true → a ≡ b
sizes_are a b c is = times_one a b (eqb-true (a * 10 ^ 0) (b * 10 ^ 0) (and_first (a * 10 ^ 0 == b * 10 ^ 0) c is))

size_itself : (n : ℕ) (c : Bool) → c ≡ true → (n * 10 ^ 0 == n * 10 ^ 0 && c) ≡ true
size_itself n c is = ap (λ b. b && c) (itself (n * 10 ^ 0)) ∙ is

numbers_same : (a b : List ℕ) → IsWhole a → IsWhole b → same_amount (amount_of a) (amount_of b) ≡ true → a ≡ b
numbers_same a b (inl x) (inl y) is =
    let both = sym (λ i. same_amount ((ap amount_of x.2 ∙ amount x.0 x.1) i) ((ap amount_of y.2 ∙ amount y.0 y.1) i)) ∙ is in
    x.2 ∙ ap decimal (sizes_are x.0 y.0 true both) ∙ sym y.2
numbers_same a b (inl x) (inr y) is =
    let both = sym (λ i. same_amount ((ap amount_of x.2 ∙ amount x.0 x.1) i) ((ap amount_of y.2 ∙ below_amount y.0 y.1) i)) ∙ is in
    let same = sizes_are x.0 (suc y.0) (x.0 == 0) both in
    let none = eqb-true x.0 0 (and_second (x.0 * 10 ^ 0 == suc y.0 * 10 ^ 0) (x.0 == 0) both) in
    absurd (omega (arith, same, none))
numbers_same a b (inr x) (inl y) is =
    let both = sym (λ i. same_amount ((ap amount_of x.2 ∙ below_amount x.0 x.1) i) ((ap amount_of y.2 ∙ amount y.0 y.1) i)) ∙ is in
    let none = eqb-true (suc x.0) 0 (and_second (suc x.0 * 10 ^ 0 == y.0 * 10 ^ 0) (suc x.0 == 0) both) in
    absurd (omega (arith, none))
numbers_same a b (inr x) (inr y) is =
    let both = sym (λ i. same_amount ((ap amount_of x.2 ∙ below_amount x.0 x.1) i) ((ap amount_of y.2 ∙ below_amount y.0 y.1) i)) ∙ is in
    x.2 ∙ ap (λ n. 45 ∷ decimal n) (sizes_are (suc x.0) (suc y.0) true both) ∙ sym y.2

number_itself : (a : List ℕ) → IsWhole a → same_amount (amount_of a) (amount_of a) ≡ true
number_itself a (inl x) = (λ i. same_amount ((ap amount_of x.2 ∙ amount x.0 x.1) i) ((ap amount_of x.2 ∙ amount x.0 x.1) i)) ∙ size_itself x.0 true refl
number_itself a (inr x) = (λ i. same_amount ((ap amount_of x.2 ∙ below_amount x.0 x.1) i) ((ap amount_of x.2 ∙ below_amount x.0 x.1) i)) ∙ size_itself (suc x.0) true refl

pub whole_plain : (a : List ℕ) → IsWhole a → is_odd (Number a) ≡ false
whole_plain a (inl x) = ap (λ ds. is_odd (Number ds)) x.2 ∙ ap not (plain x.0 x.1)
whole_plain a (inr x) = ap (λ ds. is_odd (Number ds)) x.2 ∙ ap not (below_plain x.0 x.1)

-- ---- ids

pub same_itself : (id : WrittenId) → IsPlain id → same_id id id ≡ true
same_itself Null is = refl
same_itself (Text text) is = (bytes_eq-Decides text text).1 refl
same_itself (Number digits) is = number_itself digits is

pub same_plain : (a b : WrittenId) → IsPlain a → IsPlain b → same_id a b ≡ true → a ≡ b
same_plain Null Null is other same = refl
same_plain Null (Text b) is other same = absurd (let no : false ≡ true = same in cc)
same_plain Null (Number b) is other same = absurd (let no : false ≡ true = same in cc)
same_plain (Text a) Null is other same = absurd (let no : false ≡ true = same in cc)
same_plain (Text a) (Text b) is other same = ap Text ((bytes_eq-Decides a b).0 same)
same_plain (Text a) (Number b) is other same = absurd (let no : false ≡ true = same in cc)
same_plain (Number a) Null is other same = absurd (let no : false ≡ true = same in cc)
same_plain (Number a) (Text b) is other same = absurd (let no : false ≡ true = same in cc)
same_plain (Number a) (Number b) is other same = ap Number (numbers_same a b is other same)

pub named_plain : (id : WrittenId) → IsNamed id → IsPlain id
named_plain Null named = absurd named
named_plain (Text text) named = tt
named_plain (Number digits) named = named

pub named_not_null : (id : WrittenId) → IsNamed id → is_null id ≡ false
named_not_null Null named = absurd named
named_not_null (Text text) named = refl
named_not_null (Number digits) named = refl

pub plain_named : (id : WrittenId) → IsPlain id → is_null id ≡ false → IsNamed id
plain_named Null is other = absurd (let no : true ≡ false = other in cc)
plain_named (Text text) is other = tt
plain_named (Number digits) is other = is

pub only_null : (id : WrittenId) → is_null id ≡ true → id ≡ Null
only_null Null is = refl
only_null (Text text) is = absurd (let no : false ≡ true = is in cc)
only_null (Number digits) is = absurd (let no : false ≡ true = is in cc)

pub not_named : (id other : WrittenId) → IsNamed id → is_null other ≡ true → same_id id other ≡ false
not_named id other named is = ap (same_id id) (only_null other is) ∙ by id named
  where
    by : (id : WrittenId) → IsNamed id → same_id id Null ≡ false
    by Null named = absurd named
    by (Text text) named = refl
    by (Number digits) named = refl

-- ---- lists of ids

-- the others, where one is taken out
record Without (id : WrittenId) (ids rest : List WrittenId) : Type 0 where
  plain : ArePlain rest
  times_are : (other : WrittenId) → IsPlain other → times other ids ≡ as_number (same_id other id) + times other rest

-- what is left of a list behind its first id
abbrev left_of : WrittenId → List WrittenId → Bool → Option (List WrittenId) → Option (List WrittenId)
left_of x ids same out = if same then Some ids else option_map (λ rest. x ∷ rest) out

first_without : (id x : WrittenId) (ids rest : List WrittenId) → IsPlain id → IsPlain x → ArePlain ids → (same : Bool) → same_id id x ≡ same → (out : Option (List WrittenId))
    → ((r : List WrittenId) → out ≡ Some r → Without id ids r) → left_of x ids same out ≡ Some rest → Without id (x ∷ ids) rest
first_without id x ids rest is first plain true same out later all =
    let rest_is : ids ≡ rest = cc in
    let equal = same_plain id x is first same in
    record { plain = subst ArePlain rest_is plain; times_are = λ other known. (λ i. as_number (same_id other (sym equal i)) + times other (rest_is i)) }
first_without id x ids rest is first plain false same None later all = absurd (let no : None ≡ Some rest = all in cc)
first_without id x ids rest is first plain false same (Some found) later all =
    let rest_is : (x ∷ found) ≡ rest = cc in
    let inner = later found refl in
    record {
      plain = subst ArePlain rest_is (first, inner.plain);
      times_are = λ other known.
          let t = inner.times_are other known in
          (let moved : as_number (same_id other x) + times other ids ≡ as_number (same_id other id) + (as_number (same_id other x) + times other found) = omega (arith, t) in moved)
          ∙ ap (λ ids. as_number (same_id other id) + times other ids) rest_is;
    }

without_is : (id : WrittenId) (ids rest : List WrittenId) → IsPlain id → ArePlain ids → without_id id ids ≡ Some rest → Without id ids rest
without_is id [] rest is plain out = absurd (let no : None ≡ Some rest = out in cc)
without_is id (x ∷ ids) rest is plain out =
    first_without id x ids rest is plain.0 plain.1 (same_id id x) refl (without_id id ids) (λ r out. without_is id ids r is plain.1 out) out

none_first : (id x : WrittenId) (ids : List WrittenId) (same : Bool) → same_id id x ≡ same → (out : Option (List WrittenId)) → (out ≡ None → times id ids ≡ 0) → left_of x ids same out ≡ None → as_number (same_id id x) + times id ids ≡ 0
none_first id x ids true same out later all = absurd (let no : Some ids ≡ None = all in cc)
none_first id x ids false same (Some found) later all = absurd (let no : Some (x ∷ found) ≡ None = all in cc)
none_first id x ids false same None later all = let rest = later refl in let none = ap as_number same in omega (arith, rest, none)

none_there : (id : WrittenId) (ids : List WrittenId) → without_id id ids ≡ None → times id ids ≡ 0
none_there id [] out = refl
none_there id (x ∷ ids) out = none_first id x ids (same_id id x) refl (without_id id ids) (none_there id ids) out

-- each id is as often in the one as in the other
abbrev SameTimes : List WrittenId → List WrittenId → Type 0
SameTimes xs ys = (id : WrittenId) → IsPlain id → times id xs ≡ times id ys

some_times : (id : WrittenId) (ids : List WrittenId) → IsPlain id → 1 ≤ times id (id ∷ ids)
some_times id ids is = let one = ap as_number (same_itself id is) in omega (arith, one)

times_first : (x : WrittenId) (xs ys : List WrittenId) → IsPlain x → ArePlain ys → (out : Option (List WrittenId)) → without_id x ys ≡ out → ((rest : List WrittenId) → ArePlain rest → same_ids xs rest ≡ true → SameTimes xs rest)
    → option_map_or (same_ids xs) out false ≡ true → SameTimes (x ∷ xs) ys
times_first x xs ys is plain None out later same = absurd (let no : false ≡ true = same in cc)
times_first x xs ys is plain (Some rest) out later same =
    let it = without_is x ys rest is plain out in
    λ id known. let here = it.times_are id known in let others = later rest it.plain same id known in omega (arith, here, others)

times_same : (xs ys : List WrittenId) → ArePlain xs → ArePlain ys → same_ids xs ys ≡ true → SameTimes xs ys
times_same [] [] is plain same = λ id known. refl
times_same [] (y ∷ ys) is plain same = absurd (let no : false ≡ true = same in cc)
times_same (x ∷ xs) ys is plain same = times_first x xs ys is.0 plain (without_id x ys) refl (λ rest these same. times_same xs rest is.1 these same) same

same_first : (x : WrittenId) (xs ys : List WrittenId) → IsPlain x → ArePlain ys → (out : Option (List WrittenId)) → without_id x ys ≡ out → ((rest : List WrittenId) → ArePlain rest → SameTimes xs rest → same_ids xs rest ≡ true)
    → SameTimes (x ∷ xs) ys → option_map_or (same_ids xs) out false ≡ true
same_first x xs ys is plain None out later all = absurd (let some = some_times x xs is in let none = none_there x ys out in let same = all x is in omega (arith, some, none, same))
same_first x xs ys is plain (Some rest) out later all =
    let it = without_is x ys rest is plain out in
    later rest it.plain (λ id known. let here = it.times_are id known in let both = all id known in (let same : times id xs ≡ times id rest = omega (arith, here, both) in same))

same_times : (xs ys : List WrittenId) → ArePlain xs → ArePlain ys → SameTimes xs ys → same_ids xs ys ≡ true
same_times [] [] is plain all = refl
same_times [] (y ∷ ys) is plain all = absurd (let some = some_times y ys plain.0 in let none = all y plain.0 in omega (arith, some, none))
same_times (x ∷ xs) ys is plain all = same_first x xs ys is.0 plain (without_id x ys) refl (λ rest these same. same_times xs rest is.1 these same) all

both_ways : (a b : Bool) → (a ≡ true → b ≡ true) → (b ≡ true → a ≡ true) → a ≡ b
both_ways true true there back = refl
both_ways true false there back = sym (there refl)
both_ways false true there back = back refl
both_ways false false there back = refl

-- lists that are the same to the judge are the same as any other list
pub same_as_other : (xs ys zs : List WrittenId) → ArePlain xs → ArePlain ys → ArePlain zs → same_ids xs ys ≡ true → same_ids zs xs ≡ same_ids zs ys
same_as_other xs ys zs is plain third same =
    let all = times_same xs ys is plain same in
    both_ways (same_ids zs xs) (same_ids zs ys)
    (λ one. let t = times_same zs xs third is one in same_times zs ys third plain (λ id known. t id known ∙ all id known))
    (λ one. let t = times_same zs ys third plain one in same_times zs xs third is (λ id known. t id known ∙ sym (all id known)))

pub same_list : (ids : List WrittenId) → ArePlain ids → same_ids ids ids ≡ true
same_list ids are = same_times ids ids are are (λ id known. refl)
