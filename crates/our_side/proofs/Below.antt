-- The ids that a side's requests had, and those that are open, are keys below a number.
use Rattle.std.proofs.Common.{◌≡◌, ◌==◌, ◌||◌, ◌&&◌, not, ℕ, zero, suc, ◌+◌, ◌-◌, ◌*◌, ◌<◌, ◌≤◌, ◌^◌, nat_lt, Bool, true, false, if◌then◌else◌, List, [], ◌∷◌, ◌++◌, map, take, drop, length, Option, Some, None, refl, sym, ap, subst, ◌∙◌, arith, decimal, option_map}
use Rattle.std.proofs.lemmas.Bool.{lt-ltb}
use Rattle.std.proofs.lemmas.Bool.Decides.{nat_tests}
use Rattle.std.specs.Prelude.{⊤, remove}
use Rattle.std.specs.List.{list_any}
use Rattle.std.specs.Str.Parse.{starts_with_minus}
use Rattle.conversation_reading.specs.Wholes.{size_of, whole_with, if_64_bits, whole_of}
use Rattle.conversation_reading.specs.declared.entry.WrittenId.{WrittenId}
use Rattle.conversation_reading.specs.declared.entry.WrittenId.TheVariants.{Number}
use Rattle.conversation_rules.specs.Amounts.{same_amount, same_id}
use Rattle.conversation_rules.specs.Answers.{Each as Taken, stray_of, are_told, behind_not_owed, refuses, behind_found, rest_of, target_of, behind_single, target_in_array, with_found, with_reply, each_of, behind_strays, new_each, none_fits, batch_rest, behind_answers_of, behind_answers}
use Rattle.conversation_rules.specs.Dues as dues
use Rattle.conversation_rules.specs.Dues.{owed_more, is_open, closed, any_owed, is_asked, cancelled, cancelled_in, with_entries, settled_entry, settled, unreadable_target, array_target, settled_batch, found_batch}
use Rattle.conversation_rules.specs.Matching.{is_request_for}
use Rattle.conversation_rules.specs.Owed.{Owed, Due, has_id, is_expected}
use Rattle.conversation_rules.specs.Runs.{is_in, has_number, joined, with_number, neighbours}
use Rattle.conversation_rules.specs.Used.{Used, is_number_used, is_used, room, full, use_whole, use_number, use_id}
use Rattle.conversation_rules.specs.declared.finding.Message.{Message}
use Rattle.conversation_rules.specs.declared.found.Fit.{Fit}
use Rattle.conversation_rules.specs.declared.found.Found.{Found}
use Rattle.conversation_rules.specs.declared.found.Found.TheVariants.{Whole as WholeFit, Entry as EntryFit}
use Rattle.conversation_rules.specs.declared.found.Target.{Target}
use Rattle.conversation_rules.specs.declared.found.Target.TheVariants.{EntryOf, WholeOf}
use Rattle.conversation_rules.specs.declared.protocol.Protocol.{Protocol}
use Rattle.conversation_rules.specs.declared.reply.Reply.{Reply}
use Rattle.conversation_rules.specs.declared.reply.Sight.{Sight}
use Rattle.conversation_rules.specs.declared.reply.Stray.{Stray}
use Rattle.our_side.proofs.Plain.{whole, amount, size, unsigned_key}

-- ---- lists

abbrev pub AllOf : {X : Type 0} → (X → Type 0) → List X → Type 0
AllOf P [] = ⊤
AllOf P (x ∷ xs) = P x × AllOf P xs

pub all-append : {X : Type 0} (P : X → Type 0) (xs ys : List X) → AllOf P xs → AllOf P ys → AllOf P (xs ++ ys)
all-append P [] ys first second = second
all-append P (x ∷ xs) ys first second = (first.0, all-append P xs ys first.1 second)

all-take : {X : Type 0} (P : X → Type 0) (n : ℕ) (xs : List X) → AllOf P xs → AllOf P (take n xs)
all-take P zero xs all = tt
all-take P (suc n) [] all = tt
all-take P (suc n) (x ∷ xs) all = (all.0, all-take P n xs all.1)

pub all-drop : {X : Type 0} (P : X → Type 0) (n : ℕ) (xs : List X) → AllOf P xs → AllOf P (drop n xs)
all-drop P zero xs all = all
all-drop P (suc n) [] all = tt
all-drop P (suc n) (x ∷ xs) all = all-drop P n xs all.1

all-remove : {X : Type 0} (P : X → Type 0) (xs : List X) (n : ℕ) → AllOf P xs → AllOf P (remove xs n)
all-remove P xs n all = all-append P (take n xs) (drop (suc n) xs) (all-take P n xs all) (all-drop P (suc n) xs all)

pub all-map : {X Y : Type 0} (P : X → Type 0) (Q : Y → Type 0) (f : X → Y) → ((x : X) → P x → Q (f x)) → (xs : List X) → AllOf P xs → AllOf Q (map f xs)
all-map P Q f keeps [] all = tt
all-map P Q f keeps (x ∷ xs) all = (keeps x all.0, all-map P Q f keeps xs all.1)

pub all-weaker : {X : Type 0} (P Q : X → Type 0) → ((x : X) → P x → Q x) → (xs : List X) → AllOf P xs → AllOf Q xs
all-weaker P Q weaker [] all = tt
all-weaker P Q weaker (x ∷ xs) all = (weaker x all.0, all-weaker P Q weaker xs all.1)

-- ---- what is owed

-- it is a key below this number
pub record IsKeyBelow (b : ℕ) (id : Option WrittenId) : Type 0 where
  pub key : ℕ
  pub below : key < b
  pub small : key < 2 ^ 64
  pub is : id ≡ Some (Number (decimal key))

abbrev pub OneBelow : ℕ → Owed → Type 0
OneBelow b owed = owed.is_request ≡ true → IsKeyBelow b owed.expected

abbrev pub DueBelow : ℕ → Due → Type 0
DueBelow b due = AllOf (OneBelow b) due.entries

abbrev pub OwedBelow : ℕ → List Due → Type 0
OwedBelow b owed = AllOf (DueBelow b) owed

one_later : (b e : ℕ) → b ≤ e → (owed : Owed) → OneBelow b owed → OneBelow e owed
one_later b e le owed is = λ request. let k = is request in record { key = k.key; below = (let lt = k.below in omega (arith, le, lt)); small = k.small; is = k.is }

pub owed_later : (b e : ℕ) → b ≤ e → (owed : List Due) → OwedBelow b owed → OwedBelow e owed
owed_later b e le owed all = all-weaker (DueBelow b) (DueBelow e) (λ due is. all-weaker (OneBelow b) (OneBelow e) (one_later b e le) due.entries is) owed all

module _ (b : ℕ) where
  pub more_below : (owed : Owed) (all : List Due) → OneBelow b owed → OwedBelow b all → OwedBelow b (owed_more owed all)
  more_below owed [] is all = tt
  more_below owed (due ∷ []) is all = (all-append (OneBelow b) due.entries (owed ∷ []) all.0 (is, tt), tt)
  more_below owed (due ∷ next ∷ rest) is all = (all.0, more_below owed (next ∷ rest) is all.1)

  last_below : (c : Bool) (due : Due) → DueBelow b due → OwedBelow b (if c then due ∷ [] else [])
  last_below true due is = (is, tt)
  last_below false due is = tt

  pub closed_below : (all : List Due) → OwedBelow b all → OwedBelow b (closed all)
  closed_below [] is = tt
  closed_below (due ∷ []) is = last_below (is_open due) due is.0
  closed_below (due ∷ next ∷ rest) is = (is.0, closed_below (next ∷ rest) is.1)

  cancelled_one : (settles : Bool) (id : WrittenId) (owed : Owed) → OneBelow b owed → OneBelow b (cancelled settles id owed)
  cancelled_one settles id owed is = from (is_request_for id owed)
    where
      from : (c : Bool) → OneBelow b (if c then record owed { is_cancelled = true; must = owed.must && not settles } else owed)
      from true = is
      from false = is

  pub cancelled_below : (settles : Bool) (id : WrittenId) (all : List Due) → OwedBelow b all → OwedBelow b (map (cancelled_in settles id) all)
  cancelled_below settles id all is =
      all-map (DueBelow b) (DueBelow b) (cancelled_in settles id) (λ due one. all-map (OneBelow b) (OneBelow b) (cancelled settles id) (cancelled_one settles id) due.entries one) all is

  -- ---- answers settle some of it

  left_below : (c : Bool) (due : Due) (rest : List Due) → DueBelow b due → OwedBelow b rest → OwedBelow b (if c then rest else due ∷ rest)
  left_below true due rest is all = all
  left_below false due rest is all = (is, all)

  settled_one : (content place : ℕ) (all : List Due) → OwedBelow b all → OwedBelow b (settled_entry content place all)
  settled_one content place [] is = tt
  settled_one zero place (due ∷ rest) is = left_below (length (remove due.entries place) == 0) (record due { entries = remove due.entries place }) rest (all-remove (OneBelow b) due.entries place is.0) is.1
  settled_one (suc content) place (due ∷ rest) is = (is.0, settled_one content place rest is.1)

  settled_below : (target : Option Target) (all : List Due) → OwedBelow b all → OwedBelow b (settled target all)
  settled_below None all is = is
  settled_below (Some (EntryOf content place)) all is = settled_one content place all is
  settled_below (Some (WholeOf content)) all is = all-remove (DueBelow b) all content is

  either_below : (c : Bool) (xs ys : List Due) → OwedBelow b xs → OwedBelow b ys → OwedBelow b (if c then xs else ys)
  either_below true xs ys first second = first
  either_below false xs ys first second = second

  stray_below : (strays : List Stray) (all : List Due) → OwedBelow b all → OwedBelow b (behind_not_owed strays all)
  stray_below strays all is = either_below (are_told strays) (settled (unreadable_target all) all) all (settled_below (unreadable_target all) all is) is

  found_below : (sight : Sight) (reply : Reply) (rest : List Due) (o : Option Found) → OwedBelow b rest → OwedBelow b (behind_found sight reply rest o)
  found_below sight reply rest None is = either_below (refuses sight reply rest) rest (behind_not_owed (stray_of reply ∷ []) rest) is (stray_below (stray_of reply ∷ []) rest is)
  found_below sight reply rest (Some f) is = is

  pub single_below : (sight : Sight) (reply : Reply) (id : Option WrittenId) (all : List Due) → OwedBelow b all → OwedBelow b (behind_single sight reply id all)
  single_below sight reply id all is =
      found_below sight reply (rest_of sight reply id all) (dues.found (target_of sight reply id all) all) (settled_below (target_of sight reply id all) all is)

  with_below : (protocol : Protocol) (sight : Sight) (message : Message) (reply : Reply) (each : Taken) (rest : List Due) (o : Option Found) → OwedBelow b rest → OwedBelow b (with_found protocol sight message reply each rest o).owed
  with_below protocol sight message reply each rest None is = is
  with_below protocol sight message reply each rest (Some WholeFit) is = is
  with_below protocol sight message reply each rest (Some (EntryFit fit)) is = is

  each_below : (protocol : Protocol) (sight : Sight) (message : Message) (replies : List Reply) (ids : List (Option WrittenId)) (each : Taken) → OwedBelow b each.owed → OwedBelow b (each_of protocol sight message replies ids each).owed
  each_below protocol sight message [] ids each is = is
  each_below protocol sight message (reply ∷ replies) [] each is = is
  each_below protocol sight message (reply ∷ replies) (id ∷ ids) each is =
      each_below protocol sight message replies ids (with_reply protocol sight message reply id each)
      (with_below protocol sight message reply each (settled (target_in_array reply id each.owed) each.owed) (dues.found (target_in_array reply id each.owed) each.owed) (settled_below (target_in_array reply id each.owed) each.owed is))

  strays_below : (strays : List Stray) (all : List Due) → OwedBelow b all → OwedBelow b (behind_strays strays all)
  strays_below [] all is = is
  strays_below (stray ∷ strays) all is = strays_below strays (behind_not_owed (stray ∷ []) all) (stray_below (stray ∷ []) all is)

  batch_below : (o : Option ℕ) (all : List Due) → OwedBelow b all → OwedBelow b (settled_batch o all)
  batch_below None all is = is
  batch_below (Some content) all is = all-remove (DueBelow b) all content is

  answers_of_below : (protocol : Protocol) (sight : Sight) (message : Message) (replies : List Reply) (ids : List (Option WrittenId)) (rest : List Due) (o : Option (List (Option Fit))) → OwedBelow b rest
      → OwedBelow b (behind_answers_of protocol sight message replies ids rest o)
  answers_of_below protocol sight message replies ids rest (Some fits) is = is
  answers_of_below protocol sight message replies ids rest None is =
      let each = each_of protocol sight message replies ids (new_each rest) in
      let left = each_below protocol sight message replies ids (new_each rest) is in
      either_below (none_fits replies each) (behind_not_owed each.strays each.owed) (behind_strays each.strays each.owed) (stray_below each.strays each.owed left) (strays_below each.strays each.owed left)

  pub answers_below : (protocol : Protocol) (sight : Sight) (message : Message) (replies : List Reply) (ids : List (Option WrittenId)) (all : List Due) → OwedBelow b all → OwedBelow b (behind_answers protocol sight message replies ids all)
  answers_below protocol sight message replies ids all is = answers_of_below protocol sight message replies ids (batch_rest ids all) (found_batch ids all) (batch_below (array_target ids all) all is)

-- ---- a new key isn't open

no_same : (a b : ℕ) → a < b → (b * 10 ^ 0 == a * 10 ^ 0) ≡ false
no_same a b lt = grind (arith, nat_tests)

both_false : (a c : Bool) → a ≡ false → (a && c) ≡ false
both_false true c is = cc
both_false false c is = refl

pub keys_differ : (key other : ℕ) → other < key → key < 2 ^ 64 → other < 2 ^ 64 → same_id (Number (decimal key)) (Number (decimal other)) ≡ false
keys_differ key other lt small few =
    (λ i. same_amount (amount key small i) (amount other few i)) ∙ both_false (key * 10 ^ 0 == other * 10 ^ 0) _ (no_same other key lt)

not_for : (b key : ℕ) → b ≤ key → key < 2 ^ 64 → (owed : Owed) → OneBelow b owed → is_request_for (Number (decimal key)) owed ≡ false
not_for b key le small owed is = from owed.is_request refl
  where
    named : IsKeyBelow b owed.expected → has_id (Number (decimal key)) owed.expected ≡ false
    named k = ap (has_id (Number (decimal key))) k.is ∙ keys_differ key k.key (let lt = k.below in omega (arith, lt, le)) small k.small

    from : (r : Bool) → owed.is_request ≡ r → (r && is_expected (Number (decimal key)) owed) ≡ false
    from true request = named (is request)
    from false request = refl

none_any : {X : Type 0} (test : X → Bool) (xs : List X) → AllOf (λ x. test x ≡ false) xs → list_any test xs ≡ false
none_any test [] all = refl
none_any test (x ∷ xs) all = ap (λ b. b || list_any test xs) all.0 ∙ none_any test xs all.1

pub not_asked : (b key : ℕ) → b ≤ key → key < 2 ^ 64 → (owed : List Due) → OwedBelow b owed → is_asked (Number (decimal key)) owed ≡ false
not_asked b key le small owed is =
    none_any (λ (due : Due). list_any (is_request_for (Number (decimal key))) due.entries) owed
    (all-weaker (DueBelow b) (λ (due : Due). list_any (is_request_for (Number (decimal key))) due.entries ≡ false)
    (λ due one. none_any (is_request_for (Number (decimal key))) due.entries (all-weaker (OneBelow b) (λ owed. is_request_for (Number (decimal key)) owed ≡ false) (not_for b key le small) due.entries one)) owed is)

-- ---- used ids

abbrev pub RunsBelow : ℕ → List (ℕ × ℕ) → Type 0
RunsBelow n runs = AllOf (λ (run : ℕ × ℕ). run.0 < n) runs

pub runs_later : (b e : ℕ) → b ≤ e → (runs : List (ℕ × ℕ)) → RunsBelow b runs → RunsBelow e runs
runs_later b e le runs all = all-weaker (λ (run : ℕ × ℕ). run.0 < b) (λ (run : ℕ × ℕ). run.0 < e) (λ run lt. omega (arith, le, lt)) runs all

not_in : (n b : ℕ) (run : ℕ × ℕ) → b ≤ n → run.0 < b → is_in n run ≡ false
not_in n b run le lt = grind (arith, nat_tests)

not_had : (n b : ℕ) → b ≤ n → (runs : List (ℕ × ℕ)) → RunsBelow b runs → has_number n runs ≡ false
not_had n b le runs all = none_any (is_in n) runs (all-weaker (λ (run : ℕ × ℕ). run.0 < b) (λ (run : ℕ × ℕ). is_in n run ≡ false) (λ run lt. not_in n b run le lt) runs all)

module _ (e : ℕ) where
  joined_by : (c : Bool) (last first : ℕ) (run : ℕ × ℕ) (runs : List (ℕ × ℕ)) → last < e → run.0 < e → RunsBelow e runs → RunsBelow e (if c then (run.0, first) ∷ runs else (last, first) ∷ (run ∷ runs))
  joined_by true last first run runs lt is all = (is, all)
  joined_by false last first run runs lt is all = (lt, (is, all))

  joined_below : (last first : ℕ) (runs : List (ℕ × ℕ)) → last < e → RunsBelow e runs → RunsBelow e (joined last first runs)
  joined_below last first [] lt all = (lt, tt)
  joined_below last first (run ∷ runs) lt all = joined_by (run.1 == last + 1) last first run runs lt all.0 all.1

  with_by : (p q r : Bool) (n : ℕ) (run : ℕ × ℕ) (runs : List (ℕ × ℕ)) → n < e → run.0 < e → RunsBelow e runs → RunsBelow e (with_number n runs)
      → RunsBelow e (if p then (n, n) ∷ (run ∷ runs) else (if q then (run.0, n) ∷ runs else (if r then joined n run.1 runs else run ∷ with_number n runs)))
  with_by true q r n run runs lt is all rest = (lt, (is, all))
  with_by false true r n run runs lt is all rest = (is, all)
  with_by false false true n run runs lt is all rest = joined_below n run.1 runs lt all
  with_by false false false n run runs lt is all rest = (is, rest)

  with_below_number : (n : ℕ) (runs : List (ℕ × ℕ)) → n < e → RunsBelow e runs → RunsBelow e (with_number n runs)
  with_below_number n [] lt all = (lt, tt)
  with_below_number n (run ∷ runs) lt all =
      with_by (nat_lt (n + 1) run.1) (n + 1 == run.1) (n == run.0 + 1) n run runs lt all.0 all.1 (with_below_number n runs lt all.1)

  either_used : (c : Bool) (x y : Used) → RunsBelow e x.runs → RunsBelow e y.runs → RunsBelow e (if c then x else y).runs
  either_used true x y first second = first
  either_used false x y first second = second

  use_below : (n : ℕ) (used : Used) → n < e → RunsBelow e used.runs → RunsBelow e (use_whole n used).runs
  use_below n used lt all =
      either_used (nat_lt used.most ((room used + 1) - neighbours n used.runs)) (full used) (record used { runs = with_number n used.runs }) all (with_below_number n used.runs lt all)

whole_is : (key : ℕ) → key < 2 ^ 64 → whole_of (decimal key) ≡ Some (record { minus = false; size = key })
whole_is key small =
    ap (λ b. if b then option_map (whole_with (starts_with_minus (decimal key))) (if_64_bits (size_of (decimal key))) else None) (whole key small)
    ∙ ap (λ s. option_map (whole_with s) (if_64_bits (size_of (decimal key)))) (unsigned_key key small)
    ∙ ap (λ n. option_map (whole_with false) (if_64_bits n)) (size key small)
    ∙ ap (λ b. option_map (whole_with false) (if b then Some key else None)) (lt-ltb key (2 ^ 64) small)

pub not_used : (b key : ℕ) → b ≤ key → key < 2 ^ 64 → (used : Used) → RunsBelow (2 ^ 64 + b) used.runs → is_used (Number (decimal key)) used ≡ false
not_used b key le small used all =
    ap (λ o. is_number_used (decimal key) o used) (whole_is key small) ∙ not_had (2 ^ 64 + key) (2 ^ 64 + b) (omega (arith, le)) used.runs all

pub used_below : (e key : ℕ) → key < e → key < 2 ^ 64 → (used : Used) → RunsBelow (2 ^ 64 + e) used.runs → RunsBelow (2 ^ 64 + e) (use_id (Number (decimal key)) used).runs
used_below e key lt small used all =
    either_used (2 ^ 64 + e) (used.is_full || is_used (Number (decimal key)) used) used (use_number (decimal key) (whole_of (decimal key)) used) all
    (subst (λ o. RunsBelow (2 ^ 64 + e) (use_number (decimal key) o used).runs) (sym (whole_is key small)) (use_below (2 ^ 64 + e) (2 ^ 64 + key) used (omega (arith, lt)) all))
