-- An answer that is expected is for what expects it.
use Rattle.std.proofs.Common.{◌≡◌, ◌⊎◌, inl, inr, ◌&&◌, ◌||◌, not, ℕ, suc, ◌+◌, ◌<◌, nat_lt, Bool, true, false, cond, if◌then◌else◌, List, [], ◌∷◌, ◌++◌, length, position, get_or, Option, Some, None, option_map, refl, sym, ap, subst, ◌∙◌, arith}
use Rattle.std.proofs.lemmas.Bool.{ltb-true, lt-ltb}
use Rattle.std.proofs.lemmas.List.Quantifiers.{position-Some}
use Rattle.std.proofs.lemmas.Option.{slice_get-get_or}
use Rattle.std.specs.Prelude.{slice_get, option_and_then, count_by}
use Rattle.std.specs.List.{list_any, position_or_len}
use Rattle.std.specs.Option.{option_map_or, is_none}
use Rattle.conversation_reading.specs.declared.entry.WrittenId.{WrittenId}
use Rattle.conversation_reading.specs.declared.entry.WrittenId.TheVariants.{Null}
use Rattle.conversation_rules.specs.Amounts.{is_null}
use Rattle.conversation_rules.specs.Answers.{fit_findings, has_code, single_findings_of, rest_of, is_unsure, target_of, single_findings, cancelled_code_level, or_note, array_findings, taken_findings, answers_findings_of, batch_rest, answers_findings}
use Rattle.conversation_rules.specs.Dues as dues
use Rattle.conversation_rules.specs.Dues.{ids_read, array_target, array_fits, found_batch, fit_of}
use Rattle.conversation_rules.specs.Matching.{place_in, later, oldest, or_else, is_due_for, is_request_for, left_named_in, named_in, named_target, is_null_request, is_null_other, is_unnamed, expects_null_in, null_in, null_target, parse_error_target, is_just, is_just_due, can_be_answered, left_batch_target, batch_target}
use Rattle.conversation_rules.specs.Owed.{Owed, Due, is_expected, may_have}
use Rattle.conversation_rules.specs.Protocols.{is_mcp}
use Rattle.conversation_rules.specs.Speakers.{found, found_if}
use Rattle.conversation_rules.specs.declared.finding.Finding.{Finding}
use Rattle.conversation_rules.specs.declared.finding.Message.{Message}
use Rattle.conversation_rules.specs.declared.finding.Rule.TheVariants as rules
use Rattle.conversation_rules.specs.declared.found.Fit.{Fit}
use Rattle.conversation_rules.specs.declared.found.Found.TheVariants.{Entry as EntryFit}
use Rattle.conversation_rules.specs.declared.found.Target.{Target}
use Rattle.conversation_rules.specs.declared.found.Target.TheVariants.{EntryOf, WholeOf}
use Rattle.conversation_rules.specs.declared.level.Level.TheVariants.{Should, Note}
use Rattle.conversation_rules.specs.declared.protocol.Protocol.{Protocol}
use Rattle.conversation_rules.specs.declared.reply.Reply.{Reply}
use Rattle.conversation_rules.specs.declared.reply.Sight.{Sight}
use Rattle.our_side.specs.Breaking.{is_of_answers}
use Rattle.our_side.specs.Expected.{NoneOf, is_owed_singly, any_unreadable, is_owed_in_a_batch}

-- ---- findings

none-append : (xs ys : List Finding) → NoneOf is_of_answers xs → NoneOf is_of_answers ys → NoneOf is_of_answers (xs ++ ys)
none-append [] ys first second = second
none-append (x ∷ xs) ys first second = (first.0, none-append xs ys first.1 second)

none_if : (b : Bool) (f : Finding) → is_of_answers f.rule ≡ false → NoneOf is_of_answers (found_if b f)
none_if true f is = (is, tt)
none_if false f is = tt

none_unless : (b : Bool) (xs : List Finding) → NoneOf is_of_answers xs → NoneOf is_of_answers (if b then xs else [])
none_unless true xs none = none
none_unless false xs none = tt

fit_none : (protocol : Protocol) (sight : Sight) (message : Message) (reply : Reply) (fit : Fit) → NoneOf is_of_answers (fit_findings protocol sight message reply fit)
fit_none protocol sight message reply fit =
    none_unless (fit.is_request && reply.is_well) _ (none-append (found_if reply.is_uncalled (found message reply.at rules.CancelledCode (cancelled_code_level sight))) _
    (none_if reply.is_uncalled (found message reply.at rules.CancelledCode (cancelled_code_level sight)) refl)
    (none_if (is_mcp protocol && fit.is_cancelled) (found message reply.at rules.AfterCancel Note) refl))

-- ---- the place that `position` gives

pub record IsPlace {X : Type 0} (test : X → Bool) (xs : List X) : Type 0 where
  pub place : ℕ
  pub it : X
  pub is : position test xs ≡ Some place
  pub there : slice_get xs place ≡ Some it

pub first_place : {X : Type 0} (test : X → Bool) (x : X) (xs : List X) → test x ≡ true → position test (x ∷ xs) ≡ Some 0
first_place test x xs is =
    ap (λ b. cond (nat_lt (cond (not b) (1 + position_or_len test xs) 0) (suc (length xs))) (Some (cond (not b) (1 + position_or_len test xs) 0)) None) is
    ∙ ap (λ b. cond b (Some 0) None) (lt-ltb 0 (suc (length xs)) (omega arith))

some_parts : (b : Bool) (n place : ℕ) → cond b (Some n) None ≡ Some place → (b ≡ true) × (n ≡ place)
some_parts true n place is = (refl, cc)
some_parts false n place is = absurd (cc)

pub next_place : {X : Type 0} (test : X → Bool) (x : X) (xs : List X) (place : ℕ) → test x ≡ false → position test xs ≡ Some place → position test (x ∷ xs) ≡ Some (suc place)
next_place test x xs place isnt is =
    let parts = some_parts (nat_lt (position_or_len test xs) (length xs)) (position_or_len test xs) place is in
    let within : position_or_len test xs < length xs = ltb-true (position_or_len test xs) (length xs) parts.0 in
    ap (λ b. cond (nat_lt (cond (not b) (1 + position_or_len test xs) 0) (suc (length xs))) (Some (cond (not b) (1 + position_or_len test xs) 0)) None) isnt
    ∙ ap (λ b. cond b (Some (1 + position_or_len test xs)) None) (lt-ltb (1 + position_or_len test xs) (suc (length xs)) (omega (arith, within)))
    ∙ ap (λ n. Some (1 + n)) parts.1 ∙ ap (λ n. Some n) (let same : 1 + place ≡ suc place = omega arith in same)

or_other : (b c : Bool) → b ≡ false → (b || c) ≡ true → c ≡ true
or_other true c isnt is = cc
or_other false c isnt is = is

pub placed : {X : Type 0} (test : X → Bool) (xs : List X) → list_any test xs ≡ true → IsPlace test xs
placed test [] any = absurd (let no : false ≡ true = any in cc)
placed test (x ∷ xs) any = from (test x) refl (placed test xs)
  where
    from : (b : Bool) → test x ≡ b → (list_any test xs ≡ true → IsPlace test xs) → IsPlace test (x ∷ xs)
    from true is others = record { place = 0; it = x; is = first_place test x xs is; there = refl }
    from false is others =
        let rest = others (or_other (test x) (list_any test xs) is any) in
        record { place = suc rest.place; it = rest.it; is = next_place test x xs rest.place is rest.is; there = rest.there }

found_place : {X : Type 0} (test : X → Bool) (xs : List X) (place : ℕ) → position test xs ≡ Some place → IsPlace test xs
found_place test [] place is = absurd (let e : None ≡ Some place = is in cc)
found_place test (first ∷ xs) place is =
    let all = first ∷ xs in
    let found = position-Some test all place first is in
    record { place = place; it = get_or all place first; is = is; there = slice_get-get_or all place first found.0 }

-- ---- the oldest that fits

-- it is an entry of a content that is no batch
pub record IsOldest (target : Option Target) (owed : List Due) : Type 0 where
  pub fit : Fit
  pub found_is : dues.found target owed ≡ Some (EntryFit fit)
  pub alone : fit.in_batch ≡ false
  pub content : ℕ
  pub place : ℕ
  pub is : target ≡ Some (EntryOf content place)

here : (fits : Owed → Bool) (due : Due) (owed : List Due) → due.is_batch ≡ false → IsPlace fits due.entries → IsOldest (oldest false fits (due ∷ owed)) (due ∷ owed)
here fits due owed alone it =
    let at : place_in false fits due ≡ Some it.place = ap (λ b. if (if false then b else not b) then position fits due.entries else None) alone ∙ it.is in
    let target : oldest false fits (due ∷ owed) ≡ Some (EntryOf 0 it.place) = ap (λ o. option_map_or (λ place. Some (EntryOf 0 place)) o (option_map later (oldest false fits owed))) at in
    record {
      fit = fit_of due it.it;
      found_is = ap (λ t. dues.found t (due ∷ owed)) target ∙ ap (λ o. option_map EntryFit (option_map (fit_of due) o)) it.there;
      alone = alone;
      content = 0;
      place = it.place;
      is = target;
    }

behind : (fits : Owed → Bool) (due : Due) (owed : List Due) → place_in false fits due ≡ None → IsOldest (oldest false fits owed) owed → IsOldest (oldest false fits (due ∷ owed)) (due ∷ owed)
behind fits due owed none rest =
    let target : oldest false fits (due ∷ owed) ≡ Some (EntryOf (suc rest.content) rest.place) =
    ap (λ o. option_map_or (λ place. Some (EntryOf 0 place)) o (option_map later (oldest false fits owed))) none ∙ ap (option_map later) rest.is in
    record {
      fit = rest.fit;
      found_is = ap (λ t. dues.found t (due ∷ owed)) target ∙ ap (λ t. dues.found t owed) (sym rest.is) ∙ rest.found_is;
      alone = rest.alone;
      content = suc rest.content;
      place = rest.place;
      is = target;
    }

pub oldest_is : (fits : Owed → Bool) (owed : List Due) → is_owed_singly fits owed ≡ true → IsOldest (oldest false fits owed) owed
oldest_is fits [] any = absurd (let no : false ≡ true = any in cc)
oldest_is fits (due ∷ owed) any = from due.is_batch refl (list_any fits due.entries) refl (oldest_is fits owed)
  where
    from : (batch : Bool) → due.is_batch ≡ batch → (fit : Bool) → list_any fits due.entries ≡ fit → (is_owed_singly fits owed ≡ true → IsOldest (oldest false fits owed) owed) → IsOldest (oldest false fits (due ∷ owed)) (due ∷ owed)
    from true is fit has others =
        behind fits due owed (ap (λ b. if (if false then b else not b) then position fits due.entries else None) is)
        (others (or_other (not due.is_batch && list_any fits due.entries) (is_owed_singly fits owed) (ap (λ b. not b && list_any fits due.entries) is) any))
    from false is true has others = here fits due owed is (placed fits due.entries has)
    from false is false has others =
        let rest = others (or_other (not due.is_batch && list_any fits due.entries) (is_owed_singly fits owed) (ap (λ b. not b && list_any fits due.entries) is ∙ has) any) in
        by (position fits due.entries) refl rest
      where
        by : (o : Option ℕ) → position fits due.entries ≡ o → IsOldest (oldest false fits owed) owed → IsOldest (oldest false fits (due ∷ owed)) (due ∷ owed)
        by None none rest = behind fits due owed (ap (λ b. if (if false then b else not b) then position fits due.entries else None) is ∙ none) rest
        by (Some place) some rest = here fits due owed is (found_place fits due.entries place some)

-- ---- a target that comes first

pub first_of_two : (one other : Option Target) (owed : List Due) → IsOldest one owed → IsOldest (or_else one other) owed
first_of_two one other owed it =
    let same : or_else one other ≡ one = ap (λ t. or_else t other) it.is ∙ sym it.is in
    subst (λ t. IsOldest t owed) (sym same) it

-- one of two: the first where it is there
either_of_two : (one other : Option Target) (owed : List Due) → ((t : Target) → one ≡ Some t → IsOldest one owed) → IsOldest other owed → IsOldest (or_else one other) owed
either_of_two None other owed first it = it
either_of_two (Some t) other owed first it = first t refl

-- what the oldest is, where there is one
abbrev Others : (Owed → Bool) → List Due → Type 0
Others fits owed = (u : Target) → oldest false fits owed ≡ Some u → IsOldest (oldest false fits owed) owed

there_is : (fits : Owed → Bool) (owed : List Due) (t : Target) → oldest false fits owed ≡ Some t → IsOldest (oldest false fits owed) owed
there_is fits [] t is = absurd (let e : None ≡ Some t = is in cc)
there_is fits (due ∷ owed) t is = from due.is_batch refl (there_is fits owed)
  where
    rest_of_it : Others fits owed → place_in false fits due ≡ None → (o : Option Target) → oldest false fits owed ≡ o → IsOldest (oldest false fits (due ∷ owed)) (due ∷ owed)
    rest_of_it others none None gone =
        absurd (let e : None ≡ Some t = sym (ap (λ p. option_map_or (λ place. Some (EntryOf 0 place)) p (option_map later (oldest false fits owed))) none ∙ ap (option_map later) gone) ∙ is in cc)
    rest_of_it others none (Some u) some = behind fits due owed none (others u some)

    by : Others fits owed → due.is_batch ≡ false → (o : Option ℕ) → position fits due.entries ≡ o → IsOldest (oldest false fits (due ∷ owed)) (due ∷ owed)
    by others alone None none = rest_of_it others (ap (λ b. if (if false then b else not b) then position fits due.entries else None) alone ∙ none) (oldest false fits owed) refl
    by others alone (Some place) some = here fits due owed alone (found_place fits due.entries place some)

    from : (batch : Bool) → due.is_batch ≡ batch → Others fits owed → IsOldest (oldest false fits (due ∷ owed)) (due ∷ owed)
    from true batch others = rest_of_it others (ap (λ b. if (if false then b else not b) then position fits due.entries else None) batch) (oldest false fits owed) refl
    from false alone others = by others alone (position fits due.entries) refl

-- ---- single answers

pub single_none : (protocol : Protocol) (sight : Sight) (message : Message) (reply : Reply) (rest owed : List Due) (target : Option Target) → IsOldest target owed
    → NoneOf is_of_answers (single_findings_of protocol sight message reply rest (dues.found target owed))
single_none protocol sight message reply rest owed target it =
    subst (λ o. NoneOf is_of_answers (single_findings_of protocol sight message reply rest o)) (sym it.found_is)
    (none-append (found_if (it.fit.in_batch && reply.is_well) (found message reply.at rules.NotAsArray (or_note sight.is_broken Should))) _
    (subst (λ b. NoneOf is_of_answers (found_if (b && reply.is_well) (found message reply.at rules.NotAsArray (or_note sight.is_broken Should)))) (sym it.alone) tt)
    (fit_none protocol sight message reply it.fit))

module _ (protocol : Protocol) (sight : Sight) (message : Message) (reply : Reply) (owed : List Due) where
  pub named_none : (id : WrittenId) → is_null id ≡ false → is_owed_singly (is_expected id) owed ≡ true → NoneOf is_of_answers (single_findings protocol sight message reply (Some id) owed)
  named_none id named any =
      let it = oldest_is (is_expected id) owed any in
      let left = either_of_two (oldest false (is_request_for id) owed) (or_else (oldest false (is_expected id) owed) (oldest false (may_have id) owed)) owed (there_is (is_request_for id) owed)
      (first_of_two (oldest false (is_expected id) owed) (oldest false (may_have id) owed) owed it) in
      let inner = either_of_two (oldest false (is_due_for id) owed) (left_named_in false id owed) owed (there_is (is_due_for id) owed) left in
      let all = first_of_two (named_in false id owed) (named_in true id owed) owed inner in
      let target : target_of sight reply (Some id) owed ≡ named_target id owed = ap (λ b. if b then null_target_of else named_target id owed) named in
      single_none protocol sight message reply (rest_of sight reply (Some id) owed) owed (target_of sight reply (Some id) owed) (subst (λ t. IsOldest t owed) (sym target) all)
    where
      null_target_of : Option Target
      null_target_of = if has_code 32700 reply then parse_error_target (is_unsure sight reply owed) owed else null_target (has_code 32600 reply) (is_unsure sight reply owed) owed

  -- a target for an answer with the id null
  null_none : (t : Option Target) → target_of sight reply (Some Null) owed ≡ t → IsOldest t owed → NoneOf is_of_answers (single_findings protocol sight message reply (Some Null) owed)
  null_none t is it = single_none protocol sight message reply (rest_of sight reply (Some Null) owed) owed (target_of sight reply (Some Null) owed) (subst (λ t. IsOldest t owed) (sym is) it)

  expected_oldest : (says : Bool) → (is_owed_singly is_null_request owed ≡ true) ⊎ (is_owed_singly is_null_other owed ≡ true) → IsOldest (expects_null_in says false owed) owed
  expected_oldest true (inl request) =
      either_of_two (oldest false is_null_other owed) (oldest false is_null_request owed) owed (there_is is_null_other owed) (oldest_is is_null_request owed request)
  expected_oldest true (inr other) = first_of_two (oldest false is_null_other owed) (oldest false is_null_request owed) owed (oldest_is is_null_other owed other)
  expected_oldest false (inl request) = first_of_two (oldest false is_null_request owed) (oldest false is_null_other owed) owed (oldest_is is_null_request owed request)
  expected_oldest false (inr other) =
      either_of_two (oldest false is_null_request owed) (oldest false is_null_other owed) owed (there_is is_null_request owed) (oldest_is is_null_other owed other)

  -- whether it may be for something else
  other_oldest : (says unsure : Bool) → (is_owed_singly is_null_request owed ≡ true) ⊎ (is_owed_singly is_null_other owed ≡ true) → IsOldest (null_target says unsure owed) owed
  other_oldest says true any = expected_oldest says any
  other_oldest says false any =
      first_of_two (null_in says false owed) (null_in says true owed) owed
      (first_of_two (expects_null_in says false owed) (oldest false (λ one. one.may_be_null) owed) owed (expected_oldest says any))

  pub refused_none : has_code 32700 reply ≡ false → (is_owed_singly is_null_request owed ≡ true) ⊎ (is_owed_singly is_null_other owed ≡ true) → NoneOf is_of_answers (single_findings protocol sight message reply (Some Null) owed)
  refused_none code any =
      let says = has_code 32600 reply in
      let unsure = is_unsure sight reply owed in
      null_none (null_target says unsure owed) (ap (λ b. if b then parse_error_target unsure owed else null_target says unsure owed) code) (other_oldest says unsure any)

  -- the whole of a content that can't be read
  whole_none : (place : ℕ) → target_of sight reply (Some Null) owed ≡ Some (WholeOf place) → NoneOf is_of_answers (single_findings protocol sight message reply (Some Null) owed)
  whole_none place is =
      subst (λ t. NoneOf is_of_answers (single_findings_of protocol sight message reply (rest_of sight reply (Some Null) owed) (dues.found t owed))) (sym is) tt

  parse_error_is : has_code 32700 reply ≡ true → target_of sight reply (Some Null) owed ≡ parse_error_target (is_unsure sight reply owed) owed
  parse_error_is code = ap (λ b. if b then parse_error_target (is_unsure sight reply owed) owed else null_target (has_code 32600 reply) (is_unsure sight reply owed) owed) code

  -- behind what can't be read, and requests with the id null
  abbrev named_others : Option Target
  named_others = if is_unsure sight reply owed then None else oldest false is_null_other owed

  abbrev behind_requests : Option Target
  behind_requests = if is_unsure sight reply owed && list_any (λ due. due.has_huge) owed then None else or_else (oldest false is_unnamed owed) named_others

  -- behind what can't be read
  abbrev others : Option Target
  others = or_else (oldest false is_null_request owed) behind_requests

  at_place : (o : Option ℕ) → position (λ due. due.is_unreadable) owed ≡ o → parse_error_target (is_unsure sight reply owed) owed ≡ or_else (option_map WholeOf o) others
  at_place o is = ap (λ p. or_else (option_map WholeOf p) others) is

  -- a request with the id null, or what else has no id, where each content can be read
  and_false : (b : Bool) → (b && false) ≡ false
  and_false true = refl
  and_false false = refl

  abbrev UnnamedAlone : Type 0
  UnnamedAlone = (is_owed_singly is_unnamed owed ≡ true) × (list_any (λ due. due.has_huge) owed ≡ false)

  single_unread : has_code 32700 reply ≡ true → position (λ due. due.is_unreadable) owed ≡ None → (is_owed_singly is_null_request owed ≡ true) ⊎ UnnamedAlone → NoneOf is_of_answers (single_findings protocol sight message reply (Some Null) owed)
  single_unread code read (inl request) =
      null_none others (parse_error_is code ∙ at_place None read) (first_of_two (oldest false is_null_request owed) behind_requests owed (oldest_is is_null_request owed request))
  single_unread code read (inr unnamed) =
      let within : behind_requests ≡ or_else (oldest false is_unnamed owed) named_others =
      ap (λ b. if is_unsure sight reply owed && b then None else or_else (oldest false is_unnamed owed) named_others) unnamed.1
      ∙ ap (λ b. if b then None else or_else (oldest false is_unnamed owed) named_others) (and_false (is_unsure sight reply owed)) in
      null_none others (parse_error_is code ∙ at_place None read)
      (either_of_two (oldest false is_null_request owed) behind_requests owed (there_is is_null_request owed)
      (subst (λ t. IsOldest t owed) (sym within) (first_of_two (oldest false is_unnamed owed) named_others owed (oldest_is is_unnamed owed unnamed.0))))

  pub unreadable_none : has_code 32700 reply ≡ true → (any_unreadable owed ≡ true) ⊎ ((is_owed_singly is_null_request owed ≡ true) ⊎ UnnamedAlone) → NoneOf is_of_answers (single_findings protocol sight message reply (Some Null) owed)
  unreadable_none code (inl any) =
      let it = placed (λ (due : Due). due.is_unreadable) owed any in
      whole_none it.place (parse_error_is code ∙ at_place (Some it.place) it.is)
  unreadable_none code (inr single) = from (position (λ due. due.is_unreadable) owed) refl
    where
      from : (o : Option ℕ) → position (λ due. due.is_unreadable) owed ≡ o → NoneOf is_of_answers (single_findings protocol sight message reply (Some Null) owed)
      from (Some place) is = whole_none place (parse_error_is code ∙ at_place (Some place) is)
      from None is = single_unread code is single

-- ---- an array

taken_none : (protocol : Protocol) (sight : Sight) (message : Message) (reply : Reply) (fit : Option Fit) → NoneOf is_of_answers (taken_findings protocol sight message reply fit)
taken_none protocol sight message reply None = tt
taken_none protocol sight message reply (Some fit) = fit_none protocol sight message reply fit

pub array_none : (protocol : Protocol) (sight : Sight) (message : Message) (replies : List Reply) (fits : List (Option Fit)) → NoneOf is_of_answers (array_findings protocol sight message replies fits)
array_none protocol sight message [] fits = tt
array_none protocol sight message (reply ∷ replies) [] = tt
array_none protocol sight message (reply ∷ replies) (fit ∷ fits) = none-append (taken_findings protocol sight message reply fit) _ (taken_none protocol sight message reply fit) (array_none protocol sight message replies fits)

pub array_answers_none : (protocol : Protocol) (sight : Sight) (message : Message) (replies : List Reply) (ids : List (Option WrittenId)) (owed : List Due) (id : WrittenId) (more : List WrittenId) → ids_read ids ≡ id ∷ more
    → is_owed_in_a_batch (id ∷ more) owed ≡ true → NoneOf is_of_answers (answers_findings protocol sight message true replies ids owed)
array_answers_none protocol sight message replies ids owed id more read any = from (position (is_just_due (id ∷ more)) owed) refl
  where
    left : Option ℕ
    left = left_batch_target (id ∷ more) (count_by is_none ids) owed

    target_is : (o : Option ℕ) → position (is_just_due (id ∷ more)) owed ≡ o → array_target ids owed ≡ option_map_or Some o left
    target_is o is = ap (λ these. batch_target these (count_by is_none ids) owed) read ∙ ap (λ due. option_map_or Some due left) is

    none_of_it : (content : ℕ) (due : Due) → array_target ids owed ≡ Some content → slice_get owed content ≡ Some due → NoneOf is_of_answers (answers_findings protocol sight message true replies ids owed)
    none_of_it content due target there =
        let batch : found_batch ids owed ≡ Some (array_fits ids due) =
        ap (λ t. option_map (array_fits ids) (option_and_then (slice_get owed) t)) target ∙ ap (option_map (array_fits ids)) there in
        subst (λ o. NoneOf is_of_answers (answers_findings_of protocol sight message true replies ids (batch_rest ids owed) o)) (sym batch) (array_none protocol sight message replies (array_fits ids due))

    from : (o : Option ℕ) → position (is_just_due (id ∷ more)) owed ≡ o → NoneOf is_of_answers (answers_findings protocol sight message true replies ids owed)
    from (Some place) is =
        let it = found_place (is_just_due (id ∷ more)) owed place is in
        none_of_it it.place it.it (target_is (Some it.place) it.is) it.there
    from None is =
        let it = placed (is_just (id ∷ more)) owed any in
        none_of_it it.place it.it (target_is None is ∙ ap (λ o. option_map_or Some o (position (can_be_answered (id ∷ more) (count_by is_none ids)) owed)) it.is) it.there
