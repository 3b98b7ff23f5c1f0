-- The units that are left, as the desk keeps them.
use Rattle.std.proofs.Common.{◌≡◌, ℕ, ◌+◌, ◌≤◌, ◌==◌, List, [], ◌∷◌, ◌++◌, length, map, All, Bool, true, false, cond, ◌&&◌, Option, Some, None, true≢false, refl, sym, ap, ◌∙◌, append-nil, arith}
use Rattle.std.proofs.lemmas.List.Elements.{All-nil, All-append, All-cons}
use Rattle.std.specs.Cmp.{unsigned_Decides}
use Rattle.std.specs.List.{filter_map, cons_option, list_all}
use Rattle.message_ids.specs.declared.id.Id.{Id}
use Rattle.rpc_messages.specs.Dues.{Due, SeenAnswer, call_answers, entry_answers, answers_from, unit_answers, call_request, entry_request, requests_from, unit_requests, unit_kind, unit_text as text_of_answers, due_if}
use Rattle.rpc_messages.specs.Entry.{SeenEntry, call, reply, stray, invalid}
use Rattle.rpc_messages.specs.Numbering.{numbers_of, numbers_in, unit_numbers, units_numbers}
use Rattle.rpc_messages.specs.Unit.{SeenUnit, unreadable, single, batch}
use Rattle.answer_desk.specs.Places.{call_part, new_parts, new_numbers}
use Rattle.answer_desk.specs.Waiting.{silent as no_answer, invalid as no_call, request, part_answer, part_answered, unit_answered, unit_text, is_finished, whole_front, behind_front}
use Rattle.peer_output.specs.Course.{Course}
use Rattle.peer_output.specs.Events.{with_at}
use Rattle.peer_output.specs.Left.{place_for, places_for, unit_places, shape_for, finished_with, call_left, entry_left, entries_left, parts_left, unit_left, units_left}
use Rattle.peer_output.specs.Past.{answer_of, dues_of, requests_of}

-- ---- one after another

pub left-append : (took : ℕ → Option Course) (n : ℕ) (us vs : List SeenUnit) → units_left took n (us ++ vs) ≡ units_left took n us ++ units_left took (n + units_numbers us) vs
left-append took n [] vs = let same : n ≡ n + 0 = omega arith in ap (λ k. units_left took k vs) same
left-append took n (u ∷ us) vs =
    let same : n + unit_numbers u + units_numbers us ≡ n + (unit_numbers u + units_numbers us) = omega arith in
    ap (λ l. unit_left took n u ∷ l) (left-append took (n + unit_numbers u) us vs ∙ ap (λ k. units_left took (n + unit_numbers u) us ++ units_left took k vs) same)

-- ---- a number is finished

same_test : (a b : ℕ) (x y : Bool) → (a == b) ≡ x → (b == a) ≡ y → (b == a) ≡ (a == b)
same_test a b true true is back = back ∙ sym is
same_test a b false false is back = back ∙ sym is
same_test a b true false is back = let same : a ≡ b = (unsigned_Decides a b).0 is in (unsigned_Decides b a).1 (sym same) ∙ sym is
same_test a b false true is back = let same : b ≡ a = (unsigned_Decides b a).0 back in back ∙ sym ((unsigned_Decides a b).1 (sym same))

turned : (a b : ℕ) → (b == a) ≡ (a == b)
turned a b = same_test a b (a == b) (b == a) refl refl

answered_if : (c : Course) (o : Option Course) (b : Bool) → cond b (Some c.answer) (finished_with o) ≡ finished_with (cond b (Some c) o)
answered_if c o true = refl
answered_if c o false = refl

module _ (took : ℕ → Option Course) (number : ℕ) (c : Course) where
  call-answered : (k : ℕ) (id : Option Id) → part_answered number c.answer (call_left took k id) ≡ call_left (with_at number (Some c) took) k id
  call-answered k None = refl
  call-answered k (Some id) =
      ap (request k id) (answered_if c (took k) (k == number) ∙ ap (λ b. finished_with (cond b (Some c) (took k))) (sym (turned k number)))

  entry-answered : (n : ℕ) (e : SeenEntry) → part_answered number c.answer (entry_left took n e) ≡ entry_left (with_at number (Some c) took) n e
  entry-answered n (call d) = call-answered n d.id
  entry-answered n (reply m t r) = refl
  entry-answered n stray = refl
  entry-answered n invalid = refl

  entries-answered : (n : ℕ) (es : List SeenEntry) → map (part_answered number c.answer) (entries_left took n es) ≡ entries_left (with_at number (Some c) took) n es
  entries-answered n [] = refl
  entries-answered n (e ∷ es) = λ i. entry-answered n e i ∷ entries-answered (n + numbers_of e) es i

  parts-answered : (n : ℕ) (u : SeenUnit) → map (part_answered number c.answer) (parts_left took n u) ≡ parts_left (with_at number (Some c) took) n u
  parts-answered n unreadable = refl
  parts-answered n (single e) = λ i. entry-answered n e i ∷ []
  parts-answered n (batch es) = entries-answered n es

  pub left-answered : (n : ℕ) (us : List SeenUnit) → map (unit_answered number c.answer) (units_left took n us) ≡ units_left (with_at number (Some c) took) n us
  left-answered n [] = refl
  left-answered n (u ∷ us) = λ i. record { kind = unit_kind u; parts = parts-answered n u i } ∷ left-answered (n + unit_numbers u) us i

-- ---- a unit that is whole

request-due : (n : ℕ) (id : Id) (o : Option Course) (rest : List SeenAnswer) → is_finished (request n id (finished_with o)) ≡ true
    → cons_option (part_answer (request n id (finished_with o))) rest ≡ record { id = id; reply = answer_of o } ∷ rest
request-due n id None rest h = cc
request-due n id (Some c) rest h = refl

request-finished : (n : ℕ) (id : Id) (o : Option Course) → is_finished (request n id (finished_with o)) ≡ true → (c : Course) × (o ≡ Some c)
request-finished n id None h = absurd (true≢false (sym h))
request-finished n id (Some c) h = (c, refl)

and-left : (a b : Bool) → (a && b) ≡ true → a ≡ true
and-left true b h = refl
and-left false b h = cc

and-right : (a b : Bool) → (a && b) ≡ true → b ≡ true
and-right true b h = h
and-right false b h = cc

module _ (took : ℕ → Option Course) where
  call-due : (n : ℕ) (id : Option Id) (rest : List SeenAnswer) → is_finished (call_left took n id) ≡ true
      → cons_option (part_answer (call_left took n id)) rest ≡ call_answers (λ k. answer_of (took k)) n id ++ rest
  call-due n None rest h = refl
  call-due n (Some id) rest h = request-due n id (took n) rest h

  entry-due : (n : ℕ) (e : SeenEntry) (rest : List SeenAnswer) → is_finished (entry_left took n e) ≡ true
      → cons_option (part_answer (entry_left took n e)) rest ≡ entry_answers (λ k. answer_of (took k)) n e ++ rest
  entry-due n (call c) rest h = call-due n c.id rest h
  entry-due n (reply m t r) rest h = refl
  entry-due n stray rest h = refl
  entry-due n invalid rest h = refl

  entries-due : (n : ℕ) (es : List SeenEntry) → list_all is_finished (entries_left took n es) ≡ true
      → filter_map part_answer (entries_left took n es) ≡ answers_from (λ k. answer_of (took k)) n es
  entries-due n [] h = refl
  entries-due n (e ∷ es) h =
      entry-due n e (filter_map part_answer (entries_left took (n + numbers_of e) es)) (and-left (is_finished (entry_left took n e)) (list_all is_finished (entries_left took (n + numbers_of e) es)) h)
      ∙ ap (λ l. entry_answers (λ k. answer_of (took k)) n e ++ l)
      (entries-due (n + numbers_of e) es (and-right (is_finished (entry_left took n e)) (list_all is_finished (entries_left took (n + numbers_of e) es)) h))

  parts-due : (n : ℕ) (u : SeenUnit) → list_all is_finished (parts_left took n u) ≡ true
      → filter_map part_answer (parts_left took n u) ≡ unit_answers (λ k. answer_of (took k)) n u
  parts-due n unreadable h = refl
  parts-due n (single e) h = entry-due n e [] (and-left (is_finished (entry_left took n e)) true h) ∙ append-nil (entry_answers (λ k. answer_of (took k)) n e)
  parts-due n (batch es) h = entries-due n es h

  call-finished : (n : ℕ) (id : Option Id) → is_finished (call_left took n id) ≡ true → All (λ k. (c : Course) × (took k ≡ Some c)) (call_request n id)
  call-finished n None h = All-nil (λ k. (c : Course) × (took k ≡ Some c))
  call-finished n (Some id) h = All-cons (λ k. (c : Course) × (took k ≡ Some c)) n [] (request-finished n id (took n) h) (All-nil (λ k. (c : Course) × (took k ≡ Some c)))

  entry-finished : (n : ℕ) (e : SeenEntry) → is_finished (entry_left took n e) ≡ true → All (λ k. (c : Course) × (took k ≡ Some c)) (entry_request n e)
  entry-finished n (call d) h = call-finished n d.id h
  entry-finished n (reply m t r) h = All-nil (λ k. (c : Course) × (took k ≡ Some c))
  entry-finished n stray h = All-nil (λ k. (c : Course) × (took k ≡ Some c))
  entry-finished n invalid h = All-nil (λ k. (c : Course) × (took k ≡ Some c))

  entries-finished : (n : ℕ) (es : List SeenEntry) → list_all is_finished (entries_left took n es) ≡ true → All (λ k. (c : Course) × (took k ≡ Some c)) (requests_from n es)
  entries-finished n [] h = All-nil (λ k. (c : Course) × (took k ≡ Some c))
  entries-finished n (e ∷ es) h =
      All-append (λ k. (c : Course) × (took k ≡ Some c)) (entry_request n e) (requests_from (n + numbers_of e) es)
      (entry-finished n e (and-left (is_finished (entry_left took n e)) (list_all is_finished (entries_left took (n + numbers_of e) es)) h))
      (entries-finished (n + numbers_of e) es (and-right (is_finished (entry_left took n e)) (list_all is_finished (entries_left took (n + numbers_of e) es)) h))

  unit-finished : (n : ℕ) (u : SeenUnit) → list_all is_finished (parts_left took n u) ≡ true → All (λ k. (c : Course) × (took k ≡ Some c)) (unit_requests n u)
  unit-finished n unreadable h = All-nil (λ k. (c : Course) × (took k ≡ Some c))
  unit-finished n (single e) h = entry-finished n e (and-left (is_finished (entry_left took n e)) true h)
  unit-finished n (batch es) h = entries-finished n es h

  text-due : (requests : List ℕ) (text : Option (List ℕ)) (dues : List Due) → cons_option text (map (λ (due : Due). due.text) dues) ≡ map (λ (due : Due). due.text) (due_if requests text ++ dues)
  text-due requests None dues = refl
  text-due requests (Some text) dues = refl

-- ---- the front

abbrev pub IsFront : (ℕ → Option Course) → ℕ → List SeenUnit → Type 0
IsFront took n units =
    (front : List SeenUnit) × (left : List SeenUnit) × (units ≡ front ++ left)
    × All (λ k. (c : Course) × (took k ≡ Some c)) (requests_of n front)
    × (filter_map unit_text (whole_front (units_left took n units)) ≡ map (λ (due : Due). due.text) (dues_of took n front))
    × (behind_front (units_left took n units) ≡ units_left took (n + units_numbers front) left)

front_if : (took : ℕ → Option Course) (n : ℕ) (u : SeenUnit) (us : List SeenUnit) (b : Bool) → list_all is_finished (parts_left took n u) ≡ b → IsFront took (n + unit_numbers u) us
    → (front : List SeenUnit) × (left : List SeenUnit) × (u ∷ us ≡ front ++ left)
    × All (λ k. (c : Course) × (took k ≡ Some c)) (requests_of n front)
    × (filter_map unit_text (cond b (unit_left took n u ∷ whole_front (units_left took (n + unit_numbers u) us)) []) ≡ map (λ (due : Due). due.text) (dues_of took n front))
    × (cond b (behind_front (units_left took (n + unit_numbers u) us)) (unit_left took n u ∷ units_left took (n + unit_numbers u) us) ≡ units_left took (n + units_numbers front) left)
front_if took n u us false is later =
    let same : n ≡ n + 0 = omega arith in
    ([], u ∷ us, refl, All-nil (λ k. (c : Course) × (took k ≡ Some c)), refl, ap (λ k. units_left took k (u ∷ us)) same)
front_if took n u us true is later =
    let same : n + unit_numbers u + units_numbers later.0 ≡ n + (unit_numbers u + units_numbers later.0) = omega arith in (
      u ∷ later.0,
      later.1,
      ap (λ l. u ∷ l) later.2,
      All-append (λ k. (c : Course) × (took k ≡ Some c)) (unit_requests n u) (requests_of (n + unit_numbers u) later.0) (unit-finished took n u is) later.3,
      ap (λ l. cons_option (text_of_answers (unit_kind u) (filter_map part_answer (parts_left took n u))) l) later.4
          ∙ ap (λ given. cons_option (text_of_answers (unit_kind u) given) (map (λ (due : Due). due.text) (dues_of took (n + unit_numbers u) later.0))) (parts-due took n u is)
          ∙ text-due took (unit_requests n u) (text_of_answers (unit_kind u) (unit_answers (λ k. answer_of (took k)) n u)) (dues_of took (n + unit_numbers u) later.0),
      later.5 ∙ ap (λ k. units_left took k later.1) same,
    )

pub left-front : (took : ℕ → Option Course) (n : ℕ) (us : List SeenUnit) → IsFront took n us
left-front took n [] = ([], [], refl, All-nil (λ k. (c : Course) × (took k ≡ Some c)), refl, refl)
left-front took n (u ∷ us) = front_if took n u us (list_all is_finished (parts_left took n u)) refl (left-front took (n + unit_numbers u) us)

-- ---- a unit that comes

module _ (took : ℕ → Option Course) (most : ℕ → ℕ) where
  call-new : (n : ℕ) (id : Option Id) → took n ≡ None → call_part n id ≡ call_left took n id
  call-new n None h = refl
  call-new n (Some id) h = ap (λ o. request n id (finished_with o)) (sym h)

  at-zero : (n : ℕ) (es : List SeenEntry) → new_parts (n + 0) (places_for most (n + 0) es) ≡ new_parts n (places_for most (n + 0) es)
  at-zero n es = let same : n + 0 ≡ n = omega arith in ap (λ k. new_parts k (places_for most (n + 0) es)) same

  entries-new : (n : ℕ) (es : List SeenEntry) → ((k : ℕ) → n ≤ k → took k ≡ None) → new_parts n (places_for most n es) ≡ entries_left took n es
  entries-new n [] h = refl
  entries-new n (call c ∷ es) h = λ i. call-new n c.id (h n (omega arith)) i ∷ entries-new (n + 1) es (λ k le. h k (omega arith)) i
  entries-new n (reply m t r ∷ es) h = ap (λ l. no_answer ∷ l) (sym (at-zero n es) ∙ entries-new (n + 0) es (λ k le. h k (omega arith)))
  entries-new n (stray ∷ es) h = ap (λ l. no_answer ∷ l) (sym (at-zero n es) ∙ entries-new (n + 0) es (λ k le. h k (omega arith)))
  entries-new n (invalid ∷ es) h = ap (λ l. no_call ∷ l) (sym (at-zero n es) ∙ entries-new (n + 0) es (λ k le. h k (omega arith)))

  single-new : (n : ℕ) (e : SeenEntry) → ((k : ℕ) → n ≤ k → took k ≡ None) → new_parts n (place_for most n e ∷ []) ≡ entry_left took n e ∷ []
  single-new n (call c) h = λ i. call-new n c.id (h n (omega arith)) i ∷ []
  single-new n (reply m t r) h = refl
  single-new n stray h = refl
  single-new n invalid h = refl

  parts-new : (n : ℕ) (u : SeenUnit) → ((k : ℕ) → n ≤ k → took k ≡ None) → new_parts n (unit_places most n u) ≡ parts_left took n u
  parts-new n unreadable h = refl
  parts-new n (single e) h = single-new n e h
  parts-new n (batch es) h = entries-new n es h

  pub unit-new : (n : ℕ) (u : SeenUnit) → ((k : ℕ) → n ≤ k → took k ≡ None)
      → record { kind = (shape_for most n u).kind; parts = new_parts n (shape_for most n u).places } ≡ unit_left took n u
  unit-new n u h = λ i. record { kind = unit_kind u; parts = parts-new n u h i }

module _ (most : ℕ → ℕ) where
  entries-numbered : (n : ℕ) (es : List SeenEntry) → length (new_numbers (places_for most n es)) ≡ numbers_in es
  entries-numbered n [] = refl
  entries-numbered n (call c ∷ es) = omega (arith, entries-numbered (n + 1) es)
  entries-numbered n (reply m t r ∷ es) = omega (arith, entries-numbered (n + 0) es)
  entries-numbered n (stray ∷ es) = omega (arith, entries-numbered (n + 0) es)
  entries-numbered n (invalid ∷ es) = omega (arith, entries-numbered (n + 0) es)

  single-numbered : (n : ℕ) (e : SeenEntry) → length (new_numbers (place_for most n e ∷ [])) ≡ numbers_in (e ∷ [])
  single-numbered n (call c) = refl
  single-numbered n (reply m t r) = refl
  single-numbered n stray = refl
  single-numbered n invalid = refl

  pub unit-numbered : (n : ℕ) (u : SeenUnit) → length (new_numbers (shape_for most n u).places) ≡ unit_numbers u
  unit-numbered n unreadable = refl
  unit-numbered n (single e) = single-numbered n e
  unit-numbered n (batch es) = entries-numbered n es
