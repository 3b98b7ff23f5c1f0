-- What is due to units: it depends on the answers of their requests alone.
use Rattle.std.proofs.Common.{◌≡◌, ℕ, ◌+◌, List, [], ◌∷◌, ◌++◌, length, All, Option, Some, None, refl, sym, ap, subst, ◌∙◌, append_assoc, length-append, get_or-append-add, arith}
use Rattle.std.proofs.lemmas.List.{get_or_append_left}
use Rattle.std.proofs.lemmas.List.Elements.{All-head}
use Rattle.message_ids.specs.declared.id.Id.{Id}
use Rattle.rpc_messages.specs.declared.reply.Reply.{Reply}
use Rattle.rpc_messages.specs.Entry.{SeenEntry, call, reply, stray, invalid}
use Rattle.rpc_messages.specs.Unit.{SeenUnit, unreadable, single, batch}
use Rattle.rpc_messages.specs.Numbering.{numbers_of, unit_numbers, units_numbers}
use Rattle.rpc_messages.specs.Dues.{call_answers, entry_answers, answers_from, call_request, entry_request, requests_from, unit_kind, unit_text, unit_answers, unit_requests, due_if, unit_dues, dues}
use Rattle.peer_output.specs.Past.{requests_of}

-- ---- elements

pub all-left : {X : Type 0} (P : X → Type 0) (xs ys : List X) → All P (xs ++ ys) → All P xs
all-left P xs ys h k d lt = subst P (get_or_append_left xs ys d k lt) (h k d (omega (arith, length-append xs ys, lt)))

pub all-right : {X : Type 0} (P : X → Type 0) (xs ys : List X) → All P (xs ++ ys) → All P ys
all-right P xs ys h k d lt = subst P (get_or-append-add xs ys k d) (h (length xs + k) d (omega (arith, length-append xs ys, lt)))

-- ---- units one after another

pub dues-append : (choice : ℕ → Reply) (n : ℕ) (us vs : List SeenUnit) → dues choice n (us ++ vs) ≡ dues choice n us ++ dues choice (n + units_numbers us) vs
dues-append choice n [] vs = let same : n ≡ n + 0 = omega arith in ap (λ k. dues choice k vs) same
dues-append choice n (u ∷ us) vs =
    let same : n + unit_numbers u + units_numbers us ≡ n + (unit_numbers u + units_numbers us) = omega arith in
    ap (λ l. unit_dues choice n u ++ l) (dues-append choice (n + unit_numbers u) us vs ∙ ap (λ k. dues choice (n + unit_numbers u) us ++ dues choice k vs) same)
    ∙ sym (append_assoc (unit_dues choice n u) (dues choice (n + unit_numbers u) us) (dues choice (n + (unit_numbers u + units_numbers us)) vs))

pub requests_of-append : (n : ℕ) (us vs : List SeenUnit) → requests_of n (us ++ vs) ≡ requests_of n us ++ requests_of (n + units_numbers us) vs
requests_of-append n [] vs = let same : n ≡ n + 0 = omega arith in ap (λ k. requests_of k vs) same
requests_of-append n (u ∷ us) vs =
    let same : n + unit_numbers u + units_numbers us ≡ n + (unit_numbers u + units_numbers us) = omega arith in
    ap (λ l. unit_requests n u ++ l) (requests_of-append (n + unit_numbers u) us vs ∙ ap (λ k. requests_of (n + unit_numbers u) us ++ requests_of k vs) same)
    ∙ sym (append_assoc (unit_requests n u) (requests_of (n + unit_numbers u) us) (requests_of (n + (unit_numbers u + units_numbers us)) vs))

pub units_numbers-append : (us vs : List SeenUnit) → units_numbers (us ++ vs) ≡ units_numbers us + units_numbers vs
units_numbers-append [] vs = omega arith
units_numbers-append (u ∷ us) vs = omega (arith, units_numbers-append us vs)

-- ---- the same answers at the requests

module _ (these others : ℕ → Reply) where
  call-same : (n : ℕ) (id : Option Id) → All (λ k. these k ≡ others k) (call_request n id) → call_answers these n id ≡ call_answers others n id
  call-same n None h = refl
  call-same n (Some id) h = ap (λ (r : Reply). record { id = id; reply = r } ∷ []) (All-head (λ k. these k ≡ others k) n [] h)

  entry-same : (n : ℕ) (e : SeenEntry) → All (λ k. these k ≡ others k) (entry_request n e) → entry_answers these n e ≡ entry_answers others n e
  entry-same n (call c) h = call-same n c.id h
  entry-same n (reply m t r) h = refl
  entry-same n stray h = refl
  entry-same n invalid h = refl

  answers-same : (n : ℕ) (es : List SeenEntry) → All (λ k. these k ≡ others k) (requests_from n es) → answers_from these n es ≡ answers_from others n es
  answers-same n [] h = refl
  answers-same n (e ∷ es) h =
      ap (λ l. l ++ answers_from these (n + numbers_of e) es) (entry-same n e (all-left (λ k. these k ≡ others k) (entry_request n e) (requests_from (n + numbers_of e) es) h))
      ∙ ap (λ l. entry_answers others n e ++ l) (answers-same (n + numbers_of e) es (all-right (λ k. these k ≡ others k) (entry_request n e) (requests_from (n + numbers_of e) es) h))

  unit-same : (n : ℕ) (u : SeenUnit) → All (λ k. these k ≡ others k) (unit_requests n u) → unit_answers these n u ≡ unit_answers others n u
  unit-same n unreadable h = refl
  unit-same n (single e) h = entry-same n e h
  unit-same n (batch es) h = answers-same n es h

  pub dues-same : (n : ℕ) (us : List SeenUnit) → All (λ k. these k ≡ others k) (requests_of n us) → dues these n us ≡ dues others n us
  dues-same n [] h = refl
  dues-same n (u ∷ us) h =
      ap (λ l. due_if (unit_requests n u) (unit_text (unit_kind u) l) ++ dues these (n + unit_numbers u) us)
      (unit-same n u (all-left (λ k. these k ≡ others k) (unit_requests n u) (requests_of (n + unit_numbers u) us) h))
      ∙ ap (λ l. unit_dues others n u ++ l) (dues-same (n + unit_numbers u) us (all-right (λ k. these k ≡ others k) (unit_requests n u) (requests_of (n + unit_numbers u) us) h))
