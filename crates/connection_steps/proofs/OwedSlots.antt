-- What a unit is owed, by the slots of its answer.
use Rattle.std.proofs.Common.{◌≡◌, ℕ, ◌+◌, ◌==◌, List, [], ◌∷◌, ◌++◌, length, Bool, true, false, cond, Option, Some, None, refl, sym, ap, ◌∙◌, append_assoc, append-nil, arith}
use Rattle.std.proofs.lemmas.List.Sums.{sum_by-cons}
use Rattle.std.specs.Option.{is_none}
use Rattle.std.specs.Prelude.{option_map}
use Rattle.message_ids.specs.declared.id.Id.{Id}
use Rattle.message_ids.specs.declared.id.Id.TheVariants.{Null}
use Rattle.message_ids.specs.declared.standard.Standard.TheVariants.{ParseError, InvalidRequest}
use Rattle.connection_messages.specs.Texts.{answer_text, error_head}
use Rattle.connection_messages.specs.declared.answer.Answer.{Answer}
use Rattle.connection_messages.specs.declared.answer.Answer.TheVariants.{Result, Error, Standard}
use Rattle.connection_messages.specs.declared.entry.Entry.{Entry}
use Rattle.connection_messages.specs.declared.entry.Entry.TheVariants.{Call, Cancel, Reply, Stray, Invalid}
use Rattle.connection_messages.specs.declared.unit.Unit.{Unit}
use Rattle.connection_messages.specs.declared.unit.Unit.TheVariants.{Unreadable, Single, Batch}
use Rattle.connection_history.specs.Stream.{call_in}
use Rattle.connection_history.specs.History.{History, answer_to}
use Rattle.connection_history.specs.Answers.{Texts, both, texts_of, call_texts, entry_texts, texts_along, unit_texts, Due, open_yet, nothing, text, joined, due_from, due_of}
use Rattle.connection_history.proofs.Tests.{different}
use Rattle.owed_answers.specs.Owed as owed
use Rattle.owed_answers.specs.Owed.{OwedUnit, lacking_slots, is_answer, slot_texts}
use Rattle.connection_steps.specs.States.{given_text, call_slots, entry_slots, slots_along, unit_slots, is_batch}
use Rattle.connection_steps.specs.Steps.{is_complete}

abbrev pub Slots : Type 0
Slots = List (Option (List ℕ))

-- ---- slots whose texts are all given

abbrev pub all_given : Slots → Bool
all_given [] = true
all_given (None ∷ ss) = false
all_given (Some t ∷ ss) = all_given ss

abbrev weight : Option (List ℕ) → ℕ
weight s = cond (is_none s) 1 0

-- nothing is lacking exactly where all are given
pub lacking_none : (ss : Slots) → (lacking_slots ss == 0) ≡ all_given ss
lacking_none [] = refl
lacking_none (None ∷ ss) = different (lacking_slots (None ∷ ss)) 0 (λ e. omega (arith, sum_by-cons weight None ss))
lacking_none (Some t ∷ ss) = let same : lacking_slots (Some t ∷ ss) ≡ lacking_slots ss = omega (arith, sum_by-cons weight (Some t) ss) in ap (λ n. n == 0) same ∙ lacking_none ss

-- the answer that a text is, if it is one
abbrev pub shown : List ℕ → List (List ℕ)
shown t = cond (is_answer t) (t ∷ []) []

-- the answers of slots, where all are given
abbrev pub gathered : Slots → Texts
gathered [] = Some []
gathered (None ∷ ss) = None
gathered (Some t ∷ ss) = both (Some (shown t)) (gathered ss)

both-nothing : (o : Texts) → o ≡ both (Some []) o
both-nothing None = refl
both-nothing (Some ts) = refl

both_assoc : (ts : List (List ℕ)) (o p : Texts) → both (Some ts) (both o p) ≡ both (both (Some ts) o) p
both_assoc ts None p = refl
both_assoc ts (Some us) None = refl
both_assoc ts (Some us) (Some vs) = ap (λ l. Some l) (sym (append_assoc ts us vs))

pub gathered-append : (ss more : Slots) → gathered (ss ++ more) ≡ both (gathered ss) (gathered more)
gathered-append [] more = both-nothing (gathered more)
gathered-append (None ∷ ss) more = refl
gathered-append (Some t ∷ ss) more = ap (both (Some (shown t))) (gathered-append ss more) ∙ both_assoc (shown t) (gathered ss) (gathered more)

one_more : (b a : Bool) (t : List ℕ) (ts : List (List ℕ)) → both (Some (cond a (t ∷ []) [])) (cond b (Some ts) None) ≡ cond b (Some (cond a (t ∷ ts) ts)) None
one_more true true t ts = refl
one_more true false t ts = refl
one_more false true t ts = refl
one_more false false t ts = refl

gathered_all : (ss : Slots) → gathered ss ≡ cond (all_given ss) (Some (slot_texts ss)) None
gathered_all [] = refl
gathered_all (None ∷ ss) = refl
gathered_all (Some t ∷ ss) = ap (both (Some (shown t))) (gathered_all ss) ∙ one_more (all_given ss) (is_answer t) t (slot_texts ss)

-- No answer's text is empty.
pub answer-shown : (id : Id) (a : Answer) → is_answer (answer_text id a) ≡ true
unfolding error_head
answer-shown id (Result t) = refl
answer-shown id (Error e) = refl
answer-shown id (Standard s) = refl

one_text : (t : List ℕ) → is_answer t ≡ true → Some (t ∷ []) ≡ gathered (Some t ∷ [])
one_text t is = sym (ap (λ b. both (Some (cond b (t ∷ []) [])) (Some [])) is)

-- ---- the texts of a unit

one_slot : (id : Id) (o : Option (Option Answer)) → option_map (texts_of id) o ≡ gathered (option_map (given_text id) o ∷ [])
one_slot id None = refl
one_slot id (Some None) = refl
one_slot id (Some (Some a)) = one_text (answer_text id a) (answer-shown id a)

module _ (history : History) where
  call-gathered : (n : ℕ) (id : Option Id) → call_texts history n id ≡ gathered (call_slots history n id)
  call-gathered n None = refl
  call-gathered n (Some id) = one_slot id (answer_to n history)

  entry-gathered : (n : ℕ) (e : Entry) → entry_texts history n e ≡ gathered (entry_slots history n e)
  entry-gathered n (Call c) = call-gathered n c.id
  entry-gathered n (Cancel id) = refl
  entry-gathered n (Reply k r) = refl
  entry-gathered n Stray = refl
  entry-gathered n Invalid = one_text (answer_text Null (Standard InvalidRequest)) (answer-shown Null (Standard InvalidRequest))

  entries-gathered : (n : ℕ) (es : List Entry) → texts_along history n es ≡ gathered (slots_along history n es)
  entries-gathered n [] = refl
  entries-gathered n (e ∷ es) =
      (λ i. both (entry-gathered n e i) (entries-gathered (n + length (call_in e)) es i))
      ∙ sym (gathered-append (entry_slots history n e) (slots_along history (n + length (call_in e)) es))

  unit-gathered : (n : ℕ) (u : Unit) → unit_texts history n u ≡ gathered (unit_slots history n u)
  unit-gathered n Unreadable = one_text (answer_text Null (Standard ParseError)) (answer-shown Null (Standard ParseError))
  unit-gathered n (Single e) = entry-gathered n e ∙ ap gathered (sym (append-nil (entry_slots history n e)))
  unit-gathered n (Batch es) = entries-gathered n es

-- ---- what a unit is owed

abbrev pub unit_with : Bool → Slots → OwedUnit
unit_with batch slots = record { is_batch = batch; slots = slots }

-- what is owed, once all is given
abbrev pub due_text : List (List ℕ) → Due
due_text [] = nothing
due_text (t ∷ ts) = text t

abbrev pub due_slots : Bool → Slots → Due
due_slots batch ss = cond (is_complete (unit_with batch ss)) (due_text (owed.unit_texts (unit_with batch ss))) open_yet

abbrev pub due_owed : OwedUnit → Due
due_owed unit = due_slots unit.is_batch unit.slots

due_joined : (u : Unit) (ts : List (List ℕ)) → joined u ts ≡ due_text (owed.joined (is_batch u) ts)
due_joined Unreadable [] = refl
due_joined Unreadable (t ∷ ts) = refl
due_joined (Single e) [] = refl
due_joined (Single e) (t ∷ ts) = refl
due_joined (Batch es) [] = refl
due_joined (Batch es) (t ∷ ts) = refl

due_all : (u : Unit) (b : Bool) (ts : List (List ℕ)) → due_from u (cond b (Some ts) None) ≡ cond b (joined u ts) open_yet
due_all u true ts = refl
due_all u false ts = refl

due_gathered : (u : Unit) (ss : Slots) → due_from u (gathered ss) ≡ due_slots (is_batch u) ss
due_gathered u ss =
    ap (due_from u) (gathered_all ss)
    ∙ due_all u (all_given ss) (slot_texts ss)
    ∙ ap (λ d. cond (all_given ss) d open_yet) (due_joined u (slot_texts ss))
    ∙ sym (ap (λ b. cond b (due_text (owed.unit_texts (unit_with (is_batch u) ss))) open_yet) (lacking_none ss))

-- a unit is owed what its slots say
pub due-slots : (history : History) (n : ℕ) (u : Unit) → due_of history n u ≡ due_owed (unit_with (is_batch u) (unit_slots history n u))
due-slots history n u = ap (due_from u) (unit-gathered history n u) ∙ due_gathered u (unit_slots history n u)
