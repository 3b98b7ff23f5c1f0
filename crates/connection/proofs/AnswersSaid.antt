-- The texts that are written are those of the messages that are said.
use Rattle.std.proofs.Common.{◌≡◌, ℕ, zero, suc, ◌+◌, List, [], ◌∷◌, ◌++◌, map, get_or, length, ◌≤◌, Option, Some, None, refl, sym, ap, ◌∙◌, arith}
use Rattle.std.proofs.lemmas.List.{map-append}
use Rattle.std.specs.Prelude.{slice_get, option_map, flat_map}
use Rattle.message_ids.specs.declared.id.Id.{Id}
use Rattle.message_ids.specs.declared.id.Id.TheVariants.{Null}
use Rattle.message_ids.specs.declared.standard.Standard.TheVariants.{ParseError}
use Rattle.connection_messages.specs.ReadBack.{answer_texts}
use Rattle.connection_messages.specs.Texts.{answer_text, batch_text}
use Rattle.connection_messages.specs.declared.answer.Answer.{Answer}
use Rattle.connection_messages.specs.declared.answer.Answer.TheVariants.{Standard}
use Rattle.connection_messages.specs.declared.entry.Entry.{Entry}
use Rattle.connection_messages.specs.declared.entry.Entry.TheVariants.{Call, Cancel, Reply, Stray, Invalid}
use Rattle.connection_messages.specs.declared.unit.Unit.{Unit}
use Rattle.connection_messages.specs.declared.unit.Unit.TheVariants.{Unreadable, Single, Batch}
use Rattle.connection_history.specs.declared.order.Order.{Order}
use Rattle.connection_history.specs.declared.order.Order.TheVariants.{AsAnswered, AsCame}
use Rattle.connection_history.specs.Stream.{entries_in, call_in, calls_in}
use Rattle.connection_history.specs.Answers as answers
use Rattle.connection_history.specs.Answers.{Texts, both, texts_of, call_texts, entry_texts, texts_along, unit_texts, Due, open_yet, nothing, text, due_from, due_of, dues_along, dues}
use Rattle.connection_history.specs.History.{Happening, came, called, called_all, noticed, withdrew, answered, ended, History, units_of, answer_to}
use Rattle.connection_history.specs.Items as items
use Rattle.connection_history.specs.Items.{Item, said, answer, text_if_due, out, newly_at, newly_out, answers_at, items_of}
use Rattle.connection_history.specs.Written.{places_in}
use Rattle.connection.specs.BackToBack as back
use Rattle.connection.specs.BackToBack.{Message, text_of, said_at, given_to, answer_in, answers_in, in_one, answer_of, answers_along, answer_at, messages_at, messages_of}

-- ---- the texts of a unit's answers

texts-append : (xs ys : List (Id × Answer)) → answer_texts (xs ++ ys) ≡ answer_texts xs ++ answer_texts ys
texts-append [] ys = refl
texts-append (x ∷ xs) ys = ap (λ ts. answer_text x.0 x.1 ∷ ts) (texts-append xs ys)

given-texts : (id : Id) (given : Option (Option Answer)) (ts : List (List ℕ)) → option_map (texts_of id) given ≡ Some ts → answer_texts (given_to (Some id) given) ≡ ts
given-texts id None ts is = absurd (cc)
given-texts id (Some None) ts is = cc
given-texts id (Some (Some a)) ts is = cc

both-texts : (these others : Texts) (ts : List (List ℕ)) (xs ys : List (Id × Answer)) → both these others ≡ Some ts
    → ((us : List (List ℕ)) → these ≡ Some us → answer_texts xs ≡ us) → ((us : List (List ℕ)) → others ≡ Some us → answer_texts ys ≡ us) → answer_texts (xs ++ ys) ≡ ts
both-texts None others ts xs ys is first second = absurd (cc)
both-texts (Some us) None ts xs ys is first second = absurd (cc)
both-texts (Some us) (Some vs) ts xs ys is first second =
    let all : us ++ vs ≡ ts = cc in
    texts-append xs ys ∙ (λ i. first us refl i ++ second vs refl i) ∙ all

module _ (history : History) where
  call-texts : (n : ℕ) (id : Option Id) (ts : List (List ℕ)) → call_texts history n id ≡ Some ts → answer_texts (given_to id (answer_to n history)) ≡ ts
  call-texts n None ts is = cc
  call-texts n (Some id) ts is = given-texts id (answer_to n history) ts is

  entry-texts : (n : ℕ) (e : Entry) (ts : List (List ℕ)) → entry_texts history n e ≡ Some ts → answer_texts (answer_in history n e) ≡ ts
  entry-texts n (Call c) ts is = call-texts n c.id ts is
  entry-texts n (Cancel id) ts is = cc
  entry-texts n (Reply k r) ts is = cc
  entry-texts n Stray ts is = cc
  entry-texts n Invalid ts is = cc

  all-texts : (n : ℕ) (es : List Entry) (ts : List (List ℕ)) → texts_along history n es ≡ Some ts → answer_texts (answers_in history n es) ≡ ts
  all-texts n [] ts is = cc
  all-texts n (e ∷ es) ts is =
      both-texts (entry_texts history n e) (texts_along history (n + length (call_in e)) es) ts (answer_in history n e) (answers_in history (n + length (call_in e)) es) is
      (λ us these. entry-texts n e us these) (λ us others. all-texts (n + length (call_in e)) es us others)

  -- ---- the text that a unit is owed

  some-due : (u : Unit) (texts : Texts) (t : List ℕ) → due_from u texts ≡ text t → (ts : List (List ℕ)) × ((texts ≡ Some ts) × (answers.joined u ts ≡ text t))
  some-due u None t is = absurd (cc)
  some-due u (Some ts) t is = (ts, (refl, is))

  single-one : (e : Entry) (xs : List (Id × Answer)) (ts : List (List ℕ)) (t : List ℕ) → length xs ≤ 1 → answer_texts xs ≡ ts → answers.joined (Single e) ts ≡ text t
      → map text_of (map (λ a. back.answer a.0 a.1) xs) ≡ t ∷ []
  single-one e [] ts t few is joined = let none : ts ≡ [] = sym is in let no : nothing ≡ text t = ap (answers.joined (Single e)) is ∙ joined in absurd (cc)
  single-one e (a ∷ []) ts t few is joined =
      let one : text (answer_text a.0 a.1) ≡ text t = ap (answers.joined (Single e)) is ∙ joined in
      let same : answer_text a.0 a.1 ≡ t = cc in
      ap (λ s. s ∷ []) same
  single-one e (a ∷ b ∷ more) ts t few is joined = absurd (omega (arith, few))

  batch-one : (es : List Entry) (xs : List (Id × Answer)) (ts : List (List ℕ)) (t : List ℕ) → answer_texts xs ≡ ts → answers.joined (Batch es) ts ≡ text t → map text_of (in_one xs) ≡ t ∷ []
  batch-one es [] ts t is joined = let no : nothing ≡ text t = ap (answers.joined (Batch es)) is ∙ joined in absurd (cc)
  batch-one es (a ∷ more) ts t is joined =
      let one : text (batch_text (answer_texts (a ∷ more))) ≡ text t = ap (answers.joined (Batch es)) is ∙ joined in
      let same : batch_text (answer_texts (a ∷ more)) ≡ t = cc in
      ap (λ s. s ∷ []) same

  given-few : (id : Option Id) (given : Option (Option Answer)) → length (given_to id given) ≤ 1
  given-few None given = omega arith
  given-few (Some id) None = omega arith
  given-few (Some id) (Some None) = omega arith
  given-few (Some id) (Some (Some a)) = omega arith

  entry-few : (n : ℕ) (e : Entry) → length (answer_in history n e) ≤ 1
  entry-few n (Call c) = given-few c.id (answer_to n history)
  entry-few n (Cancel id) = omega arith
  entry-few n (Reply k r) = omega arith
  entry-few n Stray = omega arith
  entry-few n Invalid = omega arith

  unit-one : (n : ℕ) (u : Unit) (t : List ℕ) → due_of history n u ≡ text t → map text_of (answer_of history n u) ≡ t ∷ []
  unit-one n Unreadable t is = let same : text (text_of (back.answer Null (Standard ParseError))) ≡ text t = is in let one : text_of (back.answer Null (Standard ParseError)) ≡ t = cc in ap (λ s. s ∷ []) one
  unit-one n (Single e) t is =
      let due = some-due (Single e) (entry_texts history n e) t is in
      single-one e (answer_in history n e) due.0 t (entry-few n e) (entry-texts n e due.0 due.1.0) due.1.1
  unit-one n (Batch es) t is =
      let due = some-due (Batch es) (texts_along history n es) t is in
      batch-one es (answers_in history n es) due.0 t (all-texts n es due.0 due.1.0) due.1.1

  along-one : (n : ℕ) (us : List Unit) (place : ℕ) (t : List ℕ) → slice_get (dues_along history n us) place ≡ Some (text t)
      → map text_of (get_or (answers_along history n us) place []) ≡ t ∷ []
  along-one n [] place t is = absurd (cc)
  along-one n (u ∷ us) zero t is = let due : due_of history n u ≡ text t = cc in unit-one n u t due
  along-one n (u ∷ us) (suc place) t is = along-one (n + length (calls_in (entries_in u))) us place t is

-- the message that answers a unit has the text that the unit is owed
due-one : (history : History) (place : ℕ) (t : List ℕ) → slice_get (dues history) place ≡ Some (text t) → map text_of (answer_at history place) ≡ t ∷ []
due-one history place t is = along-one history 1 (units_of history) place t is

-- ---- what is out is owed

due_text : (d : Due) (t : List ℕ) → text_if_due d ≡ Some t → d ≡ text t
due_text open_yet t h = absurd (cc)
due_text nothing t h = absurd (cc)
due_text (text s) t h = let same : s ≡ t = cc in ap text same

abbrev nones : List Due → List (Option (List ℕ))
nones ds = map (λ d. None) ds

none-out : (ds : List Due) (place : ℕ) (t : List ℕ) → slice_get (nones ds) place ≡ Some (Some t) → ⊥
none-out [] place t h = cc
none-out (d ∷ ds) zero t h = cc
none-out (d ∷ ds) (suc place) t h = none-out ds place t h

answered-due : (ds : List Due) (place : ℕ) (t : List ℕ) → slice_get (map text_if_due ds) place ≡ Some (Some t) → slice_get ds place ≡ Some (text t)
answered-due [] place t h = absurd (cc)
answered-due (d ∷ ds) zero t h = let is : text_if_due d ≡ Some t = cc in ap (λ e. Some e) (due_text d t is)
answered-due (d ∷ ds) (suc place) t h = answered-due ds place t h

came-due : (ds : List Due) (place : ℕ) (t : List ℕ) → slice_get (out AsCame ds) place ≡ Some (Some t) → slice_get ds place ≡ Some (text t)
came-due [] place t h = absurd (cc)
came-due (open_yet ∷ ds) zero t h = absurd (cc)
came-due (open_yet ∷ ds) (suc place) t h = absurd (none-out ds place t h)
came-due (nothing ∷ ds) zero t h = absurd (cc)
came-due (nothing ∷ ds) (suc place) t h = came-due ds place t h
came-due (text s ∷ ds) zero t h = let same : s ≡ t = cc in ap (λ u. Some (text u)) same
came-due (text s ∷ ds) (suc place) t h = came-due ds place t h

out-due : (order : Order) (ds : List Due) (place : ℕ) (t : List ℕ) → slice_get (out order ds) place ≡ Some (Some t) → slice_get ds place ≡ Some (text t)
out-due AsAnswered ds place t h = answered-due ds place t h
out-due AsCame ds place t h = came-due ds place t h

-- ---- the texts of what newly goes out

-- the message that answers each unit has the text that is out
abbrev Fits : (ℕ → List Message) → ℕ → List (Option (List ℕ)) → Type 0
Fits message from outs = (i : ℕ) (t : List ℕ) → slice_get outs i ≡ Some (Some t) → map text_of (message (from + i)) ≡ t ∷ []

fits-first : (message : ℕ → List Message) (from : ℕ) (t : List ℕ) (outs : List (Option (List ℕ))) → Fits message from (Some t ∷ outs) → map text_of (message from) ≡ t ∷ []
fits-first message from t outs fits = ap (λ n. map text_of (message n)) (let same : from ≡ from + 0 = omega arith in same) ∙ fits 0 t refl

fits-rest : (message : ℕ → List Message) (from : ℕ) (o : Option (List ℕ)) (outs : List (Option (List ℕ))) → Fits message from (o ∷ outs) → Fits message (from + 1) outs
fits-rest message from o outs fits i t is = ap (λ n. map text_of (message n)) (let same : from + 1 + i ≡ from + suc i = omega arith in same) ∙ fits (suc i) t is

abbrev texts_in : List Item → List (List ℕ)
texts_in all = map items.text_of all

abbrev messages_in : (ℕ → List Message) → List Item → List Message
messages_in message all = flat_map message (places_in all)

-- one more answer, and others
more-texts : (message : ℕ → List Message) (from : ℕ) (t : List ℕ) (others : List Item) → map text_of (message from) ≡ t ∷ [] → texts_in others ≡ map text_of (messages_in message others)
    → texts_in (answer from t ∷ others) ≡ map text_of (messages_in message (answer from t ∷ others))
more-texts message from t others one same =
    ap (λ ts. t ∷ ts) same ∙ ap (λ ts. ts ++ map text_of (messages_in message others)) (sym one) ∙ sym (map-append text_of (message from) (messages_in message others))

newly-texts : (message : ℕ → List Message) (from : ℕ) (before after : List (Option (List ℕ))) → Fits message from after
    → texts_in (newly_out from before after) ≡ map text_of (messages_in message (newly_out from before after))
newly-texts message from before [] fits = refl
newly-texts message from [] (None ∷ after) fits = newly-texts message (from + 1) [] after (fits-rest message from None after fits)
newly-texts message from [] (Some t ∷ after) fits =
    more-texts message from t (newly_out (from + 1) [] after) (fits-first message from t after fits) (newly-texts message (from + 1) [] after (fits-rest message from (Some t) after fits))
newly-texts message from (Some s ∷ before) (a ∷ after) fits = newly-texts message (from + 1) before after (fits-rest message from a after fits)
newly-texts message from (None ∷ before) (None ∷ after) fits = newly-texts message (from + 1) before after (fits-rest message from None after fits)
newly-texts message from (None ∷ before) (Some t ∷ after) fits =
    more-texts message from t (newly_out (from + 1) before after) (fits-first message from t after fits) (newly-texts message (from + 1) before after (fits-rest message from (Some t) after fits))

answer-texts : (order : Order) (past : History) (h : Happening) → texts_in (answers_at order past h) ≡ map text_of (messages_in (answer_at (h ∷ past)) (answers_at order past h))
answer-texts order past h =
    newly-texts (answer_at (h ∷ past)) 0 (out order (dues past)) (out order (dues (h ∷ past)))
    (λ i t is. ap (λ n. map text_of (answer_at (h ∷ past) n)) (let same : 0 + i ≡ i = omega arith in same) ∙ due-one (h ∷ past) i t (out-due order (dues (h ∷ past)) i t is))

said-texts : (past : History) (h : Happening) → texts_in (items.said_at past h) ≡ map text_of (said_at past h)
said-texts past (came o u) = refl
said-texts past (called n o) = refl
said-texts past (called_all n os) = refl
said-texts past (noticed o) = refl
said-texts past (withdrew by k) = refl
said-texts past (answered n a) = refl
said-texts past (ended close) = refl

-- all that is written are the texts of the messages
pub texts_are : (order : Order) (history : History) → map items.text_of (items_of order history) ≡ map text_of (messages_of order history)
texts_are order [] = refl
texts_are order (h ∷ past) =
    map-append items.text_of (items_of order past) (items.said_at past h ++ answers_at order past h)
    ∙ (λ i. texts_are order past i ++ (map-append items.text_of (items.said_at past h) (answers_at order past h) ∙ (λ j. said-texts past h j ++ answer-texts order past h j) ∙ sym (map-append text_of (said_at past h) (messages_in (answer_at (h ∷ past)) (answers_at order past h)))) i)
    ∙ sym (map-append text_of (messages_of order past) (messages_at order past h))
