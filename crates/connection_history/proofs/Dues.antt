-- What units are owed: what is settled stays.
use Rattle.std.proofs.Common.{◌≡◌, ℕ, ◌+◌, List, [], ◌∷◌, ◌++◌, length, Option, Some, None, refl, sym, ap, subst, ◌∙◌}
use Rattle.std.specs.Prelude.{⊤, option_map}
use Rattle.message_ids.specs.declared.id.Id.{Id}
use Rattle.connection_messages.specs.declared.answer.Answer.{Answer}
use Rattle.connection_messages.specs.declared.entry.Entry.{Entry}
use Rattle.connection_messages.specs.declared.entry.Entry.TheVariants.{Call, Cancel, Reply, Stray, Invalid}
use Rattle.connection_messages.specs.declared.unit.Unit.{Unit}
use Rattle.connection_messages.specs.declared.unit.Unit.TheVariants.{Unreadable, Single, Batch}
use Rattle.connection_history.specs.Stream.{entries_in, calls_in, call_in}
use Rattle.connection_history.specs.Answers.{Texts, both, texts_of, call_texts, entry_texts, texts_along, unit_texts, Due, open_yet, nothing, text, due_from, due_of, dues_along, dues}
use Rattle.connection_history.specs.History.{Happening, History, units_of, units_at, answer_to}
use Rattle.connection_history.proofs.Histories.{answer_to-kept}

-- ---- one later than the other

-- What is settled is the same later.
abbrev pub DueStays : Due → Due → Type 0
DueStays open_yet later = ⊤
DueStays nothing later = later ≡ nothing
DueStays (text t) later = later ≡ text t

-- The later list has the dues of the earlier in their places, and may have more.
abbrev pub DuesStay : List Due → List Due → Type 0
DuesStay [] later = ⊤
DuesStay (d ∷ ds) [] = ⊥
DuesStay (d ∷ ds) (e ∷ later) = DueStays d e × DuesStay ds later

-- ---- the texts of answers, after one more thing happened

both-parts : (these others : Texts) (ts : List (List ℕ)) → both these others ≡ Some ts
    → (xs : List (List ℕ)) × (ys : List (List ℕ)) × ((these ≡ Some xs) × (others ≡ Some ys) × (xs ++ ys ≡ ts))
both-parts None others ts h = absurd (cc)
both-parts (Some xs) None ts h = absurd (cc)
both-parts (Some xs) (Some ys) ts h = (xs, ys, (refl, refl, cc))

mapped-part : (id : Id) (o : Option (Option Answer)) (ts : List (List ℕ)) → option_map (texts_of id) o ≡ Some ts → (a : Option Answer) × (o ≡ Some a)
mapped-part id None ts h = absurd (cc)
mapped-part id (Some a) ts h = (a, refl)

module _ (past : History) (h : Happening) where
  call-stays : (n : ℕ) (id : Option Id) (ts : List (List ℕ)) → call_texts past n id ≡ Some ts → call_texts (h ∷ past) n id ≡ Some ts
  call-stays n None ts texts = texts
  call-stays n (Some id) ts texts =
      let found = mapped-part id (answer_to n past) ts texts in
      ap (option_map (texts_of id)) (answer_to-kept n past h found.0 found.1)
      ∙ (ap (option_map (texts_of id)) (sym found.1) ∙ texts)

  entry-stays : (n : ℕ) (e : Entry) (ts : List (List ℕ)) → entry_texts past n e ≡ Some ts → entry_texts (h ∷ past) n e ≡ Some ts
  entry-stays n (Call c) ts texts = call-stays n c.id ts texts
  entry-stays n (Cancel id) ts texts = texts
  entry-stays n (Reply k r) ts texts = texts
  entry-stays n Stray ts texts = texts
  entry-stays n Invalid ts texts = texts

  entries-stay : (n : ℕ) (es : List Entry) (ts : List (List ℕ)) → texts_along past n es ≡ Some ts → texts_along (h ∷ past) n es ≡ Some ts
  entries-stay n [] ts texts = texts
  entries-stay n (e ∷ es) ts texts =
      let parts = both-parts (entry_texts past n e) (texts_along past (n + length (call_in e)) es) ts texts in
      (λ i. both (entry-stays n e parts.0 parts.2.0 i) (entries-stay (n + length (call_in e)) es parts.1 parts.2.1 i))
      ∙ ap (λ l. Some l) parts.2.2

  unit-stays : (n : ℕ) (u : Unit) (ts : List (List ℕ)) → unit_texts past n u ≡ Some ts → unit_texts (h ∷ past) n u ≡ Some ts
  unit-stays n Unreadable ts texts = texts
  unit-stays n (Single e) ts texts = entry-stays n e ts texts
  unit-stays n (Batch es) ts texts = entries-stay n es ts texts

  due-itself : (d : Due) → DueStays d d
  due-itself open_yet = tt
  due-itself nothing = refl
  due-itself (text t) = refl

  due-stays_for : (u : Unit) (these others : Texts) → ((ts : List (List ℕ)) → these ≡ Some ts → others ≡ Some ts) → DueStays (due_from u these) (due_from u others)
  due-stays_for u None others stays = tt
  due-stays_for u (Some ts) others stays = subst (λ o. DueStays (due_from u (Some ts)) (due_from u o)) (sym (stays ts refl)) (due-itself (due_from u (Some ts)))

  due-stays : (n : ℕ) (u : Unit) → DueStays (due_of past n u) (due_of (h ∷ past) n u)
  due-stays n u = due-stays_for u (unit_texts past n u) (unit_texts (h ∷ past) n u) (unit-stays n u)

  dues_along-stay : (n : ℕ) (us vs : List Unit) → DuesStay (dues_along past n us) (dues_along (h ∷ past) n (us ++ vs))
  dues_along-stay n [] vs = tt
  dues_along-stay n (u ∷ us) vs = (due-stays n u, dues_along-stay (n + length (calls_in (entries_in u))) us vs)

  pub dues-stay : DuesStay (dues past) (dues (h ∷ past))
  dues-stay = dues_along-stay 1 (units_of past) (units_at h)
