-- An answer that its host gave has gone out, once its unit's answer is out.
use Rattle.std.proofs.Common.{◌≡◌, ◌≢◌, ◌⊎◌, inl, inr, ℕ, zero, suc, ◌+◌, List, [], ◌∷◌, ◌++◌, length, map, Option, Some, None, refl, sym, ap, subst, ◌∙◌, append_assoc, append-nil, arith, option_map}
use Rattle.std.proofs.lemmas.Option.{slice_get-map}
use Rattle.std.specs.Prelude.{slice_get, flat_map, option_and_then}
use Rattle.message_ids.specs.declared.id.Id.{Id}
use Rattle.connection_messages.specs.declared.answer.Answer.{Answer}
use Rattle.connection_messages.specs.declared.call.Call.{Call as Came}
use Rattle.connection_messages.specs.declared.entry.Entry.{Entry}
use Rattle.connection_messages.specs.declared.entry.Entry.TheVariants.{Call, Cancel, Reply, Stray, Invalid}
use Rattle.connection_messages.specs.declared.unit.Unit.{Unit}
use Rattle.connection_messages.specs.declared.unit.Unit.TheVariants.{Unreadable, Single, Batch}
use Rattle.connection_history.specs.declared.order.Order.{Order}
use Rattle.connection_history.specs.declared.order.Order.TheVariants.{AsAnswered, AsCame}
use Rattle.connection_history.specs.Answers.{Texts, both, texts_of, call_texts, entry_texts, texts_along, unit_texts, Due, open_yet, nothing, text, joined, due_from, due_of, dues}
use Rattle.connection_history.specs.Items.{Item, said, answer as answer_item, text_if_due, out, newly_at, newly_out, answers_at}
use Rattle.connection_history.specs.Stream.{entries_in, calls_in, call_numbered, request_id}
use Rattle.connection_history.specs.Written.{places_in}
use Rattle.connection_history.specs.History.{Happening, History, units_of, units_at, stream, answer_to}
use Rattle.connection.specs.BackToBack.{said_at, given_to, answer_in, answers_in, answer_of, answer_at, messages_at, messages_of}
use Rattle.call_laws.specs.Calls as home
use Rattle.call_laws.specs.Calls.{answers_said, IsSaid, IsAnswered}
use Rattle.call_laws.proofs.Given.{each_said, one_said}
use Rattle.call_laws.proofs.Histories.{slice_get-kept, slice_get-beyond, answer_to-kept}
use Rattle.call_laws.proofs.Lists.{flat-append}
use Rattle.call_laws.proofs.Places.{placed, placed_answer, placed_due, due_placed, placed-kept, Stands, stands}

-- ---- members of lists

abbrev pub IsIn : {X : Type 0} → X → List X → Type 0
IsIn x xs = (i : ℕ) × (slice_get xs i ≡ Some x)

in_front : {X : Type 0} (x : X) (xs ys : List X) → IsIn x xs → IsIn x (xs ++ ys)
in_front x xs ys it = (it.0, slice_get-kept xs ys it.0 x it.1)

in_rest : {X : Type 0} (x : X) (xs ys : List X) → IsIn x ys → IsIn x (xs ++ ys)
in_rest x xs ys it = (length xs + it.0, slice_get-beyond xs ys it.0 ∙ it.1)

-- ---- all texts are there

both_first : (o p : Texts) (texts : List (List ℕ)) → both o p ≡ Some texts → (t : List (List ℕ)) × (s : List (List ℕ)) × (o ≡ Some t) × (p ≡ Some s) × (texts ≡ t ++ s)
both_first None p texts h = absurd (cc)
both_first (Some t) None texts h = absurd (cc)
both_first (Some t) (Some s) texts h = (t, s, refl, refl, (cc))

mapped : (o : Option (Option Answer)) (id : Id) (texts : List (List ℕ)) → option_map (texts_of id) o ≡ Some texts → (a : Option Answer) × (o ≡ Some a) × (texts ≡ texts_of id a)
mapped None id texts h = absurd (cc)
mapped (Some a) id texts h = (a, refl, (cc))

append_empty : {X : Type 0} (xs ys : List X) → xs ++ ys ≡ [] → (xs ≡ []) × (ys ≡ [])
append_empty [] ys h = (refl, h)
append_empty (x ∷ xs) ys h = absurd (cc)

module _ (history : History) (id : Id) where
  -- what is known of one request among entries whose texts are all there
  pub record Known (number : ℕ) (texts : List (List ℕ)) (all : List (Id × Answer)) : Type 0 where
    pub given : Option Answer
    pub is : answer_to number history ≡ Some given
    pub in_all : (a : Answer) → given ≡ Some a → IsIn (id, a) all
    pub some : (a : Answer) → given ≡ Some a → texts ≢ []

  known_later : (number : ℕ) (t s texts : List (List ℕ)) (front rest : List (Id × Answer)) → texts ≡ t ++ s → Known number s rest → Known number texts (front ++ rest)
  known_later number t s texts front rest split it = record {
    given = it.given;
    is = it.is;
    in_all = λ a is. in_rest (id, a) front rest (it.in_all a is);
    some = λ a is none. it.some a is (append_empty t s (sym split ∙ none)).1;
  }

  known_here : (number : ℕ) (c : Came) (t s texts : List (List ℕ)) (rest : List (Id × Answer)) → c.id ≡ Some id → call_texts history number c.id ≡ Some t → texts ≡ t ++ s → Known number texts (given_to c.id (answer_to number history) ++ rest)
  known_here number c t s texts rest named is split =
      let it = mapped (answer_to number history) id t (subst (λ o. call_texts history number o ≡ Some t) named is) in
      record {
        given = it.0;
        is = it.1;
        in_all = λ a given. in_front (id, a) (given_to c.id (answer_to number history)) rest (0, (λ i. slice_get (given_to (named i) ((it.1 ∙ ap Some given) i)) 0));
        some = λ a given none. (let first : t ≡ [] = (append_empty t s (sym split ∙ none)).0 in let one : t ≡ texts_of id (Some a) = it.2 ∙ ap (texts_of id) given in cc);
      }

  known : (n : ℕ) (es : List Entry) (texts : List (List ℕ)) (c : Came) (i number : ℕ) → texts_along history n es ≡ Some texts → slice_get (calls_in es) i ≡ Some c → c.id ≡ Some id → number ≡ n + i → Known number texts (answers_in history n es)
  known n [] texts c i number all at named is = absurd (cc)
  known n (Call d ∷ es) texts c zero number all at named is =
      let parts = both_first (call_texts history n d.id) (texts_along history (n + 1) es) texts all in
      let same : d ≡ c = cc in
      let here : number ≡ n = omega (arith, is) in
      subst (λ m. Known m texts (answers_in history n (Call d ∷ es))) (sym here)
      (known_here n d parts.0 parts.1 texts (answers_in history (n + 1) es) (ap (λ (e : Came). e.id) same ∙ named) parts.2 parts.4)
  known n (Call d ∷ es) texts c (suc i) number all at named is =
      let parts = both_first (call_texts history n d.id) (texts_along history (n + 1) es) texts all in
      known_later number parts.0 parts.1 texts (answer_in history n (Call d)) (answers_in history (n + 1) es) parts.4 (known (n + 1) es parts.1 c i number parts.3 at named (omega (arith, is)))
  known n (Cancel other ∷ es) texts c i number all at named is =
      let parts = both_first (Some []) (texts_along history (n + 0) es) texts all in
      known_later number parts.0 parts.1 texts [] (answers_in history (n + 0) es) parts.4 (known (n + 0) es parts.1 c i number parts.3 at named (omega (arith, is)))
  known n (Reply k r ∷ es) texts c i number all at named is =
      let parts = both_first (Some []) (texts_along history (n + 0) es) texts all in
      known_later number parts.0 parts.1 texts [] (answers_in history (n + 0) es) parts.4 (known (n + 0) es parts.1 c i number parts.3 at named (omega (arith, is)))
  known n (Stray ∷ es) texts c i number all at named is =
      let parts = both_first (Some []) (texts_along history (n + 0) es) texts all in
      known_later number parts.0 parts.1 texts [] (answers_in history (n + 0) es) parts.4 (known (n + 0) es parts.1 c i number parts.3 at named (omega (arith, is)))
  known n (Invalid ∷ es) texts c i number all at named is =
      let parts = both_first (entry_texts history n Invalid) (texts_along history (n + 0) es) texts all in
      known_later number parts.0 parts.1 texts (answer_in history n Invalid) (answers_in history (n + 0) es) parts.4 (known (n + 0) es parts.1 c i number parts.3 at named (omega (arith, is)))

  -- the same of a unit
  unit_known : (n : ℕ) (u : Unit) (texts : List (List ℕ)) (c : Came) (i number : ℕ) → unit_texts history n u ≡ Some texts → slice_get (calls_in (entries_in u)) i ≡ Some c → c.id ≡ Some id → number ≡ n + i
      → Known number texts (answers_said (answer_of history n u))
  unit_known n Unreadable texts c i number all at named is = absurd (cc)
  unit_known n (Single e) texts c i number all at named is =
      let one : texts_along history n (e ∷ []) ≡ Some (texts ++ []) = ap (λ o. both o (Some [])) all in
      subst (Known number texts) (append-nil (answer_in history n e) ∙ sym (each_said history (answer_in history n e)))
      (subst (λ ts. Known number ts (answer_in history n e ++ [])) (append-nil texts) (known n (e ∷ []) (texts ++ []) c i number one at named is))
  unit_known n (Batch es) texts c i number all at named is = subst (Known number texts) (sym (one_said history (answers_in history n es))) (known n es texts c i number all at named is)

-- ---- what is out is due

due_text : (d : Due) (t : List ℕ) → text_if_due d ≡ Some t → d ≡ text t
due_text open_yet t h = absurd (cc)
due_text nothing t h = absurd (cc)
due_text (text s) t h = let same : s ≡ t = cc in ap text same

nothing_out : (ds : List Due) (place : ℕ) (t : List ℕ) → slice_get (map (λ d. None) ds) place ≡ Some (Some t) → ⊥
nothing_out [] place t h = cc
nothing_out (d ∷ ds) zero t h = cc
nothing_out (d ∷ ds) (suc place) t h = nothing_out ds place t h

answered_due : (ds : List Due) (place : ℕ) (t : List ℕ) → slice_get (map text_if_due ds) place ≡ Some (Some t) → slice_get ds place ≡ Some (text t)
answered_due [] place t h = absurd (cc)
answered_due (d ∷ ds) zero t h = ap Some (due_text d t (let is : text_if_due d ≡ Some t = cc in is))
answered_due (d ∷ ds) (suc place) t h = answered_due ds place t h

came_due : (ds : List Due) (place : ℕ) (t : List ℕ) → slice_get (out AsCame ds) place ≡ Some (Some t) → slice_get ds place ≡ Some (text t)
came_due [] place t h = absurd (cc)
came_due (open_yet ∷ ds) zero t h = absurd (cc)
came_due (open_yet ∷ ds) (suc place) t h = absurd (nothing_out ds place t h)
came_due (nothing ∷ ds) zero t h = absurd (cc)
came_due (nothing ∷ ds) (suc place) t h = came_due ds place t h
came_due (text s ∷ ds) zero t h = let same : s ≡ t = cc in ap (λ u. Some (text u)) same
came_due (text s ∷ ds) (suc place) t h = came_due ds place t h

out_due : (order : Order) (ds : List Due) (place : ℕ) (t : List ℕ) → slice_get (out order ds) place ≡ Some (Some t) → slice_get ds place ≡ Some (text t)
out_due AsAnswered ds place t h = answered_due ds place t h
out_due AsCame ds place t h = came_due ds place t h

-- ---- the moment when it goes out

places-append : (xs ys : List Item) → places_in (xs ++ ys) ≡ places_in xs ++ places_in ys
places-append [] ys = refl
places-append (said t ∷ xs) ys = places-append xs ys
places-append (answer_item place t ∷ xs) ys = ap (λ ps. place ∷ ps) (places-append xs ys)

abbrev IsOut : List (Option (List ℕ)) → ℕ → Type 0
IsOut outs place = (t : List ℕ) × (slice_get outs place ≡ Some (Some t))

at_place : (place from i : ℕ) (items rest : List Item) → from + suc i ≡ place → IsIn (from + 1 + i) (places_in rest) → IsIn place (places_in (items ++ rest))
at_place place from i items rest is it =
    subst (IsIn place) (sym (places-append items rest)) (in_rest place (places_in items) (places_in rest) (subst (λ p. IsIn p (places_in rest)) (let same : from + 1 + i ≡ place = omega (arith, is) in same) it))

newly : (from place : ℕ) (before after : List (Option (List ℕ))) → IsOut before place ⊎ (IsOut after place → IsIn (from + place) (places_in (newly_out from before after)))
newly from place before [] = inr (λ is. absurd (let at = is.1 in cc))
newly from zero [] (None ∷ after) = inr (λ is. absurd (let at = is.1 in cc))
newly from zero [] (Some t ∷ after) = inr (λ is. (0, ap Some (let same : from ≡ from + 0 = omega arith in same)))
newly from (suc place) [] (a ∷ after) = on (newly (from + 1) place [] after)
  where
    on : IsOut [] place ⊎ (IsOut after place → IsIn (from + 1 + place) (places_in (newly_out (from + 1) [] after))) → IsOut [] (suc place) ⊎ (IsOut (a ∷ after) (suc place) → IsIn (from + suc place) (places_in (newly_out from [] (a ∷ after))))
    on (inl was) = absurd (let at = was.1 in cc)
    on (inr rest) = inr (λ is. at_place (from + suc place) from place (newly_at from None a) (newly_out (from + 1) [] after) refl (rest is))
newly from zero (Some s ∷ before) (a ∷ after) = inl (s, refl)
newly from zero (None ∷ before) (None ∷ after) = inr (λ is. absurd (let at = is.1 in cc))
newly from zero (None ∷ before) (Some t ∷ after) = inr (λ is. (0, ap Some (let same : from ≡ from + 0 = omega arith in same)))
newly from (suc place) (b ∷ before) (a ∷ after) = on (newly (from + 1) place before after)
  where
    on : IsOut before place ⊎ (IsOut after place → IsIn (from + 1 + place) (places_in (newly_out (from + 1) before after))) → IsOut (b ∷ before) (suc place) ⊎ (IsOut (a ∷ after) (suc place) → IsIn (from + suc place) (places_in (newly_out from (b ∷ before) (a ∷ after))))
    on (inl was) = inl was
    on (inr rest) = inr (λ is. at_place (from + suc place) from place (newly_at from b a) (newly_out (from + 1) before after) refl (rest is))

pub record WentOut (order : Order) (place : ℕ) (history : History) : Type 0 where
  pub more : List Happening
  pub happening : Happening
  pub past : History
  pub whole : history ≡ more ++ happening ∷ past
  pub then : IsIn place (places_in (answers_at order past happening))
  pub answer_text : List ℕ
  pub due : slice_get (dues (happening ∷ past)) place ≡ Some (text answer_text)

never_out : (order : Order) (place : ℕ) → IsOut (out order []) place → ⊥
never_out AsAnswered place is = let at = is.1 in cc
never_out AsCame place is = let at = is.1 in cc

went_out : (order : Order) (place : ℕ) (history : History) → IsOut (out order (dues history)) place → WentOut order place history
went_out order place [] is = absurd (never_out order place is)
went_out order place (h ∷ past) is = from (went_out order place past) (newly 0 place (out order (dues past)) (out order (dues (h ∷ past))))
  where
    from : (IsOut (out order (dues past)) place → WentOut order place past) → IsOut (out order (dues past)) place ⊎ (IsOut (out order (dues (h ∷ past))) place → IsIn (0 + place) (places_in (answers_at order past h))) → WentOut order place (h ∷ past)
    from before (inl was) =
        let it = before was in
        record { more = h ∷ it.more; happening = it.happening; past = it.past; whole = ap (λ all. h ∷ all) it.whole; then = it.then; answer_text = it.answer_text; due = it.due }
    from before (inr now) = record {
      more = [];
      happening = h;
      past = past;
      whole = refl;
      then = subst (λ p. IsIn p (places_in (answers_at order past h))) (let same : 0 + place ≡ place = omega arith in same) (now is);
      answer_text = is.0;
      due = out_due order (dues (h ∷ past)) place is.0 is.1;
    }

-- ---- since then

said_since : (order : Order) (more : List Happening) (past : History) (x : Id × Answer) → IsIn x (answers_said (messages_of order past)) → IsIn x (answers_said (messages_of order (more ++ past)))
said_since order [] past x it = it
said_since order (h ∷ more) past x it =
    subst (IsIn x) (sym (flat-append home.answers_in (messages_of order (more ++ past)) (messages_at order (more ++ past) h)))
    (in_front x (answers_said (messages_of order (more ++ past))) (answers_said (messages_at order (more ++ past) h)) (said_since order more past x it))

units_since : (more : List Happening) (past : History) → (us : List Unit) × (units_of (more ++ past) ≡ units_of past ++ us)
units_since [] past = ([], sym (append-nil (units_of past)))
units_since (h ∷ more) past =
    let before = units_since more past in
    (before.0 ++ units_at h, ap (λ us. us ++ units_at h) before.1 ∙ append_assoc (units_of past) before.0 (units_at h))

later_placed : (more : List Happening) (past history : History) (place : ℕ) (x : ℕ × Unit) → history ≡ more ++ past → placed 1 (units_of past) place ≡ Some x → placed 1 (units_of history) place ≡ Some x
later_placed more past history place x whole at =
    let units = units_since more past in
    subst (λ h. placed 1 (units_of h) place ≡ Some x) (sym whole)
    (subst (λ us. placed 1 us place ≡ Some x) (sym units.1) (placed-kept 1 (units_of past) units.0 place x at))

answered_since : (n : ℕ) (more : List Happening) (past : History) (a : Option Answer) → answer_to n past ≡ Some a → answer_to n (more ++ past) ≡ Some a
answered_since n [] past a is = is
answered_since n (h ∷ more) past a is = answer_to-kept n (more ++ past) h a (answered_since n more past a is)

said_then : (order : Order) (past : History) (h : Happening) (place : ℕ) (x : Id × Answer) → IsIn place (places_in (answers_at order past h)) → IsIn x (answers_said (answer_at (h ∷ past) place)) → IsIn x (answers_said (messages_of order (h ∷ past)))
said_then order past h place x there it =
    let places = places_in (answers_at order past h) in
    let among : IsIn x (answers_said (flat_map (answer_at (h ∷ past)) places)) = gather places there in
    subst (IsIn x) (sym (flat-append home.answers_in (messages_of order past) (messages_at order past h)))
    (in_rest x (answers_said (messages_of order past)) (answers_said (messages_at order past h))
    (subst (IsIn x) (sym (flat-append home.answers_in (said_at past h) (flat_map (answer_at (h ∷ past)) places)))
    (in_rest x (answers_said (said_at past h)) (answers_said (flat_map (answer_at (h ∷ past)) places)) among)))
  where
    gather : (places : List ℕ) → IsIn place places → IsIn x (answers_said (flat_map (answer_at (h ∷ past)) places))
    gather [] is = absurd (let at = is.1 in cc)
    gather (p ∷ places) is = from is.0 is.1 (gather places)
      where
        from : (i : ℕ) → slice_get (p ∷ places) i ≡ Some place → (IsIn place places → IsIn x (answers_said (flat_map (answer_at (h ∷ past)) places))) → IsIn x (answers_said (answer_at (h ∷ past) p ++ flat_map (answer_at (h ∷ past)) places))
        from zero at rest =
            subst (IsIn x) (sym (flat-append home.answers_in (answer_at (h ∷ past) p) (flat_map (answer_at (h ∷ past)) places)))
            (in_front x (answers_said (answer_at (h ∷ past) p)) (answers_said (flat_map (answer_at (h ∷ past)) places)) (subst (λ q. IsIn x (answers_said (answer_at (h ∷ past) q))) (let same : place ≡ p = cc in same) it))
        from (suc i) at rest =
            subst (IsIn x) (sym (flat-append home.answers_in (answer_at (h ∷ past) p) (flat_map (answer_at (h ∷ past)) places)))
            (in_rest x (answers_said (answer_at (h ∷ past) p)) (answers_said (flat_map (answer_at (h ∷ past)) places)) (rest (i, at)))

-- ---- the answer of one request

due_from_text : (u : Unit) (texts : Texts) (t : List ℕ) → due_from u texts ≡ text t → (all : List (List ℕ)) × (texts ≡ Some all)
due_from_text u None t h = absurd (cc)
due_from_text u (Some texts) t h = (texts, refl)

-- It has gone out, where its unit's answer has.
out_said : (order : Order) (history : History) (number : ℕ) (c : Came) (id : Id) (given : Answer) (it : Stands number c 1 (units_of history)) → c.id ≡ Some id → answer_to number history ≡ Some (Some given)
    → WentOut order it.place history → IsSaid id given (messages_of order history)
out_said order history number c id given it named response went =
    let now = went.happening ∷ went.past in
    let at = due_placed now 1 (units_of now) it.place (text went.answer_text) went.due in
    let later = later_placed went.more now history it.place at.0 went.whole at.1 in
    let same_place : at.0 ≡ (it.first, it.unit) = (let is = it.is in cc) in
    let is_due : due_of now it.first it.unit ≡ text went.answer_text = subst (λ (x : ℕ × Unit). due_of now x.0 x.1 ≡ text went.answer_text) same_place (sym at.2) in
    let all = due_from_text it.unit (unit_texts now it.first it.unit) went.answer_text is_due in
    let known = unit_known now id it.first it.unit all.0 c it.index number all.1 it.at named it.numbered in
    let since : answer_to number history ≡ Some known.given = subst (λ h. answer_to number h ≡ Some known.given) (sym went.whole) (answered_since number went.more now known.given known.is) in
    let gave : known.given ≡ Some given = cc in
    let here : IsIn (id, given) (answers_said (answer_at now it.place)) =
    subst (λ ms. IsIn (id, given) (answers_said ms)) (sym (placed_answer now 1 (units_of now) it.place it.first it.unit (at.1 ∙ ap Some same_place))) (known.in_all given gave) in
    subst (λ h. IsIn (id, given) (answers_said (messages_of order h))) (sym went.whole) (said_since order went.more now (id, given) (said_then order went.past went.happening it.place (id, given) went.then here))

abbrev pub NoneOwed : Order → History → Type 0
NoneOwed order history = (out order (dues history) ≡ map text_if_due (dues history)) × ((place : ℕ) → slice_get (dues history) place ≢ Some open_yet)

joined_text : (u : Unit) (texts : List (List ℕ)) → texts ≢ [] → (t : List ℕ) × (joined u texts ≡ text t)
joined_text u [] some = absurd (some refl)
joined_text Unreadable (t ∷ ts) some = (t, refl)
joined_text (Single e) (t ∷ ts) some = (t, refl)
joined_text (Batch es) (t ∷ ts) some = (_, refl)

request_of : (n : ℕ) (es : List Entry) (id : Id) (o : Option Came) → call_numbered n es ≡ o → option_and_then (λ (c : Came). c.id) o ≡ Some id → (c : Came) × (call_numbered n es ≡ Some c) × (c.id ≡ Some id)
request_of n es id None is h = absurd (cc)
request_of n es id (Some c) is h = (c, is, h)

-- where nothing is owed, each answer has gone out
pub all_said : (order : Order) (history : History) (id : Id) (given : Answer) → NoneOwed order history → IsAnswered id history given → IsSaid id given (messages_of order history)
all_said order history id given owed it = from it.number it.request it.response
  where
    from : (number : ℕ) → request_id number (stream history) ≡ Some id → answer_to number history ≡ Some (Some given) → IsSaid id given (messages_of order history)
    from zero request response = absurd (cc)
    from (suc number) request response =
        let c = request_of (suc number) (stream history) id (call_numbered (suc number) (stream history)) refl request in
        let at : Stands (suc number) c.0 1 (units_of history) = stands (suc number) c.0 1 number (units_of history) c.1 (omega arith) in
        let due = placed_due history 1 (units_of history) at.place at.first at.unit at.is in
        by c.0 c.2 at due (unit_texts history at.first at.unit) refl
      where
        by : (c : Came) → c.id ≡ Some id → (at : Stands (suc number) c 1 (units_of history)) → slice_get (dues history) at.place ≡ Some (due_of history at.first at.unit) → (texts : Texts) → unit_texts history at.first at.unit ≡ texts
            → IsSaid id given (messages_of order history)
        by c named at due None is = absurd (owed.1 at.place (due ∙ ap (λ o. Some (due_from at.unit o)) is))
        by c named at due (Some texts) is =
            let known = unit_known history id at.first at.unit texts c at.index (suc number) is at.at named at.numbered in
            let gave : known.given ≡ Some given = (let has = known.is in cc) in
            let whole = joined_text at.unit texts (known.some given gave) in
            let is_due : slice_get (dues history) at.place ≡ Some (text whole.0) = due ∙ ap (λ o. Some (due_from at.unit o)) is ∙ ap Some whole.1 in
            let is_out : slice_get (out order (dues history)) at.place ≡ Some (Some whole.0) = ap (λ outs. slice_get outs at.place) owed.0 ∙ slice_get-map text_if_due (dues history) at.place ∙ ap (option_map text_if_due) is_due in
            out_said order history (suc number) c id given at named response (went_out order at.place history (whole.0, is_out))
