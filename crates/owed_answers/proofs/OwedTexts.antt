-- The answers of a batch, text by text.
use Rattle.std.proofs.Common.{◌≡◌, ℕ, ◌+◌, ◌≤◌, ◌<◌, ◌==◌, Bool, true, false, cond, List, [], ◌∷◌, ◌++◌, None, Result, Ok, Err, OnOk, OnErr, is_ok, if◌then◌else◌, length, take, drop, refl, ap, sym, subst, ◌∙◌, append_assoc, arith, map, suc}
use Rattle.std.proofs.lemmas.Grind.{common_steps}
use Rattle.std.proofs.lemmas.Bool.Decides.{nat_tests}
use Rattle.std.proofs.lemmas.List.{take_at, drop_all, drop_more}
use Rattle.std.proofs.lemmas.Option.{unwrap_or-slice_get}
use Rattle.std.specs.Io.{StartsWith}
use Rattle.std.specs.List.{filter, join_with_byte}
use Rattle.connection_messages.specs.Texts.{batch_text}
use Rattle.owed_answers.proofs.BatchLemmas.{Seen}
use Rattle.owed_answers.specs.Inner.{behind, next_mark}
use Rattle.owed_answers.specs.Owed.{is_answer, slot_in, slot_text, slot_texts, some_text}

pub starts_with_append : (bytes front rest : List ℕ) → bytes ≡ front ++ rest → StartsWith bytes front
starts_with_append bytes front rest is = ap (take (length front)) is ∙ take_at front rest (length front) refl

pub starts_with_trans : (bytes middle front : List ℕ) → StartsWith bytes middle → StartsWith middle front → StartsWith bytes front
starts_with_trans bytes middle front h k = grind (arith, common_steps)

pub put_last : {X E : Type 0} (r : Result X E) (whole part new : List ℕ) → new ≡ (if is_ok r then whole else part) → OnOk r (new ≡ whole)
put_last (Ok x) whole part new h = h
put_last (Err e) whole part new h = tt

pub kept_part : {X E : Type 0} (r : Result X E) (whole part new : List ℕ) → new ≡ (if is_ok r then whole else part) → OnErr r (new ≡ part)
kept_part (Ok x) whole part new h = tt
kept_part (Err e) whole part new h = h

pub last_front : {X E : Type 0} (r : Result X E) (whole part new front : List ℕ) → new ≡ (if is_ok r then whole else part) → StartsWith part front → OnErr r (StartsWith new front)
last_front (Ok x) whole part new front h k = tt
last_front (Err e) whole part new front h k = subst (λ bytes. StartsWith bytes front) (sym h) k

pub OnOk-map : {X E P Q : Type 0} (r : Result X E) → (P → Q) → OnOk r P → OnOk r Q
OnOk-map (Ok x) f p = f p
OnOk-map (Err e) f p = tt

pub OnErr-map : {X E P Q : Type 0} (r : Result X E) → (P → Q) → OnErr r P → OnErr r Q
OnErr-map (Ok x) f p = tt
OnErr-map (Err e) f p = f p

pub on_err : {X E P : Type 0} (r : Result X E) → P → OnErr r P
on_err (Ok x) p = tt
on_err (Err e) p = p

-- ---- the answers in the slots that are left

drop_here : (slots : Seen) (i : ℕ) (text : List ℕ) → i < length slots → text ≡ slot_text (slot_in i slots) → slot_texts (drop i slots) ≡ filter is_answer (text ∷ map slot_text (drop (i + 1) slots))
drop_here slots i text lt is =
    ap slot_texts (drop_more slots i None lt)
    ∙ ap (λ t. filter is_answer (t ∷ map slot_text (drop (i + 1) slots))) (sym (is ∙ ap slot_text (unwrap_or-slice_get slots i None)))

-- a text that isn't empty is an answer, and one that is empty isn't
filled : (text : List ℕ) (empty : Bool) → empty ≡ (length text == 0) → empty ≡ false → is_answer text ≡ true
filled [] empty is isnt = cc
filled (b ∷ bs) empty is isnt = refl

never : (n : ℕ) → (suc n == 0) ≡ true → ⊥
never n is = grind (arith, nat_tests)

vacant : (text : List ℕ) (empty : Bool) → empty ≡ (length text == 0) → empty ≡ true → is_answer text ≡ false
vacant [] empty is so = refl
vacant (b ∷ bs) empty is so = absurd (never (length bs) (sym is ∙ so))

-- an answer stands in this slot
pub found_one : (slots : Seen) (i : ℕ) (text : List ℕ) (empty : Bool) → i < length slots → text ≡ slot_text (slot_in i slots)
    → empty ≡ (length text == 0) → empty ≡ false → slot_texts (drop i slots) ≡ text ∷ slot_texts (drop (i + 1) slots)
found_one slots i text empty lt is test isnt =
    let rest = slot_texts (drop (i + 1) slots) in
    drop_here slots i text lt is ∙ ap (λ b. cond b (text ∷ rest) rest) (filled text empty test isnt)

-- none stands there
pub passed_one : (slots : Seen) (i : ℕ) (text : List ℕ) (empty : Bool) → i < length slots → text ≡ slot_text (slot_in i slots)
    → empty ≡ (length text == 0) → empty ≡ true → slot_texts (drop (i + 1) slots) ≡ slot_texts (drop i slots)
passed_one slots i text empty lt is test so =
    let rest = slot_texts (drop (i + 1) slots) in
    sym (drop_here slots i text lt is ∙ ap (λ b. cond b (text ∷ rest) rest) (vacant text empty test so))

pub none_left : (slots : Seen) (i : ℕ) → length slots ≤ i → slot_texts (drop i slots) ≡ []
none_left slots i all = ap slot_texts (drop_all i slots all)

-- ---- the array

-- texts behind their marks, the first behind this one and the others behind commas, and the end of the array
abbrev pub marked : ℕ → List (List ℕ) → List ℕ
marked mark [] = 93 ∷ []
marked mark (t ∷ ts) = mark ∷ (t ++ marked 44 ts)

join-marked : (t : List ℕ) (ts : List (List ℕ)) → join_with_byte 44 (t ∷ ts) ++ 93 ∷ [] ≡ t ++ marked 44 ts
join-marked t [] = refl
join-marked t (u ∷ us) = append_assoc t _ _ ∙ ap (λ s. t ++ 44 ∷ s) (join-marked u us)

pub array_marked : (texts : List (List ℕ)) → some_text texts ≡ true → marked 91 texts ≡ batch_text texts
array_marked [] some = cc
array_marked (t ∷ ts) some = ap (λ s. 91 ∷ s) (sym (join-marked t ts))

marked_one : (mark : ℕ) (text : List ℕ) (texts : List (List ℕ)) → behind mark text ++ marked (next_mark mark text) (filter is_answer texts) ≡ marked mark (filter is_answer (text ∷ texts))
marked_one mark [] texts = refl
marked_one mark (b ∷ bs) texts = refl

-- one slot more
pub next_text : (slots : Seen) (i : ℕ) (text bytes more : List ℕ) (mark next : ℕ) → i < length slots → text ≡ slot_text (slot_in i slots) → next ≡ next_mark mark text
    → more ≡ bytes ++ behind mark text → more ++ marked next (slot_texts (drop (i + 1) slots)) ≡ bytes ++ marked mark (slot_texts (drop i slots))
next_text slots i text bytes more mark next lt is next_is more_is =
    let rest = slot_texts (drop (i + 1) slots) in
    ap (λ m. more ++ marked m rest) next_is
    ∙ ap (λ s. s ++ marked (next_mark mark text) rest) more_is
    ∙ append_assoc bytes (behind mark text) (marked (next_mark mark text) rest)
    ∙ ap (λ s. bytes ++ s) (marked_one mark text (map slot_text (drop (i + 1) slots)) ∙ ap (λ left. marked mark left) (sym (drop_here slots i text lt is)))
