-- Entries, one after another: their numbers, their calls, and the replies to ours.
use Rattle.std.proofs.Common.{◌≡◌, ℕ, zero, suc, ◌+◌, ◌<◌, ◌≤◌, List, [], ◌∷◌, ◌++◌, length, Option, Some, None, Bool, true, false, cond, ◌&&◌, ◌==◌, ◌⊎◌, inl, inr, refl, sym, ap, ◌∙◌, arith, append_assoc}
use Rattle.std.proofs.lemmas.Bool.{cases_lt}
use Rattle.std.proofs.lemmas.Option.{slice_get_past}
use Rattle.std.specs.Cmp.{unsigned_Decides}
use Rattle.std.specs.List.{list_any}
use Rattle.std.specs.Option.{option_and_then, option_map_or}
use Rattle.std.specs.Prelude.{slice_get}
use Rattle.rpc_messages.specs.Entry.{SeenEntry, call, reply, stray, invalid}
use Rattle.rpc_messages.specs.Unit.{SeenUnit}
use Rattle.rpc_messages.specs.Numbering.{entries_in, numbers_of, numbers_in, units_numbers}
use Rattle.rpc_messages.specs.Replies.{entries_along, calls_in, call_numbered, after_call, first_reply, reply_to}
use Rattle.rpc_messages.specs.declared.call.Call.{Call}
use Rattle.rpc_messages.specs.declared.reply.Reply.{Reply}
use Rattle.peer_output.specs.Cancelled.{Begins, cancels, request_id, is_cancelled}

-- ---- fronts

pub begins-itself : {A : Type 0} (xs : List A) → Begins xs xs
begins-itself xs = record { rest = []; joined = sym (append-none xs) }
  where
    append-none : {A : Type 0} (xs : List A) → xs ++ [] ≡ xs
    append-none [] = refl
    append-none (x ∷ xs) = ap (λ l. x ∷ l) (append-none xs)

pub begins-more : {A : Type 0} (xs ys zs : List A) → Begins xs ys → Begins xs (ys ++ zs)
begins-more xs ys zs h = record { rest = h.rest ++ zs; joined = ap (λ l. l ++ zs) h.joined ∙ append_assoc xs h.rest zs }

pub begins-append : {A : Type 0} (xs ys : List A) → Begins xs (xs ++ ys)
begins-append xs ys = record { rest = ys; joined = refl }

pub begins-front : {A : Type 0} (xs ys zs : List A) → Begins (xs ++ ys) zs → Begins xs zs
begins-front xs ys zs h = record { rest = ys ++ h.rest; joined = h.joined ∙ append_assoc xs ys h.rest }

pub begins-nothing : {A : Type 0} (xs : List A) → Begins xs [] → xs ≡ []
begins-nothing [] h = refl
begins-nothing (x ∷ xs) h = absurd (not_nothing x (xs ++ h.rest) h.joined)
  where
    not_nothing : {A : Type 0} (x : A) (xs : List A) → [] ≡ x ∷ xs → ⊥
    not_nothing x xs e = cc

-- ---- the numbers of entries

pub along-append : (us vs : List SeenUnit) → entries_along (us ++ vs) ≡ entries_along us ++ entries_along vs
along-append [] vs = refl
along-append (u ∷ us) vs = ap (λ es. entries_in u ++ es) (along-append us vs) ∙ sym (append_assoc (entries_in u) (entries_along us) (entries_along vs))

pub numbers-append : (es fs : List SeenEntry) → numbers_in (es ++ fs) ≡ numbers_in es + numbers_in fs
numbers-append [] fs = omega arith
numbers-append (e ∷ es) fs = omega (arith, numbers-append es fs)

pub units-append : (us vs : List SeenUnit) → units_numbers (us ++ vs) ≡ units_numbers us + units_numbers vs
units-append [] vs = omega arith
units-append (u ∷ us) vs = omega (arith, units-append us vs)

-- the entries of units take the numbers of the units
pub numbers-along : (us : List SeenUnit) → numbers_in (entries_along us) ≡ units_numbers us
numbers-along [] = refl
numbers-along (u ∷ us) = omega (arith, numbers-append (entries_in u) (entries_along us), numbers-along us)

pub numbers-push : (es : List SeenEntry) (e : SeenEntry) → numbers_in (es ++ e ∷ []) ≡ numbers_in es + numbers_of e
numbers-push es e = omega (arith, numbers-append es (e ∷ []))

pub numbers-front : (es fs : List SeenEntry) → Begins es fs → numbers_in es ≤ numbers_in fs
numbers-front es fs h =
    let all : numbers_in fs ≡ numbers_in es + numbers_in h.rest = ap numbers_in h.joined ∙ numbers-append es h.rest in
    omega (arith, all)

-- ---- the calls

length-calls : (es : List SeenEntry) → length (calls_in es) ≡ numbers_in es
length-calls [] = refl
length-calls (call c ∷ es) = omega (arith, length-calls es)
length-calls (reply n t r ∷ es) = omega (arith, length-calls es)
length-calls (stray ∷ es) = omega (arith, length-calls es)
length-calls (invalid ∷ es) = omega (arith, length-calls es)

calls-append : (es fs : List SeenEntry) → calls_in (es ++ fs) ≡ calls_in es ++ calls_in fs
calls-append [] fs = refl
calls-append (call c ∷ es) fs = ap (λ cs. c ∷ cs) (calls-append es fs)
calls-append (reply n t r ∷ es) fs = calls-append es fs
calls-append (stray ∷ es) fs = calls-append es fs
calls-append (invalid ∷ es) fs = calls-append es fs

get-front : {X : Type 0} (xs ys : List X) (i : ℕ) → i < length xs → slice_get (xs ++ ys) i ≡ slice_get xs i
get-front [] ys i h = absurd (omega arith)
get-front (x ∷ xs) ys zero h = refl
get-front (x ∷ xs) ys (suc i) h = get-front xs ys i (omega arith)

get-beyond : {X : Type 0} (xs ys : List X) (i : ℕ) → slice_get (xs ++ ys) (length xs + i) ≡ slice_get ys i
get-beyond [] ys i = let same : 0 + i ≡ i = omega arith in ap (slice_get ys) same
get-beyond (x ∷ xs) ys i = let one_on : length (x ∷ xs) + i ≡ suc (length xs + i) = omega arith in ap (slice_get (x ∷ (xs ++ ys))) one_on ∙ get-beyond xs ys i

-- a call that has come keeps its number
pub call-front : (n : ℕ) (es fs : List SeenEntry) → n ≤ numbers_in es → call_numbered n (es ++ fs) ≡ call_numbered n es
call-front zero es fs h = refl
call-front (suc n) es fs h = ap (λ cs. slice_get cs n) (calls-append es fs) ∙ get-front (calls_in es) (calls_in fs) n (omega (arith, length-calls es))

-- and one that hasn't is looked for in what follows
pub call-beyond : (n k : ℕ) (es fs : List SeenEntry) → k ≡ numbers_in es + suc n → call_numbered k (es ++ fs) ≡ call_numbered (suc n) fs
call-beyond n k es fs place =
    let at : k ≡ suc (length (calls_in es) + n) = omega (arith, place, length-calls es) in
    ap (λ i. call_numbered i (es ++ fs)) at ∙ ap (λ cs. slice_get cs (length (calls_in es) + n)) (calls-append es fs) ∙ get-beyond (calls_in es) (calls_in fs) n

pub call-unknown : (n : ℕ) (es : List SeenEntry) → numbers_in es < n → call_numbered n es ≡ None
call-unknown zero es h = refl
call-unknown (suc n) es h = slice_get_past (calls_in es) n (omega (arith, length-calls es))

pub id-front : (n : ℕ) (es later : List SeenEntry) → n ≤ numbers_in es → Begins es later → request_id later n ≡ request_id es n
id-front n es later known h =
    ap (option_and_then (λ (c : Call). c.id)) (ap (call_numbered n) h.joined ∙ call-front n es h.rest known)

-- ---- what stands behind a call

pub after-append : (n : ℕ) (es fs : List SeenEntry) → n ≤ numbers_in es → after_call n (es ++ fs) ≡ after_call n es ++ fs
after-append zero es fs h = refl
after-append (suc n) [] fs h = absurd (omega arith)
after-append (suc n) (call c ∷ es) fs h = after-append n es fs (omega arith)
after-append (suc n) (reply m t r ∷ es) fs h = after-append (suc n) es fs (omega arith)
after-append (suc n) (stray ∷ es) fs h = after-append (suc n) es fs (omega arith)
after-append (suc n) (invalid ∷ es) fs h = after-append (suc n) es fs (omega arith)

pub after-unknown : (n : ℕ) (es : List SeenEntry) → numbers_in es < n → after_call n es ≡ []
after-unknown zero es h = absurd (omega arith)
after-unknown (suc n) [] h = refl
after-unknown (suc n) (call c ∷ es) h = after-unknown n es (omega arith)
after-unknown (suc n) (reply m t r ∷ es) h = after-unknown (suc n) es (omega arith)
after-unknown (suc n) (stray ∷ es) h = after-unknown (suc n) es (omega arith)
after-unknown (suc n) (invalid ∷ es) h = after-unknown (suc n) es (omega arith)

-- a call that comes last has nothing behind it
after-last : (n : ℕ) (es : List SeenEntry) (e : SeenEntry) → numbers_in es < n → after_call n (es ++ e ∷ []) ≡ []
after-last zero es e h = absurd (omega arith)
after-last (suc zero) [] (call c) h = refl
after-last (suc (suc n)) [] (call c) h = refl
after-last (suc n) [] (reply m t r) h = refl
after-last (suc n) [] stray h = refl
after-last (suc n) [] invalid h = refl
after-last (suc n) (call c ∷ es) e h = after-last n es e (omega arith)
after-last (suc n) (reply m t r ∷ es) e h = after-last (suc n) es e (omega arith)
after-last (suc n) (stray ∷ es) e h = after-last (suc n) es e (omega arith)
after-last (suc n) (invalid ∷ es) e h = after-last (suc n) es e (omega arith)

-- ---- cancels

none_reached : (n : ℕ) (es : List SeenEntry) (c : Option Call) → c ≡ None
    → option_map_or (λ id. list_any (cancels id) (after_call n es)) (option_and_then (λ (d : Call). d.id) c) false ≡ false
none_reached n es c is = ap (λ (o : Option Call). option_map_or (λ id. list_any (cancels id) (after_call n es)) (option_and_then (λ (d : Call). d.id) o) false) is

-- a call that hasn't come is reached by no cancel
pub cancelled-unknown : (es : List SeenEntry) (n : ℕ) → numbers_in es < n → is_cancelled es n ≡ false
cancelled-unknown es n h = none_reached n es (call_numbered n es) (call-unknown n es h)

-- ---- replies

pub reply-unknown : (n t : ℕ) (es : List SeenEntry) → numbers_in es < n → reply_to n t es ≡ None
reply-unknown n t es h = ap (first_reply n t) (after-unknown n es h)

found_if : (b : Bool) (s r : Reply) (o p : Option Reply) → (o ≡ Some r → p ≡ Some r) → cond b (Some s) o ≡ Some r → cond b (Some s) p ≡ Some r
found_if true s r o p more is = is
found_if false s r o p more is = more is

none_if : (b : Bool) (s : Reply) (o p q : Option Reply) → (o ≡ None → p ≡ q) → cond b (Some s) o ≡ None → cond b (Some s) p ≡ q
none_if true s o p q more is = cc
none_if false s o p q more is = more is

first-found : (n t : ℕ) (r : Reply) (es fs : List SeenEntry) → first_reply n t es ≡ Some r → first_reply n t (es ++ fs) ≡ Some r
first-found n t r [] fs h = cc
first-found n t r (call c ∷ es) fs h = first-found n t r es fs h
first-found n t r (reply m u s ∷ es) fs h = found_if ((m == n) && (u == t)) s r (first_reply n t es) (first_reply n t (es ++ fs)) (first-found n t r es fs) h
first-found n t r (stray ∷ es) fs h = first-found n t r es fs h
first-found n t r (invalid ∷ es) fs h = first-found n t r es fs h

first-none : (n t : ℕ) (es fs : List SeenEntry) → first_reply n t es ≡ None → first_reply n t (es ++ fs) ≡ first_reply n t fs
first-none n t [] fs h = refl
first-none n t (call c ∷ es) fs h = first-none n t es fs h
first-none n t (reply m u s ∷ es) fs h = none_if ((m == n) && (u == t)) s (first_reply n t es) (first_reply n t (es ++ fs)) (first_reply n t fs) (first-none n t es fs) h
first-none n t (stray ∷ es) fs h = first-none n t es fs h
first-none n t (invalid ∷ es) fs h = first-none n t es fs h

-- the first reply stays
pub reply-found : (n t : ℕ) (r : Reply) (es fs : List SeenEntry) → n ≤ numbers_in es → reply_to n t es ≡ Some r → reply_to n t (es ++ fs) ≡ Some r
reply-found n t r es fs known h = ap (first_reply n t) (after-append n es fs known) ∙ first-found n t r (after_call n es) fs h

-- where there is none, it is looked for in what comes
pub reply-none : (n t : ℕ) (es fs : List SeenEntry) → n ≤ numbers_in es → reply_to n t es ≡ None → reply_to n t (es ++ fs) ≡ first_reply n t fs
reply-none n t es fs known h = ap (first_reply n t) (after-append n es fs known) ∙ first-none n t (after_call n es) fs h

-- an entry that is no reply to this call changes nothing
pub reply-other : (n t : ℕ) (es : List SeenEntry) (e : SeenEntry) → first_reply n t (e ∷ []) ≡ None → reply_to n t (es ++ e ∷ []) ≡ reply_to n t es
reply-other n t es e other = by_place (cases_lt (numbers_in es) n)
  where
    by_reply : n ≤ numbers_in es → (o : Option Reply) → reply_to n t es ≡ o → reply_to n t (es ++ e ∷ []) ≡ o
    by_reply known None is = reply-none n t es (e ∷ []) known is ∙ other
    by_reply known (Some r) is = reply-found n t r es (e ∷ []) known is

    by_place : (numbers_in es < n) ⊎ (n ≤ numbers_in es) → reply_to n t (es ++ e ∷ []) ≡ reply_to n t es
    by_place (inl unknown) = ap (first_reply n t) (after-last n es e unknown) ∙ sym (reply-unknown n t es unknown)
    by_place (inr known) = by_reply known (reply_to n t es) refl

-- nor does a reply to a call that hasn't come
pub reply-last : (n t : ℕ) (es : List SeenEntry) (e : SeenEntry) → numbers_in es < n → reply_to n t (es ++ e ∷ []) ≡ None
reply-last n t es e unknown = ap (first_reply n t) (after-last n es e unknown)

-- the first one to a call that has come is its reply
pub reply-first : (n t : ℕ) (r : Reply) (es : List SeenEntry) → n ≤ numbers_in es → reply_to n t es ≡ None → reply_to n t (es ++ reply n t r ∷ []) ≡ Some r
reply-first n t r es known none =
    reply-none n t es (reply n t r ∷ []) known none ∙ (λ i. cond ((unsigned_Decides n n).1 refl i && (unsigned_Decides t t).1 refl i) (Some r) None)
