-- Laws of calls and of the replies to ours, over entries one after another.
use Rattle.std.proofs.Common.{◌≡◌, ℕ, zero, suc, ◌+◌, ◌-◌, ◌<◌, ◌≤◌, List, [], ◌∷◌, ◌++◌, length, Option, Some, None, Bool, true, false, cond, ◌&&◌, ◌==◌, ◌⊎◌, inl, inr, refl, sym, ap, ◌∙◌, arith, append_assoc}
use Rattle.std.proofs.lemmas.Bool.{cases_lt}
use Rattle.std.proofs.lemmas.Option.{slice_get_past}
use Rattle.std.specs.Cmp.{unsigned_Decides}
use Rattle.std.specs.Prelude.{slice_get}
use Rattle.rpc_messages.specs.Entry.{SeenEntry, call, reply, stray, invalid}
use Rattle.rpc_messages.specs.Unit.{SeenUnit}
use Rattle.rpc_messages.specs.Numbering.{entries_in, numbers_in, units_numbers}
use Rattle.rpc_messages.specs.Replies.{entries_along, calls_in, call_numbered, after_call, first_reply, reply_to}
use Rattle.rpc_messages.specs.declared.call.Call.{Call}
use Rattle.rpc_messages.specs.declared.reply.Reply.{Reply}

-- ---- entries and their calls

pub entries_along-append : (us vs : List SeenUnit) → entries_along (us ++ vs) ≡ entries_along us ++ entries_along vs
entries_along-append [] vs = refl
entries_along-append (u ∷ us) vs = ap (λ es. entries_in u ++ es) (entries_along-append us vs) ∙ sym (append_assoc (entries_in u) (entries_along us) (entries_along vs))

pub numbers_in-append : (es fs : List SeenEntry) → numbers_in (es ++ fs) ≡ numbers_in es + numbers_in fs
numbers_in-append [] fs = omega arith
numbers_in-append (e ∷ es) fs = omega (arith, numbers_in-append es fs)

-- the entries of units take the numbers of the units
pub numbers_in-entries_along : (us : List SeenUnit) → numbers_in (entries_along us) ≡ units_numbers us
numbers_in-entries_along [] = refl
numbers_in-entries_along (u ∷ us) = omega (arith, numbers_in-append (entries_in u) (entries_along us), numbers_in-entries_along us)

-- each call takes one number
pub length-calls_in : (es : List SeenEntry) → length (calls_in es) ≡ numbers_in es
length-calls_in [] = refl
length-calls_in (call c ∷ es) = omega (arith, length-calls_in es)
length-calls_in (reply n t r ∷ es) = omega (arith, length-calls_in es)
length-calls_in (stray ∷ es) = omega (arith, length-calls_in es)
length-calls_in (invalid ∷ es) = omega (arith, length-calls_in es)

pub calls_in-append : (es fs : List SeenEntry) → calls_in (es ++ fs) ≡ calls_in es ++ calls_in fs
calls_in-append [] fs = refl
calls_in-append (call c ∷ es) fs = ap (λ cs. c ∷ cs) (calls_in-append es fs)
calls_in-append (reply n t r ∷ es) fs = calls_in-append es fs
calls_in-append (stray ∷ es) fs = calls_in-append es fs
calls_in-append (invalid ∷ es) fs = calls_in-append es fs

-- ---- what stands after a call

-- after a call that has come, more entries stand last
pub after_call-append : (n : ℕ) (es fs : List SeenEntry) → n ≤ numbers_in es → after_call n (es ++ fs) ≡ after_call n es ++ fs
after_call-append zero es fs h = refl
after_call-append (suc n) [] fs h = absurd (omega arith)
after_call-append (suc n) (call c ∷ es) fs h = after_call-append n es fs (omega arith)
after_call-append (suc n) (reply m t r ∷ es) fs h = after_call-append (suc n) es fs (omega arith)
after_call-append (suc n) (stray ∷ es) fs h = after_call-append (suc n) es fs (omega arith)
after_call-append (suc n) (invalid ∷ es) fs h = after_call-append (suc n) es fs (omega arith)

-- nothing stands after a call that hasn't come
pub after_call_unknown : (n : ℕ) (es : List SeenEntry) → numbers_in es < n → after_call n es ≡ []
after_call_unknown zero es h = absurd (omega arith)
after_call_unknown (suc n) [] h = refl
after_call_unknown (suc n) (call c ∷ es) h = after_call_unknown n es (omega arith)
after_call_unknown (suc n) (reply m t r ∷ es) h = after_call_unknown (suc n) es (omega arith)
after_call_unknown (suc n) (stray ∷ es) h = after_call_unknown (suc n) es (omega arith)
after_call_unknown (suc n) (invalid ∷ es) h = after_call_unknown (suc n) es (omega arith)

same_place : (m n : ℕ) (es : List SeenEntry) → m ≡ n → after_call m es ≡ after_call n es
same_place m n es e = ap (λ k. after_call k es) e

-- a call that hasn't come is looked for in what follows
pub after_call-append_later : (n : ℕ) (es fs : List SeenEntry) → numbers_in es < n → after_call n (es ++ fs) ≡ after_call (n - numbers_in es) fs
after_call-append_later zero es fs h = absurd (omega arith)
after_call-append_later (suc n) [] fs h = same_place (suc n) (suc n - 0) fs (omega arith)
after_call-append_later (suc n) (call c ∷ es) fs h = after_call-append_later n es fs (omega arith) ∙ same_place (n - numbers_in es) (suc n - (1 + numbers_in es)) fs (omega arith)
after_call-append_later (suc n) (reply m t r ∷ es) fs h = after_call-append_later (suc n) es fs (omega arith) ∙ same_place (suc n - numbers_in es) (suc n - (0 + numbers_in es)) fs (omega arith)
after_call-append_later (suc n) (stray ∷ es) fs h = after_call-append_later (suc n) es fs (omega arith) ∙ same_place (suc n - numbers_in es) (suc n - (0 + numbers_in es)) fs (omega arith)
after_call-append_later (suc n) (invalid ∷ es) fs h = after_call-append_later (suc n) es fs (omega arith) ∙ same_place (suc n - numbers_in es) (suc n - (0 + numbers_in es)) fs (omega arith)

-- ---- replies

or_else : Option Reply → Option Reply → Option Reply
or_else (Some r) later = Some r
or_else None later = later

found : (b : Bool) (r : Reply) (o later : Option Reply) (all : Option Reply) → all ≡ or_else o later → cond b (Some r) all ≡ or_else (cond b (Some r) o) later
unfolding or_else
found true r o later all e = refl
found false r o later all e = e

first_reply-or_else : (n t : ℕ) (es fs : List SeenEntry) → first_reply n t (es ++ fs) ≡ or_else (first_reply n t es) (first_reply n t fs)
unfolding or_else
first_reply-or_else n t [] fs = refl
first_reply-or_else n t (call c ∷ es) fs = first_reply-or_else n t es fs
first_reply-or_else n t (reply m u r ∷ es) fs = found _ r (first_reply n t es) (first_reply n t fs) _ (first_reply-or_else n t es fs)
first_reply-or_else n t (stray ∷ es) fs = first_reply-or_else n t es fs
first_reply-or_else n t (invalid ∷ es) fs = first_reply-or_else n t es fs

-- the first reply stays the first
pub first_reply-append_found : (n t : ℕ) (r : Reply) (es fs : List SeenEntry) → first_reply n t es ≡ Some r → first_reply n t (es ++ fs) ≡ Some r
unfolding or_else
first_reply-append_found n t r es fs h = first_reply-or_else n t es fs ∙ ap (λ o. or_else o (first_reply n t fs)) h

-- where there is none yet, it is looked for in what follows
pub first_reply-append : (n t : ℕ) (es fs : List SeenEntry) → first_reply n t es ≡ None → first_reply n t (es ++ fs) ≡ first_reply n t fs
unfolding or_else
first_reply-append n t es fs h = first_reply-or_else n t es fs ∙ ap (λ o. or_else o (first_reply n t fs)) h

-- a handler that hasn't come has no replies
pub reply_to_unknown : (n t : ℕ) (es : List SeenEntry) → numbers_in es < n → reply_to n t es ≡ None
reply_to_unknown n t es h = ap (first_reply n t) (after_call_unknown n es h)

-- of a handler that has come, the first reply stays, and where there is none it is looked for in what follows
pub reply_to-append : (n t : ℕ) (es fs : List SeenEntry) → n ≤ numbers_in es → reply_to n t es ≡ None → reply_to n t (es ++ fs) ≡ first_reply n t fs
reply_to-append n t es fs h none = ap (first_reply n t) (after_call-append n es fs h) ∙ first_reply-append n t (after_call n es) fs none

pub reply_to-append_found : (n t : ℕ) (r : Reply) (es fs : List SeenEntry) → n ≤ numbers_in es → reply_to n t es ≡ Some r → reply_to n t (es ++ fs) ≡ Some r
reply_to-append_found n t r es fs h some = ap (first_reply n t) (after_call-append n es fs h) ∙ first_reply-append_found n t r (after_call n es) fs some

-- ---- the call that has a number, over entries one after another

slice_get-front : {X : Type 0} (xs ys : List X) (i : ℕ) → i < length xs → slice_get (xs ++ ys) i ≡ slice_get xs i
slice_get-front [] ys i h = absurd (omega arith)
slice_get-front (x ∷ xs) ys zero h = refl
slice_get-front (x ∷ xs) ys (suc i) h = slice_get-front xs ys i (omega arith)

slice_get-beyond : {X : Type 0} (xs ys : List X) (i : ℕ) → slice_get (xs ++ ys) (length xs + i) ≡ slice_get ys i
slice_get-beyond [] ys i = let same : 0 + i ≡ i = omega arith in ap (slice_get ys) same
slice_get-beyond (x ∷ xs) ys i = let one_on : length (x ∷ xs) + i ≡ suc (length xs + i) = omega arith in ap (slice_get (x ∷ (xs ++ ys))) one_on ∙ slice_get-beyond xs ys i

-- a call that has come keeps its number
pub call_numbered-front : (n : ℕ) (es fs : List SeenEntry) → n ≤ numbers_in es → call_numbered n (es ++ fs) ≡ call_numbered n es
call_numbered-front zero es fs h = refl
call_numbered-front (suc n) es fs h =
    ap (λ cs. slice_get cs n) (calls_in-append es fs) ∙ slice_get-front (calls_in es) (calls_in fs) n (omega (arith, length-calls_in es))

-- and one that hasn't is looked for in what follows
pub call_numbered-beyond : (n : ℕ) (es fs : List SeenEntry) → call_numbered (numbers_in es + suc n) (es ++ fs) ≡ call_numbered (suc n) fs
call_numbered-beyond n es fs =
    let place : numbers_in es + suc n ≡ suc (length (calls_in es) + n) = omega (arith, length-calls_in es) in
    ap (λ k. call_numbered k (es ++ fs)) place ∙ ap (λ cs. slice_get cs (length (calls_in es) + n)) (calls_in-append es fs) ∙ slice_get-beyond (calls_in es) (calls_in fs) n

-- the next call gets the next number
pub call_numbered-here : (es fs : List SeenEntry) (c : Call) → call_numbered (numbers_in es + 1) (es ++ call c ∷ fs) ≡ Some c
call_numbered-here es fs c = call_numbered-beyond 0 es (call c ∷ fs)

-- a number that no call has yet
pub call_numbered-unknown : (n : ℕ) (es : List SeenEntry) → numbers_in es < n → call_numbered n es ≡ None
call_numbered-unknown zero es h = refl
call_numbered-unknown (suc n) es h = slice_get_past (calls_in es) n (omega (arith, length-calls_in es))

-- ---- the reply to a call, over one more entry

after_one : (k : ℕ) (e : SeenEntry) → after_call (suc k) (e ∷ []) ≡ []
after_one zero (call c) = refl
after_one (suc k) (call c) = refl
after_one k (reply m u r) = refl
after_one k stray = refl
after_one k invalid = refl

or_else-none : (o : Option Reply) → or_else o None ≡ o
unfolding or_else
or_else-none None = refl
or_else-none (Some r) = refl

by_numbers : (n t : ℕ) (es : List SeenEntry) (e : SeenEntry) → first_reply n t (e ∷ []) ≡ None → (numbers_in es < n) ⊎ (n ≤ numbers_in es) → reply_to n t (es ++ e ∷ []) ≡ reply_to n t es
by_numbers n t es e none (inl unknown) =
    let place : n - numbers_in es ≡ suc (n - numbers_in es - 1) = omega arith in
    ap (first_reply n t) (after_call-append_later n es (e ∷ []) unknown ∙ ap (λ k. after_call k (e ∷ [])) place ∙ after_one (n - numbers_in es - 1) e) ∙ sym (reply_to_unknown n t es unknown)
by_numbers n t es e none (inr known) =
    ap (first_reply n t) (after_call-append n es (e ∷ []) known) ∙ first_reply-or_else n t (after_call n es) (e ∷ []) ∙ ap (or_else (reply_to n t es)) none ∙ or_else-none (reply_to n t es)

-- an entry that is no reply to this call changes nothing
pub reply_to-push_other : (n t : ℕ) (es : List SeenEntry) (e : SeenEntry) → first_reply n t (e ∷ []) ≡ None → reply_to n t (es ++ e ∷ []) ≡ reply_to n t es
reply_to-push_other n t es e none = by_numbers n t es e none (cases_lt (numbers_in es) n)

pub reply_to-push_call : (n t : ℕ) (es : List SeenEntry) (c : Call) → reply_to n t (es ++ call c ∷ []) ≡ reply_to n t es
reply_to-push_call n t es c = reply_to-push_other n t es (call c) refl

pub reply_to-push_stray : (n t : ℕ) (es : List SeenEntry) → reply_to n t (es ++ stray ∷ []) ≡ reply_to n t es
reply_to-push_stray n t es = reply_to-push_other n t es stray refl

pub reply_to-push_invalid : (n t : ℕ) (es : List SeenEntry) → reply_to n t (es ++ invalid ∷ []) ≡ reply_to n t es
reply_to-push_invalid n t es = reply_to-push_other n t es invalid refl

-- nor does a reply to another call
pub reply_to-push_another : (n t m u : ℕ) (r : Reply) (es : List SeenEntry) → ((m == n) && (u == t)) ≡ false → reply_to n t (es ++ reply m u r ∷ []) ≡ reply_to n t es
reply_to-push_another n t m u r es apart = reply_to-push_other n t es (reply m u r) (ap (λ b. cond b (Some r) None) apart)

-- nor one to a handler that hasn't come
pub reply_to-push_unknown : (n t m u : ℕ) (r : Reply) (es : List SeenEntry) → numbers_in es < n → reply_to n t (es ++ reply m u r ∷ []) ≡ reply_to n t es
reply_to-push_unknown n t m u r es unknown =
    reply_to_unknown n t (es ++ reply m u r ∷ []) (omega (arith, numbers_in-append es (reply m u r ∷ []))) ∙ sym (reply_to_unknown n t es unknown)

-- the first reply to a call of a handler that has come is its reply
pub reply_to-push_first : (n t : ℕ) (r : Reply) (es : List SeenEntry) → n ≤ numbers_in es → reply_to n t es ≡ None → reply_to n t (es ++ reply n t r ∷ []) ≡ Some r
reply_to-push_first n t r es known none =
    reply_to-append n t es (reply n t r ∷ []) known none ∙ (λ i. cond ((unsigned_Decides n n).1 refl i && (unsigned_Decides t t).1 refl i) (Some r) None)

-- and any later one changes nothing
pub reply_to-push_second : (n t : ℕ) (r s : Reply) (es : List SeenEntry) → n ≤ numbers_in es → reply_to n t es ≡ Some r → reply_to n t (es ++ reply n t s ∷ []) ≡ Some r
reply_to-push_second n t r s es known some = reply_to-append_found n t r es (reply n t s ∷ []) known some
