-- Entries one after another: their calls, their replies and their cancels.
use Rattle.std.proofs.Common.{◌≡◌, ℕ, zero, suc, ◌+◌, ◌-◌, ◌<◌, ◌≤◌, ◌==◌, List, [], ◌∷◌, ◌++◌, length, Option, Some, None, Bool, true, false, cond, ◌||◌, ◌⊎◌, inl, inr, refl, sym, ap, ◌∙◌, append_assoc, length-append, arith}
use Rattle.std.proofs.lemmas.Bool.{cases_lt}
use Rattle.std.proofs.lemmas.Option.{slice_get_past, slice_get_within}
use Rattle.std.specs.Prelude.{slice_get, option_and_then}
use Rattle.message_ids.specs.Ids.{has_id}
use Rattle.message_ids.specs.declared.id.Id.{Id}
use Rattle.connection_messages.specs.declared.call.Call.{Call as Came}
use Rattle.connection_messages.specs.declared.entry.Entry.{Entry}
use Rattle.connection_messages.specs.declared.entry.Entry.TheVariants.{Call, Cancel, Reply, Stray, Invalid}
use Rattle.connection_messages.specs.declared.reply.Reply.{Reply as Replied}
use Rattle.connection_messages.specs.declared.unit.Unit.{Unit}
use Rattle.connection_history.specs.History.{or_else}
use Rattle.connection_history.specs.Stream.{entries_in, entries_along, call_in, calls_in, call_numbered, request_id, first_reply, after_call, cancels, is_cancelled}
use Rattle.connection_history.proofs.Tests.{same, apart, or_assoc}

-- ---- entries and their calls

-- the entries of units, and then of more
pub entries_along-append : (us vs : List Unit) → entries_along (us ++ vs) ≡ entries_along us ++ entries_along vs
entries_along-append [] vs = refl
entries_along-append (u ∷ us) vs = ap (λ es. entries_in u ++ es) (entries_along-append us vs) ∙ sym (append_assoc (entries_in u) (entries_along us) (entries_along vs))

-- the calls of entries, and then of more
pub calls_in-append : (es fs : List Entry) → calls_in (es ++ fs) ≡ calls_in es ++ calls_in fs
calls_in-append [] fs = refl
calls_in-append (e ∷ es) fs = ap (λ cs. call_in e ++ cs) (calls_in-append es fs) ∙ sym (append_assoc (call_in e) (calls_in es) (calls_in fs))

-- how many calls they have
pub length-calls_in-append : (es fs : List Entry) → length (calls_in (es ++ fs)) ≡ length (calls_in es) + length (calls_in fs)
length-calls_in-append es fs = ap length (calls_in-append es fs) ∙ length-append (calls_in es) (calls_in fs)

-- ---- the call that has a number

-- an index within the first list
pub slice_get-front : {X : Type 0} (xs ys : List X) (i : ℕ) → i < length xs → slice_get (xs ++ ys) i ≡ slice_get xs i
slice_get-front [] ys i h = absurd (omega arith)
slice_get-front (x ∷ xs) ys zero h = refl
slice_get-front (x ∷ xs) ys (suc i) h = slice_get-front xs ys i (omega arith)

-- an index beyond it
pub slice_get-beyond : {X : Type 0} (xs ys : List X) (i : ℕ) → slice_get (xs ++ ys) (length xs + i) ≡ slice_get ys i
slice_get-beyond [] ys i = let same : 0 + i ≡ i = omega arith in ap (slice_get ys) same
slice_get-beyond (x ∷ xs) ys i = let one_on : length (x ∷ xs) + i ≡ suc (length xs + i) = omega arith in ap (slice_get (x ∷ (xs ++ ys))) one_on ∙ slice_get-beyond xs ys i

-- what an index gives stays with more after it
pub slice_get-kept : {X : Type 0} (xs ys : List X) (i : ℕ) (x : X) → slice_get xs i ≡ Some x → slice_get (xs ++ ys) i ≡ Some x
slice_get-kept xs ys i x h = slice_get-front xs ys i (slice_get_within xs i x h) ∙ h

-- an index within a list has an element
pub slice_get-known : {X : Type 0} (xs : List X) (i : ℕ) → i < length xs → (x : X) × (slice_get xs i ≡ Some x)
slice_get-known [] i h = absurd (omega arith)
slice_get-known (x ∷ xs) zero h = (x, refl)
slice_get-known (x ∷ xs) (suc i) h = slice_get-known xs i (omega arith)

-- each of so many numbers has a call
pub call_numbered-known : (n : ℕ) (es : List Entry) → 0 < n → n ≤ length (calls_in es) → (c : Came) × (call_numbered n es ≡ Some c)
call_numbered-known zero es some h = absurd (omega arith)
call_numbered-known (suc n) es some h = slice_get-known (calls_in es) n (omega arith)

-- a call that has come keeps its number
pub call_numbered-front : (n : ℕ) (es fs : List Entry) → n ≤ length (calls_in es) → call_numbered n (es ++ fs) ≡ call_numbered n es
call_numbered-front zero es fs h = refl
call_numbered-front (suc n) es fs h = ap (λ cs. slice_get cs n) (calls_in-append es fs) ∙ slice_get-front (calls_in es) (calls_in fs) n (omega arith)

-- the call that has a number stays with more after it
pub call_numbered-kept : (n : ℕ) (es fs : List Entry) (c : Came) → call_numbered n es ≡ Some c → call_numbered n (es ++ fs) ≡ Some c
call_numbered-kept zero es fs c h = h
call_numbered-kept (suc n) es fs c h = ap (λ cs. slice_get cs n) (calls_in-append es fs) ∙ slice_get-kept (calls_in es) (calls_in fs) n c h

-- a number that has a call is one of so many
pub call_numbered-within : (n : ℕ) (es : List Entry) (c : Came) → call_numbered n es ≡ Some c → (0 < n) × (n ≤ length (calls_in es))
call_numbered-within zero es c h = absurd (cc)
call_numbered-within (suc n) es c h = (omega arith, omega (arith, slice_get_within (calls_in es) n c h))

-- a number that no call has yet
pub call_numbered-unknown : (n : ℕ) (es : List Entry) → length (calls_in es) < n → call_numbered n es ≡ None
call_numbered-unknown zero es h = refl
call_numbered-unknown (suc n) es h = slice_get_past (calls_in es) n (omega arith)

-- the next call gets the next number
pub call_numbered-here : (es fs : List Entry) (c : Came) → call_numbered (length (calls_in es) + 1) (es ++ Call c ∷ fs) ≡ Some c
call_numbered-here es fs c =
    let next : length (calls_in es) + 1 ≡ suc (length (calls_in es) + 0) = omega arith in
    ap (λ k. call_numbered k (es ++ Call c ∷ fs)) next ∙ ap (λ cs. slice_get cs (length (calls_in es) + 0)) (calls_in-append es (Call c ∷ fs)) ∙ slice_get-beyond (calls_in es) (c ∷ calls_in fs) 0

-- a request that has come keeps its id
pub request_id-front : (n : ℕ) (es fs : List Entry) → n ≤ length (calls_in es) → request_id n (es ++ fs) ≡ request_id n es
request_id-front n es fs h = ap (option_and_then (λ (c : Came). c.id)) (call_numbered-front n es fs h)

-- a request that hasn't come has no id
pub request_id-unknown : (n : ℕ) (es : List Entry) → length (calls_in es) < n → request_id n es ≡ None
request_id-unknown n es h = ap (option_and_then (λ (c : Came). c.id)) (call_numbered-unknown n es h)

-- ---- what stands after a call

found : (b : Bool) (es fs later whole : List Entry) → (b ≡ false → whole ≡ later ++ fs) → cond b (es ++ fs) whole ≡ cond b es later ++ fs
found true es fs later whole h = refl
found false es fs later whole h = h refl

-- after a call that has come, more entries stand last
pub after_call-append : (n : ℕ) (es fs : List Entry) → 0 < n → n ≤ length (calls_in es) → after_call n (es ++ fs) ≡ after_call n es ++ fs
after_call-append n [] fs some h = absurd (omega arith)
after_call-append n (Call c ∷ es) fs some h =
    found (n == 1) es fs (after_call (n - 1) es) (after_call (n - 1) (es ++ fs))
    (λ other. after_call-append (n - 1) es fs (omega (arith, apart n 1 other)) (omega arith))
after_call-append n (Cancel id ∷ es) fs some h = after_call-append n es fs some h
after_call-append n (Reply k r ∷ es) fs some h = after_call-append n es fs some h
after_call-append n (Stray ∷ es) fs some h = after_call-append n es fs some h
after_call-append n (Invalid ∷ es) fs some h = after_call-append n es fs some h

missed : (b : Bool) (es whole later : List Entry) → b ≡ false → whole ≡ later → cond b es whole ≡ later
missed true es whole later h e = absurd (cc)
missed false es whole later h e = e

not_one : (n : ℕ) (b : Bool) → (n == 1) ≡ b → 1 < n → (n == 1) ≡ false
not_one n true h more = absurd (omega (arith, same n 1 h))
not_one n false h more = h

-- nothing stands after a call that hasn't come
pub after_call-unknown : (n : ℕ) (es : List Entry) → length (calls_in es) < n → after_call n es ≡ []
after_call-unknown n [] h = refl
after_call-unknown n (Call c ∷ es) h = missed (n == 1) es (after_call (n - 1) es) [] (not_one n (n == 1) refl (omega arith)) (after_call-unknown (n - 1) es (omega arith))
after_call-unknown n (Cancel id ∷ es) h = after_call-unknown n es h
after_call-unknown n (Reply k r ∷ es) h = after_call-unknown n es h
after_call-unknown n (Stray ∷ es) h = after_call-unknown n es h
after_call-unknown n (Invalid ∷ es) h = after_call-unknown n es h

-- a call that hasn't come is looked for in what follows
pub after_call-append_later : (n : ℕ) (es fs : List Entry) → length (calls_in es) < n → after_call n (es ++ fs) ≡ after_call (n - length (calls_in es)) fs
after_call-append_later n [] fs h = let all : n ≡ n - 0 = omega arith in ap (λ k. after_call k fs) all
after_call-append_later n (Call c ∷ es) fs h =
    let one_less : n - 1 - length (calls_in es) ≡ n - suc (length (calls_in es)) = omega arith in
    missed (n == 1) (es ++ fs) (after_call (n - 1) (es ++ fs)) _ (not_one n (n == 1) refl (omega arith)) (after_call-append_later (n - 1) es fs (omega arith) ∙ ap (λ k. after_call k fs) one_less)
after_call-append_later n (Cancel id ∷ es) fs h = after_call-append_later n es fs h
after_call-append_later n (Reply k r ∷ es) fs h = after_call-append_later n es fs h
after_call-append_later n (Stray ∷ es) fs h = after_call-append_later n es fs h
after_call-append_later n (Invalid ∷ es) fs h = after_call-append_later n es fs h

either_nothing : (b : Bool) → cond b [] (◌++◌ {A = Entry} [] []) ≡ []
either_nothing true = refl
either_nothing false = refl

-- nothing stands after a call that comes last
pub after_call-one : (n : ℕ) (e : Entry) → after_call n (e ∷ []) ≡ []
after_call-one n (Call c) = either_nothing (n == 1)
after_call-one n (Cancel id) = refl
after_call-one n (Reply k r) = refl
after_call-one n Stray = refl
after_call-one n Invalid = refl

-- ---- replies

chosen : (b : Bool) (r : Replied) (all o later : Option Replied) → all ≡ or_else o later → cond b (Some r) all ≡ or_else (cond b (Some r) o) later
chosen true r all o later h = refl
chosen false r all o later h = h

-- the first reply of entries, or else of more
pub first_reply-append : (k : ℕ) (es fs : List Entry) → first_reply k (es ++ fs) ≡ or_else (first_reply k es) (first_reply k fs)
first_reply-append k [] fs = refl
first_reply-append k (Call c ∷ es) fs = first_reply-append k es fs
first_reply-append k (Cancel id ∷ es) fs = first_reply-append k es fs
first_reply-append k (Reply j r ∷ es) fs = chosen (j == k) r (first_reply k (es ++ fs)) (first_reply k es) (first_reply k fs) (first_reply-append k es fs)
first_reply-append k (Stray ∷ es) fs = first_reply-append k es fs
first_reply-append k (Invalid ∷ es) fs = first_reply-append k es fs

-- ---- cancels

-- cancels among entries, or among more
pub cancels-append : (id : Option Id) (es fs : List Entry) → cancels id (es ++ fs) ≡ (cancels id es || cancels id fs)
cancels-append id [] fs = refl
cancels-append id (Call c ∷ es) fs = cancels-append id es fs
cancels-append id (Cancel target ∷ es) fs = ap (λ b. has_id target id || b) (cancels-append id es fs) ∙ sym (or_assoc (has_id target id) (cancels id es) (cancels id fs))
cancels-append id (Reply k r ∷ es) fs = cancels-append id es fs
cancels-append id (Stray ∷ es) fs = cancels-append id es fs
cancels-append id (Invalid ∷ es) fs = cancels-append id es fs

-- what has no id isn't cancelled
pub cancels-none : (es : List Entry) → cancels None es ≡ false
cancels-none [] = refl
cancels-none (Call c ∷ es) = cancels-none es
cancels-none (Cancel target ∷ es) = cancels-none es
cancels-none (Reply k r ∷ es) = cancels-none es
cancels-none (Stray ∷ es) = cancels-none es
cancels-none (Invalid ∷ es) = cancels-none es

unknown_cancelled : (n : ℕ) (es : List Entry) (e : Entry) → length (calls_in es) < n → is_cancelled n (es ++ e ∷ []) ≡ (is_cancelled n es || cancels (request_id n es) (e ∷ []))
unknown_cancelled n es e h =
    ap (cancels (request_id n (es ++ e ∷ []))) (after_call-append_later n es (e ∷ []) h ∙ after_call-one (n - length (calls_in es)) e)
    ∙ sym (ap (λ id. cancels id (after_call n es) || cancels id (e ∷ [])) (request_id-unknown n es h) ∙ ap (λ b. b || cancels None (e ∷ [])) (cancels-none (after_call n es)) ∙ cancels-none (e ∷ []))

known_cancelled : (n : ℕ) (es : List Entry) (e : Entry) → n ≤ length (calls_in es) → is_cancelled n (es ++ e ∷ []) ≡ (is_cancelled n es || cancels (request_id n es) (e ∷ []))
known_cancelled zero es e h =
    cancels-none (after_call zero (es ++ e ∷ [])) ∙ sym (ap (λ b. b || cancels None (e ∷ [])) (cancels-none (after_call zero es)) ∙ cancels-none (e ∷ []))
known_cancelled (suc n) es e h =
    ap (λ id. cancels id (after_call (suc n) (es ++ e ∷ []))) (request_id-front (suc n) es (e ∷ []) h)
    ∙ ap (cancels (request_id (suc n) es)) (after_call-append (suc n) es (e ∷ []) (omega arith) h)
    ∙ cancels-append (request_id (suc n) es) (after_call (suc n) es) (e ∷ [])

cancelled_by : (n : ℕ) (es : List Entry) (e : Entry) → (length (calls_in es) < n) ⊎ (n ≤ length (calls_in es)) → is_cancelled n (es ++ e ∷ []) ≡ (is_cancelled n es || cancels (request_id n es) (e ∷ []))
cancelled_by n es e (inl h) = unknown_cancelled n es e h
cancelled_by n es e (inr h) = known_cancelled n es e h

-- one more entry cancels a request that came before it, or changes nothing
pub is_cancelled-push : (n : ℕ) (es : List Entry) (e : Entry) → is_cancelled n (es ++ e ∷ []) ≡ (is_cancelled n es || cancels (request_id n es) (e ∷ []))
is_cancelled-push n es e = cancelled_by n es e (cases_lt (length (calls_in es)) n)
