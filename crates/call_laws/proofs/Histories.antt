-- A history, after one thing more happened.
use Rattle.std.proofs.Common.{◌≡◌, ℕ, zero, suc, ◌+◌, ◌≤◌, List, [], ◌∷◌, ◌++◌, length, Option, Some, None, Bool, true, false, cond, ◌&&◌, refl, sym, ap, ◌∙◌, append_assoc, arith}
use Rattle.std.specs.Prelude.{slice_get, is_some}
use Rattle.std.specs.Option.{is_none}
use Rattle.connection_messages.specs.declared.answer.Answer.{Answer}
use Rattle.connection_messages.specs.declared.call.Call.{Call as Came}
use Rattle.connection_messages.specs.declared.cancels.Cancels.{Cancels}
use Rattle.connection_messages.specs.declared.entry.Entry.{Entry}
use Rattle.connection_messages.specs.declared.reply.Reply.{Reply as Replied}
use Rattle.connection_messages.specs.declared.unit.Unit.{Unit}
use Rattle.connection_history.specs.Refusals.{IsLawful}
use Rattle.connection_history.specs.Stream.{entries_in, entries_along, call_in, calls_in, call_numbered, first_reply}
use Rattle.connection_history.specs.History.{Happening, History, or_else, units_of, units_at, stream, answer_at, answer_to, is_open, callers, callers_at, caller_of, reply_at, reply_to}
use Rattle.call_laws.proofs.Tests.{and-left, and-right, is_some-some, is_none-none}

-- ---- lists

-- what an index gives stays with more after it
pub slice_get-kept : {X : Type 0} (xs ys : List X) (i : ℕ) (x : X) → slice_get xs i ≡ Some x → slice_get (xs ++ ys) i ≡ Some x
slice_get-kept [] ys i x h = absurd (cc)
slice_get-kept (y ∷ xs) ys zero x h = h
slice_get-kept (y ∷ xs) ys (suc i) x h = slice_get-kept xs ys i x h

-- an index beyond a list
pub slice_get-beyond : {X : Type 0} (xs ys : List X) (i : ℕ) → slice_get (xs ++ ys) (length xs + i) ≡ slice_get ys i
slice_get-beyond [] ys i = let same_index : 0 + i ≡ i = omega arith in ap (slice_get ys) same_index
slice_get-beyond (x ∷ xs) ys i = let one_on : length (x ∷ xs) + i ≡ suc (length xs + i) = omega arith in ap (slice_get (x ∷ (xs ++ ys))) one_on ∙ slice_get-beyond xs ys i

-- where an index gives nothing, the list ends before it
pub slice_get-past : {X : Type 0} (xs : List X) (i : ℕ) → slice_get xs i ≡ None → length xs ≤ i
slice_get-past [] i h = omega arith
slice_get-past (x ∷ xs) zero h = absurd (cc)
slice_get-past (x ∷ xs) (suc i) h = let rest = slice_get-past xs i h in omega (arith, rest)

-- ---- the stream

-- the entries of units, and then of more
pub entries_along-append : (us vs : List Unit) → entries_along (us ++ vs) ≡ entries_along us ++ entries_along vs
entries_along-append [] vs = refl
entries_along-append (u ∷ us) vs = ap (λ es. entries_in u ++ es) (entries_along-append us vs) ∙ sym (append_assoc (entries_in u) (entries_along us) (entries_along vs))

-- the calls of entries, and then of more
pub calls_in-append : (es fs : List Entry) → calls_in (es ++ fs) ≡ calls_in es ++ calls_in fs
calls_in-append [] fs = refl
calls_in-append (e ∷ es) fs = ap (λ cs. call_in e ++ cs) (calls_in-append es fs) ∙ sym (append_assoc (call_in e) (calls_in es) (calls_in fs))

-- the call that has a number stays with more after it
pub call_numbered-kept : (n : ℕ) (es fs : List Entry) (c : Came) → call_numbered n es ≡ Some c → call_numbered n (es ++ fs) ≡ Some c
call_numbered-kept zero es fs c h = h
call_numbered-kept (suc n) es fs c h = ap (λ cs. slice_get cs n) (calls_in-append es fs) ∙ slice_get-kept (calls_in es) (calls_in fs) n c h

-- what happens adds its entries to the stream
pub stream-more : (past : History) (h : Happening) → stream (h ∷ past) ≡ stream past ++ entries_along (units_at h)
stream-more past h = entries_along-append (units_of past) (units_at h)

-- a call that came stays
pub call_numbered-more : (n : ℕ) (past : History) (h : Happening) (c : Came) → call_numbered n (stream past) ≡ Some c → call_numbered n (stream (h ∷ past)) ≡ Some c
call_numbered-more n past h c known = ap (call_numbered n) (stream-more past h) ∙ call_numbered-kept n (stream past) (entries_along (units_at h)) c known

-- ---- open calls

-- what doesn't answer an open call leaves it open
pub open-kept : (n : ℕ) (past : History) (h : Happening) → answer_at n h ≡ None → is_open n past ≡ true → is_open n (h ∷ past) ≡ true
open-kept zero past h silent opened = refl
open-kept (suc n) past h silent opened =
    let known = is_some-some (call_numbered (suc n) (stream past)) (and-left _ (is_none (answer_to (suc n) past)) opened) in
    let none = is_none-none (answer_to (suc n) past) (and-right (is_some (call_numbered (suc n) (stream past))) _ opened) in
    let answer : answer_to (suc n) (h ∷ past) ≡ None = λ i. or_else (none i) (silent i) in
    λ i. is_some (call_numbered-more (suc n) past h known.0 known.1 i) && is_none (answer i)

-- an answer stays
pub answer_to-kept : (n : ℕ) (past : History) (h : Happening) (a : Option Answer) → answer_to n past ≡ Some a → answer_to n (h ∷ past) ≡ Some a
answer_to-kept n past h a known = ap (λ o. or_else o (answer_at n h)) known

answered_both : (b : Bool) (o : Option (Option Answer)) (a : Option Answer) → o ≡ Some a → (b && is_none o) ≡ false
answered_both true o a is = ap is_none is
answered_both false o a is = refl

-- what is answered isn't open
pub answered_closed : (n : ℕ) (history : History) (a : Option Answer) → answer_to (suc n) history ≡ Some a → is_open (suc n) history ≡ false
answered_closed n history a is = answered_both (is_some (call_numbered (suc n) (stream history))) (answer_to (suc n) history) a is

-- ---- calls of ours

-- a call keeps its key
pub caller_of-kept : (k : ℕ) (past : History) (h : Happening) (n : ℕ) → caller_of k past ≡ Some n → caller_of k (h ∷ past) ≡ Some n
caller_of-kept zero past h n known = known
caller_of-kept (suc k) past h n known = slice_get-kept (callers past) (callers_at h) k n known

-- a reply stays
pub reply_to-kept : (k : ℕ) (past : History) (h : Happening) (r : Replied) → reply_to k past ≡ Some r → reply_to k (h ∷ past) ≡ Some r
reply_to-kept k past h r known = ap (λ o. or_else o (reply_at k past h)) known

neither : (b : Bool) → cond {A = Option Replied} b None None ≡ None
neither true = refl
neither false = refl

-- where what comes has no reply to it, a call without one still has none
pub reply_to-none : (k : ℕ) (past : History) (h : Happening) → reply_to k past ≡ None → first_reply k (entries_along (units_at h)) ≡ None → reply_to k (h ∷ past) ≡ None
reply_to-none k past h none nothing = (λ i. or_else (none i) (cond (is_some (caller_of k past)) (nothing i) None)) ∙ neither (is_some (caller_of k past))

-- and where it has one, that is the reply
pub reply_to-some : (k : ℕ) (past : History) (h : Happening) (n : ℕ) (r : Replied) → caller_of k past ≡ Some n → reply_to k past ≡ None → first_reply k (entries_along (units_at h)) ≡ Some r → reply_to k (h ∷ past) ≡ Some r
reply_to-some k past h n r made none some = λ i. or_else (none i) (cond (is_some (made i)) (some i) None)

-- nothing was refused, so nothing was before
pub lawful_before : (cancels : Option Cancels) (more : List Happening) (past : History) → IsLawful cancels (more ++ past) → IsLawful cancels past
lawful_before cancels [] past lawful = lawful
lawful_before cancels (h ∷ more) past lawful = lawful_before cancels more past lawful.1
