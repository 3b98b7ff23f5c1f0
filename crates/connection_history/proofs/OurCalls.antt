-- The keys of our calls, and the replies to them, after one more thing happened, by its kind.
use Rattle.std.proofs.Common.{◌≡◌, ℕ, zero, suc, ◌+◌, ◌-◌, ◌<◌, ◌≤◌, List, [], ◌∷◌, ◌++◌, length, Option, Some, None, Bool, true, false, cond, ◌&&◌, ◌||◌, refl, ap, ◌∙◌, append-nil, length-append, arith}
use Rattle.std.proofs.lemmas.List.{length-map}
use Rattle.std.proofs.lemmas.Option.{slice_get_past, slice_get-map}
use Rattle.std.specs.Prelude.{slice_get, is_some, option_map}
use Rattle.connection_messages.specs.declared.outgoing.Outgoing.{Outgoing}
use Rattle.connection_messages.specs.declared.reply.Reply.{Reply}
use Rattle.connection_history.specs.Stream.{entries_along, first_reply}
use Rattle.connection_history.specs.History.{Happening, called, called_all, History, or_else, units_at, callers, callers_at, key_count, caller_of, reply_to, gives_up, is_given_up}
use Rattle.connection_history.proofs.Histories.{caller_of-kept}
use Rattle.connection_history.proofs.Streams.{slice_get-front, slice_get-beyond, slice_get-known}
use Rattle.connection_history.proofs.Tests.{or_else-none}

-- ---- keys

-- what happens takes a key for each call that it makes
pub key_count-more : (past : History) (h : Happening) → key_count (h ∷ past) ≡ key_count past + length (callers_at h)
key_count-more past h = length-append (callers past) (callers_at h)

-- what makes no call leaves the keys as they are
pub key_count-other : (past : History) (h : Happening) → callers_at h ≡ [] → key_count (h ∷ past) ≡ key_count past
key_count-other past h none = omega (arith, key_count-more past h, ap length none)

-- a call takes one key
pub key_count-called : (past : History) (n : ℕ) (o : Outgoing) → key_count (called n o ∷ past) ≡ key_count past + 1
key_count-called past n o = key_count-more past (called n o)

-- a batch takes as many keys as it has calls
pub key_count-called_all : (past : History) (n : ℕ) (os : List Outgoing) → key_count (called_all n os ∷ past) ≡ key_count past + length os
key_count-called_all past n os = omega (arith, key_count-more past (called_all n os), length-map os (λ (o : Outgoing). n))

-- ---- on whose behalf a call was made

-- a call that was made keeps its number
pub caller_of-made : (k : ℕ) (past : History) (h : Happening) → k ≤ key_count past → caller_of k (h ∷ past) ≡ caller_of k past
caller_of-made zero past h made = refl
caller_of-made (suc k) past h made = slice_get-front (callers past) (callers_at h) k (omega arith)

-- what makes no call leaves the callers as they are
pub caller_of-other : (k : ℕ) (past : History) (h : Happening) → callers_at h ≡ [] → caller_of k (h ∷ past) ≡ caller_of k past
caller_of-other zero past h none = refl
caller_of-other (suc k) past h none = ap (λ ns. slice_get (callers past ++ ns) k) none ∙ ap (λ ns. slice_get ns k) (append-nil (callers past))

-- a key that no call has yet
pub caller_of-unmade : (k : ℕ) (history : History) → key_count history < k → caller_of k history ≡ None
caller_of-unmade zero history h = refl
caller_of-unmade (suc k) history h = slice_get_past (callers history) k (omega arith)

caller_of-new : (i k : ℕ) (past : History) (h : Happening) → key_count past + suc i ≡ k → caller_of k (h ∷ past) ≡ slice_get (callers_at h) i
caller_of-new i zero past h place = absurd (omega arith)
caller_of-new i (suc k) past h place =
    let at : k ≡ length (callers past) + i = omega arith in
    ap (slice_get (callers past ++ callers_at h)) at ∙ slice_get-beyond (callers past) (callers_at h) i

-- the call that is made has the next key
pub caller_of-called : (past : History) (n : ℕ) (o : Outgoing) → caller_of (key_count past + 1) (called n o ∷ past) ≡ Some n
caller_of-called past n o = caller_of-new 0 (key_count past + 1) past (called n o) (omega arith)

-- the calls of a batch have the next keys
pub caller_of-called_all : (k : ℕ) (past : History) (n : ℕ) (os : List Outgoing) → key_count past < k → k ≤ key_count past + length os → caller_of k (called_all n os ∷ past) ≡ Some n
caller_of-called_all k past n os new h =
    let place : key_count past + suc (k - key_count past - 1) ≡ k = omega arith in
    let o = slice_get-known os (k - key_count past - 1) (omega arith) in
    caller_of-new (k - key_count past - 1) k past (called_all n os) place
    ∙ slice_get-map (λ (o : Outgoing). n) os (k - key_count past - 1) ∙ ap (option_map (λ (o : Outgoing). n)) o.1

-- ---- replies

neither : (b : Bool) → cond {A = Option Reply} b None None ≡ None
neither true = refl
neither false = refl

-- where nothing comes, the reply stays as it is
pub reply_to-said : (k : ℕ) (past : History) (h : Happening) → units_at h ≡ [] → reply_to k (h ∷ past) ≡ reply_to k past
reply_to-said k past h none =
    ap (λ us. or_else (reply_to k past) (cond (is_some (caller_of k past)) (first_reply k (entries_along us)) None)) none
    ∙ ap (or_else (reply_to k past)) (neither (is_some (caller_of k past))) ∙ or_else-none (reply_to k past)

unmade_before : (k : ℕ) (past : History) (h : Happening) (o : Option ℕ) → caller_of k past ≡ o → caller_of k (h ∷ past) ≡ None → caller_of k past ≡ None
unmade_before k past h None is none = is
unmade_before k past h (Some n) is none = let kept = caller_of-kept k past h n is in absurd (cc)

-- a call that wasn't made has no reply, whatever came
pub reply_to-unmade : (k : ℕ) (history : History) → caller_of k history ≡ None → reply_to k history ≡ None
reply_to-unmade k [] none = refl
reply_to-unmade k (h ∷ past) none =
    let before : caller_of k past ≡ None = unmade_before k past h (caller_of k past) refl none in
    λ i. or_else (reply_to-unmade k past before i) (cond (is_some (before i)) (first_reply k (entries_along (units_at h))) None)

-- ---- calls that were given up

not_yet : (b : Bool) → ((b && false) || false) ≡ false
not_yet true = refl
not_yet false = refl

-- a call that wasn't made isn't given up, whatever was said
pub given_up-unmade : (k : ℕ) (history : History) → caller_of k history ≡ None → is_given_up k history ≡ false
given_up-unmade k [] none = refl
given_up-unmade k (h ∷ past) none =
    let before : caller_of k past ≡ None = unmade_before k past h (caller_of k past) refl none in
    (λ i. (gives_up k h && is_some (before i)) || given_up-unmade k past before i) ∙ not_yet (gives_up k h)

-- nor is one that is just made
pub given_up-new : (k : ℕ) (past : History) (h : Happening) → caller_of k past ≡ None → is_given_up k (h ∷ past) ≡ false
given_up-new k past h none = (λ i. (gives_up k h && is_some (none i)) || given_up-unmade k past none i) ∙ not_yet (gives_up k h)
