-- What a host that keeps the rules says isn't refused.
use Rattle.std.proofs.Common.{◌≡◌, ℕ, zero, suc, ◌+◌, ◌-◌, ◌<◌, ◌≤◌, ◌&&◌, ◌||◌, not, nat_lt, List, [], ◌∷◌, ◌++◌, length, true, false, Option, Some, None, refl, sym, ap, ◌∙◌, append_assoc, arith}
use Rattle.std.proofs.lemmas.Bool.Decides.{nat_tests}
use Rattle.std.specs.Prelude.{slice_get}
use Rattle.connection_messages.specs.declared.answer.Answer.{Answer}
use Rattle.connection_messages.specs.declared.call.Call.{Call as Came}
use Rattle.connection_messages.specs.declared.cancels.Cancels.{Cancels}
use Rattle.connection_messages.specs.declared.cancels.Cancels.TheVariants.{Lsp, Mcp}
use Rattle.connection_messages.specs.declared.outgoing.Outgoing.{Outgoing}
use Rattle.connection_history.specs.declared.event.Event.{Event}
use Rattle.connection_history.specs.declared.refused.Refused.TheVariants.{NotOpen, NotWaiting, Over, Empty, Full}
use Rattle.connection_history.specs.Stream.{calls_in, call_numbered}
use Rattle.connection_history.specs.History.{called, called_all, withdrew, answered, History, stream, is_over, is_open, answer_to, key_count, is_waiting, is_withdrawn}
use Rattle.connection_history.specs.Refusals.{first_of, most_keys, call_refusal, has_cancels, refusal}
use Rattle.connection_history.specs.Told.{calls_told, numbered, IsTold}
use Rattle.connection_history.proofs.CallsTold.{calls_told-append, each_call_told}
use Rattle.connection_history.proofs.Histories.{open-from}
use Rattle.connection_history.proofs.Tests.{different}

-- ---- a call that is told has come

record StandsAt (n : ℕ) (cs : List Came) (m : ℕ) (c : Came) : Type 0 where
  from : n ≤ m
  there : slice_get cs (m - n) ≡ Some c

in_numbered : (n : ℕ) (cs : List Came) (front : List (ℕ × Came)) (m : ℕ) (c : Came) (rest : List (ℕ × Came)) → numbered n cs ≡ front ++ (m, c) ∷ rest → StandsAt n cs m c
in_numbered n [] [] m c rest is = absurd (cc)
in_numbered n [] (f ∷ front) m c rest is = absurd (cc)
in_numbered n (d ∷ cs) [] m c rest is =
    let first : ◌≡◌ {A = ℕ × Came} (n, d) (m, c) = cc in
    let number : n ≡ m = ap (λ (p : ℕ × Came). p.0) first in
    let call : d ≡ c = ap (λ (p : ℕ × Came). p.1) first in
    let none : m - n ≡ 0 = omega arith in
    record { from = omega arith; there = ap (slice_get (d ∷ cs)) none ∙ ap (λ e. Some e) call }
in_numbered n (d ∷ cs) (f ∷ front) m c rest is =
    let others : numbered (n + 1) cs ≡ front ++ (m, c) ∷ rest = cc in
    let later = in_numbered (n + 1) cs front m c rest others in
    let least : n + 1 ≤ m = later.from in
    let more : m - n ≡ suc (m - (n + 1)) = omega arith in
    record { from = omega arith; there = ap (slice_get (d ∷ cs)) more ∙ later.there }

known_number : (n : ℕ) (history : History) (c : Came) → StandsAt 1 (calls_in (stream history)) n c → call_numbered n (stream history) ≡ Some c
known_number zero history c at = absurd (let from : 1 ≤ 0 = at.from in omega arith)
known_number (suc n) history c at = let same : n ≡ suc n - 1 = omega arith in ap (slice_get (calls_in (stream history))) same ∙ at.there

told_at : (history : History) (told : List Event) (n : ℕ) (c : Came) → IsTold history told n c → StandsAt 1 (calls_in (stream history)) n c
told_at history told n c is =
    in_numbered 1 (calls_in (stream history)) is.front n c (is.rest ++ calls_told is.untold)
    (sym (each_call_told history) ∙ ap calls_told is.events ∙ calls_told-append told is.untold ∙ ap (λ l. l ++ calls_told is.untold) is.calls
    ∙ append_assoc is.front ((n, c) ∷ is.rest) (calls_told is.untold))

-- it is open until it is answered
pub told_open : (history : History) (told : List Event) (n : ℕ) (c : Came) → IsTold history told n c → answer_to n history ≡ None → is_open n history ≡ true
told_open history told n c is none = open-from n history c (known_number n history c (told_at history told n c is)) none

-- ---- what isn't refused

pub answer_allowed : (conversation : Option Cancels) (history : History) (told : List Event) (n : ℕ) (c : Came) (a : Answer) → IsTold history told n c → answer_to n history ≡ None
    → refusal conversation history (answered n (Some a)) ≡ None
answer_allowed conversation history told n c a is none =
    let from : 1 ≤ n = (told_at history told n c is).from in
    let some = different n 0 (λ e. omega arith) in
    λ i. first_of ((some i || not (told_open history told n c is none i), NotOpen) ∷ (false, Empty) ∷ [])

may_call : (past : History) (n count : ℕ) → is_open n past ≡ true → is_over past ≡ false → 0 < count → key_count past + count ≤ most_keys → call_refusal past n count ≡ None
may_call past n count opened going some few =
    let one = different count 0 (λ e. omega arith) in
    let room : nat_lt most_keys (key_count past + count) ≡ false = grind (arith, nat_tests) in
    λ i. first_of ((not (opened i), NotOpen) ∷ (going i, Over) ∷ (one i, Empty) ∷ (room i, Full) ∷ [])

pub call_allowed : (conversation : Option Cancels) (history : History) (n : ℕ) (o : Outgoing) → is_open n history ≡ true → is_over history ≡ false → key_count history + 1 ≤ most_keys
    → refusal conversation history (called n o) ≡ None
call_allowed conversation history n o opened going few = may_call history n 1 opened going (omega arith) few

pub calls_allowed : (conversation : Option Cancels) (history : History) (n : ℕ) (os : List Outgoing) → is_open n history ≡ true → is_over history ≡ false → 0 < length os
    → key_count history + length os ≤ most_keys → refusal conversation history (called_all n os) ≡ None
calls_allowed conversation history n os opened going some few = may_call history n (length os) opened going some few

own_cancels : (by : Cancels) → has_cancels by (Some by) ≡ true
own_cancels Lsp = refl
own_cancels Mcp = refl

pub withdrawal_allowed : (by : Cancels) (history : History) (key : ℕ) → is_waiting key history ≡ true → is_withdrawn key history ≡ false
    → refusal (Some by) history (withdrew by key) ≡ None
withdrawal_allowed by history key waits wanted = λ i. first_of ((not (own_cancels by i && waits i && not (wanted i)), NotWaiting) ∷ [])
