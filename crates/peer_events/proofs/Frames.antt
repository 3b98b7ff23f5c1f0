-- How many of what numbers send await replies.
use Rattle.std.proofs.Common.{◌≡◌, ℕ, zero, suc, ◌+◌, ◌<◌, ◌≤◌, List, [], ◌∷◌, ◌++◌, length, map, take, drop, Bool, true, false, cond, refl, sym, ap, ◌∙◌, arith}
use Rattle.std.specs.Prelude.{count_by}
use Rattle.std.proofs.lemmas.List.{drop-append-le, map-append}
use Rattle.std.proofs.lemmas.List.Sums.{sum_by-cons, sum_by-append, sum_by-take-drop}
use Rattle.rpc_messages.specs.Dues.{Due}
use Rattle.rpc_messages.specs.declared.outgoing.Outgoing.{Outgoing}
use Rattle.handler_future.specs.declared.message.Message.{Message}
use Rattle.handler_future.specs.declared.message.Message.TheVariants as messages
use Rattle.handler_future.specs.Front.{turns_of}
use Rattle.handler_future.specs.State.{AddsNotices, AddsCalls}
use Rattle.peer_output.specs.Course.{Sending, message, withdrawal}
use Rattle.peer_output.specs.Items.{Item, sent, answered, awaits, is_call, count_calls}

abbrev pub is_frame : Sending → Bool
is_frame (message m) = awaits m
is_frame (withdrawal t) = false

abbrev pub frames : List Sending → ℕ
frames sends = count_by is_frame sends

-- ---- of sendings

step : (s : Sending) (sends : List Sending) → frames (s ∷ sends) ≡ cond (is_frame s) 1 0 + frames sends
step s sends = sum_by-cons (λ x. cond (is_frame x) 1 0) s sends

pub frames-append : (xs ys : List Sending) → frames (xs ++ ys) ≡ frames xs + frames ys
frames-append xs ys = sum_by-append (λ x. cond (is_frame x) 1 0) xs ys

pub frames-split : (so_far : ℕ) (xs : List Sending) → frames (take so_far xs) + frames (drop so_far xs) ≡ frames xs
frames-split so_far xs = sum_by-take-drop (λ x. cond (is_frame x) 1 0) xs so_far

pub frames-withdrawn : (turns : List ℕ) → frames (map withdrawal turns) ≡ 0
frames-withdrawn [] = refl
frames-withdrawn (t ∷ turns) =
    let first = step (withdrawal t) (map withdrawal turns) in
    let rest = frames-withdrawn turns in
    omega arith

frames-dropped : (so_far : ℕ) (turns : List ℕ) → frames (drop so_far (map withdrawal turns)) ≡ 0
frames-dropped so_far turns =
    let all = frames-withdrawn turns in
    let split = frames-split so_far (map withdrawal turns) in
    omega arith

pub frames-noticed : (notices : List Outgoing) → frames (map message (map messages.Notice notices)) ≡ 0
frames-noticed [] = refl
frames-noticed (o ∷ notices) =
    let first = step (message (messages.Notice o)) (map message (map messages.Notice notices)) in
    let rest = frames-noticed notices in
    omega arith

-- withdrawals behind them count for nothing
pub frames-behind : (so_far : ℕ) (xs : List Sending) (turns : List ℕ) → frames (drop so_far (xs ++ map withdrawal turns)) ≡ frames (drop so_far xs)
frames-behind zero xs turns =
    let sum = frames-append xs (map withdrawal turns) in
    let none = frames-withdrawn turns in
    omega arith
frames-behind (suc k) [] turns = frames-dropped (suc k) turns
frames-behind (suc k) (x ∷ xs) turns = frames-behind k xs turns

-- ---- of items

pub calls-append : (xs ys : List Item) → count_calls (xs ++ ys) ≡ count_calls xs + count_calls ys
calls-append xs ys = sum_by-append (λ x. cond (is_call x) 1 0) xs ys

same-test : (n : ℕ) (s : Sending) → is_call (sent n s) ≡ is_frame s
same-test n (message m) = refl
same-test n (withdrawal t) = refl

pub calls-sent : (n : ℕ) (sends : List Sending) → count_calls (map (sent n) sends) ≡ frames sends
calls-sent n [] = refl
calls-sent n (s ∷ sends) =
    let left : count_calls (map (sent n) (s ∷ sends)) ≡ cond (is_call (sent n s)) 1 0 + count_calls (map (sent n) sends) =
    sum_by-cons (λ x. cond (is_call x) 1 0) (sent n s) (map (sent n) sends) in
    left ∙ ap (λ b. cond b 1 0 + count_calls (map (sent n) sends)) (same-test n s) ∙ ap (λ k. cond (is_frame s) 1 0 + k) (calls-sent n sends) ∙ sym (step s sends)

pub calls-answered : (dues : List Due) → count_calls (map answered dues) ≡ 0
calls-answered [] = refl
calls-answered (due ∷ dues) =
    let first : count_calls (map answered (due ∷ dues)) ≡ 0 + count_calls (map answered dues) = sum_by-cons (λ x. cond (is_call x) 1 0) (answered due) (map answered dues) in
    let rest = calls-answered dues in
    omega arith

-- ---- of what a poll adds

awaits-some : (m : Message) → 0 < length (turns_of m) → awaits m ≡ true
awaits-some (messages.Call t o) some = refl
awaits-some (messages.Calls t os) some = refl
awaits-some (messages.Notice o) some = absurd (omega (arith, some))

one-frame : (m : Message) → awaits m ≡ true → frames (message m ∷ []) ≡ 1
one-frame m is = step (message m) [] ∙ ap (λ b. cond b 1 0 + 0) is

module _ (before after : List Message) (so_far : ℕ) (within : so_far ≤ length (map message before)) where
  -- what was there is dropped, and what comes is behind it
  added : (last : List Message) → AddsNotices before after last
      → frames (drop so_far (map message after)) ≡ frames (drop so_far (map message before)) + frames (map message last)
  added last adds =
      let notices = map messages.Notice adds.notices in
      let split : map message after ≡ map message before ++ (map message notices ++ map message last) =
      ap (map message) adds.made ∙ map-append message before (notices ++ last) ∙ ap (λ l. map message before ++ l) (map-append message notices last) in
      let rest : drop so_far (map message after) ≡ drop so_far (map message before) ++ (map message notices ++ map message last) =
      ap (drop so_far) split ∙ drop-append-le so_far (map message before) (map message notices ++ map message last) within in
      let sum : frames (drop so_far (map message after)) ≡ frames (drop so_far (map message before)) + frames (map message notices ++ map message last) =
      ap frames rest ∙ frames-append (drop so_far (map message before)) (map message notices ++ map message last) in
      let behind = frames-append (map message notices) (map message last) in
      let none = frames-noticed adds.notices in
      omega arith

  -- a poll that is Pending makes one
  pub calls-added : AddsCalls before after → frames (drop so_far (map message after)) ≡ frames (drop so_far (map message before)) + 1
  calls-added adds =
      let sum = added (adds.last ∷ []) adds.added in
      let one = one-frame adds.last (awaits-some adds.last adds.calls) in
      omega arith

  -- one that is ready makes none
  pub notices-added : AddsNotices before after [] → frames (drop so_far (map message after)) ≡ frames (drop so_far (map message before))
  notices-added adds =
      let sum = added [] adds in
      let none : frames (map message []) ≡ 0 = refl in
      omega arith
