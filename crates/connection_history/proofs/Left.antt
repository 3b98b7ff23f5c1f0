-- A request is answered, or its cancel came and it needs no answer.
use Rattle.std.proofs.Common.{◌≡◌, ℕ, zero, suc, ◌==◌, ◌&&◌, ◌||◌, not, List, [], ◌∷◌, ◌++◌, Bool, true, false, Option, Some, None, ◌⊎◌, inl, inr, refl, sym, ap, subst, ◌∙◌, append_assoc, append-nil}
use Rattle.std.specs.Prelude.{is_some, option_and_then}
use Rattle.std.specs.Option.{is_none}
use Rattle.std.proofs.lemmas.Option.{cond_some}
use Rattle.message_ids.specs.declared.id.Id.{Id}
use Rattle.connection_messages.specs.declared.answer.Answer.{Answer}
use Rattle.connection_messages.specs.declared.call.Call.{Call as Came}
use Rattle.connection_messages.specs.declared.cancels.Cancels.{Cancels}
use Rattle.connection_messages.specs.declared.cancels.Cancels.TheVariants.{Lsp, Mcp}
use Rattle.connection_messages.specs.declared.entry.Entry.{Entry}
use Rattle.connection_history.specs.declared.refused.Refused.TheVariants.{NotOpen, Empty}
use Rattle.connection_history.specs.Stream.{entries_along, call_numbered, request_id, cancels, is_cancelled}
use Rattle.connection_history.specs.History.{Happening, came, called, called_all, noticed, withdrew, answered, ended, History, or_else, units_at, stream, answer_at, answer_to, is_open}
use Rattle.connection_history.specs.Refusals.{first_of, has_cancels, may_be_left, IsLawful}
use Rattle.connection_history.specs.Told.{IsLeft}
use Rattle.connection_history.proofs.Histories.{stream-more}
use Rattle.connection_history.proofs.Streams.{is_cancelled-push}
use Rattle.connection_history.proofs.Tests.{same, and-left, and-right}

-- ---- a cancel that came stays

pushed : (n : ℕ) (es : List Entry) (e : Entry) → is_cancelled n es ≡ true → is_cancelled n (es ++ e ∷ []) ≡ true
pushed n es e hit = is_cancelled-push n es e ∙ ap (λ b. b || cancels (request_id n es) (e ∷ [])) hit

stays_cancelled : (n : ℕ) (es more : List Entry) → is_cancelled n es ≡ true → is_cancelled n (es ++ more) ≡ true
stays_cancelled n es [] hit = ap (is_cancelled n) (append-nil es) ∙ hit
stays_cancelled n es (e ∷ more) hit = ap (is_cancelled n) (sym (append_assoc es (e ∷ []) more)) ∙ stays_cancelled n (es ++ e ∷ []) more (pushed n es e hit)

cancelled-more : (n : ℕ) (past : History) (h : Happening) → is_cancelled n (stream past) ≡ true → is_cancelled n (stream (h ∷ past)) ≡ true
cancelled-more n past h hit = ap (is_cancelled n) (stream-more past h) ∙ stays_cancelled n (stream past) (entries_along (units_at h)) hit

-- ---- where it was closed without an answer

left_passed : (closed left : Bool) → first_of ((closed, NotOpen) ∷ (true && not left, Empty) ∷ []) ≡ None → left ≡ true
left_passed true left h = absurd (cc)
left_passed false true h = refl
left_passed false false h = absurd (cc)

mcp-only : (conversation : Option Cancels) → has_cancels Mcp conversation ≡ true → conversation ≡ Some Mcp
mcp-only None h = absurd (cc)
mcp-only (Some Lsp) h = absurd (cc)
mcp-only (Some Mcp) h = refl

left_may : (conversation : Option Cancels) (n : ℕ) (past : History) → may_be_left conversation n past ≡ true → IsLeft conversation n past
left_may conversation n past h = record {
  cancels = mcp-only conversation (and-left (has_cancels Mcp conversation) (is_cancelled n (stream past)) h);
  cancelled = and-right (has_cancels Mcp conversation) (is_cancelled n (stream past)) h;
}

left_at : (conversation : Option Cancels) (n : ℕ) (past : History) (h : Happening) → IsLawful conversation (h ∷ past) → answer_at n h ≡ Some None → IsLeft conversation n past
left_at conversation n past (came from u) lawful is = absurd (cc)
left_at conversation n past (called m o) lawful is = absurd (cc)
left_at conversation n past (called_all m os) lawful is = absurd (cc)
left_at conversation n past (noticed o) lawful is = absurd (cc)
left_at conversation n past (withdrew by k) lawful is = absurd (cc)
left_at conversation n past (answered m None) lawful is =
    let it : m ≡ n = same m n (cond_some (m == n) None None is).0 in
    subst (λ k. IsLeft conversation k past) it (left_may conversation m past (left_passed ((m == 0) || not (is_open m past)) (may_be_left conversation m past) lawful.0))
left_at conversation n past (answered m (Some a)) lawful is = let other : Some a ≡ None = (cond_some (m == n) (Some a) None is).1 in absurd (cc)
left_at conversation n past (ended close) lawful is = absurd (cc)

left-more : (conversation : Option Cancels) (n : ℕ) (past : History) (h : Happening) → IsLeft conversation n past → IsLeft conversation n (h ∷ past)
left-more conversation n past h it = record { cancels = it.cancels; cancelled = cancelled-more n past h it.cancelled }

left_from : (conversation : Option Cancels) (n : ℕ) (past : History) (h : Happening) (o : Option (Option Answer)) → answer_to n past ≡ o
    → (answer_to n past ≡ Some None → IsLeft conversation n past) → IsLawful conversation (h ∷ past) → or_else o (answer_at n h) ≡ Some None → IsLeft conversation n past
left_from conversation n past h None is earlier lawful closed = left_at conversation n past h lawful closed
left_from conversation n past h (Some a) is earlier lawful closed = earlier (is ∙ closed)

-- a call that was closed without an answer needed none
pub left_cancelled : (conversation : Option Cancels) (history : History) (n : ℕ) → IsLawful conversation history → answer_to n history ≡ Some None → IsLeft conversation n history
left_cancelled conversation [] n lawful closed = absurd (cc)
left_cancelled conversation (h ∷ past) n lawful closed =
    left-more conversation n past h
    (left_from conversation n past h (answer_to n past) refl (left_cancelled conversation past n lawful.1) lawful closed)

-- ---- each request that isn't open

came_call : (o : Option Came) (id : Id) → option_and_then (λ (c : Came). c.id) o ≡ Some id → is_some o ≡ true
came_call None id h = absurd (cc)
came_call (Some c) id h = refl

closed_answer : (known : Bool) (o : Option (Option Answer)) → known ≡ true → (known && is_none o) ≡ false → (a : Option Answer) × (o ≡ Some a)
closed_answer true None is h = absurd (cc)
closed_answer true (Some a) is h = (a, refl)
closed_answer false o is h = absurd (cc)

answered_or_left : (conversation : Option Cancels) (history : History) (n : ℕ) (a : Option Answer) → IsLawful conversation history → answer_to n history ≡ Some a
    → ((b : Answer) × (answer_to n history ≡ Some (Some b))) ⊎ IsLeft conversation n history
answered_or_left conversation history n None lawful is = inr (left_cancelled conversation history n lawful is)
answered_or_left conversation history n (Some b) lawful is = inl (b, is)

-- it is answered, or was left
pub each_request : (conversation : Option Cancels) (history : History) (n : ℕ) (id : Id) → IsLawful conversation history → request_id n (stream history) ≡ Some id → is_open n history ≡ false
    → ((b : Answer) × (answer_to n history ≡ Some (Some b))) ⊎ IsLeft conversation n history
each_request conversation history zero id lawful is closed = absurd (cc)
each_request conversation history (suc n) id lawful is closed =
    let known = came_call (call_numbered (suc n) (stream history)) id is in
    let a = closed_answer (is_some (call_numbered (suc n) (stream history))) (answer_to (suc n) history) known closed in
    answered_or_left conversation history (suc n) a.0 lawful a.1
