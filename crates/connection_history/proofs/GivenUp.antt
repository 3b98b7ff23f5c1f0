-- A call of ours that was given up is told nothing of.
use Rattle.std.proofs.Common.{◌≡◌, ℕ, ◌&&◌, ◌||◌, not, [], ◌∷◌, Bool, true, false, refl, ap, ◌∙◌}
use Rattle.std.specs.Prelude.{is_some}
use Rattle.std.specs.Option.{is_none, option_map_or}
use Rattle.connection_messages.specs.declared.cancels.Cancels.TheVariants.{Lsp, Mcp}
use Rattle.connection_history.specs.declared.event.Event.TheVariants as event
use Rattle.connection_history.specs.Stream.{entries_in}
use Rattle.connection_history.specs.Events.{events_along, events_at}
use Rattle.connection_history.specs.History.{Happening, came, called, called_all, noticed, withdrew, answered, ended, History, is_over, is_open, caller_of, reply_to, gives_up, is_given_up, is_waiting, waiting}
use Rattle.connection_history.specs.Told.{replies_told, unanswered_told}
use Rattle.connection_history.proofs.Along.{so_far}
use Rattle.connection_history.proofs.Histories.{waits}
use Rattle.connection_history.proofs.Numbers.{one_if}
use Rattle.connection_history.proofs.RepliesTold.{replies_told-broken, replies_told-unanswered}
use Rattle.connection_history.proofs.RepliesWaiting.{quiet_along}
use Rattle.connection_history.proofs.Tests.{same_test}
use Rattle.connection_history.proofs.Unanswered.{unanswered_told-before, ended_told}
use Rattle.connection_history.proofs.Waiting.{and-true, and-false, waiting-withdrew}

or-true : (b : Bool) → (b || true) ≡ true
or-true true = refl
or-true false = refl

-- by LSP's cancel it still waits
pub lsp_waits : (past : History) (k : ℕ) → is_waiting k (withdrew Lsp k ∷ past) ≡ is_waiting k past
lsp_waits past k = waiting-withdrew k past Lsp k ∙ and-true (is_waiting k past)

-- by MCP's it is given up
pub mcp_gives_up : (past : History) (k : ℕ) → is_waiting k past ≡ true → is_given_up k (withdrew Mcp k ∷ past) ≡ true
mcp_gives_up past k h = λ i. (same_test k k refl i && is_some ((waits k past h).caller i)) || is_given_up k past

-- and stays so
pub stays_given_up : (past : History) (h : Happening) (k : ℕ) → is_given_up k past ≡ true → is_given_up k (h ∷ past) ≡ true
stays_given_up past h k given = ap (λ b. (gives_up k h && is_some (caller_of k past)) || b) given ∙ or-true (gives_up k h && is_some (caller_of k past))

-- it doesn't wait
pub given_idle : (k : ℕ) (history : History) → is_given_up k history ≡ true → is_waiting k history ≡ false
given_idle k history given =
    let rest = option_map_or (λ n. is_open n history) (caller_of k history) false && is_none (reply_to k history) && not (is_over history) in
    ap (λ b. rest && not b) given ∙ and-false rest

-- no reply to it is told
pub given_told : (past : History) (h : Happening) (k : ℕ) → is_given_up k past ≡ true → replies_told k (events_at past h) ≡ []
given_told past (came from u) k given =
    replies_told-broken k from u (events_along past [] (entries_in u))
    ∙ quiet_along k past [] (entries_in u) (λ more. given_idle k (so_far past more) given)
given_told past (called n o) k given = refl
given_told past (called_all n os) k given = refl
given_told past (noticed o) k given = refl
given_told past (withdrew by j) k given = refl
given_told past (answered n a) k given = refl
given_told past (ended close) k given = replies_told-unanswered k (waiting past) (event.Over close ∷ [])

-- nor that there is none
pub given_end : (past : History) (h : Happening) (k : ℕ) → is_given_up k past ≡ true → unanswered_told k (events_at past h) ≡ 0
given_end past (came from u) k given = unanswered_told-before k past (came from u) refl
given_end past (called n o) k given = refl
given_end past (called_all n os) k given = refl
given_end past (noticed o) k given = refl
given_end past (withdrew by j) k given = refl
given_end past (answered n a) k given = refl
given_end past (ended close) k given = ended_told past close k ∙ ap one_if (given_idle k past given)
