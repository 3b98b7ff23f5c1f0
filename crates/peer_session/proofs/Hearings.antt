-- A handler hears one reply more.
use Rattle.std.proofs.Common.{◌≡◌, ℕ, zero, suc, ◌+◌, ◌-◌, ◌<◌, ◌==◌, List, [], ◌∷◌, length, drop, Bool, true, false, ◌||◌, Some, Result, Ok, Err, OnOk, is_ok, refl, ap, sym, ◌∙◌, arith}
use Rattle.std.specs.List.{list_any}
use Rattle.std.specs.Cmp.{unsigned_Decides}
use Rattle.std.proofs.lemmas.List.{length-drop}
use Rattle.rpc_messages.specs.declared.reply.Reply.{Reply}
use Rattle.answer_desk.specs.State.{State, reply_of, without_reply}
use Rattle.handler_future.specs.State.{HandlerState, with_heard}
use Rattle.peer_events.specs.Hearing.{hear_turns, hear_if}
use Rattle.peer_session.specs.Inner.Waits.{StandsAlone}

pub on-ok : {T E : Type 0} {P : Type 0} (r : Result T E) → is_ok r ≡ true → OnOk r P → P
on-ok (Ok x) ok holds = holds
on-ok (Err e) ok holds = cc

or-true : (b : Bool) → (b || true) ≡ true
or-true true = refl
or-true false = refl

pub any-in : (xs : List ℕ) (k t : ℕ) (ys : List ℕ) → drop k xs ≡ t ∷ ys → list_any (λ w. w == t) xs ≡ true
any-in [] zero t ys is = cc
any-in [] (suc k) t ys is = cc
any-in (x ∷ xs) zero t ys is =
    let same : x ≡ t = cc in
    ap (λ b. b || list_any (λ w. w == t) xs) ((unsigned_Decides x t).1 same)
any-in (x ∷ xs) (suc k) t ys is = ap (λ b. (x == t) || b) (any-in xs k t ys is) ∙ or-true (x == t)

one-turn : (d : State) (h : HandlerState) (turn : ℕ) (turns : List ℕ) (reply : Reply) → Some reply ≡ reply_of d h.number turn
    → hear_turns (without_reply d h.number turn) (with_heard h turn reply) turns ≡ hear_turns d h (turn ∷ turns)
one-turn d h turn turns reply is = ap (λ r. hear_turns (without_reply d h.number turn) (hear_if h turn r) turns) is

pub heard-step : (d d' : State) (h h' : HandlerState) (n place turn : ℕ) (reply : Reply) → StandsAlone h.waits place turn → h.number ≡ n
    → d' ≡ without_reply d n turn → Some reply ≡ reply_of d n turn → h' ≡ with_heard h turn reply
    → hear_turns d' h' (drop place h'.waits) ≡ hear_turns d h (drop place h.waits)
heard-step d d' h h' n place turn reply alone number desk there heard =
    ap (λ e. hear_turns e h' (drop place h'.waits)) (desk ∙ ap (λ m. without_reply d m turn) (sym number))
    ∙ ap (λ k. hear_turns (without_reply d h.number turn) k (drop place k.waits)) heard
    ∙ ap (hear_turns (without_reply d h.number turn) (with_heard h turn reply)) alone.others
    ∙ one-turn d h turn (drop (place + 1) h.waits) reply (there ∙ ap (λ m. reply_of d m turn) (sym number))
    ∙ ap (hear_turns d h) (sym alone.rest)

pub fewer-waits : (h h' : HandlerState) (place turn : ℕ) (reply : Reply) → StandsAlone h.waits place turn → h' ≡ with_heard h turn reply
    → length h'.waits - place < length h.waits - place
fewer-waits h h' place turn reply alone heard =
    let left : length (drop place h'.waits) ≡ length (drop (place + 1) h.waits) = ap (λ k. length (drop place k.waits)) heard ∙ ap length alone.others in
    omega (arith, left, length-drop place h'.waits, length-drop (place + 1) h.waits, alone.within)
