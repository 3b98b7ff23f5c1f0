-- What the board holds for a number, and who is ready by it.
use Rattle.std.proofs.Common.{◌≡◌, ◌≢◌, ℕ, zero, suc, List, [], ◌∷◌, Bool, true, false, is_some, Option, Some, None, length, set, slice_index_or, refl, sym, ap, ◌∙◌}
use Rattle.std.specs.Option.{option_map, option_and_then}
use Rattle.std.specs.List.{list_all}
use Rattle.std.proofs.lemmas.List.{get_or-set_other, length-set}
use Rattle.rpc_messages.specs.declared.reply.Reply.{Reply}
use Rattle.open_numbers.specs.declared.open_call.OpenCall.{OpenCall}
use Rattle.open_numbers.specs.declared.replies.Slot.{Slot}
use Rattle.open_numbers.specs.Replies.{slot_at, is_kept}
use Rattle.answer_desk.specs.State.{State, number_at, is_open, reply_of, slot_of, numbers_with, put_of, with_reply, without_reply, with_reached, with_end}
use Rattle.peer_events.specs.declared.stage.Stage.{Stage}
use Rattle.peer_events.specs.declared.stage.Stage.TheVariants.{Gone, Faulty, Idle, Out, Over, Failed}
use Rattle.handler_future.specs.State.{HandlerState}
use Rattle.peer_events.specs.Hearing.{is_ready}
use Rattle.peer_events.specs.Turning.{is_ready_stage}
use Rattle.session_runs.specs.Runs.{StageFits, is_idle, is_live}

-- the slots of a number, where it is open
abbrev pub slots_of : Option OpenCall → Option (List Slot)
slots_of number = option_map (λ (n : OpenCall). n.replies) number

-- the same board for a number
pub record SameBoard (d d' : State) (n : ℕ) : Type 0 where
  pub slots : slots_of (number_at d' n) ≡ slots_of (number_at d n)
  pub closed : d'.is_closed ≡ d.is_closed

slot-by : (number : Option OpenCall) (turn : ℕ) → option_and_then (λ (n : OpenCall). slot_at n.replies turn) number ≡ option_and_then (λ slots. slot_at slots turn) (slots_of number)
slot-by None turn = refl
slot-by (Some number) turn = refl

open-by : (number : Option OpenCall) → is_some number ≡ is_some (slots_of number)
open-by None = refl
open-by (Some number) = refl

pub same-reply : (d d' : State) (n turn : ℕ) → SameBoard d d' n → reply_of d' n turn ≡ reply_of d n turn
same-reply d d' n turn same =
    let slot : slot_of d' n turn ≡ slot_of d n turn =
    slot-by (number_at d' n) turn ∙ ap (option_and_then (λ slots. slot_at slots turn)) same.slots ∙ sym (slot-by (number_at d n) turn) in
    rw (same.closed, slot) refl

pub same-open : (d d' : State) (n : ℕ) → SameBoard d d' n → is_open d' n ≡ is_open d n
same-open d d' n same = open-by (number_at d' n) ∙ ap is_some same.slots ∙ sym (open-by (number_at d n))

same-all : (d d' : State) (n : ℕ) (turns : List ℕ) → SameBoard d d' n
    → list_all (λ turn. is_some (reply_of d' n turn)) turns ≡ list_all (λ turn. is_some (reply_of d n turn)) turns
same-all d d' n [] same = refl
same-all d d' n (turn ∷ turns) same = rw (same-reply d d' n turn same, same-all d d' n turns same) refl

pub same-ready : (d d' : State) (h : HandlerState) → SameBoard d d' h.number → is_ready d' h ≡ is_ready d h
same-ready d d' h same = same-all d d' h.number h.waits same

-- a number fits as before, and is as ready
pub same-stage : (d d' : State) (n : ℕ) (stage : Stage) → SameBoard d d' n → StageFits d n stage → is_ready_stage d' stage ≡ is_ready_stage d stage
same-stage d d' n (Idle h written) same fits = same-ready d d' h (rw fits.1 same)
same-stage d d' n Gone same fits = refl
same-stage d d' n (Faulty error) same fits = refl
same-stage d d' n (Out written) same fits = refl
same-stage d d' n (Over h written) same fits = refl
same-stage d d' n Failed same fits = refl

pub fits-stage : (d d' : State) (n : ℕ) (stage : Stage) → is_open d' n ≡ is_open d n → StageFits d n stage → StageFits d' n stage
fits-stage d d' n (Idle h written) same fits = (same ∙ fits.0, fits.1)
fits-stage d d' n Gone same fits = fits
fits-stage d d' n (Faulty error) same fits = same ∙ fits
fits-stage d d' n (Out written) same fits = same ∙ fits
fits-stage d d' n (Over h written) same fits = fits
fits-stage d d' n Failed same fits = fits

-- one that isn't live fits whatever the desk keeps
pub fits-over : (d d' : State) (n : ℕ) (stage : Stage) → is_live stage ≡ false → StageFits d n stage → StageFits d' n stage
fits-over d d' n (Idle h written) over fits = cc
fits-over d d' n Gone over fits = fits
fits-over d d' n (Faulty error) over fits = cc
fits-over d d' n (Out written) over fits = cc
fits-over d d' n (Over h written) over fits = fits
fits-over d d' n Failed over fits = fits

pub live-idle : (stage : Stage) → is_live stage ≡ false → is_idle stage ≡ false
live-idle (Idle h written) over = cc
live-idle Gone over = refl
live-idle (Faulty error) over = refl
live-idle (Out written) over = refl
live-idle (Over h written) over = refl
live-idle Failed over = refl

pub idle-ready : (d d' : State) (stage : Stage) → is_idle stage ≡ false → is_ready_stage d' stage ≡ is_ready_stage d stage
idle-ready d d' (Idle h written) not = cc
idle-ready d d' Gone not = refl
idle-ready d d' (Faulty error) not = refl
idle-ready d d' (Out written) not = refl
idle-ready d d' (Over h written) not = refl
idle-ready d d' Failed not = refl

-- ---- what each call leaves of the board

open-changed : (change : OpenCall → OpenCall) (number : Option OpenCall) → is_some (option_map change number) ≡ is_some number
open-changed change None = refl
open-changed change (Some number) = refl

open-set : (numbers : List (Option OpenCall)) (n k : ℕ) (change : OpenCall → OpenCall)
    → is_some (slice_index_or (numbers_with numbers n change) k None) ≡ is_some (slice_index_or numbers k None)
open-set [] n k change = refl
open-set (x ∷ xs) zero zero change = open-changed change x
open-set (x ∷ xs) zero (suc k) change = refl
open-set (x ∷ xs) (suc n) zero change = refl
open-set (x ∷ xs) (suc n) (suc k) change = open-set xs n k change

other-set : (numbers : List (Option OpenCall)) (n k : ℕ) (number : Option OpenCall) → k ≢ n
    → slice_index_or (set numbers n number) k None ≡ slice_index_or numbers k None
other-set numbers n k number apart = get_or-set_other numbers n k number None apart

-- a reply that is put
put-other-if : (kept : Bool) (d : State) (n turn : ℕ) (reply : Reply) (k : ℕ) → is_kept (put_of d n turn) ≡ kept → k ≢ n → SameBoard d (with_reply d n turn reply) k
put-other-if true d n turn reply k is apart = rw is (record { slots = ap slots_of (other-set d.numbers n k _ apart); closed = refl })
put-other-if false d n turn reply k is apart = rw is (record { slots = refl; closed = refl })

pub put-other : (d : State) (n turn : ℕ) (reply : Reply) (k : ℕ) → k ≢ n → SameBoard d (with_reply d n turn reply) k
put-other d n turn reply k apart = put-other-if (is_kept (put_of d n turn)) d n turn reply k refl apart

put-open-if : (kept : Bool) (d : State) (n turn : ℕ) (reply : Reply) (k : ℕ) → is_kept (put_of d n turn) ≡ kept → is_open (with_reply d n turn reply) k ≡ is_open d k
put-open-if true d n turn reply k is = rw is (open-set d.numbers n k _)
put-open-if false d n turn reply k is = rw is refl

pub put-open : (d : State) (n turn : ℕ) (reply : Reply) (k : ℕ) → is_open (with_reply d n turn reply) k ≡ is_open d k
put-open d n turn reply k = put-open-if (is_kept (put_of d n turn)) d n turn reply k refl

put-length-if : (kept : Bool) (d : State) (n turn : ℕ) (reply : Reply) → is_kept (put_of d n turn) ≡ kept → length (with_reply d n turn reply).numbers ≡ length d.numbers
put-length-if true d n turn reply is = rw is (length-set d.numbers n _)
put-length-if false d n turn reply is = rw is refl

pub put-length : (d : State) (n turn : ℕ) (reply : Reply) → length (with_reply d n turn reply).numbers ≡ length d.numbers
put-length d n turn reply = put-length-if (is_kept (put_of d n turn)) d n turn reply refl

-- a reply that is taken
take-other-if : (some : Bool) (d : State) (n turn k : ℕ) → is_some (reply_of d n turn) ≡ some → k ≢ n → SameBoard d (without_reply d n turn) k
take-other-if true d n turn k is apart = rw is (record { slots = ap slots_of (other-set d.numbers n k _ apart); closed = refl })
take-other-if false d n turn k is apart = rw is (record { slots = refl; closed = refl })

pub take-other : (d : State) (n turn k : ℕ) → k ≢ n → SameBoard d (without_reply d n turn) k
take-other d n turn k apart = take-other-if (is_some (reply_of d n turn)) d n turn k refl apart

take-open-if : (some : Bool) (d : State) (n turn k : ℕ) → is_some (reply_of d n turn) ≡ some → is_open (without_reply d n turn) k ≡ is_open d k
take-open-if true d n turn k is = rw is (open-set d.numbers n k _)
take-open-if false d n turn k is = rw is refl

pub take-open : (d : State) (n turn k : ℕ) → is_open (without_reply d n turn) k ≡ is_open d k
take-open d n turn k = take-open-if (is_some (reply_of d n turn)) d n turn k refl

take-length-if : (some : Bool) (d : State) (n turn : ℕ) → is_some (reply_of d n turn) ≡ some → length (without_reply d n turn).numbers ≡ length d.numbers
take-length-if true d n turn is = rw is (length-set d.numbers n _)
take-length-if false d n turn is = rw is refl

pub take-length : (d : State) (n turn : ℕ) → length (without_reply d n turn).numbers ≡ length d.numbers
take-length d n turn = take-length-if (is_some (reply_of d n turn)) d n turn refl

-- an end
pub end-other : (d : State) (n : ℕ) (reply : Reply) (k : ℕ) → k ≢ n → SameBoard d (with_end d n reply) k
end-other d n reply k apart = record { slots = ap slots_of (other-set d.numbers n k None apart); closed = refl }

-- marks
reached-slots : (change : OpenCall → OpenCall) → ((n : OpenCall) → (change n).replies ≡ n.replies) → (numbers : List (Option OpenCall)) (n k : ℕ)
    → slots_of (slice_index_or (numbers_with numbers n change) k None) ≡ slots_of (slice_index_or numbers k None)
reached-slots change same [] n k = refl
reached-slots change same (None ∷ xs) zero zero = refl
reached-slots change same (Some x ∷ xs) zero zero = ap Some (same x)
reached-slots change same (x ∷ xs) zero (suc k) = refl
reached-slots change same (x ∷ xs) (suc n) zero = refl
reached-slots change same (x ∷ xs) (suc n) (suc k) = reached-slots change same xs n k

pub reached-board : (d : State) (reached : Option ℕ) (k : ℕ) → SameBoard d (with_reached d reached) k
reached-board d None k = record { slots = refl; closed = refl }
reached-board d (Some n) k = record { slots = reached-slots _ (λ m. refl) d.numbers n k; closed = refl }

pub reached-length : (d : State) (reached : Option ℕ) → length (with_reached d reached).numbers ≡ length d.numbers
reached-length d None = refl
reached-length d (Some n) = length-set d.numbers n _

-- who is ready is here
pub ready-idle : (d : State) (stage : Stage) → is_ready_stage d stage ≡ true → is_idle stage ≡ true
ready-idle d (Idle h written) is = refl
ready-idle d Gone is = cc
ready-idle d (Faulty error) is = cc
ready-idle d (Out written) is = cc
ready-idle d (Over h written) is = cc
ready-idle d Failed is = cc
