-- What an event changes at one number, and leaves as it is at the others.
use Rattle.std.proofs.Common.{◌≡◌, ◌≢◌, ℕ, zero, suc, ◌-◌, ◌<◌, ◌≤◌, ◌==◌, List, [], ◌∷◌, length, map, get_or, set, Bool, true, false, cond, Option, Some, None, refl, sym, ap, ◌∙◌, arith}
use Rattle.std.proofs.lemmas.Bool.{cond-true, cond-false}
use Rattle.std.proofs.lemmas.List.{get_or-set_same, get_or-set_other, get_or_append_left, get_or-append_right, get_or_past, length-set}
use Rattle.std.specs.Cmp.{unsigned_Decides}
use Rattle.rpc_messages.specs.declared.reply.Reply.{Reply}
use Rattle.answer_desk.specs.declared.shape.Shape.{Shape}
use Rattle.open_numbers.specs.declared.replies.Slot.{Slot}
use Rattle.answer_desk.specs.Places.{new_numbers}
use Rattle.answer_desk.specs.State.{State, number_at, with_unit, with_slot, with_reply, without_reply, with_reached, with_end}
use Rattle.peer_events.specs.declared.stage.Stage.{Stage}
use Rattle.peer_events.specs.declared.stage.Stage.TheVariants.{Gone}
use Rattle.peer_output.specs.Course.{Course}
use Rattle.peer_output.specs.Events.{with_at}
use Rattle.peer_output.specs.Left.{units_left}
use Rattle.peer_events.specs.Inner.Known.{Known}

-- ---- a function that changes at one number

same_number : (n : ℕ) → (n == n) ≡ true
same_number n = (unsigned_Decides n n).1 refl

other_number : (n k : ℕ) (b : Bool) → (n == k) ≡ b → k ≢ n → b ≡ false
other_number n k true is apart = absurd (apart (sym ((unsigned_Decides n k).0 is)))
other_number n k false is apart = refl

pub at-here : {A : Type 0} (n : ℕ) (a : A) (f : ℕ → A) → with_at n a f n ≡ a
at-here n a f = cond-true (n == n) a (f n) (same_number n)

pub at-elsewhere : {A : Type 0} (n : ℕ) (a : A) (f : ℕ → A) (k : ℕ) → k ≢ n → with_at n a f k ≡ f k
at-elsewhere n a f k apart = cond-false (n == k) a (f k) (other_number n k (n == k) refl apart)

-- ---- stages

pub stage-here : (stages : List Stage) (n : ℕ) (stage : Stage) → n < length stages → get_or (set stages n stage) n Gone ≡ stage
stage-here stages n stage within = get_or-set_same stages n stage Gone within

pub stage-elsewhere : (stages : List Stage) (n k : ℕ) (stage : Stage) → k ≢ n → get_or (set stages n stage) k Gone ≡ get_or stages k Gone
stage-elsewhere stages n k stage apart = get_or-set_other stages n k stage Gone apart

gone_at : (stages : List Stage) (n : ℕ) → get_or (set stages n Gone) n Gone ≡ Gone
gone_at [] n = refl
gone_at (o ∷ os) zero = refl
gone_at (o ∷ os) (suc n) = gone_at os n

pub stage-gone : (stages : List Stage) (n : ℕ) → get_or (set stages n Gone) n Gone ≡ Gone
stage-gone stages n = gone_at stages n

-- a number with a stage was given
pub stage-within : (stages : List Stage) (n : ℕ) → get_or stages n Gone ≢ Gone → n < length stages
stage-within [] n some = absurd (some refl)
stage-within (o ∷ os) zero some = omega arith
stage-within (o ∷ os) (suc n) some = omega (arith, stage-within os n some)

-- ---- how many numbers there are

pub next-ended : (d : State) (n : ℕ) (reply : Reply) → length (with_end d n reply).numbers ≡ length d.numbers
next-ended d n reply = length-set d.numbers n None

pub next-reached : (d : State) (n : ℕ) → length (with_reached d (Some n)).numbers ≡ length d.numbers
next-reached d n = length-set d.numbers n _

pub next-slotted : (d : State) (n turn : ℕ) (slot : Slot) → length (with_slot d n turn slot).numbers ≡ length d.numbers
next-slotted d n turn slot = length-set d.numbers n _

slotted_if : (b : Bool) (d : State) (n turn : ℕ) (slot : Slot) → length (cond b (with_slot d n turn slot) d).numbers ≡ length d.numbers
slotted_if true d n turn slot = next-slotted d n turn slot
slotted_if false d n turn slot = refl

pub next-replied : (d : State) (n turn : ℕ) (reply : Reply) → length (with_reply d n turn reply).numbers ≡ length d.numbers
next-replied d n turn reply = slotted_if _ d n turn _

pub next-given : (d : State) (n turn : ℕ) → length (without_reply d n turn).numbers ≡ length d.numbers
next-given d n turn = slotted_if _ d n turn _

-- ---- what these leave as it is

units_if : (b : Bool) (d : State) (n turn : ℕ) (slot : Slot) → (cond b (with_slot d n turn slot) d).units ≡ d.units
units_if true d n turn slot = refl
units_if false d n turn slot = refl

pub units-replied : (d : State) (n turn : ℕ) (reply : Reply) → (with_reply d n turn reply).units ≡ d.units
units-replied d n turn reply = units_if _ d n turn _

pub units-given : (d : State) (n turn : ℕ) → (without_reply d n turn).units ≡ d.units
units-given d n turn = units_if _ d n turn _

closed_if : (b : Bool) (d : State) (n turn : ℕ) (slot : Slot) → (cond b (with_slot d n turn slot) d).is_closed ≡ d.is_closed
closed_if true d n turn slot = refl
closed_if false d n turn slot = refl

pub closed-replied : (d : State) (n turn : ℕ) (reply : Reply) → (with_reply d n turn reply).is_closed ≡ d.is_closed
closed-replied d n turn reply = closed_if _ d n turn _

pub closed-given : (d : State) (n turn : ℕ) → (without_reply d n turn).is_closed ≡ d.is_closed
closed-given d n turn = closed_if _ d n turn _

-- ---- a number is finished, and its answer stands in its unit

pub units-ended : Known → (took : ℕ → Option Course) (first : ℕ) (d : State) (left : List _) (n : ℕ) (c : Course) → d.units ≡ units_left took first left
    → (with_end d n c.answer).units ≡ units_left (with_at n (Some c) took) first left
units-ended known took first d left n c units = ap (map _) units ∙ known.left_answered took n first c left

-- ---- a unit comes

pub number-opened_before : (d : State) (shape : Shape) (k : ℕ) → k < length d.numbers → number_at (with_unit d shape) k ≡ number_at d k
number-opened_before d shape k within = get_or_append_left d.numbers (new_numbers shape.places) None k within

pub number-opened_behind : (d : State) (shape : Shape) (k : ℕ) → length d.numbers ≤ k
    → number_at (with_unit d shape) k ≡ get_or (new_numbers shape.places) (k - length d.numbers) None
number-opened_behind d shape k behind = get_or-append_right d.numbers (new_numbers shape.places) (length d.numbers) k None refl behind

pub number-past : (d : State) (k : ℕ) → length d.numbers ≤ k → number_at d k ≡ None
number-past d k past = get_or_past d.numbers k None past
