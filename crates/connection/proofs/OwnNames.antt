-- No notification among the messages has the name of a cancel, where none that the host makes has.
use Rattle.std.proofs.Common.{◌≡◌, ℕ, zero, suc, ◌+◌, List, [], ◌∷◌, ◌++◌, map, get_or, length, take, Option, None}
use Rattle.std.specs.Prelude.{⊤, flat_map}
use Rattle.message_ids.specs.declared.id.Id.{Id}
use Rattle.connection_messages.specs.Envelope.{cancels_by}
use Rattle.connection_messages.specs.declared.answer.Answer.{Answer}
use Rattle.connection_messages.specs.declared.cancels.Cancels.{Cancels}
use Rattle.connection_messages.specs.declared.unit.Unit.{Unit}
use Rattle.connection_messages.specs.declared.unit.Unit.TheVariants.{Unreadable, Single, Batch}
use Rattle.connection_history.specs.declared.order.Order.{Order}
use Rattle.connection_history.specs.Stream.{entries_in, calls_in}
use Rattle.connection_history.specs.History.{Happening, came, called, called_all, noticed, withdrew, answered, ended, History, units_of}
use Rattle.connection_history.specs.Items.{answers_at}
use Rattle.connection_history.specs.Written.{places_in}
use Rattle.connection.specs.BackToBack.{Message, call, calls, notice, withdrawal, answer, answers, said_at, answer_in, answers_in, in_one, answer_of, answers_along, answer_at, messages_at, messages_of, IsNoCancel, NoCancelNoticed}

abbrev pub HasOwnName : Option Cancels → Message → Type 0
HasOwnName cancels (call key o) = ⊤
HasOwnName cancels (calls key os) = ⊤
HasOwnName cancels (notice o) = cancels_by cancels o.method ≡ None
HasOwnName cancels (withdrawal by key) = ⊤
HasOwnName cancels (answer id a) = ⊤
HasOwnName cancels (answers all) = ⊤

abbrev pub HaveOwnNames : Option Cancels → List Message → Type 0
HaveOwnNames cancels [] = ⊤
HaveOwnNames cancels (m ∷ ms) = HasOwnName cancels m × HaveOwnNames cancels ms

pub first_named : (cancels : Option Cancels) (n : ℕ) (ms : List Message) → HaveOwnNames cancels ms → HaveOwnNames cancels (take n ms)
first_named cancels zero ms named = tt
first_named cancels (suc n) [] named = tt
first_named cancels (suc n) (m ∷ ms) named = (named.0, first_named cancels n ms named.1)

named-append : (cancels : Option Cancels) (ms more : List Message) → HaveOwnNames cancels ms → HaveOwnNames cancels more → HaveOwnNames cancels (ms ++ more)
named-append cancels [] more first second = second
named-append cancels (m ∷ ms) more first second = (first.0, named-append cancels ms more first.1 second)

said_named : (cancels : Option Cancels) (past : History) (h : Happening) → IsNoCancel cancels h → HaveOwnNames cancels (said_at past h)
said_named cancels past (came o u) named = tt
said_named cancels past (called n o) named = (tt, tt)
said_named cancels past (called_all n os) named = (tt, tt)
said_named cancels past (noticed o) named = (named, tt)
said_named cancels past (withdrew by k) named = (tt, tt)
said_named cancels past (answered n a) named = tt
said_named cancels past (ended close) named = tt

-- answers have no names

each_named : (cancels : Option Cancels) (xs : List (Id × Answer)) → HaveOwnNames cancels (map (λ a. answer a.0 a.1) xs)
each_named cancels [] = tt
each_named cancels (x ∷ xs) = (tt, each_named cancels xs)

one_named : (cancels : Option Cancels) (xs : List (Id × Answer)) → HaveOwnNames cancels (in_one xs)
one_named cancels [] = tt
one_named cancels (x ∷ xs) = (tt, tt)

module _ (cancels : Option Cancels) (history : History) where
  unit_named : (n : ℕ) (u : Unit) → HaveOwnNames cancels (answer_of history n u)
  unit_named n Unreadable = (tt, tt)
  unit_named n (Single e) = each_named cancels (answer_in history n e)
  unit_named n (Batch es) = one_named cancels (answers_in history n es)

  along_named : (n : ℕ) (us : List Unit) (place : ℕ) → HaveOwnNames cancels (get_or (answers_along history n us) place [])
  along_named n [] place = tt
  along_named n (u ∷ us) zero = unit_named n u
  along_named n (u ∷ us) (suc place) = along_named (n + length (calls_in (entries_in u))) us place

  places_named : (places : List ℕ) → HaveOwnNames cancels (flat_map (answer_at history) places)
  places_named [] = tt
  places_named (place ∷ places) = named-append cancels (answer_at history place) (flat_map (answer_at history) places) (along_named 1 (units_of history) place) (places_named places)

pub messages_named : (cancels : Option Cancels) (order : Order) (history : History) → NoCancelNoticed cancels history → HaveOwnNames cancels (messages_of order history)
messages_named cancels order [] named = tt
messages_named cancels order (h ∷ past) named =
    named-append cancels (messages_of order past) (messages_at order past h) (messages_named cancels order past named.1)
    (named-append cancels (said_at past h) (flat_map (answer_at (h ∷ past)) (places_in (answers_at order past h))) (said_named cancels past h named.0)
    (places_named cancels (h ∷ past) (places_in (answers_at order past h))))
