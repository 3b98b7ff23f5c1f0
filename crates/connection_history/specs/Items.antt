-- What a connection writes.
use Rattle.std.specs.Prelude.{ℕ, ◌+◌, List, [], ◌∷◌, ◌++◌, map, flat_map, Option, Some, None}
use Rattle.connection_messages.specs.Texts.{call_text, calls_text, notice_text, withdrawal_text}
use Rattle.connection_history.specs.declared.order.Order.{Order}
use Rattle.connection_history.specs.declared.order.Order.TheVariants.{AsAnswered, AsCame}
use Rattle.connection_history.specs.Answers.{Due, open_yet, nothing, text, dues}
use Rattle.connection_history.specs.History.{Happening, came, called, called_all, noticed, withdrew, answered, ended, History, key_count}

-- One text: what the host said, or the answer of the unit at this place, from 0.
pub data Item : Type 0 where
  said : List ℕ → Item
  answer : ℕ → List ℕ → Item

abbrev pub text_of : Item → List ℕ
text_of (said t) = t
text_of (answer place t) = t

-- what the host says goes out as it is said
abbrev pub said_at : History → Happening → List Item
said_at past (came o u) = []
said_at past (called n o) = said (call_text (key_count past + 1) o) ∷ []
said_at past (called_all n os) = said (calls_text (key_count past + 1) os) ∷ []
said_at past (noticed o) = said (notice_text o) ∷ []
said_at past (withdrew by k) = said (withdrawal_text by k) ∷ []
said_at past (answered n a) = []
said_at past (ended close) = []

abbrev pub text_if_due : Due → Option (List ℕ)
text_if_due open_yet = None
text_if_due nothing = None
text_if_due (text t) = Some t

-- Of each unit the text that is out: as answered, each that is due; as came, those that no open unit stands before.
abbrev pub out : Order → List Due → List (Option (List ℕ))
out AsAnswered due = map text_if_due due
out AsCame [] = []
out AsCame (open_yet ∷ due) = None ∷ map (λ d. None) due
out AsCame (nothing ∷ due) = None ∷ out AsCame due
out AsCame (text t ∷ due) = Some t ∷ out AsCame due

-- the answer at this place, where it is out and wasn't
abbrev pub newly_at : ℕ → Option (List ℕ) → Option (List ℕ) → List Item
newly_at place (Some t) after = []
newly_at place None None = []
newly_at place None (Some t) = answer place t ∷ []

-- the answers that are out after something happened and weren't before, from this place on
abbrev pub newly_out : ℕ → List (Option (List ℕ)) → List (Option (List ℕ)) → List Item
newly_out place before [] = []
newly_out place [] (a ∷ after) = newly_at place None a ++ newly_out (place + 1) [] after
newly_out place (b ∷ before) (a ∷ after) = newly_at place b a ++ newly_out (place + 1) before after

-- a unit's answer goes out once it can
abbrev pub answers_at : Order → History → Happening → List Item
answers_at order past h = newly_out 0 (out order (dues past)) (out order (dues (h ∷ past)))

abbrev pub items_at : Order → History → Happening → List Item
items_at order past h = said_at past h ++ answers_at order past h

-- all that is written, in its order
abbrev pub items_of : Order → History → List Item
items_of order [] = []
items_of order (h ∷ past) = items_of order past ++ items_at order past h

-- the bytes of items, each text written in its framing
abbrev pub bytes_of : (List ℕ → List ℕ) → List Item → List ℕ
bytes_of written items = flat_map (λ item. written (text_of item)) items
