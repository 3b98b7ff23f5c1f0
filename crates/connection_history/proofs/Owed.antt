-- What is owed where no call is open.
use Rattle.std.proofs.Common.{◌≡◌, ◌≢◌, ℕ, zero, suc, ◌+◌, ◌<◌, ◌≤◌, List, [], ◌∷◌, ◌++◌, map, length, Option, Some, None, false, ◌&&◌, refl, ap, length-append, arith}
use Rattle.std.specs.Prelude.{⊤, slice_get, option_map, is_some}
use Rattle.std.specs.Option.{is_none}
use Rattle.message_ids.specs.declared.id.Id.{Id}
use Rattle.connection_messages.specs.declared.answer.Answer.{Answer}
use Rattle.connection_messages.specs.declared.call.Call.{Call as Came}
use Rattle.connection_messages.specs.declared.entry.Entry.{Entry}
use Rattle.connection_messages.specs.declared.entry.Entry.TheVariants.{Call, Cancel, Reply, Stray, Invalid}
use Rattle.connection_messages.specs.declared.unit.Unit.{Unit}
use Rattle.connection_messages.specs.declared.unit.Unit.TheVariants.{Unreadable, Single, Batch}
use Rattle.connection_history.specs.declared.order.Order.{Order}
use Rattle.connection_history.specs.declared.order.Order.TheVariants.{AsAnswered, AsCame}
use Rattle.connection_history.specs.Stream.{entries_in, entries_along, call_in, calls_in, call_numbered}
use Rattle.connection_history.specs.Answers.{Texts, both, texts_of, call_texts, entry_texts, texts_along, unit_texts, Due, open_yet, nothing, text, joined, due_from, dues_along, dues}
use Rattle.connection_history.specs.Events.{call_count}
use Rattle.connection_history.specs.History.{History, units_of, stream, answer_to, is_open}
use Rattle.connection_history.specs.Items.{text_if_due, out}
use Rattle.connection_history.proofs.Streams.{length-calls_in-append, call_numbered-known}

-- ---- units whose calls are answered

-- the host answered call n, or closed it without an answer
abbrev IsAnswered : History → ℕ → Type 0
IsAnswered history n = (a : Option Answer) × (answer_to n history ≡ Some a)

abbrev HasTexts : Texts → Type 0
HasTexts texts = (ts : List (List ℕ)) × (texts ≡ Some ts)

both-has : (these others : Texts) → HasTexts these → HasTexts others → HasTexts (both these others)
both-has these others h k = (h.0 ++ k.0, λ i. both (h.1 i) (k.1 i))

module _ (history : History) where
  call-has : (n : ℕ) (id : Option Id) → IsAnswered history n → HasTexts (call_texts history n id)
  call-has n None h = ([], refl)
  call-has n (Some id) h = (texts_of id h.0, ap (option_map (texts_of id)) h.1)

  entry-has : (n : ℕ) (e : Entry) → ((k : ℕ) → n ≤ k → k < n + length (call_in e) → IsAnswered history k) → HasTexts (entry_texts history n e)
  entry-has n (Call c) h = call-has n c.id (h n (omega arith) (omega arith))
  entry-has n (Cancel id) h = ([], refl)
  entry-has n (Reply k r) h = ([], refl)
  entry-has n Stray h = ([], refl)
  entry-has n Invalid h = (_, refl)

  entries-have : (n : ℕ) (es : List Entry) → ((k : ℕ) → n ≤ k → k < n + length (calls_in es) → IsAnswered history k) → HasTexts (texts_along history n es)
  entries-have n [] h = ([], refl)
  entries-have n (e ∷ es) h =
      let two = length-append (call_in e) (calls_in es) in
      both-has (entry_texts history n e) (texts_along history (n + length (call_in e)) es)
      (entry-has n e (λ k from below. h k from (omega (arith, two))))
      (entries-have (n + length (call_in e)) es (λ k from below. h k (omega arith) (omega (arith, two))))

  unit-has : (n : ℕ) (u : Unit) → ((k : ℕ) → n ≤ k → k < n + length (calls_in (entries_in u)) → IsAnswered history k) → HasTexts (unit_texts history n u)
  unit-has n Unreadable h = (_, refl)
  unit-has n (Single e) h = entry-has n e (λ k from below. h k from (omega (arith, length-append (call_in e) [])))
  unit-has n (Batch es) h = entries-have n es h

-- ---- no unit is open

abbrev IsSettled : Due → Type 0
IsSettled open_yet = ⊥
IsSettled nothing = ⊤
IsSettled (text t) = ⊤

abbrev AllSettled : List Due → Type 0
AllSettled [] = ⊤
AllSettled (d ∷ ds) = IsSettled d × AllSettled ds

joined-settled : (u : Unit) (ts : List (List ℕ)) → IsSettled (joined u ts)
joined-settled u [] = tt
joined-settled Unreadable (t ∷ ts) = tt
joined-settled (Single e) (t ∷ ts) = tt
joined-settled (Batch es) (t ∷ ts) = tt

due-settled : (u : Unit) (texts : Texts) → HasTexts texts → IsSettled (due_from u texts)
due-settled u None h = let is = h.1 in absurd (cc)
due-settled u (Some ts) h = joined-settled u ts

dues-settled : (history : History) (n : ℕ) (us : List Unit) → ((k : ℕ) → n ≤ k → k < n + length (calls_in (entries_along us)) → IsAnswered history k)
    → AllSettled (dues_along history n us)
dues-settled history n [] h = tt
dues-settled history n (u ∷ us) h =
    let two = length-calls_in-append (entries_in u) (entries_along us) in (
      due-settled u (unit_texts history n u) (unit-has history n u (λ k from below. h k from (omega (arith, two)))),
      dues-settled history (n + length (calls_in (entries_in u))) us (λ k from below. h k (omega arith) (omega (arith, two))),
    )

answered-if : (o : Option Came) (a : Option (Option Answer)) (c : Came) → o ≡ Some c → (is_some o && is_none a) ≡ false → (b : Option Answer) × (a ≡ Some b)
answered-if None a c some h = absurd (cc)
answered-if (Some d) None c some h = absurd (cc)
answered-if (Some d) (Some b) c some h = (b, refl)

-- a call that came and isn't open is answered
closed : (history : History) → ((n : ℕ) → 0 < n → is_open n history ≡ false) → (k : ℕ) → 1 ≤ k → k < 1 + call_count history → IsAnswered history k
closed history none zero from below = absurd (omega arith)
closed history none (suc k) from below =
    let c = call_numbered-known (suc k) (stream history) (omega arith) (omega arith) in
    answered-if (call_numbered (suc k) (stream history)) (answer_to (suc k) history) c.0 c.1 (none (suc k) (omega arith))

all_settled : (history : History) → ((n : ℕ) → 0 < n → is_open n history ≡ false) → AllSettled (dues history)
all_settled history none = dues-settled history 1 (units_of history) (closed history none)

-- ---- what is out then

settled-out : (ds : List Due) → AllSettled ds → out AsCame ds ≡ map text_if_due ds
settled-out [] h = refl
settled-out (open_yet ∷ ds) h = absurd h.0
settled-out (nothing ∷ ds) h = ap (λ l. None ∷ l) (settled-out ds h.1)
settled-out (text t ∷ ds) h = ap (λ l. Some t ∷ l) (settled-out ds h.1)

settled-at : (ds : List Due) (place : ℕ) → AllSettled ds → slice_get ds place ≢ Some open_yet
settled-at [] place h is = cc
settled-at (open_yet ∷ ds) zero h is = absurd h.0
settled-at (nothing ∷ ds) zero h is = cc
settled-at (text t ∷ ds) zero h is = cc
settled-at (d ∷ ds) (suc place) h is = settled-at ds place h.1 is

-- where no call is open, each answer is out
pub nothing_owed : (order : Order) (history : History) → ((n : ℕ) → 0 < n → is_open n history ≡ false) → out order (dues history) ≡ map text_if_due (dues history)
nothing_owed AsAnswered history none = refl
nothing_owed AsCame history none = settled-out (dues history) (all_settled history none)

-- where no call is open, no unit is
pub no_unit_open : (history : History) (place : ℕ) → ((n : ℕ) → 0 < n → is_open n history ≡ false) → slice_get (dues history) place ≢ Some open_yet
no_unit_open history place none = settled-at (dues history) place (all_settled history none)
