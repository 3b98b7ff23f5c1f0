-- What is due is written, and counted.
use Rattle.std.proofs.Common.{flat_map, ◌≡◌, ℕ, suc, ◌+◌, ◌-◌, ◌^◌, min, List, [], ◌∷◌, ◌++◌, map, length, Bool, false, cond, Option, Some, None, is_some, refl, sym, ap, ◌∙◌, arith, append_assoc, append-nil}
use Rattle.std.specs.Prelude.{count_by}
use Rattle.std.specs.Io.KnownBytes.{Appends}
use Rattle.std.proofs.lemmas.Grind.{flat_map-append}
use Rattle.std.proofs.lemmas.List.{length-append}
use Rattle.std.proofs.lemmas.List.Sums.{sum_by-cons, sum_by-append}
use Rattle.rpc_messages.specs.Dues.{Due}
use Rattle.rpc_messages.specs.Unit.{SeenUnit}
use Rattle.method_steps.specs.Steps.{MethodTable}
use Rattle.answer_desk.specs.State.{front_texts}
use Rattle.handler_future.specs.State.{HandlerState}
use Rattle.peer_events.specs.declared.stage.Stage.{Stage}
use Rattle.peer_session.specs.declared.limits.Limits.{Limits}
use Rattle.peer_output.specs.Course.{Sending}
use Rattle.peer_output.specs.Items.{Item, sent, answered, answers_in, bytes_of, is_sending, is_call, count_sendings, count_calls, item_text}
use Rattle.peer_events.specs.Core.{unwritten, unwritten_from}
use Rattle.peer_events.specs.Stands.{StandsAfter}
use Rattle.peer_events.specs.Turning.{drained, due_bytes}
use Rattle.peer_session.specs.Events.{drained_session}
use Rattle.peer_session.specs.Framings.{bytes_in, due_in}
use Rattle.stream_framing.specs.Framed.{framed}
use Rattle.stream_framing.specs.declared.framing.Framing.{Framing}
use Rattle.peer_session.specs.SessionState.{SessionState, counted}
use Rattle.stream_session.specs.Inner.Known.{Known}
use Rattle.stream_session.specs.Standing.{SessionStands}
use Rattle.stream_session.proofs.Failing.{drained-not}

-- ---- bytes behind bytes

pub appends_both : (a b c : Option (List ℕ)) (front back : List ℕ) → Appends a b front → Appends b c back → Appends a c (front ++ back)
appends_both None b c front back p q = tt
appends_both (Some x) None c front back p q = elim p [ ]
appends_both (Some x) (Some y) None front back p q = elim q [ ]
appends_both (Some x) (Some y) (Some z) front back p q = q ∙ ap (λ l. l ++ back) p ∙ append_assoc x front back

pub appends-none : (before : Option (List ℕ)) → Appends before before []
appends-none None = tt
appends-none (Some bytes) = sym (append-nil bytes)

-- ---- counts of items

dues-count : (p : Item → Bool) → ((due : Due) → p (answered due) ≡ false) → (dues : List Due) → count_by p (map answered dues) ≡ 0
dues-count p none [] = refl
dues-count p none (due ∷ dues) =
    let step : count_by p (answered due ∷ map answered dues) ≡ cond (p (answered due)) 1 0 + count_by p (map answered dues) = sum_by-cons (λ y. cond (p y) 1 0) (answered due) (map answered dues) in
    let here : cond {A = ℕ} (p (answered due)) 1 0 ≡ 0 = ap (λ (b : Bool). cond {A = ℕ} b 1 0) (none due) in
    let rest = dues-count p none dues in
    omega arith

pub answers-append : (xs ys : List Item) → answers_in (xs ++ ys) ≡ answers_in xs ++ answers_in ys
answers-append [] ys = refl
answers-append (sent n s ∷ xs) ys = answers-append xs ys
answers-append (answered due ∷ xs) ys = ap (λ l. due ∷ l) (answers-append xs ys)

sendings-answer : (n : ℕ) (sends : List Sending) (rest : List Item) → answers_in (map (sent n) sends ++ rest) ≡ answers_in rest
sendings-answer n [] rest = refl
sendings-answer n (s ∷ sends) rest = sendings-answer n sends rest

unwritten-answers : (n : ℕ) (stages : List Stage) → answers_in (unwritten_from n stages) ≡ []
unwritten-answers n [] = refl
unwritten-answers n (stage ∷ stages) = sendings-answer n (unwritten stage) (unwritten_from (n + 1) stages) ∙ unwritten-answers (n + 1) stages

dues-answers : (dues : List Due) → answers_in (map answered dues) ≡ dues
dues-answers [] = refl
dues-answers (due ∷ dues) = ap (λ l. due ∷ l) (dues-answers dues)

length-texts : (dues : List Due) → length (map (λ (due : Due). due.text) dues) ≡ length dues
length-texts [] = refl
length-texts (due ∷ dues) = ap (λ k. suc k) (length-texts dues)

-- the texts of answers, as they are written
answered-bytes : (framing : Framing) (dues : List Due) → bytes_in framing (map answered dues) ≡ flat_map (framed framing) (map (λ (due : Due). due.text) dues)
answered-bytes framing [] = refl
answered-bytes framing (due ∷ dues) = ap (λ l. framed framing due.text ++ l) (answered-bytes framing dues)

pub counted-more : (n k : ℕ) → min (min n (2 ^ 64 - 1) + k) (2 ^ 64 - 1) ≡ min (n + k) (2 ^ 64 - 1)
counted-more n k = omega arith

module _ (items due : List Item) (dues : List Due) where
  counts : (p : Item → Bool) → ((d : Due) → p (answered d) ≡ false) → count_by p (items ++ due ++ map answered dues) ≡ count_by p items + count_by p due
  counts p none =
      let whole : count_by p (items ++ due ++ map answered dues) ≡ count_by p (items ++ due) + count_by p (map answered dues) = sum_by-append (λ y. cond (p y) 1 0) (items ++ due) (map answered dues) in
      let front : count_by p (items ++ due) ≡ count_by p items + count_by p due = sum_by-append (λ y. cond (p y) 1 0) items due in
      let none_there = dues-count p none dues in
      omega arith

module _ (laws : Known) (table : MethodTable) (limits : Limits) (units : List SeenUnit) (items : List Item) (s : SessionState) (jobs : ℕ → Option HandlerState)
    (had : SessionStands table limits units items s jobs) where
  abbrev due_items : List Item
  due_items = unwritten_from 0 s.core.stages

  abbrev pub stands-drained : (dues : List Due) × StandsAfter table (is_some s.close) (drained s.core) jobs units (items ++ unwritten_from 0 s.core.stages ++ map answered dues)
      × (map (λ (due : Due). due.text) dues ≡ front_texts s.core.desk)
      × (bytes_of (items ++ unwritten_from 0 s.core.stages ++ map answered dues) ≡ bytes_of items ++ due_bytes s.core)
  stands-drained = laws.drain_stands table (is_some s.close) s.core jobs units items had.stands

  abbrev pub dues : List Due
  dues = stands-drained.0

  abbrev pub all_items : List Item
  all_items = items ++ due_items ++ map answered dues

  answers-many : length (answers_in all_items) ≡ length (answers_in items) + length (front_texts s.core.desk)
  answers-many =
      let split : answers_in all_items ≡ answers_in (items ++ due_items) ++ answers_in (map answered dues) = answers-append (items ++ due_items) (map answered dues) in
      let front : answers_in (items ++ due_items) ≡ answers_in items = answers-append items due_items ∙ ap (λ l. answers_in items ++ l) (unwritten-answers 0 s.core.stages) ∙ append-nil (answers_in items) in
      let sum : length (answers_in (items ++ due_items) ++ answers_in (map answered dues)) ≡ length (answers_in (items ++ due_items)) + length (answers_in (map answered dues)) =
      length-append (answers_in (items ++ due_items)) (answers_in (map answered dues)) in
      let texts : length (answers_in (map answered dues)) ≡ length (front_texts s.core.desk) = ap length (dues-answers dues) ∙ sym (length-texts dues) ∙ ap length stands-drained.2 in
      ap length split ∙ sum ∙ ap (λ l. length l + length (answers_in (map answered dues))) front ∙ ap (λ k. length (answers_in items) + k) texts

  pub drained-bytes : (framing : Framing) → bytes_in framing all_items ≡ bytes_in framing items ++ due_in framing s.core
  drained-bytes framing =
      flat_map-append (λ item. framed framing (item_text item)) (items ++ due_items) (map answered dues)
      ∙ ap (λ l. l ++ bytes_in framing (map answered dues)) (flat_map-append (λ item. framed framing (item_text item)) items due_items)
      ∙ ap (λ l. (bytes_in framing items ++ bytes_in framing due_items) ++ l) (answered-bytes framing dues ∙ ap (flat_map (framed framing)) stands-drained.2)
      ∙ append_assoc (bytes_in framing items) (bytes_in framing due_items) (flat_map (framed framing) (front_texts s.core.desk))

  pub serves-drained : s.has_failed ≡ false → SessionStands table limits units all_items (drained_session s) jobs
  serves-drained well = record {
    table_is = had.table_is;
    limits_are = had.limits_are;
    stands = stands-drained.1;
    messages = ap (λ k. counted (k + count_sendings due_items)) had.messages ∙ counted-more (count_sendings items) (count_sendings due_items)
        ∙ ap counted (sym (counts items due_items dues is_sending (λ d. refl)));
    call_frames = ap (λ k. counted (k + count_calls due_items)) had.call_frames ∙ counted-more (count_calls items) (count_calls due_items)
        ∙ ap counted (sym (counts items due_items dues is_call (λ d. refl)));
    answers = ap (λ k. counted (k + length (front_texts s.core.desk))) had.answers ∙ counted-more (length (answers_in items)) (length (front_texts s.core.desk))
        ∙ ap counted (sym answers-many);
    unbroken = had.unbroken;
    failed = λ still. drained-not s.core.stages (had.failed well);
    polls = had.polls;
    polls_are = had.polls_are;
    polls_fit = λ still. laws.drain_polls table s.core jobs items dues had.polls (had.polls_fit well);
  }
