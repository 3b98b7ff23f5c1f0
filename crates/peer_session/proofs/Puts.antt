-- What is put behind bytes, and counted; and what is noted of it.
use Rattle.std.proofs.Common.{◌≡◌, ℕ, zero, suc, ◌+◌, ◌-◌, ◌^◌, ◌<◌, ◌≤◌, min, max, List, [], ◌∷◌, ◌++◌, length, map, take, drop, get_or, set, slice_get, Bool, true, false, cond, Some, None, refl, sym, ap, subst, ◌∙◌, append_assoc, append-nil, arith, length-append}
use Rattle.std.proofs.Math.Seq.{map-set_same}
use Rattle.std.proofs.lemmas.Bool.{ltb-false, le-ltb}
use Rattle.std.proofs.lemmas.Grind.{flat_map-append}
use Rattle.std.proofs.lemmas.List.{map-append, length-map, drop-map, drop_all, take_more}
use Rattle.std.proofs.lemmas.List.Sums.{sum_by-append}
use Rattle.std.proofs.lemmas.Option.{slice_get_within, get_or_from_slice_get}
use Rattle.std.specs.List.{count_by}
use Rattle.answer_desk.specs.State.{State, front_texts, without_front}
use Rattle.handler_future.specs.declared.message.Message.{Message}
use Rattle.handler_future.specs.State.{HandlerState}
use Rattle.peer_events.specs.declared.stage.Stage.{Stage}
use Rattle.peer_events.specs.declared.stage.Stage.TheVariants.{Gone, Faulty, Idle, Out, Over, Failed}
use Rattle.peer_output.specs.Course.{message, withdrawal}
use Rattle.peer_output.specs.Items.{Item, sent, item_text, count_sendings, count_calls, is_sending, is_call}
use Rattle.peer_events.specs.Core.{Core, stage_at, with_stage, unwritten, unwritten_from}
use Rattle.peer_events.specs.Turning.{written_stage}
use Rattle.stream_framing.specs.Framed.{framed}
use Rattle.stream_framing.specs.declared.framing.Framing.{Framing}
use Rattle.peer_session.specs.Framings.{bytes_in}
use Rattle.peer_session.specs.declared.writing.Written.{Written}
use Rattle.session_runs.specs.Runs.{NothingDue, StageFits, has_unwritten, unwritten_numbers_from, unwritten_numbers, unwritten_of}
use Rattle.peer_session.specs.Inner.Writing.{Counts, CountsOn}
use Rattle.peer_session.specs.SessionState.{counted}

-- ---- counts

min-on : (a b m : ℕ) → min (min a m + min b m) m ≡ min (a + b) m
min-on a b m = omega arith

pub counted-on : (a b : ℕ) → counted (counted a + counted b) ≡ counted (a + b)
counted-on a b = min-on a b (2 ^ 64 - 1)

count_by-append : {X : Type 0} (p : X → Bool) (xs ys : List X) → count_by p (xs ++ ys) ≡ count_by p xs + count_by p ys
count_by-append p xs ys = sum_by-append (λ x. cond (p x) 1 0) xs ys

pub counts-on : (first more all : Written) (xs ys : List Item) → Counts first xs → Counts more ys → CountsOn first more all → Counts all (xs ++ ys)
counts-on first more all xs ys f g h = record {
  messages = h.messages ∙ ap counted (ap (λ k. k + more.messages) f.messages ∙ ap (λ k. counted (count_sendings xs) + k) g.messages)
      ∙ counted-on (count_sendings xs) (count_sendings ys) ∙ ap counted (sym (count_by-append is_sending xs ys));
  call_frames = h.call_frames ∙ ap counted (ap (λ k. k + more.call_frames) f.call_frames ∙ ap (λ k. counted (count_calls xs) + k) g.call_frames)
      ∙ counted-on (count_calls xs) (count_calls ys) ∙ ap counted (sym (count_by-append is_call xs ys));
}

pub counts-nothing : Counts (record { messages = 0; call_frames = 0; answers = 0 }) []
counts-nothing = record { messages = refl; call_frames = refl }

-- ---- bytes

pub bytes-on : (framing : Framing) (xs ys : List Item) → bytes_in framing (xs ++ ys) ≡ bytes_in framing xs ++ bytes_in framing ys
bytes-on framing xs ys = flat_map-append (λ item. framed framing (item_text item)) xs ys

pub put-on : (framing : Framing) (before between after : List ℕ) (xs ys : List Item) → between ≡ before ++ bytes_in framing xs → after ≡ between ++ bytes_in framing ys
    → after ≡ before ++ bytes_in framing (xs ++ ys)
put-on framing before between after xs ys p q =
    q ∙ ap (λ l. l ++ bytes_in framing ys) p ∙ append_assoc before (bytes_in framing xs) (bytes_in framing ys) ∙ ap (λ l. before ++ l) (sym (bytes-on framing xs ys))

-- one item
pub one-put : (framing : Framing) (before text : List ℕ) (item : Item) → text ≡ item_text item → before ++ framed framing text ≡ before ++ bytes_in framing (item ∷ [])
one-put framing before text item is =
    ap (λ t. before ++ framed framing t) is ∙ ap (λ l. before ++ l) (sym (append-nil (framed framing (item_text item))))

-- one more of a list
pub map-more : {X Y : Type 0} (f : X → Y) (xs : List X) (i : ℕ) (x : X) → take (i + 1) xs ≡ take i xs ++ x ∷ [] → map f (take (i + 1) xs) ≡ map f (take i xs) ++ f x ∷ []
map-more f xs i x is = ap (map f) is ∙ map-append f (take i xs) (x ∷ [])

-- ---- of one number

pub drop-append : {X : Type 0} (n : ℕ) (xs ys : List X) → drop n (xs ++ ys) ≡ drop n xs ++ drop (n - length xs) ys
drop-append zero xs ys = ap (λ k. xs ++ drop k ys) (let here : 0 ≡ 0 - length xs = omega arith in here)
drop-append (suc n) [] ys = ap (λ k. drop k ys) (let here : suc n ≡ suc n - 0 = omega arith in here)
drop-append (suc n) (x ∷ xs) ys = drop-append n xs ys ∙ ap (λ k. drop n xs ++ drop k ys) (let here : n - length xs ≡ suc n - suc (length xs) = omega arith in here)

pub over-unwritten : (h : HandlerState) (so_far : ℕ) → unwritten (Over h so_far) ≡ map message (drop so_far h.messages) ++ map withdrawal (drop (so_far - length h.messages) h.waits)
over-unwritten h so_far =
    drop-append so_far (map message h.messages) (map withdrawal h.waits)
    ∙ ap (λ l. l ++ drop (so_far - length (map message h.messages)) (map withdrawal h.waits)) (drop-map message so_far h.messages)
    ∙ ap (λ k. map message (drop so_far h.messages) ++ drop (so_far - k) (map withdrawal h.waits)) (length-map h.messages message)
    ∙ ap (λ l. map message (drop so_far h.messages) ++ l) (drop-map withdrawal (so_far - length h.messages) h.waits)

-- ---- items of one number

pub idle-items : (n : ℕ) (h : HandlerState) (so_far : ℕ) (stage : Stage) (messages : List Message) → stage ≡ Idle h so_far → messages ≡ drop so_far h.messages
    → map (sent n) (map message messages) ≡ map (sent n) (unwritten stage)
idle-items n h so_far stage messages is same =
    ap (λ l. map (sent n) (map message l)) same ∙ ap (map (sent n)) (sym (drop-map message so_far h.messages) ∙ ap unwritten (sym is))

pub over-items : (n : ℕ) (h : HandlerState) (so_far : ℕ) (stage : Stage) (messages : List Message) (turns : List ℕ) → stage ≡ Over h so_far
    → messages ≡ drop so_far h.messages → turns ≡ drop (so_far - length h.messages) h.waits
    → map (sent n) (map message messages) ++ map (sent n) (map withdrawal turns) ≡ map (sent n) (unwritten stage)
over-items n h so_far stage messages turns is same others =
    ap (λ l. map (sent n) (map message l) ++ map (sent n) (map withdrawal turns)) same
    ∙ ap (λ l. map (sent n) (map message (drop so_far h.messages)) ++ map (sent n) (map withdrawal l)) others
    ∙ sym (map-append (sent n) (map message (drop so_far h.messages)) (map withdrawal (drop (so_far - length h.messages) h.waits)))
    ∙ ap (map (sent n)) (sym (over-unwritten h so_far) ∙ ap unwritten (sym is))

-- ---- withdrawals are counted

withdrawn : (n : ℕ) (turns : List ℕ) → count_sendings (map (sent n) (map withdrawal turns)) ≡ length turns
withdrawn n [] = refl
withdrawn n (t ∷ turns) =
    count_by-append is_sending (sent n (withdrawal t) ∷ []) (map (sent n) (map withdrawal turns)) ∙ ap (λ k. 1 + k) (withdrawn n turns) ∙ (let one : 1 + length turns ≡ suc (length turns) = omega arith in one)

no_calls : (n : ℕ) (turns : List ℕ) → count_calls (map (sent n) (map withdrawal turns)) ≡ 0
no_calls n [] = refl
no_calls n (t ∷ turns) = count_by-append is_call (sent n (withdrawal t) ∷ []) (map (sent n) (map withdrawal turns)) ∙ ap (λ k. 0 + k) (no_calls n turns)

small : (n m : ℕ) → n ≤ m → n ≡ min n m
small n m few = omega arith

pub withdrawn-counts : (n : ℕ) (turns : List ℕ) → length turns ≤ 2 ^ 64 - 1
    → Counts (record { messages = length turns; call_frames = 0; answers = 0 }) (map (sent n) (map withdrawal turns))
withdrawn-counts n turns few = record {
  messages = small (length turns) (2 ^ 64 - 1) few ∙ ap counted (sym (withdrawn n turns));
  call_frames = ap counted (sym (no_calls n turns));
}
