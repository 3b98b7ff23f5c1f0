-- A handler hears the replies that are on the board.
use Rattle.std.proofs.Common.{◌≡◌, ◌≢◌, ℕ, zero, suc, ◌-◌, ◌==◌, ◌<◌, ◌≤◌, List, [], ◌∷◌, ◌++◌, length, filter, get_or, set, Bool, true, false, cond, not, ◌&&◌, ◌||◌, Option, Some, None, is_some, unwrap_or, ◌⊎◌, inl, inr, refl, sym, ap, subst, ◌∙◌, arith}
use Rattle.std.proofs.lemmas.List.{length-set}
use Rattle.std.specs.Cmp.{unsigned_Decides}
use Rattle.std.specs.Option.{option_map, option_and_then}
use Rattle.rpc_messages.specs.Entry.{SeenEntry}
use Rattle.rpc_messages.specs.Numbering.{numbers_in}
use Rattle.rpc_messages.specs.Replies.{reply_to, replies}
use Rattle.rpc_messages.specs.declared.reply.Reply.{Reply}
use Rattle.rpc_messages.specs.declared.reply.Reply.TheVariants.{Standard}
use Rattle.message_ids.specs.declared.standard.Standard.TheVariants.{NoReply}
use Rattle.method_steps.specs.Steps.{MethodTable}
use Rattle.open_numbers.specs.declared.open_call.OpenCall.{OpenCall}
use Rattle.open_numbers.specs.declared.replies.Slot.{Slot}
use Rattle.open_numbers.specs.declared.replies.Slot.TheVariants.{Empty, Held, Given}
use Rattle.open_numbers.specs.Replies.{slot_at, given_by}
use Rattle.answer_desk.specs.State.{State, number_at, numbers_with, slot_of, with_slot, reply_of, without_reply}
use Rattle.open_numbers.specs.OpenCalls.{is_marked_number}
use Rattle.handler_future.specs.Front.{Heard, find_heard, is_heard, unheard, last_turns}
use Rattle.handler_future.specs.State.{HandlerState, with_heard}
use Rattle.peer_output.specs.Course.{Sending, Course}
use Rattle.peer_output.specs.Later.{IsHeardFrom}
use Rattle.peer_events.specs.Hearing.{Hearing, hear_if, hear_turns, hear_waits}
use Rattle.peer_events.specs.Fits.{SlotFits, RunFits}
use Rattle.peer_events.specs.Inner.Known.{Known}
use Rattle.peer_events.proofs.Streams.{reply-unknown}

-- ---- one more reply was heard

heard_none : (b : Bool) (r : Reply) → is_some (cond b (Some r) None) ≡ b
heard_none true r = refl
heard_none false r = refl

heard_more : (b : Bool) (q : Reply) (o p : Option Reply) (c : Bool) → is_some p ≡ (is_some o || c) → is_some (cond b (Some q) p) ≡ (is_some (cond b (Some q) o) || c)
heard_more true q o p c is = refl
heard_more false q o p c is = is

pub is_heard-push : (heard : Heard) (t : ℕ) (r : Reply) (u : ℕ) → is_heard (heard ++ (t, r) ∷ []) u ≡ (is_heard heard u || (t == u))
is_heard-push [] t r u = heard_none (t == u) r
is_heard-push (e ∷ heard) t r u = heard_more (e.0 == u) e.1 (find_heard heard u) (find_heard (heard ++ (t, r) ∷ []) u) (t == u) (is_heard-push heard t r u)

or-right : (a b : Bool) → b ≡ true → (a || b) ≡ true
or-right true b is = refl
or-right false b is = is

or-left : (a b : Bool) → a ≡ true → (a || b) ≡ true
or-left true b is = refl
or-left false b is = cc

or-none : (a b : Bool) → a ≡ false → b ≡ false → (a || b) ≡ false
or-none true b is other = cc
or-none false b is other = other

pub heard-here : (heard : Heard) (t : ℕ) (r : Reply) → is_heard (heard ++ (t, r) ∷ []) t ≡ true
heard-here heard t r = is_heard-push heard t r t ∙ or-right (is_heard heard t) (t == t) ((unsigned_Decides t t).1 refl)

pub heard-still : (heard : Heard) (t : ℕ) (r : Reply) (u : ℕ) → is_heard heard u ≡ true → is_heard (heard ++ (t, r) ∷ []) u ≡ true
heard-still heard t r u is = is_heard-push heard t r u ∙ or-left (is_heard heard u) (t == u) is

pub unheard-still : (heard : Heard) (t : ℕ) (r : Reply) (u : ℕ) → (t == u) ≡ false → is_heard heard u ≡ false → is_heard (heard ++ (t, r) ∷ []) u ≡ false
unheard-still heard t r u apart is = is_heard-push heard t r u ∙ or-none (is_heard heard u) (t == u) is apart

-- ---- a reply that is known belongs to a call that has come

known_if : (n t : ℕ) (es : List SeenEntry) (r : Reply) → reply_to n t es ≡ Some r → (n ≤ numbers_in es) ⊎ (numbers_in es < n) → n ≤ numbers_in es
known_if n t es r is (inl here) = here
known_if n t es r is (inr later) = absurd (let none : reply_to n t es ≡ None = reply-unknown n t es later in cc)

pub replied-known : (n t : ℕ) (es : List SeenEntry) (r : Reply) → reply_to n t es ≡ Some r → n ≤ numbers_in es
replied-known n t es r is = known_if n t es r is (grind arith)

-- ---- the desk once a reply was taken

number-changed : (numbers : List (Option OpenCall)) (n : ℕ) (change : OpenCall → OpenCall) → get_or (numbers_with numbers n change) n None ≡ option_map change (get_or numbers n None)
number-changed [] n change = refl
number-changed (o ∷ os) zero change = refl
number-changed (o ∷ os) (suc n) change = number-changed os n change

-- an open number once the reply of a turn was taken
abbrev pub with_given : OpenCall → ℕ → OpenCall
with_given number turn = record number { replies = set number.replies (turn - 1) Given }

taken_if : (o : Option Reply) (r : Reply) (s t : State) → o ≡ Some r → cond (is_some o) t s ≡ t
taken_if None r s t is = cc
taken_if (Some q) r s t is = refl

pub without-taken : (desk : State) (n turn : ℕ) (r : Reply) → reply_of desk n turn ≡ Some r → without_reply desk n turn ≡ with_slot desk n turn Given
without-taken desk n turn r is = taken_if (reply_of desk n turn) r desk (with_slot desk n turn Given) is

pub number-given : (desk : State) (n turn : ℕ) (r : Reply) (kept : OpenCall) → reply_of desk n turn ≡ Some r → number_at desk n ≡ Some kept
    → number_at (without_reply desk n turn) n ≡ Some (with_given kept turn)
number-given desk n turn r kept is open_now =
    ap (λ (d : State). number_at d n) (without-taken desk n turn r is)
    ∙ number-changed desk.numbers n (λ (m : OpenCall). with_given m turn)
    ∙ ap (option_map (λ (m : OpenCall). with_given m turn)) open_now

-- nothing else changes
pub left_if : (desk : State) (n turn : ℕ) (b : Bool)
    → ((cond b (with_slot desk n turn Given) desk).is_closed ≡ desk.is_closed) × ((cond b (with_slot desk n turn Given) desk).units ≡ desk.units)
    × (length (cond b (with_slot desk n turn Given) desk).numbers ≡ length desk.numbers)
left_if desk n turn true = (refl, refl, length-set desk.numbers n (option_map (λ (m : OpenCall). with_given m turn) (get_or desk.numbers n None)))
left_if desk n turn false = (refl, refl, refl)

-- ---- what it hears stands in the stream

module _ (known : Known) where
  heard_from : (is_over is_closed : Bool) (passed : List SeenEntry) (n : ℕ) (h : HandlerState) (turn : ℕ) (slot : Option Slot) (r : Reply)
      → is_closed ≡ is_over → ((s : Slot) → slot ≡ Some s → SlotFits passed n h turn s) → given_by is_closed slot ≡ Some r
      → IsHeardFrom is_over passed n h.heard → IsHeardFrom is_over passed n (h.heard ++ (turn, r) ∷ [])
  heard_from is_over is_closed passed n h turn None r same fits is from = cc
  heard_from is_over is_closed passed n h turn (Some (Held q)) r same fits is from =
      let found : reply_to n turn passed ≡ Some r = (fits (Held q) refl).0 ∙ is in
      known.hears_reply is_over passed n turn h.heard r (replied-known n turn passed r found) from found
  heard_from is_over true passed n h turn (Some Empty) r same fits is from =
      let none : replies passed n turn ≡ r = ap (λ (o : Option Reply). unwrap_or o (Standard NoReply)) (fits Empty refl).0 ∙ (cc) in
      subst (λ b. IsHeardFrom b passed n (h.heard ++ (turn, r) ∷ [])) same
      (subst (λ q. IsHeardFrom true passed n (h.heard ++ (turn, q) ∷ [])) none
      (known.hears_at_the_end passed n turn h.heard (subst (λ b. IsHeardFrom b passed n h.heard) (sym same) from)))
  heard_from is_over false passed n h turn (Some Empty) r same fits is from = cc
  heard_from is_over is_closed passed n h turn (Some Given) r same fits is from = cc

  -- ---- its slots fit again

  slot_other : (passed : List SeenEntry) (n : ℕ) (h : HandlerState) (turn : ℕ) (r : Reply) (t : ℕ) (slot : Slot) → (turn == t) ≡ false
      → SlotFits passed n h t slot → SlotFits passed n (with_heard h turn r) t slot
  slot_other passed n h turn r t Empty apart fits = (fits.0, unheard-still h.heard turn r t apart fits.1)
  slot_other passed n h turn r t (Held q) apart fits = (fits.0, unheard-still h.heard turn r t apart fits.1)
  slot_other passed n h turn r t Given apart fits = heard-still h.heard turn r t fits

  slot_here : (passed : List SeenEntry) (n : ℕ) (h : HandlerState) (turn : ℕ) (r : Reply) (slot : Slot) → slot ≡ Given
      → SlotFits passed n (with_heard h turn r) turn slot
  slot_here passed n h turn r slot is = subst (SlotFits passed n (with_heard h turn r) turn) (sym is) (heard-here h.heard turn r)

  module _ (desk : State) (passed : List SeenEntry) (n : ℕ) (h : HandlerState) (turn : ℕ) (r : Reply) (kept : OpenCall)
      (is : reply_of desk n turn ≡ Some r) (open_now : number_at desk n ≡ Some kept)
      (fits : (t : ℕ) (slot : Slot) → slot_at kept.replies t ≡ Some slot → SlotFits passed n h t slot) where
    slot_seen : (t : ℕ) → slot_of (without_reply desk n turn) n t ≡ slot_at (with_given kept turn).replies t
    slot_seen t = ap (option_and_then (λ (m : OpenCall). slot_at m.replies t)) (number-given desk n turn r kept is open_now)

    slots_if : (t : ℕ) (slot : Slot) (hit : Bool) → (turn == t) ≡ hit → slot_at (with_given kept turn).replies t ≡ Some slot
        → SlotFits passed n (with_heard h turn r) t slot
    slots_if t slot true hit at =
        let same : turn ≡ t = (unsigned_Decides turn t).0 hit in
        let given : slot_of (without_reply desk n turn) n turn ≡ Some Given = known.given_slot desk n turn r is in
        let seen : slot_of (without_reply desk n turn) n turn ≡ slot_at (with_given kept turn).replies turn = slot_seen turn in
        let at_turn : slot_at (with_given kept turn).replies turn ≡ Some slot = subst (λ u. slot_at (with_given kept turn).replies u ≡ Some slot) (sym same) at in
        subst (λ u. SlotFits passed n (with_heard h turn r) u slot) same (slot_here passed n h turn r slot (cc))
    slots_if t slot false hit at =
        let apart : t ≢ turn = λ same. absurd (let hits : (turn == t) ≡ true = (unsigned_Decides turn t).1 (sym same) in cc) in
        let was : slot_of desk n t ≡ slot_at kept.replies t = ap (option_and_then (λ (m : OpenCall). slot_at m.replies t)) open_now in
        slot_other passed n h turn r t slot hit (fits t slot (sym was ∙ sym (known.given_other_slot desk n turn t apart) ∙ slot_seen t ∙ at))

    slots_again : (t : ℕ) (slot : Slot) → slot_at (with_given kept turn).replies t ≡ Some slot → SlotFits passed n (with_heard h turn r) t slot
    slots_again t slot at = slots_if t slot (turn == t) refl at

  -- ---- one turn

  module _ (table : MethodTable) (is_over : Bool) (entries passed : List SeenEntry) (sends : List Sending) (took : Option Course) where
    step-fits : (desk : State) (n : ℕ) (h : HandlerState) (turn : ℕ) (o : Option Reply) → reply_of desk n turn ≡ o → desk.is_closed ≡ is_over
        → RunFits table is_over entries passed n h (number_at desk n) sends took
        → RunFits table is_over entries passed n (hear_if h turn o) (number_at (without_reply desk n turn) n) sends took
    step-fits desk n h turn None is closed fits =
        subst (λ (d : State). RunFits table is_over entries passed n h (number_at d n) sends took) (sym (known.given_none desk n turn is)) fits
    step-fits desk n h turn (Some r) is closed fits = record {
      number = fits.number;
      works = fits.works;
      heard = heard_from is_over desk.is_closed passed n h turn (slot_at fits.kept.replies turn) r closed (λ s at. fits.fits.slots turn s at)
          (ap (given_by desk.is_closed) (sym (ap (option_and_then (λ (m : OpenCall). slot_at m.replies turn)) fits.is_open)) ∙ is) fits.heard;
      sends_are = fits.sends_are;
      unfinished = fits.unfinished;
      kept = with_given fits.kept turn;
      is_open = number-given desk n turn r fits.kept is fits.is_open;
      fits = record {
        id = fits.fits.id;
        mark = fits.fits.mark;
        turns = length-set fits.kept.replies (turn - 1) Given ∙ fits.fits.turns;
        slots = slots_again desk passed n h turn r fits.kept is fits.is_open fits.fits.slots;
      };
    }

  -- ---- several turns

  same_number : (h : HandlerState) (turn : ℕ) (o : Option Reply) → (hear_if h turn o).number ≡ h.number
  same_number h turn None = refl
  same_number h turn (Some r) = refl

  module _ (table : MethodTable) (is_over : Bool) (entries passed : List SeenEntry) (sends : List Sending) (took : Option Course) (n : ℕ) where
    pub turns-fit : (turns : List ℕ) (desk : State) (h : HandlerState) → desk.is_closed ≡ is_over
        → RunFits table is_over entries passed n h (number_at desk n) sends took
        → RunFits table is_over entries passed n (hear_turns desk h turns).handler (number_at (hear_turns desk h turns).desk n) sends took
    turns-fit [] desk h closed fits = fits
    turns-fit (turn ∷ turns) desk h closed fits =
        turns-fit turns (without_reply desk h.number turn) (hear_if h turn (reply_of desk h.number turn))
        ((left_if desk h.number turn (is_some (reply_of desk h.number turn))).0 ∙ closed)
        (subst (λ m. RunFits table is_over entries passed n (hear_if h turn (reply_of desk m turn)) (number_at (without_reply desk m turn) n) sends took) (sym fits.number)
        (step-fits table is_over entries passed sends took desk n h turn (reply_of desk n turn) refl closed fits))

    pub waits-fit : (desk : State) (h : HandlerState) → desk.is_closed ≡ is_over
        → RunFits table is_over entries passed n h (number_at desk n) sends took
        → RunFits table is_over entries passed n (hear_waits desk h).handler (number_at (hear_waits desk h).desk n) sends took
    waits-fit desk h closed fits = turns-fit h.waits desk h closed fits

-- ---- what stays as it was

same_mark : (o : Option OpenCall) (turn : ℕ) → option_map (λ (m : OpenCall). m.is_marked) (option_map (λ (m : OpenCall). with_given m turn) o) ≡ option_map (λ (m : OpenCall). m.is_marked) o
same_mark None turn = refl
same_mark (Some m) turn = refl

mark_if : (desk : State) (n turn : ℕ) (b : Bool)
    → option_map (λ (m : OpenCall). m.is_marked) (number_at (cond b (with_slot desk n turn Given) desk) n) ≡ option_map (λ (m : OpenCall). m.is_marked) (number_at desk n)
mark_if desk n turn true =
    ap (option_map (λ (m : OpenCall). m.is_marked)) (number-changed desk.numbers n (λ (m : OpenCall). with_given m turn)) ∙ same_mark (number_at desk n) turn
mark_if desk n turn false = refl

-- a handler that has heard some of these turns, and the desk
pub record HasHeard (n : ℕ) (desk : State) (h : HandlerState) (after : Hearing) : Type 0 where
  pub number : after.handler.number ≡ h.number
  pub program : after.handler.program ≡ h.program
  pub messages : after.handler.messages ≡ h.messages
  pub others : (k : ℕ) → k ≢ n → number_at after.desk k ≡ number_at desk k
  pub mark : option_map (λ (m : OpenCall). m.is_marked) (number_at after.desk n) ≡ option_map (λ (m : OpenCall). m.is_marked) (number_at desk n)
  pub closed : after.desk.is_closed ≡ desk.is_closed
  pub units : after.desk.units ≡ desk.units
  pub numbers : length after.desk.numbers ≡ length desk.numbers

handler_stays : (h : HandlerState) (turn : ℕ) (o : Option Reply) → ((hear_if h turn o).program ≡ h.program) × ((hear_if h turn o).messages ≡ h.messages)
handler_stays h turn None = (refl, refl)
handler_stays h turn (Some r) = (refl, refl)

number_stays : (h : HandlerState) (turn : ℕ) (o : Option Reply) → (hear_if h turn o).number ≡ h.number
number_stays h turn None = refl
number_stays h turn (Some r) = refl

module _ (known : Known) where
  pub turns-heard : (turns : List ℕ) (n : ℕ) (desk : State) (h : HandlerState) → h.number ≡ n → HasHeard n desk h (hear_turns desk h turns)
  turns-heard [] n desk h is = record { number = refl; program = refl; messages = refl; others = λ k apart. refl; mark = refl; closed = refl; units = refl; numbers = refl }
  turns-heard (turn ∷ turns) n desk h is =
      let o = reply_of desk h.number turn in
      let d = without_reply desk h.number turn in
      let later = turns-heard turns n d (hear_if h turn o) (number_stays h turn o ∙ is) in
      let stays = left_if desk h.number turn (is_some o) in
      record {
        number = later.number ∙ number_stays h turn o;
        program = later.program ∙ (handler_stays h turn o).0;
        messages = later.messages ∙ (handler_stays h turn o).1;
        others = λ k apart. later.others k apart ∙ known.given_elsewhere desk h.number turn k (λ same. apart (same ∙ is));
        mark = later.mark ∙ subst (λ m. option_map (λ (x : OpenCall). x.is_marked) (number_at d m) ≡ option_map (λ (x : OpenCall). x.is_marked) (number_at desk m)) is (mark_if desk h.number turn (is_some o));
        closed = later.closed ∙ stays.0;
        units = later.units ∙ stays.1;
        numbers = later.numbers ∙ stays.2;
      }

  pub waits-heard : (desk : State) (h : HandlerState) → HasHeard h.number desk h (hear_waits desk h)
  waits-heard desk h = turns-heard h.waits h.number desk h refl

-- what its mark says
pub same-marked : (o p : Option OpenCall) → option_map (λ (m : OpenCall). m.is_marked) o ≡ option_map (λ (m : OpenCall). m.is_marked) p → is_marked_number o ≡ is_marked_number p
same-marked None None same = refl
same-marked None (Some q) same = cc
same-marked (Some m) None same = cc
same-marked (Some m) (Some q) same = cc

-- ---- what it waits for

-- all that it waits for are calls of its last message
pub record WaitsForLast (h : HandlerState) : Type 0 where
  pub waits : h.waits ≡ unheard h.heard (last_turns h.messages)

filter_if : (x : ℕ) (b c : Bool) (xs ys : List ℕ) (p : ℕ → Bool) → p x ≡ c → filter p xs ≡ ys → filter p (cond b (x ∷ xs) xs) ≡ cond (b && c) (x ∷ ys) ys
filter_if x true true xs ys p is same = ap (λ d. cond d (x ∷ filter p xs) (filter p xs)) is ∙ ap (λ l. x ∷ l) same
filter_if x true false xs ys p is same = ap (λ d. cond d (x ∷ filter p xs) (filter p xs)) is ∙ same
filter_if x false c xs ys p is same = same

pub filter-filter : (p q : ℕ → Bool) (xs : List ℕ) → filter p (filter q xs) ≡ filter (λ u. q u && p u) xs
filter-filter p q [] = refl
filter-filter p q (x ∷ xs) = filter_if x (q x) (p x) (filter q xs) (filter (λ u. q u && p u) xs) p refl (filter-filter p q xs)

pub filter-same : (p q : ℕ → Bool) (xs : List ℕ) → ((u : ℕ) → p u ≡ q u) → filter p xs ≡ filter q xs
filter-same p q xs same = λ i. filter (λ u. same u i) xs

pub turned_test : (a b : ℕ) (hit : Bool) → (a == b) ≡ hit → (b == a) ≡ hit
turned_test a b true is = (unsigned_Decides b a).1 (sym ((unsigned_Decides a b).0 is))
turned_test a b false is = apart_back (b == a) refl
  where
    apart_back : (back : Bool) → (b == a) ≡ back → back ≡ false
    apart_back true other = absurd (let hit : (a == b) ≡ true = (unsigned_Decides a b).1 (sym ((unsigned_Decides b a).0 other)) in cc)
    apart_back false other = refl

neither : (a b : Bool) → (not a && not b) ≡ not (a || b)
neither true b = refl
neither false b = refl

unheard-push : (heard : Heard) (t : ℕ) (r : Reply) (xs : List ℕ) → filter (λ u. not (u == t)) (unheard heard xs) ≡ unheard (heard ++ (t, r) ∷ []) xs
unheard-push heard t r xs =
    filter-filter (λ u. not (u == t)) (λ u. not (is_heard heard u)) xs
    ∙ filter-same (λ u. not (is_heard heard u) && not (u == t)) (λ u. not (is_heard (heard ++ (t, r) ∷ []) u)) xs
    (λ u. neither (is_heard heard u) (u == t) ∙ ap (λ b. not (is_heard heard u || b)) (sym (turned_test u t (u == t) refl) ∙ refl) ∙ ap not (sym (is_heard-push heard t r u)))

last_if : (h : HandlerState) (turn : ℕ) (o : Option Reply) → WaitsForLast h → WaitsForLast (hear_if h turn o)
last_if h turn None last = last
last_if h turn (Some r) last = record {
  waits = ap (filter (λ u. not (u == turn))) last.waits ∙ unheard-push h.heard turn r (last_turns h.messages);
}

pub turns-last : (turns : List ℕ) (desk : State) (h : HandlerState) → WaitsForLast h → WaitsForLast (hear_turns desk h turns).handler
turns-last [] desk h last = last
turns-last (turn ∷ turns) desk h last =
    turns-last turns (without_reply desk h.number turn) (hear_if h turn (reply_of desk h.number turn)) (last_if h turn (reply_of desk h.number turn) last)
