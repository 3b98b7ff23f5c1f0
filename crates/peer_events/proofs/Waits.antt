-- What a handler waits for once it has heard: the calls whose reply isn't there.
use Rattle.std.proofs.Common.{◌≡◌, ◌≢◌, ℕ, ◌-◌, ◌==◌, ◌<◌, ◌≤◌, List, [], ◌∷◌, length, filter, All, Bool, true, false, cond, not, ◌&&◌, ◌||◌, Option, Some, None, is_some, slice_get, inl, inr, refl, sym, ap, subst, ◌∙◌, arith}
use Rattle.std.proofs.lemmas.List.Elements.{All-nil, All-cons, All-head, All-tail}
use Rattle.std.proofs.lemmas.Option.{slice_get-get_or}
use Rattle.std.specs.Cmp.{unsigned_Decides}
use Rattle.std.specs.List.{list_any, list_all}
use Rattle.std.specs.Option.{option_and_then}
use Rattle.rpc_messages.specs.Entry.{SeenEntry}
use Rattle.rpc_messages.specs.declared.reply.Reply.{Reply}
use Rattle.method_templates.specs.Steps.{calls_of}
use Rattle.method_steps.specs.Steps.{MethodTable}
use Rattle.open_numbers.specs.declared.open_call.OpenCall.{OpenCall}
use Rattle.open_numbers.specs.declared.replies.Slot.{Slot}
use Rattle.open_numbers.specs.declared.replies.Slot.TheVariants.{Empty, Held, Given}
use Rattle.open_numbers.specs.Replies.{slot_at, given_by}
use Rattle.answer_desk.specs.State.{State, number_at, slot_of, reply_of, without_reply}
use Rattle.handler_future.specs.Front.{Heard, is_heard, unheard, last_turns}
use Rattle.handler_future.specs.State.{HandlerState, with_heard}
use Rattle.peer_output.specs.Course.{Sending, Course}
use Rattle.peer_events.specs.Hearing.{hear_if, hear_turns, hear_waits, is_ready}
use Rattle.peer_events.specs.Fits.{SlotFits, RunFits, IsAtRest}
use Rattle.peer_events.specs.Inner.Known.{Known}
use Rattle.peer_events.proofs.Hears.{WaitsForLast, filter-filter, filter-same, turned_test, left_if}

abbrev is_in : ℕ → List ℕ → Bool
is_in u turns = list_any (λ t. t == u) turns

-- whether the reply of a turn is there
abbrev pub has_reply : State → ℕ → ℕ → Bool
has_reply desk n u = is_some (reply_of desk n u)

-- ---- the other turns

module _ (known : Known) where
  reply_other : (desk : State) (n turn u : ℕ) → u ≢ turn → reply_of (without_reply desk n turn) n u ≡ reply_of desk n u
  reply_other desk n turn u apart =
      ap (λ b. given_by b (slot_of (without_reply desk n turn) n u)) (left_if desk n turn (is_some (reply_of desk n turn))).0
      ∙ ap (given_by desk.is_closed) (known.given_other_slot desk n turn u apart)

  and_none : (a x : Bool) → x ≡ false → (a && x) ≡ false
  and_none true x is = is
  and_none false x is = refl

  none_there : (a x b : Bool) → (b ≡ true → x ≡ false) → not (a && x) ≡ not ((b || a) && x)
  none_there a x true none = ap not (and_none a x (none refl) ∙ sym (none refl))
  none_there a x false none = refl

  some_there : (a x later b c : Bool) → c ≡ b → (b ≡ true → x ≡ true) → (b ≡ false → later ≡ x) → (not c && not (a && later)) ≡ not ((b || a) && x)
  some_there a x later true c same there other = ap (λ k. not k && not (a && later)) same ∙ ap not (sym (there refl))
  some_there a x later false c same there other = ap (λ k. not k && not (a && later)) same ∙ ap (λ k. not (a && k)) (other refl)

  one_turn : (turn : ℕ) (turns : List ℕ) (desk : State) (h : HandlerState) (o : Option Reply) → reply_of desk h.number turn ≡ o
      → ((d : State) (g : HandlerState) → (hear_turns d g turns).handler.waits ≡ filter (λ u. not (is_in u turns && has_reply d g.number u)) g.waits)
      → (hear_turns (without_reply desk h.number turn) (hear_if h turn o) turns).handler.waits
      ≡ filter (λ u. not (((turn == u) || is_in u turns) && has_reply desk h.number u)) h.waits
  one_turn turn turns desk h None is rest =
      ap (λ (d : State). (hear_turns d h turns).handler.waits) (known.given_none desk h.number turn is)
      ∙ rest desk h
      ∙ filter-same (λ u. not (is_in u turns && has_reply desk h.number u)) (λ u. not (((turn == u) || is_in u turns) && has_reply desk h.number u)) h.waits
      (λ u. none_there (is_in u turns) (has_reply desk h.number u) (turn == u)
      (λ hit. subst (λ k. has_reply desk h.number k ≡ false) ((unsigned_Decides turn u).0 hit) (ap is_some is)))
  one_turn turn turns desk h (Some r) is rest =
      rest (without_reply desk h.number turn) (with_heard h turn r)
      ∙ filter-filter (λ u. not (is_in u turns && has_reply (without_reply desk h.number turn) h.number u)) (λ u. not (u == turn)) h.waits
      ∙ filter-same (λ u. not (u == turn) && not (is_in u turns && has_reply (without_reply desk h.number turn) h.number u))
      (λ u. not (((turn == u) || is_in u turns) && has_reply desk h.number u)) h.waits
      (λ u. some_there (is_in u turns) (has_reply desk h.number u) (has_reply (without_reply desk h.number turn) h.number u) (turn == u) (u == turn)
      (turned_test turn u (turn == u) refl)
      (λ hit. subst (λ k. has_reply desk h.number k ≡ true) ((unsigned_Decides turn u).0 hit) (ap is_some is))
      (λ miss. ap is_some (reply_other desk h.number turn u (λ same. absurd (let hit : (turn == u) ≡ true = (unsigned_Decides turn u).1 (sym same) in cc)))))

  filter-all : (xs : List ℕ) → filter (λ u. true) xs ≡ xs
  filter-all [] = refl
  filter-all (x ∷ xs) = ap (λ l. x ∷ l) (filter-all xs)

  turns-wait : (turns : List ℕ) (desk : State) (h : HandlerState)
      → (hear_turns desk h turns).handler.waits ≡ filter (λ u. not (is_in u turns && has_reply desk h.number u)) h.waits
  turns-wait [] desk h = sym (filter-all h.waits)
  turns-wait (turn ∷ turns) desk h = one_turn turn turns desk h (reply_of desk h.number turn) refl (turns-wait turns)

  -- ---- of all that it waits for

  kept_if : (x : ℕ) (xs ys : List ℕ) (a b : Bool) → a ≡ b → xs ≡ ys → cond a (x ∷ xs) xs ≡ cond b (x ∷ ys) ys
  kept_if x xs ys a b same rest = ap (λ c. cond c (x ∷ xs) xs) same ∙ ap (λ l. cond b (x ∷ l) l) rest

  or-on_right : (a b : Bool) → b ≡ true → (a || b) ≡ true
  or-on_right true b is = refl
  or-on_right false b is = is

  or-on_left : (a b : Bool) → a ≡ true → (a || b) ≡ true
  or-on_left true b is = refl
  or-on_left false b is = cc

  filter-in : (p q : ℕ → Bool) (xs : List ℕ) → ((u : ℕ) → is_in u xs ≡ true → p u ≡ q u) → filter p xs ≡ filter q xs
  filter-in p q [] same = refl
  filter-in p q (x ∷ xs) same =
      kept_if x (filter p xs) (filter q xs) (p x) (q x) (same x (or-on_left (x == x) (is_in x xs) ((unsigned_Decides x x).1 refl)))
      (filter-in p q xs (λ u is. same u (or-on_right (x == u) (is_in u xs) is)))

  pub waits-left : (desk : State) (h : HandlerState) → (hear_waits desk h).handler.waits ≡ filter (λ u. not (has_reply desk h.number u)) h.waits
  waits-left desk h =
      turns-wait h.waits desk h
      ∙ filter-in (λ u. not (is_in u h.waits && has_reply desk h.number u)) (λ u. not (has_reply desk h.number u)) h.waits
      (λ u is. ap (λ b. not (b && has_reply desk h.number u)) is)

  -- ---- where it is ready

  and_first : (a b : Bool) → (a && b) ≡ true → a ≡ true
  and_first true b is = refl
  and_first false b is = is

  and_second : (a b : Bool) → (a && b) ≡ true → b ≡ true
  and_second true b is = is
  and_second false b is = cc

  none-left : (has : ℕ → Bool) (xs : List ℕ) → list_all has xs ≡ true → filter (λ u. not (has u)) xs ≡ []
  none-left has [] all = refl
  none-left has (x ∷ xs) all =
      ap (λ b. cond (not b) (x ∷ filter (λ u. not (has u)) xs) (filter (λ u. not (has u)) xs)) (and_first (has x) (list_all has xs) all)
      ∙ none-left has xs (and_second (has x) (list_all has xs) all)

  pub ready-hears_all : (desk : State) (h : HandlerState) → is_ready desk h ≡ true → (hear_waits desk h).handler.waits ≡ []
  ready-hears_all desk h ready = waits-left desk h ∙ none-left (has_reply desk h.number) h.waits ready

-- ---- once the board is closed, it is ready

unheard_if : (heard : Heard) (x : ℕ) (xs : List ℕ) (b : Bool) → is_heard heard x ≡ b → All (λ t. is_heard heard t ≡ false) xs
    → All (λ t. is_heard heard t ≡ false) (cond (not b) (x ∷ xs) xs)
unheard_if heard x xs true is all = all
unheard_if heard x xs false is all = All-cons (λ t. is_heard heard t ≡ false) x xs is all

pub unheard-all : (heard : Heard) (xs : List ℕ) → All (λ t. is_heard heard t ≡ false) (unheard heard xs)
unheard-all heard [] = All-nil (λ t. is_heard heard t ≡ false)
unheard-all heard (x ∷ xs) = unheard_if heard x (unheard heard xs) (is_heard heard x) refl (unheard-all heard xs)

turn_if : (slots : List Slot) (turn : ℕ) (b : Bool) → (turn == 0) ≡ b → 1 ≤ turn → turn ≤ length slots
    → (slot : Slot) × (cond b None (slice_get slots (turn - 1)) ≡ Some slot)
turn_if slots turn true is low high = absurd (let zero_turn : turn ≡ 0 = (unsigned_Decides turn 0).0 is in omega arith)
turn_if slots turn false is low high = let within : turn - 1 < length slots = omega arith in (_, slice_get-get_or slots (turn - 1) Given within)

pub slot_there : (slots : List Slot) (turn : ℕ) → 1 ≤ turn → turn ≤ length slots → (slot : Slot) × (slot_at slots turn ≡ Some slot)
slot_there slots turn low high = turn_if slots turn (turn == 0) refl low high

gives_if : (passed : List SeenEntry) (n : ℕ) (h : HandlerState) (turn : ℕ) (slot : Slot) → SlotFits passed n h turn slot → is_heard h.heard turn ≡ false
    → is_some (given_by true (Some slot)) ≡ true
gives_if passed n h turn Empty fits unheard_yet = refl
gives_if passed n h turn (Held r) fits unheard_yet = refl
gives_if passed n h turn Given fits unheard_yet = cc

module _ (table : MethodTable) (is_over : Bool) (entries passed : List SeenEntry) (n : ℕ) (h : HandlerState) (desk : State) (sends : List Sending) (took : Option Course)
    (fits : RunFits table is_over entries passed n h (number_at desk n) sends took) (closed : desk.is_closed ≡ true) where
  there : (turn : ℕ) → is_heard h.heard turn ≡ false → 1 ≤ turn → turn ≤ calls_of h.program.steps → has_reply desk h.number turn ≡ true
  there turn unheard_yet low high =
      let turns = fits.fits.turns in
      let slot = slot_there fits.kept.replies turn low (omega arith) in
      ap (λ b. is_some (given_by b (slot_of desk h.number turn))) closed
      ∙ ap (λ m. is_some (given_by true (slot_of desk m turn))) fits.number
      ∙ ap (λ o. is_some (given_by true (option_and_then (λ (m : OpenCall). slot_at m.replies turn) o))) fits.is_open
      ∙ ap (λ o. is_some (given_by true o)) slot.1
      ∙ gives_if passed n h turn slot.0 (fits.fits.slots turn slot.0 slot.1) unheard_yet

  all_there : (xs : List ℕ) → All (λ t. is_heard h.heard t ≡ false) xs → All (λ t. (1 ≤ t) × (t ≤ calls_of h.program.steps)) xs
      → list_all (has_reply desk h.number) xs ≡ true
  all_there [] unheard_yet within = refl
  all_there (x ∷ xs) unheard_yet within =
      let low = All-head (λ t. (1 ≤ t) × (t ≤ calls_of h.program.steps)) x xs within in
      ap (λ b. b && list_all (has_reply desk h.number) xs) (there x (All-head (λ t. is_heard h.heard t ≡ false) x xs unheard_yet) low.0 low.1)
      ∙ all_there xs (All-tail (λ t. is_heard h.heard t ≡ false) x xs unheard_yet) (All-tail (λ t. (1 ≤ t) × (t ≤ calls_of h.program.steps)) x xs within)

  pub closed-ready : IsAtRest h → is_ready desk h ≡ true
  closed-ready (inl fresh) = ap (λ (g : HandlerState). list_all (has_reply desk h.number) g.waits) fresh.1
  closed-ready (inr waiting) =
      all_there h.waits (subst (All (λ t. is_heard h.heard t ≡ false)) (sym waiting.waits) (unheard-all h.heard (last_turns h.messages))) waiting.within

-- ---- what is at rest waits for calls of its last message

pub rest-last : (h : HandlerState) → IsAtRest h → WaitsForLast h
rest-last h (inl fresh) = record {
  waits = ap (λ (g : HandlerState). g.waits) fresh.1 ∙ sym (ap (λ (g : HandlerState). unheard g.heard (last_turns g.messages)) fresh.1);
}
rest-last h (inr waiting) = record { waits = waiting.waits }
