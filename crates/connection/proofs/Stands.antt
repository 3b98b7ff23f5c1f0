-- A connection stands after what its host says.
use Rattle.std.proofs.Common.{◌≡◌, ℕ, zero, suc, ◌+◌, ◌≤◌, ◌==◌, ◌&&◌, ◌||◌, not, nat_lt, Bool, true, false, cond, List, [], ◌∷◌, ◌++◌, length, Option, Some, None, Result, Ok, Err, ◌<◌, refl, sym, ap, subst, ◌∙◌, arith}
use Rattle.std.proofs.lemmas.List.{append-nil, length-append}
use Rattle.std.proofs.lemmas.Grind.{flat_map-append}
use Rattle.std.specs.Prelude.{is_some, slice_get, OnOk, OnErr, IfErr}
use Rattle.std.specs.Option.{option_map_or}
use Rattle.connection_messages.specs.ReadBack.{IsSayable, AreSayable}
use Rattle.connection_messages.specs.Texts.{call_text, calls_text, notice_text, withdrawal_text}
use Rattle.connection_messages.specs.declared.answer.Answer.{Answer}
use Rattle.connection_messages.specs.declared.cancels.Cancels.{Cancels}
use Rattle.connection_messages.specs.declared.cancels.Cancels.TheVariants.{Lsp, Mcp}
use Rattle.connection_messages.specs.declared.outgoing.Outgoing.{Outgoing}
use Rattle.connection_history.specs.declared.close.Close.{Close}
use Rattle.connection_history.specs.declared.event.Event.{Event}
use Rattle.connection_history.specs.declared.order.Order.{Order}
use Rattle.connection_history.specs.declared.refused.Refused.{Refused}
use Rattle.connection_history.specs.declared.refused.Refused.TheVariants.{NotOpen, NotWaiting, Over, Empty, Full}
use Rattle.connection_history.specs.Stream.{calls_in, entries_along}
use Rattle.connection_history.specs.History.{Happening, called, called_all, noticed, withdrew, answered, History, or_else, units_of, units_at, origins_of, origins_at, close_at, close_of as close_in, is_open, is_over, is_waiting, is_withdrawn, key_count, numbers_to}
use Rattle.connection_history.specs.Refusals.{refusal, by_of, has_cancels, call_refusal, first_of, most_keys}
use Rattle.connection_history.specs.Events.{call_count}
use Rattle.connection_history.proofs.Tests.{different, or-left, or-right, or_else-none}
use Rattle.content_streams.specs.Streams.{Stream, contents}
use Rattle.content_streams.specs.declared.framing.Framing.{Framing}
use Rattle.content_streams.specs.declared.framing.Framing.TheVariants.{Frames, Lines, Contents}
use Rattle.open_calls.specs.declared.own_call.OwnCall.{OwnCall}
use Rattle.open_calls.specs.Numbered.{at}
use Rattle.outbox.specs.Output.{Output, framed, bytes_of_texts, full_count}
use Rattle.connection_steps.specs.States.{state_of, own_call, theirs_of}
use Rattle.connection_steps.proofs.OwnEntries.{found as own-found}
use Rattle.connection_steps.proofs.TheirFound.{found, seen-at, is_among}
use Rattle.connection_steps.proofs.TheirSites.{sites_of, theirs-seen, all-numbers}
use Rattle.connection_desk.specs.Desks.{Desk, with_texts, has_call, call_refused, isnt_withdrawn, withdraw_refused, answer_refused, after_call, after_calls, after_notice, after_withdrawal, after_answer}
use Rattle.connection.specs.Settings.{Chosen, rules_of}
use Rattle.connection.specs.Connections.{Connection, IsGiven, IsTyped, IsDeskOf, HasEnded, was_full, had_ended, StandsAfter, IsRefusal, read, calls_of, next_after}
use Rattle.connection.proofs.Moves.{desk_called, desk_called_all, desk_noticed, desk_withdrew, desk_answered}

abbrev pub with_desk : Connection → Desk → Connection
with_desk c d = record { settings = c.settings; stream = c.stream; desk = d }

-- ---- what is open and what waits, by the desk and by the history

not_zero : (n : ℕ) → (suc n == 0) ≡ false
not_zero n = different (suc n) 0 (λ is. absurd (omega (arith, is)))

zero_not : (n : ℕ) → (0 == suc n) ≡ false
zero_not n = different 0 (suc n) (λ is. absurd (omega (arith, is)))

pub has_open : (order : Order) (past : History) (n : ℕ) → has_call n (state_of order past) ≡ is_open n past
has_open order past zero = refl
has_open order past (suc n) = ap (λ b. b || is_some (at (suc n) (theirs_of past).calls)) (not_zero n) ∙ sym (found past n)

among-none : (m n : ℕ) (ns : List ℕ) → is_among zero ns ≡ false → is_among zero (ns ++ suc n ∷ []) ≡ false
among-none m n [] none = ap (λ b. b || false) (zero_not n)
among-none m n (k ∷ ns) none =
    ap (λ b. b || is_among zero (ns ++ suc n ∷ [])) (or-left (zero == k) (is_among zero ns) none) ∙ among-none m n ns (or-right (zero == k) (is_among zero ns) none)

no_zero : (m : ℕ) → is_among zero (numbers_to m) ≡ false
no_zero zero = refl
no_zero (suc m) = among-none m m (numbers_to m) (no_zero m)

-- nothing stands under 0
pub none_at_zero : (past : History) → is_some (at zero (theirs_of past).calls) ≡ false
none_at_zero past =
    ap (λ cs. is_some (at zero cs)) (theirs-seen past 0 1 (units_of past)) ∙ seen-at zero past (sites_of past)
    ∙ ap (is_among zero) (all-numbers past) ∙ no_zero (call_count past)

-- no call is open with the number 0, and the others are where the history says so
pub closed_is : (order : Order) (past : History) (n : ℕ) → not (is_some (at n (state_of order past).theirs.calls)) ≡ ((n == 0) || not (is_open n past))
closed_is order past zero = ap not (none_at_zero past)
closed_is order past (suc n) = ap not (sym (found past n)) ∙ sym (ap (λ b. b || not (is_open (suc n) past)) (not_zero n))

-- ---- refusals, by the desk and by the history

pub call_is : (order : Order) (past : History) (n count : ℕ) → call_refused n count (state_of order past) ≡ call_refusal past n count
call_is order past n count =
    ap (λ b. first_of ((not b, NotOpen) ∷ (is_over past, Over) ∷ (count == 0, Empty) ∷ (nat_lt most_keys (key_count past + count), Full) ∷ [])) (has_open order past n)

-- nothing else refuses an answer that is given
pub no_more : (b : Bool) → first_of ((b, NotOpen) ∷ []) ≡ first_of ((b, NotOpen) ∷ (false, Empty) ∷ [])
no_more true = refl
no_more false = refl

pub answer_is : (cancels : Option Cancels) (order : Order) (past : History) (n : ℕ) (a : Answer) → answer_refused n (state_of order past) ≡ refusal cancels past (answered n (Some a))
answer_is cancels order past n a = ap (λ b. first_of ((b, NotOpen) ∷ [])) (closed_is order past n) ∙ no_more ((n == 0) || not (is_open n past))

wanted_if : (w : Bool) (call : OwnCall) → option_map_or isnt_withdrawn (cond w (Some call) None) false ≡ (w && not call.is_withdrawn)
wanted_if true call = refl
wanted_if false call = refl

all_three : (a b c : Bool) → (a && (b && c)) ≡ (a && b && c)
all_three true b c = refl
all_three false b c = refl

named : (cancels : Option Cancels) → is_some cancels ≡ has_cancels (by_of cancels) cancels
named None = refl
named (Some Lsp) = refl
named (Some Mcp) = refl

pub withdraw_is : (cancels : Option Cancels) (order : Order) (past : History) (k : ℕ) → withdraw_refused cancels k (state_of order past) ≡ refusal cancels past (withdrew (by_of cancels) k)
withdraw_is cancels order past k =
    ap (λ b. first_of ((not b, NotWaiting) ∷ []))
    (ap (λ o. is_some cancels && option_map_or isnt_withdrawn o false) (own-found past k)
    ∙ ap (λ b. is_some cancels && b) (wanted_if (is_waiting k past) (own_call k past))
    ∙ all_three (is_some cancels) (is_waiting k past) (not (is_withdrawn k past))
    ∙ ap (λ b. b && is_waiting k past && not (is_withdrawn k past)) (named cancels))

-- ---- more texts are written

pub full_more : (framing : Framing) (ws ts : List (List ℕ)) (taken : ℕ) → taken ≤ full_count framing ws → taken ≤ full_count framing (ws ++ ts)
full_more Frames ws ts taken le =
    let is = ap length (flat_map-append (framed Frames) ws ts) ∙ length-append (bytes_of_texts Frames ws) (bytes_of_texts Frames ts) in omega (arith, is, le)
full_more Lines ws ts taken le =
    let is = ap length (flat_map-append (framed Lines) ws ts) ∙ length-append (bytes_of_texts Lines ws) (bytes_of_texts Lines ts) in omega (arith, is, le)
full_more Contents ws ts taken le = let is = length-append ws ts in omega (arith, is, le)

abbrev IsWithin : Output → Type 0
IsWithin o = o.taken ≤ full_count o.framing o.written

-- ---- a connection after the host has said something

-- neither a content nor the end
pub record IsSaid (h : Happening) : Type 0 where
  pub unit : units_at h ≡ []
  pub origin : origins_at h ≡ []
  pub close : close_at h ≡ None

count_of : (now past : History) → units_of now ≡ units_of past → call_count now ≡ call_count past
count_of now past units = ap (λ us. length (calls_in (entries_along us))) units

next_of : (s : Stream) (now past : History) → units_of now ≡ units_of past → next_after s now ≡ next_after s past
next_of s now past units = ap (λ us. slice_get (contents s) (length us)) units

-- the same where the same units came
pub still : (settings : Chosen) (s : Stream) (past now : History) (close : Close) → units_of now ≡ units_of past → HasEnded settings s past close → HasEnded settings s now close
still settings s past now _ units (was_full frame next many) =
    was_full frame (next_of s now past units ∙ next) (subst (λ n. settings.calls < n + calls_of (read (rules_of settings) frame)) (sym (count_of now past units)) many)
still settings s past now _ units (had_ended end next is) = had_ended end (next_of s now past units ∙ next) is

-- how the input ended rests on its stream and on the units that came
pub ended_still : (settings : Chosen) (s : Stream) (past now : History) → units_of now ≡ units_of past → close_in now ≡ close_in past
    → ((close : Close) → close_in past ≡ Some close → HasEnded settings s past close) → (close : Close) → close_in now ≡ Some close → HasEnded settings s now close
ended_still settings s past now units closes ended close is = still settings s past now close units (ended close (sym closes ∙ is))

pub stands_said : (c : Connection) (history : History) (told : List Event) (h : Happening) (texts : List (List ℕ)) (d : Desk) → StandsAfter c history told
    → IsTyped h → refusal c.settings.cancels history h ≡ None → IsSaid h → IsDeskOf c.settings (h ∷ history) told d → d.out ≡ with_texts texts c.desk.out
    → StandsAfter (with_desk c d) (h ∷ history) told
stands_said c history told h texts d stands typed allowed said desk out =
    let same : units_of (h ∷ history) ≡ units_of history = ap (λ us. units_of history ++ us) said.unit ∙ append-nil (units_of history) in
    let closes : close_in (h ∷ history) ≡ close_in history = ap (or_else (close_in history)) said.close ∙ or_else-none (close_in history) in
    record {
      lawful = (allowed, stands.lawful);
      typed = (typed, stands.typed);
      calls = subst (λ us. length (calls_in (entries_along us)) ≤ c.settings.calls) (sym same) stands.calls;
      stream = record {
        framing = stands.stream.framing;
        limit = stands.stream.limit;
        taken = stands.stream.taken ∙ ap length (sym same);
        came = same ∙ stands.stream.came;
        origins = ap (λ os. origins_of history ++ os) said.origin ∙ append-nil (origins_of history) ∙ stands.stream.origins;
      };
      ended = ended_still c.settings c.stream history (h ∷ history) same closes stands.ended;
      desk = desk;
      taken = subst IsWithin (sym out) (full_more c.desk.out.framing c.desk.out.written texts c.desk.out.taken stands.taken);
    }

pub stands_called : (c : Connection) (history : History) (told : List Event) (n : ℕ) (o : Outgoing) → IsSayable o → StandsAfter c history told → refusal c.settings.cancels history (called n o) ≡ None
    → StandsAfter (with_desk c (after_call n o c.desk)) (called n o ∷ history) told
stands_called c history told n o typed stands allowed =
    stands_said c history told (called n o) (call_text (c.desk.state.own.made + 1) o ∷ []) (after_call n o c.desk) stands typed allowed (record { unit = refl; origin = refl; close = refl })
    (desk_called c.settings.cancels c.settings history told n o c.desk stands.desk (allowed, stands.lawful)) refl

pub stands_called_all : (c : Connection) (history : History) (told : List Event) (n : ℕ) (os : List Outgoing) → AreSayable os → StandsAfter c history told → refusal c.settings.cancels history (called_all n os) ≡ None
    → StandsAfter (with_desk c (after_calls n os c.desk)) (called_all n os ∷ history) told
stands_called_all c history told n os typed stands allowed =
    stands_said c history told (called_all n os) (calls_text (c.desk.state.own.made + 1) os ∷ []) (after_calls n os c.desk) stands typed allowed (record { unit = refl; origin = refl; close = refl })
    (desk_called_all c.settings.cancels c.settings history told n os c.desk stands.desk (allowed, stands.lawful)) refl

pub stands_noticed : (c : Connection) (history : History) (told : List Event) (o : Outgoing) → IsSayable o → StandsAfter c history told
    → StandsAfter (with_desk c (after_notice o c.desk)) (noticed o ∷ history) told
stands_noticed c history told o typed stands =
    stands_said c history told (noticed o) (notice_text o ∷ []) (after_notice o c.desk) stands typed refl (record { unit = refl; origin = refl; close = refl }) (desk_noticed c.settings history told o c.desk stands.desk) refl

pub stands_withdrew : (c : Connection) (history : History) (told : List Event) (k : ℕ) → StandsAfter c history told → refusal c.settings.cancels history (withdrew (by_of c.settings.cancels) k) ≡ None
    → StandsAfter (with_desk c (after_withdrawal k c.desk)) (withdrew (by_of c.settings.cancels) k ∷ history) told
stands_withdrew c history told k stands allowed =
    stands_said c history told (withdrew (by_of c.settings.cancels) k) (withdrawal_text (by_of c.desk.cancels) k ∷ []) (after_withdrawal k c.desk) stands tt allowed (record { unit = refl; origin = refl; close = refl })
    (desk_withdrew c.settings history told k c.desk stands.desk) refl

pub stands_answered : (c : Connection) (history : History) (told : List Event) (n : ℕ) (a : Option Answer) → IsGiven a → StandsAfter c history told → refusal c.settings.cancels history (answered n a) ≡ None
    → StandsAfter (with_desk c (after_answer n a c.desk)) (answered n a ∷ history) told
stands_answered c history told n a typed stands allowed =
    stands_said c history told (answered n a) _ (after_answer n a c.desk) stands typed allowed (record { unit = refl; origin = refl; close = refl })
    (desk_answered c.settings.cancels c.settings history told n a c.desk stands.desk (allowed, stands.lawful)) refl

-- ---- what the calls promise

pub on_ok : {T E : Type 0} (r : Result T E) (P Q : Type 0) → (P → Q) → OnOk r P → OnOk r Q
on_ok (Ok value) P Q f p = f p
on_ok (Err why) P Q f p = tt

pub on_err : {T E P : Type 0} (r : Result T E) → P → OnErr r P
on_err (Ok value) p = tt
on_err (Err why) p = p

if_err : {T E : Type 0} (r : Result T E) (P Q : E → Type 0) → ((why : E) → P why → Q why) → IfErr r P → IfErr r Q
if_err (Ok value) P Q f p = tt
if_err (Err why) P Q f p = f why p

refused_as : (why : Refused) (p q : Option Refused) → p ≡ q → IsRefusal why p → IsRefusal why q
refused_as why p q is refused = subst (λ o. IsRefusal why o) is refused

-- a call of the desk that succeeded is the happening
pub says_ok : {T : Type 0} (c : Connection) (d after : Desk) (h : Happening) (refused : Option Refused) (r : Result T Refused)
    → ((history : History) (told : List Event) → StandsAfter c history told → refused ≡ refusal c.settings.cancels history h)
    → ((history : History) (told : List Event) → StandsAfter c history told → refusal c.settings.cancels history h ≡ None → StandsAfter (with_desk c after) (h ∷ history) told)
    → OnOk r ((refused ≡ None) × (d ≡ after))
    → (history : History) (told : List Event) → StandsAfter c history told
    → OnOk r ((refusal c.settings.cancels history h ≡ None) × StandsAfter (with_desk c d) (h ∷ history) told)
says_ok c d after h refused r same follows ok history told stands =
    on_ok r _ _
    (λ said.
    let allowed = sym (same history told stands) ∙ said.0 in
    (allowed, subst (λ e. StandsAfter (with_desk c e) (h ∷ history) told) (sym said.1) (follows history told stands allowed))) ok

-- a call of the desk that was refused leaves everything as it was
pub says_err : {T : Type 0} (c : Connection) (d : Desk) (h : Happening) (refused : Option Refused) (r : Result T Refused)
    → ((history : History) (told : List Event) → StandsAfter c history told → refused ≡ refusal c.settings.cancels history h)
    → IfErr r (λ why. (d ≡ c.desk) × IsRefusal why refused)
    → IfErr r (λ why. (with_desk c d ≡ c) × ((history : History) (told : List Event) → StandsAfter c history told → IsRefusal why (refusal c.settings.cancels history h)))
says_err c d h refused r same err =
    if_err r _ _ (λ why said. (ap (with_desk c) said.0, (λ history told stands. refused_as why refused _ (same history told stands) said.1))) err

-- ---- the refusals of each call

pub call_same : (c : Connection) (n count : ℕ) (history : History) (told : List Event) → StandsAfter c history told → call_refused n count c.desk.state ≡ call_refusal history n count
call_same c n count history told stands = ap (call_refused n count) stands.desk.state ∙ call_is c.settings.order history n count

pub withdraw_same : (c : Connection) (k : ℕ) (history : History) (told : List Event) → StandsAfter c history told
    → withdraw_refused c.desk.cancels k c.desk.state ≡ refusal c.settings.cancels history (withdrew (by_of c.settings.cancels) k)
withdraw_same c k history told stands =
    ap (λ b. withdraw_refused b k c.desk.state) stands.desk.cancels ∙ ap (withdraw_refused c.settings.cancels k) stands.desk.state
    ∙ withdraw_is c.settings.cancels c.settings.order history k

pub answer_same : (c : Connection) (n : ℕ) (a : Answer) (history : History) (told : List Event) → StandsAfter c history told
    → answer_refused n c.desk.state ≡ refusal c.settings.cancels history (answered n (Some a))
answer_same c n a history told stands = ap (answer_refused n) stands.desk.state ∙ answer_is c.settings.cancels c.settings.order history n a
