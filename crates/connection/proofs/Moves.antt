-- What each happening makes of a desk is what the history makes of it.
use Rattle.std.specs.Prelude.{option_to_list}
use Rattle.std.proofs.Common.{rules, ◌≡◌, ℕ, ◌+◌, Bool, Option, List, [], ◌∷◌, ◌++◌, map, length, refl, ap, sym, ◌∙◌}
use Rattle.std.proofs.lemmas.List.{append_assoc, append-nil, map-append}
use Rattle.connection_messages.specs.Texts.{call_text, calls_text, notice_text, withdrawal_text}
use Rattle.connection_messages.specs.declared.answer.Answer.{Answer}
use Rattle.connection_messages.specs.declared.cancels.Cancels.{Cancels}
use Rattle.connection_messages.specs.declared.outgoing.Outgoing.{Outgoing}
use Rattle.connection_messages.specs.declared.unit.Unit.{Unit}
use Rattle.connection_history.specs.declared.close.Close.{Close}
use Rattle.connection_history.specs.declared.broken.Broken.{Broken}
use Rattle.connection_history.specs.declared.event.Event.{Event}
use Rattle.connection_history.specs.declared.event.Event.TheVariants as event
use Rattle.connection_history.specs.declared.order.Order.{Order}
use Rattle.connection_history.specs.Stream.{entries_in}
use Rattle.connection_history.specs.History.{Origin, Happening, key_count, came, called, called_all, noticed, withdrew, answered, ended, History, is_over}
use Rattle.connection_history.specs.Refusals.{by_of, IsLawful}
use Rattle.connection_history.specs.Events.{broken_in, events_at}
use Rattle.connection_history.specs.Items.{items_of, items_at, said_at, answers_at, text_of}
use Rattle.open_calls.specs.Numbered.{at}
use Rattle.open_calls.specs.Own.{OwnState}
use Rattle.open_calls.specs.Theirs.{TheirState}
use Rattle.owed_answers.specs.Owed.{OwedState}
use Rattle.outbox.specs.Output.{Output}
use Rattle.connection_steps.specs.States.{State, state_of, own_of}
use Rattle.connection_steps.specs.Steps.{after_came, after_called, after_withdrew, after_answered, after_ended, told_of_all, told_of_unit, told_at_end, leaving, owed_with, owed_given}
use Rattle.connection_steps.specs.Tallies.{tally_of, tally_in, answers_let_out}
use Rattle.connection_steps.proofs.Counted.{tally-silent, tally-came, tally-answered}
use Rattle.connection_steps.proofs.OwnFollows.{own_came, own_called, own_called_all, own_withdrew, own_answered, own_ended}
use Rattle.connection_steps.proofs.OwnFound.{ended_found}
use Rattle.connection_steps.proofs.TheirAfter.{after-called, after-called_all, after-noticed, after-withdrew, after-ended, after-answered}
use Rattle.connection_steps.proofs.TheirEntries.{theirs-came}
use Rattle.connection_steps.proofs.ToldEntries.{told-came}
use Rattle.connection_steps.proofs.OwedSame.{silent-owed, silent-answers}
use Rattle.connection_steps.proofs.OwedSteps.{came-owed, came-answers}
use Rattle.connection_steps.proofs.OwedGiven.{answered-owed, answered-answers}
use Rattle.connection_desk.specs.Desks.{Desk, with_texts, answer_texts, capped_tally, with_counts, with_answers, after_unit, after_end, after_call, after_calls, after_notice, after_withdrawal, after_answer}
use Rattle.connection.specs.Settings.{Chosen}
use Rattle.connection.specs.Connections.{IsDeskOf}
use Rattle.connection.proofs.Tallied.{answers_capped, counts_capped}

-- ---- a state by its parts

abbrev pub state : OwnState → TheirState → OwedState → Bool → State
state own theirs owed is_over = record { own = own; theirs = theirs; owed = owed; is_over = is_over }

pub same_state : (o p : OwnState) (t u : TheirState) (w x : OwedState) (b c : Bool) → o ≡ p → t ≡ u → w ≡ x → b ≡ c → state o t w b ≡ state p u x c
same_state o p t u w x b c own theirs owed over =
    ap (λ o. state o t w b) own ∙ ap (λ t. state p t w b) theirs ∙ ap (λ w. state p u w b) owed ∙ ap (λ b. state p u x b) over

-- ---- state after each happening

pub state_called : (cancels : Option Cancels) (order : Order) (past : History) (n : ℕ) (o : Outgoing) → IsLawful cancels (called n o ∷ past)
    → state_of order (called n o ∷ past) ≡ after_called n 1 (state_of order past)
state_called cancels order past n o lawful =
    same_state _ _ _ _ _ _ _ _ (own_called cancels past n o lawful) (after-called past n o) (silent-owed order past (called n o) refl (λ k. refl)) refl

pub state_called_all : (cancels : Option Cancels) (order : Order) (past : History) (n : ℕ) (os : List Outgoing) → IsLawful cancels (called_all n os ∷ past)
    → state_of order (called_all n os ∷ past) ≡ after_called n (length os) (state_of order past)
state_called_all cancels order past n os lawful =
    same_state _ _ _ _ _ _ _ _ (own_called_all cancels past n os lawful) (after-called_all past n os) (silent-owed order past (called_all n os) refl (λ k. refl)) refl

own_noticed : (past : History) (o : Outgoing) → own_of (noticed o ∷ past) ≡ own_of past
own_noticed past o = search rules

pub state_noticed : (order : Order) (past : History) (o : Outgoing) → state_of order (noticed o ∷ past) ≡ state_of order past
state_noticed order past o =
    same_state _ _ _ _ _ _ _ _ (own_noticed past o) (after-noticed past o) (silent-owed order past (noticed o) refl (λ k. refl)) refl

pub state_withdrew : (order : Order) (past : History) (by : Cancels) (k : ℕ) → state_of order (withdrew by k ∷ past) ≡ after_withdrew by k (state_of order past)
state_withdrew order past by k =
    same_state _ _ _ _ _ _ _ _ (own_withdrew past by k) (after-withdrew past by k) (silent-owed order past (withdrew by k) refl (λ k. refl)) refl

pub state_answered : (cancels : Option Cancels) (order : Order) (past : History) (n : ℕ) (a : Option Answer) → IsLawful cancels (answered n a ∷ past)
    → state_of order (answered n a ∷ past) ≡ after_answered order n a (state_of order past)
state_answered cancels order past n a lawful =
    same_state _ _ _ _ _ _ _ _ (own_answered cancels past n a lawful) (after-answered past n a) (answered-owed cancels order past n a lawful) refl

pub state_ended : (order : Order) (past : History) (close : Close) → state_of order (ended close ∷ past) ≡ after_ended (state_of order past)
state_ended order past close =
    same_state _ _ _ _ _ _ _ _ (own_ended past close) (after-ended past close) (silent-owed order past (ended close) refl (λ k. refl)) refl

pub state_came : (cancels : Option Cancels) (order : Order) (past : History) (from : Option Origin) (u : Unit) → IsLawful cancels past
    → state_of order (came from u ∷ past) ≡ after_came order u (state_of order past)
state_came cancels order past from u lawful =
    same_state _ _ _ _ _ _ _ _ (own_came cancels past from u lawful) (theirs-came cancels past from u lawful) (came-owed cancels order past from u lawful) refl

-- ---- a desk after one more happening

pub moved : (settings : Chosen) (past : History) (told : List Event) (h : Happening) (d e : Desk) → IsDeskOf settings past told d
    → e.cancels ≡ d.cancels → e.order ≡ d.order → e.state ≡ state_of settings.order (h ∷ past) → e.untold ≡ d.untold ++ events_at past h
    → e.out.framing ≡ d.out.framing → e.out.written ≡ d.out.written ++ map text_of (items_at settings.order past h)
    → e.tally ≡ capped_tally (tally_of settings.order (h ∷ past)) → IsDeskOf settings (h ∷ past) told e
moved settings past told h d e is cancels order after untold framing written tally = record {
  cancels = cancels ∙ is.cancels;
  order = order ∙ is.order;
  state = after;
  events = ap (λ es. es ++ events_at past h) is.events ∙ append_assoc told d.untold (events_at past h) ∙ ap (λ es. told ++ es) (sym untold);
  framing = framing ∙ is.framing;
  written = written ∙ ap (λ ts. ts ++ map text_of (items_at settings.order past h)) is.written ∙ sym (map-append text_of (items_of settings.order past) (items_at settings.order past h));
  tally = tally;
}

-- what is said by a happening that tells nothing and lets no answer out
pub said_only : (settings : Chosen) (past : History) (told : List Event) (h : Happening) (texts : List (List ℕ)) (d e : Desk) → IsDeskOf settings past told d
    → e.cancels ≡ d.cancels → e.order ≡ d.order → e.state ≡ state_of settings.order (h ∷ past) → e.untold ≡ d.untold → events_at past h ≡ []
    → e.out ≡ with_texts texts d.out → map text_of (said_at past h) ≡ texts → answers_at settings.order past h ≡ []
    → e.tally ≡ d.tally → tally_of settings.order (h ∷ past) ≡ tally_of settings.order past → IsDeskOf settings (h ∷ past) told e
said_only settings past told h texts d e is cancels order after untold events out said answers tally counts =
    moved settings past told h d e is cancels order after
    (untold ∙ sym (append-nil d.untold) ∙ ap (λ es. d.untold ++ es) (sym events))
    (ap (λ (o : Output). o.framing) out)
    (ap (λ (o : Output). o.written) out
    ∙ ap (λ ts. d.out.written ++ ts) (sym said ∙ sym (ap (map text_of) (ap (λ is. said_at past h ++ is) answers ∙ append-nil (said_at past h)))))
    (tally ∙ is.tally ∙ ap capped_tally (sym counts))

pub made_is : (settings : Chosen) (past : History) (told : List Event) (d : Desk) → IsDeskOf settings past told d → d.state.own.made ≡ key_count past
made_is settings past told d is = ap (λ (s : State). s.own.made) is.state

pub desk_called : (cancels : Option Cancels) (settings : Chosen) (past : History) (told : List Event) (n : ℕ) (o : Outgoing) (d : Desk) → IsDeskOf settings past told d
    → IsLawful cancels (called n o ∷ past) → IsDeskOf settings (called n o ∷ past) told (after_call n o d)
desk_called cancels settings past told n o d is lawful =
    said_only settings past told (called n o) (call_text (d.state.own.made + 1) o ∷ []) d (after_call n o d) is refl refl
    (ap (after_called n 1) is.state ∙ sym (state_called cancels settings.order past n o lawful)) refl refl refl
    (ap (λ k. call_text (k + 1) o ∷ []) (sym (made_is settings past told d is)))
    (silent-answers settings.order past (called n o) refl (λ k. refl)) refl (tally-silent settings.order past (called n o) refl (λ k. refl) refl)

pub desk_called_all : (cancels : Option Cancels) (settings : Chosen) (past : History) (told : List Event) (n : ℕ) (os : List Outgoing) (d : Desk) → IsDeskOf settings past told d
    → IsLawful cancels (called_all n os ∷ past) → IsDeskOf settings (called_all n os ∷ past) told (after_calls n os d)
desk_called_all cancels settings past told n os d is lawful =
    said_only settings past told (called_all n os) (calls_text (d.state.own.made + 1) os ∷ []) d (after_calls n os d) is refl refl
    (ap (after_called n (length os)) is.state ∙ sym (state_called_all cancels settings.order past n os lawful)) refl refl refl
    (ap (λ k. calls_text (k + 1) os ∷ []) (sym (made_is settings past told d is)))
    (silent-answers settings.order past (called_all n os) refl (λ k. refl)) refl (tally-silent settings.order past (called_all n os) refl (λ k. refl) refl)

pub desk_noticed : (settings : Chosen) (past : History) (told : List Event) (o : Outgoing) (d : Desk) → IsDeskOf settings past told d
    → IsDeskOf settings (noticed o ∷ past) told (after_notice o d)
desk_noticed settings past told o d is =
    said_only settings past told (noticed o) (notice_text o ∷ []) d (after_notice o d) is refl refl
    (is.state ∙ sym (state_noticed settings.order past o)) refl refl refl refl
    (silent-answers settings.order past (noticed o) refl (λ k. refl)) refl (tally-silent settings.order past (noticed o) refl (λ k. refl) refl)

desk_withdrew_by : (settings : Chosen) (past : History) (told : List Event) (by : Cancels) (k : ℕ) (d : Desk) → by_of d.cancels ≡ by → IsDeskOf settings past told d
    → IsDeskOf settings (withdrew by k ∷ past) told (after_withdrawal k d)
desk_withdrew_by settings past told by k d named is =
    said_only settings past told (withdrew by k) (withdrawal_text (by_of d.cancels) k ∷ []) d (after_withdrawal k d) is refl refl
    (ap (λ b. after_withdrew b k d.state) named ∙ ap (after_withdrew by k) is.state ∙ sym (state_withdrew settings.order past by k)) refl refl refl
    (ap (λ b. withdrawal_text b k ∷ []) (sym named))
    (silent-answers settings.order past (withdrew by k) refl (λ k. refl)) refl (tally-silent settings.order past (withdrew by k) refl (λ k. refl) refl)

pub desk_withdrew : (settings : Chosen) (past : History) (told : List Event) (k : ℕ) (d : Desk) → IsDeskOf settings past told d
    → IsDeskOf settings (withdrew (by_of settings.cancels) k ∷ past) told (after_withdrawal k d)
desk_withdrew settings past told k d is = desk_withdrew_by settings past told (by_of settings.cancels) k d (ap by_of is.cancels) is

-- the texts of the answers that an answered call lets out
abbrev let_out : Order → ℕ → Option Answer → State → List (List ℕ)
let_out order n a s = answer_texts (leaving order (owed_given (at n s.theirs.calls) a s.owed.owed))

pub desk_answered : (cancels : Option Cancels) (settings : Chosen) (past : History) (told : List Event) (n : ℕ) (a : Option Answer) (d : Desk) → IsDeskOf settings past told d
    → IsLawful cancels (answered n a ∷ past) → IsDeskOf settings (answered n a ∷ past) told (after_answer n a d)
desk_answered cancels settings past told n a d is lawful =
    moved settings past told (answered n a) d (after_answer n a d) is refl refl
    (ap (λ order. after_answered order n a d.state) is.order ∙ ap (after_answered settings.order n a) is.state ∙ sym (state_answered cancels settings.order past n a lawful))
    (sym (append-nil d.untold)) refl
    (ap (λ ts. d.out.written ++ ts)
    (ap (λ order. let_out order n a d.state) is.order ∙ ap (let_out settings.order n a) is.state
    ∙ ap (map text_of) (sym (answered-answers cancels settings.order past n a lawful))))
    (ap (λ order. with_answers (answers_let_out order n a d.state) d.tally) is.order
    ∙ ap (λ s. with_answers (answers_let_out settings.order n a s) d.tally) is.state
    ∙ ap (with_answers (answers_let_out settings.order n a (state_of settings.order past))) is.tally
    ∙ answers_capped (answers_let_out settings.order n a (state_of settings.order past)) (tally_of settings.order past)
    ∙ ap capped_tally (sym (tally-answered cancels settings.order past n a lawful)))

pub desk_ended : (settings : Chosen) (past : History) (told : List Event) (close : Close) (d : Desk) → IsDeskOf settings past told d
    → IsDeskOf settings (ended close ∷ past) told (after_end close d)
desk_ended settings past told close d is =
    moved settings past told (ended close) d (after_end close d) is refl refl
    (ap after_ended is.state ∙ sym (state_ended settings.order past close))
    (ap (λ es. d.untold ++ es) (ap (λ (s : State). told_at_end close s.own) is.state ∙ sym (ended_found past close))) refl
    (sym (append-nil d.out.written) ∙ ap (λ is. d.out.written ++ map text_of is) (sym (silent-answers settings.order past (ended close) refl (λ k. refl))))
    (is.tally ∙ ap capped_tally (sym (tally-silent settings.order past (ended close) refl (λ k. refl) refl)))

abbrev come_out : Order → Unit → State → List (List ℕ)
come_out order u s = answer_texts (leaving order (owed_with u s.owed))

pub desk_came : (cancels : Option Cancels) (settings : Chosen) (past : History) (told : List Event) (from : Option Origin) (u : Unit) (broken : Option Broken) (d : Desk)
    → option_to_list broken ≡ broken_in from u → IsDeskOf settings past told d → IsLawful cancels past → IsDeskOf settings (came from u ∷ past) told (after_unit broken u d)
desk_came cancels settings past told from u broken d defect is lawful =
    moved settings past told (came from u) d (after_unit broken u d) is refl refl
    (ap (λ order. after_came order u d.state) is.order ∙ ap (after_came settings.order u) is.state ∙ sym (state_came cancels settings.order past from u lawful))
    (ap (λ es. d.untold ++ es)
    (ap (λ bs. map event.Broken bs ++ told_of_all d.state.own d.state.theirs (entries_in u)) defect
    ∙ ap (λ (s : State). told_of_unit from s.own s.theirs u) is.state ∙ sym (told-came cancels past from u lawful))) refl
    (ap (λ ts. d.out.written ++ ts)
    (ap (λ order. come_out order u d.state) is.order ∙ ap (come_out settings.order u) is.state
    ∙ ap (map text_of) (sym (came-answers cancels settings.order past from u lawful))))
    (ap (λ order. with_counts (tally_in order u d.state) d.tally) is.order
    ∙ ap (λ s. with_counts (tally_in settings.order u s) d.tally) is.state
    ∙ ap (with_counts (tally_in settings.order u (state_of settings.order past))) is.tally
    ∙ counts_capped (tally_in settings.order u (state_of settings.order past)) (tally_of settings.order past)
    ∙ ap capped_tally (sym (tally-came cancels settings.order past from u lawful)))
