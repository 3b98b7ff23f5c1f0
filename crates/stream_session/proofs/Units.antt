-- One more unit is taken, and the input ends.
use Rattle.std.proofs.Common.{rules, ◌≡◌, ℕ, ◌+◌, ◌-◌, ◌<◌, ◌≤◌, List, [], ◌∷◌, ◌++◌, length, Bool, true, false, Option, Some, None, is_some, refl, sym, ap, subst, ◌∙◌, arith, append-nil}
use Rattle.std.specs.Prelude.{nat_le, if◌then◌else◌}
use Rattle.rpc_messages.specs.Numbering.{taken, is_cut, unit_numbers, units_numbers}
use Rattle.rpc_messages.specs.Unit.{SeenUnit}
use Rattle.rpc_messages.proofs.Units.{taken-uncut, taken-append, is_cut-append}
use Rattle.method_steps.specs.Steps.{MethodTable}
use Rattle.handler_future.specs.State.{HandlerState}
use Rattle.peer_session.specs.declared.limits.Limits.{Limits}
use Rattle.peer_session.specs.declared.report.Close.{Close}
use Rattle.peer_session.specs.declared.report.Close.TheVariants.{Full}
use Rattle.peer_output.specs.Cancelled.{Begins}
use Rattle.peer_output.specs.Items.{Item}
use Rattle.peer_output.specs.Later.{MayBecome}
use Rattle.peer_output.specs.Past.{past_units}
use Rattle.peer_events.specs.Core.{Core}
use Rattle.peer_events.specs.Stands.{StandsAfter}
use Rattle.peer_events.specs.Taking.{Takes}
use Rattle.peer_session.specs.Events.{TakesUnit, ended, ended_at}
use Rattle.peer_session.specs.SessionState.{SessionState, with_core, numbers_left, count_numbers}
use Rattle.peer_session.specs.declared.taken.Taken.{Taken}
use Rattle.peer_session.specs.declared.taken.Taken.TheVariants as outcome
use Rattle.stream_session.specs.Inner.Known.{Known}
use Rattle.stream_session.specs.Standing.{SessionStands, close_by}
use Rattle.stream_session.proofs.Unfailing.{takes-not}

-- ---- which units are taken

taken-next : (room : ℕ) (us : List SeenUnit) (u : SeenUnit) → is_cut room us ≡ false → unit_numbers u ≤ room - units_numbers us → taken room (us ++ u ∷ []) ≡ us ++ u ∷ []
taken-next room us u uncut fits = taken-append room us (u ∷ []) uncut ∙ ap (λ ts. us ++ ts) (grind arith)

is_cut-next : (room : ℕ) (us : List SeenUnit) (u : SeenUnit) → is_cut room us ≡ false → unit_numbers u ≤ room - units_numbers us → is_cut room (us ++ u ∷ []) ≡ false
is_cut-next room us u uncut fits = is_cut-append room us (u ∷ []) uncut ∙ grind arith

taken-over : (room : ℕ) (us : List SeenUnit) (u : SeenUnit) → is_cut room us ≡ false → room - units_numbers us < unit_numbers u → taken room (us ++ u ∷ []) ≡ us
taken-over room us u uncut over = taken-append room us (u ∷ []) uncut ∙ ap (λ ts. us ++ ts) (grind arith) ∙ append-nil us

is_cut-over : (room : ℕ) (us : List SeenUnit) (u : SeenUnit) → is_cut room us ≡ false → room - units_numbers us < unit_numbers u → is_cut room (us ++ u ∷ []) ≡ true
is_cut-over room us u uncut over = is_cut-append room us (u ∷ []) uncut ∙ grind arith

-- ---- how they close the input

abbrev pub full_if : Bool → Option Close
full_if b = if b then Some Full else None

pub uncut-of : (b : Bool) → full_if b ≡ None → b ≡ false
uncut-of true is = absurd (cc)
uncut-of false is = refl

pub cut-of : (b : Bool) → (full_if b ≡ None → ⊥) → b ≡ true
cut-of true closed = refl
cut-of false closed = absurd (closed refl)

-- ---- each call that was taken has a number

pub numbers-taken : (table : MethodTable) (is_over : Bool) (core : Core) (jobs : ℕ → Option HandlerState) (units : List SeenUnit) (items : List Item)
    → StandsAfter table is_over core jobs units items → length core.stages - 1 ≡ units_numbers units
numbers-taken table is_over core jobs units items stands =
    let many : length core.stages ≡ 1 + units_numbers (past_units stands.past) = stands.rests.stages in
    let same : units_numbers (past_units stands.past) ≡ units_numbers units = ap units_numbers stands.units_are in
    omega (arith, many, same)

-- ---- the input ends

module _ (known : Known) (table : MethodTable) (limits : Limits) (units : List SeenUnit) (items : List Item) (s : SessionState) (jobs : ℕ → Option HandlerState) (close : Close) where
  pub ends : s.close ≡ None → SessionStands table limits units items s jobs
      → SessionStands table limits units items (ended s close) jobs × ((ended s close).close ≡ Some close)
  ends is_open had =
      let is : ended s close ≡ ended_at s close None = ap (ended_at s close) is_open in
      let stands : StandsAfter table false s.core jobs units items = subst (λ c. StandsAfter table (is_some c) s.core jobs units items) is_open had.stands in (
        subst (λ x. SessionStands table limits units items x jobs) (sym is) (record {
          table_is = had.table_is;
          limits_are = had.limits_are;
          stands = known.end_stands table s.core jobs units items stands;
          messages = had.messages;
          call_frames = had.call_frames;
          answers = had.answers;
          unbroken = had.unbroken;
          failed = had.failed;
          polls = had.polls;
          polls_are = had.polls_are;
          polls_fit = λ still. known.end_polls table s.core jobs items had.polls (had.polls_fit still);
        }),
        ap (λ (x : SessionState). x.close) is,
      )

-- ---- a unit is taken

le_from : (a b : ℕ) → nat_le a b ≡ true → a ≤ b
le_from a b is = search (rules, is)

lt_from : (a b : ℕ) → nat_le a b ≡ false → b < a
lt_from a b is = search (rules, is)

module _ (known : Known) (table : MethodTable) (limits : Limits) (us : List SeenUnit) (u : SeenUnit) (items : List Item) (s after : SessionState) (jobs : ℕ → Option HandlerState)
    (had-all : SessionStands table limits us items s jobs) (is_open : s.close ≡ None) (uncut : is_cut limits.numbers us ≡ false) where
  stands-open : StandsAfter table false s.core jobs us items
  stands-open = subst (λ c. StandsAfter table (is_some c) s.core jobs us items) is_open had-all.stands

  left : numbers_left s ≡ limits.numbers - units_numbers us
  left = ap (λ (l : Limits). l.numbers - count_numbers s) had-all.limits_are
      ∙ ap (λ k. limits.numbers - k) (numbers-taken table false s.core jobs us items stands-open)

  core-served : (core : Core) → Takes s.table s.core u core → SessionStands table limits (us ++ u ∷ []) items (with_core s core) jobs
  core-served core takes =
      let same : Takes table s.core u core = subst (λ t. Takes t s.core u core) had-all.table_is takes in
      record {
        table_is = had-all.table_is;
        limits_are = had-all.limits_are;
        stands = subst (λ c. StandsAfter table (is_some c) core jobs (us ++ u ∷ []) items) (sym is_open)
            (known.take_stands table s.core core jobs us items u stands-open same);
        messages = had-all.messages;
        call_frames = had-all.call_frames;
        answers = had-all.answers;
        unbroken = had-all.unbroken;
        failed = λ still. takes-not table s.core core u same (had-all.failed still);
        polls = had-all.polls;
        polls_are = had-all.polls_are;
        polls_fit = λ still. known.take_polls table s.core core jobs us items u had-all.polls stands-open same (had-all.polls_fit still);
      }

  pub unit-taken : (taken_as : Taken) → TakesUnit s u taken_as after
      → SessionStands table limits (taken limits.numbers (us ++ u ∷ [])) items after jobs × (after.close ≡ close_by limits.numbers (us ++ u ∷ []))
  unit-taken outcome.Taken takes =
      let within : unit_numbers u ≤ limits.numbers - units_numbers us = subst (λ k. unit_numbers u ≤ k) left (le_from (unit_numbers u) (numbers_left s) takes.0) in (
        subst (λ ts. SessionStands table limits ts items after jobs) (sym (taken-next limits.numbers us u uncut within))
            (subst (λ x. SessionStands table limits (us ++ u ∷ []) items x jobs) (sym takes.1.2) (core-served takes.1.0 takes.1.1)),
        ap (λ (x : SessionState). x.close) takes.1.2 ∙ is_open ∙ ap full_if (sym (is_cut-next limits.numbers us u uncut within)),
      )
  unit-taken outcome.Full takes =
      let past : limits.numbers - units_numbers us < unit_numbers u = subst (λ k. k < unit_numbers u) left (lt_from (unit_numbers u) (numbers_left s) takes.0) in
      let full = ends known table limits us items s jobs Full is_open had-all in (
        subst (λ ts. SessionStands table limits ts items after jobs) (sym (taken-over limits.numbers us u uncut past))
            (subst (λ x. SessionStands table limits us items x jobs) (sym takes.1) full.0),
        ap (λ (x : SessionState). x.close) takes.1 ∙ full.1 ∙ ap full_if (sym (is_cut-over limits.numbers us u uncut past)),
      )

-- ---- whether a sink has failed

ended_same : (s : SessionState) (close : Close) (before : Option Close) → (ended_at s close before).is_broken ≡ s.is_broken
ended_same s close None = refl
ended_same s close (Some first) = refl

pub ended-same : (s after : SessionState) (close : Close) → after ≡ ended s close → after.is_broken ≡ s.is_broken
ended-same s after close is = ap (λ (x : SessionState). x.is_broken) is ∙ ended_same s close s.close

pub takes-same : (s after : SessionState) (u : SeenUnit) (how : Taken) → TakesUnit s u how after → after.is_broken ≡ s.is_broken
takes-same s after u outcome.Taken takes = ap (λ (x : SessionState). x.is_broken) takes.1.2
takes-same s after u outcome.Full takes = ended-same s after Full takes.1

-- ---- what may become of them

-- Where nothing was cut, more units may be taken behind these.
pub may-grow : (room : ℕ) (us all : List SeenUnit) → is_cut room us ≡ false → Begins us all → Begins (taken room us) (taken room all)
may-grow room us all uncut begins = record {
  rest = taken (room - units_numbers us) begins.rest;
  joined = ap (taken room) begins.joined ∙ taken-append room us begins.rest uncut
      ∙ ap (λ l. l ++ taken (room - units_numbers us) begins.rest) (sym (taken-uncut room us uncut));
}

pub may-stay : {A : Type 0} (is_over : Bool) (us : List A) → MayBecome is_over us us
may-stay true us = refl
may-stay false us = record { rest = []; joined = sym (append-nil us) }
