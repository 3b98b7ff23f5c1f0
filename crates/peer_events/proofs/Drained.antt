-- What is due is written.
use Rattle.std.proofs.Common.{◌≡◌, ℕ, ◌+◌, ◌<◌, ◌≤◌, List, [], ◌∷◌, ◌++◌, length, map, flat_map, take, drop, get_or, max, All, Bool, Option, Some, None, ◌⊎◌, inl, inr, refl, sym, ap, subst, ◌∙◌, append_assoc, append-nil, arith}
use Rattle.std.proofs.Math.ListN.{get_or-map}
use Rattle.std.proofs.lemmas.Grind.{flat_map-append}
use Rattle.std.proofs.lemmas.List.{length-map, take-append-drop, take_all, get_or_past}
use Rattle.std.specs.List.{filter_map}
use Rattle.lsp_frames.specs.Frames.{written as framed}
use Rattle.rpc_messages.specs.Dues.{Due}
use Rattle.rpc_messages.specs.Entry.{SeenEntry}
use Rattle.rpc_messages.specs.Numbering.{units_numbers}
use Rattle.rpc_messages.specs.Replies.{entries_along}
use Rattle.rpc_messages.specs.Unit.{SeenUnit}
use Rattle.method_steps.specs.Steps.{MethodTable}
use Rattle.open_numbers.specs.declared.open_call.OpenCall.{OpenCall}
use Rattle.answer_desk.specs.State.{number_at, front_texts}
use Rattle.answer_desk.specs.Waiting.{unit_text, whole_front, behind_front}
use Rattle.handler_future.specs.State.{HandlerState}
use Rattle.peer_events.specs.declared.stage.Stage.{Stage}
use Rattle.peer_events.specs.declared.stage.Stage.TheVariants.{Gone, Faulty, Idle, Out, Over, Failed}
use Rattle.peer_output.specs.Cancelled.{Begins}
use Rattle.peer_output.specs.Course.{Sending, message, Course}
use Rattle.peer_output.specs.Events.{with_released}
use Rattle.peer_output.specs.Items.{Item, answered, sent_by, bytes_of, item_text}
use Rattle.peer_output.specs.Left.{units_left}
use Rattle.peer_output.specs.Past.{Past, past_units, past_entries, requests_of, dues_of, NumberStands, IsAllSent, IsPast}
use Rattle.peer_events.specs.Core.{Core, stage_at, unwritten, unwritten_from, made_by}
use Rattle.peer_events.specs.Fits.{NumberFits, AtRest}
use Rattle.peer_events.specs.Inner.Known.{Known}
use Rattle.peer_events.specs.Turning.{due_bytes, written_stage, drained}
use Rattle.peer_events.proofs.Streams.{begins-itself, units-append}
use Rattle.peer_events.proofs.Written.{by-append, by-answers, by-unwritten, with_items, unwritten-past}

-- ---- of one number

begins-same : {A : Type 0} (xs ys : List A) → xs ≡ ys → Begins xs ys
begins-same xs ys same = subst (Begins xs) same (begins-itself xs)

none_more : (written sends : List Sending) → Begins written sends → Begins (written ++ []) sends
none_more written sends begins = subst (λ l. Begins l sends) (sym (append-nil written)) begins

all_now : (so_far : ℕ) (written sends made : List Sending) → written ≡ take so_far sends → sends ≡ made → written ++ drop so_far made ≡ sends
all_now so_far written sends made is same = ap (λ l. l ++ drop so_far made) is ∙ ap (λ l. take so_far sends ++ drop so_far l) (sym same) ∙ take-append-drop so_far sends

module _ (table : MethodTable) (is_over : Bool) (entries passed : List SeenEntry) (n : ℕ) (desk : Option OpenCall) (job : Option HandlerState) (sends written : List Sending) (took : Option Course) where
  number-begins : (stage : Stage) → NumberFits table is_over entries passed n stage desk job sends written took → Begins written sends → Begins (written ++ unwritten stage) sends
  number-begins Gone fits begins = none_more written sends begins
  number-begins (Faulty error) fits begins = none_more written sends begins
  number-begins (Idle h so_far) fits begins = begins-same (written ++ drop so_far (made_by h)) sends (all_now so_far written sends (made_by h) fits.4 fits.0.sends_are)
  number-begins (Out so_far) fits begins = none_more written sends begins
  number-begins (Over h so_far) fits begins = begins-same (written ++ unwritten (Over h so_far)) sends (all_now so_far written sends _ fits.3 fits.2.sends_are)
  number-begins Failed fits begins = none_more written sends begins

  number-all : (stage : Stage) (c : Course) → NumberFits table is_over entries passed n stage desk job sends written took → took ≡ Some c → written ++ unwritten stage ≡ sends
  number-all Gone c fits is = append-nil written ∙ fits.2
  number-all (Faulty error) c fits is = absurd (let none = fits.3 in cc)
  number-all (Idle h so_far) c fits is = absurd (let none = fits.0.unfinished in cc)
  number-all (Out so_far) c fits is = absurd (let none = fits.3.unfinished in cc)
  number-all (Over h so_far) c fits is = all_now so_far written sends _ fits.3 fits.2.sends_are
  number-all Failed c fits is = absurd (let none = fits.1 in cc)

  idle_written : (h : HandlerState) (so_far : ℕ) (now : List Sending) → sends ≡ made_by h → so_far ≤ length sends → now ≡ sends
      → (now ≡ take (max so_far (length h.messages)) sends) × (max so_far (length h.messages) ≤ length sends)
  idle_written h so_far now sends_are within is =
      let size : length sends ≡ length h.messages = ap length sends_are ∙ length-map h.messages message in
      (is ∙ sym (take_all (max so_far (length h.messages)) sends (omega arith)), omega arith)

  number-drained : (stage : Stage) → NumberFits table is_over entries passed n stage desk job sends written took
      → NumberFits table is_over entries passed n (written_stage stage) desk job sends (written ++ unwritten stage) took
  number-drained Gone fits = (fits.0, fits.1, append-nil written ∙ fits.2, fits.3)
  number-drained (Faulty error) fits = fits
  number-drained (Idle h so_far) fits =
      let all = idle_written h so_far (written ++ drop so_far (made_by h)) fits.0.sends_are fits.5 (all_now so_far written sends (made_by h) fits.4 fits.0.sends_are) in
      (fits.0, fits.1, fits.2, fits.3, all.0, all.1)
  number-drained (Out so_far) fits = (fits.0, fits.1, fits.2, fits.3, append-nil written ∙ fits.4, fits.5)
  number-drained (Over h so_far) fits =
      (fits.0, fits.1, all_now so_far written sends _ fits.3 fits.2.sends_are, inl (fits.2.course, fits.2.took_is))
  number-drained Failed fits = fits

-- ---- all of it

all-of : {A : Type 0} (P Q : A → Type 0) (xs : List A) → ((x : A) → P x → Q x) → All P xs → All Q xs
all-of P Q xs f h k d lt = f _ (h k d lt)

stands-all : (table : MethodTable) (is_over : Bool) (entries : List SeenEntry) (n : ℕ) (sends : List Sending) (took : Option Course) (c : Course) → took ≡ Some c
    → NumberStands table is_over entries n sends took → sends ≡ c.sends
stands-all table is_over entries n sends None c is stands = cc
stands-all table is_over entries n sends (Some d) c is stands = let same : d ≡ c = cc in stands.0 ∙ ap (λ (x : Course). x.sends) same

module _ (known : Known) (table : MethodTable) (is_over : Bool) (s : Core) (past : Past) (jobs : ℕ → Option HandlerState) (rest : AtRest table is_over s past jobs) where
  begins_if : (m : ℕ) → (m ≤ units_numbers (past_units past)) ⊎ (units_numbers (past_units past) < m)
      → Begins (sent_by m past.items ++ unwritten (stage_at s m)) (past.sends m)
  begins_if m (inl given) =
      number-begins table is_over (past_entries past) (past_entries past) m (number_at s.desk m) (jobs m) (past.sends m) (sent_by m past.items) (past.took m) (stage_at s m)
      (rest.each m given) (rest.past_is.written m)
  begins_if m (inr later) =
      let stages = rest.stages in
      let gone : stage_at s m ≡ Gone = get_or_past s.stages m Gone (omega arith) in
      subst (λ st. Begins (sent_by m past.items ++ unwritten st) (past.sends m)) (sym gone)
      (none_more (sent_by m past.items) (past.sends m) (rest.past_is.written m))

  sent_past : IsPast table is_over (with_items past (unwritten_from 0 s.stages))
  sent_past = unwritten-past known table is_over 0 s.stages past rest.past_is
      (λ m k is. let same : m ≡ k = omega arith in
      subst (λ j. Begins (sent_by m past.items ++ unwritten (get_or s.stages j Gone)) (past.sends m)) same (begins_if m (grind arith)))

  by_now : (m : ℕ) → sent_by m (past.items ++ unwritten_from 0 s.stages) ≡ sent_by m past.items ++ unwritten (stage_at s m)
  by_now m = by-append m past.items (unwritten_from 0 s.stages) ∙ ap (λ l. sent_by m past.items ++ l) (by-unwritten 0 m m s.stages (omega arith))

  given_if : (m : ℕ) (c : Course) → past.took m ≡ Some c → (m ≤ units_numbers (past_units past)) ⊎ (units_numbers (past_units past) < m) → m ≤ units_numbers (past_units past)
  given_if m c is (inl given) = given
  given_if m c is (inr later) = absurd (let none = (rest.past_is.later m later).1 in cc)

  sent_all : (m : ℕ) → (c : Course) × (past.took m ≡ Some c) → IsAllSent past.took (past.items ++ unwritten_from 0 s.stages) m
  sent_all m finished = record {
    course = finished.0;
    finished = finished.1;
    all = by_now m
        ∙ number-all table is_over (past_entries past) (past_entries past) m (number_at s.desk m) (jobs m) (past.sends m) (sent_by m past.items) (past.took m) (stage_at s m)
        finished.0 (rest.each m (given_if m finished.0 finished.1 (grind arith))) finished.1
        ∙ stands-all table is_over (past_entries past) m (past.sends m) (past.took m) finished.0 finished.1 (rest.past_is.numbers m);
  }

  module _ (front left : List SeenUnit) (split : past.left ≡ front ++ left)
      (whole : All (λ k. (c : Course) × (past.took k ≡ Some c)) (requests_of (1 + units_numbers past.released) front))
      (texts : filter_map unit_text (whole_front (units_left past.took (1 + units_numbers past.released) past.left))
      ≡ map (λ (due : Due). due.text) (dues_of past.took (1 + units_numbers past.released) front))
      (behind : behind_front (units_left past.took (1 + units_numbers past.released) past.left)
      ≡ units_left past.took (1 + units_numbers past.released + units_numbers front) left) where
    later : Past
    later = with_released (with_items past (unwritten_from 0 s.stages)) front left

    later_past : IsPast table is_over later
    unfolding later
    later_past = known.is_released table is_over (with_items past (unwritten_from 0 s.stages)) front left sent_past split
        (all-of (λ k. (c : Course) × (past.took k ≡ Some c)) (IsAllSent past.took (past.items ++ unwritten_from 0 s.stages)) (requests_of (1 + units_numbers past.released) front)
        sent_all whole)

    units_same : past_units later ≡ past_units past
    unfolding later
    units_same = append_assoc past.released front left ∙ ap (λ l. past.released ++ l) (sym split)

    by_later : (m : ℕ) → sent_by m later.items ≡ sent_by m past.items ++ unwritten (stage_at s m)
    unfolding later
    by_later m =
        let dues = dues_of past.took (1 + units_numbers past.released) front in
        by-append m (past.items ++ unwritten_from 0 s.stages) (map answered dues)
        ∙ ap (λ l. sent_by m (past.items ++ unwritten_from 0 s.stages) ++ l) (by-answers m dues)
        ∙ append-nil (sent_by m (past.items ++ unwritten_from 0 s.stages)) ∙ by_now m

    stage_later : (m : ℕ) → stage_at (drained s) m ≡ written_stage (stage_at s m)
    stage_later m = get_or-map written_stage s.stages m Gone

    each_later : (m : ℕ) → m ≤ units_numbers (past_units later)
        → NumberFits table is_over (past_entries later) (past_entries later) m (stage_at (drained s) m) (number_at (drained s).desk m) (jobs m) (later.sends m) (sent_by m later.items) (later.took m)
    unfolding later
    each_later m given =
        subst (λ us. NumberFits table is_over (entries_along us) (entries_along us) m (stage_at (drained s) m) (number_at s.desk m) (jobs m) (past.sends m) (sent_by m later.items) (past.took m))
        (sym units_same)
        (subst (λ st. NumberFits table is_over (past_entries past) (past_entries past) m st (number_at s.desk m) (jobs m) (past.sends m) (sent_by m later.items) (past.took m))
        (sym (stage_later m))
        (subst (λ l. NumberFits table is_over (past_entries past) (past_entries past) m (written_stage (stage_at s m)) (number_at s.desk m) (jobs m) (past.sends m) l (past.took m))
        (sym (by_later m))
        (number-drained table is_over (past_entries past) (past_entries past) m (number_at s.desk m) (jobs m) (past.sends m) (sent_by m past.items) (past.took m) (stage_at s m)
        (rest.each m (subst (λ us. m ≤ units_numbers us) units_same given)))))

    later_rest : AtRest table is_over (drained s) later jobs
    unfolding later
    later_rest = record {
      past_is = later_past;
      closed = rest.closed;
      units = ap behind_front rest.units ∙ behind
          ∙ ap (λ k. units_left past.took k left) (let place : 1 + units_numbers past.released + units_numbers front ≡ 1 + units_numbers (past.released ++ front) = omega (arith, units-append past.released front) in place);
      numbers = rest.numbers ∙ ap (λ us. 1 + units_numbers us) (sym units_same);
      stages = length-map s.stages written_stage ∙ rest.stages ∙ ap (λ us. 1 + units_numbers us) (sym units_same);
      passed_begin = begins-itself (past_entries later);
      each = each_later;
      no_more_jobs = λ m more. rest.no_more_jobs m (subst (λ us. units_numbers us < m) units_same more);
    }

    pub drained_to : (later : Past) × (dues : List Due) × AtRest table is_over (drained s) later jobs × (past_units later ≡ past_units past)
        × (map (λ (due : Due). due.text) dues ≡ front_texts s.desk) × (later.items ≡ past.items ++ unwritten_from 0 s.stages ++ map answered dues)
        × (later.sends ≡ past.sends) × (later.took ≡ past.took)
    unfolding later
    drained_to = (
      later,
      dues_of past.took (1 + units_numbers past.released) front,
      later_rest,
      units_same,
      sym (ap (λ us. filter_map unit_text (whole_front us)) rest.units ∙ texts),
      refl,
      refl,
      refl,
    )

  pub drained-rest : (later : Past) × (dues : List Due) × AtRest table is_over (drained s) later jobs × (past_units later ≡ past_units past)
      × (map (λ (due : Due). due.text) dues ≡ front_texts s.desk) × (later.items ≡ past.items ++ unwritten_from 0 s.stages ++ map answered dues)
      × (later.sends ≡ past.sends) × (later.took ≡ past.took)
  drained-rest =
      let front = known.left_front past.took (1 + units_numbers past.released) past.left in
      drained_to front.0 front.1 front.2 front.3 front.4 front.5

-- ---- the bytes

answers_bytes : (dues : List Due) → bytes_of (map answered dues) ≡ flat_map framed (map (λ (due : Due). due.text) dues)
answers_bytes [] = refl
answers_bytes (due ∷ dues) = ap (λ l. framed due.text ++ l) (answers_bytes dues)

pub items-bytes : (s : Core) (before after : List Item) (dues : List Due) → map (λ (due : Due). due.text) dues ≡ front_texts s.desk
    → after ≡ before ++ unwritten_from 0 s.stages ++ map answered dues → bytes_of after ≡ bytes_of before ++ due_bytes s
items-bytes s before after dues texts is =
    ap bytes_of is ∙ flat_map-append (λ item. framed (item_text item)) (before ++ unwritten_from 0 s.stages) (map answered dues)
    ∙ ap (λ l. l ++ bytes_of (map answered dues)) (flat_map-append (λ item. framed (item_text item)) before (unwritten_from 0 s.stages))
    ∙ ap (λ l. (bytes_of before ++ bytes_of (unwritten_from 0 s.stages)) ++ l) (answers_bytes dues ∙ ap (flat_map framed) texts)
    ∙ append_assoc (bytes_of before) (bytes_of (unwritten_from 0 s.stages)) (flat_map framed (front_texts s.desk))
