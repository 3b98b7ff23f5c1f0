-- The runs after a unit was opened: each of its calls has a number.
use Rattle.std.proofs.Common.{◌≡◌, ℕ, zero, suc, ◌+◌, ◌-◌, ◌<◌, ◌≤◌, List, [], ◌∷◌, ◌++◌, length, slice_index_or, nat_le, Bool, true, false, None, is_some, true≢false, refl, sym, ap, subst, ◌∙◌, arith}
use Rattle.std.proofs.lemmas.List.{get_or_append_left, get_or-append_right, get_or_past, length-append}
use Rattle.number_set.specs.Numbers.{Marked, HasRoom, is_in}
use Rattle.rpc_messages.specs.Entry.{SeenEntry, call, reply, stray, invalid}
use Rattle.rpc_messages.specs.Numbering.{numbers_in, entries_in, unit_numbers}
use Rattle.rpc_messages.specs.Unit.{SeenUnit, unreadable, single, batch}
use Rattle.method_steps.specs.Steps.{MethodTable}
use Rattle.answer_desk.specs.Places.{new_numbers}
use Rattle.answer_desk.specs.State.{State, is_open}
use Rattle.peer_events.specs.declared.stage.Stage.{Stage}
use Rattle.peer_events.specs.declared.stage.Stage.TheVariants.{Gone}
use Rattle.peer_events.specs.Stages.{is_gone}
use Rattle.peer_output.specs.Work.{Work, nothing, fault, run, call_work}
use Rattle.peer_events.specs.Core.{Core, stage_at}
use Rattle.peer_events.specs.Taking.{stage_for, stages_for, places_of_entries, places_of_unit, opened}
use Rattle.peer_events.specs.Turning.{is_ready_stage}
use Rattle.session_runs.specs.Runs.{AreRuns, StageFits, has_unwritten}
use Rattle.session_runs.proofs.Boards.{SameBoard, slots_of, same-stage, same-open, fits-stage}

-- ---- how many there are

pub stages-many : (table : MethodTable) (n : ℕ) (es : List SeenEntry) → length (stages_for table n es) ≡ numbers_in es
stages-many table n [] = refl
stages-many table n (call c ∷ es) = omega (arith, stages-many table (n + 1) es)
stages-many table n (reply m t r ∷ es) = omega (arith, stages-many table (n + 0) es)
stages-many table n (stray ∷ es) = omega (arith, stages-many table (n + 0) es)
stages-many table n (invalid ∷ es) = omega (arith, stages-many table (n + 0) es)

numbers-among : (table : MethodTable) (es : List SeenEntry) → length (new_numbers (places_of_entries table es)) ≡ numbers_in es
numbers-among table [] = refl
numbers-among table (call c ∷ es) = omega (arith, numbers-among table es)
numbers-among table (reply m t r ∷ es) = omega (arith, numbers-among table es)
numbers-among table (stray ∷ es) = omega (arith, numbers-among table es)
numbers-among table (invalid ∷ es) = omega (arith, numbers-among table es)

unit-numbers : (table : MethodTable) (u : SeenUnit) → new_numbers (places_of_unit table u) ≡ new_numbers (places_of_entries table (entries_in u))
unit-numbers table unreadable = refl
unit-numbers table (single e) = refl
unit-numbers table (batch es) = refl

pub numbers-many : (table : MethodTable) (u : SeenUnit) → length (new_numbers (places_of_unit table u)) ≡ unit_numbers u
numbers-many table u = ap length (unit-numbers table u) ∙ numbers-among table (entries_in u)

-- ---- what is new fits

fresh-fits : (d : State) (n : ℕ) (w : Work) → is_open d n ≡ true → StageFits d n (stage_for n w)
fresh-fits d n nothing given = tt
fresh-fits d n (fault error) given = given
fresh-fits d n (run program) given = (given, refl)

fresh-unwritten : (n : ℕ) (w : Work) → has_unwritten (stage_for n w) ≡ false
fresh-unwritten n nothing = refl
fresh-unwritten n (fault error) = refl
fresh-unwritten n (run program) = refl

new-fits : (table : MethodTable) (d : State) (n : ℕ) (es : List SeenEntry) (k m : ℕ) → m ≡ n + k → is_open d m ≡ true → StageFits d m (slice_index_or (stages_for table n es) k Gone)
new-fits table d n [] k m is given = tt
new-fits table d n (call c ∷ es) zero m is given = subst (λ j. StageFits d m (stage_for j (call_work table c))) (omega (arith, is)) (fresh-fits d m (call_work table c) given)
new-fits table d n (call c ∷ es) (suc k) m is given = new-fits table d (n + 1) es k m (omega (arith, is)) given
new-fits table d n (reply a t r ∷ es) k m is given = new-fits table d (n + 0) es k m (omega (arith, is)) given
new-fits table d n (stray ∷ es) k m is given = new-fits table d (n + 0) es k m (omega (arith, is)) given
new-fits table d n (invalid ∷ es) k m is given = new-fits table d (n + 0) es k m (omega (arith, is)) given

new-unwritten : (table : MethodTable) (n : ℕ) (es : List SeenEntry) (k : ℕ) → has_unwritten (slice_index_or (stages_for table n es) k Gone) ≡ false
new-unwritten table n [] k = refl
new-unwritten table n (call c ∷ es) zero = fresh-unwritten n (call_work table c)
new-unwritten table n (call c ∷ es) (suc k) = new-unwritten table (n + 1) es k
new-unwritten table n (reply a t r ∷ es) k = new-unwritten table (n + 0) es k
new-unwritten table n (stray ∷ es) k = new-unwritten table (n + 0) es k
new-unwritten table n (invalid ∷ es) k = new-unwritten table (n + 0) es k

new-open : (table : MethodTable) (es : List SeenEntry) (k : ℕ) → k < numbers_in es → is_some (slice_index_or (new_numbers (places_of_entries table es)) k None) ≡ true
new-open table [] k among = absurd (omega (arith, among))
new-open table (call c ∷ es) zero among = refl
new-open table (call c ∷ es) (suc k) among = new-open table es k (omega (arith, among))
new-open table (reply a t r ∷ es) k among = new-open table es k (omega (arith, among))
new-open table (stray ∷ es) k among = new-open table es k (omega (arith, among))
new-open table (invalid ∷ es) k among = new-open table es k (omega (arith, among))

-- ---- the runs

-- sets of the same numbers, with room for all that aren't gone
pub AreRuns-roomed : (core : Core) (r u r' u' : Marked) → ((k : ℕ) → is_in r' k ≡ is_in r k) → ((k : ℕ) → is_in u' k ≡ is_in u k)
    → ((k : ℕ) → is_gone (stage_at core k) ≡ false → HasRoom r' k × HasRoom u' k) → AreRuns core r u → AreRuns core r' u'
AreRuns-roomed core r u r' u' same_r same_u room inv = record {
  numbers = inv.numbers;
  few = inv.few;
  fits = inv.fits;
  ready = λ k. same_r k ∙ inv.ready k;
  unwritten = λ k. same_u k ∙ inv.unwritten k;
  room = room;
}

-- the unit's numbers stand behind the others, and those that are ready are marked
pub AreRuns-opened : (table : MethodTable) (core : Core) (u : SeenUnit) (r r' w : Marked) (first : ℕ) → first ≤ length core.stages → length core.stages + unit_numbers u ≤ 1000001
    → ((k : ℕ) → k < first → stage_at core k ≡ Gone) → ((k : ℕ) → first ≤ k → k < length core.stages + unit_numbers u → HasRoom r' k × HasRoom w k)
    → ((k : ℕ) → length core.stages ≤ k → k < length core.stages + unit_numbers u → is_in r' k ≡ is_ready_stage (opened table core u).desk (stage_at (opened table core u) k))
    → ((k : ℕ) → k < length core.stages → is_in r' k ≡ is_in r k) → ((k : ℕ) → length core.stages + unit_numbers u ≤ k → is_in r' k ≡ is_in r k)
    → AreRuns core r w → AreRuns (opened table core u) r' w
AreRuns-opened table core u r r' w first order fits gone room within below beyond inv =
    record {
      numbers = length-append core.stages fresh ∙ omega (arith, stages-many table many es, numbers-many table u, inv.numbers, length-append core.desk.numbers (new_numbers (places_of_unit table u)));
      few = omega (arith, length-append core.stages fresh, stages-many table many es, fits);
      fits = λ k. by_place (λ n. StageFits d n (stage_at after n)) k fits-before fits-behind;
      ready = λ k. by_place (λ n. is_in r' n ≡ is_ready_stage d (stage_at after n)) k ready-before ready-behind;
      unwritten = λ k. by_place (λ n. is_in w n ≡ has_unwritten (stage_at after n)) k unwritten-before unwritten-behind;
      room = λ k here. room k (reached k here) (here-below k here);
    }
  where
    es : List SeenEntry
    es = entries_in u

    many : ℕ
    many = length core.stages

    fresh : List Stage
    fresh = stages_for table many es

    after : Core
    after = opened table core u

    d : State
    d = after.desk

    by_place : (P : ℕ → Type 0) (k : ℕ) → ((n : ℕ) → n < many → P n) → ((n : ℕ) → many ≤ n → P n) → P k
    by_place P k before behind = at (nat_le many k) refl
      where
        at : (is : Bool) → nat_le many k ≡ is → P k
        at true is = behind k (grind (arith, is))
        at false is = before k (grind (arith, is))

    stage-before : (k : ℕ) → k < many → stage_at after k ≡ stage_at core k
    stage-before k lt = get_or_append_left core.stages fresh Gone k lt

    stage-behind : (k : ℕ) → many ≤ k → stage_at after k ≡ slice_index_or fresh (k - many) Gone
    stage-behind k le = get_or-append_right core.stages fresh many k Gone refl le

    board : (k : ℕ) → k < many → SameBoard core.desk d k
    board k lt = record { slots = ap slots_of (get_or_append_left core.desk.numbers (new_numbers (places_of_unit table u)) None k (omega (arith, lt, inv.numbers))); closed = refl }

    gone-behind : (k : ℕ) → many + unit_numbers u ≤ k → stage_at after k ≡ Gone
    gone-behind k le = get_or_past (core.stages ++ fresh) k Gone (omega (arith, le, length-append core.stages fresh, stages-many table many es))

    given : (k : ℕ) → many ≤ k → k < many + unit_numbers u → is_open d k ≡ true
    given k le lt =
        ap is_some (get_or-append_right core.desk.numbers (new_numbers (places_of_unit table u)) many k None (sym inv.numbers) le
        ∙ ap (λ numbers. slice_index_or numbers (k - many) None) (unit-numbers table u))
        ∙ new-open table es (k - many) (omega (arith, le, lt))

    fits-before : (k : ℕ) → k < many → StageFits d k (stage_at after k)
    fits-before k lt = subst (StageFits d k) (sym (stage-before k lt)) (fits-stage core.desk d k (stage_at core k) (same-open core.desk d k (board k lt)) (inv.fits k))

    fits-behind : (k : ℕ) → many ≤ k → StageFits d k (stage_at after k)
    fits-behind k le = at (nat_le (many + unit_numbers u) k) refl
      where
        at : (is : Bool) → nat_le (many + unit_numbers u) k ≡ is → StageFits d k (stage_at after k)
        at true is = subst (StageFits d k) (sym (gone-behind k (grind (arith, is)))) tt
        at false is = subst (StageFits d k) (sym (stage-behind k le)) (new-fits table d many es (k - many) k (omega (arith, le)) (given k le (grind (arith, is))))

    ready-before : (k : ℕ) → k < many → is_in r' k ≡ is_ready_stage d (stage_at after k)
    ready-before k lt =
        below k lt ∙ inv.ready k ∙ sym (same-stage core.desk d k (stage_at core k) (board k lt) (inv.fits k)) ∙ ap (is_ready_stage d) (sym (stage-before k lt))

    ready-behind : (k : ℕ) → many ≤ k → is_in r' k ≡ is_ready_stage d (stage_at after k)
    ready-behind k le = at (nat_le (many + unit_numbers u) k) refl
      where
        at : (is : Bool) → nat_le (many + unit_numbers u) k ≡ is → is_in r' k ≡ is_ready_stage d (stage_at after k)
        at true is =
            let past : many + unit_numbers u ≤ k = grind (arith, is) in
            beyond k past ∙ inv.ready k ∙ ap (is_ready_stage core.desk) (get_or_past core.stages k Gone le) ∙ ap (is_ready_stage d) (sym (gone-behind k past))
        at false is = within k le (grind (arith, is))

    unwritten-before : (k : ℕ) → k < many → is_in w k ≡ has_unwritten (stage_at after k)
    unwritten-before k lt = inv.unwritten k ∙ ap has_unwritten (sym (stage-before k lt))

    unwritten-behind : (k : ℕ) → many ≤ k → is_in w k ≡ has_unwritten (stage_at after k)
    unwritten-behind k le =
        inv.unwritten k ∙ ap has_unwritten (get_or_past core.stages k Gone le) ∙ sym (new-unwritten table many es (k - many)) ∙ ap has_unwritten (sym (stage-behind k le))

    here-below : (k : ℕ) → is_gone (stage_at after k) ≡ false → k < many + unit_numbers u
    here-below k here = at (nat_le (many + unit_numbers u) k) refl
      where
        at : (is : Bool) → nat_le (many + unit_numbers u) k ≡ is → k < many + unit_numbers u
        at true is = absurd (true≢false (sym (ap is_gone (gone-behind k (grind (arith, is)))) ∙ here))
        at false is = grind (arith, is)

    reached : (k : ℕ) → is_gone (stage_at after k) ≡ false → first ≤ k
    reached k here = at (nat_le first k) refl
      where
        at : (is : Bool) → nat_le first k ≡ is → first ≤ k
        at true is = grind (arith, is)
        at false is =
            let before : k < first = grind (arith, is) in
            absurd (true≢false (sym (ap is_gone (stage-before k (omega (arith, before, order)) ∙ gone k before)) ∙ here))

-- a number that isn't gone lies between the lowest of these and the last
pub given-here : (stages : List Stage) (first k : ℕ) → ((n : ℕ) → n < first → slice_index_or stages n Gone ≡ Gone) → is_gone (slice_index_or stages k Gone) ≡ false
    → (first ≤ k) × (k < length stages)
given-here stages first k gone here = (low (nat_le first k) refl, high (nat_le (length stages) k) refl)
  where
    low : (is : Bool) → nat_le first k ≡ is → first ≤ k
    low true is = grind (arith, is)
    low false is = absurd (true≢false (sym (ap is_gone (gone k (grind (arith, is)))) ∙ here))

    high : (is : Bool) → nat_le (length stages) k ≡ is → k < length stages
    high true is = absurd (true≢false (sym (ap is_gone (get_or_past stages k Gone (grind (arith, is)))) ∙ here))
    high false is = grind (arith, is)
