-- What numbers have sent that isn't written, and what is noted once it is.
use Rattle.std.proofs.Common.{◌≡◌, ℕ, zero, suc, ◌+◌, ◌<◌, ◌≤◌, max, List, [], ◌∷◌, ◌++◌, length, map, take, get_or, set, slice_get, Bool, true, false, cond, Some, None, refl, sym, ap, subst, ◌∙◌, append_assoc, append-nil, arith, length-append}
use Rattle.std.proofs.Math.Seq.{map-set_same}
use Rattle.std.proofs.lemmas.Bool.{ltb-false, le-ltb}
use Rattle.std.proofs.lemmas.List.{length-map, drop_all, take_more}
use Rattle.std.proofs.lemmas.Option.{slice_get_within, get_or_from_slice_get}
use Rattle.answer_desk.specs.State.{State, front_texts, without_front}
use Rattle.peer_events.specs.declared.stage.Stage.{Stage}
use Rattle.peer_events.specs.declared.stage.Stage.TheVariants.{Gone, Faulty, Idle, Out, Over, Failed}
use Rattle.peer_output.specs.Course.{message, withdrawal}
use Rattle.peer_output.specs.Items.{sent}
use Rattle.peer_events.specs.Stages.{is_gone}
use Rattle.peer_events.specs.Core.{Core, stage_at, with_stage, unwritten, unwritten_from}
use Rattle.peer_events.specs.Turning.{written_stage}
use Rattle.session_runs.specs.Runs.{NothingDue, StageFits, has_unwritten, is_idle, unwritten_numbers_from, unwritten_numbers, unwritten_of}

-- ---- of numbers, one after another

pub of-append : (core : Core) (ns ms : List ℕ) → unwritten_of core (ns ++ ms) ≡ unwritten_of core ns ++ unwritten_of core ms
of-append core [] ms = refl
of-append core (n ∷ ns) ms =
    ap (λ l. map (sent n) (unwritten (stage_at core n)) ++ l) (of-append core ns ms)
    ∙ sym (append_assoc (map (sent n) (unwritten (stage_at core n))) (unwritten_of core ns) (unwritten_of core ms))

-- one number more
pub of-more : (core : Core) (ns : List ℕ) (i n : ℕ) → slice_get ns i ≡ Some n
    → unwritten_of core (take (i + 1) ns) ≡ unwritten_of core (take i ns) ++ map (sent n) (unwritten (stage_at core n))
of-more core ns i n is =
    ap (unwritten_of core) (taken ns i n is)
    ∙ of-append core (take i ns) (n ∷ [])
    ∙ ap (λ l. unwritten_of core (take i ns) ++ l) (append-nil (map (sent n) (unwritten (stage_at core n))))
  where
    taken : (ns : List ℕ) (i n : ℕ) → slice_get ns i ≡ Some n → take (i + 1) ns ≡ take i ns ++ n ∷ []
    taken ns i n is =
        let within : i < length ns = slice_get_within ns i n is in
        take_more ns i n within ∙ ap (λ x. take i ns ++ x ∷ []) (get_or_from_slice_get ns i n n is)

-- where nothing more is to be written, nothing is unwritten
none-unwritten : (stage : Stage) → has_unwritten stage ≡ false → unwritten stage ≡ []
none-unwritten Gone is = refl
none-unwritten (Faulty error) is = refl
none-unwritten (Idle h so_far) is =
    drop_all so_far (map message h.messages) (omega (arith, ltb-false so_far (length h.messages) is, length-map h.messages message))
none-unwritten (Out so_far) is = refl
none-unwritten (Over h so_far) is =
    drop_all so_far (map message h.messages ++ map withdrawal h.waits)
    (omega (
      arith,
      ltb-false so_far (length h.messages + length h.waits) is,
      length-append (map message h.messages) (map withdrawal h.waits),
      length-map h.messages message,
      length-map h.waits withdrawal,
    ))
none-unwritten Failed is = refl

all_if : (core : Core) (m : ℕ) (stage : Stage) (stages : List Stage) (b : Bool) → has_unwritten stage ≡ b → stage ≡ stage_at core m
    → unwritten_of core (unwritten_numbers_from (m + 1) stages) ≡ unwritten_from (m + 1) stages
    → unwritten_of core (cond b (m ∷ unwritten_numbers_from (m + 1) stages) (unwritten_numbers_from (m + 1) stages)) ≡ map (sent m) (unwritten stage) ++ unwritten_from (m + 1) stages
all_if core m stage stages true some is rest = ap (λ st. map (sent m) (unwritten st) ++ unwritten_of core (unwritten_numbers_from (m + 1) stages)) (sym is)
    ∙ ap (λ l. map (sent m) (unwritten stage) ++ l) rest
all_if core m stage stages false none is rest = rest ∙ ap (λ l. map (sent m) l ++ unwritten_from (m + 1) stages) (sym (none-unwritten stage none))

pub of-all : (core : Core) (m : ℕ) (stages : List Stage) → ((k : ℕ) → get_or stages k Gone ≡ stage_at core (m + k))
    → unwritten_of core (unwritten_numbers_from m stages) ≡ unwritten_from m stages
of-all core m [] same = refl
of-all core m (stage ∷ stages) same =
    all_if core m stage stages (has_unwritten stage) refl (same 0 ∙ ap (stage_at core) (let here : m + 0 ≡ m = omega arith in here))
    (of-all core (m + 1) stages (λ k. same (suc k) ∙ ap (stage_at core) (let here : m + suc k ≡ m + 1 + k = omega arith in here)))

pub all-of : (core : Core) → unwritten_of core (unwritten_numbers core) ≡ unwritten_from 0 core.stages
all-of core = of-all core 0 core.stages (λ k. ap (stage_at core) (let here : k ≡ 0 + k = omega arith in here))

-- ---- what was written is noted

pub set-again : {X : Type 0} (xs : List X) (n : ℕ) (a b : X) → set (set xs n a) n b ≡ set xs n b
set-again [] n a b = refl
set-again (x ∷ xs) zero a b = refl
set-again (x ∷ xs) (suc n) a b = ap (λ l. x ∷ l) (set-again xs n a b)

max-again : (a b : ℕ) → max (max a b) b ≡ max a b
max-again a b = omega arith

written-again : (stage : Stage) → written_stage (written_stage stage) ≡ written_stage stage
written-again Gone = refl
written-again (Faulty error) = refl
written-again (Idle h so_far) = ap (Idle h) (max-again so_far (length h.messages))
written-again (Out so_far) = refl
written-again (Over h so_far) = refl
written-again Failed = refl

pub noted-same : (stages : List Stage) (n : ℕ) → map written_stage (set stages n (written_stage (get_or stages n Gone))) ≡ map written_stage stages
noted-same stages n = map-set_same written_stage stages n (written_stage (get_or stages n Gone)) Gone (written-again (get_or stages n Gone))

-- a stage that was written has no more
written-none : (stage : Stage) → has_unwritten (written_stage stage) ≡ false
written-none Gone = refl
written-none (Faulty error) = refl
written-none (Idle h so_far) = le-ltb (max so_far (length h.messages)) (length h.messages) (omega arith)
written-none (Out so_far) = refl
written-none (Over h so_far) = refl
written-none Failed = refl

fewer_if : (m : ℕ) (ns : List ℕ) (a b : Bool) → a ≡ true → b ≡ false → length (cond b (m ∷ ns) ns) < length (cond a (m ∷ ns) ns)
fewer_if m ns true b is none = ap_less m ns b none
  where
    ap_less : (m : ℕ) (ns : List ℕ) (b : Bool) → b ≡ false → length (cond b (m ∷ ns) ns) < suc (length ns)
    ap_less m ns true none = cc
    ap_less m ns false none = omega arith
fewer_if m ns false b is none = cc

more_if : (m : ℕ) (ns ms : List ℕ) (b : Bool) → length ns < length ms → length (cond b (m ∷ ns) ns) < length (cond b (m ∷ ms) ms)
more_if m ns ms true less = omega arith
more_if m ns ms false less = less

pub noted-fewer : (m n : ℕ) (stages : List Stage) → has_unwritten (get_or stages n Gone) ≡ true
    → length (unwritten_numbers_from m (set stages n (written_stage (get_or stages n Gone)))) < length (unwritten_numbers_from m stages)
noted-fewer m n [] some = cc
noted-fewer m zero (stage ∷ stages) some =
    fewer_if m (unwritten_numbers_from (m + 1) stages) (has_unwritten stage) (has_unwritten (written_stage stage)) some (written-none stage)
noted-fewer m (suc n) (stage ∷ stages) some =
    more_if m (unwritten_numbers_from (m + 1) (set stages n (written_stage (get_or stages n Gone)))) (unwritten_numbers_from (m + 1) stages) (has_unwritten stage)
    (noted-fewer (m + 1) n stages some)

-- the first of those that have something to write
first_if : (m n : ℕ) (stage : Stage) (stages : List Stage) (b : Bool) → has_unwritten stage ≡ b
    → slice_get (cond b (m ∷ unwritten_numbers_from (m + 1) stages) (unwritten_numbers_from (m + 1) stages)) 0 ≡ Some n
    → (slice_get (unwritten_numbers_from (m + 1) stages) 0 ≡ Some n → (k : ℕ) × (n ≡ m + 1 + k) × (has_unwritten (get_or stages k Gone) ≡ true))
    → (k : ℕ) × (n ≡ m + k) × (has_unwritten (get_or (stage ∷ stages) k Gone) ≡ true)
first_if m n stage stages true some is later = (0, (let same : m ≡ n = cc in omega arith), some)
first_if m n stage stages false none is later = let found = later is in (suc found.0, (let at = found.1 in omega arith), found.2)

first-from : (m n : ℕ) (stages : List Stage) → slice_get (unwritten_numbers_from m stages) 0 ≡ Some n → (k : ℕ) × (n ≡ m + k) × (has_unwritten (get_or stages k Gone) ≡ true)
first-from m n [] is = cc
first-from m n (stage ∷ stages) is = first_if m n stage stages (has_unwritten stage) refl is (first-from (m + 1) n stages)

pub first-unwritten : (core : Core) (n : ℕ) → slice_get (unwritten_numbers core) 0 ≡ Some n → has_unwritten (stage_at core n) ≡ true
first-unwritten core n is =
    let found = first-from 0 n core.stages is in
    subst (λ k. has_unwritten (stage_at core k) ≡ true) (let same : found.0 ≡ n = let at = found.1 in omega arith in same) found.2

pub none-first : (ns : List ℕ) → slice_get ns 0 ≡ None → ns ≡ []
none-first [] is = refl
none-first (n ∷ ns) is = cc

-- where nothing is unwritten, all stages are written
stage_done : (desk : State) (n : ℕ) (stage : Stage) → StageFits desk n stage → has_unwritten stage ≡ false → written_stage stage ≡ stage
stage_done desk n Gone fits none = refl
stage_done desk n (Faulty error) fits none = refl
stage_done desk n (Idle h so_far) fits none = let less = ltb-false so_far (length h.messages) none in ap (Idle h) (let same : max so_far (length h.messages) ≡ so_far = omega arith in same)
stage_done desk n (Out so_far) fits none = refl
stage_done desk n (Over h so_far) fits none = cc
stage_done desk n Failed fits none = refl

none_if : (m : ℕ) (ns : List ℕ) (b : Bool) → cond b (m ∷ ns) ns ≡ [] → (b ≡ false) × (ns ≡ [])
none_if m ns true is = cc
none_if m ns false is = (refl, is)

pub all-noted : (desk : State) (m : ℕ) (stages : List Stage) → unwritten_numbers_from m stages ≡ [] → ((k : ℕ) → StageFits desk (m + k) (get_or stages k Gone))
    → map written_stage stages ≡ stages
all-noted desk m [] none fits = refl
all-noted desk m (stage ∷ stages) none fits =
    let here = none_if m (unwritten_numbers_from (m + 1) stages) (has_unwritten stage) none in
    ap (λ st. st ∷ map written_stage stages) (stage_done desk (m + 0) stage (fits 0) here.0)
    ∙ ap (λ l. stage ∷ l) (all-noted desk (m + 1) stages here.1 (λ k. subst (λ j. StageFits desk j (get_or stages k Gone)) (let same : m + suc k ≡ m + 1 + k = omega arith in same) (fits (suc k))))

pub noted : (s between after : Core) (n : ℕ) (first last : Stage) → between ≡ with_stage s n first → after ≡ with_stage between n last → after ≡ with_stage s n last
noted s between after n first last p q =
    q ∙ ap (λ (c : Core). with_stage c n last) p ∙ ap (λ l. record s { stages = l }) (set-again s.stages n first last)

pub done-noted : (core : Core) → slice_get (unwritten_numbers core) 0 ≡ None → ((n : ℕ) → StageFits core.desk n (stage_at core n)) → map written_stage core.stages ≡ core.stages
done-noted core none fits =
    all-noted core.desk 0 core.stages (none-first (unwritten_numbers core) none)
    (λ k. subst (λ j. StageFits core.desk j (get_or core.stages k Gone)) (let same : k ≡ 0 + k = omega arith in same) (fits k))

none-of-few : (ns : List ℕ) → length ns ≤ 0 → ns ≡ []
none-of-few [] few = refl
none-of-few (n ∷ ns) few = absurd (omega (arith, few))

-- where no number has something to write, and no answer is due, a drain changes nothing
pub nothing-due : (core : Core) → length (unwritten_numbers core) ≤ 0 → ((n : ℕ) → StageFits core.desk n (stage_at core n)) → front_texts core.desk ≡ []
    → without_front core.desk ≡ core.desk → NothingDue core
nothing-due core few fits none same =
    let numbers : unwritten_numbers core ≡ [] = none-of-few (unwritten_numbers core) few in
    let stages : map written_stage core.stages ≡ core.stages = done-noted core (ap (λ ns. slice_get ns 0) numbers) fits in
    record {
      sendings = sym (all-of core) ∙ ap (unwritten_of core) numbers;
      answers = none;
      same = λ i. record { desk = same i; stages = stages i };
    }

pub same-core : (s t : Core) → s.desk ≡ t.desk → s.stages ≡ t.stages → s ≡ t
same-core s t p q = λ i. record { desk = p i; stages = q i }

-- a number that has something to write isn't gone, and is over where its handler isn't here
pub unwritten-here : (stage : Stage) → has_unwritten stage ≡ true → is_gone stage ≡ false
unwritten-here Gone some = cc
unwritten-here (Faulty error) some = refl
unwritten-here (Idle h so_far) some = refl
unwritten-here (Out so_far) some = refl
unwritten-here (Over h so_far) some = refl
unwritten-here Failed some = refl

pub unwritten-over : (stage : Stage) → has_unwritten stage ≡ true → is_idle stage ≡ false → written_stage stage ≡ Gone
unwritten-over Gone some away = refl
unwritten-over (Faulty error) some away = cc
unwritten-over (Idle h so_far) some away = cc
unwritten-over (Out so_far) some away = cc
unwritten-over (Over h so_far) some away = refl
unwritten-over Failed some away = cc
