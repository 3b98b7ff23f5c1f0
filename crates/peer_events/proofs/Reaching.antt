-- A cancel reaches requests before it, one after another: those that are here are finished.
use Rattle.std.proofs.Common.{◌≡◌, ◌≢◌, ℕ, ◌+◌, ◌<◌, ◌≤◌, List, [], ◌∷◌, ◌++◌, length, map, Bool, true, false, cond, ◌&&◌, nat_lt, Option, Some, None, ◌⊎◌, inl, inr, refl, sym, ap, subst, ◌∙◌, arith, rules}
use Rattle.std.proofs.lemmas.Bool.{cases_lt, cases_eq, ltb-true}
use Rattle.std.specs.Option.{option_map}
use Rattle.rpc_messages.specs.declared.call.Call.{Call}
use Rattle.message_ids.specs.declared.id.Id.{Id}
use Rattle.rpc_messages.specs.declared.reply.Reply.TheVariants.{Standard as Fixed}
use Rattle.message_ids.specs.declared.standard.Standard.{Standard}
use Rattle.message_ids.specs.declared.standard.Standard.TheVariants.{Cancelled}
use Rattle.rpc_messages.specs.Entry.{SeenEntry, call}
use Rattle.rpc_messages.specs.Numbering.{numbers_in, units_numbers}
use Rattle.method_steps.specs.Steps.{MethodTable}
use Rattle.answer_desk.specs.State.{State, number_at, NoneInReachBelow, IsLowestInReach, with_reached}
use Rattle.open_numbers.specs.OpenCalls.{marked, is_in_reach, is_marked_number}
use Rattle.handler_future.specs.State.{HandlerState}
use Rattle.peer_events.specs.declared.stage.Stage.{Stage}
use Rattle.peer_events.specs.declared.stage.Stage.TheVariants.{Gone, Faulty, Idle, Out, Over, Failed}
use Rattle.peer_output.specs.Cancelled.{Begins}
use Rattle.peer_output.specs.Course.{Sending, message, withdrawal, Course}
use Rattle.peer_output.specs.Events.{with_course}
use Rattle.peer_output.specs.Items.{sent_by}
use Rattle.peer_output.specs.Past.{Past, past_units, past_entries}
use Rattle.peer_events.specs.Core.{Core, stage_at, with_desk}
use Rattle.peer_events.specs.Finishing.{over_or_gone, cancelled, cancelled_course, told_at, told, Reaches}
use Rattle.peer_events.specs.Finishing.Reaches.{none_left, lowest}
use Rattle.peer_events.specs.Fits.{RunFits, NumberFits, Fits}
use Rattle.peer_events.specs.Hearing.{hear_waits}
use Rattle.peer_events.specs.Passing.{StaysAsItWas, unanswered, EndsByCancel, PassesNumber, Passes}
use Rattle.peer_events.specs.Inner.Known.{Known}
use Rattle.peer_events.proofs.Beside.{FitsAt, FitsAlong, Beside, along-fits, along-same, along-beside, beside-along, beside-same, beside-changed}
use Rattle.peer_events.proofs.Cancelled.{IsHere, cancelled-fits}
use Rattle.peer_events.proofs.Carried.{slot-carried}
use Rattle.peer_events.proofs.Hears.{HasHeard, waits-heard}
use Rattle.peer_events.proofs.Marks.{reach-open, reach-id, reached-out}
use Rattle.peer_events.proofs.Passed.{mark-with, unreached-fits}
use Rattle.peer_events.proofs.Passing.{PassesTo, passes-nothing, passes-on}
use Rattle.peer_events.proofs.Pointwise.{at-here, at-elsewhere, stage-elsewhere, next-reached, number-past}
use Rattle.peer_events.proofs.Streams.{begins-append, begins-front, reply-other}
use Rattle.peer_events.proofs.Unanswered.{waits-unanswered}
use Rattle.peer_events.proofs.Waits.{rest-last}

given-below : (d : State) (n : ℕ) → number_at d n ≢ None → n < length d.numbers
given-below d n some = by_place (cases_lt n (length d.numbers))
  where
    by_place : (n < length d.numbers) ⊎ (length d.numbers ≤ n) → n < length d.numbers
    by_place (inl below) = below
    by_place (inr past) = absurd (some (number-past d n past))

is-below : (a b : ℕ) → a < b → nat_lt a b ≡ true
is-below a b is = search (rules, is)

both : (a b : Bool) → a ≡ true → b ≡ true → (a && b) ≡ true
both true true is also = refl
both true false is also = cc
both false b is also = cc

either : (a b : Bool) → (b ≡ true → a ≡ false) → (a && b) ≡ false
either true true out = out refl
either true false out = refl
either false b out = refl

first-out : (a b : Bool) → (a && b) ≡ false → b ≡ true → a ≡ false
first-out true b is also = let clash : b ≡ false = is in cc
first-out false b is also = refl

-- ---- while a cancel goes on

-- a number that the cancel has yet to reach stands before it, and any other behind it
abbrev place : List SeenEntry → SeenEntry → Id → State → ℕ → List SeenEntry
place passed e id d n = cond (is_in_reach id (number_at d n) && nat_lt n (1 + numbers_in passed)) passed (passed ++ e ∷ [])

record GoesOn (table : MethodTable) (passed : List SeenEntry) (e : SeenEntry) (id : Id) (s : Core) (past : Past) (jobs : ℕ → Option HandlerState) : Type 0 where
  pub along : FitsAlong table false (place passed e id s.desk) s past jobs
  pub more : Begins (passed ++ e ∷ []) (past_entries past)

record GoesTo (table : MethodTable) (passed : List SeenEntry) (e : SeenEntry) (id : Id) (s after : Core) (past : Past) (jobs : ℕ → Option HandlerState) :
    Type 0 where
  pub later : Past
  pub goes_on : GoesOn table passed e id after later jobs
  pub passes : Passes s after past later

place-if : (passed behind entries : List SeenEntry) → Begins passed entries → Begins behind entries → (b : Bool) → Begins (cond b passed behind) entries
place-if passed behind entries begins more true = begins
place-if passed behind entries begins more false = more

place-open : (passed : List SeenEntry) (e : SeenEntry) (id : Id) (d : State) (n : ℕ) → is_in_reach id (number_at d n) ≡ true → n < 1 + numbers_in passed → place passed e id d n ≡ passed
place-open passed e id d n reached below =
    ap (λ b. cond b passed (passed ++ e ∷ [])) (both (is_in_reach id (number_at d n)) (nat_lt n (1 + numbers_in passed)) reached (is-below n (1 + numbers_in passed) below))

place-out : (passed : List SeenEntry) (e : SeenEntry) (id : Id) (d : State) (n : ℕ) → (n < 1 + numbers_in passed → is_in_reach id (number_at d n) ≡ false)
    → place passed e id d n ≡ passed ++ e ∷ []
place-out passed e id d n out =
    ap (λ b. cond b passed (passed ++ e ∷ []))
    (either (is_in_reach id (number_at d n)) (nat_lt n (1 + numbers_in passed)) (λ below. out (ltb-true n (1 + numbers_in passed) below)))

place-same : (passed : List SeenEntry) (e : SeenEntry) (id : Id) (d was : State) (n : ℕ) → number_at d n ≡ number_at was n → place passed e id d n ≡ place passed e id was n
place-same passed e id d was n same = ap (λ o. cond (is_in_reach id o && nat_lt n (1 + numbers_in passed)) passed (passed ++ e ∷ [])) same

-- ---- one step of it

module _ (known : Known) (table : MethodTable) (passed : List SeenEntry) (c : Call) (id : Id) (target : c.target ≡ Some id) (jobs : ℕ → Option HandlerState)
    (s : Core) (past : Past) (goes : GoesOn table passed (call c) id s past jobs) (n : ℕ) (low : n < 1 + numbers_in passed)
    (reached : is_in_reach id (number_at s.desk n) ≡ true) where
  is_given : n ≤ units_numbers (past_units past)
  is_given = let numbers = goes.along.numbers in omega (arith, given-below s.desk n (reach-open id (number_at s.desk n) reached))

  here-passed : n ≤ numbers_in passed
  here-passed = omega (arith, low)

  marked_desk : Core
  marked_desk = with_desk s (with_reached s.desk (Some n))

  now-marked : number_at marked_desk.desk n ≡ option_map marked (number_at s.desk n)
  unfolding marked_desk
  now-marked = known.reached_here s.desk n

  -- it stands behind the cancel now
  place-here : place passed (call c) id marked_desk.desk n ≡ passed ++ call c ∷ []
  place-here = place-out passed (call c) id marked_desk.desk n (λ below. ap (is_in_reach id) now-marked ∙ reached-out id (number_at s.desk n))

  begins-passed : Begins passed (past_entries past)
  begins-passed = begins-front passed (call c ∷ []) (past_entries past) goes.more

  marked-beside : Beside table false (place passed (call c) id marked_desk.desk) marked_desk past jobs n
  unfolding marked_desk
  marked-beside =
      beside-same table false (place passed (call c) id s.desk) (place passed (call c) id marked_desk.desk) marked_desk past jobs n
      (λ k. place-if passed (passed ++ call c ∷ []) (past_entries past) begins-passed goes.more
      (is_in_reach id (number_at marked_desk.desk k) && nat_lt k (1 + numbers_in passed)))
      (λ k apart. place-same passed (call c) id marked_desk.desk s.desk k (known.reached_elsewhere s.desk n k apart))
      (beside-changed table false (place passed (call c) id s.desk) s marked_desk past past.sends past.took jobs jobs n
      (along-beside table false (place passed (call c) id s.desk) s past jobs n goes.along is_given)
      goes.along.past_is refl goes.along.units (next-reached s.desk n) refl (λ k apart. refl) (λ k apart. known.reached_elsewhere s.desk n k apart)
      (λ k apart. refl) (λ k apart. refl) (λ k apart. refl))

  was-fit : FitsAt table false passed s past jobs n
  was-fit = subst (λ l. FitsAt table false l s past jobs n) (place-open passed (call c) id s.desk n reached low) (goes.along.each n is_given)

  marked-run : (h : HandlerState) (sends : List Sending) (took : Option Course) → RunFits table false (past_entries past) passed n h (number_at s.desk n) sends took
      → RunFits table false (past_entries past) (passed ++ call c ∷ []) n h (number_at marked_desk.desk n) sends took
  marked-run h sends took r = record {
    number = r.number;
    works = r.works;
    heard = known.heard_stays false passed (passed ++ call c ∷ []) n h.heard (begins-append passed (call c ∷ [])) r.heard;
    sends_are = r.sends_are;
    unfinished = r.unfinished;
    kept = marked r.kept;
    is_open = now-marked ∙ ap (option_map marked) r.is_open;
    fits = record {
      id = r.fits.id;
      mark = reach-id id r.kept (ap (is_in_reach id) (sym r.is_open) ∙ reached)
          ∙ mark-with known passed (call c) c refl id target (past_entries past) begins-passed n r.kept here-passed r.fits.id r.fits.mark;
      turns = r.fits.turns;
      slots = λ turn slot at. slot-carried passed (passed ++ call c ∷ []) n turn h slot (reply-other n turn passed (call c) refl) (r.fits.slots turn slot at);
    };
  }

  is-marked : (h : HandlerState) (sends : List Sending) (took : Option Course) → RunFits table false (past_entries past) passed n h (number_at s.desk n) sends took
      → is_marked_number (number_at marked_desk.desk n) ≡ true
  is-marked h sends took r = ap is_marked_number (now-marked ∙ ap (option_map marked) r.is_open)

  -- one that is here
  module _ (h : HandlerState) (so_far : ℕ) (was : stage_at s n ≡ Idle h so_far)
      (f : NumberFits table false (past_entries past) passed n (Idle h so_far) (number_at s.desk n) (jobs n) (past.sends n) (sent_by n past.items) (past.took n)) where
    here : IsHere table false (passed ++ call c ∷ []) marked_desk past n h so_far
    here = record { runs = marked-run h (past.sends n) (past.took n) f.0; last = rest-last h f.1; written = record { written = f.4; within = f.5 } }

    heard : HasHeard n marked_desk.desk h (hear_waits marked_desk.desk h)
    heard = subst (λ m. HasHeard m marked_desk.desk h (hear_waits marked_desk.desk h)) f.0.number (waits-heard known marked_desk.desk h)

    after : Core
    after = cancelled marked_desk h so_far

    place-elsewhere : (k : ℕ) → k ≢ n → number_at after.desk k ≡ number_at marked_desk.desk k
    unfolding after
    place-elsewhere k apart =
        known.ended_elsewhere (hear_waits marked_desk.desk h).desk (hear_waits marked_desk.desk h).handler.number k (Fixed Cancelled)
        (λ same. apart (same ∙ heard.number ∙ f.0.number)) ∙ heard.others k apart

    ended : number_at after.desk n ≡ None
    unfolding after
    ended = subst (λ m. number_at after.desk m ≡ None) (heard.number ∙ f.0.number)
        (known.ended_here (hear_waits marked_desk.desk h).desk (hear_waits marked_desk.desk h).handler.number (Fixed Cancelled))

    place-after : (k : ℕ) → (k ≡ n) ⊎ (k ≡ n → ⊥) → place passed (call c) id after.desk k ≡ place passed (call c) id marked_desk.desk k
    place-after k (inl same) =
        subst (λ m. place passed (call c) id after.desk m ≡ place passed (call c) id marked_desk.desk m) (sym same)
        (place-out passed (call c) id after.desk n (λ below. ap (is_in_reach id) ended) ∙ sym place-here)
    place-after k (inr apart) = place-same passed (call c) id after.desk marked_desk.desk k (place-elsewhere k apart)

    idle-along : FitsAlong table false (place passed (call c) id after.desk) after (with_course past n (cancelled_course marked_desk h)) jobs
    unfolding after
    idle-along =
        along-same table false (place passed (call c) id marked_desk.desk) (place passed (call c) id after.desk) after (with_course past n (cancelled_course marked_desk h)) jobs
        (λ k. place-after k (cases_eq k n))
        (cancelled-fits known table false (place passed (call c) id marked_desk.desk) marked_desk past jobs jobs n h so_far marked-beside
        (subst (λ l. IsHere table false l marked_desk past n h so_far) (sym place-here) here) f.3 (λ k apart. refl) (is-marked h (past.sends n) (past.took n) f.0))

    course-is : cancelled_course marked_desk h
        ≡ record { sends = past.sends n ++ map withdrawal (unanswered (passed ++ call c ∷ []) n h.waits); answer = Fixed Cancelled }
    unfolding marked_desk
    course-is =
        ap (λ (l : List Sending). record { sends = l ++ map withdrawal (hear_waits marked_desk.desk h).handler.waits; answer = Fixed Cancelled }) (ap (map message) heard.messages ∙ sym f.0.sends_are)
        ∙ ap (λ (l : List ℕ). record { sends = past.sends n ++ map withdrawal l; answer = Fixed Cancelled })
        (waits-unanswered known table (past_entries past) (passed ++ call c ∷ []) n h marked_desk.desk (past.sends n) (past.took n) goes.along.closed
        (marked-run h (past.sends n) (past.took n) f.0) f.1)

    ends-here : EndsByCancel s past (with_course past n (cancelled_course marked_desk h)) n
    ends-here = record {
      handler = h;
      so_far = so_far;
      was = was;
      passed = passed ++ call c ∷ [];
      begins = goes.more;
      reached = sym here.runs.fits.mark ∙ ap is_marked_number (sym here.runs.is_open) ∙ is-marked h (past.sends n) (past.took n) f.0;
      ends = record {
        unfinished = f.0.unfinished;
        took = at-here n (Some (cancelled_course marked_desk h)) past.took ∙ ap Some course-is;
        sends = at-here n (cancelled_course marked_desk h).sends past.sends ∙ ap (λ (d : Course). d.sends) course-is;
      };
    }

    others-stay : (k : ℕ) → k ≢ n → StaysAsItWas s (cancelled marked_desk h so_far) past (with_course past n (cancelled_course marked_desk h)) k
    unfolding marked_desk
    others-stay k apart = record {
      stage = stage-elsewhere s.stages (hear_waits marked_desk.desk h).handler.number k (over_or_gone (hear_waits marked_desk.desk h).handler so_far)
          (λ same. apart (same ∙ heard.number ∙ f.0.number));
      sends = at-elsewhere n (cancelled_course marked_desk h).sends past.sends k apart;
      took = at-elsewhere n (Some (cancelled_course marked_desk h)) past.took k apart;
    }

    idle-passes : (k : ℕ) → (k ≡ n) ⊎ (k ≡ n → ⊥) → PassesNumber s (cancelled marked_desk h so_far) past (with_course past n (cancelled_course marked_desk h)) k
    idle-passes k (inl same) = inr (inr (subst (EndsByCancel s past (with_course past n (cancelled_course marked_desk h))) (sym same) ends-here))
    idle-passes k (inr apart) = inl (others-stay k apart)

    idle-told : GoesTo table passed (call c) id s (cancelled marked_desk h so_far) past jobs
    unfolding after
    idle-told = record {
      later = with_course past n (cancelled_course marked_desk h);
      goes_on = record { along = idle-along; more = goes.more };
      passes = record { released = refl; left = refl; items = refl; numbers = λ k. idle-passes k (cases_eq k n) };
    }

  -- one that stays
  stays-told : FitsAt table false (passed ++ call c ∷ []) marked_desk past jobs n → GoesTo table passed (call c) id s marked_desk past jobs
  unfolding marked_desk
  stays-told f = record {
    later = past;
    goes_on = record {
      along = beside-along table false (place passed (call c) id marked_desk.desk) marked_desk past jobs n marked-beside
          (subst (λ l. FitsAt table false l marked_desk past jobs n) (sym place-here) f);
      more = goes.more;
    };
    passes = passes-nothing s marked_desk past refl;
  }

  told-by_stage : (stage : Stage) → stage_at s n ≡ stage
      → NumberFits table false (past_entries past) passed n stage (number_at s.desk n) (jobs n) (past.sends n) (sent_by n past.items) (past.took n)
      → GoesTo table passed (call c) id s (told_at marked_desk stage) past jobs
  unfolding marked_desk
  told-by_stage Gone was f = absurd (reach-open id (number_at s.desk n) reached f.0)
  told-by_stage (Faulty error) was f = absurd (omega (arith, here-passed, f.5))
  told-by_stage (Idle h so_far) was f = idle-told h so_far was f
  told-by_stage (Out so_far) was f =
      stays-told (subst (λ st. NumberFits table false (past_entries past) (passed ++ call c ∷ []) n st (number_at marked_desk.desk n) (jobs n) (past.sends n) (sent_by n past.items) (past.took n)) (sym was)
      (f.0, f.1, f.2, marked-run f.0 (past.sends n) (past.took n) f.3, f.4, f.5))
  told-by_stage (Over h so_far) was f = absurd (reach-open id (number_at s.desk n) reached f.0)
  told-by_stage Failed was f =
      stays-told (subst (λ st. NumberFits table false (past_entries past) (passed ++ call c ∷ []) n st (number_at marked_desk.desk n) (jobs n) (past.sends n) (sent_by n past.items) (past.took n)) (sym was) f)

  told-goes : GoesTo table passed (call c) id s (told s n) past jobs
  unfolding marked_desk
  told-goes = told-by_stage (stage_at s n) refl was-fit

-- ---- all of it

module _ (known : Known) (table : MethodTable) (passed : List SeenEntry) (c : Call) (id : Id) (target : c.target ≡ Some id) (jobs : ℕ → Option HandlerState) where
  -- once nothing is left to reach, each number stands behind the cancel
  reached-fits : (s : Core) (past : Past) → NoneInReachBelow s.desk id (1 + numbers_in passed) → GoesOn table passed (call c) id s past jobs
      → Fits table false (passed ++ call c ∷ []) s past jobs
  reached-fits s past none goes =
      along-fits table false (passed ++ call c ∷ []) s past jobs
      (along-same table false (place passed (call c) id s.desk) (λ n. passed ++ call c ∷ []) s past jobs (λ n. sym (place-out passed (call c) id s.desk n (none n))) goes.along)

  on-reached : (s between after : Core) (past : Past) (p : GoesTo table passed (call c) id s between past jobs)
      → PassesTo table (passed ++ call c ∷ []) between after p.later jobs → PassesTo table (passed ++ call c ∷ []) s after past jobs
  on-reached s between after past p q =
      record { later = q.later; fits = q.fits; passes = passes-on s between after past p.later q.later p.passes q.passes }

  lowest-below : (d : State) (n : ℕ) → IsLowestInReach d id (1 + numbers_in passed) (Some n) → n < 1 + numbers_in passed
  lowest-below d n h = h.0

  lowest-reached : (d : State) (n : ℕ) → IsLowestInReach d id (1 + numbers_in passed) (Some n) → is_in_reach id (number_at d n) ≡ true
  lowest-reached d n h = h.1

  reaches-pass : {own : Id} {before : ℕ} {s after : Core} → Reaches own before s after → own ≡ id → before ≡ 1 + numbers_in passed
      → (past : Past) → GoesOn table passed (call c) id s past jobs → PassesTo table (passed ++ call c ∷ []) s after past jobs
  reaches-pass (none_left {id = own} {n = before} {s = s} none) same_id same past goes = record {
    later = past;
    fits = reached-fits s past (subst (NoneInReachBelow s.desk id) same (subst (λ i. NoneInReachBelow s.desk i before) same_id none)) goes;
    passes = passes-nothing s s past refl;
  }
  reaches-pass (lowest {id = own} {n = before} {s = s} {after = after} {k = n} low more) same_id same past goes =
      let here = subst (λ b. IsLowestInReach s.desk id b (Some n)) same (subst (λ i. IsLowestInReach s.desk i before (Some n)) same_id low) in
      let step = told-goes known table passed c id target jobs s past goes n (lowest-below s.desk n here) (lowest-reached s.desk n here) in
      on-reached s (told s n) after past step (reaches-pass more same_id same step.later step.goes_on)

  -- at its start
  module _ (s : Core) (past : Past) (fits : Fits table false passed s past jobs) (more : Begins (passed ++ call c ∷ []) (past_entries past))
      (sound : (error : Standard) → stage_at s (1 + numbers_in passed) ≢ Faulty error) where
    starts_if : (n : ℕ) → n ≤ units_numbers (past_units past) → (b : Bool) → (is_in_reach id (number_at s.desk n) && nat_lt n (1 + numbers_in passed)) ≡ b
        → FitsAt table false (cond b passed (passed ++ call c ∷ [])) s past jobs n
    starts_if n given true is = fits.each n given
    starts_if n given false is =
        unreached-fits known table passed s past jobs (call c) fits more c refl id target sound n given
        (λ here. first-out (is_in_reach id (number_at s.desk n)) (nat_lt n (1 + numbers_in passed)) is (is-below n (1 + numbers_in passed) (omega (arith, here))))

    goes-first : GoesOn table passed (call c) id s past jobs
    goes-first = record {
      along = record {
        past_is = fits.past_is;
        closed = fits.closed;
        units = fits.units;
        numbers = fits.numbers;
        stages = fits.stages;
        passed_begin = λ n. place-if passed (passed ++ call c ∷ []) (past_entries past) fits.passed_begin more (is_in_reach id (number_at s.desk n) && nat_lt n (1 + numbers_in passed));
        each = λ n given. starts_if n given (is_in_reach id (number_at s.desk n) && nat_lt n (1 + numbers_in passed)) refl;
        no_more_jobs = fits.no_more_jobs;
      };
      more = more;
    }

    pub cancel-passes : (after : Core) → Reaches id (1 + numbers_in passed) s after → PassesTo table (passed ++ call c ∷ []) s after past jobs
    cancel-passes after reaches = reaches-pass reaches refl refl past goes-first
