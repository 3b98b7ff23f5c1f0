-- One entry is passed, where it finishes no number: what the desk keeps fits the entries with it.
use Rattle.std.proofs.Common.{◌≡◌, ◌≢◌, ℕ, ◌+◌, ◌-◌, ◌<◌, ◌≤◌, ◌==◌, List, [], ◌∷◌, ◌++◌, length, set, Bool, true, false, cond, ◌&&◌, ◌||◌, Option, Some, None, ◌⊎◌, inl, inr, refl, sym, ap, subst, ◌∙◌, arith}
use Rattle.std.proofs.lemmas.Bool.{cases_lt, cases_eq, ne_eqb}
use Rattle.std.proofs.lemmas.List.{length-set}
use Rattle.std.specs.Option.{option_map, option_and_then, option_map_or}
use Rattle.rpc_messages.specs.declared.call.Call.{Call}
use Rattle.message_ids.specs.declared.id.Id.{Id}
use Rattle.rpc_messages.specs.declared.reply.Reply.{Reply}
use Rattle.message_ids.specs.declared.standard.Standard.{Standard}
use Rattle.rpc_messages.specs.Entry.{SeenEntry, call, reply}
use Rattle.message_ids.specs.Ids.{has_id}
use Rattle.rpc_messages.specs.Numbering.{numbers_of, numbers_in, units_numbers}
use Rattle.rpc_messages.specs.Replies.{first_reply, reply_to}
use Rattle.method_steps.specs.Steps.{MethodTable}
use Rattle.open_numbers.specs.declared.open_call.OpenCall.{OpenCall}
use Rattle.open_numbers.specs.declared.replies.Put.{Put}
use Rattle.open_numbers.specs.declared.replies.Put.TheVariants.{Unknown, Second, Kept}
use Rattle.open_numbers.specs.declared.replies.Slot.{Slot}
use Rattle.open_numbers.specs.declared.replies.Slot.TheVariants.{Empty, Held, Given}
use Rattle.open_numbers.specs.Replies.{slot_at, put_into, is_kept}
use Rattle.answer_desk.specs.State.{State, number_at, slot_of, put_of, with_reply}
use Rattle.open_numbers.specs.OpenCalls.{is_in_reach, is_marked_number}
use Rattle.handler_future.specs.State.{HandlerState}
use Rattle.peer_events.specs.declared.stage.Stage.TheVariants.{Faulty}
use Rattle.peer_output.specs.Cancelled.{Begins, cancels, request_id, is_cancelled}
use Rattle.peer_output.specs.Items.{sent_by}
use Rattle.peer_output.specs.Past.{Past, past_units, past_entries}
use Rattle.peer_events.specs.Core.{Core, stage_at, with_desk}
use Rattle.peer_events.specs.Fits.{SlotFits, Fits}
use Rattle.peer_events.specs.Inner.Known.{Known}
use Rattle.peer_events.proofs.Beside.{FitsAt}
use Rattle.peer_events.proofs.Carried.{Carries, carried, slot-carried}
use Rattle.peer_events.proofs.Marks.{reach-none, reaches-turned}
use Rattle.peer_events.proofs.Pointwise.{closed-replied, units-replied, next-replied}
use Rattle.peer_events.proofs.Streams.{begins-append, numbers-push, id-front, cancelled-unknown, reply-unknown, reply-found, reply-other, reply-last, reply-first}

or-none : (a : Bool) → (a || false) ≡ a
or-none true = refl
or-none false = refl

none-cancelled : (e : SeenEntry) (o : Option Id) → ((id : Id) → cancels id e ≡ false) → option_map_or (λ id. cancels id e) o false ≡ false
none-cancelled e None none = refl
none-cancelled e (Some id) none = none id

first-apart : (b c : Bool) (r : Reply) → b ≡ false → cond (b && c) (Some r) None ≡ None
first-apart true c r is = cc
first-apart false c r is = refl

first-turned : (b c : Bool) (r : Reply) → c ≡ false → cond (b && c) (Some r) None ≡ None
first-turned true c r is = ap (λ d. cond d (Some r) None) is
first-turned false c r is = refl

marked-mapped : (f : OpenCall → OpenCall) → ((k : OpenCall) → (f k).is_marked ≡ k.is_marked) → (o : Option OpenCall) → is_marked_number (option_map f o) ≡ is_marked_number o
marked-mapped f same None = refl
marked-mapped f same (Some k) = same k

unmapped : {A : Type 0} (o : Option A) → o ≡ option_map (λ x. x) o
unmapped None = refl
unmapped (Some x) = refl

not_empty : (slot : Slot) → is_kept (put_into (Some slot)) ≡ false → slot ≢ Empty
not_empty slot refused is = let kept : is_kept (put_into (Some slot)) ≡ true = ap (λ s. is_kept (put_into (Some s))) is in cc

empty-kept : (o : Option Slot) → put_into o ≡ Kept → o ≡ Some Empty
empty-kept None is = cc
empty-kept (Some Empty) is = refl
empty-kept (Some (Held r)) is = cc
empty-kept (Some Given) is = cc

-- a cancel has reached a number that is marked, or that has its id
module _ (known : Known) (passed : List SeenEntry) (e : SeenEntry) (c : Call) (is : e ≡ call c) (id : Id) (target : c.target ≡ Some id)
    (entries : List SeenEntry) (begins : Begins passed entries) where
  reaches : (own : Option Id) → option_map_or (λ i. has_id i (Some id)) own false ≡ option_map_or (λ i. cancels i e) own false
  reaches None = refl
  reaches (Some own) = ap (has_id own) (sym target) ∙ ap (cancels own) (sym is)

  pub mark-with : (n : ℕ) (kept : OpenCall) → n ≤ numbers_in passed → kept.id ≡ request_id entries n → is_marked_number (Some kept) ≡ is_cancelled passed n
      → (kept.is_marked || has_id id kept.id) ≡ is_cancelled (passed ++ e ∷ []) n
  mark-with n kept here own mark =
      ap (λ b. b || has_id id kept.id) mark
      ∙ ap (λ o. is_cancelled passed n || has_id id o) (own ∙ id-front n passed entries here begins)
      ∙ ap (λ b. is_cancelled passed n || b) (reaches-turned id (request_id passed n) ∙ reaches (request_id passed n))
      ∙ sym (known.cancel_reaches passed e n here)

module _ (known : Known) (table : MethodTable) (passed : List SeenEntry) (s : Core) (past : Past) (jobs : ℕ → Option HandlerState) (e : SeenEntry)
    (fits : Fits table false passed s past jobs) (more : Begins (passed ++ e ∷ []) (past_entries past)) where
  passed-fits : (d : State) → d.is_closed ≡ s.desk.is_closed → d.units ≡ s.desk.units → length d.numbers ≡ length s.desk.numbers
      → ((n : ℕ) → Carries table false (past_entries past) passed (past_entries past) (passed ++ e ∷ []) n (stage_at s n) (number_at s.desk n) (number_at d n))
      → Fits table false (passed ++ e ∷ []) (with_desk s d) past jobs
  passed-fits d closed units numbers carries = record {
    past_is = fits.past_is;
    closed = closed ∙ fits.closed;
    units = units ∙ fits.units;
    numbers = numbers ∙ fits.numbers;
    stages = fits.stages;
    passed_begin = more;
    each = λ n le. carried table false (past_entries past) passed (past_entries past) (passed ++ e ∷ []) n (number_at s.desk n) (number_at d n) (stage_at s n) (jobs n)
        (past.sends n) (sent_by n past.items) (past.took n) (carries n) (fits.each n le);
    no_more_jobs = fits.no_more_jobs;
  }

  -- a number of which the entry says nothing
  quiet : (n : ℕ) (d : Option OpenCall) → d ≡ number_at s.desk n → ((t : ℕ) → reply_to n t (passed ++ e ∷ []) ≡ reply_to n t passed)
      → is_cancelled (passed ++ e ∷ []) n ≡ is_cancelled passed n
      → ((error : Standard) → stage_at s n ≡ Faulty error → numbers_in passed < n → numbers_in (passed ++ e ∷ []) < n)
      → Carries table false (past_entries past) passed (past_entries past) (passed ++ e ∷ []) n (stage_at s n) (number_at s.desk n) d
  quiet n d same replies mark behind = record {
    works = refl;
    closed = λ is. same ∙ is;
    behind = behind;
    faulty = λ error is lt kept is_open unmarked. (kept, same ∙ is_open, ap is_marked_number same ∙ unmarked);
    unmarked = λ unmarked. ap is_marked_number same ∙ unmarked;
    heard = λ heard from. known.heard_stays false passed (passed ++ e ∷ []) n heard (begins-append passed (e ∷ [])) from;
    keeps = λ h kept is_open f. (
      kept,
      same ∙ is_open,
      record {
        id = f.id;
        mark = f.mark ∙ sym mark;
        turns = f.turns;
        slots = λ turn slot at. slot-carried passed (passed ++ e ∷ []) n turn h slot (replies turn) (f.slots turn slot at);
      },
    );
  }

  uncancelled : ((id : Id) → cancels id e ≡ false) → (n : ℕ) → is_cancelled (passed ++ e ∷ []) n ≡ is_cancelled passed n
  uncancelled none n = by_place (cases_lt (numbers_in passed) n)
    where
      by_place : (numbers_in passed < n) ⊎ (n ≤ numbers_in passed) → is_cancelled (passed ++ e ∷ []) n ≡ is_cancelled passed n
      by_place (inl unknown) = known.cancel_passes passed e n unknown ∙ sym (cancelled-unknown passed n unknown)
      by_place (inr here) =
          known.cancel_reaches passed e n here ∙ ap (λ b. is_cancelled passed n || b) (none-cancelled e (request_id passed n) none) ∙ or-none (is_cancelled passed n)

  behind-none : numbers_of e ≡ 0 → (n : ℕ) (error : Standard) → stage_at s n ≡ Faulty error → numbers_in passed < n → numbers_in (passed ++ e ∷ []) < n
  behind-none none n error is lt = omega (arith, lt, none, numbers-push passed e)

  -- an entry that is no call, and no reply to a call that has come
  pub silent-fits : numbers_of e ≡ 0 → ((id : Id) → cancels id e ≡ false) → ((n t : ℕ) → reply_to n t (passed ++ e ∷ []) ≡ reply_to n t passed)
      → Fits table false (passed ++ e ∷ []) s past jobs
  silent-fits none uncancels replies =
      passed-fits s.desk refl refl refl (λ n. quiet n (number_at s.desk n) refl (replies n) (uncancelled uncancels n) (behind-none none n))

  -- a call that cancels nothing, and isn't at fault
  pub call-fits : (c : Call) → e ≡ call c → c.target ≡ None → ((error : Standard) → stage_at s (1 + numbers_in passed) ≢ Faulty error)
      → Fits table false (passed ++ e ∷ []) s past jobs
  call-fits c is none sound = passed-fits s.desk refl refl refl (λ n.
      quiet n (number_at s.desk n) refl (λ t. reply-other n t passed e (ap (λ x. first_reply n t (x ∷ [])) is))
      (uncancelled (λ id. ap (cancels id) is ∙ ap (has_id id) none) n)
      (λ error at lt. behind-call n error at lt (cases_eq n (1 + numbers_in passed))))
    where
      behind-call : (n : ℕ) (error : Standard) → stage_at s n ≡ Faulty error → numbers_in passed < n → (n ≡ 1 + numbers_in passed) ⊎ (n ≡ 1 + numbers_in passed → ⊥)
          → numbers_in (passed ++ e ∷ []) < n
      behind-call n error at lt (inl same) = absurd (sound error (subst (λ k. stage_at s k ≡ Faulty error) same at))
      behind-call n error at lt (inr apart) = omega (arith, lt, numbers-push passed e, ap numbers_of is, apart)

  -- a call that cancels others: what it doesn't reach
  module _ (c : Call) (is : e ≡ call c) (id : Id) (target : c.target ≡ Some id) (sound : (error : Standard) → stage_at s (1 + numbers_in passed) ≢ Faulty error) where
    unreached-carries : (n : ℕ) → n ≤ numbers_in passed → is_in_reach id (number_at s.desk n) ≡ false
        → Carries table false (past_entries past) passed (past_entries past) (passed ++ e ∷ []) n (stage_at s n) (number_at s.desk n) (number_at s.desk n)
    unreached-carries n here unreached = record {
      works = refl;
      closed = λ none. none;
      behind = λ error at lt. absurd (omega (arith, here, lt));
      faulty = λ error at lt kept is_open unmarked. absurd (omega (arith, here, lt));
      unmarked = λ unmarked. unmarked;
      heard = λ heard from. known.heard_stays false passed (passed ++ e ∷ []) n heard (begins-append passed (e ∷ [])) from;
      keeps = λ h kept is_open f. (
        kept,
        is_open,
        record {
          id = f.id;
          mark = reach-none id kept (ap (is_in_reach id) (sym is_open) ∙ unreached)
              ∙ mark-with known passed e c is id target (past_entries past) fits.passed_begin n kept here f.id f.mark;
          turns = f.turns;
          slots = λ turn slot at. slot-carried passed (passed ++ e ∷ []) n turn h slot (reply-other n turn passed e (ap (λ x. first_reply n turn (x ∷ [])) is)) (f.slots turn slot at);
        },
      );
    }

    behind-cancel : (n : ℕ) → numbers_in passed < n → (error : Standard) → stage_at s n ≡ Faulty error → (n ≡ 1 + numbers_in passed) ⊎ (n ≡ 1 + numbers_in passed → ⊥)
        → numbers_in (passed ++ e ∷ []) < n
    behind-cancel n lt error at (inl same) = absurd (sound error (subst (λ k. stage_at s k ≡ Faulty error) same at))
    behind-cancel n lt error at (inr apart) = omega (arith, lt, numbers-push passed e, ap numbers_of is, apart)

    later-carries : (n : ℕ) → numbers_in passed < n
        → Carries table false (past_entries past) passed (past_entries past) (passed ++ e ∷ []) n (stage_at s n) (number_at s.desk n) (number_at s.desk n)
    later-carries n unknown = quiet n (number_at s.desk n) refl
        (λ t. reply-other n t passed e (ap (λ x. first_reply n t (x ∷ [])) is))
        (known.cancel_passes passed e n unknown ∙ sym (cancelled-unknown passed n unknown))
        (λ error at lt. behind-cancel n unknown error at (cases_eq n (1 + numbers_in passed)))

    carries_at : (n : ℕ) → (n ≤ numbers_in passed → is_in_reach id (number_at s.desk n) ≡ false) → (numbers_in passed < n) ⊎ (n ≤ numbers_in passed)
        → Carries table false (past_entries past) passed (past_entries past) (passed ++ e ∷ []) n (stage_at s n) (number_at s.desk n) (number_at s.desk n)
    carries_at n unreached (inl unknown) = later-carries n unknown
    carries_at n unreached (inr here) = unreached-carries n here (unreached here)

    pub unreached-fits : (n : ℕ) → n ≤ units_numbers (past_units past) → (n ≤ numbers_in passed → is_in_reach id (number_at s.desk n) ≡ false)
        → FitsAt table false (passed ++ e ∷ []) s past jobs n
    unreached-fits n given unreached =
        carried table false (past_entries past) passed (past_entries past) (passed ++ e ∷ []) n (number_at s.desk n) (number_at s.desk n) (stage_at s n) (jobs n)
        (past.sends n) (sent_by n past.items) (past.took n) (carries_at n unreached (cases_lt (numbers_in passed) n)) (fits.each n given)

  -- a reply to a call that has come
  module _ (m t : ℕ) (r : Reply) (is : e ≡ reply m t r) where
    no_cancel : (id : Id) → cancels id e ≡ false
    no_cancel id = ap (cancels id) is

    no_number : numbers_of e ≡ 0
    no_number = ap numbers_of is

    replies-apart : (n u : ℕ) → (n ≡ m → ⊥) → reply_to n u (passed ++ e ∷ []) ≡ reply_to n u passed
    replies-apart n u apart = reply-other n u passed e (ap (λ x. first_reply n u (x ∷ [])) is ∙ first-apart (m == n) (t == u) r (ne_eqb m n (λ same. apart (sym same))))

    turns-apart : (u : ℕ) → (u ≡ t → ⊥) → reply_to m u (passed ++ e ∷ []) ≡ reply_to m u passed
    turns-apart u apart = reply-other m u passed e (ap (λ x. first_reply m u (x ∷ [])) is ∙ first-turned (m == m) (t == u) r (ne_eqb t u (λ same. apart (sym same))))

    -- to one that hasn't come
    pub early-fits : numbers_in passed < m → Fits table false (passed ++ e ∷ []) s past jobs
    early-fits early = silent-fits no_number no_cancel (λ n u. by_number n u (cases_eq n m))
      where
        by_number : (n u : ℕ) → (n ≡ m) ⊎ (n ≡ m → ⊥) → reply_to n u (passed ++ e ∷ []) ≡ reply_to n u passed
        by_number n u (inl same) =
            let unknown : numbers_in passed < n = omega (arith, early, same) in
            reply-last n u passed e unknown ∙ sym (reply-unknown n u passed unknown)
        by_number n u (inr apart) = replies-apart n u apart

    module _ (here : m ≤ numbers_in passed) where
      -- what the desk keeps of its number, where its slots fit
      replied-carries : (d : Option OpenCall) (f : OpenCall → OpenCall) → ((k : OpenCall) → (f k).id ≡ k.id) → ((k : OpenCall) → (f k).is_marked ≡ k.is_marked)
          → ((k : OpenCall) → length (f k).replies ≡ length k.replies) → d ≡ option_map f (number_at s.desk m)
          → ((h : HandlerState) (kept : OpenCall) → number_at s.desk m ≡ Some kept → ((u : ℕ) (slot : Slot) → slot_at kept.replies u ≡ Some slot → SlotFits passed m h u slot)
          → (u : ℕ) (slot : Slot) → slot_at (f kept).replies u ≡ Some slot → SlotFits (passed ++ e ∷ []) m h u slot)
          → Carries table false (past_entries past) passed (past_entries past) (passed ++ e ∷ []) m (stage_at s m) (number_at s.desk m) d
      replied-carries d f same_id same_mark same_length same slots = record {
        works = refl;
        closed = λ none. same ∙ ap (option_map f) none;
        behind = λ error at lt. absurd (omega (arith, here, lt));
        faulty = λ error at lt kept is_open unmarked. absurd (omega (arith, here, lt));
        unmarked = λ unmarked. ap is_marked_number same ∙ marked-mapped f same_mark (number_at s.desk m) ∙ unmarked;
        heard = λ heard from. known.heard_stays false passed (passed ++ e ∷ []) m heard (begins-append passed (e ∷ [])) from;
        keeps = λ h kept is_open fit. (
          f kept,
          same ∙ ap (option_map f) is_open,
          record {
            id = same_id kept ∙ fit.id;
            mark = same_mark kept ∙ fit.mark ∙ sym (uncancelled no_cancel m);
            turns = same_length kept ∙ fit.turns;
            slots = slots h kept is_open fit.slots;
          },
        );
      }

      put-open : put_of s.desk m t ≡ put_into (slot_of s.desk m t)
      put-open = ap (λ b. cond b Unknown (put_into (slot_of s.desk m t))) fits.closed

      slot-seen : (kept : OpenCall) → number_at s.desk m ≡ Some kept → (u : ℕ) → slot_of s.desk m u ≡ slot_at kept.replies u
      slot-seen kept is_open u = ap (option_and_then (λ (n : OpenCall). slot_at n.replies u)) is_open

      -- one that isn't kept
      second-slot : (h : HandlerState) (slot : Slot) → slot ≢ Empty → SlotFits passed m h t slot → SlotFits (passed ++ e ∷ []) m h t slot
      second-slot h Empty some fit = absurd (some refl)
      second-slot h (Held q) some fit = (reply-found m t q passed (e ∷ []) here fit.0, fit.1)
      second-slot h Given some fit = fit

      refused-slots : is_kept (put_of s.desk m t) ≡ false → (h : HandlerState) (kept : OpenCall) → number_at s.desk m ≡ Some kept
          → ((u : ℕ) (slot : Slot) → slot_at kept.replies u ≡ Some slot → SlotFits passed m h u slot)
          → (u : ℕ) (slot : Slot) → slot_at kept.replies u ≡ Some slot → SlotFits (passed ++ e ∷ []) m h u slot
      refused-slots refused h kept is_open old u slot at = by_turn (cases_eq u t)
        where
          by_turn : (u ≡ t) ⊎ (u ≡ t → ⊥) → SlotFits (passed ++ e ∷ []) m h u slot
          by_turn (inl same) =
              let at_turn : slot_at kept.replies t ≡ Some slot = subst (λ v. slot_at kept.replies v ≡ Some slot) same at in
              subst (λ v. SlotFits (passed ++ e ∷ []) m h v slot) (sym same)
              (second-slot h slot (not_empty slot (ap (λ o. is_kept (put_into o)) (sym (slot-seen kept is_open t ∙ at_turn)) ∙ ap is_kept (sym put-open) ∙ refused)) (old t slot at_turn))
          by_turn (inr apart) = slot-carried passed (passed ++ e ∷ []) m u h slot (turns-apart u apart) (old u slot at)

      refused-carries : is_kept (put_of s.desk m t) ≡ false
          → Carries table false (past_entries past) passed (past_entries past) (passed ++ e ∷ []) m (stage_at s m) (number_at s.desk m) (number_at (with_reply s.desk m t r) m)
      refused-carries refused =
          replied-carries (number_at (with_reply s.desk m t r) m) (λ k. k) (λ k. refl) (λ k. refl) (λ k. refl)
          (ap (λ (d : State). number_at d m) (known.reply_refused s.desk m t r refused) ∙ unmapped (number_at s.desk m)) (refused-slots refused)

      -- one that is
      kept-slots : put_of s.desk m t ≡ Kept → (h : HandlerState) (kept : OpenCall) → number_at s.desk m ≡ Some kept
          → ((u : ℕ) (slot : Slot) → slot_at kept.replies u ≡ Some slot → SlotFits passed m h u slot)
          → (u : ℕ) (slot : Slot) → slot_at (set kept.replies (t - 1) (Held r)) u ≡ Some slot → SlotFits (passed ++ e ∷ []) m h u slot
      kept-slots put h kept is_open old u slot at = by_turn (cases_eq u t)
        where
          now-seen : (v : ℕ) → slot_of (with_reply s.desk m t r) m v ≡ slot_at (set kept.replies (t - 1) (Held r)) v
          now-seen v = ap (option_and_then (λ (n : OpenCall). slot_at n.replies v))
              (known.reply_here s.desk m t r put ∙ ap (option_map (λ (k : OpenCall). record k { replies = set k.replies (t - 1) (Held r) })) is_open)

          was-empty : SlotFits passed m h t Empty
          was-empty = old t Empty (sym (slot-seen kept is_open t) ∙ empty-kept (slot_of s.desk m t) (sym put-open ∙ put))

          now-held : SlotFits (passed ++ e ∷ []) m h t (Held r)
          now-held = (ap (λ x. reply_to m t (passed ++ x ∷ [])) is ∙ reply-first m t r passed here was-empty.0, was-empty.1)

          slot-is : (v : ℕ) → v ≡ t → slot_at (set kept.replies (t - 1) (Held r)) v ≡ Some slot → Held r ≡ slot
          slot-is v same at_slot =
              let held : slot_of (with_reply s.desk m t r) m t ≡ Some (Held r) = known.reply_slot s.desk m t r put in
              let seen : slot_of (with_reply s.desk m t r) m t ≡ Some slot = now-seen t ∙ subst (λ w. slot_at (set kept.replies (t - 1) (Held r)) w ≡ Some slot) same at_slot in
              (cc)

          by_turn : (u ≡ t) ⊎ (u ≡ t → ⊥) → SlotFits (passed ++ e ∷ []) m h u slot
          by_turn (inl same) = subst (λ v. SlotFits (passed ++ e ∷ []) m h v slot) (sym same) (subst (SlotFits (passed ++ e ∷ []) m h t) (slot-is u same at) now-held)
          by_turn (inr apart) =
              slot-carried passed (passed ++ e ∷ []) m u h slot (turns-apart u apart)
              (old u slot (sym (slot-seen kept is_open u) ∙ sym (known.reply_other_slot s.desk m t u r apart) ∙ now-seen u ∙ at))

      kept-carries : put_of s.desk m t ≡ Kept
          → Carries table false (past_entries past) passed (past_entries past) (passed ++ e ∷ []) m (stage_at s m) (number_at s.desk m) (number_at (with_reply s.desk m t r) m)
      kept-carries put =
          replied-carries (number_at (with_reply s.desk m t r) m) (λ (k : OpenCall). record k { replies = set k.replies (t - 1) (Held r) }) (λ k. refl) (λ k. refl)
          (λ k. length-set k.replies (t - 1) (Held r)) (known.reply_here s.desk m t r put) (kept-slots put)

      by_put : (put : Put) → put_of s.desk m t ≡ put
          → Carries table false (past_entries past) passed (past_entries past) (passed ++ e ∷ []) m (stage_at s m) (number_at s.desk m) (number_at (with_reply s.desk m t r) m)
      by_put Kept put = kept-carries put
      by_put Unknown put = refused-carries (ap is_kept put)
      by_put Second put = refused-carries (ap is_kept put)

      reply-carries : (n : ℕ) → (n ≡ m) ⊎ (n ≡ m → ⊥)
          → Carries table false (past_entries past) passed (past_entries past) (passed ++ e ∷ []) n (stage_at s n) (number_at s.desk n) (number_at (with_reply s.desk m t r) n)
      reply-carries n (inl same) =
          subst (λ k. Carries table false (past_entries past) passed (past_entries past) (passed ++ e ∷ []) k (stage_at s k) (number_at s.desk k) (number_at (with_reply s.desk m t r) k))
          (sym same) (by_put (put_of s.desk m t) refl)
      reply-carries n (inr apart) = quiet n (number_at (with_reply s.desk m t r) n) (known.reply_elsewhere s.desk m t n r apart) (λ u. replies-apart n u apart)
          (uncancelled no_cancel n) (behind-none no_number n)

      pub reply-fits : Fits table false (passed ++ e ∷ []) (with_desk s (with_reply s.desk m t r)) past jobs
      reply-fits = passed-fits (with_reply s.desk m t r) (closed-replied s.desk m t r) (units-replied s.desk m t r) (next-replied s.desk m t r) (λ n. reply-carries n (cases_eq n m))
