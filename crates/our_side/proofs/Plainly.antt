-- All of a conversation.
use Rattle.std.proofs.Common.{◌≡◌, ◌⊎◌, inl, inr, ℕ, suc, ◌+◌, ◌≤◌, Bool, false, List, [], ◌∷◌, ◌++◌, drop, take, length, min, refl, sym, ap, subst, ◌∙◌, arith, take-append-drop}
use Rattle.std.proofs.Math.Nat.{min-le_left}
use Rattle.std.proofs.lemmas.List.{take-append-le}
use Rattle.std.specs.Prelude.{⊤}
use Rattle.lsp_frames.specs.declared.frame.Frame.{Frame}
use Rattle.lsp_frames.specs.declared.frame.FrameFault.{FrameFault}
use Rattle.lsp_frames.specs.declared.frame.FrameFault.TheVariants.{BadHead, BadLength, TwoLengths, TooLarge, NoLength, HeadTooLong, Truncated, LongLength}
use Rattle.content_streams.specs.Streams.{Stream, placed_contents}
use Rattle.content_streams.specs.declared.framing.Framing.{Framing}
use Rattle.conversation_reading.specs.Strictly.{limited_reading}
use Rattle.conversation_rules.specs.Contents.{content_outcome, next_message, counted}
use Rattle.conversation_rules.specs.Judging.{Seen, State, stream_of, pair_of, new_state, state_of, state_from, findings_of, fault_rule, fault_finding, fault_findings, unanswered_findings}
use Rattle.conversation_rules.specs.Speakers.{Pair}
use Rattle.conversation_rules.specs.declared.finding.Finding.{Finding}
use Rattle.conversation_rules.specs.declared.finding.Limits.{Limits}
use Rattle.conversation_rules.specs.declared.protocol.Protocol.{Protocol}
use Rattle.conversation_rules.specs.declared.reply.Refusals.{Refusals}
use Rattle.conversation_rules.specs.declared.side.Side.{Side}
use Rattle.conversation_rules.specs.declared.side.Side.TheVariants.{Client, Server}
use Rattle.conversation_rules.proofs.Growing.{state_from-append}
use Rattle.our_side.specs.Asked.{Question, alone, together, by_array, under_null, CanBeAsked, asked_by, answered_by, asked_in, answered_in, leaves_by, leaves_in, MayHaveLess, IsNoMore, AllSay, judged}
use Rattle.our_side.specs.Breaking.{AccusesNone, is_of_answers}
use Rattle.our_side.proofs.Answering.{Spared, silent_spared, silent_each, IsCounted, Expects, hosts, ask_content, our_may, our_behind}
use Rattle.our_side.proofs.Both.{Placed, KeepsBoth, both_each, step_steady}
use Rattle.our_side.proofs.Cancels.{asker_cancel, asker_guessed, other_cancel, other_guessed}
use Rattle.our_side.proofs.Fair.{own_is, their_content, faults_each, their_fault_each, we_left_each, they_left_each}
use Rattle.our_side.proofs.Kept.{Enough, enough_left, enough_asked, enough_less}
use Rattle.our_side.proofs.Formed.{reading_formed}
use Rattle.our_side.proofs.Open.{open_in, AreOrderly}
use Rattle.our_side.proofs.Streaming.{other, swap, Later, Grow, grown, all_later, IsSteady}
use Rattle.our_side.proofs.Walking.{Each, reading_each}

-- ---- counts

answered-append : (q : Question) (xs ys : Placed) → answered_in q (xs ++ ys) ≡ answered_in q xs + answered_in q ys
answered-append q [] ys = (let same : answered_in q ys ≡ 0 + answered_in q ys = omega arith in same)
answered-append q (x ∷ xs) ys = let rest = answered-append q xs ys in omega (arith, rest)

asked-append : (q : Question) (xs ys : Placed) → asked_in q (xs ++ ys) ≡ asked_in q xs + asked_in q ys
asked-append q [] ys = (let same : asked_in q ys ≡ 0 + asked_in q ys = omega arith in same)
asked-append q (x ∷ xs) ys = let rest = asked-append q xs ys in omega (arith, rest)

leaves-append : (protocol : Protocol) (xs ys : Placed) → leaves_in protocol (xs ++ ys) ≡ leaves_in protocol xs + leaves_in protocol ys
leaves-append protocol [] ys = (let same : leaves_in protocol ys ≡ 0 + leaves_in protocol ys = omega arith in same)
leaves-append protocol (x ∷ xs) ys = let rest = leaves-append protocol xs ys in omega (arith, rest)

no_rule : (fault : FrameFault) → is_of_answers (fault_rule fault) ≡ false
no_rule BadHead = refl
no_rule BadLength = refl
no_rule TwoLengths = refl
no_rule TooLarge = refl
no_rule NoLength = refl
no_rule HeadTooLong = refl
no_rule Truncated = refl
no_rule LongLength = refl

accuses_none : (side : Side) (findings : List Finding) → Each (Spared side) findings → AccusesNone side is_of_answers findings
accuses_none side [] each = tt
accuses_none side (f ∷ fs) each = (each.0, accuses_none side fs each.1)

module _ (protocol : Protocol) (side : Side) (mine yours : Stream) where
  abbrev P : Finding → Type 0
  P = Spared side

  -- Nothing was answered more often than it was asked, by what is still to come; or it may have been left, since a cancel came.
  abbrev pub Timely : Placed → Placed → Type 0
  Timely rest theirs = (q : Question) → CanBeAsked q
      → (answered_in q (placed_contents mine) + asked_in q theirs ≤ asked_in q (placed_contents yours) + answered_in q rest) ⊎ (MayHaveLess q × (suc (leaves_in protocol theirs) ≤ leaves_in protocol (placed_contents yours)))

  -- there is more to come
  abbrev IsMore : Placed → Type 0
  IsMore [] = ⊥
  IsMore (placed ∷ rest) = ⊤

  -- What is open is enough for what is asked and not answered yet, as long as more is said; and where no cancel is kept, all are
  -- still to come.
  pub record Known (ours theirs : Placed) (pair : Pair) : Type 0 where
    pub orderly : AreOrderly pair.other.owed
    pub cancels : pair.other.has_cancelled ≡ false → leaves_in protocol (placed_contents yours) ≡ leaves_in protocol theirs
    pub enough : IsMore ours → (q : Question) → CanBeAsked q → Enough q pair.other.refusals (asked_in q (placed_contents yours) + answered_in q ours) (open_in q pair.other.owed + (asked_in q theirs + answered_in q (placed_contents mine)))

  -- as long as nothing was guessed
  pub record Holds (ours theirs : Placed) (pair : Pair) : Type 0 where
    pub says : AllSay ours
    pub known : pair.other.is_guessed ≡ false → Known ours theirs pair

  -- a content that comes counts no more as refused than is open
  fewer_refused : (q : Question) (r : Refusals) (most asked there : ℕ) → Enough q r asked there → Enough q (record r { refused = min r.refused most }) asked there
  fewer_refused (alone id) r most asked there enough = enough
  fewer_refused (together ids) r most asked there enough = enough
  fewer_refused by_array r most asked there enough = enough
  fewer_refused under_null r most asked there (inl is) = inl is
  fewer_refused under_null r most asked there (inr enough) = inr (let less = min-le_left r.refused most in omega (arith, enough, less))

  enough_less_sum : (q : Question) (r : Refusals) (asked there first rest answered : ℕ) → Enough q r asked (there + (first + rest + answered)) → Enough q r asked (there + (first + (rest + answered)))
  enough_less_sum q r asked there first rest answered (inl most) = inl most
  enough_less_sum q r asked there first rest answered (inr enough) = inr (omega (arith, enough))

  more_timely : (new rest theirs : Placed) → Timely rest theirs → Timely (new ++ rest) theirs
  more_timely new rest theirs timely = λ q can. from q (timely q can)
    where
      from : (q : Question) → (answered_in q (placed_contents mine) + asked_in q theirs ≤ asked_in q (placed_contents yours) + answered_in q rest) ⊎ (MayHaveLess q × (suc (leaves_in protocol theirs) ≤ leaves_in protocol (placed_contents yours)))
          → (answered_in q (placed_contents mine) + asked_in q theirs ≤ asked_in q (placed_contents yours) + answered_in q (new ++ rest)) ⊎ (MayHaveLess q × (suc (leaves_in protocol theirs) ≤ leaves_in protocol (placed_contents yours)))
      from q (inl le) = inl (let sum = answered-append q new rest in omega (arith, le, sum))
      from q (inr less) = inr less

  -- ---- a content of ours

  -- where no cancel came, all is counted
  no_less : (q : Question) (has_cancelled : Bool) → MayHaveLess q → IsCounted q has_cancelled → has_cancelled ≡ false
  no_less (alone id) has_cancelled may counted = absurd may
  no_less (together ids) has_cancelled may counted = counted
  no_less by_array has_cancelled may counted = absurd may
  no_less under_null has_cancelled may counted = absurd may

  counts : (rest theirs : Placed) (pair : Pair) → Timely rest theirs → (pair.other.has_cancelled ≡ false → leaves_in protocol (placed_contents yours) ≡ leaves_in protocol theirs) → (q : Question) → CanBeAsked q → IsCounted q pair.other.has_cancelled
      → answered_in q (placed_contents mine) + asked_in q theirs ≤ asked_in q (placed_contents yours) + answered_in q rest
  counts rest theirs pair timely cancels q can counted = from (timely q can)
    where
      from : (answered_in q (placed_contents mine) + asked_in q theirs ≤ asked_in q (placed_contents yours) + answered_in q rest) ⊎ (MayHaveLess q × (suc (leaves_in protocol theirs) ≤ leaves_in protocol (placed_contents yours)))
          → answered_in q (placed_contents mine) + asked_in q theirs ≤ asked_in q (placed_contents yours) + answered_in q rest
      from (inl le) = le
      from (inr less) = absurd (let same = cancels (no_less q pair.other.has_cancelled less.0 counted) in let more = less.1 in omega (arith, same, more))

  expects : (placed : ℕ × Frame) (rest theirs : Placed) (pair : Pair) → Timely rest theirs → Known (placed ∷ rest) theirs pair → Expects pair.other (limited_reading placed.1.foreign placed.1.content)
  expects placed rest theirs pair timely known = λ q can counted some.
      let time = counts rest theirs pair timely known.cancels q can counted in
      enough_less q pair.other.refusals (asked_in q (placed_contents yours) + answered_in q (placed ∷ rest)) (open_in q pair.other.owed + (asked_in q theirs + answered_in q (placed_contents mine))) 1 (open_in q pair.other.owed)
      (known.enough tt q can) (omega (arith, time, some))

  ours : (is_unfinished : Bool) (placed : ℕ × Frame) (rest theirs : Placed) (pair : Pair) → Timely rest theirs → Holds (placed ∷ rest) theirs pair
      → Each P (content_outcome protocol side is_unfinished placed pair).findings × Holds rest theirs (content_outcome protocol side is_unfinished placed pair).pair
  ours is_unfinished placed rest theirs pair timely holds =
      let message = next_message side placed.0 pair in
      let reading = limited_reading placed.1.foreign placed.1.content in (
        reading_each P message (hosts side message refl) protocol is_unfinished (counted pair) reading
            (our_may side protocol message refl is_unfinished (counted pair) reading holds.says.0 (λ sure. let known = holds.known sure in (known.orderly, expects placed rest theirs pair timely known))),
        record {
          says = holds.says.1;
          known = λ sure.
              let before = other_guessed protocol is_unfinished message (counted pair) reading sure in
              let known = holds.known before.0 in
              let behind = our_behind side protocol message refl is_unfinished (counted pair) reading holds.says.0 known.orderly (expects placed rest theirs pair timely known) before.1 in
              let next = (content_outcome protocol side is_unfinished placed pair).pair.other in
              record {
                orderly = behind.orderly_after;
                cancels = λ none. known.cancels (sym (other_cancel protocol is_unfinished message (counted pair) reading) ∙ none);
                enough = λ more q can.
                    enough_less q next.refusals (asked_in q (placed_contents yours) + answered_in q (placed ∷ rest)) (open_in q next.owed + (asked_in q theirs + answered_in q (placed_contents mine)) + answered_by q reading)
                    (asked_in q (placed_contents yours) + answered_in q rest) (open_in q next.owed + (asked_in q theirs + answered_in q (placed_contents mine)))
                    (enough_left q pair.other.refusals next.refusals (open_in q pair.other.owed) (open_in q next.owed) (answered_by q reading) (asked_in q (placed_contents yours) + answered_in q (placed ∷ rest))
                    (asked_in q theirs + answered_in q (placed_contents mine)) (behind.leaves q can) (known.enough tt q can))
                    (omega arith);
              };
        },
      )

  -- ---- a content of the other side

  theirs : (is_unfinished : Bool) (placed : ℕ × Frame) (ours rest : Placed) (pair : Pair) → Holds ours (placed ∷ rest) pair
      → Each P (content_outcome protocol (other side) is_unfinished placed (swap pair)).findings × Holds ours rest (swap (content_outcome protocol (other side) is_unfinished placed (swap pair)).pair)
  theirs is_unfinished placed ours rest pair holds =
      let message = next_message (other side) placed.0 (swap pair) in
      let reading = limited_reading placed.1.foreign placed.1.content in (
        silent_each side (content_outcome protocol (other side) is_unfinished placed (swap pair)).findings (their_content side is_of_answers protocol is_unfinished placed (swap pair)),
        record {
          says = holds.says;
          known = λ sure.
              let known = holds.known (sym (asker_guessed protocol is_unfinished message (counted (swap pair)) reading) ∙ sure) in
              let got = ask_content protocol is_unfinished message (counted (swap pair)) reading known.orderly (reading_formed placed.1.foreign placed.1.content) in
              record {
                orderly = got.orderly;
                cancels = λ none.
                    let before = asker_cancel protocol is_unfinished message (counted (swap pair)) reading none in
                    let same = known.cancels before.0 in
                    let here = before.1 in
                    omega (arith, same, here);
                enough = λ some q can.
                    let before = (counted (swap pair)).own in
                    let next = (content_outcome protocol (other side) is_unfinished placed (swap pair)).pair.own in
                    let asked = asked_in q (placed_contents yours) + answered_in q ours in
                    let more = asked_in q rest + answered_in q (placed_contents mine) in
                    enough_asked q before.refusals next.refusals (open_in q pair.other.owed) (open_in q next.owed) (asked_by q reading) asked more (got.opened q can)
                    (enough_less_sum q before.refusals asked (open_in q pair.other.owed) (asked_by q reading) (asked_in q rest) (answered_in q (placed_contents mine))
                    (fewer_refused q pair.other.refusals (length pair.other.owed) asked (open_in q pair.other.owed + (asked_by q reading + asked_in q rest + answered_in q (placed_contents mine))) (known.enough some q can)));
              };
        },
      )

  -- nothing that is known has changed
  same_known : (ours theirs : Placed) (before after : Pair) → after.other.owed ≡ before.other.owed → after.other.refusals ≡ before.other.refusals → after.other.has_cancelled ≡ before.other.has_cancelled → Known ours theirs before → Known ours theirs after
  same_known ours theirs before after owed refusals cancelled known = record {
    orderly = subst AreOrderly (sym owed) known.orderly;
    cancels = λ none. known.cancels (sym cancelled ∙ none);
    enough = λ more q can.
        subst (λ r. Enough q r (asked_in q (placed_contents yours) + answered_in q ours) (open_in q after.other.owed + (asked_in q theirs + answered_in q (placed_contents mine)))) (sym refusals)
        (subst (λ these. Enough q before.other.refusals (asked_in q (placed_contents yours) + answered_in q ours) (open_in q these + (asked_in q theirs + answered_in q (placed_contents mine)))) (sym owed) (known.enough more q can));
  }

  keeps : KeepsBoth protocol side P Timely Holds mine yours
  keeps = record {
    more_timely = more_timely;
    ours = ours;
    theirs = theirs;
    our_end = λ s ours theirs pair holds. record { says = holds.says; known = λ sure. same_known ours theirs pair _ refl refl refl (holds.known sure) };
    their_end = λ s ours theirs pair holds. record { says = holds.says; known = λ sure. same_known ours theirs pair _ refl refl refl (holds.known sure) };
    we_ended = λ s ours theirs pair later is none holds. record { says = holds.says; known = λ sure. record { orderly = tt; cancels = (holds.known sure).cancels; enough = λ more. absurd (subst IsMore none more) } };
    they_ended = λ ours theirs pair holds. record { says = holds.says; known = λ sure. same_known ours theirs pair _ refl refl refl (holds.known sure) };
    our_fault = λ s pair later. faults_each P side s pair (λ place fault is. silent_spared side (fault_finding side place pair fault) (own_is side (is_of_answers (fault_rule fault)) (no_rule fault)));
    their_fault = λ s pair. silent_each side (fault_findings (other side) s pair) (their_fault_each side is_of_answers s pair);
    we_left = λ end pair. silent_each side (unanswered_findings protocol side end pair) (we_left_each side is_of_answers refl protocol end pair);
    they_left = λ end pair. silent_each side (unanswered_findings protocol (other side) end pair) (they_left_each side is_of_answers protocol end pair);
  }

-- ---- what was judged by then

all_steady : Grow → (protocol : Protocol) (side : Side) (seen : List Seen) (state : State) → IsSteady (stream_of side state) → IsSteady (stream_of side (state_from protocol state seen))
all_steady grow protocol side [] state steady = steady
all_steady grow protocol side (one ∷ seen) state steady = all_steady grow protocol side seen _ (step_steady grow protocol side one state steady)

start_steady : (side : Side) (framing : Framing) (limits : Limits) → IsSteady (stream_of side (new_state framing limits))
start_steady Client framing limits = omega arith
start_steady Server framing limits = omega arith

start_orderly : (side : Side) (framing : Framing) (limits : Limits) → AreOrderly (pair_of side (new_state framing limits)).other.owed
start_orderly Client framing limits = tt
start_orderly Server framing limits = tt

-- nothing is open, asked or refused
start_enough : (side : Side) (framing : Framing) (limits : Limits) (q : Question) (asked answered : ℕ)
    → Enough q (pair_of side (new_state framing limits)).other.refusals (asked + answered) (open_in q (pair_of side (new_state framing limits)).other.owed + (asked + answered))
start_enough Client framing limits (alone id) asked answered = inr (omega arith)
start_enough Client framing limits (together ids) asked answered = inr (omega arith)
start_enough Client framing limits by_array asked answered = inr (omega arith)
start_enough Client framing limits under_null asked answered = inr (omega arith)
start_enough Server framing limits (alone id) asked answered = inr (omega arith)
start_enough Server framing limits (together ids) asked answered = inr (omega arith)
start_enough Server framing limits by_array asked answered = inr (omega arith)
start_enough Server framing limits under_null asked answered = inr (omega arith)

start_untaken : (side : Side) (framing : Framing) (limits : Limits) (contents : Placed) → drop (stream_of side (new_state framing limits)).taken contents ≡ contents
start_untaken Client framing limits contents = refl
start_untaken Server framing limits contents = refl

-- those that were judged, and those that are to come
parts : Grow → (s f : Stream) → Later s f → IsSteady s → placed_contents f ≡ judged s ++ drop s.taken (placed_contents f)
parts grow s f later steady =
    let g = grown grow s f later in
    let front : take s.taken (placed_contents f) ≡ judged s = ap (take s.taken) g.is ∙ take-append-le s.taken (placed_contents s) g.later steady in
    sym (take-append-drop s.taken (placed_contents f)) ∙ ap (λ xs. xs ++ drop s.taken (placed_contents f)) front

module _ (grow : Grow) (protocol : Protocol) (side : Side) (framing : Framing) (limits : Limits) (seen : List Seen) where
  abbrev start : State
  start = new_state framing limits

  abbrev mine : Stream
  mine = stream_of side (state_of protocol framing limits seen)

  abbrev yours : Stream
  yours = stream_of (other side) (state_of protocol framing limits seen)

  pub later_of : (a : Side) (front back : List Seen) → seen ≡ front ++ back → Later (stream_of a (state_from protocol start front)) (stream_of a (state_of protocol framing limits seen))
  later_of a front back split =
      subst (λ state. Later (stream_of a (state_from protocol start front)) (stream_of a state)) (sym (ap (state_from protocol start) split ∙ state_from-append protocol start front back))
      (all_later protocol a back (state_from protocol start front))

  parts_of : (a : Side) (front back : List Seen) → seen ≡ front ++ back → placed_contents (stream_of a (state_of protocol framing limits seen))
      ≡ judged (stream_of a (state_from protocol start front)) ++ drop (stream_of a (state_from protocol start front)).taken (placed_contents (stream_of a (state_of protocol framing limits seen)))
  parts_of a front back split =
      parts grow (stream_of a (state_from protocol start front)) (stream_of a (state_of protocol framing limits seen)) (later_of a front back split) (all_steady grow protocol a front start (start_steady a framing limits))

  -- counts of what was judged are counts of what is to come
  timely_by : (front back : List Seen) → seen ≡ front ++ back → (q : Question)
      → IsNoMore protocol q (judged (stream_of side (state_from protocol start front))) (judged (stream_of (other side) (state_from protocol start front)))
      → (answered_in q (placed_contents mine) + asked_in q (drop (stream_of (other side) (state_from protocol start front)).taken (placed_contents yours))
      ≤ asked_in q (placed_contents yours) + answered_in q (drop (stream_of side (state_from protocol start front)).taken (placed_contents mine)))
      ⊎ (MayHaveLess q × (suc (leaves_in protocol (drop (stream_of (other side) (state_from protocol start front)).taken (placed_contents yours))) ≤ leaves_in protocol (placed_contents yours)))
  timely_by front back split q (inl count) =
      let m : answered_in q (placed_contents mine) ≡ answered_in q (judged (stream_of side (state_from protocol start front))) + answered_in q (drop (stream_of side (state_from protocol start front)).taken (placed_contents mine)) =
      ap (answered_in q) (parts_of side front back split) ∙ answered-append q (judged (stream_of side (state_from protocol start front))) (drop (stream_of side (state_from protocol start front)).taken (placed_contents mine)) in
      let y : asked_in q (placed_contents yours) ≡ asked_in q (judged (stream_of (other side) (state_from protocol start front))) + asked_in q (drop (stream_of (other side) (state_from protocol start front)).taken (placed_contents yours)) =
      ap (asked_in q) (parts_of (other side) front back split) ∙ asked-append q (judged (stream_of (other side) (state_from protocol start front))) (drop (stream_of (other side) (state_from protocol start front)).taken (placed_contents yours)) in
      inl (omega (arith, count, m, y))
  timely_by front back split q (inr less) =
      let y : leaves_in protocol (placed_contents yours) ≡ leaves_in protocol (judged (stream_of (other side) (state_from protocol start front))) + leaves_in protocol (drop (stream_of (other side) (state_from protocol start front)).taken (placed_contents yours)) =
      ap (leaves_in protocol) (parts_of (other side) front back split) ∙ leaves-append protocol (judged (stream_of (other side) (state_from protocol start front))) (drop (stream_of (other side) (state_from protocol start front)).taken (placed_contents yours)) in
      let some = less.1 in
      inr (less.0, (omega (arith, some, y)))

  pub answers_none : AllSay (placed_contents mine)
      → ((before after : List Seen) → seen ≡ before ++ after → (q : Question) → CanBeAsked q
      → IsNoMore protocol q (judged (stream_of side (state_of protocol framing limits before))) (judged (stream_of (other side) (state_of protocol framing limits before))))
      → AccusesNone side is_of_answers (findings_of protocol framing limits seen)
  answers_none says counts =
      accuses_none side (findings_of protocol framing limits seen)
      (both_each grow protocol side (Spared side) (Timely protocol side mine yours) (Holds protocol side mine yours) mine yours (keeps protocol side mine yours) seen start
      (start_steady side framing limits) (start_steady (other side) framing limits)
      (subst (λ xs. Holds protocol side mine yours xs (drop (stream_of (other side) start).taken (placed_contents yours)) (pair_of side start)) (sym (start_untaken side framing limits (placed_contents mine)))
      (subst (λ ys. Holds protocol side mine yours (placed_contents mine) ys (pair_of side start)) (sym (start_untaken (other side) framing limits (placed_contents yours)))
      (record {
        says = says;
        known = λ sure. record {
          orderly = start_orderly side framing limits;
          cancels = λ none. refl;
          enough = λ more q can. start_enough side framing limits q (asked_in q (placed_contents yours)) (answered_in q (placed_contents mine));
        };
      })))
      refl refl
      (λ front back split q can. timely_by front back split q (counts front back split q can)))
