-- A connection is accused of no answer, where it refuses what is too large, or takes each batch whole.
use Rattle.std.proofs.Common.{◌≡◌, ◌⊎◌, inl, inr, ℕ, zero, suc, ◌≤◌, Bool, true, false, if◌then◌else◌, List, [], ◌∷◌, ◌++◌, map, take, length, Option, None, refl, sym, ap, subst, ◌∙◌, arith, append-nil}
use Rattle.std.specs.Prelude.{is_some}
use Rattle.lsp_frames.specs.declared.frame.Frame.{Frame}
use Rattle.connection.specs.BackToBack.{Message, call, calls, notice, withdrawal, answer, answers, messages_of, whole_count, text_of}
use Rattle.connection.specs.Connections.{Connection, read}
use Rattle.connection.specs.Settings.{Chosen, rules_of}
use Rattle.connection_history.specs.History.{History, stream, units_of}
use Rattle.connection_history.specs.Refusals.{IsLawful}
use Rattle.connection_history.specs.Stream.{entries_along}
use Rattle.connection_messages.specs.declared.unit.Unit.{Unit}
use Rattle.connection_messages.specs.declared.answer.Answer.{Answer}
use Rattle.connection_messages.specs.declared.cancels.Cancels.{Cancels}
use Rattle.connection_history.specs.declared.order.Order.{Order}
use Rattle.content_streams.specs.Framed.{placed, placed_frames}
use Rattle.content_streams.specs.Lines.{placed_line_contents}
use Rattle.content_streams.specs.Streams.{Stream, plain, plain_at, contents, placed_contents_of, placed_contents}
use Rattle.content_streams.specs.declared.ending.HowEnded.TheVariants as how
use Rattle.content_streams.specs.declared.framing.Framing.{Framing}
use Rattle.content_streams.specs.declared.framing.Framing.TheVariants.{Frames, Lines, Contents}
use Rattle.conversation_rules.specs.Judging.{Seen, Wrote, Closed, Failed, State, new_state, stream_of, state_with, state_from, all_taken, fed, ended_stream, event_stream, step}
use Rattle.conversation_rules.specs.Speakers.{Pair}
use Rattle.conversation_rules.specs.declared.finding.Limits.{Limits}
use Rattle.conversation_rules.specs.declared.protocol.Protocol.{Protocol}
use Rattle.conversation_rules.specs.declared.side.Side.{Side}
use Rattle.conversation_rules.specs.declared.side.Side.TheVariants.{Client, Server}
use Rattle.message_ids.specs.declared.id.Id.{Id}
use Rattle.our_side.specs.Answered.{AreAnsweredWhole, any_cancel, has_ids, OfSingleCalls, came_alone, came_together, said_alone, said_together, total}
use Rattle.our_side.specs.Asked.{AllSay, Question, alone, together, by_array, under_null, CanBeAsked, asked_in, answered_in, leaves_in, IsNoMore, judged}
use Rattle.our_side.specs.OurSide.{seen_of, IsInTime, AllTaken}
use Rattle.our_side.proofs.Asking.{counts, may_count, may_pass, counts_all, TakenEach, asked_each, leaves_each, each_taken, each_asked, each_leaves, first_taken as first_frames, first_asked, first_leaves, units_kept, units_few}
use Rattle.our_side.proofs.Forms.{calls_all}
use Rattle.our_side.proofs.Plainly.{later_of}
use Rattle.our_side.proofs.Replying.{SayEach, answered_each, all_say, each_answered, first_answered, messages_say, messages_few}
use Rattle.connection.proofs.SaidSound.{AreSound}
use Rattle.our_side.proofs.Streaming.{Later, other, IsSide, own, others, which, own_stream, other_stream, grown}
use Rattle.our_side.proofs.Writes.{Laws, sound, contents_are}

-- ---- all contents that there are were judged

abbrev IsJudged : Stream → Type 0
IsJudged s = length (placed_contents s) ≤ s.taken

event_judged : (before after : Stream) → IsJudged before → IsJudged (event_stream before after)
event_judged before after is = from (is_some before.ended)
  where
    from : (b : Bool) → IsJudged (if b then before else all_taken after)
    from true = is
    from false = omega arith

side_judged : (side another : Side) → IsSide side another → (state : State) (after : Stream) (p : Pair) → IsJudged (stream_of side state) → IsJudged (stream_of side (state_with another (event_stream (stream_of another state) after) p state))
side_judged side _ own state after p is = subst IsJudged (sym (own_stream side (event_stream (stream_of side state) after) p state)) (event_judged (stream_of side state) after is)
side_judged side _ others state after p is = subst IsJudged (sym (other_stream side (event_stream (stream_of (other side) state) after) p state)) is

step_judged : (protocol : Protocol) (side : Side) (one : Seen) (state : State) → IsJudged (stream_of side state) → IsJudged (stream_of side (step protocol one state))
step_judged protocol side (Wrote another bytes) state is = side_judged side another (which side another) state (fed bytes (stream_of another state)) _ is
step_judged protocol side (Closed another) state is = side_judged side another (which side another) state (ended_stream how.Closed (stream_of another state)) _ is
step_judged protocol side (Failed another) state is = side_judged side another (which side another) state (ended_stream how.ReadFailed (stream_of another state)) _ is

all_judged : (protocol : Protocol) (side : Side) (seen : List Seen) (state : State) → IsJudged (stream_of side state) → IsJudged (stream_of side (state_from protocol state seen))
all_judged protocol side [] state is = is
all_judged protocol side (one ∷ seen) state is = all_judged protocol side seen (step protocol one state) (step_judged protocol side one state is)

no_frames : (limit : ℕ) → placed_frames limit [] ≡ []
unfolding placed_frames placed
no_frames limit = refl

no_lines : (limit : ℕ) → placed_line_contents limit 0 [] ≡ []
unfolding placed_line_contents
no_lines limit = refl

no_contents : (framing : Framing) (limit : ℕ) → placed_contents_of framing limit [] None ≡ []
no_contents Frames limit = no_frames limit
no_contents Lines limit = ap (map plain_at) (no_lines limit)
no_contents Contents limit = refl

start_judged : (side : Side) (framing : Framing) (limits : Limits) → IsJudged (stream_of side (new_state framing limits))
start_judged Client framing limits = let size = ap length (no_contents framing limits.content) in omega (arith, size)
start_judged Server framing limits = let size = ap length (no_contents framing limits.content) in omega (arith, size)

take_all : {X : Type 0} (n : ℕ) (xs : List X) → length xs ≤ n → take n xs ≡ xs
take_all zero [] le = refl
take_all zero (x ∷ xs) le = absurd (let e : suc (length xs) ≤ 0 = le in omega (arith, e))
take_all (suc n) [] le = refl
take_all (suc n) (x ∷ xs) le = ap (λ ys. x ∷ ys) (take_all n xs (let e : suc (length xs) ≤ suc n = le in omega (arith, e)))

judged_is : (protocol : Protocol) (framing : Framing) (limits : Limits) (seen : List Seen) (side : Side) → judged (seen_of protocol framing limits seen side) ≡ placed_contents (seen_of protocol framing limits seen side)
judged_is protocol framing limits seen side =
    let s = seen_of protocol framing limits seen side in
    take_all s.taken (placed_contents s) (all_judged protocol side seen (new_state framing limits) (start_judged side framing limits))

-- ---- a moment of the conversation

-- what a connection answers, whatever its history
pub record AnswersOnce : Type 0 where
  pub alone : (order : Order) (history : History) (test : Id × Answer → Bool) (may : Id → Bool) → OfSingleCalls (λ id a. test (id, a) ≡ true → may id ≡ true) history
      → total (said_alone test) (messages_of order history) ≤ total (came_alone test may) (units_of history)
  pub together : (cancels : Option Cancels) (order : Order) (history : History) → IsLawful cancels history → AreAnsweredWhole cancels (units_of history) ⊎ (any_cancel (stream history) ≡ false) → (test : List Id → Bool)
      → total (said_together test) (messages_of order history) ≤ total (came_together test) (units_of history)
  pub arrays : (order : Order) (history : History) → total (said_together has_ids) (messages_of order history) ≤ total (came_together has_ids) (units_of history)

-- where no array counts
none_counts : (ms : List Message) → total (said_together (λ ids. false)) ms ≡ 0
none_counts [] = refl
none_counts (call key o ∷ ms) = let rest = none_counts ms in omega (arith, rest)
none_counts (calls key os ∷ ms) = let rest = none_counts ms in omega (arith, rest)
none_counts (notice o ∷ ms) = let rest = none_counts ms in omega (arith, rest)
none_counts (withdrawal by key ∷ ms) = let rest = none_counts ms in omega (arith, rest)
none_counts (answer id a ∷ ms) = let rest = none_counts ms in omega (arith, rest)
none_counts (answers all ∷ ms) = let rest = none_counts ms in omega (arith, rest)

module _ (laws : Laws) (once : AnswersOnce) (protocol : Protocol) (framing : Framing) (limits : Limits) (side : Side) (connection : Connection) (history : History) (before : List Seen)
    (it : IsInTime protocol framing limits side connection history before)
    (taken : AllTaken protocol connection.settings (placed_contents (seen_of protocol framing limits before (other side)))) where
  abbrev ours : Stream
  ours = seen_of protocol framing limits before side

  abbrev theirs : Stream
  theirs = seen_of protocol framing limits before (other side)

  abbrev came : List Frame
  came = take (length (units_of it.past)) (contents theirs)

  frames_are : map (λ placed. placed.1) (placed_contents theirs) ≡ contents theirs
  frames_are = laws.placed theirs.framing theirs.limit theirs.pieces theirs.ended

  came_taken : TakenEach protocol connection.settings came
  came_taken =
      first_frames protocol connection.settings (length (units_of it.past)) (contents theirs)
      (subst (TakenEach protocol connection.settings) frames_are (each_taken protocol connection.settings (placed_contents theirs) taken))

  leaves_few : leaves_each protocol came ≤ leaves_in protocol (placed_contents theirs)
  leaves_few =
      let first = first_leaves protocol (length (units_of it.past)) (contents theirs) in
      let all : leaves_each protocol (contents theirs) ≡ leaves_in protocol (placed_contents theirs) = ap (leaves_each protocol) (sym frames_are) ∙ each_leaves protocol (placed_contents theirs) in
      omega (arith, first, all)

  abbrev AreKept : Option Cancels → List Unit → Type 0
  AreKept cancels us = AreAnsweredWhole cancels us ⊎ (any_cancel (entries_along us) ≡ false)

  -- no request was left where no cancel came
  are_kept : leaves_in protocol (placed_contents theirs) ≡ 0 → AreKept it.earlier.settings.cancels (units_of it.past)
  are_kept none =
      subst (λ s. AreKept s.cancels (units_of it.past)) (sym it.settings)
      (subst (AreKept connection.settings.cancels) (sym it.came) (units_kept protocol connection.settings came came_taken (let few = leaves_few in omega (arith, few, none))))

  abbrev whole : ℕ
  whole = whole_count framing it.count it.earlier.desk.out.written

  abbrev messages : List Message
  messages = messages_of it.earlier.settings.order it.past

  are_sound : AreSound it.earlier.settings.cancels messages
  are_sound = sound laws protocol framing limits before side it.earlier it.past it.told it.count it.written

  texts_are : map (λ placed. placed.1) (placed_contents ours) ≡ map plain (take whole (map text_of messages))
  texts_are =
      laws.placed ours.framing ours.limit ours.pieces ours.ended ∙ contents_are laws protocol framing limits before side it.earlier it.past it.told it.count it.written
      ∙ ap (λ ts. map plain (take whole ts)) (laws.texts it.earlier it.past it.told it.written.stands)

  we_say : AllSay (placed_contents ours)
  we_say = all_say (placed_contents ours) (subst SayEach (sym texts_are) (messages_say it.earlier.settings.cancels messages whole are_sound))

  -- where no more arrays were said than came
  counted : (q : Question) → CanBeAsked q → total (said_together (counts_all q)) messages ≤ total (came_together (counts_all q)) (units_of it.past) → answered_in q (placed_contents ours) ≤ asked_in q (placed_contents theirs)
  counted q can in_arrays =
      let said : answered_in q (placed_contents ours) ≡ answered_each q (map plain (take whole (map text_of messages))) = sym (each_answered q (placed_contents ours)) ∙ ap (answered_each q) texts_are in
      let told = messages_few it.earlier.settings.cancels messages whole q can are_sound in
      let singly = once.alone it.earlier.settings.order it.past (counts q) (may_count q) (calls_all (λ id a. counts q (id, a) ≡ true → may_count q id ≡ true) (may_pass q) it.past) in
      let one : total (came_alone (counts q) (may_count q)) (units_of it.past) ≡ total (came_alone (counts q) (may_count q)) (map (read (rules_of connection.settings)) came) = ap (total (came_alone (counts q) (may_count q))) it.came in
      let all : total (came_together (counts_all q)) (units_of it.past) ≡ total (came_together (counts_all q)) (map (read (rules_of connection.settings)) came) = ap (total (came_together (counts_all q))) it.came in
      let read_few = units_few protocol connection.settings came q can came_taken in
      let came_few = first_asked q (length (units_of it.past)) (contents theirs) in
      let asked : asked_each q (contents theirs) ≡ asked_in q (placed_contents theirs) = ap (asked_each q) (sym frames_are) ∙ each_asked q (placed_contents theirs) in
      omega (arith, said, told, singly, in_arrays, one, all, read_few, came_few, asked)

  by_then : (q : Question) → CanBeAsked q → IsNoMore protocol q (placed_contents ours) (placed_contents theirs)
  by_then (alone id) can = inl (counted (alone id) can (let none = none_counts messages in omega (arith, none)))
  by_then (together ids) can = from (leaves_in protocol (placed_contents theirs)) refl
    where
      from : (n : ℕ) → leaves_in protocol (placed_contents theirs) ≡ n → IsNoMore protocol (together ids) (placed_contents ours) (placed_contents theirs)
      from zero none =
          inl (counted (together ids) can (once.together it.earlier.settings.cancels it.earlier.settings.order it.past it.written.stands.lawful (are_kept none) (counts_all (together ids))))
      from (suc n) some = inr (tt, omega (arith, some))
  by_then by_array can = inl (counted by_array can (once.arrays it.earlier.settings.order it.past))
  by_then under_null can = inl (counted under_null can (once.arrays it.earlier.settings.order it.past))

-- ---- the whole conversation

first_taken : (protocol : Protocol) (settings : Chosen) (xs ys : List (ℕ × Frame)) → AllTaken protocol settings (xs ++ ys) → AllTaken protocol settings xs
first_taken protocol settings [] ys taken = tt
first_taken protocol settings (x ∷ xs) ys taken = (taken.0, first_taken protocol settings xs ys taken.1)

first_no_more : (protocol : Protocol) (q : Question) (n : ℕ) (mine yours : List (ℕ × Frame)) → IsNoMore protocol q mine yours → IsNoMore protocol q (take n mine) yours
first_no_more protocol q n mine yours (inl few) = inl (let first = first_answered q n mine in omega (arith, few, first))
first_no_more protocol q n mine yours (inr less) = inr less

module _ (laws : Laws) (once : AnswersOnce) (protocol : Protocol) (framing : Framing) (limits : Limits) (seen : List Seen) (side : Side) (connection : Connection) (history : History)
    (in_time : (before after : List Seen) → seen ≡ before ++ after → IsInTime protocol framing limits side connection history before)
    (taken : AllTaken protocol connection.settings (placed_contents (seen_of protocol framing limits seen (other side)))) where
  pub says : AllSay (placed_contents (seen_of protocol framing limits seen side))
  says = we_say laws once protocol framing limits side connection history seen (in_time seen [] (sym (append-nil seen))) taken

  module _ (before after : List Seen) (split : seen ≡ before ++ after) where
    by_now : Later (seen_of protocol framing limits before (other side)) (seen_of protocol framing limits seen (other side))
    by_now = later_of laws.grow protocol side framing limits seen (other side) before after split

    taken_by : AllTaken protocol connection.settings (placed_contents (seen_of protocol framing limits before (other side)))
    taken_by =
        let s = seen_of protocol framing limits before (other side) in
        let g = grown laws.grow s (seen_of protocol framing limits seen (other side)) by_now in
        first_taken protocol connection.settings (placed_contents s) g.later (subst (AllTaken protocol connection.settings) g.is taken)

  pub counts_by : (before after : List Seen) → seen ≡ before ++ after → (q : Question) → CanBeAsked q
      → IsNoMore protocol q (judged (seen_of protocol framing limits before side)) (judged (seen_of protocol framing limits before (other side)))
  counts_by before after split q can =
      let mine = seen_of protocol framing limits before side in
      subst (IsNoMore protocol q (judged mine)) (sym (judged_is protocol framing limits before (other side)))
      (first_no_more protocol q mine.taken (placed_contents mine) (placed_contents (seen_of protocol framing limits before (other side)))
      (by_then laws once protocol framing limits side connection history before (in_time before after split) (taken_by before after split) q can))
