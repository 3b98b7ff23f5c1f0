-- A connection that goes on.
use Rattle.std.proofs.Common.{◌≡◌, ◌≤◌, ◌<◌, ℕ, ◌+◌, ◌-◌, Bool, false, cond, List, [], ◌∷◌, ◌++◌, map, take, length, Option, Some, None, refl, ap, sym, ◌∙◌, subst, append-nil, length-append, arith}
use Rattle.std.proofs.lemmas.List.{map-append, take_more}
use Rattle.std.specs.List.{slice_get}
use Rattle.std.proofs.lemmas.Option.{slice_get_within, get_or_from_slice_get, slice_get-map}
use Rattle.std.specs.Prelude.{option_to_list, option_map}
use Rattle.lsp_frames.specs.declared.frame.Frame.{Frame}
use Rattle.connection_messages.specs.declared.call.Call.{Call}
use Rattle.connection_messages.specs.declared.unit.Unit.{Unit}
use Rattle.connection_history.specs.declared.broken.Broken.{Broken}
use Rattle.connection_history.specs.declared.close.Close.{Close}
use Rattle.connection_history.specs.declared.close.Close.TheVariants as close
use Rattle.connection_history.specs.declared.event.Event.{Event}
use Rattle.connection_history.specs.declared.refused.Refused.TheVariants.{Over}
use Rattle.connection_history.specs.Stream.{entries_in, entries_along, calls_in}
use Rattle.connection_history.specs.History.{Origin, came, ended, History, or_else, units_of, origins_of, stream, is_over, close_of as close_in}
use Rattle.connection_history.specs.Events.{broken_in, events_of, call_count}
use Rattle.connection_history.proofs.Histories.{stream-came}
use Rattle.connection_history.proofs.Streams.{length-calls_in-append}
use Rattle.content_streams.specs.declared.ending.StreamEnd.{StreamEnd}
use Rattle.content_streams.specs.Streams.{Stream, contents, placed_contents, next_content, next_placed, close_of as end_of_stream}
use Rattle.connection_steps.specs.States.{State}
use Rattle.connection_steps.specs.Steps.{leaving, owed_with}
use Rattle.connection_desk.specs.Desks.{Desk, after_unit, after_end, answer_texts}
use Rattle.connection.specs.Settings.{Chosen, rules_of}
use Rattle.connection.specs.Connections.{Connection, IsStreamOf, HasEnded, was_full, had_ended, StandsAfter, SamePieces, Step, comes, is_full, ends, GoesOn, stays, goes, IsStill, HasStepped, HasGoneOn, read, origin_of, content_came, calls_of, close_of}
use Rattle.connection.specs.Inner.{IsNext, HasMoved, HasStayed, HasGone, HasCome, lone, with_untold}
use Rattle.connection.proofs.Moves.{desk_came, desk_ended}
use Rattle.connection.proofs.Fed.{over_is, unclosed, all_told}
use Rattle.connection.proofs.Stands.{full_more, still}
use Rattle.connection.proofs.StreamLaws.{PlacesAreOf}

-- ---- the next content

take_next : {X : Type 0} (xs : List X) (n : ℕ) (x : X) → slice_get xs n ≡ Some x → take (n + 1) xs ≡ take n xs ++ x ∷ []
take_next xs n x is = take_more xs n x (slice_get_within xs n x is) ∙ ap (λ y. take n xs ++ y ∷ []) (get_or_from_slice_get xs n x x is)

came_is : (c : Connection) (history : History) (told : List Event) → StandsAfter c history told → c.desk.state.theirs.came ≡ call_count history
came_is c history told stands = ap (λ (s : State). s.theirs.came) stands.desk.state

counts : (past : History) (from : Option Origin) (u : Unit) → call_count (came from u ∷ past) ≡ call_count past + calls_of u
counts past from u = ap (λ es. length (calls_in es)) (stream-came past from u) ∙ length-calls_in-append (stream past) (entries_in u)

may_come : (past : History) (b : Bool) → b ≡ false → cond b (Some Over) None ≡ None
may_come past b going = ap (λ t. cond t (Some Over) None) going

-- a content with its place is the content
pub placed_frame : (places_are : PlacesAreOf) (s : Stream) (n : ℕ) (placed : ℕ × Frame) → slice_get (placed_contents s) n ≡ Some placed → slice_get (contents s) n ≡ Some placed.1
placed_frame places_are s n placed is =
    ap (λ fs. slice_get fs n) (sym (places_are s.framing s.limit s.pieces s.ended))
    ∙ slice_get-map (λ (p : ℕ × Frame). p.1) (placed_contents s) n ∙ ap (option_map (λ (p : ℕ × Frame). p.1)) is

taken_stream : (places_are : PlacesAreOf) (settings : Chosen) (past : History) (s : Stream) (placed : ℕ × Frame) → IsStreamOf settings past s → next_placed s ≡ Some placed
    → IsStreamOf settings (content_came settings placed ∷ past) (record s { taken = s.taken + 1 })
taken_stream places_are settings past s placed is next =
    let frame = placed.1 in
    let u = read (rules_of settings) frame in record {
      framing = is.framing;
      limit = is.limit;
      taken = ap (λ n. n + 1) is.taken ∙ sym (length-append (units_of past) (u ∷ []));
      came = ap (λ us. us ++ u ∷ []) is.came ∙ sym (map-append (read (rules_of settings)) (take s.taken (contents s)) (frame ∷ []))
          ∙ ap (map (read (rules_of settings))) (sym (take_next (contents s) s.taken frame (placed_frame places_are s s.taken placed next)));
      origins = ap (λ os. os ++ origin_of settings.tells_broken placed ∷ []) is.origins
          ∙ sym (map-append (origin_of settings.tells_broken) (take s.taken (placed_contents s)) (placed ∷ []))
          ∙ ap (map (origin_of settings.tells_broken)) (sym (take_next (placed_contents s) s.taken placed next));
    }

next_placed_is : (c : Connection) (history : History) (told : List Event) → StandsAfter c history told
    → slice_get (placed_contents c.stream) (length (units_of history)) ≡ next_placed c.stream
next_placed_is c history told stands = ap (slice_get (placed_contents c.stream)) (sym stands.stream.taken)

next_is : (c : Connection) (history : History) (told : List Event) → StandsAfter c history told → slice_get (contents c.stream) (length (units_of history)) ≡ next_content c.stream
next_is c history told stands = ap (slice_get (contents c.stream)) (sym stands.stream.taken)

same_pieces : (s : Stream) (n : ℕ) → SamePieces s (record s { taken = n })
same_pieces s n = record { framing = refl; limit = refl; pieces = refl; ended = refl }

-- ---- it comes

abbrev with_unit : Connection → Option Broken → Unit → Connection
with_unit c broken u = record { settings = c.settings; stream = record c.stream { taken = c.stream.taken + 1 }; desk = after_unit broken u c.desk }

frame_moves : (places_are : PlacesAreOf) (c : Connection) (placed : ℕ × Frame) (broken : Option Broken) → c.desk.state.is_over ≡ false → next_placed c.stream ≡ Some placed
    → option_to_list broken ≡ broken_in (origin_of c.settings.tells_broken placed) (read (rules_of c.settings) placed.1)
    → calls_of (read (rules_of c.settings) placed.1) ≤ c.settings.calls - c.desk.state.theirs.came
    → HasMoved c (with_unit c broken (read (rules_of c.settings) placed.1))
frame_moves places_are c placed broken going next defect few =
    let frame = placed.1 in
    let from = origin_of c.settings.tells_broken placed in
    let u = read (rules_of c.settings) frame in
    let within : c.stream.taken < length (contents c.stream) = slice_get_within (contents c.stream) c.stream.taken frame (placed_frame places_are c.stream c.stream.taken placed next) in record {
      stepped = λ past told stands all.
          (let here : is_over past ≡ false = sym (over_is c past told stands) ∙ going in
          let number : c.desk.state.theirs.came ≡ call_count past = came_is c past told stands in
          let most : call_count past ≤ c.settings.calls = stands.calls in
          let fits : call_count past + calls_of u ≤ c.settings.calls = omega arith in
          let d = c.desk in record {
            history = came from u ∷ past;
            step = comes placed all here (next_placed_is c past told stands ∙ next) fits;
            stands = record {
              lawful = (may_come past (is_over past) here, stands.lawful);
              typed = (tt, stands.typed);
              calls = subst (λ n. n ≤ c.settings.calls) (sym (counts past from u)) fits;
              stream = taken_stream places_are c.settings past c.stream placed stands.stream next;
              ended = λ close closed. (let none : close_in past ≡ None = unclosed past here in absurd (cc));
              desk = desk_came c.settings.cancels c.settings past told from u broken d defect stands.desk stands.lawful;
              taken = full_more d.out.framing d.out.written (answer_texts (leaving d.order (owed_with u d.state.owed))) d.out.taken stands.taken;
            };
            pieces = same_pieces c.stream (c.stream.taken + 1);
            settings = refl;
          });
      fewer = omega arith;
      pieces = same_pieces c.stream (c.stream.taken + 1);
      settings = refl;
      taken = refl;
    }

pub unit_moves : (places_are : PlacesAreOf) (c : Connection) (u : Unit) (broken : Option Broken) → c.desk.state.is_over ≡ false → IsNext c u broken
    → calls_of u ≤ c.settings.calls - c.desk.state.theirs.came → HasMoved c (with_unit c broken u)
unit_moves places_are c u broken going next few =
    let P : Unit → Type 0 =
    λ v. option_to_list broken ≡ broken_in (origin_of c.settings.tells_broken next.placed) v → calls_of v ≤ c.settings.calls - c.desk.state.theirs.came → HasMoved c (with_unit c broken v) in
    subst P (sym next.read) (frame_moves places_are c next.placed broken going next.next) next.defect few

-- ---- the input is over

abbrev with_end : Connection → Close → Connection
with_end c close = record { settings = c.settings; stream = c.stream; desk = after_end close c.desk }

ended_stream : (settings : Chosen) (past : History) (s : Stream) (close : Close) → IsStreamOf settings past s → IsStreamOf settings (ended close ∷ past) s
ended_stream settings past s close is = record {
  framing = is.framing;
  limit = is.limit;
  taken = is.taken ∙ ap length (sym (append-nil (units_of past)));
  came = append-nil (units_of past) ∙ is.came;
  origins = append-nil (origins_of past) ∙ is.origins;
}

-- the one end is this
ended_so : (settings : Chosen) (s : Stream) (past : History) (close : Close) → is_over past ≡ false → HasEnded settings s past close
    → (other : Close) → close_in (ended close ∷ past) ≡ Some other → HasEnded settings s (ended close ∷ past) other
ended_so settings s past close going so other is =
    let only : close_in (ended close ∷ past) ≡ Some close = ap (λ o. or_else o (Some close)) (unclosed past going) in
    let same : close ≡ other = cc in
    subst (HasEnded settings s (ended close ∷ past)) same (still settings s past (ended close ∷ past) close (append-nil (units_of past)) so)

ended_stands : (c : Connection) (past : History) (told : List Event) (close : Close) → c.desk.state.is_over ≡ false → HasEnded c.settings c.stream past close → StandsAfter c past told
    → StandsAfter (with_end c close) (ended close ∷ past) told
ended_stands c past told close going so stands = record {
  lawful = (may_come past (is_over past) (sym (over_is c past told stands) ∙ going), stands.lawful);
  typed = (tt, stands.typed);
  calls = subst (λ us. length (calls_in (entries_along us)) ≤ c.settings.calls) (sym (append-nil (units_of past))) stands.calls;
  stream = ended_stream c.settings past c.stream close stands.stream;
  ended = ended_so c.settings c.stream past close (sym (over_is c past told stands) ∙ going) so;
  desk = desk_ended c.settings past told close c.desk stands.desk;
  taken = stands.taken;
}

end_moves : (c : Connection) (close : Close) → c.desk.state.is_over ≡ false
    → ((past : History) (told : List Event) → StandsAfter c past told → events_of past ≡ told → is_over past ≡ false
    → Step c told past (ended close ∷ past) × HasEnded c.settings c.stream past close)
    → HasMoved c (with_end c close)
end_moves c close going step = record {
  stepped = λ past told stands all. record {
    history = ended close ∷ past;
    step = (step past told stands all (sym (over_is c past told stands) ∙ going)).0;
    stands = ended_stands c past told close going (step past told stands all (sym (over_is c past told stands) ∙ going)).1 stands;
    pieces = same_pieces c.stream c.stream.taken;
    settings = refl;
  };
  fewer = subst (λ b. (length (contents c.stream) - c.stream.taken) + 0 < (length (contents c.stream) - c.stream.taken) + cond b 0 1) (sym going) (omega arith);
  pieces = same_pieces c.stream c.stream.taken;
  settings = refl;
  taken = refl;
}

pub full_moves : (places_are : PlacesAreOf) (c : Connection) (u : Unit) (broken : Option Broken) → c.desk.state.is_over ≡ false → IsNext c u broken
    → c.settings.calls - c.desk.state.theirs.came < calls_of u → HasMoved c (with_end c close.Full)
full_moves places_are c u broken going next many = end_moves c close.Full going (λ past told stands all here.
    (let number : c.desk.state.theirs.came ≡ call_count past = came_is c past told stands in
    let most : call_count past ≤ c.settings.calls = stands.calls in
    let here_many : c.settings.calls - c.desk.state.theirs.came < calls_of (read (rules_of c.settings) next.placed.1) = subst (λ v. c.settings.calls - c.desk.state.theirs.came < calls_of v) next.read many in
    let frame = placed_frame places_are c.stream c.stream.taken next.placed next.next in
    let over : c.settings.calls < call_count past + calls_of (read (rules_of c.settings) next.placed.1) = omega arith in
    (is_full next.placed.1 all here (next_is c past told stands ∙ frame) over, was_full next.placed.1 (next_is c past told stands ∙ frame) over)))

pub close_moves : (c : Connection) (end : StreamEnd) → c.desk.state.is_over ≡ false → next_content c.stream ≡ None → end_of_stream c.stream ≡ Some end
    → HasMoved c (with_end c (close_of end))
close_moves c end going none is = end_moves c (close_of end) going (λ past told stands all here.
    (ends end all here (next_is c past told stands ∙ none) is, had_ended end (next_is c past told stands ∙ none) is))

-- ---- the same at equal values

pub moves_as : (c before now next : Connection) → c ≡ before → now ≡ next → HasMoved c now → HasMoved before next
moves_as c before now next same to moved = subst (λ b. HasMoved b next) same (subst (λ n. HasMoved c n) to moved)

pub next_as : (c before : Connection) (u : Unit) (broken : Option Broken) → before ≡ c → IsNext before u broken → IsNext c u broken
next_as c before u broken same next = subst (λ b. IsNext b u broken) same next

-- ---- several steps

pub gone_none : (c : Connection) → HasGone c c
gone_none c = record {
  gone = λ history told stands. record { history = history; steps = stays; stands = stands };
  pieces = same_pieces c.stream c.stream.taken;
  settings = refl;
  taken = refl;
}

same_step : (c : Connection) (taken : ℕ) (desk : Desk) (told : List Event) (past now : History)
    → Step (record { settings = c.settings; stream = record c.stream { taken = taken }; desk = desk }) told past now → Step c told past now
same_step c taken desk told past _ (comes placed all here next fits) = comes placed all here next fits
same_step c taken desk told past _ (is_full frame all here next many) = is_full frame all here next many
same_step c taken desk told past _ (ends end all here next is) = ends end all here next is

abbrev moved_to : Connection → ℕ → Desk → Connection
moved_to c taken desk = record { settings = c.settings; stream = record c.stream { taken = taken }; desk = desk }

is_moved_to : (before now : Connection) → SamePieces before.stream now.stream → now.settings ≡ before.settings → now ≡ moved_to before now.stream.taken now.desk
is_moved_to before now pieces settings = λ i. record {
  settings = settings i;
  stream = record {
    framing = pieces.framing i;
    limit = pieces.limit i;
    pieces = pieces.pieces i;
    ended = pieces.ended i;
    taken = now.stream.taken;
  };
  desk = now.desk;
}

step_from : (before now : Connection) (told : List Event) (past next : History) → SamePieces before.stream now.stream → now.settings ≡ before.settings
    → Step now told past next → Step before told past next
step_from before now told past next pieces settings step =
    same_step before now.stream.taken now.desk told past next (subst (λ c. Step c told past next) (is_moved_to before now pieces settings) step)

pub gone_more : (before now next : Connection) → HasGone before now → now.desk.untold ≡ [] → HasMoved now next → HasGone before next
gone_more before now next gone none moved = record {
  gone = λ past told stands.
      (let g : HasCome before now past told = gone.gone past told stands in
      let m : HasStepped now next g.history told = moved.stepped g.history told g.stands (all_told now g.history told g.stands none) in
      record {
        history = m.history;
        steps = goes g.history m.history g.steps (step_from before now told g.history m.history gone.pieces gone.settings m.step);
        stands = m.stands;
      });
  pieces = record {
    framing = moved.pieces.framing ∙ gone.pieces.framing;
    limit = moved.pieces.limit ∙ gone.pieces.limit;
    pieces = moved.pieces.pieces ∙ gone.pieces.pieces;
    ended = moved.pieces.ended ∙ gone.pieces.ended;
  };
  settings = moved.settings ∙ gone.settings;
  taken = moved.taken ∙ gone.taken;
}

-- the same where nothing was left to tell
pub gone_on : (before current next now : Connection) → HasGone before current → next ≡ current → current.desk.untold ≡ [] → HasMoved next now → HasGone before now
gone_on before current next now gone same none moved =
    gone_more before next now (subst (λ c. HasGone before c) (sym same) gone) (ap (λ (c : Connection). c.desk.untold) same ∙ none) moved

-- where it is refused, all that came is told
pub refused_there : (before current next now : Connection) (history : History) (told : List Event) → HasGone before current → next ≡ current → current.desk.untold ≡ [] → now ≡ next
    → StandsAfter before history told → HasGoneOn before now history told
refused_there before current next now history told gone same none as_was stands =
    let g : HasCome before current history told = gone.gone history told stands in
    record {
      history = g.history;
      steps = g.steps;
      stands = subst (λ c. StandsAfter c g.history told) (sym (as_was ∙ same)) g.stands;
      all_told = all_told current g.history told g.stands none;
    }

pub stays_still : (before current next now : Connection) (history : History) (told : List Event) → HasGone before current → next ≡ current → current.desk.untold ≡ [] → HasStayed next now
    → StandsAfter before history told → (x : History) × GoesOn before told history x × StandsAfter now x told × IsStill now x told
stays_still before current next now history told gone same none stayed stands =
    let g : HasCome before current history told = gone.gone history told stands in
    let here : StandsAfter next g.history told = subst (λ c. StandsAfter c g.history told) (sym same) g.stands in
    let all : events_of g.history ≡ told = all_told current g.history told g.stands none in
    let still : IsStill next g.history told = stayed.still g.history told here all in
    (g.history, g.steps, subst (λ c. StandsAfter c g.history told) (sym stayed.same) here, subst (λ c. IsStill c g.history told) (sym stayed.same) still)

-- ---- the next content, as it is read

known : (o : Option (ℕ × Frame)) (frame : Frame) → option_map (λ (p : ℕ × Frame). p.1) o ≡ Some frame → (placed : ℕ × Frame) × (o ≡ Some placed) × (placed.1 ≡ frame)
known None frame is = absurd (cc)
known (Some placed) frame is = (placed, refl, cc)

pub next_from : (places_are : PlacesAreOf) (c : Connection) (frame : Frame) (u : Unit) (broken : Option Broken) → next_content c.stream ≡ Some frame → u ≡ read (rules_of c.settings) frame
    → ((placed : ℕ × Frame) → next_placed c.stream ≡ Some placed → option_to_list broken ≡ broken_in (origin_of c.settings.tells_broken placed) u) → IsNext c u broken
next_from places_are c frame u broken next is defect =
    let s = c.stream in
    let found = known (next_placed s) frame
    (sym (slice_get-map (λ (p : ℕ × Frame). p.1) (placed_contents s) s.taken) ∙ ap (λ fs. slice_get fs s.taken) (places_are s.framing s.limit s.pieces s.ended) ∙ next) in
    record {
      placed = found.0;
      next = found.1;
      read = is ∙ ap (read (rules_of c.settings)) (sym found.2);
      defect = defect found.0 found.1;
    }

-- of a call by itself nothing is broken
pub no_defect : (from : Option Origin) (call : Call) → broken_in from (lone call) ≡ []
no_defect None call = refl
no_defect (Some from) call = refl

-- what isn't told yet is told
pub told_there : (c : Connection) (event : Event) (history : History) (told : List Event) → c.desk.untold ≡ [] → StandsAfter (with_untold event c) history told
    → StandsAfter c history (told ++ event ∷ [])
told_there c event history told none stands = record {
  lawful = stands.lawful;
  typed = stands.typed;
  calls = stands.calls;
  stream = stands.stream;
  ended = stands.ended;
  desk = record {
    cancels = stands.desk.cancels;
    order = stands.desk.order;
    state = stands.desk.state;
    events = stands.desk.events ∙ sym (append-nil (told ++ event ∷ [])) ∙ ap (λ es. (told ++ event ∷ []) ++ es) (sym none);
    framing = stands.desk.framing;
    written = stands.desk.written;
    tally = stands.desk.tally;
  };
  taken = stands.taken;
}

pub reported_there : (before now : Connection) (event : Event) (history : History) (told : List Event) → HasGone before (with_untold event now) → now.desk.untold ≡ []
    → StandsAfter before history told → (x : History) × GoesOn before told history x × StandsAfter now x (told ++ event ∷ [])
reported_there before now event history told gone none stands =
    let g : HasCome before (with_untold event now) history told = gone.gone history told stands in
    (g.history, g.steps, told_there now event g.history told none g.stands)
