-- A connection that is fed, and one that is done.
use Rattle.std.proofs.Common.{◌≡◌, ◌≤◌, ◌<◌, ℕ, zero, suc, ◌||◌, Bool, true, false, cond, min, List, [], ◌∷◌, ◌++◌, map, take, length, Option, Some, None, refl, ap, sym, ◌∙◌, subst, append-nil, arith}
use Rattle.std.proofs.lemmas.List.{length-take, length-map, take-append-le, append_cancel_left}
use Rattle.std.specs.Prelude.{is_some, slice_get}
use Rattle.lsp_frames.specs.declared.frame.Frame.{Frame}
use Rattle.connection_history.specs.declared.close.Close.{Close}
use Rattle.connection_history.specs.declared.event.Event.{Event}
use Rattle.connection_history.specs.History.{Happening, came, called, called_all, noticed, withdrew, answered, ended, History, or_else, units_of, ends, is_over, is_open, close_at, close_of as close_in}
use Rattle.connection_history.proofs.Streams.{slice_get-kept}
use Rattle.connection_history.specs.Events.{events_of}
use Rattle.content_streams.specs.declared.ending.HowEnded.{HowEnded}
use Rattle.content_streams.specs.Streams.{Stream, contents, contents_of, placed_contents, placed_contents_of, end_of, close_of as end_of_stream}
use Rattle.connection_steps.specs.States.{State, theirs_of}
use Rattle.connection_steps.proofs.TheirFound.{found}
use Rattle.open_calls.specs.declared.their_call.TheirCall.{TheirCall}
use Rattle.open_calls.specs.Numbered.{at}
use Rattle.connection_history.proofs.Tests.{same_test}
use Rattle.connection.proofs.Stands.{none_at_zero}
use Rattle.connection.proofs.StreamLaws.{PlacesAreOf, OnlyGrow, FaultsStay}
use Rattle.connection_desk.specs.Desks as desks
use Rattle.connection.specs.Settings.{Chosen, rules_of}
use Rattle.connection.specs.Connections.{Connection, IsStreamOf, HasEnded, was_full, had_ended, StandsAfter, IsDone, read, origin_of}

-- ---- more contents

few_taken : {A B : Type 0} (f : A → B) (n : ℕ) (xs : List A) (ys : List B) → n ≡ length ys → ys ≡ map f (take n xs) → n ≤ length xs
few_taken f n xs ys counted are =
    let all : n ≡ min n (length xs) = counted ∙ ap length are ∙ length-map (take n xs) f ∙ length-take n xs in
    omega arith

-- as many contents have places as there are
places_few : (places_are : PlacesAreOf) (s : Stream) (n : ℕ) → n ≤ length (contents s) → n ≤ length (placed_contents s)
places_few places_are s n few =
    let all = ap length (places_are s.framing s.limit s.pieces s.ended) in
    omega (arith, all, length-map (placed_contents s) (λ (placed : ℕ × Frame). placed.1))

pub grown : (places_are : PlacesAreOf) (settings : Chosen) (history : History) (before now : Stream) (later : List Frame) (places : List (ℕ × Frame)) → IsStreamOf settings history before
    → now.framing ≡ before.framing → now.limit ≡ before.limit → now.taken ≡ before.taken → contents now ≡ contents before ++ later
    → placed_contents now ≡ placed_contents before ++ places → IsStreamOf settings history now
grown places_are settings history before now later places is framing limit taken more placed =
    let few : before.taken ≤ length (contents before) = few_taken (read (rules_of settings)) before.taken (contents before) (units_of history) is.taken is.came in
    let firsts : take now.taken (contents now) ≡ take before.taken (contents before) =
    (λ i. take (taken i) (more i)) ∙ take-append-le before.taken (contents before) later few in
    let first_places : take now.taken (placed_contents now) ≡ take before.taken (placed_contents before) =
    (λ i. take (taken i) (placed i)) ∙ take-append-le before.taken (placed_contents before) places (places_few places_are before before.taken few) in
    record {
      framing = framing ∙ is.framing;
      limit = limit ∙ is.limit;
      taken = taken ∙ is.taken;
      came = is.came ∙ ap (map (read (rules_of settings))) (sym firsts);
      origins = is.origins ∙ ap (map (origin_of settings.tells_broken)) (sym first_places);
    }

-- the same connection with another stream
stream_stands : (c : Connection) (history : History) (told : List Event) (now : Stream) → StandsAfter c history told → IsStreamOf c.settings history now
    → ((close : Close) → close_in history ≡ Some close → HasEnded c.settings now history close) → StandsAfter (record c { stream = now }) history told
stream_stands c history told now stands is so = record {
  lawful = stands.lawful;
  typed = stands.typed;
  calls = stands.calls;
  stream = is;
  ended = so;
  desk = stands.desk;
  taken = stands.taken;
}

pub stands_as : (c before : Connection) (history : History) (told : List Event) → before ≡ c → StandsAfter before history told → StandsAfter c history told
stands_as c before history told same stands = subst (λ b. StandsAfter b history told) same stands

pub not_ended : (o : Option HowEnded) → is_some o ≡ false → o ≡ None
not_ended None e = refl
not_ended (Some how) e = cc

-- where the input isn't over it hasn't ended
going_on : (b : Bool) (o : Option Close) → b ≡ is_some o → b ≡ false → o ≡ None
going_on b None is going = refl
going_on b (Some close) is going = absurd (cc)

or_closed : (o p : Option Close) → is_some (or_else o p) ≡ (is_some p || is_some o)
or_closed None None = refl
or_closed None (Some close) = refl
or_closed (Some close) None = refl
or_closed (Some close) (Some other) = refl

ends_at : (h : Happening) → ends h ≡ is_some (close_at h)
ends_at (came from u) = refl
ends_at (called n o) = refl
ends_at (called_all n os) = refl
ends_at (noticed o) = refl
ends_at (withdrew by k) = refl
ends_at (answered n a) = refl
ends_at (ended close) = refl

-- it is over where it has ended
pub over_closed : (history : History) → is_over history ≡ is_some (close_in history)
over_closed [] = refl
over_closed (h ∷ past) = (λ i. ends_at h i || over_closed past i) ∙ sym (or_closed (close_in past) (close_at h))

pub unclosed : (history : History) → is_over history ≡ false → close_in history ≡ None
unclosed history going = going_on (is_over history) (close_in history) (over_closed history) going

pub over_is : (c : Connection) (history : History) (told : List Event) → StandsAfter c history told → c.desk.state.is_over ≡ is_over history
over_is c history told stands = ap (λ (s : State). s.is_over) stands.desk.state

pub fed_stands : (grow : OnlyGrow) (c : Connection) (history : History) (told : List Event) (piece : List ℕ) (now : Stream) → c.stream.ended ≡ None → c.desk.state.is_over ≡ false
    → now ≡ record c.stream { pieces = c.stream.pieces ++ piece ∷ [] } → StandsAfter c history told → StandsAfter (record c { stream = now }) history told
fed_stands grow c history told piece now unended going is stands =
    let s = c.stream in
    let more = grow.contents s.framing s.limit s.pieces (piece ∷ []) s.ended in
    let places = grow.places s.framing s.limit s.pieces (piece ∷ []) s.ended in
    let grows : contents now ≡ contents s ++ more.0 =
    ap contents is ∙ more.1 ∙ ap (λ e. contents_of s.framing s.limit s.pieces e ++ more.0) (sym unended) in
    let placed : placed_contents now ≡ placed_contents s ++ places.0 =
    ap placed_contents is ∙ places.1 ∙ ap (λ e. placed_contents_of s.framing s.limit s.pieces e ++ places.0) (sym unended) in
    let open_still : close_in history ≡ None = unclosed history (sym (over_is c history told stands) ∙ going) in
    stream_stands c history told now stands (grown grow.places_are c.settings history s now more.0 places.0 stands.stream
    (ap (λ (t : Stream). t.framing) is) (ap (λ (t : Stream). t.limit) is) (ap (λ (t : Stream). t.taken) is) grows placed)
    (λ close closed. absurd (cc))

ended_later : (stay : FaultsStay) (settings : Chosen) (history : History) (s now : Stream) (how : HowEnded) (later : List Frame) (close : Close) → s.ended ≡ None
    → now ≡ record s { ended = Some how } → contents now ≡ contents s ++ later → HasEnded settings s history close → HasEnded settings now history close
ended_later stay settings history s now how later _ unended is grows (was_full frame next many) =
    was_full frame
    (ap (λ fs. slice_get fs (length (units_of history))) grows ∙ slice_get-kept (contents s) later (length (units_of history)) frame next) many
ended_later stay settings history s now how later _ unended is grows (had_ended end next was) =
    let shown : end_of s.framing s.limit s.pieces None ≡ Some end = ap (end_of s.framing s.limit s.pieces) (sym unended) ∙ was in
    let pieces : s.pieces ≡ s.pieces ++ [] = sym (append-nil s.pieces) in
    let same : contents now ≡ contents s =
    ap contents is ∙ ap (λ ps. contents_of s.framing s.limit ps (Some how)) pieces ∙ stay.contents s.framing s.limit s.pieces [] (Some how) end shown
    ∙ ap (contents_of s.framing s.limit s.pieces) (sym unended) in
    let stays : end_of_stream now ≡ Some end =
    ap end_of_stream is ∙ ap (λ ps. end_of s.framing s.limit ps (Some how)) pieces ∙ stay.end s.framing s.limit s.pieces [] (Some how) end shown in
    had_ended end (ap (λ fs. slice_get fs (length (units_of history))) same ∙ next) stays

pub ended_stands : (grow : OnlyGrow) (stay : FaultsStay) (c : Connection) (history : History) (told : List Event) (how : HowEnded) (now : Stream) → c.stream.ended ≡ None
    → now ≡ record c.stream { ended = Some how } → StandsAfter c history told → StandsAfter (record c { stream = now }) history told
ended_stands grow stay c history told how now unended is stands =
    let s = c.stream in
    let more = grow.contents s.framing s.limit s.pieces [] (Some how) in
    let grows : contents now ≡ contents s ++ more.0 =
    ap contents is ∙ ap (λ ps. contents_of s.framing s.limit ps (Some how)) (sym (append-nil s.pieces)) ∙ more.1
    ∙ ap (λ e. contents_of s.framing s.limit s.pieces e ++ more.0) (sym unended) in
    let places = grow.places s.framing s.limit s.pieces [] (Some how) in
    let placed : placed_contents now ≡ placed_contents s ++ places.0 =
    ap placed_contents is ∙ ap (λ ps. placed_contents_of s.framing s.limit ps (Some how)) (sym (append-nil s.pieces)) ∙ places.1
    ∙ ap (λ e. placed_contents_of s.framing s.limit s.pieces e ++ places.0) (sym unended) in
    stream_stands c history told now stands (grown grow.places_are c.settings history s now more.0 places.0 stands.stream
    (ap (λ (t : Stream). t.framing) is) (ap (λ (t : Stream). t.limit) is) (ap (λ (t : Stream). t.taken) is) grows placed)
    (λ close closed. ended_later stay c.settings history s now how more.0 close unended is grows (stands.ended close closed))

-- ---- done

pub all_told : (c : Connection) (history : History) (told : List Event) → StandsAfter c history told → c.desk.untold ≡ [] → events_of history ≡ told
all_told c history told stands none = stands.desk.events ∙ ap (λ es. told ++ es) none ∙ append-nil told

-- no call is open where none stands in the list
none_open : (history : History) → (theirs_of history).calls ≡ [] → (number : ℕ) → 0 < number → is_open number history ≡ false
none_open history none zero some = absurd (omega arith)
none_open history none (suc n) some = found history n ∙ ap (λ calls. is_some (at (suc n) calls)) none

first_there : (e : ℕ × TheirCall) (es : List (ℕ × TheirCall)) → is_some (at e.0 (e ∷ es)) ≡ true
first_there e es = ap (λ b. is_some (cond b (Some e.1) (at e.0 es))) (same_test e.0 e.0 refl)

none_there : (history : History) (calls : List (ℕ × TheirCall)) → (theirs_of history).calls ≡ calls
    → ((number : ℕ) → 0 < number → is_open number history ≡ false) → calls ≡ []
none_there history [] is closed = refl
none_there history (e ∷ es) is closed = absurd (some_open e.0 (ap (λ calls. is_some (at e.0 calls)) is ∙ first_there e es))
  where
    some_open : (n : ℕ) → is_some (at n (theirs_of history).calls) ≡ true → ⊥
    some_open zero there = let none = none_at_zero history in cc
    some_open (suc n) there = let opened = found history n in let shut = closed (suc n) (omega arith) in cc

pub done_from : (c : Connection) (history : History) (told : List Event) → StandsAfter c history told → desks.IsDone c.desk → IsDone c history told
done_from c history told stands done = record {
  over = sym (over_is c history told stands) ∙ done.over;
  all_told = all_told c history told stands done.told;
  answered = none_open history (sym (ap (λ (s : State). s.theirs.calls) stands.desk.state) ∙ done.answered);
  taken = done.taken;
}

pub done_to : (c : Connection) (history : History) (told : List Event) → StandsAfter c history told → IsDone c history told → desks.IsDone c.desk
done_to c history told stands done = record {
  over = over_is c history told stands ∙ done.over;
  told = append_cancel_left told c.desk.untold [] (sym stands.desk.events ∙ done.all_told ∙ sym (append-nil told));
  answered = ap (λ (s : State). s.theirs.calls) stands.desk.state ∙ none_there history (theirs_of history).calls refl done.answered;
  taken = done.taken;
}
