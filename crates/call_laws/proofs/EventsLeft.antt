-- The events of what was fed, as a host asks for them.
use Rattle.std.proofs.Common.{◌≡◌, ℕ, zero, suc, ◌+◌, ◌-◌, ◌<◌, ◌≤◌, List, [], ◌∷◌, ◌++◌, map, drop, length, Bool, true, false, cond, Option, Some, None, refl, sym, ap, subst, ◌∙◌, append_assoc, append-nil, arith}
use Rattle.std.proofs.lemmas.Bool.{le-ltb, lt-ltb}
use Rattle.std.proofs.lemmas.List.{length-append}
use Rattle.std.specs.Prelude.{slice_get}
use Rattle.lsp_frames.specs.declared.frame.Frame.{Frame}
use Rattle.connection.specs.Connections.{Connection, GoesOn, stays, goes, IsStill, over, waits, SamePieces, StandsAfter, Step, comes, is_full, ends, calls_of, close_of, content_came, contents, placed_contents, read, stream_end}
use Rattle.connection.specs.Settings.{Chosen, rules_of}
use Rattle.connection_history.specs.Events.{call_count, events_at, events_of}
use Rattle.connection_history.specs.History.{Happening, History, ended, is_over, units_of}
use Rattle.connection_history.specs.declared.close.Close.TheVariants.{Full}
use Rattle.connection_history.specs.declared.event.Event.{Event}
use Rattle.content_streams.specs.Streams.{contents_of, end_of, placed_contents_of}
use Rattle.content_streams.specs.declared.ending.HowEnded.{HowEnded}
use Rattle.content_streams.specs.declared.ending.StreamEnd.{StreamEnd}
use Rattle.content_streams.specs.declared.framing.Framing.{Framing}
use Rattle.call_laws.specs.Asking.{Asks, begin, is_told, is_not_told, HasAsked, all_behind, all_events, contents_left, end_behind, is_too_much}

-- ---- lists

length-end : {X : Type 0} (xs : List X) (x : X) → length (xs ++ x ∷ []) ≡ suc (length xs)
length-end [] x = refl
length-end (y ∷ xs) x = ap suc (length-end xs x)

drop-next : {X : Type 0} (xs : List X) (n : ℕ) (x : X) → slice_get xs n ≡ Some x → drop n xs ≡ x ∷ drop (suc n) xs
drop-next [] n x h = absurd (cc)
drop-next (y ∷ xs) zero x h = let same : y ≡ x = cc in ap (λ z. z ∷ xs) same
drop-next (y ∷ xs) (suc n) x h = drop-next xs n x h

drop-past : {X Y : Type 0} (f : X → Y) (xs : List X) (n : ℕ) → slice_get (map f xs) n ≡ None → drop n xs ≡ []
drop-past f [] zero h = refl
drop-past f [] (suc n) h = refl
drop-past f (x ∷ xs) zero h = absurd (cc)
drop-past f (x ∷ xs) (suc n) h = drop-past f xs n h

got-of : {X Y : Type 0} (f : X → Y) (xs : List X) (n : ℕ) (y : Y) → slice_get (map f xs) n ≡ Some y → (x : X) × (slice_get xs n ≡ Some x) × (f x ≡ y)
got-of f [] n y h = absurd (cc)
got-of f (x ∷ xs) zero y h = let same : f x ≡ y = cc in (x, refl, same)
got-of f (x ∷ xs) (suc n) y h = got-of f xs n y h

-- ---- all that happens

over-by : {X : Type 0} (b : Bool) (x y : X) → b ≡ true → cond b x y ≡ x
over-by true x y h = refl
over-by false x y h = absurd (cc)

on-by : {X : Type 0} (b : Bool) (x y : X) → b ≡ false → cond b x y ≡ y
on-by true x y h = absurd (cc)
on-by false x y h = refl

same-by : {X : Type 0} (b : Bool) (x : X) → cond b x x ≡ x
same-by true x = refl
same-by false x = refl

-- behind the end nothing happens
all-over : (settings : Chosen) (left : List (ℕ × Frame)) (end : Option StreamEnd) (past : History) → is_over past ≡ true → all_behind settings left end past ≡ past
all-over settings [] end past h = over-by (is_over past) past (end_behind end past) h
all-over settings (placed ∷ later) end past h = over-by (is_over past) past _ h

-- of events, more stand behind them
abbrev More : List Event → History → Type 0
More events history = (rest : List Event) × (events_of history ≡ events ++ rest)

more-none : (past : History) → More (events_of past) past
more-none past = ([], sym (append-nil (events_of past)))

more-one : (past : History) (h : Happening) → More (events_of past) (h ∷ past)
more-one past h = (events_at past h, refl)

more-if : (events : List Event) (b : Bool) (first second : History) → More events first → More events second → More events (cond b first second)
more-if events true first second one two = one
more-if events false first second one two = two

more-end : (end : Option StreamEnd) (past : History) → More (events_of past) (end_behind end past)
more-end None past = more-none past
more-end (Some end) past = more-one past (ended (close_of end))

more-then : (past : History) (h : Happening) (last : History) → More (events_of (h ∷ past)) last → More (events_of past) last
more-then past h last more = (events_at past h ++ more.0, more.1 ∙ append_assoc (events_of past) (events_at past h) more.0)

-- the events so far are the first
more-behind : (settings : Chosen) (left : List (ℕ × Frame)) (end : Option StreamEnd) (past : History) → More (events_of past) (all_behind settings left end past)
more-behind settings [] end past = more-if (events_of past) (is_over past) past (end_behind end past) (more-none past) (more-end end past)
more-behind settings (placed ∷ later) end past =
    let last : History = all_behind settings later end (content_came settings placed ∷ past) in
    more-if (events_of past) (is_over past) past (cond (is_too_much settings placed past) (ended Full ∷ past) last) (more-none past)
    (more-if (events_of past) (is_too_much settings placed past) (ended Full ∷ past) last (more-one past (ended Full))
    (more-then past (content_came settings placed) last (more-behind settings later end (content_came settings placed ∷ past))))

-- ---- a step

abbrev PlacesAre : Type 0
PlacesAre = (framing : Framing) (limit : ℕ) (pieces : List (List ℕ)) (ended : Option HowEnded) →
    map (λ placed. placed.1) (placed_contents_of framing limit pieces ended) ≡ contents_of framing limit pieces ended

module _ (places_are : PlacesAre) where
  abbrev behind : Connection → History → History
  behind c history = all_behind c.settings (contents_left c history) (stream_end c) history

  places : (c : Connection) → map (λ placed. placed.1) (placed_contents c) ≡ contents c
  places c = places_are c.stream.framing c.stream.limit c.stream.pieces c.stream.ended

  full-by : (settings : Chosen) (placed : ℕ × Frame) (later : List (ℕ × Frame)) (end : Option StreamEnd) (past : History) → is_over past ≡ false
      → is_too_much settings placed past ≡ true → all_behind settings (placed ∷ later) end past ≡ ended Full ∷ past
  full-by settings placed later end past goes_on many = on-by (is_over past) past _ goes_on ∙ over-by (is_too_much settings placed past) (ended Full ∷ past) _ many

  comes-by : (settings : Chosen) (placed : ℕ × Frame) (later : List (ℕ × Frame)) (end : Option StreamEnd) (past : History) → is_over past ≡ false
      → is_too_much settings placed past ≡ false → all_behind settings (placed ∷ later) end past ≡ all_behind settings later end (content_came settings placed ∷ past)
  comes-by settings placed later end past goes_on few = on-by (is_over past) past _ goes_on ∙ on-by (is_too_much settings placed past) (ended Full ∷ past) _ few

  ends-by : (settings : Chosen) (end : Option StreamEnd) (past : History) → is_over past ≡ false → all_behind settings [] end past ≡ end_behind end past
  ends-by settings end past goes_on = on-by (is_over past) past (end_behind end past) goes_on

  stepped : (c : Connection) (told : List Event) (past now : History) → Step c told past now → behind c now ≡ behind c past
  stepped c told past now (comes placed all goes_on next few) =
      let n = length (units_of past) in
      let left : contents_left c past ≡ placed ∷ drop (suc n) (placed_contents c) = drop-next (placed_contents c) n placed next in
      let came : length (units_of (content_came c.settings placed ∷ past)) ≡ suc n = length-end (units_of past) (read (rules_of c.settings) placed.1) in
      ap (λ k. all_behind c.settings (drop k (placed_contents c)) (stream_end c) (content_came c.settings placed ∷ past)) came
      ∙ sym (comes-by c.settings placed (drop (suc n) (placed_contents c)) (stream_end c) past goes_on
      (le-ltb c.settings.calls (call_count past + calls_of (read (rules_of c.settings) placed.1)) few)) ∙ sym (ap (λ left. all_behind c.settings left (stream_end c) past) left)
  stepped c told past now (is_full frame all goes_on next many) =
      let n = length (units_of past) in
      let got = got-of (λ (placed : ℕ × Frame). placed.1) (placed_contents c) n frame (ap (λ fs. slice_get fs n) (places c) ∙ next) in
      let left : contents_left c past ≡ got.0 ∷ drop (suc n) (placed_contents c) = drop-next (placed_contents c) n got.0 got.1 in
      all-over c.settings (contents_left c (ended Full ∷ past)) (stream_end c) (ended Full ∷ past) refl
      ∙ sym (full-by c.settings got.0 (drop (suc n) (placed_contents c)) (stream_end c) past goes_on
      (lt-ltb c.settings.calls (call_count past + calls_of (read (rules_of c.settings) got.0.1))
      (subst (λ (f : Frame). c.settings.calls < call_count past + calls_of (read (rules_of c.settings) f)) (sym got.2) many)))
      ∙ sym (ap (λ left. all_behind c.settings left (stream_end c) past) left)
  stepped c told past now (ends end all goes_on next closes) =
      let n = length (units_of past) in
      let left : contents_left c past ≡ [] = drop-past (λ (placed : ℕ × Frame). placed.1) (placed_contents c) n (ap (λ fs. slice_get fs n) (places c) ∙ next) in
      all-over c.settings (contents_left c (ended (close_of end) ∷ past)) (stream_end c) (ended (close_of end) ∷ past) refl
      ∙ sym (ap (λ (e : Option StreamEnd). end_behind e past) closes) ∙ sym (ends-by c.settings (stream_end c) past goes_on)
      ∙ sym (ap (λ left. all_behind c.settings left (stream_end c) past) left)

  went : (c : Connection) (told : List Event) (past now : History) → GoesOn c told past now → behind c now ≡ behind c past
  went c told past now stays = refl
  went c told past now (goes between last on step) = stepped c told between now step ∙ went c told past between on

  -- ---- a call

  of-pieces : (before after : Connection) (history : History) → SamePieces before.stream after.stream → after.settings ≡ before.settings → behind after history ≡ behind before history
  of-pieces before after history same settings =
      let placed : placed_contents after ≡ placed_contents before = λ i. placed_contents_of (same.framing i) (same.limit i) (same.pieces i) (same.ended i) in
      let end : stream_end after ≡ stream_end before = λ i. end_of (same.framing i) (same.limit i) (same.pieces i) (same.ended i) in
      λ i. all_behind (settings i) (drop (length (units_of history)) (placed i)) (end i) history

  pub same-events : (before after : Connection) (past now : History) (told since : List Event) → HasAsked before after past now told since
      → all_events after now ≡ all_events before past
  same-events before after past now told since asked =
      ap events_of (of-pieces before after now asked.pieces asked.settings ∙ went before told past now asked.goes_on)

  -- What was told are the first of all events.
  pub first-events : (c : Connection) (history : History) (told : List Event) → StandsAfter c history told → (rest : List Event) × (all_events c history ≡ told ++ rest)
  first-events c history told stands =
      let more = more-behind c.settings (contents_left c history) (stream_end c) history in
      (c.desk.untold ++ more.0, more.1 ∙ ap (λ events. events ++ more.0) stands.desk.events ∙ append_assoc told c.desk.untold more.0)

  pub told-next : (before after : Connection) (past now : History) (told : List Event) (event : Event) → HasAsked before after past now told (told ++ event ∷ [])
      → (rest : List Event) × (all_events before past ≡ told ++ event ∷ rest)
  told-next before after past now told event asked =
      let first = first-events after now (told ++ event ∷ []) asked.stands in
      (first.0, sym (same-events before after past now told (told ++ event ∷ []) asked) ∙ first.1 ∙ append_assoc told (event ∷ []) first.0)

  fewer-by : (all told : List Event) (event : Event) (rest : List Event) (before : List Event) → all ≡ before → before ≡ told ++ event ∷ rest
      → length all - length (told ++ event ∷ []) < length before - length told
  fewer-by all told event rest before same first =
      let length-all : length all ≡ length before = ap length same in
      let length-before : length before ≡ length told + suc (length rest) = ap length first ∙ length-append told (event ∷ rest) in
      let one : length (told ++ event ∷ []) ≡ suc (length told) = length-end told event in
      omega (arith, length-all, length-before, one)

  pub told-fewer : (before after : Connection) (past now : History) (told : List Event) (event : Event) → HasAsked before after past now told (told ++ event ∷ [])
      → length (all_events after now) - length (told ++ event ∷ []) < length (all_events before past) - length told
  told-fewer before after past now told event asked =
      let next = told-next before after past now told event asked in
      fewer-by (all_events after now) told event next.0 (all_events before past) (same-events before after past now told (told ++ event ∷ []) asked) next.1

  still-all : (c : Connection) (history : History) (told : List Event) → IsStill c history told → all_events c history ≡ told
  still-all c history told (over all is_it) = ap events_of (all-over c.settings (contents_left c history) (stream_end c) history is_it) ∙ all
  still-all c history told (waits all next none) =
      let n = length (units_of history) in
      let left : contents_left c history ≡ [] = drop-past (λ (placed : ℕ × Frame). placed.1) (placed_contents c) n (ap (λ fs. slice_get fs n) (places c) ∙ next) in
      ap (λ left. events_of (all_behind c.settings left (stream_end c) history)) left
      ∙ ap (λ (e : Option StreamEnd). events_of (cond (is_over history) history (end_behind e history))) none ∙ ap events_of (same-by (is_over history) history) ∙ all

  pub none-left : (before after : Connection) (past now : History) (told : List Event) → HasAsked before after past now told told → IsStill after now told
      → all_events before past ≡ told
  none-left before after past now told asked still = sym (same-events before after past now told told asked) ∙ still-all after now told still

  -- ---- many calls

  asked-same : (first : Connection) (past : History) (told : List Event) (last : Connection) (now : History) (heard : List Event) → StandsAfter first past told
      → Asks first past told last now heard → (all_events last now ≡ all_events first past) × StandsAfter last now heard
  asked-same first past told last now heard stands begin = (refl, stands)
  asked-same first past told last now heard stands (is_told before after history later some event asks asked) =
      (same-events before last history now some (some ++ event ∷ []) asked ∙ (asked-same first past told before history some stands asks).0, asked.stands)
  asked-same first past told last now heard stands (is_not_told before after history later some asks asked) =
      (same-events before last history now heard heard asked ∙ (asked-same first past told before history heard stands asks).0, asked.stands)

  pub asked-front : (first last : Connection) (past now : History) (told heard : List Event) → StandsAfter first past told → Asks first past told last now heard
      → (rest : List Event) × (all_events first past ≡ heard ++ rest)
  asked-front first last past now told heard stands asks =
      let both = asked-same first past told last now heard stands asks in
      let front = first-events last now heard both.1 in
      (front.0, sym both.0 ∙ front.1)

  most-by : (all heard rest : List Event) → all ≡ heard ++ rest → length heard ≤ length all
  most-by all heard rest is = let both : length all ≡ length heard + length rest = ap length is ∙ length-append heard rest in omega (arith, both)

  pub asked-most : (first last : Connection) (past now : History) (told heard : List Event) → StandsAfter first past told → Asks first past told last now heard
      → length heard ≤ length (all_events first past)
  asked-most first last past now told heard stands asks =
      let front = asked-front first last past now told heard stands asks in
      most-by (all_events first past) heard front.0 front.1
