-- What a connection heard, as another would have that did nothing but read: so that it plays no part how the input ended.
use Rattle.std.proofs.Common.{◌≡◌, ◌≢◌, ◌⊎◌, inl, inr, ℕ, ◌≤◌, false, List, [], ◌∷◌, ◌++◌, length, map, take, drop, Option, None, refl, sym, ap, subst, ◌∙◌, append-nil, arith, take-append-drop}
use Rattle.std.proofs.lemmas.Option.{none-some}
use Rattle.connection_messages.specs.declared.cancels.Cancels.{Cancels}
use Rattle.connection_history.specs.declared.event.Event.{Event}
use Rattle.connection_history.specs.Events.{events_of}
use Rattle.connection_history.specs.History.{came, called, called_all, noticed, withdrew, answered, ended, History, units_of, origins_of, is_over, close_of, or_else}
use Rattle.connection_history.specs.Items.{items_of, text_of}
use Rattle.connection_history.specs.Refusals.{IsLawful, first_of}
use Rattle.connection_history.specs.declared.refused.Refused.TheVariants.{Over}
use Rattle.connection_history.specs.Stream.{calls_in, entries_along}
use Rattle.connection.specs.BackToBack.{messages_of, NoCancelNoticed, AllWithin, AreJoined, IsEndedWhole, Understands}
use Rattle.connection.specs.Connections.{Connection, AreTyped, StandsAfter, origin_of, output, read}
use Rattle.connection.specs.Settings.{rules_of}
use Rattle.connection_desk.specs.Desks.{capped_tally}
use Rattle.connection_steps.specs.States.{state_of}
use Rattle.connection_steps.specs.Tallies.{tally_of}
use Rattle.content_streams.specs.Streams.{contents_of, placed_contents_of}
use Rattle.content_streams.specs.declared.ending.HowEnded.{HowEnded}
use Rattle.content_streams.specs.declared.ending.HowEnded.TheVariants.{Closed}
use Rattle.content_streams.specs.declared.framing.Framing.{Framing}
use Rattle.content_streams.specs.declared.framing.Framing.TheVariants.{Frames, Lines, Contents}
use Rattle.call_laws.specs.Talks.{IsHeard, IsFed}

-- ---- what came alone

abbrev only_came : History → History
only_came [] = []
only_came (came o u ∷ past) = came o u ∷ only_came past
only_came (called n o ∷ past) = only_came past
only_came (called_all n os ∷ past) = only_came past
only_came (noticed o ∷ past) = only_came past
only_came (withdrew by k ∷ past) = only_came past
only_came (answered n a ∷ past) = only_came past
only_came (ended close ∷ past) = only_came past

same_units : (history : History) → units_of (only_came history) ≡ units_of history
same_units [] = refl
same_units (came o u ∷ past) = ap (λ us. us ++ u ∷ []) (same_units past)
same_units (called n o ∷ past) = same_units past ∙ sym (append-nil (units_of past))
same_units (called_all n os ∷ past) = same_units past ∙ sym (append-nil (units_of past))
same_units (noticed o ∷ past) = same_units past ∙ sym (append-nil (units_of past))
same_units (withdrew by k ∷ past) = same_units past ∙ sym (append-nil (units_of past))
same_units (answered n a ∷ past) = same_units past ∙ sym (append-nil (units_of past))
same_units (ended close ∷ past) = same_units past ∙ sym (append-nil (units_of past))

same_origins : (history : History) → origins_of (only_came history) ≡ origins_of history
same_origins [] = refl
same_origins (came o u ∷ past) = ap (λ os. os ++ o ∷ []) (same_origins past)
same_origins (called n o ∷ past) = same_origins past ∙ sym (append-nil (origins_of past))
same_origins (called_all n os ∷ past) = same_origins past ∙ sym (append-nil (origins_of past))
same_origins (noticed o ∷ past) = same_origins past ∙ sym (append-nil (origins_of past))
same_origins (withdrew by k ∷ past) = same_origins past ∙ sym (append-nil (origins_of past))
same_origins (answered n a ∷ past) = same_origins past ∙ sym (append-nil (origins_of past))
same_origins (ended close ∷ past) = same_origins past ∙ sym (append-nil (origins_of past))

goes_on : (history : History) → is_over (only_came history) ≡ false
goes_on [] = refl
goes_on (came o u ∷ past) = goes_on past
goes_on (called n o ∷ past) = goes_on past
goes_on (called_all n os ∷ past) = goes_on past
goes_on (noticed o ∷ past) = goes_on past
goes_on (withdrew by k ∷ past) = goes_on past
goes_on (answered n a ∷ past) = goes_on past
goes_on (ended close ∷ past) = goes_on past

no_close : (history : History) → close_of (only_came history) ≡ None
no_close [] = refl
no_close (came o u ∷ past) = ap (λ c. or_else c None) (no_close past)
no_close (called n o ∷ past) = no_close past
no_close (called_all n os ∷ past) = no_close past
no_close (noticed o ∷ past) = no_close past
no_close (withdrew by k ∷ past) = no_close past
no_close (answered n a ∷ past) = no_close past
no_close (ended close ∷ past) = no_close past

lawful : (cancels : Option Cancels) (history : History) → IsLawful cancels (only_came history)
lawful cancels [] = tt
lawful cancels (came o u ∷ past) = (ap (λ b. first_of ((b, Over) ∷ [])) (goes_on past), lawful cancels past)
lawful cancels (called n o ∷ past) = lawful cancels past
lawful cancels (called_all n os ∷ past) = lawful cancels past
lawful cancels (noticed o ∷ past) = lawful cancels past
lawful cancels (withdrew by k ∷ past) = lawful cancels past
lawful cancels (answered n a ∷ past) = lawful cancels past
lawful cancels (ended close ∷ past) = lawful cancels past

typed : (history : History) → AreTyped (only_came history)
typed [] = tt
typed (came o u ∷ past) = (tt, typed past)
typed (called n o ∷ past) = typed past
typed (called_all n os ∷ past) = typed past
typed (noticed o ∷ past) = typed past
typed (withdrew by k ∷ past) = typed past
typed (answered n a ∷ past) = typed past
typed (ended close ∷ past) = typed past

-- ---- the connection that did nothing else

abbrev reading_of : Connection → History → Connection
reading_of c history = record {
  settings = c.settings;
  stream = record { framing = c.stream.framing; limit = c.stream.limit; pieces = c.stream.pieces; ended = None; taken = c.stream.taken };
  desk = record {
    cancels = c.settings.cancels;
    order = c.settings.order;
    state = state_of c.settings.order (only_came history);
    untold = [];
    out = record { framing = c.settings.framing; written = map text_of (items_of c.settings.order (only_came history)); taken = 0 };
    tally = capped_tally (tally_of c.settings.order (only_came history));
  };
}

-- outside of Lines it plays no part how the input ended
same_contents : (framing : Framing) (limit : ℕ) (pieces : List (List ℕ)) (how : Option HowEnded) → framing ≢ Lines → contents_of framing limit pieces how ≡ contents_of framing limit pieces None
same_contents Frames limit pieces how other = refl
same_contents Lines limit pieces how other = absurd (other refl)
same_contents Contents limit pieces how other = refl

same_places : (framing : Framing) (limit : ℕ) (pieces : List (List ℕ)) (how : Option HowEnded) → framing ≢ Lines → placed_contents_of framing limit pieces how ≡ placed_contents_of framing limit pieces None
same_places Frames limit pieces how other = refl
same_places Lines limit pieces how other = absurd (other refl)
same_places Contents limit pieces how other = refl

reads_alone : (c : Connection) (history : History) (told : List Event) → StandsAfter c history told → c.settings.framing ≢ Lines → StandsAfter (reading_of c history) (only_came history) (events_of (only_came history))
reads_alone c history told stands other =
    let s = c.stream in
    let is = stands.stream in
    let apart : s.framing ≢ Lines = λ e. other (sym is.framing ∙ e) in
    record {
      lawful = lawful c.settings.cancels history;
      typed = typed history;
      calls = subst (λ us. length (calls_in (entries_along us)) ≤ c.settings.calls) (sym (same_units history)) stands.calls;
      stream = record {
        framing = is.framing;
        limit = is.limit;
        taken = is.taken ∙ ap length (sym (same_units history));
        came = same_units history ∙ is.came ∙ ap (λ all. map (read (rules_of c.settings)) (take s.taken all)) (same_contents s.framing s.limit s.pieces s.ended apart);
        origins = same_origins history ∙ is.origins ∙ ap (λ all. map (origin_of c.settings.tells_broken) (take s.taken all)) (same_places s.framing s.limit s.pieces s.ended apart);
      };
      ended = λ close at. absurd (let none = no_close history in cc);
      desk = record { cancels = refl; order = refl; state = refl; events = sym (append-nil (events_of (only_came history))); framing = refl; written = refl; tally = refl };
      taken = omega arith;
    }

-- ---- what it heard

abbrev pub Understanding : Type 0
Understanding = (n : ℕ) (writer reader : Connection) (said heard : History) (told other : List Event) → StandsAfter writer said told → StandsAfter reader heard other → NoCancelNoticed writer.settings.cancels said → AreJoined n writer reader
    → AllWithin reader.settings.most_entries (messages_of writer.settings.order said) → Understands n writer reader said heard

understood : (n : ℕ) (writer reader : Connection) (said heard : History) → Understands n writer reader said heard → IsHeard (messages_of writer.settings.order said) heard
understood n writer reader said heard it = record {
  front = take (length (units_of heard)) (messages_of writer.settings.order said);
  rest = drop (length (units_of heard)) (messages_of writer.settings.order said);
  whole = sym (take-append-drop (length (units_of heard)) (messages_of writer.settings.order said));
  heard = it.first;
}

pub hears : Understanding → (n : ℕ) (writer reader : Connection) (said heard : History) (told other : List Event) → StandsAfter writer said told → StandsAfter reader heard other → NoCancelNoticed writer.settings.cancels said
    → IsFed n writer reader → AllWithin reader.settings.most_entries (messages_of writer.settings.order said) → IsHeard (messages_of writer.settings.order said) heard
hears law n writer reader said heard told other stands reads notices fed within = from fed.ended
  where
    by_came : IsHeard (messages_of writer.settings.order said) (only_came heard) → IsHeard (messages_of writer.settings.order said) heard
    by_came it = record { front = it.front; rest = it.rest; whole = it.whole; heard = sym (same_units heard) ∙ it.heard }

    from : (writer.settings.framing ≢ Lines) ⊎ IsEndedWhole writer.settings.framing n (output writer).written reader.stream.ended → IsHeard (messages_of writer.settings.order said) heard
    from (inl apart) =
        by_came (understood n writer (reading_of reader heard) said (only_came heard)
        (law n writer (reading_of reader heard) said (only_came heard) told (events_of (only_came heard)) stands
        (reads_alone reader heard other reads (λ e. apart (sym fed.framing ∙ e))) notices
        (record { framing = fed.framing; cancels = fed.cancels; fed = fed.fed; fits = fed.fits; ended = inl (none-some Closed) }) within))
    from (inr whole) =
        understood n writer reader said heard
        (law n writer reader said heard told other stands reads notices (record { framing = fed.framing; cancels = fed.cancels; fed = fed.fed; fits = fed.fits; ended = whole }) within)
