-- What arrives is fed to the session, and an end closes it.
use Rattle.std.proofs.Common.{◌≡◌, ◌≢◌, ℕ, List, [], ◌∷◌, ◌++◌, Bool, true, false, Option, Some, None, is_none, refl, sym, ap, subst, ◌∙◌, append_assoc, append-nil}
use Rattle.std.specs.List.{list_all}
use Rattle.lsp_frames.specs.Contents as contents
use Rattle.lsp_frames.specs.Contents.{Standing}
use Rattle.lsp_frames.specs.Devices.{Ending, Unfinished, Finished, Failed}
use Rattle.method_steps.specs.Steps.{MethodTable}
use Rattle.handler_future.specs.State.{HandlerState}
use Rattle.peer_session.specs.declared.limits.Limits.{Limits}
use Rattle.peer_session.specs.declared.report.Close.{Close}
use Rattle.stream_framing.specs.Framed.{read_text}
use Rattle.stream_framing.specs.declared.framing.Framing.{Framing}
use Rattle.stream_framing.proofs.Laws.{text_of, text_unfinished}
use Rattle.stream_session.specs.Framings.{IsShortIn, IsShortOf}
use Rattle.stream_session.specs.Promise.{close_of}
use Rattle.stream_session.specs.Stream.{Fed, StreamState, StreamStands, StopsShort, MayFollow, IsTaken}
use Rattle.rpc_peer.specs.Arriving.{bytes_of, ending_of, ending_by}
use Rattle.rpc_peer.specs.declared.arrival.Arrival.{Arrival}
use Rattle.rpc_peer.specs.declared.arrival.Arrival.TheVariants.{Piece, End}
use Rattle.rpc_peer.specs.Serves.{fed_by, is_piece}
use Rattle.rpc_peer.specs.Taking.{EndsInput, with_arrival}

-- ---- bytes and endings behind others

pub bytes-append : (xs ys : List Arrival) → bytes_of (xs ++ ys) ≡ bytes_of xs ++ bytes_of ys
bytes-append [] ys = refl
bytes-append (Piece bytes ∷ xs) ys = ap (λ l. bytes ++ l) (bytes-append xs ys) ∙ sym (append_assoc bytes (bytes_of xs) (bytes_of ys))
bytes-append (End e ∷ xs) ys = bytes-append xs ys

ending-pieces : (xs ys : List Arrival) → list_all is_piece xs ≡ true → ending_of (xs ++ ys) ≡ ending_of ys
ending-pieces [] ys pieces = refl
ending-pieces (Piece bytes ∷ xs) ys pieces = ending-pieces xs ys pieces
ending-pieces (End e ∷ xs) ys pieces = absurd (cc)

pieces-more : (xs : List Arrival) (bytes : List ℕ) → list_all is_piece xs ≡ true → list_all is_piece (xs ++ Piece bytes ∷ []) ≡ true
pieces-more [] bytes pieces = refl
pieces-more (Piece first ∷ xs) bytes pieces = pieces-more xs bytes pieces
pieces-more (End e ∷ xs) bytes pieces = absurd (cc)

-- Where only pieces have arrived, the input goes on.
pub pieces-go-on : (xs : List Arrival) → list_all is_piece xs ≡ true → ending_of xs ≡ Unfinished
pieces-go-on [] pieces = refl
pieces-go-on (Piece bytes ∷ xs) pieces = pieces-go-on xs pieces
pieces-go-on (End e ∷ xs) pieces = absurd (cc)

-- ---- what was fed

-- While pieces arrive, the text is their bytes.
text-pieces : (framing : Framing) (xs : List Arrival) → list_all is_piece xs ≡ true → read_text framing (ending_of xs) (bytes_of xs) ≡ bytes_of xs
text-pieces framing xs pieces = ap (λ e. read_text framing e (bytes_of xs)) (pieces-go-on xs pieces) ∙ text_unfinished framing (bytes_of xs)

module _ (framing : Framing) (table : MethodTable) (limits : Limits) (arrived : List Arrival) (before : Option (List ℕ)) (pieces : list_all is_piece arrived ≡ true) where
  abbrev fed-as : (bytes : List ℕ) (ending : Ending) → Fed
  fed-as bytes ending = record { framing = framing; table = table; limits = limits; bytes = bytes; ending = ending; before = before }

  -- what arrives is behind what was fed
  pub fed-more : (arrival : Arrival) → with_arrival (fed_by framing table limits arrived before) arrival ≡ fed_by framing table limits (arrived ++ arrival ∷ []) before
  fed-more (Piece bytes) =
      let all = arrived ++ Piece bytes ∷ [] in
      let text : read_text framing (ending_of arrived) (bytes_of arrived) ++ bytes ≡ read_text framing (ending_of all) (bytes_of all) =
      ap (λ l. l ++ bytes) (text-pieces framing arrived pieces)
      ∙ sym (bytes-append arrived (Piece bytes ∷ []) ∙ ap (λ l. bytes_of arrived ++ l) (append-nil bytes))
      ∙ sym (text-pieces framing all (pieces-more arrived bytes pieces)) in
      ap (λ l. fed-as l (ending_of arrived)) text
      ∙ ap (fed-as (read_text framing (ending_of all) (bytes_of all))) (pieces-go-on arrived pieces ∙ sym (ending-pieces arrived (Piece bytes ∷ []) pieces))
  fed-more (End e) =
      let all = arrived ++ End e ∷ [] in
      ap (λ l. fed-as (read_text framing (ending_by e) l) (ending_by e))
      (text-pieces framing arrived pieces ∙ sym (bytes-append arrived (End e ∷ []) ∙ append-nil (bytes_of arrived)))
      ∙ ap (λ x. fed-as (read_text framing x (bytes_of all)) x) (sym (ending-pieces arrived (End e ∷ []) pieces))

-- ---- an end closes the session

finished-closes : (standing : Standing) → close_of false standing Finished ≢ None
finished-closes (contents.Open []) none = cc
finished-closes (contents.Open (b ∷ rest)) none = cc
finished-closes (contents.Broken fault) none = cc

failed-closes : (standing : Standing) → close_of false standing Failed ≢ None
failed-closes (contents.Open rest) none = cc
failed-closes (contents.Broken fault) none = cc

ended-closes : (standing : Standing) (ending : Ending) → ending ≢ Unfinished → close_of false standing ending ≢ None
ended-closes standing Unfinished ends = absurd (ends refl)
ended-closes standing Finished ends = finished-closes standing
ended-closes standing Failed ends = failed-closes standing

pub closes : (fed : Fed) (jobs : ℕ → Option HandlerState) (s : StreamState) (sink : Option (List ℕ)) → StreamStands fed jobs s sink → IsTaken s
    → fed.ending ≢ Unfinished → s.session.close ≢ None
closes fed jobs s sink had taken ends still =
    let on = had.while_open still in
    taken.is_closed (λ none. ended-closes had.standing fed.ending ends (sym on.last_is ∙ none)) still

-- Only pieces have arrived, as long as it is open.
pub goes-on : (fed : Fed) (jobs : ℕ → Option HandlerState) (s : StreamState) (sink : Option (List ℕ)) (arrived : List Arrival) (arrival : Arrival)
    → StreamStands (with_arrival fed arrival) jobs s sink → IsTaken s → list_all is_piece arrived ≡ true → EndsInput arrival
    → s.session.close ≡ None → list_all is_piece (arrived ++ arrival ∷ []) ≡ true
goes-on fed jobs s sink arrived (Piece bytes) had taken pieces ends still = pieces-more arrived bytes pieces
goes-on fed jobs s sink arrived (End e) had taken pieces ends still = absurd (closes (with_arrival fed (End e)) jobs s sink had taken ends still)

-- ---- it stops short

pub short-more : (framing : Framing) (table : MethodTable) (limits : Limits) (arrived : List Arrival) (before sink : Option (List ℕ)) (arrival : Arrival)
    → list_all is_piece arrived ≡ true → StopsShort (fed_by framing table limits arrived before) sink
    → IsShortIn framing table limits (bytes_of (arrived ++ arrival ∷ [])) (ending_of (arrived ++ arrival ∷ [])) before sink
short-more framing table limits arrived before sink arrival pieces stops =
    let all = arrived ++ arrival ∷ [] in
    let fed = read_text framing (ending_of arrived) (bytes_of arrived) in
    let later = bytes_of (arrival ∷ []) in
    let text = text_of framing (ending_of all) (bytes_of all) in
    let is : read_text framing (ending_of all) (bytes_of all) ≡ fed ++ (later ++ text.0) =
    text.1 ∙ ap (λ l. l ++ text.0) (bytes-append arrived (arrival ∷ []) ∙ ap (λ l. l ++ later) (sym (text-pieces framing arrived pieces))) ∙ append_assoc fed later text.0 in
    subst (λ bytes. IsShortOf framing table limits bytes before sink) (sym is)
    (stops (later ++ text.0) (subst (λ ending. MayFollow ending (later ++ text.0)) (sym (pieces-go-on arrived pieces)) tt))

follows : (ending : Ending) → MayFollow ending []
follows Unfinished = tt
follows Finished = refl
follows Failed = refl

pub short-here : (fed : Fed) (sink : Option (List ℕ)) → StopsShort fed sink → IsShortOf fed.framing fed.table fed.limits fed.bytes fed.before sink
short-here fed sink stops = subst (λ bytes. IsShortOf fed.framing fed.table fed.limits bytes fed.before sink) (append-nil fed.bytes) (stops [] (follows fed.ending))

pub was-open : (close : Option Close) (answer : Bool) → answer ≡ is_none close → answer ≡ true → close ≡ None
was-open None answer is says = refl
was-open (Some close) answer is says = absurd (cc)
