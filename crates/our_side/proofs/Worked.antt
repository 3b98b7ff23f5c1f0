-- The connection of a worked conversation, as it stands before it, behind the request and behind the answer.
use Rattle.std.proofs.Common.{◌≡◌, ◌≢◌, ◌≤◌, ℕ, false, List, [], ◌∷◌, ◌++◌, map, take, take_while, length, Option, Some, None, true, inl, codes, decimal, refl, sym, ap, subst, ◌∙◌, arith, append-nil}
use Rattle.std.proofs.lemmas.Fmt.{decimal_digit}
use Rattle.std.proofs.lemmas.Option.{none-some}
use Rattle.json.specs.Print.{escape_byte, print_from}
use Rattle.json.proofs.Printed.Utf8.{IsUtf8-are_ascii}
use Rattle.json.specs.Json.{null}
use Rattle.json_texts.proofs.ReadBack.{is_json_text}
use Rattle.json_texts.specs.Texts.{json_text, IsJsonText}
use Rattle.connection.specs.Connections.{StandsAfter, IsDeskOf, IsStreamOf, origin_of, read}
use Rattle.connection.specs.Settings.{rules_of}
use Rattle.connection_history.specs.Events.{events_of}
use Rattle.connection_history.specs.History.{History, came, answered, units_of}
use Rattle.connection_messages.specs.ReadBack.{IsSayable, call_as_read}
use Rattle.connection_messages.specs.Reading.{unit_of}
use Rattle.connection_messages.specs.Texts.{answer_text, call_text, method_text}
use Rattle.connection_messages.specs.declared.entry.Entry.TheVariants.{Call}
use Rattle.connection_messages.specs.declared.unit.Unit.TheVariants.{Single}
use Rattle.content_streams.specs.Lines.{fits}
use Rattle.content_streams.specs.Streams.{contents_of, placed_contents_of, plain, plain_at}
use Rattle.content_streams.specs.declared.ending.HowEnded.{HowEnded}
use Rattle.content_streams.specs.declared.ending.HowEnded.TheVariants.{Closed}
use Rattle.content_streams.specs.declared.framing.Framing.TheVariants.{Contents}
use Rattle.conversation_rules.specs.Judging.{Seen, Wrote}
use Rattle.conversation_rules.specs.declared.protocol.Protocol.TheVariants.{JsonRpc}
use Rattle.conversation_rules.specs.declared.side.Side.TheVariants.{Client, Server}
use Rattle.message_ids.specs.declared.id.Id.TheVariants.{Unsigned}
use Rattle.our_side.specs.Met.{chosen, limits, question, reply, conversation, happenings, connection_of}
use Rattle.our_side.specs.OurSide.{IsWritten, IsInTime}

abbrev pub asks : List ℕ
asks = call_text 1 question

abbrev pub says : List ℕ
says = answer_text (Unsigned 1) reply

-- the request is read as it was said
abbrev pub IsRead : Type 0
IsRead = unit_of (rules_of chosen) false (call_text 1 question) ≡ Single (Call (call_as_read 1 question))

abbrev pub one : History
one = came None (Single (Call (call_as_read 1 question))) ∷ []

-- ---- its texts

decimal_1 : decimal 1 ≡ codes "1"
decimal_1 = decimal_digit 1 (omega arith)

asks_is : asks ≡ codes "{\"id\":1,\"jsonrpc\":\"2.0\",\"method\":\"a\"}"
unfolding escape_byte
asks_is = ap (λ digits. codes "{\"id\":" ++ digits ++ codes ",\"jsonrpc\":\"2.0\"" ++ method_text question) decimal_1

says_is : says ≡ codes "{\"id\":1,\"jsonrpc\":\"2.0\",\"result\":null}"
says_is = ap (λ digits. codes "{\"id\":" ++ digits ++ codes ",\"jsonrpc\":\"2.0\",\"result\":" ++ codes "null" ++ codes "}") decimal_1

is_text : IsJsonText (codes "null")
unfolding json_text print_from
is_text = is_json_text null tt (omega arith) (IsUtf8-are_ascii (codes "null") refl)

asks_fits : fits 1000 asks ≡ true
asks_fits = ap (fits 1000) asks_is

says_fits : length says ≤ 1000
says_fits = omega (arith, ap length says_is)

-- the text is a content, and stands at the start
one_content : contents_of Contents 1000 (asks ∷ []) None ≡ plain asks ∷ []
one_content = ap (λ fits. map plain (take_while (λ text. fits) (asks ∷ []))) asks_fits

one_placed : placed_contents_of Contents 1000 (asks ∷ []) None ≡ (0, plain asks) ∷ []
one_placed = ap (λ fits. map plain_at (take_while (λ placed. fits) ((0, asks) ∷ []))) asks_fits

-- ---- the connection

-- its host was told all events, and the texts are those of the history
desk_of : (pieces : List (List ℕ)) (history : History) (taken : ℕ) → IsDeskOf chosen history (events_of history) (connection_of pieces history taken).desk
desk_of pieces history taken = record { cancels = refl; order = refl; state = refl; events = sym (append-nil (events_of history)); framing = refl; written = refl; tally = refl }

none_came : StandsAfter (connection_of [] [] 0) [] []
none_came = record {
  lawful = tt;
  typed = tt;
  calls = omega arith;
  stream = record { framing = refl; limit = refl; taken = refl; came = refl; origins = refl };
  ended = λ close is. absurd (cc);
  desk = desk_of [] [] 0;
  taken = omega arith;
}

-- it was fed the request, and nothing more came
stream_of_one : IsRead → IsStreamOf chosen one (connection_of (asks ∷ []) one 0).stream
stream_of_one is_read = record {
  framing = refl;
  limit = refl;
  taken = refl;
  came = ap (λ unit. unit ∷ []) (sym is_read) ∙ sym (ap (λ contents. map (read (rules_of chosen)) (take 1 contents)) one_content);
  origins = sym (ap (λ placed. map (origin_of false) (take 1 placed)) one_placed);
}

one_came : IsRead → StandsAfter (connection_of (asks ∷ []) one 0) one (events_of one)
one_came is_read = record {
  lawful = (refl, tt);
  typed = (tt, tt);
  calls = omega arith;
  stream = stream_of_one is_read;
  ended = λ close is. absurd (none-some close is);
  desk = desk_of (asks ∷ []) one 0;
  taken = omega arith;
}

one_answered : IsRead → StandsAfter (connection_of (asks ∷ []) happenings 1) happenings (events_of happenings)
one_answered is_read = record {
  lawful = (refl, (refl, tt));
  typed = (is_text, (tt, tt));
  calls = omega arith;
  stream = record { framing = refl; limit = refl; taken = refl; came = (stream_of_one is_read).came; origins = (stream_of_one is_read).origins };
  ended = λ close is. absurd (none-some close is);
  desk = desk_of (asks ∷ []) happenings 1;
  taken = omega arith;
}

-- ---- what was seen by then

none_is_closed : (how : Option HowEnded) → how ≡ None → (how ≢ Some Closed)
none_is_closed how none is = none-some Closed (sym none ∙ is)

written_before : IsWritten JsonRpc Contents limits [] Server (connection_of [] [] 0) [] [] 0
written_before = record { stands = none_came; framing_is = refl; fits = omega arith; taken = omega arith; first = refl; closed = inl (none_is_closed None refl) }

written_between : IsRead → IsWritten JsonRpc Contents limits (Wrote Client asks ∷ []) Server (connection_of (asks ∷ []) one 0) one (events_of one) 0
written_between is_read = record { stands = one_came is_read; framing_is = refl; fits = omega arith; taken = omega arith; first = refl; closed = inl (none_is_closed None refl) }

pub written_behind : IsRead → IsWritten JsonRpc Contents limits conversation Server (connection_of (asks ∷ []) happenings 1) happenings (events_of happenings) 1
written_behind is_read = record { stands = one_answered is_read; framing_is = refl; fits = (says_fits, omega arith); taken = omega arith; first = refl; closed = inl (none_is_closed None refl) }

came_to_it : IsRead → (history : History) → units_of history ≡ Single (Call (call_as_read 1 question)) ∷ [] → units_of history ≡ map (read (rules_of chosen)) (take (length (units_of history)) (contents_of Contents 1000 (asks ∷ []) None))
came_to_it is_read history is = is ∙ (stream_of_one is_read).came ∙ ap (λ units. map (read (rules_of chosen)) (take (length units) (contents_of Contents 1000 (asks ∷ []) None))) (sym is)

pub in_time : IsRead → (before after : List Seen) → conversation ≡ before ++ after → IsInTime JsonRpc Contents limits Server (connection_of (asks ∷ []) happenings 1) happenings before
in_time is_read [] after is = record { past = []; more = happenings; whole = refl; earlier = connection_of [] [] 0; settings = refl; told = []; count = 0; written = written_before; came = refl }
in_time is_read (first ∷ []) after is =
    let same : first ≡ Wrote Client asks = cc in
    subst (λ seen. IsInTime JsonRpc Contents limits Server (connection_of (asks ∷ []) happenings 1) happenings (seen ∷ [])) (sym same)
    (record { past = one; more = answered 1 (Some reply) ∷ []; whole = refl; earlier = connection_of (asks ∷ []) one 0; settings = refl; told = events_of one; count = 0; written = written_between is_read; came = came_to_it is_read one refl })
in_time is_read (first ∷ (second ∷ [])) after is =
    let same : first ∷ second ∷ [] ≡ conversation = cc in
    subst (λ seen. IsInTime JsonRpc Contents limits Server (connection_of (asks ∷ []) happenings 1) happenings seen) (sym same)
    (record { past = happenings; more = []; whole = refl; earlier = connection_of (asks ∷ []) happenings 1; settings = refl; told = events_of happenings; count = 1; written = written_behind is_read; came = came_to_it is_read happenings refl })
in_time is_read (first ∷ (second ∷ (third ∷ before))) after is = absurd (let none : [] ≡ third ∷ before ++ after = cc in cc)

-- its name is UTF-8, and it has no params
pub is_sayable : IsSayable question
is_sayable = record { method = IsUtf8-are_ascii (codes "a") refl; params = tt }
