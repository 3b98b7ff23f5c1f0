-- The connections of a worked conversation, at each of its moments.
use Rattle.std.proofs.Common.{◌≡◌, ◌≢◌, ◌≤◌, ℕ, false, List, [], ◌∷◌, ◌++◌, map, take, length, Some, None, true, inl, codes, decimal, refl, sym, ap, ◌∙◌, arith, append-nil, take_while}
use Rattle.std.proofs.lemmas.Fmt.{decimal_digit}
use Rattle.std.proofs.lemmas.Option.{none-some}
use Rattle.json.specs.Print.{escape_byte, print_from}
use Rattle.json.proofs.Printed.Utf8.{IsUtf8-are_ascii}
use Rattle.json.specs.Json.{null}
use Rattle.json_texts.proofs.ReadBack.{is_json_text}
use Rattle.json_texts.specs.Texts.{json_text, IsJsonText}
use Rattle.connection.specs.Connections.{StandsAfter, IsDeskOf, IsStreamOf, origin_of, read}
use Rattle.connection.specs.Settings.{rules_of}
use Rattle.connection_history.specs.Events.{events_of}
use Rattle.connection_history.specs.History.{History, came, answered}
use Rattle.connection_messages.specs.ReadBack.{IsSayable}
use Rattle.connection_messages.specs.Reading.{unit_of}
use Rattle.connection_messages.specs.Texts.{method_text}
use Rattle.content_streams.specs.Lines.{fits}
use Rattle.content_streams.specs.Streams.{contents_of, placed_contents_of, plain, plain_at}
use Rattle.content_streams.specs.declared.framing.Framing.TheVariants.{Contents, Lines}
use Rattle.call_laws.specs.Met.{chosen, asked, said, connection_of}
use Rattle.call_laws.specs.Rows.{question, reply, request, response, asks, asks_and_hears, answers}
use Rattle.call_laws.specs.Talks as talks
use Rattle.call_laws.specs.Talks.{IsMoment, AreTalking}

abbrev pub IsReadAs : Type 0
IsReadAs = (unit_of (rules_of chosen) false asked ≡ request) × (unit_of (rules_of chosen) false said ≡ response)

abbrev one : History
one = came None request ∷ []

-- ---- texts

decimal_1 : decimal 1 ≡ codes "1"
decimal_1 = decimal_digit 1 (omega arith)

asked_is : asked ≡ codes "{\"id\":1,\"jsonrpc\":\"2.0\",\"method\":\"a\"}"
unfolding escape_byte
asked_is = ap (λ digits. codes "{\"id\":" ++ digits ++ codes ",\"jsonrpc\":\"2.0\"" ++ method_text question) decimal_1

said_is : said ≡ codes "{\"id\":1,\"jsonrpc\":\"2.0\",\"result\":null}"
said_is = ap (λ digits. codes "{\"id\":" ++ digits ++ codes ",\"jsonrpc\":\"2.0\",\"result\":" ++ codes "null" ++ codes "}") decimal_1

pub is_text : IsJsonText (codes "null")
unfolding json_text print_from
is_text = is_json_text null tt (omega arith) (IsUtf8-are_ascii (codes "null") refl)

pub is_sayable : IsSayable question
is_sayable = record { method = IsUtf8-are_ascii (codes "a") refl; params = tt }

asked_fits : fits 1000 asked ≡ true
asked_fits = ap (fits 1000) asked_is

said_fits : fits 1000 said ≡ true
said_fits = ap (fits 1000) said_is

asked_length : length asked ≤ 1000
asked_length = omega (arith, ap length asked_is)

said_length : length said ≤ 1000
said_length = omega (arith, ap length said_is)

one_content : (text : List ℕ) → fits 1000 text ≡ true → contents_of Contents 1000 (text ∷ []) None ≡ plain text ∷ []
one_content text fit = ap (λ b. map plain (take_while (λ t. b) (text ∷ []))) fit

one_placed : (text : List ℕ) → fits 1000 text ≡ true → placed_contents_of Contents 1000 (text ∷ []) None ≡ (0, plain text) ∷ []
one_placed text fit = ap (λ b. map plain_at (take_while (λ placed. b) ((0, text) ∷ []))) fit

-- ---- the connections

desk_of : (pieces : List (List ℕ)) (history : History) → IsDeskOf chosen history (events_of history) (connection_of pieces history).desk
desk_of pieces history = record { cancels = refl; order = refl; state = refl; events = sym (append-nil (events_of history)); framing = refl; written = refl; tally = refl }

none_came : IsStreamOf chosen [] (connection_of [] []).stream
none_came = record { framing = refl; limit = refl; taken = refl; came = refl; origins = refl }

request_came : IsReadAs → IsStreamOf chosen one (connection_of (asked ∷ []) one).stream
request_came are = record {
  framing = refl;
  limit = refl;
  taken = refl;
  came = ap (λ unit. unit ∷ []) (sym are.0) ∙ sym (ap (λ contents. map (read (rules_of chosen)) (take 1 contents)) (one_content asked asked_fits));
  origins = sym (ap (λ placed. map (origin_of false) (take 1 placed)) (one_placed asked asked_fits));
}

response_came : IsReadAs → IsStreamOf chosen asks_and_hears (connection_of (said ∷ []) asks_and_hears).stream
response_came are = record {
  framing = refl;
  limit = refl;
  taken = refl;
  came = ap (λ unit. unit ∷ []) (sym are.1) ∙ sym (ap (λ contents. map (read (rules_of chosen)) (take 1 contents)) (one_content said said_fits));
  origins = sym (ap (λ placed. map (origin_of false) (take 1 placed)) (one_placed said said_fits));
}

new : StandsAfter (connection_of [] []) [] []
new = record { lawful = tt; typed = tt; calls = omega arith; stream = none_came; ended = λ close is. absurd (none-some close is); desk = desk_of [] []; taken = omega arith }

has_asked : StandsAfter (connection_of [] asks) asks (events_of asks)
has_asked = record {
  lawful = (refl, tt);
  typed = (is_sayable, tt);
  calls = omega arith;
  stream = record { framing = refl; limit = refl; taken = refl; came = refl; origins = refl };
  ended = λ close is. absurd (none-some close is);
  desk = desk_of [] asks;
  taken = omega arith;
}

is_asked : IsReadAs → StandsAfter (connection_of (asked ∷ []) one) one (events_of one)
is_asked are = record { lawful = (refl, tt); typed = (tt, tt); calls = omega arith; stream = request_came are; ended = λ close is. absurd (none-some close is); desk = desk_of (asked ∷ []) one; taken = omega arith }

has_answered : IsReadAs → StandsAfter (connection_of (asked ∷ []) answers) answers (events_of answers)
has_answered are = record {
  lawful = (refl, (refl, tt));
  typed = (is_text, (tt, tt));
  calls = omega arith;
  stream = record { framing = refl; limit = refl; taken = refl; came = (request_came are).came; origins = (request_came are).origins };
  ended = λ close is. absurd (none-some close is);
  desk = desk_of (asked ∷ []) answers;
  taken = omega arith;
}

is_answered : IsReadAs → StandsAfter (connection_of (said ∷ []) asks_and_hears) asks_and_hears (events_of asks_and_hears)
is_answered are = record {
  lawful = (refl, (refl, tt));
  typed = (tt, (is_sayable, tt));
  calls = omega arith;
  stream = response_came are;
  ended = λ close is. absurd (none-some close is);
  desk = desk_of (said ∷ []) asks_and_hears;
  taken = omega arith;
}

-- ---- the moments

no_lines : Contents ≢ Lines
no_lines e = cc

first_moment : IsMoment (connection_of [] asks) (connection_of [] []) asks []
first_moment = record {
  told = events_of asks;
  stands = has_asked;
  notices_no_cancel = (tt, tt);
  within = (tt, tt);
  count = 0;
  fed = record { framing = refl; cancels = refl; fed = refl; fits = (asked_length, omega arith); ended = inl no_lines };
  other_told = [];
  other_stands = new;
  other_notices_no_cancel = tt;
  other_within = tt;
  other_count = 0;
  other_fed = record { framing = refl; cancels = refl; fed = refl; fits = omega arith; ended = inl no_lines };
}

second_moment : IsReadAs → IsMoment (connection_of [] asks) (connection_of (asked ∷ []) one) asks one
second_moment are = record {
  told = events_of asks;
  stands = has_asked;
  notices_no_cancel = (tt, tt);
  within = (tt, tt);
  count = 1;
  fed = record { framing = refl; cancels = refl; fed = refl; fits = (asked_length, omega arith); ended = inl no_lines };
  other_told = events_of one;
  other_stands = is_asked are;
  other_notices_no_cancel = (tt, tt);
  other_within = tt;
  other_count = 0;
  other_fed = record { framing = refl; cancels = refl; fed = refl; fits = omega arith; ended = inl no_lines };
}

third_moment : IsReadAs → IsMoment (connection_of [] asks) (connection_of (asked ∷ []) answers) asks answers
third_moment are = record {
  told = events_of asks;
  stands = has_asked;
  notices_no_cancel = (tt, tt);
  within = (tt, tt);
  count = 1;
  fed = record { framing = refl; cancels = refl; fed = refl; fits = (asked_length, omega arith); ended = inl no_lines };
  other_told = events_of answers;
  other_stands = has_answered are;
  other_notices_no_cancel = (tt, (tt, tt));
  other_within = (tt, tt);
  other_count = 0;
  other_fed = record { framing = refl; cancels = refl; fed = refl; fits = (said_length, omega arith); ended = inl no_lines };
}

last_moment : IsReadAs → IsMoment (connection_of (said ∷ []) asks_and_hears) (connection_of (asked ∷ []) answers) asks_and_hears answers
last_moment are = record {
  told = events_of asks_and_hears;
  stands = is_answered are;
  notices_no_cancel = (tt, (tt, tt));
  within = (tt, tt);
  count = 1;
  fed = record { framing = refl; cancels = refl; fed = refl; fits = (asked_length, omega arith); ended = inl no_lines };
  other_told = events_of answers;
  other_stands = has_answered are;
  other_notices_no_cancel = (tt, (tt, tt));
  other_within = (tt, tt);
  other_count = 1;
  other_fed = record { framing = refl; cancels = refl; fed = refl; fits = (said_length, omega arith); ended = inl no_lines };
}

pub they_talk : IsReadAs → AreTalking (connection_of (said ∷ []) asks_and_hears) (connection_of (asked ∷ []) answers) asks_and_hears answers
they_talk are =
    talks.at_first (connection_of [] asks) (connection_of (said ∷ []) asks_and_hears) (connection_of (asked ∷ []) answers) (came None response ∷ []) asks answers
    (talks.at_second (connection_of [] asks) (connection_of (asked ∷ []) one) (connection_of (asked ∷ []) answers) (answered 1 (Some reply) ∷ []) asks one
    (talks.at_second (connection_of [] asks) (connection_of [] []) (connection_of (asked ∷ []) one) one asks []
    (talks.at_first (connection_of [] []) (connection_of [] asks) (connection_of [] []) asks [] [] (talks.begin (connection_of [] []) (connection_of [] [])) refl first_moment) refl (second_moment are)) refl (third_moment are)) refl (last_moment are)
