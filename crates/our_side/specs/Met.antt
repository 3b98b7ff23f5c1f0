-- A conversation in which a client asks once, and the other side is a connection that answers.
use Rattle.std.specs.Prelude.{ℕ, List, [], ◌∷◌, false, map, length, None, Some, codes}
use Rattle.connection.specs.Connections.{Connection}
use Rattle.connection.specs.Settings.{Chosen}
use Rattle.connection_desk.specs.Desks.{capped_tally}
use Rattle.connection_history.specs.History.{History, came, answered, units_of}
use Rattle.connection_history.specs.Items.{items_of, text_of}
use Rattle.connection_history.specs.declared.order.Order.TheVariants.{AsAnswered}
use Rattle.connection_messages.specs.ReadBack.{call_as_read}
use Rattle.connection_messages.specs.Texts.{answer_text, call_text}
use Rattle.connection_messages.specs.declared.answer.Answer.{Answer}
use Rattle.connection_messages.specs.declared.answer.Answer.TheVariants.{Result}
use Rattle.connection_messages.specs.declared.entry.Entry.TheVariants.{Call}
use Rattle.connection_messages.specs.declared.outgoing.Outgoing.{Outgoing}
use Rattle.connection_messages.specs.declared.unit.Unit.TheVariants.{Single}
use Rattle.connection_steps.specs.States.{state_of}
use Rattle.connection_steps.specs.Tallies.{tally_of}
use Rattle.content_streams.specs.declared.framing.Framing.TheVariants.{Contents}
use Rattle.conversation_rules.specs.Judging.{Seen, Wrote}
use Rattle.conversation_rules.specs.declared.finding.Limits.{Limits}
use Rattle.conversation_rules.specs.declared.side.Side.TheVariants.{Client, Server}
use Rattle.message_ids.specs.declared.id.Id.TheVariants.{Unsigned}

abbrev pub chosen : Chosen
chosen = record { framing = Contents; order = AsAnswered; cancels = None; most_entries = None; null_params = false; tells_broken = false; content = 1000; calls = 10 }

abbrev pub limits : Limits
limits = record { content = 1000; ids = 10 }

-- the request, with the id 1, and its answer
abbrev pub question : Outgoing
question = record { method = codes "a"; params = None }

abbrev pub reply : Answer
reply = Result (codes "null")

abbrev pub conversation : List Seen
conversation = Wrote Client (call_text 1 question) ∷ Wrote Server (answer_text (Unsigned 1) reply) ∷ []

-- what has happened to the connection by then, the latest first
abbrev pub happenings : History
happenings = answered 1 (Some reply) ∷ came None (Single (Call (call_as_read 1 question))) ∷ []

-- a connection that was fed these pieces, after this history, whose host was told all events and took so many texts
abbrev pub connection_of : List (List ℕ) → History → ℕ → Connection
connection_of pieces history taken = record {
  settings = chosen;
  stream = record { framing = Contents; limit = 1000; pieces = pieces; ended = None; taken = length (units_of history) };
  desk = record {
    cancels = None;
    order = AsAnswered;
    state = state_of AsAnswered history;
    untold = [];
    out = record { framing = Contents; written = map text_of (items_of AsAnswered history); taken = taken };
    tally = capped_tally (tally_of AsAnswered history);
  };
}
