-- Two connections, as they stand in a worked conversation.
use Rattle.std.specs.Prelude.{ℕ, List, [], false, map, length, None}
use Rattle.connection.specs.Connections.{Connection}
use Rattle.connection.specs.Settings.{Chosen}
use Rattle.connection_desk.specs.Desks.{capped_tally}
use Rattle.connection_history.specs.History.{History, units_of}
use Rattle.connection_history.specs.Items.{items_of, text_of}
use Rattle.connection_history.specs.declared.order.Order.TheVariants.{AsAnswered}
use Rattle.connection_messages.specs.Texts.{answer_text, call_text}
use Rattle.connection_steps.specs.States.{state_of}
use Rattle.connection_steps.specs.Tallies.{tally_of}
use Rattle.content_streams.specs.declared.framing.Framing.TheVariants.{Contents}
use Rattle.message_ids.specs.declared.id.Id.TheVariants.{Unsigned}
use Rattle.call_laws.specs.Rows.{question, reply}

abbrev pub chosen : Chosen
chosen = record { framing = Contents; order = AsAnswered; cancels = None; most_entries = None; null_params = false; tells_broken = false; content = 1000; calls = 10 }

-- the texts of the request and of its response
abbrev pub asked : List ℕ
asked = call_text 1 question

abbrev pub said : List ℕ
said = answer_text (Unsigned 1) reply

-- a connection that was fed these pieces, after this history, whose host was told all events
abbrev pub connection_of : List (List ℕ) → History → Connection
connection_of pieces history = record {
  settings = chosen;
  stream = record { framing = Contents; limit = 1000; pieces = pieces; ended = None; taken = length (units_of history) };
  desk = record {
    cancels = None;
    order = AsAnswered;
    state = state_of AsAnswered history;
    untold = [];
    out = record { framing = Contents; written = map text_of (items_of AsAnswered history); taken = 0 };
    tally = capped_tally (tally_of AsAnswered history);
  };
}
