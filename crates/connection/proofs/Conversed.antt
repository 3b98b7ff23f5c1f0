-- A connection's conversation, by what it stands after.
use Rattle.std.proofs.Common.{◌≡◌, ℕ, List, [], ◌∷◌, ◌++◌, map, take, true, Option, Some, None, refl, ap, sym, ◌∙◌}
use Rattle.std.specs.Prelude.{is_some, flat_map}
use Rattle.connection_history.specs.declared.close.Close.{Close}
use Rattle.connection_history.specs.declared.event.Event.{Event}
use Rattle.connection_history.specs.History.{History, close_of as close_in}
use Rattle.connection_history.specs.Items.{Item, items_of, text_of, bytes_of}
use Rattle.content_streams.specs.Streams.{contents, placed_contents}
use Rattle.outbox.specs.Output.{framed, bytes_of_texts}
use Rattle.connection.specs.Settings.{rules_of}
use Rattle.connection.specs.Connections.{Connection, IsDone, StandsAfter, origin_of, read}
use Rattle.connection.specs.Conversations.{Converses, IsConversation, IsConversationCutShort}
use Rattle.connection.specs.Reports.{report_of}
use Rattle.connection.proofs.Fed.{over_closed}

all_written : (written : List ℕ → List ℕ) (items : List Item) → flat_map written (map text_of items) ≡ bytes_of written items
all_written written [] = refl
all_written written (item ∷ items) = ap (λ bytes. written (text_of item) ++ bytes) (all_written written items)

pub converses : (c : Connection) (history : History) (told : List Event) → StandsAfter c history told → Converses c.settings c.stream history c.desk.out (report_of c.settings.order history)
converses c history told stands = record {
  lawful = stands.lawful;
  framing = stands.stream.framing;
  limit = stands.stream.limit;
  came = stands.stream.came ∙ ap (λ n. map (read (rules_of c.settings)) (take n (contents c.stream))) stands.stream.taken;
  origins = stands.stream.origins ∙ ap (λ n. map (origin_of c.settings.tells_broken) (take n (placed_contents c.stream))) stands.stream.taken;
  bytes = (λ i. bytes_of_texts (stands.desk.framing i) (stands.desk.written i)) ∙ all_written (framed c.settings.framing) (items_of c.settings.order history);
  counts = refl;
}

pub cut_short : (c : Connection) (history : History) (told : List Event) → StandsAfter c history told
    → IsConversationCutShort c.settings c.stream history told c.desk.out (report_of c.settings.order history)
cut_short c history told stands = record {
  converses = converses c history told stands;
  ended = stands.ended;
  untold = c.desk.untold;
  so_far = stands.desk.events;
  taken = stands.taken;
}

is_closed : (o : Option Close) → is_some o ≡ true → (close : Close) × (o ≡ Some close)
is_closed None is = absurd (cc)
is_closed (Some close) is = (close, refl)

pub whole : (c : Connection) (history : History) (told : List Event) → StandsAfter c history told → IsDone c history told
    → IsConversation c.settings c.stream history told c.desk.out (report_of c.settings.order history)
whole c history told stands done =
    let closed = is_closed (close_in history) (sym (over_closed history) ∙ done.over) in
    record {
      converses = converses c history told stands;
      close = closed.0;
      closed = closed.1;
      ended = stands.ended closed.0 closed.1;
      all_told = sym done.all_told;
      answered = done.answered;
      taken = done.taken;
    }
