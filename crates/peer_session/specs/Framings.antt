-- What a session writes, in each framing.
use Rattle.std.specs.Prelude.{ℕ, List, ◌++◌, flat_map}
use Rattle.answer_desk.specs.State.{front_texts}
use Rattle.peer_output.specs.Items.{Item, item_text}
use Rattle.peer_events.specs.Core.{Core, unwritten_from}
use Rattle.stream_framing.specs.Framed.{framed}
use Rattle.stream_framing.specs.declared.framing.Framing.{Framing}

-- each text as the framing writes it
abbrev pub bytes_in : Framing → List Item → List ℕ
bytes_in framing items = flat_map (λ item. framed framing (item_text item)) items

-- what is due: first what numbers have sent, then answers
abbrev pub due_in : Framing → Core → List ℕ
due_in framing s = bytes_in framing (unwritten_from 0 s.stages) ++ flat_map (framed framing) (front_texts s.desk)
