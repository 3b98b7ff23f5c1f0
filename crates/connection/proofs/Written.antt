-- The contents of what a connection has written.
use Rattle.std.proofs.Common.{◌≡◌, ℕ, ◌≤◌, List, [], ◌∷◌, map, take, Option, inr, sym, ap, ◌∙◌, subst}
use Rattle.connection_messages.specs.declared.cancels.Cancels.{Cancels}
use Rattle.connection_history.specs.declared.event.Event.{Event}
use Rattle.connection_history.specs.History.{History}
use Rattle.content_streams.specs.Streams.{plain, contents_of}
use Rattle.content_streams.specs.declared.ending.HowEnded.{HowEnded}
use Rattle.content_streams.specs.declared.framing.Framing.{Framing}
use Rattle.content_streams.specs.declared.framing.Framing.TheVariants.{Frames, Lines, Contents}
use Rattle.outbox.specs.Output.{full_count}
use Rattle.connection.specs.BackToBack.{Message, AreLines, text_of, messages_of, AreFirst, whole_count, AllFit, IsEndedWhole}
use Rattle.connection.specs.Connections.{Connection, StandsAfter}
use Rattle.connection.proofs.AnswersSaid.{texts_are}
use Rattle.connection.proofs.ReadIds.{came_have_ids}
use Rattle.connection.proofs.SaidSound.{AreSound, messages_sound}
use Rattle.connection.proofs.SoundTexts.{LineLaws, message_line}
use Rattle.connection.proofs.WrittenBytes.{AreWhole, messages_whole, limit_is, all_taken}
use Rattle.connection.proofs.WrittenFrames.{FrameLaws, frames_are_texts}
use Rattle.connection.proofs.WrittenLines.{lines_are_texts, contents_are_texts}

pub written_is : (c : Connection) (history : History) (told : List Event) → StandsAfter c history told → c.desk.out.written ≡ map text_of (messages_of c.settings.order history)
written_is c history told stands = stands.desk.written ∙ texts_are c.settings.order history

are_contents : FrameLaws → (framing : Framing) (limit n : ℕ) (ts pieces : List (List ℕ)) (ended : Option HowEnded) → AreWhole limit ts → AllFit limit ts → IsEndedWhole framing n ts ended → AreFirst framing n ts pieces
    → contents_of framing limit pieces ended ≡ map plain (take (whole_count framing n ts) ts)
are_contents laws Frames limit n ts pieces ended whole fit unclosed fed = frames_are_texts laws limit (limit_is limit ts fit) n ts pieces ended whole fed
are_contents laws Lines limit n ts pieces ended whole fit unclosed fed = lines_are_texts limit n ts pieces ended whole fed unclosed
are_contents laws Contents limit n ts pieces ended whole fit unclosed fed = contents_are_texts limit n ts pieces ended whole fed

module _ (frames : FrameLaws) (lines : LineLaws) (c : Connection) (history : History) (told : List Event) (limit : ℕ) (pieces : List (List ℕ)) (ended : Option HowEnded)
    (stands : StandsAfter c history told) (fit : AllFit limit c.desk.out.written) (n : ℕ) where
  texts_whole : AreWhole limit c.desk.out.written
  texts_whole =
      let is = written_is c history told stands in
      subst (AreWhole limit) (sym is)
      (messages_whole lines c.settings.cancels limit (messages_of c.settings.order history) (messages_sound c.settings.cancels c.settings.order history stands.lawful stands.typed (came_have_ids c history told stands)) (subst (AllFit limit) is fit))

  pub front_contents : IsEndedWhole c.settings.framing n c.desk.out.written ended → AreFirst c.settings.framing n c.desk.out.written pieces
      → contents_of c.settings.framing limit pieces ended ≡ map plain (take (whole_count c.settings.framing n c.desk.out.written) c.desk.out.written)
  front_contents unclosed fed = are_contents frames c.settings.framing limit n c.desk.out.written pieces ended texts_whole fit unclosed fed

  pub whole_contents : full_count c.settings.framing c.desk.out.written ≤ n → AreFirst c.settings.framing n c.desk.out.written pieces → contents_of c.settings.framing limit pieces ended ≡ map plain c.desk.out.written
  whole_contents all fed = front_contents (inr all) fed ∙ ap (map plain) (all_taken c.settings.framing n c.desk.out.written all)

messages_are_lines : LineLaws → (cancels : Option Cancels) (ms : List Message) → AreSound cancels ms → AreLines (map text_of ms)
messages_are_lines lines cancels [] sound = tt
messages_are_lines lines cancels (m ∷ ms) sound = (message_line lines cancels m sound.0, messages_are_lines lines cancels ms sound.1)

pub written_are_lines : LineLaws → (c : Connection) (history : History) (told : List Event) → StandsAfter c history told → AreLines c.desk.out.written
written_are_lines lines c history told stands =
    subst AreLines (sym (written_is c history told stands))
    (messages_are_lines lines c.settings.cancels (messages_of c.settings.order history) (messages_sound c.settings.cancels c.settings.order history stands.lawful stands.typed (came_have_ids c history told stands)))
