-- What was seen of a connection are its messages.
use Rattle.std.proofs.Common.{◌≡◌, inl, inr, ℕ, Bool, false, List, [], ◌∷◌, map, take, Option, Some, refl, sym, ap, subst, ◌∙◌}
use Rattle.lsp_frames.specs.declared.frame.Frame.{Frame}
use Rattle.lsp_frames.specs.declared.frame.FrameFault.{FrameFault}
use Rattle.content_streams.specs.Streams.{Stream, plain, contents_of, contents, placed_contents_of, placed_contents, close_of}
use Rattle.content_streams.specs.declared.ending.HowEnded.{HowEnded}
use Rattle.content_streams.specs.declared.ending.StreamEnd.TheVariants as ends
use Rattle.content_streams.specs.declared.framing.Framing.{Framing}
use Rattle.connection.specs.BackToBack.{text_of, messages_of, AllFit, AreFirst, IsEndedWhole, whole_count}
use Rattle.connection.specs.Connections.{Connection, StandsAfter}
use Rattle.connection_history.specs.History.{History}
use Rattle.connection_history.specs.declared.event.Event.{Event}
use Rattle.conversation_rules.specs.Judging.{Seen, new_state, stream_of, state_of, fault_rule, findings_of}
use Rattle.conversation_rules.specs.declared.finding.Limits.{Limits}
use Rattle.conversation_rules.specs.declared.finding.Rule.{Rule}
use Rattle.conversation_rules.specs.declared.finding.Rule.TheVariants as rules
use Rattle.conversation_rules.specs.declared.protocol.Protocol.{Protocol}
use Rattle.conversation_rules.specs.declared.side.Side.{Side}
use Rattle.conversation_rules.specs.declared.side.Side.TheVariants.{Client, Server}
use Rattle.our_side.specs.Breaking.{BreaksNone}
use Rattle.our_side.specs.OurSide.{IsWritten}
use Rattle.our_side.specs.Saying.{AreWell}
use Rattle.our_side.proofs.Ends.{FrameLaws, IsHosts, ends_hosts}
use Rattle.our_side.proofs.Fair.{IsFair, AllWell, EndsFairly, fair_side}
use Rattle.our_side.proofs.Again.{ContentsUp, again_side}
use Rattle.our_side.proofs.Keys.{FramesUp, keys_up, frames_up, placed_up}
use Rattle.connection.proofs.ReadIds.{came_have_ids}
use Rattle.our_side.proofs.Said.{messages_well}
use Rattle.connection.proofs.SaidSound.{AreSound, messages_sound}
use Rattle.our_side.proofs.Streaming.{Later, all_later, Grow}

-- What the laws say of what is written, and of streams.
pub record Laws : Type 0 where
  pub texts : (c : Connection) (history : History) (told : List Event) → StandsAfter c history told → c.desk.out.written ≡ map text_of (messages_of c.settings.order history)
  pub front : (c : Connection) (history : History) (told : List Event) (limit : ℕ) (pieces : List (List ℕ)) (ended : Option HowEnded) → StandsAfter c history told → AllFit limit c.desk.out.written
      → (n : ℕ) → IsEndedWhole c.settings.framing n c.desk.out.written ended → AreFirst c.settings.framing n c.desk.out.written pieces
      → contents_of c.settings.framing limit pieces ended ≡ map plain (take (whole_count c.settings.framing n c.desk.out.written) c.desk.out.written)
  pub placed : (framing : Framing) (limit : ℕ) (pieces : List (List ℕ)) (ended : Option HowEnded) → map (λ placed. placed.1) (placed_contents_of framing limit pieces ended) ≡ contents_of framing limit pieces ended
  pub grow : Grow

-- ---- the judge's stream of a side

start_framing : (side : Side) (framing : Framing) (limits : Limits) → (stream_of side (new_state framing limits)).framing ≡ framing
start_framing Client framing limits = refl
start_framing Server framing limits = refl

start_limit : (side : Side) (framing : Framing) (limits : Limits) → (stream_of side (new_state framing limits)).limit ≡ limits.content
start_limit Client framing limits = refl
start_limit Server framing limits = refl

all_well : (placed : List (ℕ × Frame)) → AreWell (map (λ placed. placed.1) placed) → AllWell placed
all_well [] well = tt
all_well (p ∷ placed) well = (well.0, all_well placed well.1)

module _ (laws : Laws) (protocol : Protocol) (framing : Framing) (limits : Limits) (seen : List Seen) (side : Side) (connection : Connection) (history : History) (told : List Event) (n : ℕ)
    (is : IsWritten protocol framing limits seen side connection history told n) where
  abbrev pub final : Stream
  final = stream_of side (state_of protocol framing limits seen)

  abbrev texts : List (List ℕ)
  texts = connection.desk.out.written

  later : Later (stream_of side (new_state framing limits)) final
  later = all_later protocol side seen (new_state framing limits)

  framing_is : final.framing ≡ framing
  framing_is = later.framing ∙ start_framing side framing limits

  limit_is : final.limit ≡ limits.content
  limit_is = later.limit ∙ start_limit side framing limits

  pub sound : AreSound connection.settings.cancels (messages_of connection.settings.order history)
  sound = messages_sound connection.settings.cancels connection.settings.order history is.stands.lawful is.stands.typed (came_have_ids connection history told is.stands)

  pub contents_are : contents final ≡ map plain (take (whole_count framing n texts) texts)
  contents_are =
      (λ i. contents_of (framing_is i) (limit_is i) final.pieces final.ended)
      ∙ ap (λ f. contents_of f limits.content final.pieces final.ended) (sym is.framing_is)
      ∙ laws.front connection history told limits.content final.pieces final.ended is.stands is.fits n
      (subst (λ f. IsEndedWhole f n texts final.ended) (sym is.framing_is) is.closed) (subst (λ f. AreFirst f n texts final.pieces) (sym is.framing_is) is.first)
      ∙ ap (λ f. map plain (take (whole_count f n texts) texts)) is.framing_is

  pub well : AllWell (placed_contents final)
  well =
      all_well (placed_contents final)
      (subst AreWell (sym (laws.placed final.framing final.limit final.pieces final.ended ∙ contents_are ∙ ap (λ ts. map plain (take (whole_count framing n texts) ts)) (laws.texts connection history told is.stands)))
      (messages_well connection.settings.cancels (messages_of connection.settings.order history) (whole_count framing n texts) sound))

  -- the keys of its calls go up
  pub up : ContentsUp 1 (placed_contents final)
  up =
      placed_up 1 (placed_contents final)
      (subst (FramesUp 1) (sym (laws.placed final.framing final.limit final.pieces final.ended ∙ contents_are ∙ ap (λ ts. map plain (take (whole_count framing n texts) ts)) (laws.texts connection history told is.stands)))
      (frames_up connection.settings.cancels (messages_of connection.settings.order history) 1 (whole_count framing n texts) sound (keys_up connection.settings.order history)))

  pub hosts : FrameLaws → (s : Stream) → Later s final → (fault : FrameFault) → close_of s ≡ Some (ends.Fault fault) → IsHosts fault
  hosts frames s l fault e = ends_hosts frames framing limits.content n texts is.fits s final l framing_is limit_is is.first fault e

  pub ends_fairly : FrameLaws → (those : Rule → Bool) → IsFair those → (s : Stream) → Later s final → EndsFairly those s
  ends_fairly frames those fair s l fault e = by (hosts frames s l fault e)
    where
      by : IsHosts fault → those (fault_rule fault) ≡ false
      by (inl large) = ap (λ f. those (fault_rule f)) large ∙ fair.not_judged
      by (inr cut) = ap (λ f. those (fault_rule f)) cut ∙ fair.cut_off

  pub writes : FrameLaws → (those : Rule → Bool) → IsFair those → those rules.IdAgain ≡ false → those rules.NotOwed ≡ false → those rules.NotAsArray ≡ false → BreaksNone side those (findings_of protocol framing limits seen)
  writes frames those fair again not_owed not_as_array = fair_side laws.grow protocol side those framing limits seen fair again not_owed not_as_array (ends_fairly frames those fair) well

  pub never_again : FrameLaws → (those : Rule → Bool) → IsFair those → those rules.NotOwed ≡ false → those rules.NotAsArray ≡ false → BreaksNone side those (findings_of protocol framing limits seen)
  never_again frames those fair not_owed not_as_array = again_side laws.grow protocol side those framing limits seen fair not_owed not_as_array (ends_fairly frames those fair) well up
