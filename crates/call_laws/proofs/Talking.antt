-- What two sides that talk have heard of each other, at each moment.
use Rattle.std.proofs.Common.{◌≡◌, List, [], ◌∷◌, ◌++◌, refl, sym, ap, subst, ◌∙◌, append_assoc}
use Rattle.connection_history.specs.declared.order.Order.{Order}
use Rattle.connection_history.specs.History.{Happening, History, units_of, units_at}
use Rattle.connection.specs.BackToBack.{Message, as_read, messages_at, messages_of}
use Rattle.connection.specs.Connections.{Connection}
use Rattle.connection.specs.Settings.{Chosen}
use Rattle.call_laws.specs.Talks as talks
use Rattle.call_laws.specs.Talks.{IsHeard, Talk, begin, at_first, at_second, IsMoment, AreTalking}
use Rattle.call_laws.proofs.Lists.{split_map}
use Rattle.call_laws.proofs.OnlyCame.{Understanding, hears}

-- what is said later leaves what was heard
heard-more : (said more : List Message) (history : History) → IsHeard said history → IsHeard (said ++ more) history
heard-more said more history heard = record {
  front = heard.front;
  rest = heard.rest ++ more;
  whole = ap (λ ms. ms ++ more) heard.whole ∙ append_assoc heard.front heard.rest more;
  heard = heard.heard;
}

nothing_heard : (said : List Message) → IsHeard said []
nothing_heard said = record { front = []; rest = said; whole = refl; heard = refl }

-- what was heard was heard before too, as far as it had come
heard-before : (said : List Message) (past : History) (h : Happening) → IsHeard said (h ∷ past) → IsHeard said past
heard-before said past h heard =
    let cut = split_map as_read (units_of past) (units_at h) heard.front heard.heard in
    record {
      front = cut.0;
      rest = cut.1 ++ heard.rest;
      whole = heard.whole ∙ ap (λ ms. ms ++ heard.rest) cut.2 ∙ append_assoc cut.0 cut.1 heard.rest;
      heard = cut.3;
    }

-- both have heard what the other said
pub both_hear : (first second : Order) (ours theirs : History) → Talk first second ours theirs → IsHeard (messages_of first ours) theirs × IsHeard (messages_of second theirs) ours
both_hear first second ours theirs begin = (nothing_heard [], nothing_heard [])
both_hear first second ours theirs (at_first h past others talk heard) =
    (heard-more (messages_of first past) (messages_at first past h) others (both_hear first second past others talk).0, heard)
both_hear first second ours theirs (at_second h others past talk heard) =
    (heard, heard-more (messages_of second past) (messages_at second past h) others (both_hear first second others past talk).1)

-- ---- connections

goes_on_first : (first second : Order) (more : List Happening) (ours theirs : History) → Talk first second ours theirs → IsHeard (messages_of second theirs) (more ++ ours) → Talk first second (more ++ ours) theirs
goes_on_first first second [] ours theirs talk heard = talk
goes_on_first first second (h ∷ more) ours theirs talk heard =
    at_first h (more ++ ours) theirs (goes_on_first first second more ours theirs talk (heard-before (messages_of second theirs) (more ++ ours) h heard)) heard

goes_on_second : (first second : Order) (more : List Happening) (ours theirs : History) → Talk first second ours theirs → IsHeard (messages_of first ours) (more ++ theirs) → Talk first second ours (more ++ theirs)
goes_on_second first second [] ours theirs talk heard = talk
goes_on_second first second (h ∷ more) ours theirs talk heard =
    at_second h ours (more ++ theirs) (goes_on_second first second more ours theirs talk (heard-before (messages_of first ours) (more ++ theirs) h heard)) heard

with_settings : (before now other : Connection) (ours theirs : History) → now.settings ≡ before.settings → Talk before.settings.order other.settings.order ours theirs → Talk now.settings.order other.settings.order ours theirs
with_settings before now other ours theirs same talk = subst (λ (s : Chosen). Talk s.order other.settings.order ours theirs) (sym same) talk

with_others : (other before now : Connection) (ours theirs : History) → now.settings ≡ before.settings → Talk other.settings.order before.settings.order ours theirs → Talk other.settings.order now.settings.order ours theirs
with_others other before now ours theirs same talk = subst (λ (s : Chosen). Talk other.settings.order s.order ours theirs) (sym same) talk

pub talking : Understanding → (first second : Connection) (ours theirs : History) → AreTalking first second ours theirs → Talk first.settings.order second.settings.order ours theirs
talking law first second ours theirs (talks.begin a b) = begin
talking law first second ours theirs (talks.at_first before now other more past others are same moment) =
    goes_on_first now.settings.order other.settings.order more past others (with_settings before now other past others same (talking law before other past others are))
    (hears law moment.other_count other now others (more ++ past) moment.other_told moment.told moment.other_stands moment.stands moment.other_notices_no_cancel moment.other_fed moment.other_within)
talking law first second ours theirs (talks.at_second other before now more others past are same moment) =
    goes_on_second other.settings.order now.settings.order more others past (with_others other before now others past same (talking law other before others past are))
    (hears law moment.count other now others (more ++ past) moment.told moment.other_told moment.stands moment.other_stands moment.notices_no_cancel moment.fed moment.within)
