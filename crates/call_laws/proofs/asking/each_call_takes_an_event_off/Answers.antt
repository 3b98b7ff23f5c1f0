use Rattle.call_laws.proofs.EventsLeft.{same-events, told-next, told-fewer, none-left}
use Rattle.call_laws.proofs.asking.each_call_takes_an_event_off.Goals as goal

pub returns : goal.returns
returns c =
    let places = c.placed_contents_are_the_contents.ensures in
    record { same = same-events places; told = told-next places; fewer = told-fewer places; none = none-left places }
