use Rattle.call_laws.proofs.EventsLeft.{asked-front, asked-most}
use Rattle.call_laws.proofs.asking.given_bytes_have_so_many_events.Goals as goal

pub returns : goal.returns
returns c =
    let places = c.placed_contents_are_the_contents.ensures in
    record { front = asked-front places; most = asked-most places }
