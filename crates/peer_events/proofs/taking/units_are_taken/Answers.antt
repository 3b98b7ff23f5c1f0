use Rattle.std.proofs.Common.{[], ◌∷◌, ◌∙◌, append_assoc, sym}
use Rattle.peer_events.proofs.Passing.{same-units}
use Rattle.peer_events.proofs.Takings.{taken-rests}
use Rattle.peer_events.specs.Taking.{opened}
use Rattle.peer_output.specs.Events.{with_units}
use Rattle.peer_events.proofs.taking.units_are_taken.Goals as goal

pub returns : goal.returns
returns c = λ table s after past unit jobs rest takes.
    let taken = taken-rests c.known.ensures table s after past unit jobs rest takes in (
      taken.later,
      taken.rest,
      taken.passes,
      same-units (opened table s unit) after (with_units past (unit ∷ [])) taken.later taken.passes ∙ sym (append_assoc past.released past.left (unit ∷ [])),
      taken.passes.items,
    )
