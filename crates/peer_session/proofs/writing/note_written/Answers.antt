use Rattle.std.proofs.Common.{◌≡◌, ◌<◌, length, map, None, refl, ap, sym, subst, ◌∙◌, rules}
use Rattle.peer_events.specs.Core.{Core}
use Rattle.peer_events.specs.Turning.{written_stage}
use Rattle.session_runs.specs.Runs.{unwritten_numbers}
use Rattle.session_runs.proofs.Unwritten.{first-unwritten, noted-fewer, noted-same}
use Rattle.peer_session.proofs.writing.note_written.Goals as goal

pub note_number-requires : goal.note_number-requires
note_number-requires c = first-unwritten c.loop-number.runs c.in-Some.number (sym c.in-Some.ensures.number)

pub loop-number-smaller : goal.loop-number-smaller
loop-number-smaller c =
    subst (λ (s : Core). length (unwritten_numbers s) < length (unwritten_numbers c.loop-number.runs)) (sym c.note_number.ensures)
    (noted-fewer 0 c.in-Some.number c.loop-number.runs.stages (first-unwritten c.loop-number.runs c.in-Some.number (sym c.in-Some.ensures.number)))

pub loop-number-preserved : goal.loop-number-preserved
loop-number-preserved c = record {
  desk = ap (λ (s : Core). s.desk) c.note_number.ensures ∙ c.loop-number.invariant.desk;
  stages = ap (λ (s : Core). map written_stage s.stages) c.note_number.ensures ∙ noted-same c.loop-number.runs.stages c.in-Some.number ∙ c.loop-number.invariant.stages;
}

pub returns-clause-stages : goal.returns-clause-stages
returns-clause-stages c =
    let none : c.unwritten_at.result ≡ None = first_of (cc, search rules) in
    sym (c.unwritten_at.ensures.none refl none) ∙ c.loop-number.invariant.stages
