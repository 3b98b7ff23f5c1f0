use Rattle.std.proofs.Common.{◌≡◌, drop}
use Rattle.conversation_judge.specs.Said.{array_found}
use Rattle.conversation_judge.proofs.arrays.put_fits.Given as goal

abbrev pub invariant-loop-at : goal.invariant-loop-at
invariant-loop-at l = array_found l.protocol l.sight l.message (drop l.at l.replies) (drop l.at l.fits) l.findings.items ≡ array_found l.protocol l.sight l.message l.replies l.fits l.initial.findings.items
