-- The error that was read is the one that goes out.
use Rattle.std.proofs.Common.{ℤ, refl, subst, rules}
use Rattle.std.specs.Int.{w64}
use Rattle.std.proofs.lemmas.Int.{to_z-of_z}
use Rattle.host_calls.specs.Passed.{IsFailure}
use Rattle.host_calls.proofs.outlet.Outlet.fail.Goals as goal

pub returns : goal.returns
returns c =
    let it = c.in_ok-answer.answer in
    let P : ℤ → Type 0 = λ code. IsFailure code c.args.message.now c.args.extra.now it in
    (refl, (it, subst P (to_z-of_z w64 c.args.code (search rules)) c.in_ok-answer.ensures.ok, ((c.in_ok-answer-2.ensures.settings, c.in_ok-answer-2.ensures.stream, c.in_ok-answer-2.ensures.taken), c.in_ok-answer-2.ensures.ok)))
