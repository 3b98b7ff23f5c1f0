use Rattle.std.proofs.Common.{◌≡◌, drop}
use Rattle.answer_desk.specs.Inner.Units.{requests_in, without_answers}
use Rattle.answer_desk.proofs.front.forget_answers.Given as goal

-- what is left to forget leads to the same entries as all of it
abbrev pub invariant-loop-due : goal.invariant-loop-due
invariant-loop-due l = without_answers (requests_in (drop l.due-index l.dues)) l.numbers ≡ without_answers (requests_in l.dues) l.initial.numbers
