-- Each turn moves the next finding; where there is none, all are moved.
use Rattle.std.proofs.Common.{◌≡◌, ◌<◌, ◌≤◌, List, [], ◌∷◌, ◌++◌, length, take, drop, slice_set, sym, ap, ◌∙◌, subst, arith}
use Rattle.std.proofs.Math.ListN.{length-set}
use Rattle.std.proofs.lemmas.List.{drop-drop}
use Rattle.conversation_judge.specs.Judged.{Judged, Stands}
use Rattle.conversation_rules.specs.declared.finding.Finding.{Finding}
use Rattle.judge_calls.specs.declared.finding.HostFinding.{HostFinding}
use Rattle.judge_calls.proofs.ToldSoFar.{moved_more, none_left, dropped_all, more_left, stands_told}
use Rattle.judge_calls.proofs.hosted.HostedJudge.tell.Goals as goal

abbrev untold_of : Judged → List Finding
untold_of judged = judged.untold

pub loop-place-preserved : goal.loop-place-preserved
loop-place-preserved c =
    let a = c.args.self.now.judge in let room = c.args.room.now in let l = c.loop-place in let i = l.place in let new = c.next_finding.new.self in
    let it = c.in-Some.finding in let some : i < length room = c.loop-place-test.true in
    let is : drop i a.untold ≡ it ∷ new.untold = sym (ap untold_of l.invariant.left) ∙ c.in-Some.ensures.finding in
    let less : i < length a.untold = more_left a.untold i it new.untold is in
    let now : List HostFinding = slice_set l.room i c.of.result in
    let same : length now ≡ length room = length-set l.room i c.of.result ∙ l.invariant.same in
    record {
      end = search;
      same = same;
      few = omega (arith, less);
      left = c.in-Some.ensures.others ∙ ap (λ (j : Judged). record j { untold = drop 1 j.untold }) l.invariant.left ∙ ap (λ (u : List Finding). record a { untold = u }) (drop-drop 1 i a.untold);
      room = moved_more a.untold room l.room now i it new.untold some is l.invariant.room (ap (λ (f : HostFinding). slice_set l.room i f) c.of.ensures);
    }

pub returns-in-None : goal.returns-in-None
returns-in-None c =
    let a = c.args.self.now.judge in let room = c.args.room.now in let l = c.loop-place in let i = l.place in let left = l.self.judge in let new = c.next_finding.new.self in
    let same : left.untold ≡ drop 1 left.untold = c.in-None.ensures.finding ∙ ap untold_of c.in-None.ensures.others in
    let none : drop i a.untold ≡ [] = sym (ap untold_of l.invariant.left) ∙ none_left left.untold same in
    let past : length a.untold ≤ i = dropped_all a.untold i none in
    let some : i < length room = c.loop-place-test.true in
    let is : new ≡ record a { untold = drop i a.untold } = c.in-None.ensures.others ∙ ap (λ (u : List Finding). record left { untold = u }) (sym same) ∙ l.invariant.left in (
      omega (arith, past, l.invariant.few, some),
      l.invariant.room,
      (
        is,
        λ protocol framing limits seen told stands.
            subst (λ (j : Judged). Stands protocol framing limits j seen (told ++ take i a.untold)) (sym is) (stands_told a i protocol framing limits seen told stands),
      ),
    )
