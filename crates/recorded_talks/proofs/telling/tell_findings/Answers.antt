use Rattle.std.proofs.Common.{◌≡◌, [], ◌∷◌, ◌++◌, codes, sym, ap, ◌∙◌, subst, append_assoc, append-nil}
use Rattle.std.proofs.KnownBytes.{Appends-trans}
use Rattle.std.proofs.lemmas.Result.{on_ok_weaker}
use Rattle.std.specs.Io.KnownBytes.{Appends}
use Rattle.recorded_talks.specs.Replayed.{findings_text, counted}
use Rattle.recorded_talks.specs.Replays.{untold, with_untold}
use Rattle.recorded_talks.specs.Told.{finding_text}
use Rattle.recorded_talks.proofs.Going.{appends_kept, told_next, none_left}
use Rattle.recorded_talks.proofs.telling.tell_findings.Goals as goal

pub loop-finding-preserved : goal.loop-finding-preserved
loop-finding-preserved g c =
    let l = c.loop-finding in
    let new = c.next_finding.new.self in
    let it = c.in-Some.finding in
    let next = c.in-Some.ensures in
    let line = finding_text it ++ codes "\n" in
    let first : untold l.replay.judge ≡ it ∷ untold new.judge = next.finding in
    let written = l.invariant.written in
    let text = written.0 in
    record {
      replay = told_next c.args.replay.now l.replay new (untold new.judge) (untold l.replay.judge) l.invariant.replay next.others;
      counts = ap (counted (untold new.judge)) c.in_ok-tell_finding.ensures.counts ∙ ap (λ found. counted found l.counts) (sym first) ∙ l.invariant.counts;
      written = (
        text ++ line,
        Appends-trans _ _ _ _ _ written.1 c.in_ok-tell_finding.ensures.written,
        append_assoc text line (findings_text (untold new.judge)) ∙ ap (λ found. text ++ findings_text found) (sym first) ∙ written.2,
      );
    }

pub returns-clause-replay : goal.returns-clause-replay
returns-clause-replay g c =
    let l = c.loop-finding in
    let new = c.next_finding.new.self in
    let last = c.in_default.ensures in
    let none : untold l.replay.judge ≡ [] = none_left (untold l.replay.judge) (last.finding ∙ last.rest) in
    let none' : untold new.judge ≡ [] = sym last.finding ∙ none in
    on_ok_weaker c.flush.result
    (λ kept. told_next c.args.replay.now l.replay new (untold new.judge) (untold l.replay.judge) l.invariant.replay last.others ∙ ap (λ found. record c.args.replay.now { judge = with_untold found c.args.replay.now.judge }) none')
    c.flush.ensures

pub returns-clause-counts : goal.returns-clause-counts
returns-clause-counts g c =
    let l = c.loop-finding in
    let last = c.in_default.ensures in
    let none : untold l.replay.judge ≡ [] = none_left (untold l.replay.judge) (last.finding ∙ last.rest) in
    on_ok_weaker c.flush.result (λ kept. ap (λ found. counted found l.counts) (sym none) ∙ l.invariant.counts) c.flush.ensures

pub returns-clause-written : goal.returns-clause-written
returns-clause-written g c =
    let l = c.loop-finding in
    let last = c.in_default.ensures in
    let none : untold l.replay.judge ≡ [] = none_left (untold l.replay.judge) (last.finding ∙ last.rest) in
    let written = l.invariant.written in
    let text = written.0 in
    let same : text ≡ findings_text (untold c.args.replay.now.judge) = sym (append-nil text) ∙ ap (λ found. text ++ findings_text found) (sym none) ∙ written.2 in
    let before = g.W.Write.contents c.args.output.now in
    let after = g.W.Write.contents c.flush.new.output in
    on_ok_weaker c.flush.result (λ kept. subst (Appends before after) same (appends_kept before (g.W.Write.contents l.output) after text written.1 kept)) c.flush.ensures
