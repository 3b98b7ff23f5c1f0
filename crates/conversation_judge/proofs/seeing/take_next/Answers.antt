use Rattle.std.proofs.Common.{◌≡◌, ◌++◌, ◌∙◌, None, ap, sym, append-nil}
use Rattle.content_streams.specs.Streams.{next_placed}
use Rattle.conversation_judge.specs.Said.{pair, next_findings, behind_next, taken_by}
use Rattle.conversation_judge.proofs.Next.{not_there, same_next}
use Rattle.conversation_judge.proofs.seeing.take_next.Goals as goal

pub returns-in-None-clause-findings : goal.returns-in-None-clause-findings
returns-in-None-clause-findings c =
    let s = c.args.stream.now in
    let none : next_placed s ≡ None = not_there (next_placed s) (same_next s (c.placed_contents_are_the_contents.ensures s.framing s.limit s.pieces s.ended) ∙ sym c.in-None.ensures) in
    let old = c.args.findings.now.items in
    sym (append-nil old) ∙ ap (λ o. old ++ next_findings c.args.protocol c.args.side c.args.is_unfinished (pair c.args.own.now c.args.other.now) o) (sym none)

pub returns-in-None-clause-pair : goal.returns-in-None-clause-pair
returns-in-None-clause-pair c =
    let s = c.args.stream.now in
    let none : next_placed s ≡ None = not_there (next_placed s) (same_next s (c.placed_contents_are_the_contents.ensures s.framing s.limit s.pieces s.ended) ∙ sym c.in-None.ensures) in
    ap (λ o. behind_next c.args.protocol c.args.side c.args.is_unfinished (pair c.args.own.now c.args.other.now) o) (sym none)

pub returns-in-None-clause-stream : goal.returns-in-None-clause-stream
returns-in-None-clause-stream c =
    let s = c.args.stream.now in
    let none : next_placed s ≡ None = not_there (next_placed s) (same_next s (c.placed_contents_are_the_contents.ensures s.framing s.limit s.pieces s.ended) ∙ sym c.in-None.ensures) in
    ap (taken_by s) (sym none)
