use Rattle.std.proofs.Common.{List, ◌++◌, refl, sym, subst}
use Rattle.lsp_frames.specs.declared.frame.Frame.{Frame}
use Rattle.stream_framing.specs.Framed.{StandsBehind}
use Rattle.stream_framing.specs.Lines.{HoldsLines}
use Rattle.stream_framing.specs.declared.cutter.Cutter.{Cutter}
use Rattle.stream_framing.proofs.cutter.Cutter.feed.Goals as goal

pub returns-then-is_over-clause-stands : goal.returns-then-is_over-clause-stands
returns-then-is_over-clause-stands c = λ bytes frames stands.
    let cutter = c.in-Lines.cutter in
    let new = c.feed-in-Lines.new.self in
    let had = subst (λ (k : Cutter). StandsBehind k bytes frames) c.in-Lines.is stands in
    let holds = c.in_ok-contents-in-Lines.ensures.holds bytes frames (subst (HoldsLines cutter.limit bytes frames) (sym had.2) had.1) in
    let told = subst (λ (xs : List Frame). HoldsLines cutter.limit (bytes ++ c.args.piece.now) (frames ++ xs) new.standing) (sym c.into.ensures) holds in
    (new.standing, subst (λ n. HoldsLines n (bytes ++ c.args.piece.now) (frames ++ c.into.result) new.standing) (sym c.in_ok-contents-in-Lines.ensures.limit) told, refl)

pub returns-else-is_over-clause-stands : goal.returns-else-is_over-clause-stands
returns-else-is_over-clause-stands c = λ bytes frames stands.
    let cutter = c.in-Lines.cutter in
    let new = c.feed-in-Lines.new.self in
    let had = subst (λ (k : Cutter). StandsBehind k bytes frames) c.in-Lines.is stands in
    let holds = c.in_ok-contents-in-Lines.ensures.holds bytes frames (subst (HoldsLines cutter.limit bytes frames) (sym had.2) had.1) in
    (new.standing, subst (λ n. HoldsLines n (bytes ++ c.args.piece.now) (frames ++ c.in_ok-contents-in-Lines.contents.items) new.standing) (sym c.in_ok-contents-in-Lines.ensures.limit) holds, refl)
