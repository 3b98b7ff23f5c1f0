use Rattle.std.proofs.Common.{arith}
use Rattle.lsp_frames.specs.Heads.{head_at}
use Rattle.lsp_frames.proofs.Cuts.{cut_on, first_cut, frame_cut, none_cut}
use Rattle.lsp_frames.proofs.partial.cut_usual.Goals as goal

pub loop-content-init : goal.loop-content-init
loop-content-init g c = record { behind = omega arith; so_far = none_cut c.args.limit _ _ }

pub loop-content-preserved : goal.loop-content-preserved
loop-content-preserved g c =
    let limit = c.args.limit in
    let l = c.loop-content in
    record {
      behind = omega (arith, l.invariant.behind, c.in-Some.ensures.behind);
      so_far = cut_on limit _ (g.G.Gathering.gathered l.frames) _ _ (head_at limit l.rest.now) _ l.invariant.so_far
          (frame_cut limit _ _ _ l.rest.now c.in-Some.behind.now c.in-Some.ensures.frame c.in_ok-put.ensures);
    }

pub returns-clause-so_far : goal.returns-clause-so_far
returns-clause-so_far g c = first_cut c.args.limit _ _ c.args.stage c.args.bytes.now c.loop-content.rest.now (c.is_first.ensures c.if-not-is_first.false) c.loop-content.invariant.so_far

pub returns-then-not-is_first-clause-so_far : goal.returns-then-not-is_first-clause-so_far
returns-then-not-is_first-clause-so_far g c = none_cut c.args.limit _ _
