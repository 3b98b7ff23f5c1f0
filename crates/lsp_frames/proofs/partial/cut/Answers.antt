use Rattle.std.proofs.Common.{ℕ, List, [], ap, ◌∙◌, arith}
use Rattle.lsp_frames.specs.Inner.Partials.{read_at, read_of, read_on}
use Rattle.lsp_frames.specs.declared.partial.Stage.{Stage}
use Rattle.lsp_frames.proofs.Cuts.{all_cut, cut_on, front_cut, measure_less}
use Rattle.lsp_frames.proofs.partial.cut.Goals as goal

pub loop-front-preserved : goal.loop-front-preserved
loop-front-preserved g c =
    let limit = c.args.limit in
    let l = c.loop-front in
    let front = c.in-Some.front in
    let is_front = c.in-Some.ensures.some in
    let now = g.G.Gathering.gathered c.push_whole.new.frames in
    let behind = read_on limit (read_at front.next []) front.behind.now in
    record {
      under_way = is_front.0;
      so_far = cut_on limit _ now _ _ behind _
          (cut_on limit _ (g.G.Gathering.gathered l.frames) now _ (read_on limit (read_at l.stage []) l.rest.now) behind l.invariant.so_far
          (front_cut limit (g.G.Gathering.gathered l.frames) now l.stage front.next front.whole.now front.behind.now _ is_front.2 c.in_ok-push_whole.ensures))
          c.in_ok-rest-2.ensures.so_far;
    }

pub loop-front-smaller : goal.loop-front-smaller
loop-front-smaller g c =
    let front = c.in-Some.front in
    omega (arith, c.in-Some.ensures.some.1, measure_less front.next c.in_ok-rest-2.rest.now front.behind.now c.in_ok-rest-2.ensures.behind)

pub returns-clause-given : goal.returns-clause-given
returns-clause-given g c =
    let held = c.in_ok-hold.ensures.ok c.args.limit in
    let began = ap (λ (s : Stage). read_on c.args.limit (read_at s c.new-partial.result.held.items) c.loop-front.rest.now) c.new-partial.ensures.stage
    ∙ ap (λ (xs : List ℕ). read_on c.args.limit (read_at c.loop-front.stage xs) c.loop-front.rest.now) c.new-partial.ensures.held in
    all_cut c.args.limit (g.G.Gathering.gathered c.args.frames.now) (g.G.Gathering.gathered c.loop-front.frames) (read_on c.args.limit (read_at c.args.first []) c.args.bytes.now) (read_on c.args.limit (read_at c.loop-front.stage []) c.loop-front.rest.now) (read_of c.hold.new.self)
    c.loop-front.invariant.so_far held.1 (held.2 ∙ began)
