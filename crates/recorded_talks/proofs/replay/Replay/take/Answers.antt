use Rattle.std.proofs.Common.{◌≡◌, [], ◌∷◌, ◌++◌, ◌+◌, take, sym, ap, ◌∙◌, subst}
use Rattle.std.proofs.lemmas.List.{take_rest}
use Rattle.std.proofs.lemmas.Result.{on_ok_weaker}
use Rattle.content_streams.specs.Lines.{parts}
use Rattle.recorded_talks.specs.Replays.{Sees, lead}
use Rattle.recorded_talks.proofs.Lines.{more_text, line_taken, rest_taken}
use Rattle.recorded_talks.proofs.replay.Replay.take.Goals as goal

pub loop-end-init : goal.loop-end-init
loop-end-init c = λ options text told replays. record {
  lines = replays.lines;
  is_of = replays.is_of;
  parted = more_text text c.args.piece.now replays.lines c.args.self.now.line.items replays.parted;
  sees = replays.sees;
}

pub loop-end-preserved : goal.loop-end-preserved
loop-end-preserved c = λ options text told replays.
    let now = c.loop-end.invariant options text told replays in
    let left = c.loop-end.left.now in
    let end = c.in-Some.end in
    let line = c.loop-end.self.line.items in
    let put : c.put.new.self.line.items ≡ line ++ take end left = c.in_ok-put.ensures.line in
    let is_of = c.put.ensures.is_of options now.is_of in
    let sees = c.in_ok-take_line.ensures.sees options now.lines told is_of (subst (Sees options now.lines told) (sym c.put.ensures.judge) now.sees) in
    record {
      lines = now.lines ++ (line ++ take end left) ∷ [];
      is_of = c.take_line.ensures.is_of options is_of;
      parted = line_taken (text ++ c.args.piece.now) left _ now.lines line c.take_line.new.self.line.items end (sym c.place_of_lf.ensures ∙ c.in-Some.is) (take_rest left (end + 1)) c.take_line.ensures.line now.parted;
      sees = subst (λ line. Sees options (now.lines ++ line ∷ []) told c.take_line.new.self.judge) put sees;
    }

pub returns : goal.returns
returns c = λ options text told replays.
    let now = c.loop-end.invariant options text told replays in
    let left = c.loop-end.left.now in
    let line = c.loop-end.self.line.items in
    on_ok_weaker c.put-2.result
    (λ (put : c.put-2.new.self.line.items ≡ line ++ left). record {
      lines = now.lines;
      is_of = c.put-2.ensures.is_of options now.is_of;
      parted = rest_taken (text ++ c.args.piece.now) left now.lines line (sym c.place_of_lf.ensures ∙ c.in_default.is) now.parted ∙ ap (λ line. now.lines ++ lead line (parts [])) (sym put);
      sees = subst (Sees options now.lines told) (sym c.put-2.ensures.judge) now.sees;
    })
    c.put-2.ensures.line
