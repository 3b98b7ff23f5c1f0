use Rattle.std.proofs.Common.{◌≡◌, ◌+◌, [], drop, length, length-drop, false, sym, ap, ◌∙◌, arith}
use Rattle.lsp_frames.specs.Heads.{Ends, head_from}
use Rattle.lsp_frames.specs.Inner.Partials.{first_place}
use Rattle.lsp_frames.specs.declared.partial.Place.{Place}
use Rattle.lsp_frames.proofs.Units.{nothing_read}
use Rattle.lsp_frames.proofs.partial.head_front.Goals as goal

pub returns : goal.returns
returns c =
    let bytes = c.args.bytes.now in
    let first : c.args.place ≡ first_place = c.is_first.ensures c.if-not-is_first.false in
    let found = c.in_ok-size.ensures in
    let behind : c.split_at.result.1.now ≡ drop c.in_ok-size.end bytes = c.split_at.ensures.back in
    let place = found.place in
    let some = place.0 in
    let within = place.1 in
    let size : length c.split_at.result.1.now + c.in_ok-size.end ≡ length bytes = omega (arith, ap length behind, length-drop c.in_ok-size.end bytes, within) in (
      omega arith,
      omega (arith, size, some),
      ap (λ (p : Place). head_from c.args.limit p.fields [] p.room bytes) first ∙ nothing_read c.args.limit bytes ∙ found.head ∙ ap (Ends c.in_ok-size.size false) (sym behind),
    )
