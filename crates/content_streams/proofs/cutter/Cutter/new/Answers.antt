use Rattle.std.proofs.Common.{◌≡◌, [], ap, sym, subst}
use Rattle.content_streams.specs.Streams.{capped}
use Rattle.content_streams.specs.Inner.Cutting.{LineCutting, text_standing}
use Rattle.content_streams.specs.Inner.Cutters.{LinesStartAt}
use Rattle.content_streams.proofs.Streaming.{nothing_stands, nothing_starts}
use Rattle.content_streams.proofs.cutter.Cutter.new.Goals as goal

pub returns-in-Lines-clause-stands : goal.returns-in-Lines-clause-stands
returns-in-Lines-clause-stands c =
    let P : LineCutting → Type 0 = λ k. (k.standing ≡ text_standing k.limit []) × LinesStartAt k [] in
    subst P (sym c.new-in-Lines.ensures) (sym (nothing_stands c.args.limit), ap capped (sym (nothing_starts c.args.limit)))
