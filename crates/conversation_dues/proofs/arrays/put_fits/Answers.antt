use Rattle.std.proofs.Common.{◌∷◌, ◌+◌, ◌++◌, [], drop}
use Rattle.std.specs.List.{slice_get}
use Rattle.conversation_dues.proofs.Fits.{told_one}
use Rattle.conversation_dues.proofs.Left.{ids_from}
use Rattle.conversation_dues.specs.Left.{ids_of, left_of}
use Rattle.conversation_contents.specs.Left.{places_of}
use Rattle.conversation_rules.specs.Dues.{fits_of}
use Rattle.conversation_dues.proofs.arrays.put_fits.Goals as goal

pub loop-id-preserved : goal.loop-id-preserved
loop-id-preserved c = record {
  findable = c.in_ok-put_fit.ensures.findable;
  told = λ left is.
      let which = c.args.which in
      let ids = c.args.ids.now in
      let i = c.loop-id.id-index in
      let way = c.loop-id.invariant.told left is in
      let one = c.in_ok-put_fit.ensures.fits way.now way.at in
      told_one c.args.due.now (slice_get c.args.entries.now) (places_of c.put_fit.new.places) c.loop-id.fits.items c.put_fit.new.fits.items
      (ids_of which (drop i ids)) (ids_of which (c.id-item.result ∷ [])) (ids_of which (drop (i + 1) ids)) way.now (left_of (ids_of which ids) left) (c.args.fits.now.items ++ fits_of c.args.due.now (ids_of which ids) left)
      (ids_from which ids i c.id-item.result c.loop-id-test.true c.id-item.is) way.same_left way.same_fits one.0 one.1;
}
