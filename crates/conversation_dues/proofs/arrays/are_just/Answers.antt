use Rattle.std.proofs.Common.{◌∙◌, ap, subst, map}
use Rattle.std.specs.Prelude.{not}
use Rattle.std.specs.List.{slice_get}
use Rattle.conversation_dues.specs.Left.{choice, all_taken, ids_of, IsTaken, expects_any}
use Rattle.conversation_contents.specs.Left.{places_of}
use Rattle.conversation_dues.specs.declared.arrays.Which.TheVariants.{Expected}
use Rattle.conversation_dues.proofs.Left.{not_these, if_none_left, none_taken, some_taken}
use Rattle.conversation_contents.proofs.Lists.{any-left}
use Rattle.conversation_dues.proofs.arrays.are_just.Goals as goal

pub returns-then-not-take_all : goal.returns-then-not-take_all
returns-then-not-take_all c = λ all is.
    let ids = c.args.ids.now in
    let at = slice_get c.args.entries.now in
    let standing = ap (map at) c.in_ok-left.ensures.places ∙ is in
    not_these ids all
    (none_taken at (places_of c.take_all.new.places) (all_taken (choice Expected) (ids_of Expected ids) all)
    (subst (λ done. IsTaken at (places_of c.take_all.new.places) done (all_taken (choice Expected) (ids_of Expected ids) all)) c.if-not-take_all.true (c.take_all.ensures.taken all standing)))

pub returns : goal.returns
returns c = λ all is.
    let ids = c.args.ids.now in
    let at = slice_get c.args.entries.now in
    let standing = ap (map at) c.in_ok-left.ensures.places ∙ is in
    let now = some_taken at (places_of c.take_all.new.places) (all_taken (choice Expected) (ids_of Expected ids) all)
    (subst (λ done. IsTaken at (places_of c.take_all.new.places) done (all_taken (choice Expected) (ids_of Expected ids) all)) c.if-not-take_all.false (c.take_all.ensures.taken all standing)) in
    ap not (c.any_expects.ensures ∙ any-left expects_any at c.as_slice.result.now now.0 (ap (map at) (c.as_slice.ensures.value ∙ c.in_ok-rest.ensures) ∙ now.1.1))
    ∙ if_none_left ids all now.0 now.1.0
