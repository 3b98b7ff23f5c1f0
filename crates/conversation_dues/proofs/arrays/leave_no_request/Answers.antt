use Rattle.std.proofs.Common.{◌∙◌, ap, subst, map}
use Rattle.std.specs.Prelude.{nat_le}
use Rattle.std.specs.List.{slice_get}
use Rattle.conversation_dues.specs.Left.{choice, all_taken, ids_of, IsTaken}
use Rattle.conversation_contents.specs.Left.{places_of}
use Rattle.conversation_dues.specs.declared.arrays.Which.TheVariants.{Named, Nulls}
use Rattle.conversation_dues.proofs.Left.{cannot_named, cannot_nulls, can_be, none_taken, some_taken}
use Rattle.conversation_contents.proofs.Lists.{count-left}
use Rattle.conversation_dues.proofs.arrays.leave_no_request.Goals as goal

pub returns-then-not-take_all : goal.returns-then-not-take_all
returns-then-not-take_all c = λ entries is.
    let ids = c.args.ids.now in
    let at = slice_get c.args.entries.now in
    cannot_named c.args.unnamed ids entries
    (none_taken at (places_of c.take_all.new.places) (all_taken (choice Named) (ids_of Named ids) entries)
    (subst (λ all. IsTaken at (places_of c.take_all.new.places) all (all_taken (choice Named) (ids_of Named ids) entries)) c.if-not-take_all.true (c.take_all.ensures.taken entries is)))

pub returns-then-not-take_all-2 : goal.returns-then-not-take_all-2
returns-then-not-take_all-2 c = λ entries is.
    let ids = c.args.ids.now in
    let at = slice_get c.args.entries.now in
    let named = some_taken at (places_of c.take_all.new.places) (all_taken (choice Named) (ids_of Named ids) entries)
    (subst (λ all. IsTaken at (places_of c.take_all.new.places) all (all_taken (choice Named) (ids_of Named ids) entries)) c.if-not-take_all.false (c.take_all.ensures.taken entries is)) in
    cannot_nulls c.args.unnamed ids entries named.0 named.1.0
    (none_taken at (places_of c.take_all-2.new.places) (all_taken (choice Nulls) (ids_of Nulls ids) named.0)
    (subst (λ all. IsTaken at (places_of c.take_all-2.new.places) all (all_taken (choice Nulls) (ids_of Nulls ids) named.0)) c.if-not-take_all-2.true (c.take_all-2.ensures.taken named.0 named.1.1)))

pub returns : goal.returns
returns c = λ entries is.
    let ids = c.args.ids.now in
    let at = slice_get c.args.entries.now in
    let named = some_taken at (places_of c.take_all.new.places) (all_taken (choice Named) (ids_of Named ids) entries)
    (subst (λ all. IsTaken at (places_of c.take_all.new.places) all (all_taken (choice Named) (ids_of Named ids) entries)) c.if-not-take_all.false (c.take_all.ensures.taken entries is)) in
    let nulls = some_taken at (places_of c.take_all-2.new.places) (all_taken (choice Nulls) (ids_of Nulls ids) named.0)
    (subst (λ all. IsTaken at (places_of c.take_all-2.new.places) all (all_taken (choice Nulls) (ids_of Nulls ids) named.0)) c.if-not-take_all-2.false (c.take_all-2.ensures.taken named.0 named.1.1)) in
    ap (λ n. nat_le n c.args.unnamed)
    (c.must_count.ensures ∙ count-left (λ owed. owed.must) at c.as_slice.result.now nulls.0 (ap (map at) (c.as_slice.ensures.value ∙ c.in_ok-rest.ensures) ∙ nulls.1.1))
    ∙ can_be c.args.unnamed ids entries named.0 nulls.0 named.1.0 nulls.1.0
