-- One more entry has its place and its stages behind the others.
use Rattle.std.proofs.Common.{◌++◌, ◌∷◌, [], map, take, ap, sym, ◌∙◌, arith}
use Rattle.rpc_messages.specs.Entry.{entry_seen}
use Rattle.rpc_messages.specs.Numbering.{numbers_in}
use Rattle.peer_events.specs.Taking.{place_of_entry, places_of_entries, entry_stages, stages_for}
use Rattle.session_runs.proofs.Arriving.{map-take_next, numbers_in-push, numbers_in-next, places-push, stages-push}
use Rattle.session_runs.proofs.arrival.Arrival.of_entries.Goals as goal

pub add-requires-clause-first : goal.add-requires-clause-first
add-requires-clause-first c = omega (arith, c.requires.first, c.loop-entry.invariant.next)

pub add-requires-clause-room : goal.add-requires-clause-room
add-requires-clause-room c =
    let among = numbers_in-next entry_seen c.args.entries.now c.loop-entry.entry-index c.entry-item.result c.loop-entry-test.true c.entry-item.is in
    omega (arith, c.requires.room, c.loop-entry.invariant.next, among)

pub loop-entry-preserved : goal.loop-entry-preserved
loop-entry-preserved c =
    let table = c.args.table.now in
    let before = map entry_seen (take c.loop-entry.entry-index c.args.entries.now) in
    let seen = entry_seen c.entry-item.result in
    let so_far = c.loop-entry.invariant in
    let added = c.in_ok-add.ensures in
    let next = map-take_next entry_seen c.args.entries.now c.loop-entry.entry-index c.entry-item.result c.loop-entry-test.true c.entry-item.is in
    record {
      places = added.places ∙ ap (λ places. places ++ place_of_entry table seen ∷ []) so_far.places ∙ sym (ap (places_of_entries table) next ∙ places-push table before seen);
      stages = added.stages ∙ ap (λ stages. stages ++ entry_stages table c.loop-entry.arrival.next seen) so_far.stages
          ∙ ap (λ n. stages_for table c.args.first before ++ entry_stages table n seen) so_far.next
          ∙ sym (ap (stages_for table c.args.first) next ∙ stages-push table c.args.first before seen);
      next = omega (arith, added.next, so_far.next, ap numbers_in next, numbers_in-push before seen);
    }
