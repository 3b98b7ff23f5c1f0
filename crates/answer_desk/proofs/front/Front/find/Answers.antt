use Rattle.std.proofs.Common.{◌≡◌, ◌+◌, suc, length, map, take, drop, sym, ◌∙◌, arith, add-one, true, false}
use Rattle.answer_desk.specs.Waiting.{is_whole, whole_front}
use Rattle.answer_desk.specs.Seen.{waiting_of}
use Rattle.answer_desk.proofs.Finished.{drop-map_at, front_ends, behind_ends, front_more, front_end, behind_more, none_known, broken_by_count, whole_by_count, front_known, known_front}
use Rattle.answer_desk.proofs.Texts.{map-take_suc}
use Rattle.answer_desk.proofs.front.Front.find.Goals as goal

pub count_finished-finished_parts-requires : goal.count_finished-finished_parts-requires
count_finished-finished_parts-requires c =
    let units = map (waiting_of c.args.numbers.now) c.args.units.now.items in
    let unit = waiting_of c.args.numbers.now c.index-unit.result.now in
    let at = drop-map_at (waiting_of c.args.numbers.now) c.args.units.now.items c.loop-count.count c.index-unit.result.now
    (omega (arith, c.len-count-end.ensures, c.args.units.now.ok)) c.index-unit.ensures in
    rw c.as_slice.ensures (front_known c.loop-count.known (drop c.loop-count.count units) unit (drop (suc c.loop-count.count) units) at c.loop-count.invariant.known)

pub returns-then-finished_parts-len-clause-whole : goal.returns-then-finished_parts-len-clause-whole
returns-then-finished_parts-len-clause-whole c =
    let units = map (waiting_of c.args.numbers.now) c.args.units.now.items in
    let unit = waiting_of c.args.numbers.now c.index-unit.result.now in
    let at = drop-map_at (waiting_of c.args.numbers.now) c.args.units.now.items c.loop-count.count c.index-unit.result.now
    (omega (arith, c.len-count-end.ensures, c.args.units.now.ok)) c.index-unit.ensures in
    let whole = rw c.as_slice.ensures at c.count_finished-finished_parts.ensures.whole in
    let broken : is_whole unit ≡ false = broken_by_count c.count_finished-finished_parts.result (length c.index-unit.result.now.dues) (is_whole unit) whole (rw c.len.ensures at c.if-finished_parts-len.true) in
    front_end (map (waiting_of c.args.numbers.now) (take c.loop-count.count c.args.units.now.items)) (whole_front units) (drop c.loop-count.count units) c.loop-count.invariant.whole
    (front_ends (drop c.loop-count.count units) unit (drop (suc c.loop-count.count) units) at broken)

pub returns-then-finished_parts-len-clause-behind : goal.returns-then-finished_parts-len-clause-behind
returns-then-finished_parts-len-clause-behind c =
    let units = map (waiting_of c.args.numbers.now) c.args.units.now.items in
    let unit = waiting_of c.args.numbers.now c.index-unit.result.now in
    let at = drop-map_at (waiting_of c.args.numbers.now) c.args.units.now.items c.loop-count.count c.index-unit.result.now
    (omega (arith, c.len-count-end.ensures, c.args.units.now.ok)) c.index-unit.ensures in
    let whole = rw c.as_slice.ensures at c.count_finished-finished_parts.ensures.whole in
    let broken : is_whole unit ≡ false = broken_by_count c.count_finished-finished_parts.result (length c.index-unit.result.now.dues) (is_whole unit) whole (rw c.len.ensures at c.if-finished_parts-len.true) in
    sym (behind_ends (drop c.loop-count.count units) unit (drop (suc c.loop-count.count) units) at broken) ∙ c.loop-count.invariant.behind

pub returns-then-finished_parts-len-clause-finished : goal.returns-then-finished_parts-len-clause-finished
returns-then-finished_parts-len-clause-finished c =
    let units = map (waiting_of c.args.numbers.now) c.args.units.now.items in
    let unit = waiting_of c.args.numbers.now c.index-unit.result.now in
    let at = drop-map_at (waiting_of c.args.numbers.now) c.args.units.now.items c.loop-count.count c.index-unit.result.now
    (omega (arith, c.len-count-end.ensures, c.args.units.now.ok)) c.index-unit.ensures in
    known_front c.count_finished-finished_parts.result (drop c.loop-count.count units) unit (drop (suc c.loop-count.count) units) at
    (rw c.as_slice.ensures at c.count_finished-finished_parts.ensures.front)

pub loop-count-preserved : goal.loop-count-preserved
loop-count-preserved c =
    let units = map (waiting_of c.args.numbers.now) c.args.units.now.items in
    let unit = waiting_of c.args.numbers.now c.index-unit.result.now in
    let left = drop c.loop-count.count units in
    let rest = drop (suc c.loop-count.count) units in
    let at = drop-map_at (waiting_of c.args.numbers.now) c.args.units.now.items c.loop-count.count c.index-unit.result.now
    (omega (arith, c.len-count-end.ensures, c.args.units.now.ok)) c.index-unit.ensures in
    let counted = rw c.as_slice.ensures at c.count_finished-finished_parts.ensures.whole in
    let whole : is_whole unit ≡ true = whole_by_count c.count_finished-finished_parts.result (length c.index-unit.result.now.dues) (is_whole unit) counted (c.if-finished_parts-len.false ∙ c.len.ensures) in
    record {
      whole = rw (
        add-one,
        map-take_suc (waiting_of c.args.numbers.now) c.args.units.now.items c.loop-count.count c.index-unit.result.now
            (omega (arith, c.len-count-end.ensures, c.args.units.now.ok)) c.index-unit.ensures,
      )
          (sym (front_more (map (waiting_of c.args.numbers.now) (take c.loop-count.count c.args.units.now.items)) left unit rest at whole) ∙ c.loop-count.invariant.whole);
      behind = rw add-one (sym (behind_more left unit rest at whole) ∙ c.loop-count.invariant.behind);
      known = none_known (drop (c.loop-count.count + 1) units);
    }
