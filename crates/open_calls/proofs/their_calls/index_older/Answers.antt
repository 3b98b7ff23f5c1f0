use Rattle.std.proofs.Common.{◌≡◌, ◌+◌, ◌-◌, Some, None, arith}
use Rattle.number_windows.specs.Numbered.{up_to}
use Rattle.number_windows.specs.Windows.{window_entries}
use Rattle.open_calls.proofs.Newest.{IsGap, gap, key_within, next_comes, none_past, same_between}
use Rattle.open_calls.proofs.Theirs.{number_come, index_seen}
use Rattle.open_calls.proofs.their_calls.index_older.Goals as goal

pub overflow_sub-result : goal.overflow_sub-result
overflow_sub-result c =
    let e = c.in-Some.field-0.now in
    omega (arith, (gap c.args.indexed (window_entries c.args.calls.now) (Some e) c.requires.window.ordered c.in-Some.ensures).0)

pub returns-in_ok-note-in-Some-clause-ok : goal.returns-in_ok-note-in-Some-clause-ok
returns-in_ok-note-in-Some-clause-ok c =
    let es = window_entries c.args.calls.now in
    let indexed = c.args.indexed in
    let e = c.in-Some.field-0.now in
    let next : IsGap es indexed (Some e) = gap indexed es (Some e) c.requires.window.ordered c.in-Some.ensures in
    let here : e.0 ≡ indexed + 1 = c.if-next-indexed.true in
    let within = key_within (c.args.came + 1) e.0 e.1 es c.requires.numbered next.1 in (
      omega (arith, within),
      omega (arith, here),
      number_come c.args.by_id.now c.note.new.by_id (up_to indexed es) (up_to e.0 es) e.0 e.1 c.in_ok-note-in-Some.ensures.ok c.requires.index
          (next_comes indexed e.0 e.1 es here next.1) (none_past indexed e.0 es next.0),
    )

pub returns-in-Some-2-clause-ok : goal.returns-in-Some-2-clause-ok
returns-in-Some-2-clause-ok c =
    let es = window_entries c.args.calls.now in
    let indexed = c.args.indexed in
    let e = c.in-Some.field-0.now in
    let next : IsGap es indexed (Some e) = gap indexed es (Some e) c.requires.window.ordered c.in-Some.ensures in
    let within = key_within (c.args.came + 1) e.0 e.1 es c.requires.numbered next.1 in (
      omega (arith, within),
      omega (arith, next.0, c.if-next-indexed.false),
      index_seen c.args.by_id.now (up_to indexed es) (up_to (e.0 - 1) es) c.requires.index
          (same_between indexed (e.0 - 1) es (omega (arith, next.0)) (λ k over le. next.2 k over (omega (arith, next.0, le)))),
    )

pub returns-in-None-clause-ok : goal.returns-in-None-clause-ok
returns-in-None-clause-ok c =
    let es = window_entries c.args.calls.now in
    let indexed = c.args.indexed in
    let last = c.args.came in (
      omega arith,
      omega arith,
      index_seen c.args.by_id.now (up_to indexed es) (up_to last es) c.requires.index
          (same_between indexed last es c.requires.within (λ k over le. gap indexed es None c.requires.window.ordered c.in-None.ensures k over)),
    )
