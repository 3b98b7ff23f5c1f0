use Rattle.std.proofs.Common.{◌≡◌, ◌-◌, ◌<◌, ◌/◌, ◌%◌, true, false, map, set, take, slice_index, sym, ap, ◌∙◌, arith}
use Rattle.number_set.specs.Levels.{one_less}
use Rattle.number_set.specs.Numbers.{Marked, is_in, with_mark}
use Rattle.number_set.specs.Words.{word_marks, marks_of}
use Rattle.number_set.proofs.Sets.{present, room-of, not_in, at_least, with_mark-is, place-is, word-read, words-less, length-room, written, length-one_less}
use Rattle.number_set.proofs.number_set.NumberSet.remove.Goals as goal

pub count_one_less-requires : goal.count_one_less-requires
count_one_less-requires c =
    let inside = c.self.inside in
    let p = c.args.number - inside.first in
    let levels = map (λ counts. counts.items) inside.levels.items in
    let seen : Marked = record { first = inside.first; marks = take inside.room (marks_of inside.words.items) } in
    let here : is_in seen c.args.number ≡ true = ap (λ s. is_in s c.args.number) c.self.view_is ∙ sym c.contains.ensures ∙ c.if-contains.true in
    let room = room-of seen c.args.number here in
    let mark = (present inside.first c.args.number seen.marks here).1 in
    let within : p < inside.room = omega (arith, room.0, room.1, length-room inside.first inside.room inside.len inside.words.items levels c.self.invariant) in
    let place = place-is inside.first inside.room inside.len p inside.words.items levels c.self.invariant within in
    let word = word-read inside.words.items (p / 64) c.index.result.now place.word c.index.ensures in
    let new : word_marks c.without_bit.result ≡ set (word_marks (slice_index inside.words.items (p / 64))) (p % 64) false = c.without_bit.ensures ∙ ap (λ w. set (word_marks w) (p % 64) false) word in
    let changed = words-less inside.first inside.room inside.len p c.without_bit.result inside.words.items levels c.self.invariant within new mark in
    rw c.as_mut_slice.ensures.value changed.1

pub overflow_sub-self : goal.overflow_sub-self
overflow_sub-self c =
    let inside = c.self.inside in
    let p = c.args.number - inside.first in
    let levels = map (λ counts. counts.items) inside.levels.items in
    let seen : Marked = record { first = inside.first; marks = take inside.room (marks_of inside.words.items) } in
    let here : is_in seen c.args.number ≡ true = ap (λ s. is_in s c.args.number) c.self.view_is ∙ sym c.contains.ensures ∙ c.if-contains.true in
    let room = room-of seen c.args.number here in
    let mark = (present inside.first c.args.number seen.marks here).1 in
    let within : p < inside.room = omega (arith, room.0, room.1, length-room inside.first inside.room inside.len inside.words.items levels c.self.invariant) in
    let place = place-is inside.first inside.room inside.len p inside.words.items levels c.self.invariant within in
    let word = word-read inside.words.items (p / 64) c.index.result.now place.word c.index.ensures in
    let new : word_marks c.without_bit.result ≡ set (word_marks (slice_index inside.words.items (p / 64))) (p % 64) false = c.without_bit.ensures ∙ ap (λ w. set (word_marks w) (p % 64) false) word in
    let changed = words-less inside.first inside.room inside.len p c.without_bit.result inside.words.items levels c.self.invariant within new mark in
    changed.0

pub invariant_of-self : goal.invariant_of-self
invariant_of-self c =
    let inside = c.self.inside in
    let p = c.args.number - inside.first in
    let levels = map (λ counts. counts.items) inside.levels.items in
    let seen : Marked = record { first = inside.first; marks = take inside.room (marks_of inside.words.items) } in
    let here : is_in seen c.args.number ≡ true = ap (λ s. is_in s c.args.number) c.self.view_is ∙ sym c.contains.ensures ∙ c.if-contains.true in
    let room = room-of seen c.args.number here in
    let mark = (present inside.first c.args.number seen.marks here).1 in
    let within : p < inside.room = omega (arith, room.0, room.1, length-room inside.first inside.room inside.len inside.words.items levels c.self.invariant) in
    let place = place-is inside.first inside.room inside.len p inside.words.items levels c.self.invariant within in
    let word = word-read inside.words.items (p / 64) c.index.result.now place.word c.index.ensures in
    let new : word_marks c.without_bit.result ≡ set (word_marks (slice_index inside.words.items (p / 64))) (p % 64) false = c.without_bit.ensures ∙ ap (λ w. set (word_marks w) (p % 64) false) word in
    let changed = words-less inside.first inside.room inside.len p c.without_bit.result inside.words.items levels c.self.invariant within new mark in
    let levels_new = written (λ counts. counts.items) inside.levels.len c.count_one_less.new.levels inside.levels.items (one_less (p / 64) levels)
    (rw c.as_mut_slice.ensures.value at c.count_one_less.ensures) (length-one_less (p / 64) levels) (sym inside.levels.ok.0) in
    rw levels_new changed.2.still

pub returns-then-contains : goal.returns-then-contains
returns-then-contains c =
    let inside = c.self.inside in
    let p = c.args.number - inside.first in
    let levels = map (λ counts. counts.items) inside.levels.items in
    let seen : Marked = record { first = inside.first; marks = take inside.room (marks_of inside.words.items) } in
    let here : is_in seen c.args.number ≡ true = ap (λ s. is_in s c.args.number) c.self.view_is ∙ sym c.contains.ensures ∙ c.if-contains.true in
    let room = room-of seen c.args.number here in
    let mark = (present inside.first c.args.number seen.marks here).1 in
    let within : p < inside.room = omega (arith, room.0, room.1, length-room inside.first inside.room inside.len inside.words.items levels c.self.invariant) in
    let place = place-is inside.first inside.room inside.len p inside.words.items levels c.self.invariant within in
    let word = word-read inside.words.items (p / 64) c.index.result.now place.word c.index.ensures in
    let new : word_marks c.without_bit.result ≡ set (word_marks (slice_index inside.words.items (p / 64))) (p % 64) false = c.without_bit.ensures ∙ ap (λ w. set (word_marks w) (p % 64) false) word in
    let changed = words-less inside.first inside.room inside.len p c.without_bit.result inside.words.items levels c.self.invariant within new mark in
    ap (λ marks. record { first = inside.first; marks = marks }) changed.2.marks
    ∙ with_mark-is false c.args.number inside.first seen.marks (at_least inside.first c.args.number room.0) ∙ ap (with_mark false c.args.number) c.self.view_is

pub returns-else-contains : goal.returns-else-contains
returns-else-contains c = sym (not_in c.args.self.now c.args.number (sym c.contains.ensures ∙ c.if-contains.false))
