use Rattle.std.proofs.Common.{◌≡◌, ◌-◌, ◌<◌, ◌/◌, ◌%◌, true, map, set, take, slice_index, sym, ap, subst, ◌∙◌, arith}
use Rattle.number_set.specs.Levels.{one_more}
use Rattle.number_set.specs.Numbers.{Marked, HasRoom, is_in, with_mark}
use Rattle.number_set.specs.Words.{word_marks, marks_of}
use Rattle.number_set.proofs.Sets.{absent, at_least, with_mark-is, few_in, place-is, place_in, word-read, words-more, length-room, written, length-one_more}
use Rattle.number_set.proofs.number_set.NumberSet.insert.Goals as goal

pub count_one_more-requires : goal.count_one_more-requires
count_one_more-requires c =
    let inside = c.self.inside in
    let p = c.args.number - inside.first in
    let levels = map (λ counts. counts.items) inside.levels.items in
    let seen : Marked = record { first = inside.first; marks = take inside.room (marks_of inside.words.items) } in
    let room : HasRoom seen c.args.number = subst (λ s. HasRoom s c.args.number) (sym c.self.view_is) c.requires in
    let mark = absent inside.first c.args.number seen.marks room.0 (ap (λ s. is_in s c.args.number) c.self.view_is ∙ sym c.contains.ensures ∙ c.if-not-contains.true) in
    let within : p < inside.room = omega (arith, room.0, room.1, length-room inside.first inside.room inside.len inside.words.items levels c.self.invariant) in
    let place = place-is inside.first inside.room inside.len p inside.words.items levels c.self.invariant within in
    let word = word-read inside.words.items (p / 64) c.index.result.now place.word c.index.ensures in
    let new : word_marks c.with_bit.result ≡ set (word_marks (slice_index inside.words.items (p / 64))) (p % 64) true = c.with_bit.ensures ∙ ap (λ w. set (word_marks w) (p % 64) true) word in
    let changed = words-more inside.first inside.room inside.len p c.with_bit.result inside.words.items levels c.self.invariant within new mark in
    rw c.as_mut_slice.ensures.value (place_in inside.first inside.room inside.len (p / 64) inside.words.items levels c.self.invariant place.word)

pub overflow_add-self : goal.overflow_add-self
overflow_add-self c = omega (arith, few_in c.self.inside.first c.self.inside.room c.self.inside.len c.self.inside.words.items (map (λ counts. counts.items) c.self.inside.levels.items) c.self.invariant)

pub invariant_of-self : goal.invariant_of-self
invariant_of-self c =
    let inside = c.self.inside in
    let p = c.args.number - inside.first in
    let levels = map (λ counts. counts.items) inside.levels.items in
    let seen : Marked = record { first = inside.first; marks = take inside.room (marks_of inside.words.items) } in
    let room : HasRoom seen c.args.number = subst (λ s. HasRoom s c.args.number) (sym c.self.view_is) c.requires in
    let mark = absent inside.first c.args.number seen.marks room.0 (ap (λ s. is_in s c.args.number) c.self.view_is ∙ sym c.contains.ensures ∙ c.if-not-contains.true) in
    let within : p < inside.room = omega (arith, room.0, room.1, length-room inside.first inside.room inside.len inside.words.items levels c.self.invariant) in
    let place = place-is inside.first inside.room inside.len p inside.words.items levels c.self.invariant within in
    let word = word-read inside.words.items (p / 64) c.index.result.now place.word c.index.ensures in
    let new : word_marks c.with_bit.result ≡ set (word_marks (slice_index inside.words.items (p / 64))) (p % 64) true = c.with_bit.ensures ∙ ap (λ w. set (word_marks w) (p % 64) true) word in
    let changed = words-more inside.first inside.room inside.len p c.with_bit.result inside.words.items levels c.self.invariant within new mark in
    let levels_new = written (λ counts. counts.items) inside.levels.len c.count_one_more.new.levels inside.levels.items (one_more (p / 64) levels)
    (rw c.as_mut_slice.ensures.value at c.count_one_more.ensures) (length-one_more (p / 64) levels) (sym inside.levels.ok.0) in
    rw levels_new changed.still

pub returns-then-not-contains : goal.returns-then-not-contains
returns-then-not-contains c =
    let inside = c.self.inside in
    let p = c.args.number - inside.first in
    let levels = map (λ counts. counts.items) inside.levels.items in
    let seen : Marked = record { first = inside.first; marks = take inside.room (marks_of inside.words.items) } in
    let room : HasRoom seen c.args.number = subst (λ s. HasRoom s c.args.number) (sym c.self.view_is) c.requires in
    let mark = absent inside.first c.args.number seen.marks room.0 (ap (λ s. is_in s c.args.number) c.self.view_is ∙ sym c.contains.ensures ∙ c.if-not-contains.true) in
    let within : p < inside.room = omega (arith, room.0, room.1, length-room inside.first inside.room inside.len inside.words.items levels c.self.invariant) in
    let place = place-is inside.first inside.room inside.len p inside.words.items levels c.self.invariant within in
    let word = word-read inside.words.items (p / 64) c.index.result.now place.word c.index.ensures in
    let new : word_marks c.with_bit.result ≡ set (word_marks (slice_index inside.words.items (p / 64))) (p % 64) true = c.with_bit.ensures ∙ ap (λ w. set (word_marks w) (p % 64) true) word in
    let changed = words-more inside.first inside.room inside.len p c.with_bit.result inside.words.items levels c.self.invariant within new mark in
    ap (λ marks. record { first = inside.first; marks = marks }) changed.marks
    ∙ with_mark-is true c.args.number inside.first seen.marks (at_least inside.first c.args.number room.0) ∙ ap (with_mark true c.args.number) c.self.view_is
