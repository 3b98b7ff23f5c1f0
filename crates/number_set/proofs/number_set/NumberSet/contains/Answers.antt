use Rattle.std.proofs.Common.{◌-◌, ◌/◌, ◌%◌, ◌<◌, false, map, take, slice_index_or, ap, sym, subst, ◌∙◌, arith}
use Rattle.number_set.specs.Numbers.{HasRoom, is_in}
use Rattle.number_set.specs.Words.{word_marks, marks_of}
use Rattle.number_set.proofs.Sets.{mark-at, is-in, place-is, word-read, length-room}
use Rattle.number_set.proofs.number_set.NumberSet.contains.Goals as goal

pub returns : goal.returns
returns c =
    let set = c.self.inside in
    let levels = map (λ counts. counts.items) set.levels.items in
    let p = c.args.number - set.first in
    let has : HasRoom c.args.self.now c.args.number = c.has_room.ensures.0 c.if-not-has_room.false in
    let room : HasRoom (record { first = set.first; marks = take set.room (marks_of set.words.items) }) c.args.number = subst (λ s. HasRoom s c.args.number) (sym c.self.view_is) has in
    let within : p < set.room = omega (arith, room.0, room.1, length-room set.first set.room set.len set.words.items levels c.self.invariant) in
    let place = place-is set.first set.room set.len p set.words.items levels c.self.invariant within in
    let word = word-read set.words.items (p / 64) c.index.result.now place.word c.index.ensures in
    c.has_bit.ensures ∙ ap (λ w. slice_index_or (word_marks w) (p % 64) false) word
    ∙ sym (mark-at set.first set.room set.len p set.words.items levels c.self.invariant within)
    ∙ is-in set.first c.args.number (take set.room (marks_of set.words.items)) room.0 ∙ ap (λ s. is_in s c.args.number) c.self.view_is
