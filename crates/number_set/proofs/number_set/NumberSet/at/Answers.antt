use Rattle.std.proofs.Common.{◌≡◌, ℕ, ◌≤◌, ◌+◌, ◌*◌, ◌<◌, map, Some, slice_get, slice_index, sym, ap, ◌∙◌, arith}
use Rattle.number_set.specs.Levels.{found_below}
use Rattle.number_set.specs.Numbers.{numbers, numbers_from}
use Rattle.number_set.specs.Words.{word_marks}
use Rattle.number_set.proofs.Ranks.{rank_in, number-is, beyond}
use Rattle.number_set.proofs.Sets.{word-read}
use Rattle.number_set.proofs.number_set.NumberSet.at.Goals as goal

pub returns-then-place-self : goal.returns-then-place-self
returns-then-place-self c =
    let set = c.self.inside in
    sym (beyond set.first set.room set.len set.words.items (map (λ counts. counts.items) set.levels.items) c.args.place c.self.invariant c.if-place-self.true)
    ∙ ap (λ s. slice_get (numbers s) c.args.place) c.self.view_is

pub find_place-found-requires : goal.find_place-found-requires
find_place-found-requires c =
    let set = c.self.inside in
    rw c.as_slice.ensures.value ((rank_in set.first set.room set.len set.words.items (map (λ counts. counts.items) set.levels.items) c.args.place c.self.invariant c.if-place-self.false).way)

pub index-requires : goal.index-requires
index-requires c =
    let set = c.self.inside in
    let rank = rank_in set.first set.room set.len set.words.items (map (λ counts. counts.items) set.levels.items) c.args.place c.self.invariant c.if-place-self.false in
    rw (c.find_place-found.ensures, c.as_slice.ensures.value) (omega (arith, rank.within, set.words.ok))

pub bit_behind-bit-requires : goal.bit_behind-bit-requires
bit_behind-bit-requires c =
    let set = c.self.inside in
    let rank = rank_in set.first set.room set.len set.words.items (map (λ counts. counts.items) set.levels.items) c.args.place c.self.invariant c.if-place-self.false in
    let found : c.find_place-found.result ≡ found_below (map (λ counts. counts.items) set.levels.items) c.args.place = c.find_place-found.ensures ∙ ap (λ ls. found_below ls c.args.place) (ap (map (λ counts. counts.items)) c.as_slice.ensures.value) in
    let word = word-read set.words.items c.find_place-found.result.place c.index.result.now (rw found rank.within) c.index.ensures in
    rw (word, found) rank.left

small : (place bit words : ℕ) → place < words → words ≤ 1000001 → bit < 64 → (place * 64 + bit < 64000064)
small place bit words a b d = omega arith

pub overflow_mul-result : goal.overflow_mul-result
overflow_mul-result c =
    let set = c.self.inside in
    let rank = rank_in set.first set.room set.len set.words.items (map (λ counts. counts.items) set.levels.items) c.args.place c.self.invariant c.if-place-self.false in
    rw (c.find_place-found.ensures, c.as_slice.ensures.value) (omega (arith, rank.within, c.self.invariant.few))

pub overflow_cast-result : goal.overflow_cast-result
overflow_cast-result c =
    let set = c.self.inside in
    let rank = rank_in set.first set.room set.len set.words.items (map (λ counts. counts.items) set.levels.items) c.args.place c.self.invariant c.if-place-self.false in
    rw (c.find_place-found.ensures, c.as_slice.ensures.value) (omega (arith, rank.within, c.self.invariant.few))

pub overflow_add-result : goal.overflow_add-result
overflow_add-result c =
    let set = c.self.inside in
    let rank = rank_in set.first set.room set.len set.words.items (map (λ counts. counts.items) set.levels.items) c.args.place c.self.invariant c.if-place-self.false in
    rw (c.find_place-found.ensures, c.as_slice.ensures.value) (omega (arith, rank.within, c.self.invariant.few, c.self.invariant.end))

pub overflow_add-result-2 : goal.overflow_add-result-2
overflow_add-result-2 c =
    let set = c.self.inside in
    let rank = rank_in set.first set.room set.len set.words.items (map (λ counts. counts.items) set.levels.items) c.args.place c.self.invariant c.if-place-self.false in
    rw (c.find_place-found.ensures, c.as_slice.ensures.value) (omega (arith, rank.within, c.self.invariant.few, c.self.invariant.end, c.bit_behind-bit.ensures.within))

pub returns : goal.returns
returns c =
    let set = c.self.inside in
    let levels = map (λ counts. counts.items) set.levels.items in
    let rank = rank_in set.first set.room set.len set.words.items levels c.args.place c.self.invariant c.if-place-self.false in
    let found : c.find_place-found.result ≡ found_below levels c.args.place = c.find_place-found.ensures ∙ ap (λ ls. found_below ls c.args.place) (ap (map (λ counts. counts.items)) c.as_slice.ensures.value) in
    let here : slice_get (numbers_from 0 (word_marks (slice_index set.words.items (found_below levels c.args.place).place))) (found_below levels c.args.place).left ≡ Some c.bit_behind-bit.result =
    rw (sym found)
    (ap (λ w. slice_get (numbers_from 0 (word_marks w)) c.find_place-found.result.left) (sym (word-read set.words.items c.find_place-found.result.place c.index.result.now (rw found rank.within) c.index.ensures))
    ∙ c.bit_behind-bit.ensures.bit) in
    let e : set.first + c.find_place-found.result.place * 64 + c.bit_behind-bit.result ≡ set.first + 64 * (found_below levels c.args.place).place + c.bit_behind-bit.result =
    rw found (omega arith) in
    ap Some e
    ∙ sym (number-is set.first set.room set.len set.words.items levels c.args.place c.bit_behind-bit.result c.self.invariant c.if-place-self.false here)
    ∙ ap (λ s. slice_get (numbers s) c.args.place) c.self.view_is
