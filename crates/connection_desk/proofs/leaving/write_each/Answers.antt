use Rattle.std.proofs.Common.{◌≡◌, ◌+◌, ◌<◌, true, false, Some, length, is_some, unwrap_or, sym, ap, subst, ◌∙◌, arith}
use Rattle.connection_history.specs.Counts.{capped}
use Rattle.connection_history.specs.declared.order.Order.TheVariants.{AsCame}
use Rattle.connection_steps.specs.Steps.{complete_front, incomplete_rest}
use Rattle.open_calls.specs.Numbered.{at, next_number}
use Rattle.connection_desk.specs.Desks.{answer_count, answer_texts, with_texts}
use Rattle.connection_desk.specs.Inner.{complete_at, complete_text_at, rest_from, rest_of}
use Rattle.connection_desk.proofs.Counting.{none_more, twice_more}
use Rattle.connection_desk.proofs.GivenSlots.{all_stays}
use Rattle.connection_desk.proofs.OwedLists.{front_more, front_stops, front_count, front_rest, incomplete_text, rest_shorter, more_texts, more_since}
use Rattle.connection_desk.proofs.leaving.write_each.Goals as goal

pub loop-next-smaller : goal.loop-next-smaller
loop-next-smaller c =
    let owed = c.args.owed.now.owed in
    let place = c.in-Some.place in
    let done : complete_at place owed ≡ true = sym c.in_ok-more.ensures.complete ∙ ap is_some c.in-Some-2.is in
    let less : length (rest_of (next_number place owed) owed) < length (rest_of (Some place) owed) =
    rest_shorter c.numbers_above_one.ensures.at place owed c.write_complete.ensures.ascending done in
    subst (λ o. length (rest_of o owed) < length (rest_of c.loop-next.next owed)) (sym c.next-next.ensures)
    (subst (λ o. length (rest_of (next_number place owed) owed) < length (rest_of o owed)) (sym c.in-Some.is) less)

pub loop-next-preserved : goal.loop-next-preserved
loop-next-preserved c =
    let owed = c.args.owed.now.owed in
    let place = c.in-Some.place in
    let now = c.loop-next.outbox in
    let count = c.loop-next.count in
    let above = c.numbers_above_one.ensures.at in
    let order = c.write_complete.ensures.ascending in
    let done : complete_at place owed ≡ true = sym c.in_ok-more.ensures.complete ∙ ap is_some c.in-Some-2.is in
    let behind = rest_of (next_number place owed) owed in
    let rest = answer_texts (complete_front behind) in
    let put : c.write_complete.new.outbox ≡ with_texts (complete_text_at place owed) now = c.in_ok-more.ensures.ok in
    let more : c.in-Some-2.more ≡ length (complete_text_at place owed) = sym (ap (λ o. unwrap_or o 0) c.in-Some-2.is) ∙ c.in_ok-more.ensures.count in
    let counted : c.saturating_add-count.result ≡ capped (count + length (complete_text_at place owed)) =
    c.saturating_add-count.ensures ∙ ap (λ n. capped (count + n)) more in
    record {
      texts = ap (λ o. with_texts (answer_texts (complete_front (rest_of o owed))) c.write_complete.new.outbox) c.next-next.ensures
          ∙ ap (with_texts rest) put
          ∙ more_texts (complete_text_at place owed) rest now
          ∙ ap (λ ts. with_texts ts now) (sym (front_more above place owed order done))
          ∙ ap (λ o. with_texts (answer_texts (complete_front (rest_of o owed))) now) (sym c.in-Some.is)
          ∙ c.loop-next.invariant.texts;
      since = more_since (complete_text_at place owed) c.args.outbox.now now c.write_complete.new.outbox c.loop-next.invariant.since put;
      rest = ap (λ o. incomplete_rest (rest_of o owed)) c.next-next.ensures
          ∙ front_rest above place owed order done
          ∙ ap (λ o. incomplete_rest (rest_of o owed)) (sym c.in-Some.is)
          ∙ c.loop-next.invariant.rest;
      few = omega (arith, counted);
      count = ap (λ o. capped (c.saturating_add-count.result + answer_count (complete_front (rest_of o owed)))) c.next-next.ensures
          ∙ ap (λ n. capped (n + answer_count (complete_front behind))) counted
          ∙ twice_more count (length (complete_text_at place owed)) (answer_count (complete_front behind))
          ∙ ap (λ n. capped (count + n)) (sym (front_count above place owed order done))
          ∙ ap (λ o. capped (count + answer_count (complete_front (rest_of o owed)))) (sym c.in-Some.is)
          ∙ c.loop-next.invariant.count;
    }

pub returns-in_default-2-clause-stays : goal.returns-in_default-2-clause-stays
returns-in_default-2-clause-stays c =
    let owed = c.args.owed.now.owed in
    let place = c.in-Some.place in
    let open_yet : complete_at place owed ≡ false = sym c.in_ok-more.ensures.complete ∙ ap is_some c.in_default-2.is in
    sym (all_stays AsCame (rest_from place owed) (front_stops place owed open_yet))
    ∙ ap (λ o. incomplete_rest (rest_of o owed)) (sym c.in-Some.is)
    ∙ c.loop-next.invariant.rest

pub returns-in_default-2-clause-count : goal.returns-in_default-2-clause-count
returns-in_default-2-clause-count c =
    let owed = c.args.owed.now.owed in
    let place = c.in-Some.place in
    let open_yet : complete_at place owed ≡ false = sym c.in_ok-more.ensures.complete ∙ ap is_some c.in_default-2.is in
    sym (none_more c.loop-next.count c.loop-next.invariant.few)
    ∙ ap (λ fs. capped (c.loop-next.count + answer_count fs)) (sym (front_stops place owed open_yet))
    ∙ ap (λ o. capped (c.loop-next.count + answer_count (complete_front (rest_of o owed)))) (sym c.in-Some.is)
    ∙ c.loop-next.invariant.count

pub returns-in_default-2-clause-ok : goal.returns-in_default-2-clause-ok
returns-in_default-2-clause-ok c =
    let owed = c.args.owed.now.owed in
    let now = c.loop-next.outbox in
    let open_yet : complete_at c.in-Some.place owed ≡ false = sym c.in_ok-more.ensures.complete ∙ ap is_some c.in_default-2.is in
    c.in_ok-more.ensures.ok
    ∙ ap (λ ts. with_texts ts now) (incomplete_text (at c.in-Some.place owed) open_yet)
    ∙ ap (λ es. with_texts (answer_texts es) now) (sym (ap (λ o. complete_front (rest_of o owed)) c.in-Some.is ∙ front_stops c.in-Some.place owed open_yet))
    ∙ c.loop-next.invariant.texts
