-- One entry more, and all of them.
use Rattle.std.proofs.Common.{◌≡◌, ◌++◌, ◌∷◌, [], take, refl, sym, ap, ◌∙◌, arith, append-nil, codes}
use Rattle.std.specs.List.{join_with_byte}
use Rattle.std.proofs.lemmas.List.{take_all}
use Rattle.message_texts.proofs.Behind.{two_parts, three_parts}
use Rattle.message_texts.proofs.Joined.{joined_more, one_more}
use Rattle.message_texts.proofs.OnResults.{OnOk-follows, always, on_err, put_last, last_front, starts_with_append, starts_with_trans}
use Rattle.message_texts.proofs.arrays.put_array.Goals as goal

pub loop-place-init : goal.loop-place-init
loop-place-init g c = record {
  text = c.in_ok-push.ensures.items ∙ sym (append-nil (c.args.bytes.now.items ++ 91 ∷ []));
  known = λ i h. absurd (omega (arith, h));
}

pub returns-in_err-put_entry-clause-front : goal.returns-in_err-put_entry-clause-front
returns-in_err-put_entry-clause-front g c =
    let old = c.args.bytes.now.items in
    let row = join_with_byte 44 (take c.loop-place.place (g.E.Entries.texts c.args.entries.now)) in
    on_err c.from_residual-in_err-put_entry.result
    (starts_with_trans c.put_entry.new.bytes.items c.loop-place.bytes.items old c.in_err-put_entry.ensures.front
    (starts_with_append c.loop-place.bytes.items old (codes "[" ++ row) (two_parts old (codes "[") row (old ++ 91 ∷ []) c.loop-place.bytes.items refl c.loop-place.invariant.text)))

pub loop-place-preserved : goal.loop-place-preserved
loop-place-preserved g c =
    let texts = g.E.Entries.texts c.args.entries.now in
    record {
      text = joined_more (c.args.bytes.now.items ++ 91 ∷ []) c.loop-place.bytes.items c.put_entry.new.bytes.items c.loop-place.place texts (omega arith)
          c.loop-place.invariant.text c.in_ok-put_entry.ensures.text;
      known = one_more (g.E.Entries.known c.args.entries.now) c.loop-place.place c.loop-place.invariant.known c.in_ok-put_entry.ensures.known;
    }

pub returns-clause-text : goal.returns-clause-text
returns-clause-text g c =
    let old = c.args.bytes.now.items in
    let texts = g.E.Entries.texts c.args.entries.now in
    let all : take c.loop-place.place texts ≡ texts = take_all c.loop-place.place texts (omega arith) in
    let row : c.loop-place.bytes.items ≡ (old ++ 91 ∷ []) ++ join_with_byte 44 texts = c.loop-place.invariant.text ∙ ap (λ ts. (old ++ 91 ∷ []) ++ join_with_byte 44 ts) all in
    OnOk-follows c.extend_from_slice.result
    (λ last. three_parts old (codes "[") (join_with_byte 44 texts) (codes "]") (old ++ 91 ∷ []) c.loop-place.bytes.items c.extend_from_slice.new.self.items refl row last)
    (put_last c.extend_from_slice.result _ _ _ c.extend_from_slice.ensures.items)

pub returns-clause-known : goal.returns-clause-known
returns-clause-known g c = always c.extend_from_slice.result (λ place h. c.loop-place.invariant.known place (omega (arith, h)))

pub returns-clause-front : goal.returns-clause-front
returns-clause-front g c =
    let old = c.args.bytes.now.items in
    let row = join_with_byte 44 (take c.loop-place.place (g.E.Entries.texts c.args.entries.now)) in
    last_front c.extend_from_slice.result _ _ _ old c.extend_from_slice.ensures.items
    (starts_with_append c.loop-place.bytes.items old (codes "[" ++ row) (two_parts old (codes "[") row (old ++ 91 ∷ []) c.loop-place.bytes.items refl c.loop-place.invariant.text))
