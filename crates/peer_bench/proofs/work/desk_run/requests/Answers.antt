use Rattle.std.proofs.Common.{◌≡◌, ℕ, ◌+◌, List, [], ◌∷◌, ◌++◌, Option, length, ap, ◌∙◌, arith}
use Rattle.message_ids.specs.declared.id.Id.{Id}
use Rattle.answer_desk.specs.declared.shape.Place.{Place}
use Rattle.answer_desk.specs.declared.shape.Place.TheVariants.{Unreadable, Invalid, Silent, Numbered}
use Rattle.answer_desk.specs.Places.{new_numbers}
use Rattle.peer_bench.proofs.work.desk_run.requests.Goals as goal

one_more : (places : List Place) (id : Option Id) (most : ℕ) → length (new_numbers (places ++ Numbered id most ∷ [])) ≡ length (new_numbers places) + 1
one_more [] id most = omega arith
one_more (Unreadable ∷ places) id most = one_more places id most
one_more (Invalid ∷ places) id most = one_more places id most
one_more (Silent ∷ places) id most = one_more places id most
one_more (Numbered other less ∷ places) id most = omega (arith, one_more places id most)

pub loop-index-preserved : goal.loop-index-preserved
loop-index-preserved c =
    ap (λ places. length (new_numbers places)) c.in_ok-push.ensures.items ∙ one_more c.loop-index.places.items _ 0 ∙ ap (λ n. n + 1) c.loop-index.invariant
