use Rattle.std.proofs.Common.{◌≡◌, ◌++◌, ◌∷◌, [], ℕ, List, None, sym, subst}
use Rattle.std.specs.Result.{IfOk, OnOk}
use Rattle.lsp_frames.specs.Feeds.{fed_frames}
use Rattle.content_streams.specs.Inner.Cutters.{MayFeed, Stands, places_by, read_by}
use Rattle.content_streams.specs.declared.cutter.Cutter.{Cutter}
use Rattle.content_streams.specs.declared.cutter.Cutter.TheVariants.{Frames, Lines, Contents}
use Rattle.content_streams.proofs.Streaming.{frames_given, frames_placed, frames_stand, lines_given, lines_placed, lines_stand, contents_given, contents_placed, contents_stand}
use Rattle.content_streams.proofs.cutter.Cutter.feed.Goals as goal

pub returns-in-Frames-clause-given : goal.returns-in-Frames-clause-given
returns-in-Frames-clause-given c =
    let P : Cutter → Type 0 = λ k. IfOk c.feed.result (λ given. (pieces : List (List ℕ)) → Stands k pieces → read_by k (pieces ++ c.args.piece.now ∷ []) None ≡ read_by k pieces None ++ fed_frames given) in
    subst P (sym c.in-Frames.is) (frames_given c.feed.result c.in-Frames.cutter c.args.piece.now c.feed.ensures.given)

pub returns-in-Frames-clause-places : goal.returns-in-Frames-clause-places
returns-in-Frames-clause-places c =
    let old = c.args.places.now.items in
    let new = c.feed.new.places.items in
    let P : Cutter → Type 0 = λ k. OnOk c.feed.result ((pieces : List (List ℕ)) (passed : List ℕ) → Stands k pieces → places_by k pieces None ≡ passed ++ old → places_by k (pieces ++ c.args.piece.now ∷ []) None ≡ passed ++ new) in
    subst P (sym c.in-Frames.is) (frames_placed c.feed.result c.in-Frames.cutter c.args.piece.now old new c.feed.ensures.places)

pub returns-in-Frames-clause-stands : goal.returns-in-Frames-clause-stands
returns-in-Frames-clause-stands c =
    let P : Cutter → Type 0 = λ k. OnOk c.feed.result ((pieces : List (List ℕ)) → Stands k pieces → Stands (Frames c.feed.new.self) (pieces ++ c.args.piece.now ∷ [])) in
    subst P (sym c.in-Frames.is) (frames_stand c.feed.result c.in-Frames.cutter c.feed.new.self c.args.piece.now c.feed.ensures.stands)

pub returns-in-Lines-clause-given : goal.returns-in-Lines-clause-given
returns-in-Lines-clause-given c =
    let P : Cutter → Type 0 = λ k. IfOk c.feed-in-Lines.result (λ given. (pieces : List (List ℕ)) → Stands k pieces → read_by k (pieces ++ c.args.piece.now ∷ []) None ≡ read_by k pieces None ++ fed_frames given) in
    subst P (sym c.in-Lines.is) (lines_given c.feed-in-Lines.result c.in-Lines.cutter c.args.piece.now c.feed-in-Lines.ensures.given)

pub returns-in-Lines-clause-places : goal.returns-in-Lines-clause-places
returns-in-Lines-clause-places c =
    let old = c.args.places.now.items in
    let new = c.feed-in-Lines.new.places.items in
    let P : Cutter → Type 0 = λ k. OnOk c.feed-in-Lines.result ((pieces : List (List ℕ)) (passed : List ℕ) → Stands k pieces → places_by k pieces None ≡ passed ++ old → places_by k (pieces ++ c.args.piece.now ∷ []) None ≡ passed ++ new) in
    subst P (sym c.in-Lines.is) (lines_placed c.feed-in-Lines.result c.in-Lines.cutter c.args.piece.now old new c.feed-in-Lines.ensures.places)

pub returns-in-Lines-clause-stands : goal.returns-in-Lines-clause-stands
returns-in-Lines-clause-stands c =
    let P : Cutter → Type 0 = λ k. OnOk c.feed-in-Lines.result ((pieces : List (List ℕ)) → Stands k pieces → Stands (Lines c.feed-in-Lines.new.self) (pieces ++ c.args.piece.now ∷ [])) in
    subst P (sym c.in-Lines.is) (lines_stand c.feed-in-Lines.result c.in-Lines.cutter c.feed-in-Lines.new.self c.args.piece.now c.feed-in-Lines.ensures.limit c.feed-in-Lines.ensures.left c.feed-in-Lines.ensures.start)

pub returns-in-Contents-clause-given : goal.returns-in-Contents-clause-given
returns-in-Contents-clause-given c =
    let P : Cutter → Type 0 = λ k. MayFeed k → IfOk c.feed-in-Contents.result (λ given. (pieces : List (List ℕ)) → Stands k pieces → read_by k (pieces ++ c.args.piece.now ∷ []) None ≡ read_by k pieces None ++ fed_frames given) in
    subst P (sym c.in-Contents.is) (λ may. contents_given c.feed-in-Contents.result c.in-Contents.cutter c.args.piece.now may c.feed-in-Contents.ensures.given) c.requires.may

pub returns-in-Contents-clause-places : goal.returns-in-Contents-clause-places
returns-in-Contents-clause-places c =
    let old = c.args.places.now.items in
    let new = c.feed-in-Contents.new.places.items in
    let P : Cutter → Type 0 = λ k. MayFeed k → OnOk c.feed-in-Contents.result ((pieces : List (List ℕ)) (passed : List ℕ) → Stands k pieces → places_by k pieces None ≡ passed ++ old → places_by k (pieces ++ c.args.piece.now ∷ []) None ≡ passed ++ new) in
    subst P (sym c.in-Contents.is) (λ may. contents_placed c.feed-in-Contents.result c.in-Contents.cutter c.args.piece.now old new may c.feed-in-Contents.ensures.places) c.requires.may

pub returns-in-Contents-clause-stands : goal.returns-in-Contents-clause-stands
returns-in-Contents-clause-stands c =
    let P : Cutter → Type 0 = λ k. MayFeed k → OnOk c.feed-in-Contents.result ((pieces : List (List ℕ)) → Stands k pieces → Stands (Contents c.feed-in-Contents.new.self) (pieces ++ c.args.piece.now ∷ [])) in
    subst P (sym c.in-Contents.is) (λ may. contents_stand c.feed-in-Contents.result c.in-Contents.cutter c.feed-in-Contents.new.self c.args.piece.now may c.feed-in-Contents.ensures.left) c.requires.may
