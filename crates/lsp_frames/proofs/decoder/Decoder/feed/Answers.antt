use Rattle.std.proofs.Common.{◌≡◌, ◌++◌, ℕ, List, Vec, Global, Result, Err, OnOk, ap, sym, ◌∙◌, subst}
use Rattle.lsp_frames.specs.Decoding.{Decoding, Broken, IfEnded, IfFed, IsOpen, StandsAfter}
use Rattle.lsp_frames.specs.Inner.Partials.{known_read, read_at, read_of}
use Rattle.lsp_frames.specs.declared.frame.Frame.{Frame}
use Rattle.lsp_frames.specs.declared.fault.FeedFault.{FeedFault}
use Rattle.lsp_frames.specs.declared.fault.FeedFault.TheVariants.{Memory}
use Rattle.lsp_frames.specs.declared.decoder.Decoder.TheInside.{Inside}
use Rattle.lsp_frames.specs.declared.partial.Stage.{Stage}
use Rattle.lsp_frames.proofs.Standings.{is_ended, is_open, stands_broken, stands_open}
use Rattle.lsp_frames.proofs.decoder.Decoder.feed.Goals as goal
use Rattle.lsp_frames.proofs.decoder.Decoder.feed.Goals.{in-Ended-stage, in_default-stage}

abbrev view : Inside → Decoding
view inside = record { limit = inside.limit; standing = known_read (read_of inside.partial) }

pub returns-in-Ended-clause-stands : goal.returns-in-Ended-clause-stands
returns-in-Ended-clause-stands c = λ bytes frames h.
    stands_broken c.args.self.now bytes c.args.piece.now frames c.new.result c.in-Ended.fault
    (sym (ap (λ (d : Decoding). d.standing) c.self.view_is) ∙ ap (λ (s : Stage). known_read (read_at s c.self.inside.partial.held.items)) c.in-Ended.is)
    c.new.ensures h

pub returns : goal.returns
returns c =
    let after : Decoding = record { limit = c.self.inside.limit; standing = known_read (read_of c.feed_apart.new.self) } in
    let stands : (bytes : List ℕ) (frames : List Frame) → StandsAfter c.args.self.now bytes frames → StandsAfter after (bytes ++ c.args.piece.now) (frames ++ c.in_ok-frames-in_default.frames.items) = λ bytes frames h.
    let P : Decoding → Type 0 = λ d. StandsAfter d bytes frames in
    stands_open c.self.inside.limit c.self.inside.partial.stage c.self.inside.partial.held.items bytes c.args.piece.now frames c.in_ok-frames-in_default.frames.items (read_of c.feed_apart.new.self)
    (λ fault e. c.in_default.not-Ended fault e) c.in_ok-frames-in_default.ensures.given (subst P (sym c.self.view_is) h) in
    let Told : Result (Vec Frame Global) FeedFault → Type 0 = λ r.
    ((bytes : List ℕ) (frames : List Frame) → StandsAfter c.args.self.now bytes frames → IfFed r (λ given. StandsAfter after (bytes ++ c.args.piece.now) (frames ++ given)))
    × OnOk r (IsOpen after.standing)
    × IfEnded r (λ fault. after.standing ≡ Broken fault)
    × ((r ≡ Err Memory) → after ≡ c.args.self.now) in
    let told : Told c.match-self-2.result = elim c.match-self-2.branch [
      | in-Ended-stage w ↦ subst Told (sym w.result-is) (
        (λ bytes frames h.
            let Q : List Frame → Type 0 = λ given. StandsAfter after (bytes ++ c.args.piece.now) (frames ++ given) in
            subst Q (sym w.into.ensures) (stands bytes frames h)),
        tt,
        ap (λ (s : Stage). known_read (read_at s c.feed_apart.new.self.held.items)) w.in-Ended-stage.is,
        (λ e. absurd (cc)),
      )
      | in_default-stage w ↦ subst Told (sym w.result-is) (
        stands,
        is_open c.feed_apart.new.self.stage c.feed_apart.new.self.held.items (λ fault e. w.in_default-stage.not-Ended fault e),
        tt,
        (λ e. absurd (cc)),
      )
    ] in
    record {
      limit = ap (λ (d : Decoding). d.limit) c.self.view_is;
      stands = told.0;
      «open» = told.1;
      ended = told.2;
      memory = told.3;
      over = λ fault e. absurd (c.in_default.not-Ended fault (is_ended c.self.inside.partial.stage c.self.inside.partial.held.items fault (ap (λ (d : Decoding). d.standing) c.self.view_is ∙ e)));
    }
