-- A stream as more is seen of it.
use Rattle.std.proofs.Common.{◌≡◌, ℕ, zero, suc, ◌≤◌, Bool, true, false, if◌then◌else◌, List, [], ◌∷◌, ◌++◌, Option, Some, None, length, drop, refl, sym, ap, subst, ◌∙◌, arith, append_assoc, append-nil}
use Rattle.std.specs.Prelude.{is_some}
use Rattle.lsp_frames.specs.declared.frame.Frame.{Frame}
use Rattle.content_streams.specs.Streams.{Stream, placed_contents_of, placed_contents}
use Rattle.content_streams.specs.declared.ending.HowEnded.{HowEnded}
use Rattle.content_streams.specs.declared.framing.Framing.{Framing}
use Rattle.conversation_rules.specs.Judging.{Seen, Wrote, Closed, Failed, State, stream_of, pair_of, state_with, all_taken, fed, ended_stream, event_stream, step, state_from}
use Rattle.conversation_rules.specs.Speakers.{Pair}
use Rattle.conversation_rules.specs.declared.protocol.Protocol.{Protocol}
use Rattle.conversation_rules.specs.declared.side.Side.{Side}
use Rattle.conversation_rules.specs.declared.side.Side.TheVariants.{Client, Server}
pub use Rattle.our_side.specs.OurSide.{other}
use Rattle.content_streams.specs.declared.ending.HowEnded.TheVariants as how

-- ---- sides

pub data IsSide (side : Side) : Side → Type 0 where
  own : IsSide side side
  others : IsSide side (other side)

pub which : (side another : Side) → IsSide side another
which Client Client = own
which Client Server = others
which Server Client = others
which Server Server = own

abbrev pub swap : Pair → Pair
swap pair = record { own = pair.other; other = pair.own }

pub own_stream : (side : Side) (s : Stream) (p : Pair) (state : State) → stream_of side (state_with side s p state) ≡ s
own_stream Client s p state = refl
own_stream Server s p state = refl

pub own_pair : (side : Side) (s : Stream) (p : Pair) (state : State) → pair_of side (state_with side s p state) ≡ p
own_pair Client s p state = refl
own_pair Server s p state = refl

pub other_stream : (side : Side) (s : Stream) (p : Pair) (state : State) → stream_of side (state_with (other side) s p state) ≡ stream_of side state
other_stream Client s p state = refl
other_stream Server s p state = refl

pub other_pair : (side : Side) (s : Stream) (p : Pair) (state : State) → pair_of side (state_with (other side) s p state) ≡ swap p
other_pair Client s p state = refl
other_pair Server s p state = refl

pub pair_of_other : (side : Side) (state : State) → pair_of (other side) state ≡ swap (pair_of side state)
pair_of_other Client state = refl
pair_of_other Server state = refl

-- ---- what it grows to

-- Of the stream there was more; behind its end there is no more.
pub record Later (s f : Stream) : Type 0 where
  pub framing : f.framing ≡ s.framing
  pub limit : f.limit ≡ s.limit
  pub more : List (List ℕ)
  pub pieces : f.pieces ≡ s.pieces ++ more
  pub none : is_some s.ended ≡ true → more ≡ []
  pub ended : is_some s.ended ≡ true → f.ended ≡ s.ended

pub same : (s : Stream) → Later s s
same s = record { framing = refl; limit = refl; more = []; pieces = sym (append-nil s.pieces); none = λ is. refl; ended = λ is. refl }

-- a field that doesn't count here
pub retaken : (s f : Stream) → Later (all_taken s) f → Later s f
retaken s f l = record { framing = l.framing; limit = l.limit; more = l.more; pieces = l.pieces; none = l.none; ended = l.ended }

no_end : (b : Bool) → b ≡ false → b ≡ true → ⊥
no_end true is isnt = cc
no_end false is isnt = cc

after_more : (s t f : Stream) → t.framing ≡ s.framing → t.limit ≡ s.limit → (more : List (List ℕ)) → t.pieces ≡ s.pieces ++ more → is_some s.ended ≡ false → Later t f → Later s f
after_more s t f framing limit more pieces unended l = record {
  framing = l.framing ∙ framing;
  limit = l.limit ∙ limit;
  more = more ++ l.more;
  pieces = l.pieces ∙ ap (λ ps. ps ++ l.more) pieces ∙ append_assoc s.pieces more l.more;
  none = λ is. absurd (no_end (is_some s.ended) unended is);
  ended = λ is. absurd (no_end (is_some s.ended) unended is);
}

pub fed_later : (bytes : List ℕ) (s f : Stream) → is_some s.ended ≡ false → Later (all_taken (fed bytes s)) f → Later s f
fed_later bytes s f unended l = after_more s (all_taken (fed bytes s)) f refl refl (bytes ∷ []) refl unended l

pub ended_later : (end : HowEnded) (s f : Stream) → is_some s.ended ≡ false → Later (all_taken (ended_stream end s)) f → Later s f
ended_later end s f unended l = after_more s (all_taken (ended_stream end s)) f refl refl [] (sym (append-nil s.pieces)) unended l

event_later : (s after f : Stream) → (is_some s.ended ≡ false → Later (all_taken after) f → Later s f) → Later (event_stream s after) f → Later s f
event_later s after f by l = from (is_some s.ended) refl l
  where
    from : (b : Bool) → is_some s.ended ≡ b → Later (if b then s else all_taken after) f → Later s f
    from true is later = later
    from false is later = by is later

own_later : (side : Side) (p : Pair) (state : State) (s : Stream) (f : Stream) → Later (stream_of side (state_with side s p state)) f → Later s f
own_later side p state s f l = subst (λ t. Later t f) (own_stream side s p state) l

others_later : (side : Side) (p : Pair) (state : State) (s : Stream) (f : Stream) → Later (stream_of side (state_with (other side) s p state)) f → Later (stream_of side state) f
others_later side p state s f l = subst (λ t. Later t f) (other_stream side s p state) l

step_by : (protocol : Protocol) (side another : Side) → IsSide side another → (state : State) (after f : Stream) (p : Pair) → (is_some (stream_of another state).ended ≡ false → Later (all_taken after) f → Later (stream_of another state) f)
    → Later (stream_of side (state_with another (event_stream (stream_of another state) after) p state)) f → Later (stream_of side state) f
step_by protocol side _ own state after f p by l = event_later (stream_of side state) after f by (own_later side p state (event_stream (stream_of side state) after) f l)
step_by protocol side _ others state after f p by l = others_later side p state (event_stream (stream_of (other side) state) after) f l

pub step_later : (protocol : Protocol) (side : Side) (one : Seen) (state : State) (f : Stream) → Later (stream_of side (step protocol one state)) f → Later (stream_of side state) f
step_later protocol side (Wrote another bytes) state f l = step_by protocol side another (which side another) state (fed bytes (stream_of another state)) f _ (fed_later bytes (stream_of another state) f) l
step_later protocol side (Closed another) state f l = step_by protocol side another (which side another) state (ended_stream how.Closed (stream_of another state)) f _ (ended_later how.Closed (stream_of another state) f) l
step_later protocol side (Failed another) state f l = step_by protocol side another (which side another) state (ended_stream how.ReadFailed (stream_of another state)) f _ (ended_later how.ReadFailed (stream_of another state) f) l

pub all_later : (protocol : Protocol) (side : Side) (seen : List Seen) (state : State) → Later (stream_of side state) (stream_of side (state_from protocol state seen))
all_later protocol side [] state = same (stream_of side state)
all_later protocol side (one ∷ seen) state = step_later protocol side one state (stream_of side (state_from protocol (step protocol one state) seen)) (all_later protocol side seen (step protocol one state))

-- ---- its contents

-- what holds of streams
abbrev pub Grow : Type 0
Grow =
    (framing : Framing) (limit : ℕ) (pieces more : List (List ℕ)) (ended : Option HowEnded) → (later : List (ℕ × Frame)) × (placed_contents_of framing limit (pieces ++ more) ended ≡ placed_contents_of framing limit pieces None ++ later)

-- of a stream that was seen further, the contents
pub record Grown (s f : Stream) : Type 0 where
  pub later : List (ℕ × Frame)
  pub is : placed_contents f ≡ placed_contents s ++ later

pub grown : Grow → (s f : Stream) → Later s f → Grown s f
grown grow s f l = from s.ended refl
  where
    all : placed_contents f ≡ placed_contents_of s.framing s.limit (s.pieces ++ l.more) f.ended
    all = λ i. placed_contents_of (l.framing i) (l.limit i) (l.pieces i) f.ended

    from : (o : Option HowEnded) → s.ended ≡ o → Grown s f
    from None is =
        let g = grow s.framing s.limit s.pieces l.more f.ended in
        record { later = g.0; is = all ∙ g.1 ∙ ap (λ e. placed_contents_of s.framing s.limit s.pieces e ++ g.0) (sym is) }
    from (Some end) is =
        let closed : is_some s.ended ≡ true = ap is_some is in
        record {
          later = [];
          is = all ∙ ap (λ more. placed_contents_of s.framing s.limit (s.pieces ++ more) f.ended) (l.none closed) ∙ ap (λ ps. placed_contents_of s.framing s.limit ps f.ended) (append-nil s.pieces)
              ∙ ap (λ e. placed_contents_of s.framing s.limit s.pieces e) (l.ended closed) ∙ sym (append-nil (placed_contents s));
        }

-- ---- how many were judged

pub dropped_front : {X : Type 0} (k : ℕ) (xs ys : List X) → k ≤ length xs → drop k (xs ++ ys) ≡ drop k xs ++ ys
dropped_front zero xs ys le = refl
dropped_front (suc k) [] ys le = absurd (let e : suc k ≤ 0 = le in omega (arith, e))
dropped_front (suc k) (x ∷ xs) ys le = dropped_front k xs ys (let e : suc k ≤ suc (length xs) = le in omega (arith, e))

-- behind its end there are no more
pub ended_contents : (s f : Stream) → Later s f → is_some s.ended ≡ true → placed_contents f ≡ placed_contents s
ended_contents s f l is =
    let pieces = l.pieces ∙ ap (λ more. s.pieces ++ more) (l.none is) ∙ append-nil s.pieces in
    (λ i. placed_contents_of (l.framing i) (l.limit i) (pieces i) (l.ended is i))

pub dropped_all : {X : Type 0} (xs ys : List X) → drop (length xs) (xs ++ ys) ≡ ys
dropped_all [] ys = refl
dropped_all (x ∷ xs) ys = dropped_all xs ys

longer_by : {X : Type 0} (xs ys : List X) → length xs ≤ length (xs ++ ys)
longer_by [] ys = omega arith
longer_by (x ∷ xs) ys = let le = longer_by xs ys in omega (arith, le)

-- no more contents were judged than there are
abbrev pub IsSteady : Stream → Type 0
IsSteady s = s.taken ≤ length (placed_contents s)

-- also of a stream that was seen further
pub steady_later : Grow → (s f : Stream) → Later s f → IsSteady s → s.taken ≤ length (placed_contents f)
steady_later grow s f l steady =
    let g = grown grow s f l in
    let more = longer_by (placed_contents s) g.later in
    subst (λ all. s.taken ≤ length all) (sym g.is) (omega (arith, steady, more))

pub all_taken_steady : (s : Stream) → IsSteady s → (all_taken s).taken ≡ length (placed_contents s)
all_taken_steady s steady = let le : s.taken ≤ length (placed_contents s) = steady in omega (arith, le)
