-- The values of replies, kept one after the other.
use Rattle.std.proofs.Common.{◌≡◌, ℕ, suc, ◌+◌, ◌-◌, ◌<◌, List, [], ◌∷◌, ◌++◌, Result, Ok, Err, refl, ap, ◌∙◌, arith}
use Rattle.serde_json.specs.Data.{Data, array, Items, no_items, item}
use Rattle.serde_json.specs.View.{items_of}
use Rattle.rpc_messages.specs.declared.reply.Reply.{Reply}
use Rattle.method_templates.specs.declared.step.OnError.{OnError}
use Rattle.handler_future.specs.Evaluation.{Replies, replies_from}
use Rattle.handler_future.specs.ReplyValues.{kept_reply, kept_items, kept_array, kept_first}
use Rattle.handler_future.specs.Results.{and_then}

-- these values, and then those items
abbrev pub before : List Data → Items → Items
before [] ds = ds
before (d ∷ ds) es = item d (before ds es)

abbrev pub beside : List Data → Result Items Reply → Result Items Reply
beside ds (Ok es) = Ok (before ds es)
beside ds (Err r) = Err r

pub record KeptBefore (on_error : OnError) (all : List Reply) (ds : List Data) (rest : List Reply) : Type 0 where
  pub kept : kept_items on_error all ≡ beside ds (kept_items on_error rest)

before-more : (ds : List Data) (d : Data) (es : Items) → before ds (item d es) ≡ before (ds ++ d ∷ []) es
before-more [] d es = refl
before-more (e ∷ ds) d es = ap (item e) (before-more ds d es)

before-none : (ds : List Data) → before ds no_items ≡ items_of ds
before-none [] = refl
before-none (d ∷ ds) = ap (item d) (before-none ds)

beside-more : (ds : List Data) (d : Data) (r : Result Items Reply) → beside ds (and_then r (λ es. Ok (item d es))) ≡ beside (ds ++ d ∷ []) r
beside-more ds d (Ok es) = ap Ok (before-more ds d es)
beside-more ds d (Err r) = refl

beside-none : (r : Result Items Reply) → r ≡ beside [] r
beside-none (Ok es) = refl
beside-none (Err r) = refl

pub kept_none : (on_error : OnError) (all : List Reply) → KeptBefore on_error all [] all
kept_none on_error all = record { kept = beside-none (kept_items on_error all) }

pub kept_more : (on_error : OnError) (all : List Reply) (ds : List Data) (r : Reply) (rest : List Reply) (d : Data) → KeptBefore on_error all ds (r ∷ rest)
    → kept_reply on_error r ≡ Ok d → KeptBefore on_error all (ds ++ d ∷ []) rest
kept_more on_error all ds r rest d h made =
    record { kept = h.kept ∙ ap (λ x. beside ds (and_then x (λ e. and_then (kept_items on_error rest) (λ es. Ok (item e es))))) made ∙ beside-more ds d (kept_items on_error rest) }

pub kept_error : (on_error : OnError) (all : List Reply) (ds : List Data) (r : Reply) (rest : List Reply) (e : Reply) → KeptBefore on_error all ds (r ∷ rest)
    → kept_reply on_error r ≡ Err e → kept_array on_error all ≡ Err e
kept_error on_error all ds r rest e h made =
    ap (λ x. and_then x (λ es. Ok (array es))) (h.kept ∙ ap (λ x. beside ds (and_then x (λ d. and_then (kept_items on_error rest) (λ es. Ok (item d es))))) made)

pub kept_all : (on_error : OnError) (all : List Reply) (ds : List Data) → KeptBefore on_error all ds [] → kept_array on_error all ≡ Ok (array (items_of ds))
kept_all on_error all ds h = ap (λ x. and_then x (λ es. Ok (array es))) (h.kept ∙ ap Ok (before-none ds))

-- ---- rows of replies

pub replies-first : (R : Replies) (a b : ℕ) → a < b → replies_from R a (b - a) ≡ R a ∷ replies_from R (a + 1) (b - (a + 1))
replies-first R a b below = let e : b - a ≡ suc (b - (a + 1)) = omega arith in rw e refl

pub kept_first-some : (on_error : OnError) (R : Replies) (t k : ℕ) → 0 < k → kept_first on_error (replies_from R t k) ≡ kept_reply on_error (R t)
kept_first-some on_error R t k some = let e : k ≡ suc (k - 1) = omega arith in rw e refl
