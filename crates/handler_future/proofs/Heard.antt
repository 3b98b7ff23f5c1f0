-- Replies that were heard or listed, one list after another.
use Rattle.std.proofs.Common.{◌≡◌, ◌≢◌, ℕ, true, false, [], ◌∷◌, ◌++◌, Some, None, refl, arith}
use Rattle.std.proofs.lemmas.Grind.{common_steps}
use Rattle.rpc_messages.specs.declared.reply.Reply.{Reply}
use Rattle.handler_future.specs.Front.{Heard, find_heard, is_heard}

pub find_heard-append_some : (es fs : Heard) (t : ℕ) → is_heard es t ≡ true → find_heard (es ++ fs) t ≡ find_heard es t
find_heard-append_some [] fs t heard = grind (arith, heard)
find_heard-append_some (e ∷ es) fs t heard = grind (arith, common_steps, heard, find_heard-append_some es fs t)

pub find_heard-append_none : (es fs : Heard) (t : ℕ) → is_heard es t ≡ false → find_heard (es ++ fs) t ≡ find_heard fs t
find_heard-append_none [] fs t unheard = refl
find_heard-append_none (e ∷ es) fs t unheard = grind (arith, common_steps, unheard, find_heard-append_none es fs t)

pub find_heard-one : (t u : ℕ) (r : Reply) → t ≢ u → find_heard ((t, r) ∷ []) u ≡ None
find_heard-one t u r apart = grind (arith, common_steps, apart)

pub find_heard-here : (t : ℕ) (r : Reply) → find_heard ((t, r) ∷ []) t ≡ Some r
find_heard-here t r = grind (arith, common_steps)

-- ---- one more

pub push_found : (es : Heard) (e : ℕ × Reply) (t : ℕ) (r : Reply) → find_heard es t ≡ Some r → find_heard (es ++ e ∷ []) t ≡ Some r
push_found [] e t r found = grind (arith, found)
push_found (f ∷ es) e t r found = grind (arith, push_found es e t r)

pub push_same : (es : Heard) (e : ℕ × Reply) (t : ℕ) → e.0 ≡ t → find_heard es t ≡ None → find_heard (es ++ e ∷ []) t ≡ Some e.1
push_same [] e t same none = grind arith
push_same (f ∷ es) e t same none = grind (arith, push_same es e t same)

pub push_other : (es : Heard) (e : ℕ × Reply) (t : ℕ) → e.0 ≢ t → find_heard (es ++ e ∷ []) t ≡ find_heard es t
push_other [] e t apart = grind arith
push_other (f ∷ es) e t apart = grind (arith, push_other es e t apart)
