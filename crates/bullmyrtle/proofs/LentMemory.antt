-- A handle lends what `LendsAll` says.
use Rattle.std.proofs.Common.{◌≡◌, ◌∙◌, ap, refl, subst, arith, ℕ, ◌+◌, ◌-◌, ◌<◌, ◌≤◌, List, [], ◌∷◌, ◌++◌, length, take, drop, append-nil}
use Rattle.std.proofs.lemmas.List.{take-append-drop, length-take-le, length-drop}
use mathlib.Core.Bool.{Bool, true, false, not}
use lib.Dec.{T, eqb, eqb→eq}
use seplogic.Ra.Ura.{Ura}
use base.Fraction.{full_share}
use base.Logic.{ent, sep, wand, via, comm∗, assoc∗, assoc', mono_l, mono_r, wand_i, apply∗, ex_i, ex_e, never_e, id⊢, emp, emp∗, snd∗}
use base.Fml.{Fml, fsep, fex, feq}
use mir.Val.{Val}
use types.Logic.{Logic, sem}
use types.Kit.{‵, ◌$◌, ◌∵◌, !, qed, done, fjoin, feq_i}
use denote.Array.{Array}
use denote.Builtin.{u8}
use denote.Memory.{part_of, part_at}
use denote.RattleType.{RattleType}
use denote.RawPtr.{Ptr, block_ptr, null_ptr, lies_at, in_block, ◌+ₚ◌}
use denote.RawPtr.Bytes.{bytes, bytes_cut, bytes_glue, bytes_apart, bytes_whole}
use Rattle.std.specs.contracts.alloc.Global.{the_row as Z}
use Rattle.std.specs.contracts.impls.GlobalAllocator.TheImpl.{ghosts}
use Rattle.std_alloc.specs.contracts.vec.Vec as vec
use Rattle.std_alloc.specs.Vec.Ownership.{owns_if, has_block}
use Rattle.host_calls.specs.declared.event.EventTexts.{EventTexts}
use Rattle.host_calls.specs.contracts.event.EventTexts.{the_row as X}
use Rattle.host_calls.specs.contracts.hosted.HostedConnection.{the_row as C}
use Rattle.bullmyrtle.specs.Held.{Held}
use Rattle.bullmyrtle.specs.Loans.{Holds, LendsAll}
use Rattle.bullmyrtle.specs.declared.handle.Handle.{Handle}
use Rattle.bullmyrtle.specs.contracts.handle.Handle.{the_row as R}

first : (P Q : Fml) → Holds (fsep P Q) P
first P Q = record { go = λ M 𝓤 𝓛. let p = sem 𝓛 P in let q = sem 𝓛 Q in mono_r 𝓤 p (wand_i 𝓤 q p (sep 𝓤 p q) (comm∗ 𝓤 q p)) }

second : (P Q : Fml) → Holds (fsep P Q) Q
second P Q = record { go = λ M 𝓤 𝓛. let p = sem 𝓛 P in let q = sem 𝓛 Q in via 𝓤 (sep 𝓤 q p) (comm∗ 𝓤 p q) (mono_r 𝓤 q (wand_i 𝓤 p q (sep 𝓤 p q) (id⊢ 𝓤 (sep 𝓤 p q)))) }

none : (Q : Fml) → Holds base.Fml.ffalse Q
none Q = record { go = λ M 𝓤 𝓛. never_e 𝓤 _ }

some : (X : Type 0) (F : X → Fml) (Q : Fml) → ((x : X) → Holds (F x) Q) → Holds (fex X F) Q
some X F Q h = record {
  go = λ M 𝓤 𝓛. let q = sem 𝓛 Q in ex_e 𝓤 (λ (x : X). sem 𝓛 (F x)) (λ x. via 𝓤 (sep 𝓤 q (wand 𝓤 q (sem 𝓛 (F x)))) ((h x).go M 𝓤 𝓛) (mono_r 𝓤 q
      (wand_i 𝓤 (wand 𝓤 q (sem 𝓛 (F x))) q (sem 𝓛 (fex X F)) (via 𝓤 (sep 𝓤 q (wand 𝓤 q (sem 𝓛 (F x)))) (comm∗ 𝓤 (wand 𝓤 q (sem 𝓛 (F x))) q) (via 𝓤 (sem 𝓛 (F x)) (apply∗ 𝓤 q (sem 𝓛 (F x))) (ex_i 𝓤 (λ (y : X). sem 𝓛 (F y)) x))))));
}

then : (P Q S : Fml) → Holds P Q → Holds Q S → Holds P S
then P Q S h k = record {
  go = λ M 𝓤 𝓛. let p = sem 𝓛 P in let q = sem 𝓛 Q in let s = sem 𝓛 S in
      via 𝓤 (sep 𝓤 q (wand 𝓤 q p)) (h.go M 𝓤 𝓛) (via 𝓤 (sep 𝓤 (sep 𝓤 s (wand 𝓤 s q)) (wand 𝓤 q p)) (mono_l 𝓤 (wand 𝓤 q p) (k.go M 𝓤 𝓛)) (via 𝓤 (sep 𝓤 s (sep 𝓤 (wand 𝓤 s q) (wand 𝓤 q p))) (assoc∗ 𝓤 s (wand 𝓤 s q) (wand 𝓤 q p))
      (mono_r 𝓤 s (wand_i 𝓤 (sep 𝓤 (wand 𝓤 s q) (wand 𝓤 q p)) s p (via 𝓤 (sep 𝓤 s (sep 𝓤 (wand 𝓤 s q) (wand 𝓤 q p))) (comm∗ 𝓤 (sep 𝓤 (wand 𝓤 s q) (wand 𝓤 q p)) s)
      (via 𝓤 (sep 𝓤 (sep 𝓤 s (wand 𝓤 s q)) (wand 𝓤 q p)) (assoc' 𝓤 s (wand 𝓤 s q) (wand 𝓤 q p)) (via 𝓤 (sep 𝓤 q (wand 𝓤 q p)) (mono_l 𝓤 (wand 𝓤 q p) (apply∗ 𝓤 s q)) (apply∗ 𝓤 q p))))))));
}

abbrev V : RattleType
V = vec.the_row u8 Z ghosts

-- the bytes of a Vec
abbrev pub bytes_of : V.Denot → Fml
bytes_of d = lies_at (Array u8 d.len) full_share d.ptr d.items

in_its_block : (y : Bool) → T y → (rest Q : Fml) (p : Ptr) → Holds (in_block p (owns_if y (fsep Q rest))) Q
in_its_block true has rest Q (block_ptr b o) = first Q rest
in_its_block true has rest Q null_ptr = none Q
in_its_block false has rest Q p = absurd has

pub vec_holds : (d : V.Denot) (vs : List Val) → T (has_block d.cap) → Holds (V.own_val d vs) (bytes_of d)
vec_holds d vs has = then _ _ _ (second _ _) (then _ _ _ (second _ _) (in_its_block (has_block d.cap) has _ (bytes_of d) d.ptr))

-- what a handle's value has in it, the handle has
module _ (v : Held) (Q : Fml) (inside : (vs : List Val) → Holds (C.own_val v vs) Q) where
  at_its_place : (p : Ptr) → Holds (lies_at C full_share p v) Q
  unfolding part_of
  at_its_place (block_ptr b o) = some _ _ _ (λ vs. then _ _ _ (second _ _) (inside vs))
  at_its_place null_ptr = none _

handle_holds : (h : Handle) (ws : List Val) (Q : Fml) → ((vs : List Val) → Holds (C.own_val h.value vs) Q) → Holds (R.own_val h ws) Q
handle_holds h ws Q inside = then _ _ _ (second _ _) (then _ _ _ (first _ _) (at_its_place h.value Q inside h.at))

-- two ways to say the same
like : (P Q : Fml) → ((M : Type 1) (𝓤 : Ura M) (𝓛 : Logic 𝓤) → ent 𝓤 (sem 𝓛 P) (sem 𝓛 Q)) → ((M : Type 1) (𝓤 : Ura M) (𝓛 : Logic 𝓤) → ent 𝓤 (sem 𝓛 Q) (sem 𝓛 P)) → Holds P Q
like P Q to back = record {
  go = λ M 𝓤 𝓛. let p = sem 𝓛 P in let q = sem 𝓛 Q in via 𝓤 q (to M 𝓤 𝓛) (via 𝓤 (sep 𝓤 (emp 𝓤) q) (emp∗ 𝓤 q) (via 𝓤 (sep 𝓤 q (emp 𝓤)) (comm∗ 𝓤 (emp 𝓤) q)
      (mono_r 𝓤 q (wand_i 𝓤 (emp 𝓤) q p (via 𝓤 q (snd∗ 𝓤 (emp 𝓤) q) (back M 𝓤 𝓛))))));
}

-- of xs, ys and zs side by side, ys
middle : (xs ys zs : List ℕ) (b o : ℕ) → Holds (bytes full_share (xs ++ (ys ++ zs)) b o) (bytes full_share ys b (o + length xs))
middle xs ys zs b o = then _ _ _ (like _ (fsep (bytes full_share xs b o) (bytes full_share (ys ++ zs) b (o + length xs))) (λ M 𝓤 𝓛. bytes_cut 𝓛 full_share xs (ys ++ zs) b o) (λ M 𝓤 𝓛. bytes_glue 𝓛 full_share xs (ys ++ zs) b o))
    (then _ _ _ (second _ _) (then _ _ _ (like _ (fsep (bytes full_share ys b (o + length xs)) (bytes full_share zs b (o + length xs + length ys))) (λ M 𝓤 𝓛. bytes_cut 𝓛 full_share ys zs b (o + length xs)) (λ M 𝓤 𝓛. bytes_glue 𝓛 full_share ys zs b (o + length xs))) (first _ _)))

-- so many bytes in memory, and their count
counted : (n : ℕ) (xs : List ℕ) (b o : ℕ) → Holds (part_at (Array u8 n) full_share xs b o) (fsep (feq ℕ (length xs) n) (bytes full_share xs b o))
counted n xs b o = like _ _ (λ M 𝓤 𝓛. bytes_apart 𝓛 full_share n xs b o) (λ M 𝓤 𝓛. bytes_whole 𝓛 full_share n xs b o)

uncounted : (ys : List ℕ) (b o : ℕ) → Holds (bytes full_share ys b o) (part_at (Array u8 (length ys)) full_share ys b o)
uncounted ys b o = like _ _ (λ M 𝓤 𝓛. via 𝓤 (sem 𝓛 (fsep (feq ℕ (length ys) (length ys)) (bytes full_share ys b o))) (qed 𝓛 (‵ (bytes full_share ys b o) ∷ []) ∵ feq_i ! ℕ (length ys) (length ys) refl $ fjoin ! $ done !) (bytes_whole 𝓛 full_share (length ys) ys b o))
    (λ M 𝓤 𝓛. via 𝓤 (sem 𝓛 (fsep (feq ℕ (length ys) (length ys)) (bytes full_share ys b o))) (bytes_apart 𝓛 full_share (length ys) ys b o) (snd∗ 𝓤 (sem 𝓛 (feq ℕ (length ys) (length ys))) (sem 𝓛 (bytes full_share ys b o))))

part_holds : (n : ℕ) (xs ys zs items : List ℕ) → xs ++ (ys ++ zs) ≡ items → (p : Ptr) → Holds (lies_at (Array u8 n) full_share p items) (lies_at (Array u8 (length ys)) full_share (p +ₚ length xs) ys)
part_holds n xs ys zs items e (block_ptr b o) = then _ _ _ (counted n items b o) (then _ _ _ (second _ _)
    (subst (λ (is : List ℕ). Holds (bytes full_share is b o) (part_at (Array u8 (length ys)) full_share ys b (o + length xs))) e (then _ _ _ (middle xs ys zs b o) (uncounted ys b (o + length xs)))))
part_holds n xs ys zs items e null_ptr = none _

unless : (c : ℕ) → 0 < c → (y : Bool) → (T y → c ≡ 0) → T (not y)
unless c lt true zero_so = let e : c ≡ 0 = zero_so tt in absurd (omega arith)
unless c lt false zero_so = tt

-- a Vec with bytes has a block
has_its_block : (d : V.Denot) → 0 < length d.items → T (has_block d.cap)
has_its_block d some =
    let count : d.len ≡ length d.items = d.ok.0 in let room : d.len ≤ d.cap = d.ok.1 in
    unless d.cap (omega arith) (eqb d.cap 0) (eqb→eq d.cap 0)

-- all bytes of a Vec
all_holds : (d : V.Denot) → Holds (bytes_of d) (lies_at (Array u8 (length d.items)) full_share d.ptr d.items)
all_holds d = subst (λ (n : ℕ). Holds (bytes_of d) (lies_at (Array u8 n) full_share d.ptr d.items)) d.ok.0 (like _ _ (λ M 𝓤 𝓛. id⊢ 𝓤 _) (λ M 𝓤 𝓛. id⊢ 𝓤 _))

-- those from a place on, where there are any
rest_holds : (d : V.Denot) (from : ℕ) → 0 < length (drop from d.items) → Holds (bytes_of d) (lies_at (Array u8 (length (drop from d.items))) full_share (d.ptr +ₚ from) (drop from d.items))
rest_holds d from some =
    let is = d.items in let xs = take from is in let ys = drop from is in
    let behind : length ys ≡ length is - from = length-drop from is in
    let front : length xs ≡ from = length-take-le from is (omega arith) in
    let whole : xs ++ (ys ++ []) ≡ is = ap (λ (us : List ℕ). xs ++ us) (append-nil ys) ∙ take-append-drop from is in
    subst (λ (k : ℕ). Holds (bytes_of d) (lies_at (Array u8 (length ys)) full_share (d.ptr +ₚ k) ys)) front (part_holds d.len xs ys [] is whole d.ptr)

rest_is_some : (from : ℕ) (is : List ℕ) → 0 < length (drop from is) → 0 < length is
rest_is_some from is some = let behind : length (drop from is) ≡ length is - from = length-drop from is in omega arith

-- the three texts in theirs, and all four in the handle
name_in : (t : EventTexts) (vs : List Val) → 0 < length t.name.items → Holds (X.own_val t vs) (bytes_of t.name)
name_in t vs s = some _ _ _ (λ vss. then _ _ _ (second _ _) (then _ _ _ (first _ _) (vec_holds t.name vss.0 (has_its_block t.name s))))

text_in : (t : EventTexts) (vs : List Val) → 0 < length t.text.items → Holds (X.own_val t vs) (bytes_of t.text)
text_in t vs s = some _ _ _ (λ vss. then _ _ _ (second _ _) (then _ _ _ (second _ _) (then _ _ _ (first _ _) (vec_holds t.text vss.1.0 (has_its_block t.text s)))))

id_in : (t : EventTexts) (vs : List Val) → 0 < length t.id.items → Holds (X.own_val t vs) (bytes_of t.id)
id_in t vs s = some _ _ _ (λ vss. then _ _ _ (second _ _) (then _ _ _ (second _ _) (then _ _ _ (second _ _) (then _ _ _ (first _ _) (vec_holds t.id vss.1.1.0 (has_its_block t.id s))))))

texts_in_handle : (h : Handle) (ws : List Val) (Q : Fml) → ((vs : List Val) → Holds (X.own_val h.value.texts vs) Q) → Holds (R.own_val h ws) Q
texts_in_handle h ws Q inside = handle_holds h ws Q (λ vs. some _ _ _ (λ vss. then _ _ _ (second _ _) (then _ _ _ (second _ _) (then _ _ _ (first _ _) (inside vss.1.0)))))

output_in_handle : (h : Handle) (ws : List Val) → 0 < length h.value.output.items → Holds (R.own_val h ws) (bytes_of h.value.output)
output_in_handle h ws s = handle_holds h ws _ (λ vs. some _ _ _ (λ vss. then _ _ _ (second _ _) (then _ _ _ (second _ _) (then _ _ _ (second _ _) (then _ _ _ (first _ _) (vec_holds h.value.output vss.1.1.0 (has_its_block h.value.output s)))))))

pub lends_all : (h : Handle) → LendsAll h
lends_all h = let texts = h.value.texts in record {
  name = λ s ws. then _ _ _ (texts_in_handle h ws _ (λ vs. name_in texts vs s)) (all_holds texts.name);
  text = λ s ws. then _ _ _ (texts_in_handle h ws _ (λ vs. text_in texts vs s)) (all_holds texts.text);
  id = λ s ws. then _ _ _ (texts_in_handle h ws _ (λ vs. id_in texts vs s)) (all_holds texts.id);
  output = λ s ws. then _ _ _ (output_in_handle h ws (rest_is_some h.value.gone h.value.output.items s)) (rest_holds h.value.output h.value.gone s);
}
