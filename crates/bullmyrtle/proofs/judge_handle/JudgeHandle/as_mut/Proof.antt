-- `as_mut` lends the value behind the pointer, and the handle follows it.
use Rattle.std.proofs.Common.{◌≡◌, ℕ, List, [], ◌∷◌, refl, ap, ◌∙◌, sym}
use Rattle.std.proofs.raw_atomic.Walks.{proved}
use base.Fraction.{full_share}
use base.Logic.{ent, sep, id⊢, fst∗, never}
use base.Fml.{Fml, GName, ftrue, fsep, flft}
use seplogic.Ra.Ura.{Ura}
use mir.Syntax.{named}
use mir.Raw.{raw as bare}
use mir.Val.{Val, vptr}
use contract.Running.{tables}
use types.Logic.{Logic, sem}
use types.Kit.{‵, raw, ◌⊛◌, some, later, at_ret, ◌$◌, ◌∵◌, !, qed, done, move, keep, use1, split, split3, join, fsplit, fsplit3, fjoin, fpack, pick, await, rewrite, suffices, frame, group}
use types.Part.{whole, sub, look_in}
use types.Run.{enter, of_opd, addr, load, stop, fld, first, blocks, exec, returns}
use types.ByLocal.{alloc_all, pass_all, free_all, look_at, get, through, sets, sets_last, env}
use denote.Exit.{no}
use denote.Laws.{shows}
use denote.Memory.{cell_at, lone, mem, part_at, part_of}
use denote.RawPtr.{Ptr, block_ptr, null_ptr, in_a_block}
use denote.Ref.{MutBor, MutRef, mut_vals, mut_Tells}
use denote.Signature.{plain, mut_ref_to}
use denote.Steps.{nothing, opens, peeks}
use denote.Follow.{follows, Part, lends_Part}
use denote.Struct.Struct.{Struct}
use denote.Struct.Owning.{shape, to}
use denote.Triple.Walked.{Stays, walk_of, says, stay_dropped, Goes-spent_ref, ends_at}
use Rattle.std.proofs.VecSteps.Shapes.{after}
use Rattle.std_alloc.specs.Box.Ownership.{box_owns}
use Rattle.bullmyrtle.specs.Heap.{frees}
use Rattle.bullmyrtle.specs.JudgeHeld.{Held}
use Rattle.bullmyrtle.specs.JudgeHeld.{held_row as C}
use Rattle.bullmyrtle.specs.declared.judge_handle.JudgeHandle.{JudgeHandle}
use Rattle.bullmyrtle.specs.JudgeLending.{with_value}
use Rattle.bullmyrtle.specs.contracts.judge_handle.JudgeHandle.{the_row as R, the_type}
use Rattle.bullmyrtle.specs.contracts.judge_handle.JudgeHandle.as_mut as f
use Rattle.bullmyrtle.proofs.judge_handle.JudgeHandle.TheLaws.{lowers}
use Rattle.bullmyrtle.proofs.judge_handle.JudgeHandle.as_mut.Statement.{statement}
use Rattle.bullmyrtle.proofs.judge_handle.JudgeHandle.as_mut.Code as code

abbrev stayed : Stays f.ended.signature.params f.ended.kept
stayed = (stay_dropped (mut_ref_to (0 ∷ []) tt (plain (λ _. R))) no, tt)

-- the word that holds the pointer (b, o)
abbrev word : JudgeHandle → ℕ → ℕ → List Val
word h b o = lowers.lowered (record h { at = block_ptr b o }) ∷ []

-- what the fields own
abbrev Fields : JudgeHandle → List Val → Fml
Fields h = (Struct (shape the_type)).own_val (to the_type h)

-- all of the handle but its value
abbrev Rest : JudgeHandle → ℕ → ℕ → ℕ → ℕ → Fml
Rest h b o rb ro = fsep (fsep (frees h.alloc (bare (lone C.mir)) (block_ptr b o)) (Fields h (word h b o))) (cell_at full_share R.mir (word h b o) rb ro)

module _ {M : Type 1} {𝓤 : Ura M} (𝓛 : Logic 𝓤) (h : JudgeHandle) (b o rb ro : ℕ) (e : h.at ≡ block_ptr b o) where
  pub back : (w : Held) → ent 𝓤 (sep 𝓤 (sem 𝓛 ((mem C).own_at w b o)) (sem 𝓛 (Rest h b o rb ro))) (sem 𝓛 ((mem R).own_at (with_value h w) rb ro))
  unfolding part_of
  back w =
      qed 𝓛 (‵ (part_at C full_share w b o) ∷ ‵ (Rest h b o rb ro) ∷ []) ∵ move ! (1 ∷ []) $ fsplit ! $ fsplit ! $
      -- [the token; the fields; the cell; the value]
      move ! (3 ∷ 0 ∷ []) $ fjoin ! $ rewrite ! 0 (λ (p : Ptr). ‵ (box_owns (frees h.alloc) C p w)) (sym e) refl $
      move ! (1 ∷ 0 ∷ []) $ fjoin ! $ move ! (1 ∷ 0 ∷ []) $ fjoin ! $
      fpack ! (List Val) (λ us. fsep (cell_at full_share R.mir us rb ro) (R.own_val (with_value h w) us)) (word h b o) $ done !

pub as_mut_spec : {M : Type 1} → statement M
as_mut_spec 𝓤 𝓛 𝓜 𝓡 wired =
    let c = f.clauses 𝓛 𝓜.mem 𝓡.returns in let W = walk_of 𝓛 f.ended stayed c in let 𝓣 = tables 𝓤 𝓛.H 𝓜 𝓡 𝓡.env in
    proved 𝓛 f.ended stayed c 𝓜 𝓡 (Goes-spent_ref 𝓛 1 (0 ∷ []) tt (plain (λ _. R)), tt)
    f.Key.name code.function (code.unfolded 𝓤 𝓛.H 𝓜 𝓡 wired)
    (λ κs. (mut_vals, tt)) (λ κs. (mut_Tells (named 0) κs.0 R, tt)) (λ κs qs bounds a _ are.
    let κ = κs.0 in let q = qs.0 in let rb = a.0.ref_ptr.0 in let ro = a.0.ref_ptr.1 in let γ = a.0.ghost_name in let h = a.0.now in let vs = mut_vals a.0 in
    let y : W.Ghost = ((κs, qs, bounds, a, (vs, tt)), tt) in
    qed 𝓛 (((‵ (flft κ q) ⊛ ‵ ftrue) ⊛ ‵ ((MutRef (named 0) κ R).own_val a.0 vs) ⊛ ‵ ftrue) ∷ ‵ ftrue ∷ []) ∵
    split ! $ split ! $ move ! (2 ∷ []) $ split ! $ keep ! (0 ∷ 2 ∷ []) $
    enter ! _ _ _ _ _ $ alloc_all ! (λ l. pass_all ! refl ((tt, tt), tt) $
    fsplit3 ! $ move ! (1 ∷ 2 ∷ 3 ∷ []) $ opens ! tt R rb ro (λ us.
    move ! (1 ∷ []) $ peeks ! R _ (shows 𝓛 R) h us (λ is. fsplit ! $ move ! (1 ∷ []) $
    in_a_block ! h.at (λ p. box_owns (frees h.alloc) C p h.value) (fst∗ 𝓤 (never 𝓤) (sem 𝓛 (frees h.alloc (bare (lone C.mir)) null_ptr))) (λ b o e. fsplit ! $
    -- [the value; the token; the fields; the cell; the open borrow, in three entries]
    let at_word : us ≡ word h b o = lowers.val_is h us is ∙ ap (λ (p : Ptr). lowers.lowered (record h { at = p }) ∷ []) e in
    rewrite ! 2 (λ (ws : List Val). ‵ (Fields h ws)) at_word refl $ rewrite ! 3 (λ (ws : List Val). ‵ (cell_at full_share R.mir ws rb ro)) at_word refl $
    first ! $ blocks ! $
    sets ! (of_opd ! (load ! (through ! refl (fld ! refl (stop !))) (look_in ! 3 (sub ! 0 refl (whole !))))) refl (tt, tt) $
    sets_last ! (addr ! (through ! refl (stop !))) refl (tt, tt) $
    exec ! 𝓣.C 𝓣.Λ (env code.Mir.locals l) (after 1 (code.function).body) (at_ret _ (W.post y)) $
    sets ! (of_opd ! (get ! refl)) refl (tt, tt) $
    move ! (1 ∷ 2 ∷ []) $ fjoin ! $ move ! (0 ∷ 2 ∷ []) $ fjoin ! $ move ! (2 ∷ 3 ∷ 4 ∷ 1 ∷ 0 ∷ []) $ group ! 5 $
    let F = with_value h in let rest = sem 𝓛 (Rest h b o rb ro) in let lent = back 𝓛 h b o rb ro e in
    use1 𝓛 (later (some (λ (γ' : GName). raw (Part 𝓛 R C F (named 0) κ q rb ro b o γ rest lent h.value γ'))))
    (lends_Part 𝓛 R C F (named 0) κ q rb ro b o γ rest lent (R.coded.code h) (R.coded.code h) h.value) $ await ! tt $ pick ! (λ γ'.
    returns ! (look_at ! 0 refl) $ free_all ! refl $ keep ! (0 ∷ []) $
    let r : MutBor Held = record { ref_ptr = (b, o); ghost_name = γ'; now = h.value } in
    use1 𝓛 (‵ ((MutRef (named 0) κ C).own_val r (vptr b o ∷ [])) ⊛ ‵ (flft κ q) ⊛ ‵ (follows R C γ γ' F)) (id⊢ 𝓤 _) $ split3 ! $
    suffices ! _ (ends_at 𝓛 f.ended stayed c y (vptr b o) r (tt, tt) (tt, tt)) $
    nothing ! $ nothing ! $ fjoin ! $ join ! $ nothing ! $ move ! (2 ∷ 0 ∷ []) $ join ! $ join ! $ frame ! $ says ! refl $ done !))))))
