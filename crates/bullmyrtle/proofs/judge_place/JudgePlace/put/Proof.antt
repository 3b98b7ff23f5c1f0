-- `put` writes the handle's word into the room, and what the handle owns goes with it.
use Rattle.std.proofs.Common.{◌≡◌, List, [], ◌∷◌, refl, sym, None, Some, Option}
use Rattle.std.proofs.raw_atomic.Walks.{proved}
use base.Fraction.{full_share}
use base.Logic.{id⊢}
use base.Fml.{ftrue, fsep, feq}
use mir.Val.{Val, vptr, vstruct, vcons, vnil}
use prog.Wp.{WpFn}
use contract.Monad.{fact}
use contract.Running.{tables}
use types.Kit.{‵, raw, prop, ◌⊛◌, at_ret, ◌$◌, ◌∵◌, !, qed, done, move, keep, drop, use2, split, join, fsplit, fjoin, fpack, feq_i, rewrite, regoal, suffices}
use types.Run.{enter, of_opd, init, stop, fld, no_more, and_then, assigns_last, first, blocks, exec, returns}
use types.ByLocal.{alloc_all, pass_all, free_all, look_at, get, get_in, through, sets, env}
use types.Part.{agg, sub, whole}
use borrow.Table.OneValue.{part_in}
use denote.Builtin.{RawPtr}
use denote.Exit.{yes, rest}
use denote.Memory.{part_at}
use denote.RattleType.{Valss}
use denote.RawPtr.{Ptr, block_ptr, ptr_val, lies_at, room_at, in_a_block}
use denote.Signature.{plain}
use denote.Steps.{nothing, heard}
use denote.Struct.Struct.{within}
use denote.Struct.Owning.{shape}
use denote.Triple.Walked.{Stays, stay_dropped, walk_of, ends_at}
use Rattle.core.proofs.alloc.Calls.{Goes-blank}
use Rattle.core.proofs.mem.Facts.{says_two}
use Rattle.std.proofs.VecSteps.Shapes.{after}
use Rattle.bullmyrtle.specs.JudgeHeld.{Held}
use Rattle.bullmyrtle.specs.JudgePlaces.{held_at}
use Rattle.bullmyrtle.specs.declared.judge_handle.JudgeHandle.{JudgeHandle}
use Rattle.bullmyrtle.specs.contracts.judge_handle.JudgeHandle.{the_row as R}
use Rattle.bullmyrtle.proofs.judge_handle.JudgeHandle.TheLaws as handle
use Rattle.bullmyrtle.specs.declared.judge_place.JudgePlace.{JudgePlace}
use Rattle.bullmyrtle.specs.contracts.judge_place.JudgePlace.{the_row as P, the_type}
use Rattle.bullmyrtle.proofs.judge_place.JudgePlace.TheLaws as place
use Rattle.bullmyrtle.specs.contracts.judge_place.JudgePlace.put as f
use Rattle.bullmyrtle.proofs.judge_place.JudgePlace.put.Statement.{statement}
use Rattle.bullmyrtle.proofs.judge_place.JudgePlace.put.Code as code

abbrev stayed : Stays f.ended.signature.params f.ended.kept
stayed = (stay_dropped (plain (λ _. P)) yes, (stay_dropped (plain (λ _. R)) yes, tt))

pub put_spec : {M : Type 1} → statement M
put_spec 𝓤 𝓛 𝓜 𝓡 wired =
    let c = f.clauses 𝓛 𝓜.mem 𝓡.returns in let W = walk_of 𝓛 f.ended stayed c in let 𝓣 = tables 𝓤 𝓛.H 𝓜 𝓡 𝓡.env in
    proved 𝓛 f.ended stayed c 𝓜 𝓡 (Goes-blank 𝓛 0 (plain (λ _. P)) yes (λ κs x w. tt), (Goes-blank 𝓛 0 (plain (λ _. R)) yes (λ κs x w. tt), tt))
    f.Key.name code.function (code.unfolded 𝓤 𝓛.H 𝓜 𝓡 wired)
    (λ κs. (λ p. place.lowered p ∷ [], (λ h. handle.lowered h ∷ [], tt))) (λ κs. (place.lowers.val_is, (handle.lowers.val_is, tt))) (λ κs qs bounds a g are.
    let p = a.0 in let h = a.1.0 in let word = handle.lowered h in
    let y : W.Ghost = ((κs, qs, bounds, a, (place.lowered p ∷ [], (word ∷ [], tt))), tt) in
    let fits = ((handle.the_row_laws.lawful 𝓛).typed h (word ∷ []) are.1.0).0 in
    qed 𝓛 ((‵ ftrue ⊛ ‵ (P.own_val p (place.lowered p ∷ [])) ⊛ ‵ (R.own_val h (word ∷ [])) ⊛ ‵ ftrue) ∷ raw (fact 𝓤 (p.held ≡ None)) ∷ []) ∵
    split ! $ drop ! $ split ! $ move ! (1 ∷ []) $ split ! $ move ! (3 ∷ []) $ heard ! (p.held ≡ None) (λ empty.
    move ! (2 ∷ []) $ fsplit ! $ drop ! $ rewrite ! 0 (λ (v : Option Held). ‵ (held_at p.at v)) empty refl $
    in_a_block ! p.at (λ q. room_at R q) (id⊢ 𝓤 _) (λ b o e.
    regoal ! (λ (q : Ptr). prop (WpFn 𝓤 𝓛.H 𝓣.C 𝓣.Λ code.function (vstruct (vcons (ptr_val q) vnil) ∷ word ∷ []) (W.post y))) e refl $
    -- [the room; the handle; nothing]
    enter ! _ _ _ _ _ $ alloc_all ! (λ l. pass_all ! refl ((tt, (tt, tt)), (fits, tt)) $
    sets ! (of_opd ! (get_in ! (fld ! refl (stop !)) (sub ! 0 refl (whole !)))) refl (tt, tt) $
    first ! $ blocks ! $ sets ! (of_opd ! (get ! refl)) refl fits $
    assigns_last ! (of_opd ! (get ! refl)) (through ! refl (stop !)) (init ! 0 refl fits) $
    exec ! 𝓣.C 𝓣.Λ (env code.Mir.locals l) (after 2 (code.function).body) (at_ret _ (W.post y)) $
    sets ! (agg ! (and_then ! (get ! refl) (no_more !))) refl (tt, (tt, tt)) $
    returns ! (look_at ! 0 refl) $ free_all ! refl $
    -- [the handle's cell; what it owns; nothing]
    use2 𝓛 (‵ (part_at R full_share h b o)) (part_in 𝓛 R refl full_share h b o word) $
    feq_i ! Held h.value h.value refl $ fjoin ! $ fpack ! JudgeHandle (λ k. fsep (feq Held k.value h.value) (lies_at R full_share (block_ptr b o) k)) h $
    let made : JudgePlace = record { at = block_ptr b o; held = Some h.value } in let out : Val = vstruct (vcons (vptr b o) vnil) in
    nothing ! $ feq_i ! (List Val) (vptr b o ∷ []) (vptr b o ∷ []) refl $ fjoin ! $ feq_i ! (List Val) (out ∷ []) (out ∷ []) refl $ fjoin ! $
    fpack ! (Valss (RawPtr ∷ [])) (within (shape the_type) (block_ptr b o, tt) (out ∷ [])) (vptr b o ∷ [], tt) $ fjoin ! $
    suffices ! _ (ends_at 𝓛 f.ended stayed c y out made (rest (P.exit yes) p, (rest (R.exit yes) h, tt)) (tt, (tt, tt))) $ says_two ! (sym e, refl) $
    nothing ! $ nothing ! $ fjoin ! $ nothing ! $ fjoin ! $ join ! $ nothing ! $ join ! $ keep ! (0 ∷ []) $ done !))))
