-- `bm_judge_open` lends the host's room to `made`, and hands back what lies there.
use Rattle.std.proofs.Common.{◌≡◌, ℤ, List, [], ◌∷◌, refl, ap, None}
use Rattle.std.proofs.raw_atomic.Walks.{proved}
use base.Logic.{id⊢, emp}
use base.Fml.{flft, ftrue}
use mir.Val.{Val, vstruct, vcons, vnil, has_ty}
use contract.Monad.{fact, fact_i}
use contract.Running.{tables}
use types.Kit.{‵, raw, ◌⊛◌, some, later, ◌$◌, ◌∵◌, !, qed, done, move, keep, drop, use0, use1, split, split3, join, fsplit, fjoin, fpack, feq_i, pick, await, rewrite, frame, suffices}
use types.Run.{enter, of_opd, stop, fld, no_more, and_then, returns}
use types.ByLocal.{alloc_all, pass_all, free_all, look_at, get, get_in, sets, lands_as}
use types.Part.{agg, sub, whole}
use denote.Builtin.{RawPtr, RefOf, i32}
use denote.Exit.{yes, rest}
use denote.RattleType.{Valss}
use denote.RawPtr.{Ptr, ptr_val, rawptr_vals, rawptr_Tells, rawptr_Lawful}
use denote.Signature.{Slot, plain}
use denote.Ref.{ShrRef, shr_vals, shr_Tells}
use Rattle.bullmyrtle.specs.JudgeMade.{IsMade, Given, IsGivenBy}
use Rattle.judge_calls.specs.Options.{asked_by}
use Rattle.judge_calls.specs.contracts.options.JudgeOptions.{the_row as S}
use denote.Steps.{nothing, only, heard}
use denote.Struct.Struct.{within}
use denote.Struct.Owning.{shape}
use denote.Triple.Call.{calls_at}
use denote.Triple.Clauses.{Lasts, lasts}
use denote.Triple.Spec.{triple_of}
use denote.Triple.Table.{framed}
use denote.Triple.Walked.{Stays, stay_dropped, walk_of, ends_at, says, Goes-dropped}
use Rattle.std.specs.contracts.alloc.Global.{the_row as Z}
use Rattle.std.proofs.alloc.Global.TheLaws as global
use Rattle.bullmyrtle.specs.JudgePlaces.{held_at}
use Rattle.bullmyrtle.proofs.LooseSteps.{both_tt, two_out}
use Rattle.std_alloc.proofs.ResultValues.{and_tt}
use denote.Struct.Tuple.{Tuple}
use mir.Syntax.{ty_ptr, w32, named}
use denote.Signed.{sint_Lawful}
use Rattle.bullmyrtle.specs.declared.judge_place.JudgePlace.{JudgePlace}
use Rattle.bullmyrtle.specs.contracts.judge_place.JudgePlace.{the_row as P, the_type}
use Rattle.bullmyrtle.proofs.judge_place.JudgePlace.TheLaws as place
use Rattle.bullmyrtle.specs.contracts.judging.made as callee
use Rattle.bullmyrtle.proofs.judging.made.Met.{met}
use Rattle.bullmyrtle.specs.contracts.judging.bm_judge_open as f
use Rattle.bullmyrtle.proofs.judging.bm_judge_open.Statement.{statement}
use Rattle.bullmyrtle.proofs.judging.bm_judge_open.Code as code

abbrev Asked : Slot 1
Asked = RefOf (0 ∷ []) tt (plain (λ _. S)) (λ _. tt)

abbrev stayed : Stays f.ended.signature.params f.ended.kept
stayed = (stay_dropped (plain (λ _. Z)) yes, (stay_dropped Asked yes, (stay_dropped (plain (λ _. RawPtr)) yes, tt)))

pub bm_judge_open_spec : {M : Type 1} → statement M
bm_judge_open_spec 𝓤 𝓛 𝓜 𝓡 wired =
    let c = f.clauses 𝓛 𝓜.mem 𝓡.returns in let W = walk_of 𝓛 f.ended stayed c in
    proved 𝓛 f.ended stayed c 𝓜 𝓡 (Goes-dropped 𝓛 1 (plain (λ _. Z)) yes (λ κs x w. refl), (Goes-dropped 𝓛 1 Asked yes (λ κs x w. refl), (Goes-dropped 𝓛 1 (plain (λ _. RawPtr)) yes (λ κs x w. refl), tt)))
    f.Key.name code.function (code.unfolded 𝓤 𝓛.H 𝓜 𝓡 wired)
    (λ κs. (λ d. global.lowered d ∷ [], (shr_vals, (rawptr_vals, tt)))) (λ κs. (global.lowers.val_is, (shr_Tells (named 0) κs.0 S, (rawptr_Tells, tt)))) (λ κs qs bounds a g are.
    let κ = κs.0 in let q = qs.0 in let alloc = a.0 in let asked = a.1.0 in let at = a.1.1.0 in let heap = global.lowered alloc in let Ref = ShrRef (named 0) κ S in
    let y : W.Ghost = ((κs, qs, bounds, a, (heap ∷ [], (shr_vals asked, (rawptr_vals at, tt)))), tt) in
    let fits = ((global.the_row_laws.lawful 𝓛).typed alloc (heap ∷ []) are.0).0 in let at_fits = ((rawptr_Lawful 𝓛).typed at (rawptr_vals at) refl).0 in
    let toks = ‵ (flft κ q) ⊛ ‵ ftrue in
    qed 𝓛 ((toks ⊛ ‵ (Z.own_val alloc (heap ∷ [])) ⊛ ‵ (Ref.own_val asked (shr_vals asked)) ⊛ ‵ (RawPtr.own_val at (rawptr_vals at)) ⊛ ‵ ftrue) ∷ ‵ (held_at at None) ∷ []) ∵
    split ! $ move ! (1 ∷ []) $ split ! $ move ! (1 ∷ []) $ split ! $ keep ! (3 ∷ 2 ∷ 0 ∷ 4 ∷ []) $
    -- [the token; the allocator; the settings; the room]
    enter ! _ _ _ _ _ $ alloc_all ! (λ l. pass_all ! refl (fits, ((tt, tt), (at_fits, tt))) $
    let word : Val = vstruct (vcons (ptr_val at) vnil) in let p : JudgePlace = record { at = at; held = None } in
    sets ! (agg ! (and_then ! (get ! refl) (no_more !))) refl (and_tt (has_ty ty_ptr (ptr_val at)) at_fits.0, (at_fits.1, tt)) $
    move ! (3 ∷ []) $ nothing ! $ feq_i ! (List Val) (rawptr_vals at) (rawptr_vals at) refl $ fjoin ! $ feq_i ! (List Val) (word ∷ []) (word ∷ []) refl $ fjoin ! $
    fpack ! (Valss (RawPtr ∷ [])) (within (shape the_type) (at, tt) (word ∷ [])) (rawptr_vals at, tt) $ fjoin ! $
    -- [the place; the token; the allocator; the settings]
    let G = triple_of 𝓛 callee.signature (callee.spec 𝓛 𝓜.mem 𝓡.returns) in
    let z : G.Ghost = ((κs, qs, bounds, (alloc, (asked, (p, tt))), (heap ∷ [], (shr_vals asked, (word ∷ [], tt)))), tt) in
    nothing ! $ move ! (1 ∷ 0 ∷ []) $ join ! $ move ! (3 ∷ 0 ∷ []) $ join ! $ move ! (2 ∷ 0 ∷ []) $ join ! $ move ! (1 ∷ 0 ∷ []) $ join ! $
    use0 𝓛 (raw (fact 𝓤 (p.held ≡ None))) (fact_i 𝓤 (p.held ≡ None) (emp 𝓤) refl) $ move ! (1 ∷ 0 ∷ []) $ join ! $ use1 𝓛 (raw (G.pre z)) (id⊢ 𝓤 _) $
    calls_at ! (framed 𝓤 𝓛.H 𝓜 (tables 𝓤 𝓛.H 𝓜 𝓡 𝓡.env)) G (met 𝓤 𝓛 𝓜 𝓡 (code.calls-bullmyrtle::judging::made 𝓡.env wired)) z (and_then ! (get ! refl) (and_then ! (get ! refl) (and_then ! (get ! refl) (no_more !)))) (λ u.
    use1 𝓛 (later (some (λ (r : ℤ × JudgePlace). (toks ⊛ ‵ ((Tuple (i32 ∷ P ∷ [])).own_val r (u ∷ []))) ⊛ some (λ (ws : Lasts callee.ended κs z.0.3). ‵ (lasts callee.ended κs z.0.3 ws) ⊛
    raw (fact 𝓤 (IsMade (asked_by asked.now) r.0)) ⊛ raw (fact 𝓤 (r.1.at ≡ at)) ⊛ raw (fact 𝓤 (IsGivenBy (asked_by asked.now) r.0 r.1.held)))))) (id⊢ 𝓤 (G.post z u)) $
    await ! tt $ pick ! (λ r. split ! $ move ! (1 ∷ []) $ pick ! (λ ws. split ! $ drop ! $ split3 ! $ heard ! _ (λ answered. heard ! _ (λ same. heard ! _ (λ held. split ! $ move ! (1 ∷ []) $
    two_out i32 P r.0 r.1 ! refl refl (sint_Lawful 𝓛 w32) (place.the_row_laws.lawful 𝓛) (u ∷ []) (λ v w v_fits w_fits is.
    lands_as ! (ap only is) refl (both_tt _ _ v_fits.0 w_fits.0, (v_fits.1, (w_fits.1, tt))) $
    sets ! (of_opd ! (get_in ! (fld ! refl (stop !)) (sub ! 0 refl (whole !)))) refl v_fits $ sets ! (of_opd ! (get_in ! (fld ! refl (stop !)) (sub ! 1 refl (whole !)))) refl w_fits $
    sets ! (of_opd ! (get ! refl)) refl v_fits $ returns ! (look_at ! 0 refl) $ free_all ! refl $
    -- [the code; the place; the token]
    move ! (1 ∷ []) $ fsplit ! $ drop ! $ rewrite ! 0 (λ (q : Ptr). ‵ (held_at q r.1.held)) same refl $ fpack ! (Given (asked_by asked.now) r.0) (λ given. held_at at given.0) (r.1.held, held) $ keep ! (1 ∷ 0 ∷ 2 ∷ []) $
    suffices ! _ (ends_at 𝓛 f.ended stayed c y v r.0 (rest (Z.exit yes) alloc, (rest (Ref.exit yes) asked, (rest (RawPtr.exit yes) at, tt))) (tt, (tt, (tt, tt)))) $
    nothing ! $ nothing ! $ fjoin ! $ nothing ! $ fjoin ! $ nothing ! $ fjoin ! $ join ! $ move ! (2 ∷ 0 ∷ []) $ join ! $ frame ! $ says ! answered $ done !)))))))))
