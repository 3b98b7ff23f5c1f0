-- What a `&` to a `Vec` holds says that its pointer is not null.
use Rattle.std.proofs.Common.{List, [], ◌∷◌, refl}
use Rattle.std.proofs.raw_atomic.Walks.{proved}
use base.Fml.{Lft, ftrue, flft}
use mir.Syntax.{named}
use mir.Val.{Val, vunit}
use contract.Monad.{fact}
use types.Kit.{‵, raw, ◌⊛◌, ◌$◌, ◌∵◌, !, qed, done, move, keep, drop, use1, split, fsplit, fjoin, feq_i, suffices, frame}
use types.Run.{enter, of_opd, unit_lit, returns}
use types.ByLocal.{alloc_all, pass_all, free_all, look_at, sets}
use denote.Builtin.{RefOf, u8}
use denote.Exit.{yes, rest}
use denote.Known.{Says, Says-first, Says-second, Says-hidden}
use denote.Memory.{hidden_shr}
use denote.RattleType.{RattleType}
use denote.RawPtr.{InBlock}
use denote.Ref.{ShrRef, shr_vals, shr_Tells}
use denote.Signature.{Slot, plain}
use denote.Steps.{nothing, heard}
use denote.Struct.Lending.{in_block_says}
use denote.Triple.Walked.{Stays, stay_dropped, walk_of, ends_at, says, Goes-dropped}
use Rattle.std.specs.contracts.alloc.Global.{the_row as Z}
use Rattle.std.specs.contracts.impls.GlobalAllocator.TheImpl.{ghosts}
use Rattle.std_alloc.specs.contracts.vec.Vec as vec
use Rattle.host_calls.specs.contracts.place.not_null as f
use Rattle.host_calls.proofs.place.not_null.Statement.{statement}
use Rattle.host_calls.proofs.place.not_null.Code as code

abbrev V : RattleType
V = vec.the_row u8 Z ghosts

abbrev Asked : Slot 1
Asked = RefOf (0 ∷ []) tt (plain (λ _. V)) (λ _. tt)

abbrev stayed : Stays f.ended.signature.params f.ended.kept
stayed = (stay_dropped Asked yes, tt)

told : (d : V.Denot) (b o : Prim.Native.Nat.ℕ) (κ : Lft) → Says (hidden_shr V κ d b o) (InBlock d.ptr)
told d b o κ = Says-hidden _ (Says-second _ _ (Says-second _ _ (Says-first _ _ (record { go = λ M 𝓤 𝓛. in_block_says 𝓛 d.ptr }))))

pub not_null_spec : {M : Type 1} → statement M
not_null_spec 𝓤 𝓛 𝓜 𝓡 wired =
    let c = f.clauses 𝓛 𝓜.mem 𝓡.returns in let W = walk_of 𝓛 f.ended stayed c in
    proved 𝓛 f.ended stayed c 𝓜 𝓡 (Goes-dropped 𝓛 1 Asked yes (λ κs x w. refl), tt)
    f.Key.name code.function (code.unfolded 𝓤 𝓛.H 𝓜 𝓡 wired)
    (λ κs. (shr_vals, tt)) (λ κs. (shr_Tells (named 0) κs.0 V, tt)) (λ κs qs bounds a g are.
    let κ = κs.0 in let q = qs.0 in let v = a.0.now in
    let y : W.Ghost = ((κs, qs, bounds, a, (shr_vals a.0, tt)), tt) in
    qed 𝓛 (((‵ (flft κ q) ⊛ ‵ ftrue) ⊛ ‵ ((ShrRef (named 0) κ V).own_val a.0 (shr_vals a.0)) ⊛ ‵ ftrue) ∷ ‵ ftrue ∷ []) ∵
    split ! $ move ! (1 ∷ []) $ split ! $ fsplit ! $ drop ! $
    use1 𝓛 (raw (fact 𝓤 (InBlock v.ptr))) ((told v a.0.ref_ptr.0 a.0.ref_ptr.1 κ).go _ 𝓤 𝓛) $ heard ! (InBlock v.ptr) (λ inside. keep ! (1 ∷ []) $
    enter ! _ _ _ _ _ $ alloc_all ! (λ l. pass_all ! refl ((tt, tt), tt) $
    sets ! (of_opd ! (unit_lit !)) refl (tt, tt) $ returns ! (look_at ! 0 refl) $ free_all ! refl $
    suffices ! _ (ends_at 𝓛 f.ended stayed c y vunit tt (rest ((ShrRef (named 0) κ V).exit yes) a.0, tt) (tt, tt)) $ says ! inside $ frame ! $ nothing ! $ nothing ! $ fjoin ! $ feq_i ! (List Val) (vunit ∷ []) (vunit ∷ []) refl $ move ! (1 ∷ 0 ∷ []) $ done !)))
