-- The pointer of a box owns what the handle owned.
use Rattle.std.proofs.Common.{◌≡◌, List, [], ◌∷◌, ◌++◌, refl, sym, ap, ◌∙◌, subst, Option, Some, None, IsSome}
use mir.Val.{Val, vptr, vstruct, vcons, vnil, of_list}
use mir.Raw
use base.Logic.{SProp, ent, id⊢, fst∗, never}
use base.Fml.{ftrue}
use types.Logic.{sem}
use prog.Wp.{WpFn}
use contract.Monad.{fact}
use contract.Running.{tables}
use types.Kit.{‵, raw, ◌⊛◌, ◌$◌, ◌∵◌, !, qed, done, drop, move, keep, split, join, fsplit, fsplit3, fjoin, fpick, feq_l, rewrite, suffices}
use types.Part.{agg, whole, sub}
use types.Run.{enter, stop, fld, of_opd, no_more, and_then, returns}
use types.ByLocal.{alloc_all, pass_all, free_all, look_at, get, get_in, sets}
use denote.Exit.{yes}
use denote.RattleType.{RattleType, owns}
use denote.RawPtr.{Ptr, block_ptr, null_ptr, ptr_val, in_a_block}
use denote.Signature.{plain}
use denote.Steps.{nothing, heard}
use denote.Triple.Walked.{Stays, stay_dropped, walk_of, says, ends_at, Goes-dropped}
use Rattle.core.proofs.alloc.Calls.{handle_tells}
use Rattle.std.specs.Box.Ownership.{box_owns}
use Rattle.std.proofs.raw_atomic.Walks.{proved_at}
use Rattle.std_alloc.proofs.BoxSteps.Form as box
use Rattle.std_alloc.proofs.BoxSteps.Steps.{box_in}
use Rattle.std.specs.contracts.alloc.Global as global
use Rattle.std.proofs.alloc.Global.TheLaws as global_laws
use Rattle.std.specs.contracts.impls.GlobalAllocator.TheImpl as allocator
use Rattle.gezmulda_c.specs.Holding.{freeable, owns_at}
use Rattle.sf_session.specs.declared.session.Session.{Session}
use Rattle.sf_session.specs.contracts.session.Session as session
use Rattle.sf_session.proofs.session.Session.TheLaws as session_laws
use Rattle.gezmulda_c.specs.contracts.handle.Handle as handle
use Rattle.gezmulda_c.specs.contracts.handle.Handle.into_loose as f
use Rattle.gezmulda_c.proofs.handle.Handle.into_loose.Statement.{statement}
use Rattle.gezmulda_c.proofs.handle.Handle.into_loose.Code as code

abbrev E : box.Bx
E = record { row = session.the_row; laws = session_laws.the_row_laws; al = record { row = global.the_row; laws = global_laws.the_row_laws; g = allocator.ghosts; d = allocator.dict; drops = allocator.dict } }

abbrev H : RattleType
H = handle.the_row

abbrev G : RattleType
G = global.the_row

abbrev stayed : Stays f.ended.signature.params f.ended.kept
stayed = (stay_dropped (plain (λ _. H)) yes, (stay_dropped (plain (λ _. G)) yes, tt))

some_session : (o : Option Session) → IsSome o → (h : Session) × (o ≡ Some h)
some_session None is = absurd cc
some_session (Some h) is = (h, refl)

pub into_loose_spec : {M : Type 1} → statement M
into_loose_spec 𝓤 𝓛 𝓜 𝓡 wired =
    let c = f.clauses 𝓛 𝓜.mem 𝓡.returns in let 𝓣 = tables 𝓤 𝓛.H 𝓜 𝓡 𝓡.env in
    proved_at 𝓛 f.ended stayed c 𝓜 𝓡 (Goes-dropped 𝓛 0 (plain (λ _. H)) yes (λ κs x w. refl), (Goes-dropped 𝓛 0 (plain (λ _. G)) yes (λ κs x w. refl), tt))
    f.Key.name code.function (code.unfolded 𝓤 𝓛.H 𝓜 𝓡 wired) (λ z are.
    let v = z.0.3.0 in let a = z.0.3.1.0 in let Post = (walk_of 𝓛 f.ended stayed c).post z in
    let Run : List Val → SProp 𝓤 = λ ws. WpFn 𝓤 𝓛.H 𝓣.C 𝓣.Λ code.function ws Post in
    qed 𝓛 ((‵ ftrue ⊛ ‵ (owns (H ∷ G ∷ []) z.0.3 z.0.4)) ∷ raw (fact 𝓤 (IsSome v.session)) ∷ []) ∵
    move ! (1 ∷ []) $ heard ! (IsSome v.session) (λ some. let h = (some_session v.session some).0 in let is = (some_session v.session some).1 in
    split ! $ drop ! $ fsplit3 ! $ fsplit ! $ fpick ! (λ vss. fsplit ! $ feq_l ! (λ ev. fsplit ! $ feq_l ! (λ ep. drop ! $
    -- [what the handle holds; the allocator; nothing]
    rewrite ! 0 (λ (o : Option Session). ‵ (owns_at v.at o)) is refl $
    in_a_block ! v.at (λ p. box_owns freeable session.the_row p h) (fst∗ 𝓤 (never 𝓤) (sem 𝓛 (freeable (Raw.raw (box.τ E)) null_ptr))) (λ b o at.
    move ! (1 ∷ []) $ handle_tells E.al ! a z.0.4.1.0 (λ hv eh fa.
    let w : Val = vstruct (vcons (vptr b o) vnil) in let out = box.word E hv b o in let us : List Val = w ∷ hv ∷ [] in
    let ew : z.0.4.0 ≡ w ∷ [] = ev ∙ (λ j. vstruct (of_list ((ep ∙ ap (λ (p : Ptr). ptr_val p ∷ []) at) j ++ [])) ∷ []) in
    suffices ! (Run us) (subst (λ (ws : List Val). ent 𝓤 (Run us) (Run ws)) (sym (λ i. ew i ++ (eh i ++ []))) (id⊢ 𝓤 (Run us))) $
    keep ! (0 ∷ 1 ∷ []) $
    enter ! 𝓣.C 𝓣.Λ code.function us Post $ alloc_all ! (λ l. pass_all ! refl ((tt, (tt, tt)), (fa, tt)) $
    sets ! (of_opd ! (get_in ! (fld ! refl (stop !)) (sub ! 0 refl (whole !)))) refl (tt, tt) $
    sets ! (agg ! (and_then ! (get ! refl) (and_then ! (get ! refl) (no_more !)))) refl (box.box_typed E hv b o fa) $
    returns ! (look_at ! 0 refl) $ free_all ! refl $
    move ! (1 ∷ []) $ fsplit ! $ box_in E ! (record { ptr = block_ptr b o; alloc = a; value = h }) b o h refl refl $
    suffices ! _ (ends_at 𝓛 f.ended stayed c z out (record { at = block_ptr b o; alloc = a; value = h }) (tt, (tt, tt)) (tt, (tt, tt))) $ says ! is $
    nothing ! $ nothing ! $ fjoin ! $ nothing ! $ fjoin ! $ join ! $ nothing ! $ join ! $ done !))))))))
