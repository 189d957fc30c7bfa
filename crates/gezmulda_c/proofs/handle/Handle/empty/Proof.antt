-- A handle that holds nothing owns nothing.
use Rattle.std.proofs.Common.{List, [], ◌∷◌, refl, lit<, None}
use mir.Val.{Val, vint, vstruct, vcons, vnil}
use mir.Syntax.{w64}
use base.Fml.{ftrue}
use types.Kit.{‵, raw, ◌$◌, ◌∵◌, !, qed, done, drop, fjoin, fpack, feq_i, suffices}
use types.Part.{agg}
use types.Run.{enter, lit, no_more, and_then, returns}
use types.ByLocal.{alloc_all, pass_all, free_all, look_at, sets}
use denote.RattleType.{Valss}
use denote.RawPtr.{RawPtr, null_ptr}
use denote.Steps.{nothing}
use denote.Struct.Struct.{within}
use denote.Struct.Owning.{shape}
use denote.Triple.Entry.{on_entry}
use denote.Triple.Walked.{Stays, walk_of, says, ends_at}
use Rattle.std.proofs.raw_atomic.Walks.{proved}
use Rattle.gezmulda_c.specs.contracts.handle.Handle as handle
use Rattle.gezmulda_c.specs.contracts.handle.Handle.empty as f
use Rattle.gezmulda_c.proofs.handle.Handle.empty.Statement.{statement}
use Rattle.gezmulda_c.proofs.handle.Handle.empty.Code as code

abbrev stayed : Stays f.ended.signature.params f.ended.kept
stayed = tt

pub empty_spec : {M : Type 1} → statement M
empty_spec 𝓤 𝓛 𝓜 𝓡 wired =
    let c = f.clauses 𝓛 𝓜.mem 𝓡.returns in let W = walk_of 𝓛 f.ended stayed c in
    proved 𝓛 f.ended stayed c 𝓜 𝓡 tt f.Key.name code.function (code.unfolded 𝓤 𝓛.H 𝓜 𝓡 wired)
    (λ κs. tt) (λ κs. tt) (λ κs qs bounds a _ are.
    let y : W.Ghost = ((κs, qs, bounds, a, tt), tt) in
    let word : Val = vstruct (vcons (vint w64 0) vnil) in
    let new : handle.the_row.Denot = record { at = null_ptr; session = None } in
    qed 𝓛 (raw (on_entry 𝓛 f.signature κs qs a y.0.4) ∷ ‵ ftrue ∷ []) ∵ drop ! $ drop ! $
    enter ! _ _ _ _ _ $ alloc_all ! (λ l. pass_all ! refl tt $
    sets ! (agg ! (and_then ! (lit ! tt) (no_more !))) refl (tt, (record { fits = lit< tt }, tt)) $
    returns ! (look_at ! 0 refl) $ free_all ! refl $
    suffices ! _ (ends_at 𝓛 f.ended stayed c y word new tt tt) $ says ! refl $
    nothing ! $ nothing ! $ feq_i ! (List Val) (vint w64 0 ∷ []) (vint w64 0 ∷ []) refl $ fjoin ! $
    feq_i ! (List Val) (word ∷ []) (word ∷ []) refl $ fjoin ! $
    fpack ! (Valss (RawPtr ∷ [])) (within (shape handle.the_type) (null_ptr, tt) (word ∷ [])) (vint w64 0 ∷ [], tt) $ fjoin ! $
    nothing ! $ nothing ! $ done !))
