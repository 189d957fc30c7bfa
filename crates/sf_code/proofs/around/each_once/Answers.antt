use Rattle.std.proofs.Common.{◌≡◌, Bool, true, false, ℕ, ◌<◌, List, [], ◌∷◌, ◌++◌, length, take, get_or, not, refl, sym, ap, subst, ◌∙◌, true≢false, arith}
use Rattle.std.specs.Prelude.{if◌then◌else◌, is_some, bytes_eq, Vec}
use Rattle.std.specs.List.{All, list_any}
use Rattle.std.proofs.lemmas.List.Elements.{All-nil, All-push}
use Rattle.sf_expr.specs.Arena.{HoldsName}
use Rattle.std.specs.Borrow.{Bor}
use Rattle.std.specs.declared.alloc.Global.{Global}
use Rattle.std.proofs.lemmas.List.{take_more}
use Rattle.sf_value.specs.Values.{Name}
use Rattle.sf_expr.specs.declared.exprs.NameId.{NameId}
use Rattle.std.proofs.Math.Seq.{take-length}
use Rattle.sf_expr.specs.Meanings.{names_seen}
use Rattle.sf_code.specs.Compiling.{named_each, place_of_name, BindAsMany}
use Rattle.sf_code.specs.Around.{names_by_id}
use Rattle.sf_code.proofs.Outside.{once_seen, one_more, put_kept, put_there}
use Rattle.sf_code.proofs.around.each_once.Goals as goal
use Rattle.sf_code.proofs.around.each_once.Goals.{then-is_new+in_ok-push, else-is_new}

pub loop-name-init : goal.loop-name-init
loop-name-init c = record {
  same = ap (names_by_id c.args.exprs.now) c.new-own.ensures.items ∙ sym (ap names_seen c.new-seen.ensures.empty);
  bound = λ y h. absurd cc;
  held = subst (All (HoldsName c.args.exprs.now)) (sym c.new-own.ensures.items) (All-nil (HoldsName c.args.exprs.now));
  none = λ h. c.new-own.ensures.items;
}

-- what is kept is what is new
own_kept : (old : List NameId) (k : NameId) (own : List NameId) (seen is_new : Bool) → is_new ≡ not seen → is_new ≡ true → own ≡ old ++ k ∷ [] → own ≡ (if seen then old else old ++ k ∷ [])
own_kept old k own true is_new new e h = absurd (true≢false (sym e ∙ new))
own_kept old k own false is_new new e h = h

own_passed : (old : List NameId) (k : NameId) (own : List NameId) (seen is_new : Bool) → is_new ≡ not seen → is_new ≡ false → own ≡ old → own ≡ (if seen then old else old ++ k ∷ [])
own_passed old k own true is_new new e h = h
own_passed old k own false is_new new e h = absurd (true≢false (sym new ∙ e))

own_held : (P : NameId → Type 0) (old : List NameId) (k : NameId) (seen : Bool) → All P old → P k → All P (if seen then old else old ++ k ∷ [])
own_held P old k true h p = h
own_held P old k false h p = All-push P old k h p

pub loop-name-preserved : goal.loop-name-preserved
loop-name-preserved c =
    let x = c.args.exprs.now in
    let i = c.loop-name.name-index in
    let none : NameId = record { 0 = 0 } in
    let k = get_or c.args.names.now i none in
    let keys = c.in_ok-is_new.ensures.keys in
    let new = c.in_ok-is_new.ensures.added in
    let old = c.loop-name.own.items in
    let inside : i < length c.args.names.now = omega (arith, c.loop-name-test.true, c.loop-name.auto.name-index-end) in
    let seen = list_any (λ (j : Bor (List ℕ)). bytes_eq c.name_of.result.now j.now) c.loop-name.seen.keys in
    let own : c.if-is_new.own.items ≡ (if seen then old else old ++ k ∷ []) = elim c.if-is_new.branch [
      | then-is_new+in_ok-push w ↦ own_kept old k _ seen _ new w.if-is_new.true (ap (λ (v : Vec NameId Global). v.items) w.own-is ∙ w.in_ok-push.ensures.items)
      | else-is_new w ↦ own_passed old k _ seen _ new w.if-is_new.false (ap (λ (v : Vec NameId Global). v.items) w.own-is)
    ] in
    let here = subst (λ (z : Name). is_some (place_of_name z (named_each (names_seen c.insert.new.self.keys))) ≡ true) c.name_of.ensures (put_there c.name_of.result c.loop-name.seen.keys c.insert.new.self.keys _ keys refl) in
    let before : BindAsMany (named_each (names_by_id x (take i c.args.names.now))) (named_each (names_seen c.insert.new.self.keys)) = λ y h. put_kept c.name_of.result c.loop-name.seen.keys c.insert.new.self.keys _ keys y (c.loop-name.invariant.bound y h) in
    record {
      same = ap (names_by_id x) own ∙ once_seen x old k c.loop-name.seen.keys c.insert.new.self.keys c.name_of.result seen c.name_of.ensures keys c.loop-name.invariant.same;
      bound = subst (λ ks. BindAsMany (named_each (names_by_id x ks)) (named_each (names_seen c.insert.new.self.keys))) (sym (take_more c.args.names.now i none inside)) (one_more x (take i c.args.names.now) k (named_each (names_seen c.insert.new.self.keys)) before here);
      held = subst (All (HoldsName x)) (sym own) (own_held (HoldsName x) old k seen c.loop-name.invariant.held (c.requires i none inside));
      none = λ h. absurd (let empty : length c.args.names.now ≡ 0 = ap length h in omega (arith, inside, empty));
    }

pub returns-clause-bound : goal.returns-clause-bound
returns-clause-bound c =
    let all : c.loop-name.name-index ≡ length c.args.names.now = omega (arith, c.loop-name-test.false, c.loop-name.auto.name-index-end) in
    subst (λ ks. BindAsMany (named_each (names_by_id c.args.exprs.now ks)) (named_each (names_by_id c.args.exprs.now c.loop-name.own.items))) (ap (λ k. take k c.args.names.now) all ∙ take-length c.args.names.now)
    (rw c.loop-name.invariant.same c.loop-name.invariant.bound)

pub returns-clause-fewest : goal.returns-clause-fewest
returns-clause-fewest c = c.loop-name.invariant.none
