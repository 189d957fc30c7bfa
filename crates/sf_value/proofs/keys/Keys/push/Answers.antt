use Rattle.std.proofs.Common.{◌∙◌, [], ◌∷◌, ◌++◌, ap, sym}
use Rattle.sf_value.proofs.Listing.{pushed_listed}
use Rattle.sf_value.proofs.keys.Keys.push.Goals as goal

pub invariant_of-self-2 : goal.invariant_of-self-2
invariant_of-self-2 c =
    pushed_listed c.self.inside.list.items c.deref.result.now _ c.note_new.new.index c.in_ok-note_new.field-0 c.args.key (c.deref.ensures.value ∙ c.in_ok-reserve.ensures.items) (c.push_reserved.ensures.items ∙ ap (λ ks. ks ++ c.args.key ∷ []) (sym c.deref.ensures.value))
    c.in_ok-note_new.ensures.added c.in_ok-note_new.ensures.same c.if-not-branch.false c.self.invariant.0
