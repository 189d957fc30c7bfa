use Rattle.std.proofs.Common.{◌≡◌, List, ◌∷◌, ◌++◌, [], Bool, true, false, Option, Some, None, refl, sym, ap, ◌∙◌}
use Rattle.std.specs.Prelude.{not, is_some, if◌then◌else◌}
use Rattle.std.specs.List.{list_any}
use Rattle.sf_value.specs.Values.{KeyData}
use Rattle.sf_value.specs.Keys.{key_of, key_index, equal_keys}
use Rattle.sf_value.proofs.Indexes.{any_place}
use Rattle.sf_begin.specs.declared.drafting.Draft.{Draft}
use Rattle.sf_begin.proofs.Drafts.{place_put, place_pushed}
use Rattle.sf_begin.proofs.drafting.with_change.Goals as goal

is_none : {A : Type 0} (o : Option A) → true ≡ not (is_some o) → o ≡ None
is_none None e = refl
is_none (Some a) e = absurd cc

is_there : {A : Type 0} (o : Option A) → false ≡ not (is_some o) → o ≡ None → ⊥
is_there None e n = absurd cc
is_there (Some a) e n = absurd cc

-- a key that was added had no place
was_new : (k : KeyData) (ks : List KeyData) (added : Bool) → added ≡ true → added ≡ not (list_any (equal_keys k) ks) → key_index k ks ≡ None
was_new k ks added e h = is_none (key_index k ks) (sym e ∙ h ∙ ap not (any_place k ks))

-- one that was not had one
was_there : (k : KeyData) (ks : List KeyData) (added : Bool) → added ≡ false → added ≡ not (list_any (equal_keys k) ks) → key_index k ks ≡ None → ⊥
was_there k ks added e h n = is_there (key_index k ks) (sym e ∙ h ∙ ap not (any_place k ks)) n

pub returns-then-added : goal.returns-then-added
returns-then-added c = λ μ bs w ms P G A.
    let k = key_of c.args.key in
    let same : key_of c.in_ok-same.same ≡ k = c.in_ok-same.ensures in
    let asked : c.in_ok-added.added ≡ not (list_any (equal_keys k) c.args.made.keys) = c.in_ok-added.ensures.added ∙ ap (λ k. not (list_any (equal_keys k) c.args.made.keys)) same in
    let y : Draft = record { keys = c.push.new.self; changes = c.push-then-added.new.self } in
    let put : c.push.new.self ≡ c.args.made.keys ++ k ∷ [] = c.in_ok-added.ensures.keys ∙ ap (λ b. if b then c.args.made.keys ++ key_of c.in_ok-same.same ∷ [] else c.args.made.keys) c.if-added.true ∙ ap (λ k. c.args.made.keys ++ k ∷ []) same in
    place_pushed μ bs w c.args.made y k c.args.state (was_new k c.args.made.keys c.in_ok-added.added c.if-added.true asked) put c.in_ok-push.ensures.items ms P G A

pub returns : goal.returns
returns c = λ μ bs w ms P G A.
    let k = key_of c.args.key in
    let kept : c.push.new.self ≡ c.args.made.keys = c.in_ok-added.ensures.keys ∙ ap (λ b. if b then c.args.made.keys ++ key_of c.in_ok-same.same ∷ [] else c.args.made.keys) c.if-added.false in
    let at : key_index k c.args.made.keys ≡ Some c.in-Some.at = ap (key_index k) (sym kept) ∙ sym c.place.ensures ∙ c.in-Some.is in
    let y : Draft = record { keys = c.push.new.self; changes = c.push-in-Some.new.self } in
    place_put μ bs w c.args.made y k c.in-Some.at c.args.state at kept c.in_ok-push-in-Some.ensures.items ms P G A

pub unreachable-requires : goal.unreachable-requires
unreachable-requires c =
    let k = key_of c.args.key in
    let same : key_of c.in_ok-same.same ≡ k = c.in_ok-same.ensures in
    let asked : c.in_ok-added.added ≡ not (list_any (equal_keys k) c.args.made.keys) = c.in_ok-added.ensures.added ∙ ap (λ k. not (list_any (equal_keys k) c.args.made.keys)) same in
    let kept : c.push.new.self ≡ c.args.made.keys = c.in_ok-added.ensures.keys ∙ ap (λ b. if b then c.args.made.keys ++ key_of c.in_ok-same.same ∷ [] else c.args.made.keys) c.if-added.false in
    was_there k c.args.made.keys c.in_ok-added.added c.if-added.false asked (ap (key_index k) (sym kept) ∙ sym c.place.ensures ∙ c.in-None.is)
