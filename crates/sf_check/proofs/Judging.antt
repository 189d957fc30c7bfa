-- A term is judged by its node, and what answers one step after another.
use Rattle.std.proofs.Common.{◌≡◌, ℕ, zero, suc, ◌<◌, Bool, true, false, cond, IsTrue, List, [], ◌∷◌, Option, Some, None, Result, Ok, Err, ◌↔◌, All, refl, sym, ap, ◌∙◌, subst, arith}
use Rattle.std.specs.Prelude.{nat_le}
use Rattle.std.proofs.lemmas.List.Elements.{All-head, All-tail}
use mathlib.Core.Path.{fun_ext}
use Rattle.sf_value.specs.Values.{Kind, pair_kind, event_kind, table_kind, unit_kind, bool_kind, int_kind, text_kind}
use Rattle.sf_value.specs.Values
use Rattle.sf_refusal.specs.declared.spot.Spot.{Spot}
use Rattle.sf_refusal.specs.declared.rule.Rule.{Rule}
use Rattle.sf_refusal.specs.declared.rule.Rule.TheVariants.{BarePre, TypeTooLarge}
use Rattle.sf_refusal.specs.declared.refusal.Breach.{Breach}
use Rattle.sf_refusal.specs.declared.refusal.Refusal.{Refusal}
use Rattle.sf_refusal.specs.Refusals.{breach_of}
use Rattle.sf_operator.specs.Kinds.{same_kind, parts_of}
use Rattle.sf_operator.proofs.SameKinds.{same_is, is_same}
use Rattle.sf_expr.specs.Typing.{Fits}
use Rattle.sf_expr.specs.Judging.{◌>>=◌, matching_at, judged_fitting, GivesFound}
use Rattle.sf_expr.proofs.Inferred.{fits_test}
use Rattle.sf_expr.proofs.Judged.{kind_answers}
use Rattle.sf_term.specs.declared.form.Bare.{Bare}
use Rattle.sf_term.specs.declared.form.Bare.TheVariants as bares
use Rattle.sf_term.specs.declared.form.Join.TheVariants.{InSequence, InParallel, FannedOut}
use Rattle.sf_term.specs.declared.form.Side.TheVariants.{First, Second}
use Rattle.sf_term.specs.declared.form.Heading.TheVariants.{LoopPre, Replaced, Initialized, Followed}
use Rattle.sf_term.specs.declared.form.Naming.TheVariants.{Process, Probe}
use Rattle.sf_term.specs.declared.form.Switching.{Switching}
use Rattle.sf_term.specs.declared.form.Switching.TheVariants.{Basic, Recurring}
use Rattle.sf_term.specs.declared.node.TermId.{TermId}
use Rattle.sf_term.specs.declared.node.Argument.{Argument}
use Rattle.sf_term.specs.declared.node.Argument.TheVariants as arguments
use Rattle.sf_term.specs.declared.node.Switch.{Switch}
use Rattle.sf_term.specs.declared.node.Node.{Node}
use Rattle.sf_term.specs.declared.node.Node.TheVariants as nodes
use Rattle.sf_term.specs.declared.collection.CollExpr.{CollExpr}
use Rattle.sf_term.specs.declared.collection.CollExpr.TheVariants as collections
use Rattle.sf_term.specs.declared.program.Program.{Program}
use Rattle.sf_term.specs.Arena.{term_number, term_node_at, term_spot_at, program_entry, argument_nodes, collection_node, CollectionBelow, ArgumentBelow, TermPartsBelow}
use Rattle.sf_term.proofs.Extended.{parts_below}
use Rattle.sf_mean.specs.Contexts.{NameKind, value, process, collection, Bindings, Context}
use Rattle.sf_mean.specs.Typing.{bare_kind}
use Rattle.sf_check.specs.Answering.{AnswersBare}
use Rattle.sf_check.specs.Judging.{asked, bare_judged, TermJudge, members_judged, argument_judged, arguments_judged, switch_judged, node_judged, judged_below, term_judged, judged_as}

-- ## Steps

-- what was found goes on
pub go : {A B : Type 0} (f : A → Result B Breach) {r : Result A Breach} {x : A} {y : Result B Breach} → r ≡ Ok x → f x ≡ y → (r >>= f) ≡ y
go f e h = ap (λ r. r >>= f) e ∙ h

-- and a rule that is broken stops
pub stop : {A B : Type 0} (f : A → Result B Breach) {r : Result A Breach} {b : Breach} → r ≡ Err b → (r >>= f) ≡ Err b
stop f e = ap (λ r. r >>= f) e

-- what was answered was found at each step
pub ok_then : {A B : Type 0} (r : Result A Breach) (f : A → Result B Breach) {y : B} → (r >>= f) ≡ Ok y → (x : A) × (r ≡ Ok x) × (f x ≡ Ok y)
ok_then (Ok x) f h = (x, refl, h)
ok_then (Err b) f h = absurd cc

pub holds : (r : Rule) (s : Spot) {b : Bool} → b ≡ true → asked r s b ≡ Ok tt
holds r s e = ap (asked r s) e

pub fails : (r : Rule) (s : Spot) {b : Bool} → b ≡ false → asked r s b ≡ Err (breach_of r s)
fails r s e = ap (asked r s) e

pub asked_then : {B : Type 0} (r : Rule) (s : Spot) (b : Bool) (f : Unit {0} → Result B Breach) {y : B} → (asked r s b >>= f) ≡ Ok y → (b ≡ true) × (f tt ≡ Ok y)
asked_then r s true f h = (refl, h)
asked_then r s false f h = absurd cc

-- what was answered is one
pub one_ok : {A : Type 0} (r : Result A Breach) {x y : A} → r ≡ Ok x → r ≡ Ok y → x ≡ y
one_ok r e f = cc

-- a type that was answered was found, and fits
pub fitted : (s : Spot) (o : Option Kind) {t : Kind} → judged_fitting s o ≡ Ok t → (o ≡ Some t) × Fits t
fitted s None h = absurd cc
fitted s (Some u) {t} h = each (nat_le (Values.nodes u) 256) refl h
  where
    each : (b : Bool) → nat_le (Values.nodes u) 256 ≡ b → cond b (Ok u) (Err (breach_of TypeTooLarge s)) ≡ Ok t → (Some u ≡ Some t) × Fits t
    each true e h = let is : u ≡ t = one_ok (Ok u) refl h in (ap (λ u. Some u) is, subst (λ (t : Kind). Fits t) is (fits_test u e))
    each false e h = absurd cc

-- where two types agreed, they are the same
pub agreed : (r : Rule) (s t : Spot) (b : Bool) {x : Unit {0}} → asked r s b ≡ Ok x → asked r t b ≡ Ok tt
agreed r s t true h = refl
agreed r s t false h = absurd cc

-- the answer for a primitive without constants
pub bare_answers : (s : Spot) (k : Bare) (a : Kind) (r : Result Kind Refusal) → AnswersBare k a s r → GivesFound r (bare_judged s k a)
bare_answers s bares.Identity a r h = kind_answers (bare_kind bares.Identity a) s r h
bare_answers s bares.LocalTime a r h = kind_answers (bare_kind bares.LocalTime a) s r h
bare_answers s bares.Integral a r h = kind_answers (bare_kind bares.Integral a) s r h
bare_answers s bares.Edge a r h = kind_answers (bare_kind bares.Edge a) s r h
bare_answers s bares.NotYet a r h = kind_answers (bare_kind bares.NotYet a) s r h
bare_answers s bares.Once a r h = kind_answers (bare_kind bares.Once a) s r h
bare_answers s bares.Count a r h = kind_answers (bare_kind bares.Count a) s r h
bare_answers s bares.Pre a r h = subst (λ r. GivesFound r (Err (breach_of BarePre s))) (sym h) refl

-- ## Types of pairs

module _ {B : Type 0} (P : Kind → Type 0) (s : Spot) {y : B} where
  pub pairs_then : (a : Kind) (f : Kind × Kind → Result B Breach) → ((b c : Kind) → f (b, c) ≡ Ok y → P (pair_kind b c)) → (matching_at s (parts_of a) >>= f) ≡ Ok y → P a
  pairs_then (pair_kind b c) f each h = each b c h
  pairs_then unit_kind f each h = absurd cc
  pairs_then bool_kind f each h = absurd cc
  pairs_then int_kind f each h = absurd cc
  pairs_then text_kind f each h = absurd cc
  pairs_then (event_kind t) f each h = absurd cc
  pairs_then (table_kind k t) f each h = absurd cc

-- ## Tests

-- what is told of two types is whether they are the same
pub told_same : (t u : Kind) (b : Bool) → IsTrue b ↔ (t ≡ u) → b ≡ same_kind t u
told_same t u true h = sym (ap (same_kind t) (sym (h.0 refl)) ∙ is_same t)
told_same t u false h = each (same_kind t u) refl
  where
    each : (c : Bool) → same_kind t u ≡ c → false ≡ c
    each true e = let yes = h.1 (same_is t u e) in absurd cc
    each false e = refl

-- ## The equations

pub node_below : (p : Program) (t : TermId) → TermPartsBelow p (term_node_at p t) (term_number t)
unfolding term_node_at program_entry
node_below p t = parts_below p t

-- a node is judged by its parts alone
module _ (p : Program) (f g : TermId → TermJudge) (n : ℕ) (same : (i : TermId) → term_number i < n → f i ≡ g i) where
  members_local : (c : CollExpr) → CollectionBelow n c → members_judged p f c ≡ members_judged p g c
  members_local (collections.Empty k t s) b = refl
  members_local (collections.Used x m s) b = refl
  members_local (collections.Added' o c v t s) b = fun_ext (λ Γ. fun_ext (λ a. rw (members_local c b.0, same t b.1) refl))
  members_local (collections.Dropped' o c v s) b = fun_ext (λ Γ. fun_ext (λ a. rw (members_local c b) refl))
  members_local (collections.Kept' o c h s) b = fun_ext (λ Γ. fun_ext (λ a. rw (members_local c b) refl))
  members_local (collections.Chosen' v o c r d s) b = fun_ext (λ Γ. fun_ext (λ a. rw (members_local c b.0, members_local d b.1) refl))

  argument_local : (s : Spot) (Γ : Context) (v : Argument) (k : NameKind) → ArgumentBelow p n v → argument_judged p f s Γ v k ≡ argument_judged p g s Γ v k
  argument_local s Γ (arguments.Value v) k b = refl
  argument_local s Γ (arguments.Process t) (value u) b = refl
  argument_local s Γ (arguments.Process t) (process c d) b = rw (same t b) refl
  argument_local s Γ (arguments.Process t) (collection k c d) b = refl
  argument_local s Γ (arguments.Collection i) (value u) b = refl
  argument_local s Γ (arguments.Collection i) (process c d) b = refl
  argument_local s Γ (arguments.Collection i) (collection k c d) b = rw (members_local (collection_node p i) b) refl

  arguments_local : (s : Spot) (Γ : Context) (vs : List Argument) (qs : Bindings) → All (ArgumentBelow p n) vs → arguments_judged p f s Γ vs qs ≡ arguments_judged p g s Γ vs qs
  arguments_local s Γ [] qs b = refl
  arguments_local s Γ (v ∷ vs) [] b = refl
  arguments_local s Γ (v ∷ vs) (q ∷ qs) b = rw (argument_local s Γ v q.1 (All-head (ArgumentBelow p n) v vs b), arguments_local s Γ vs qs (All-tail (ArgumentBelow p n) v vs b)) refl

  switch_local : (s : Spot) (m : Switch) (w : Switching) → TermPartsBelow p (nodes.Switching m) n → (Γ : Context) (a : Kind) → switch_judged p f s m w Γ a ≡ switch_judged p g s m w Γ a
  switch_local s m (Basic w) b Γ a = rw (same m.source b.0, same m.body b.1) refl
  switch_local s m (Recurring w) b Γ a = rw (same m.source b.0, same m.body b.1) refl

  node_local : (s : Spot) (m : Node) → TermPartsBelow p m n → (Γ : Context) (a : Kind) → node_judged p f s m Γ a ≡ node_judged p g s m Γ a
  node_local s (nodes.Primitive q) b Γ a = refl
  node_local s (nodes.Named (Process w) x m) b Γ a = refl
  node_local s (nodes.Named Probe x m) b Γ a = refl
  node_local s (nodes.Call x vs) b Γ a = rw (fun_ext (λ qs. arguments_local s Γ (argument_nodes p vs) qs b)) refl
  node_local s (nodes.Joined InSequence i j) b Γ a = rw (same i b.0, same j b.1) refl
  node_local s (nodes.Joined InParallel i j) b Γ a = rw (same i b.0, same j b.1) refl
  node_local s (nodes.Joined FannedOut i j) b Γ a = rw (same i b.0, same j b.1) refl
  node_local s (nodes.Sided First i) b Γ a = rw (same i b) refl
  node_local s (nodes.Sided Second i) b Γ a = rw (same i b) refl
  node_local s (nodes.Headed LoopPre v i) b Γ a = rw (same i b) refl
  node_local s (nodes.Headed Replaced v i) b Γ a = rw (same i b) refl
  node_local s (nodes.Headed Initialized v i) b Γ a = rw (same i b) refl
  node_local s (nodes.Headed Followed v i) b Γ a = rw (same i b) refl
  node_local s (nodes.Transformed h i) b Γ a = rw (same i b) refl
  node_local s (nodes.Switching m) b Γ a = switch_local s m m.form b Γ a
  node_local s (nodes.Continuation m) b Γ a = rw (same m.source b.0, same m.observer b.1, same m.body b.2) refl
  node_local s (nodes.Gathered i) b Γ a = rw (members_local (collection_node p i) b) refl
  node_local s (nodes.Releasing m) b Γ a = rw (members_local (collection_node p m.members) b.0, same m.observer b.1, same m.body b.2) refl
  node_local s (nodes.Editing m) b Γ a = rw (members_local (collection_node p m.members) b.0, members_local (collection_node p m.edit) b.1) refl

-- beyond its number, how far a term is judged says nothing
below_same : (p : Program) (m n : ℕ) (t : TermId) → term_number t < m → term_number t < n → judged_below p m t ≡ judged_below p n t
below_same p zero n t h k = absurd (omega arith)
below_same p (suc m) zero t h k = absurd (omega arith)
below_same p (suc m) (suc n) t h k =
    fun_ext (λ Γ. fun_ext (λ a. node_local p (judged_below p m) (judged_below p n) (term_number t) (λ i l. below_same p m n i (omega arith) (omega arith)) (term_spot_at p t) (term_node_at p t) (node_below p t) Γ a))

-- a term is judged by its node
pub term_form : (p : Program) (t : TermId) (Γ : Context) (a : Kind) → term_judged p t Γ a ≡ judged_as p t (term_node_at p t) Γ a
unfolding term_judged
term_form p t Γ a =
    node_local p (judged_below p (term_number t)) (λ i. judged_below p (suc (term_number i)) i) (term_number t) (λ i l. below_same p (term_number t) (suc (term_number i)) i l (omega arith)) (term_spot_at p t) (term_node_at p t) (node_below p t) Γ a
