-- The parts of forms that are typed next, and answers under equal contexts.
use Rattle.std.proofs.Common.{◌≡◌, ◌⊎◌, inl, inr, Some, sym, subst, ap, ◌∙◌, Result, Ok, Err, IsErrAnd}
use Rattle.std.proofs.lemmas.Option.{same_Some}
use Rattle.sf_value.specs.Values.{Kind, pair_kind, event_kind}
use Rattle.sf_expr.specs.declared.exprs.ExprId.{ExprId}
use Rattle.sf_expr.specs.declared.exprs.NameId.{NameId}
use Rattle.sf_expr.specs.declared.exprs.PatternId.{PatternId}
use Rattle.sf_expr.specs.Arena.{expression}
use Rattle.sf_expr.specs.Typing.{Fits, HasType}
use Rattle.sf_refusal.specs.declared.spot.Spot.{Spot}
use Rattle.sf_refusal.specs.declared.refusal.Refusal.{Refusal}
use Rattle.sf_refusal.specs.declared.refusal.Refusal.TheVariants.{Memory}
use Rattle.sf_refusal.specs.Refusals.{OrMemory, no_memory}
use Rattle.sf_operator.specs.Breaches.{AnswersKind}
use Rattle.sf_term.specs.declared.form.Join.TheVariants.{InParallel}
use Rattle.sf_term.specs.declared.form.Side.{Side}
use Rattle.sf_term.specs.declared.form.Side.TheVariants.{First, Second}
use Rattle.sf_term.specs.declared.form.Heading.{Heading}
use Rattle.sf_term.specs.declared.form.Heading.TheVariants.{LoopPre, Initialized, Followed}
use Rattle.sf_term.specs.declared.form.Observation.{Observation}
use Rattle.sf_term.specs.declared.form.Switching.{Switching}
use Rattle.sf_term.specs.declared.form.Switching.TheVariants.{Basic, Recurring}
use Rattle.sf_term.specs.declared.node.TermId.{TermId}
use Rattle.sf_term.specs.declared.node.Switch.{Switch}
use Rattle.sf_term.specs.declared.node.Node.TheVariants as nodes
use Rattle.sf_term.specs.declared.program.Program.{Program}
use Rattle.sf_term.specs.Arena.{tree, term_node_at, term_spot_at, program_expressions}
use Rattle.sf_mean.specs.Contexts.{Context, names_of_values}
use Rattle.sf_mean.specs.Typing.{Takes}
use Rattle.sf_check.specs.Breaking.{TermBreaks, BodyWanted, after_source, beside_input, Reaches, parallel_left, parallel_right, first_part, second_part, head_part, recurring_first, continuing_observer}
use Rattle.sf_check.specs.Answering.{AnswersTerm}

-- where memory was wanting
pub memory_answers : (p : Program) (Γ : Context) (t : TermId) (a : Kind) (r : Result Kind Refusal) → IsErrAnd r (λ y. y ≡ Memory) → AnswersTerm p Γ t a r
memory_answers p Γ t a (Ok b) h = absurd h
memory_answers p Γ t a (Err e) h = subst (OrMemory (TermBreaks p Γ t a)) (sym h) no_memory

-- under equal programs and contexts
pub answers_under : (p q : Program) (Γ Δ : Context) (t : TermId) (a : Kind) (r : Result Kind Refusal) → p ≡ q → Γ ≡ Δ → AnswersTerm p Γ t a r → AnswersTerm q Δ t a r
answers_under p q Γ Δ t a r e f h = subst (λ (Γ : Context). AnswersTerm q Γ t a r) f (subst (λ (p : Program). AnswersTerm p Γ t a r) e h)

pub sided_there : (p : Program) (t : TermId) {d k : Side} {f : TermId} → d ≡ k → term_node_at p t ≡ nodes.Sided d f → term_node_at p t ≡ nodes.Sided k f
sided_there p t {f = f} e there = there ∙ ap (λ d. nodes.Sided d f) e

pub headed_there : (p : Program) (t : TermId) {k l : Heading} {v : ExprId} {f : TermId} → k ≡ l → term_node_at p t ≡ nodes.Headed k v f → term_node_at p t ≡ nodes.Headed l v f
headed_there p t {v = v} {f = f} e there = there ∙ ap (λ k. nodes.Headed k v f) e

-- the node of a switch whose form is seen
pub switch_there : (p : Program) (t : TermId) (n : Switch) {w : Switching} → n.form ≡ w → term_node_at p t ≡ nodes.Switching n → term_node_at p t ≡ nodes.Switching (record n { form = w })
switch_there p t n e is = subst (λ (w : Switching). term_node_at p t ≡ nodes.Switching (record n { form = w })) e is

-- `-->` and `fby`
abbrev pub IsAmongOutputs : Heading → Type 0
IsAmongOutputs k = (k ≡ Initialized) ⊎ (k ≡ Followed)

module _ (p : Program) (Γ : Context) (a : Kind) (k : Heading) (v : ExprId) (f : TermId) (c : Kind) (typed : HasType (names_of_values Γ) (expression (program_expressions p) v) c) where
  pub output_reached : IsAmongOutputs k → Fits a → Reaches p Γ (nodes.Headed k v f) a Γ f a
  output_reached (inl e) fits = subst (λ k. Reaches p Γ (nodes.Headed k v f) a Γ f a) (sym e) (head_part {h = Initialized} {a = a} typed fits)
  output_reached (inr e) fits = subst (λ k. Reaches p Γ (nodes.Headed k v f) a Γ f a) (sym e) (head_part {h = Followed} {a = a} typed fits)

module _ (p : Program) (Γ : Context) (t : TermId) (a : Kind) (s : Spot) (at : s ≡ term_spot_at p t) where
  -- inputs are pairs
  module _ (x y : Kind) (parts : a ≡ pair_kind x y) where
    pub left_reached : (f g : TermId) → Reaches p Γ (nodes.Joined InParallel f g) a Γ f x
    left_reached f g = subst (λ a. Reaches p Γ (nodes.Joined InParallel f g) a Γ f x) (sym parts) parallel_left

    pub right_reached : (f g : TermId) (b : Kind) → Takes Γ (tree p f) x b → Reaches p Γ (nodes.Joined InParallel f g) a Γ g y
    right_reached f g b h = subst (λ a. Reaches p Γ (nodes.Joined InParallel f g) a Γ g y) (sym parts) (parallel_right h)

    pub first_reached : (f : TermId) → Reaches p Γ (nodes.Sided First f) a Γ f x
    first_reached f = subst (λ a. Reaches p Γ (nodes.Sided First f) a Γ f x) (sym parts) first_part

    pub second_reached : (f : TermId) → Reaches p Γ (nodes.Sided Second f) a Γ f y
    second_reached f = subst (λ a. Reaches p Γ (nodes.Sided Second f) a Γ f y) (sym parts) second_part

  -- `loopPre`
  module _ (v : ExprId) (f : TermId) (is : term_node_at p t ≡ nodes.Headed LoopPre v f) (c : Kind) (typed : HasType (names_of_values Γ) (expression (program_expressions p) v) c) where
    pub loop_reached : (w : Kind) → w ≡ pair_kind a c → Fits w → Reaches p Γ (nodes.Headed LoopPre v f) a Γ f w
    loop_reached w e fits = subst (Reaches p Γ (nodes.Headed LoopPre v f) a Γ f) (sym e) (head_part {h = LoopPre} {a = a} typed (subst Fits e fits))

  -- a switch whose event stands beside its first term's value
  module _ (w : Observation) (f : TermId) (q : PatternId) (g : TermId) (d : Kind) (given : Takes Γ (tree p f) a d) where
    pub source_wants : (b c : Kind) → d ≡ pair_kind b (event_kind c) → BodyWanted p Γ (Basic w) f a a b c
    source_wants b c beside = after_source (subst (Takes Γ (tree p f) a) beside given)

  -- one whose event stands beside its input
  module _ (w : Observation) (f : TermId) (q : PatternId) (g : TermId) where
    module _ (x c : Kind) (beside : a ≡ pair_kind x (event_kind c)) where
      pub first_term_reached : Reaches p Γ (nodes.Switching (record { form = Recurring w; source = f; pattern = q; body = g })) a Γ f x
      first_term_reached = subst (λ a. Reaches p Γ (nodes.Switching (record { form = Recurring w; source = f; pattern = q; body = g })) a Γ f x) (sym beside) recurring_first

      pub input_wants : (b : Kind) → Takes Γ (tree p f) x b → BodyWanted p Γ (Recurring w) f a x b c
      input_wants b given = subst (λ a. BodyWanted p Γ (Recurring w) f a x b c) (sym beside) (beside_input given)

  -- a switch that keeps its source
  module _ (w : Observation) (f o : TermId) (k : NameId) (n : Spot) (q : PatternId) (g : TermId) (is : term_node_at p t ≡ nodes.Continuation (record { shown = w; source = f; observer = o; name = k; place = n; pattern = q; body = g })) (b : Kind) (given : Takes Γ (tree p f) a b) where
    module _ (v : Kind) (watched : AnswersKind (Some (pair_kind a b)) s (Ok v)) where
      pub observer_reached : Reaches p Γ (nodes.Continuation (record { shown = w; source = f; observer = o; name = k; place = n; pattern = q; body = g })) a Γ o v
      observer_reached =
          let same = same_Some _ _ watched.0 in
          subst (Reaches p Γ (nodes.Continuation (record { shown = w; source = f; observer = o; name = k; place = n; pattern = q; body = g })) a Γ o) same (continuing_observer given (subst Fits (sym same) watched.1))
