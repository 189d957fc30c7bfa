-- Quiet terms give a value without readings at each step, and cost their text.
use Rattle.std.proofs.Common.{◌≡◌, IsTrue, Bool, true, false, ◌&&◌, cond, List, [], ◌∷◌, Some, None, refl, ap, ◌∙◌, subst}
use Rattle.std.specs.Prelude.{Option}
use mathlib.Core.Path.{subst₂}
use Rattle.sf_value.specs.Values.{Data, pair, Rows, no_rows, row, first_of, second_of}
use Rattle.sf_expr.specs.Expressions.{Expression, variable, literal, applied, operation, conditional, mapped, folded, called, Function, function, paired}
use Rattle.sf_operator.specs.declared.operator.Unary.{Unary}
use Rattle.sf_operator.specs.declared.operator.Unary.TheVariants.{Not, Event, First as FirstOf, Second as SecondOf, IsEvent, Size}
use Rattle.sf_operator.specs.declared.operator.Operator.{Operator}
use Rattle.sf_operator.specs.declared.operator.Operator.TheVariants.{Arithmetic, Equality, Comparison, Logic, Tag, Attach, FromEvent, Gate, Merge, Get}
use Rattle.sf_operator.specs.declared.operator.Merge as merge
use Rattle.sf_operator.specs.declared.operator.Merge.TheVariants.{Left, Right, Exclusive}
use Rattle.sf_operator.specs.declared.operator.Mapping.{Mapping}
use Rattle.sf_operator.specs.declared.operator.Mapping.TheVariants.{Let, Filter, Map}
use Rattle.sf_operator.specs.declared.operator.Folding.{Folding}
use Rattle.sf_operator.specs.declared.operator.Folding.TheVariants as folding
use Rattle.sf_operator.specs.FunctionForms.{kept_payload, mapped_payload, mapped_value, matched_payload, merged_by, value_of_key, folded_rows, folded_value}
use Rattle.sf_operator.specs.Operations.{truth_held, halves_held, payload_held, rows_held, key_held, order_of, merged, unary_value, decided, operated}
use Rattle.sf_expr.specs.Evaluation.{Evaluated, answer, ◌>>=◌, known, Scope, bound_in, unless_decided, eval, apply}
use Rattle.sf_term.specs.declared.form.Bare.TheVariants.{Identity, LocalTime, Integral, Edge, NotYet, Once, Count, Pre}
use Rattle.sf_term.specs.declared.form.Accumulation.{Accumulation}
use Rattle.sf_term.specs.declared.form.Accumulation.TheVariants.{EdgeBy, AccumBy, AccumHoldBy, Scan}
use Rattle.sf_term.specs.declared.form.Join.{Join}
use Rattle.sf_term.specs.declared.form.Join.TheVariants.{InSequence, InParallel, FannedOut}
use Rattle.sf_term.specs.declared.form.Heading.TheVariants.{LoopPre, Initialized, Replaced, Followed}
use Rattle.sf_term.specs.Trees.{Chain, lone, on_side, on_both, fanned, Primitive, bare, probe, never, with_value, timed, selected, arrow, accumulated, fused, Extent, Term, primitive, reference, joined, sided, headed, transformed, switching, continuing, staged, gathered, releasing, editing, chained}
use Rattle.sf_mean.specs.Lives.{Step, step, wait_of, input_of, Life, Environment, scope_around, first_input, with_inputs, relay, fed}
use Rattle.sf_mean.specs.Formulas.{at_first, first_replaced, timed_formula, before, occurring, next_value, accumulation, event_where, accumulated_formula, side_of, side_replaced, apply_chain, value_formula, formula}
use Rattle.sf_mean.specs.Meaning.{Readings, Outcome, gave, as_outcome, newest_or, recorded, Cost, over, one_term, text_cost}
use Rattle.sf_rewrite.specs.Quiet.{is_quiet_unary, is_quiet_operator, is_quiet_expression, is_quiet_function, is_quiet_chain, is_quiet_primitive, is_quiet}
use Rattle.sf_rewrite.proofs.Parts.{Leaves, Part, part, Parts, begins, then_gave, At, at_primitive, at_join, at_stages, at_side, at_loop, at_initialized, at_replaced, at_followed, at_transformed, then_part, Rounds, no_round, one_round, no_truth, OneLeaf, once_at}

pub both_true : (a b : Bool) → a && b ≡ true → (a ≡ true) × (b ≡ true)
both_true true b h = (refl, h)
both_true false b h = absurd cc

abbrev pub Answers : Evaluated Data → Type 0
Answers v = (y : Data) × (v ≡ answer y)

-- an answer, and then another
next : (v : Evaluated Data) (f : Data → Evaluated Data) → Answers v → ((y : Data) → Answers (f y)) → Answers (v >>= f)
next v f a b = ((b a.0).0, ap (λ v. v >>= f) a.1 ∙ (b a.0).1)

-- the newest value, or an answer
newest_answers : (a : Evaluated Data) (ys : List Data) → Answers a → Answers (newest_or a ys)
newest_answers a [] h = h
newest_answers a (y ∷ ys) h = (y, refl)

-- what is made of a part of a value
of_known : {A : Type 0} (o : Option A) (f : A → Evaluated Data) → ((a : A) → Answers (f a)) → Answers (known o f)
of_known (Some a) f h = h a
of_known None f h = (_, refl)

quiet_unary : (o : Unary) (d : Data) → IsTrue (is_quiet_unary o) → Answers (unary_value o d)
quiet_unary Not d h = of_known (truth_held d) _ (λ b. (_, refl))
quiet_unary Event d h = (_, refl)
quiet_unary FirstOf d h = of_known (halves_held d) _ (λ p. (_, refl))
quiet_unary SecondOf d h = of_known (halves_held d) _ (λ p. (_, refl))
quiet_unary IsEvent d h = of_known (payload_held d) _ (λ e. (_, refl))
quiet_unary Size d h = absurd (no_truth h)

-- one event of two, where not both occur or one is preferred
quiet_merge : (m : merge.Merge) (e f : Option Data) → IsTrue (is_quiet_operator (Merge m)) → Answers (merged m e f)
quiet_merge m None f h = (_, refl)
quiet_merge m (Some x) None h = (_, refl)
quiet_merge Left (Some x) (Some y) h = (_, refl)
quiet_merge Right (Some x) (Some y) h = (_, refl)
quiet_merge Exclusive (Some x) (Some y) h = absurd (no_truth h)

quiet_operator : (op : Operator) (a b : Data) → IsTrue (is_quiet_operator op) → Answers (operated op a b)
quiet_operator (Arithmetic o) a b h = absurd (no_truth h)
quiet_operator (Equality o) a b h = (_, refl)
quiet_operator (Comparison o) a b h = of_known (order_of a b) _ (λ r. (_, refl))
quiet_operator (Logic o) a b h = (_, refl)
quiet_operator Tag a b h = of_known (payload_held a) _ (λ e. (_, refl))
quiet_operator Attach a b h = of_known (payload_held a) _ (λ e. (_, refl))
quiet_operator FromEvent a b h = of_known (payload_held a) _ (λ e. (_, refl))
quiet_operator Gate a b h = of_known (truth_held b) _ (λ c. (_, refl))
quiet_operator (Merge m) a b h = of_known (payload_held a) _ (λ e. of_known (payload_held b) _ (λ f. quiet_merge m e f h))
quiet_operator Get a b h = of_known (rows_held a) _ (λ rs. of_known (key_held b) _ (λ k. (_, refl)))

-- what the first operand decides, or an answer
or_decided : (o : Option Data) (v : Evaluated Data) → Answers v → Answers (unless_decided o v)
or_decided (Some d) v h = (d, refl)
or_decided None v h = h

chosen : (b : Bool) (v w : Evaluated Data) → Answers v → Answers w → Answers (cond b v w)
chosen true v w h k = h
chosen false v w h k = k

-- what is made with a function that has an answer for each value
module _ (f : Data → Evaluated Data) (h : (x : Data) → Answers (f x)) where
  quiet_kept : (e : Option Data) → Answers (kept_payload e f)
  quiet_kept None = (_, refl)
  quiet_kept (Some x) = next (f x) _ (h x) (λ b. of_known (truth_held b) _ (λ c. (_, refl)))

  quiet_payload : (e : Option Data) → Answers (mapped_payload e f)
  quiet_payload None = (_, refl)
  quiet_payload (Some x) = next (f x) _ (h x) (λ y. (_, refl))

  quiet_mapped : (m : Mapping) (d : Data) → Answers (mapped_value m d f)
  quiet_mapped Let d = h d
  quiet_mapped Filter d = of_known (payload_held d) _ quiet_kept
  quiet_mapped Map d = of_known (payload_held d) _ quiet_payload

  quiet_matched : (e : Option Data) (other : Evaluated Data) → Answers other → Answers (matched_payload e other f)
  quiet_matched None other k = k
  quiet_matched (Some x) other k = h x

  quiet_both : (e g : Option Data) → Answers (merged_by e g f)
  quiet_both None g = (_, refl)
  quiet_both (Some x) None = (_, refl)
  quiet_both (Some x) (Some y) = next (f (pair x y)) _ (h (pair x y)) (λ z. (_, refl))

  quiet_rows : (rs : Rows) (d : Data) → Answers (folded_rows rs d f)
  quiet_rows no_rows d = (d, refl)
  quiet_rows (row k x rs) d = next (f (pair d (pair (value_of_key k) x))) (λ c. folded_rows rs c f) (h (pair d (pair (value_of_key k) x))) (quiet_rows rs)

  quiet_folded : (o : Folding) (d : Data) (other : Evaluated Data) → Answers other → Answers (folded_value o d other f)
  quiet_folded folding.Match d other k = of_known (payload_held d) _ (λ e. quiet_matched e other k)
  quiet_folded folding.Merge d other k = next other _ k (λ c. of_known (payload_held d) _ (λ e. of_known (payload_held c) _ (quiet_both e)))
  quiet_folded folding.Fold d other k = next other _ k (λ c. of_known (rows_held d) _ (λ rs. quiet_rows rs c))

pub quiet_eval : (i : Expression) → IsTrue (is_quiet_expression i) → (sc : Scope) → Answers (eval i sc)
quiet_eval (variable x) h sc = (_, refl)
quiet_eval (literal n) h sc = (_, refl)
quiet_eval (paired a b) h sc =
    let k = both_true (is_quiet_expression a) (is_quiet_expression b) h in
    next (eval a sc) (λ x. eval b sc >>= λ y. answer (pair x y)) (quiet_eval a k.0 sc) (λ x. next (eval b sc) (λ y. answer (pair x y)) (quiet_eval b k.1 sc) (λ y. (pair x y, refl)))
quiet_eval (applied o a) h sc =
    let k = both_true (is_quiet_unary o) (is_quiet_expression a) h in
    next (eval a sc) (unary_value o) (quiet_eval a k.1 sc) (λ x. quiet_unary o x k.0)
quiet_eval (operation a op b) h sc =
    let k = both_true (is_quiet_operator op) (is_quiet_expression a && is_quiet_expression b) h in
    let l = both_true (is_quiet_expression a) (is_quiet_expression b) k.1 in
    next (eval a sc) (λ x. unless_decided (decided op x) (eval b sc >>= operated op x)) (quiet_eval a l.0 sc)
    (λ x. or_decided (decided op x) (eval b sc >>= operated op x) (next (eval b sc) (operated op x) (quiet_eval b l.1 sc) (λ y. quiet_operator op x y k.0)))
quiet_eval (conditional a b c) h sc =
    let k = both_true (is_quiet_expression a) (is_quiet_expression b && is_quiet_expression c) h in
    let l = both_true (is_quiet_expression b) (is_quiet_expression c) k.1 in
    next (eval a sc) (λ x. known (truth_held x) (λ t. cond t (eval b sc) (eval c sc))) (quiet_eval a k.0 sc)
    (λ x. of_known (truth_held x) _ (λ t. chosen t (eval b sc) (eval c sc) (quiet_eval b l.0 sc) (quiet_eval c l.1 sc)))
quiet_eval (mapped a m p b) h sc =
    let k = both_true (is_quiet_expression a) (is_quiet_expression b) h in
    next (eval a sc) (λ x. mapped_value m x (λ y. eval b (bound_in p y sc))) (quiet_eval a k.0 sc)
    (quiet_mapped (λ y. eval b (bound_in p y sc)) (λ y. quiet_eval b k.1 (bound_in p y sc)) m)
quiet_eval (folded a o b p c) h sc =
    let k = both_true (is_quiet_expression a) (is_quiet_expression b && is_quiet_expression c) h in
    let l = both_true (is_quiet_expression b) (is_quiet_expression c) k.1 in
    next (eval a sc) (λ x. folded_value o x (eval b sc) (λ y. eval c (bound_in p y sc))) (quiet_eval a k.0 sc)
    (λ x. quiet_folded (λ y. eval c (bound_in p y sc)) (λ y. quiet_eval c l.1 (bound_in p y sc)) o x (eval b sc) (quiet_eval b l.0 sc))
quiet_eval (called g i) h sc = absurd (no_truth h)

quiet_apply : (f : Function) → IsTrue (is_quiet_function f) → (x : Data) (sc : Scope) → Answers (apply f x sc)
quiet_apply (function p i) h x sc = quiet_eval i h (bound_in p x sc)

pub quiet_chain : (f : Chain) → IsTrue (is_quiet_chain f) → (x : Data) (sc : Scope) → Answers (apply_chain f x sc)
quiet_chain (lone f) h x sc = quiet_apply f h x sc
quiet_chain (chained f g) h x sc =
    let k = both_true (is_quiet_chain f) (is_quiet_chain g) h in
    next (apply_chain f x sc) (λ y. apply_chain g y sc) (quiet_chain f k.0 x sc) (λ y. quiet_chain g k.1 y sc)
quiet_chain (on_side d f) h x sc = next (apply_chain f (side_of d x) sc) (λ y. answer (side_replaced d x y)) (quiet_chain f h (side_of d x) sc) (λ y. (side_replaced d x y, refl))
quiet_chain (on_both f g) h x sc =
    let k = both_true (is_quiet_chain f) (is_quiet_chain g) h in
    next (apply_chain f (first_of x) sc) (λ y. apply_chain g (second_of x) sc >>= λ z. answer (pair y z)) (quiet_chain f k.0 (first_of x) sc)
    (λ y. next (apply_chain g (second_of x) sc) (λ z. answer (pair y z)) (quiet_chain g k.1 (second_of x) sc) (λ z. (pair y z, refl)))
quiet_chain (fanned f g) h x sc =
    let k = both_true (is_quiet_chain f) (is_quiet_chain g) h in
    next (apply_chain f x sc) (λ y. apply_chain g x sc >>= λ z. answer (pair y z)) (quiet_chain f k.0 x sc)
    (λ y. next (apply_chain g x sc) (λ z. answer (pair y z)) (quiet_chain g k.1 x sc) (λ z. (pair y z, refl)))

-- an accumulation of a quiet function
quiet_next : (f : Function) → IsTrue (is_quiet_function f) → (sc : Scope) (w : Data) (o : Option Data) → Answers (next_value f sc w o)
quiet_next f h sc w None = (w, refl)
quiet_next f h sc w (Some x) = quiet_apply f h (pair w x) sc

quiet_accumulation : (coming : Data → Option Data) (f : Function) → IsTrue (is_quiet_function f) → (sc : Scope) (v : Data) (L : Life) → Answers (accumulation coming f sc v L)
quiet_accumulation coming f h sc v [] = (v, refl)
quiet_accumulation coming f h sc v (s ∷ L) = next (accumulation coming f sc v L) (λ w. next_value f sc w (coming (input_of s))) (quiet_accumulation coming f h sc v L) (λ w. quiet_next f h sc w (coming (input_of s)))

quiet_accumulated : (k : Accumulation) (f : Function) → IsTrue (is_quiet_function f) → (sc : Scope) (v : Data) (s : Step) (L : Life) → Answers (accumulated_formula k f sc v s L)
quiet_accumulated EdgeBy f h sc v s L = quiet_apply f h (pair (before v L) (input_of s)) sc
quiet_accumulated AccumBy f h sc v s L = next (accumulation occurring f sc v (s ∷ L)) (λ w. answer (event_where (occurring (input_of s)) w)) (quiet_accumulation occurring f h sc v (s ∷ L)) (λ w. (_, refl))
quiet_accumulated AccumHoldBy f h sc v s L = quiet_accumulation occurring f h sc v (s ∷ L)
quiet_accumulated Scan f h sc v s L = quiet_accumulation Some f h sc v (s ∷ L)

quiet_formula : (p : Primitive) → IsTrue (is_quiet_primitive p) → (sc : Scope) (s : Step) (L : Life) → Answers (formula p sc s L)
quiet_formula (bare Identity) h sc s L = (_, refl)
quiet_formula (bare LocalTime) h sc s L = absurd (no_truth h)
quiet_formula (bare Integral) h sc s L = absurd (no_truth h)
quiet_formula (bare Edge) h sc s L = (_, refl)
quiet_formula (bare NotYet) h sc s L = (_, refl)
quiet_formula (bare Once) h sc s L = (_, refl)
quiet_formula (bare Count) h sc s L = absurd (no_truth h)
quiet_formula (bare Pre) h sc s L = (_, refl)
quiet_formula (probe k) h sc s L = absurd (no_truth h)
quiet_formula (never t) h sc s L = (_, refl)
quiet_formula (with_value k i) h sc s L = next (eval i sc) (λ v. answer (value_formula k v s L)) (quiet_eval i h sc) (λ v. (value_formula k v s L, refl))
quiet_formula (arrow f) h sc s L = quiet_apply f h (input_of s) sc
quiet_formula (timed k q i) h sc s L = next (eval i sc) (λ v. answer (timed_formula k q v s L)) (quiet_eval i h sc) (λ v. (_, refl))
quiet_formula (selected k n) h sc s L = (_, refl)
quiet_formula (accumulated k i f) h sc s L =
    let both = both_true (is_quiet_expression i) (is_quiet_function f) h in
    next (eval i sc) (λ v. accumulated_formula k f sc v s L) (quiet_eval i both.0 sc) (λ v. quiet_accumulated k f both.1 sc v s L)
quiet_formula (fused f) h sc s L = quiet_chain f h (input_of s) sc

-- a quiet primitive has no readings
no_readings : (p : Primitive) → IsTrue (is_quiet_primitive p) → (s : Step) → recorded p s ≡ []
no_readings (bare k) h s = refl
no_readings (probe k) h s = absurd (no_truth h)
no_readings (never t) h s = refl
no_readings (with_value k i) h s = refl
no_readings (timed k q i) h s = refl
no_readings (selected k n) h s = refl
no_readings (arrow f) h s = refl
no_readings (accumulated k i f) h s = refl
no_readings (fused f) h s = refl

module _ (Q : Leaves) (one : OneLeaf Q) where
  -- a value without readings at each step, at the cost of the text
  abbrev pub Steps : Term → Type 0
  Steps t = (e : Environment) (s : Step) (L : Life) (ys : List Data) → Parts Q t e L ys → (y : Data) × At Q t e s L (gave y []) (text_cost t)

  pub all_steps : {t : Term} → Steps t → (e : Environment) (L : Life) → (ys : List Data) × Parts Q t e L ys
  all_steps S e [] = ([], begins)
  all_steps S e (s ∷ L) =
      let k = all_steps S e L in
      let r = S e s L k.0 k.1 in
      (r.0 ∷ k.0, then_gave k.1 r.1)

  -- a part at its newest step
  pub last_step : {t : Term} → Steps t → (e : Environment) (s : Step) (L : Life) → (y : Data) × Part Q t e (s ∷ L) (gave y []) (text_cost t)
  last_step S e s L =
      let k = all_steps S e L in
      let r = S e s L k.0 k.1 in
      (r.0, part k.1 r.1)

  steps_join : (j : Join) {f g : Term} → Steps f → Steps g → Steps (joined j f g)
  steps_join InSequence S T e s L zs P =
      let k = all_steps S e L in
      let r = last_step S e s L in
      let q = last_step T e (step (wait_of s) r.0) (relay L k.0) in
      (q.0, at_join k.1 r.1 (then_part q.1))
  steps_join InParallel S T e s L zs P =
      let k = all_steps S e (with_inputs first_of L) in
      let r = last_step S e (step (wait_of s) (first_of (input_of s))) (with_inputs first_of L) in
      let q = last_step T e (step (wait_of s) (second_of (input_of s))) (with_inputs second_of L) in
      (pair r.0 q.0, at_join k.1 r.1 (then_part q.1))
  steps_join FannedOut S T e s L zs P =
      let k = all_steps S e L in
      let r = last_step S e s L in
      let q = last_step T e s L in
      (pair r.0 q.0, at_join k.1 r.1 (then_part q.1))

  steps_stages : {x : Extent} {f g : Term} → Steps f → Steps g → Steps (staged x f g)
  steps_stages S T e s L zs P =
      let k = all_steps S e L in
      let r = last_step S e s L in
      let q = last_step T e (step (wait_of s) r.0) (relay L k.0) in
      (q.0, at_stages k.1 r.1 (then_part q.1))

  fed_step : {t : Term} → Steps t → (e : Environment) (v : Data) (s : Step) (L : Life) (zs : List Data) → (y : Data) × Part Q t e (fed v (s ∷ L) zs) (gave y []) (text_cost t)
  fed_step S e v s L zs = last_step S e _ _

  all_rounds : {t : Term} → Steps t → (e : Environment) (v : Data) (L : Life) → (zs : List Data) × Rounds Q v t e L zs
  all_rounds S e v [] = ([], no_round)
  all_rounds S e v (s ∷ L) =
      let k = all_rounds S e v L in
      let r = fed_step S e v s L k.0 in
      (r.0 ∷ k.0, one_round k.1 r.1)

  steps_loop : (i : Expression) {t : Term} → IsTrue (is_quiet_expression i) → Steps t → Steps (headed LoopPre i t)
  steps_loop i h S e s L zs P =
      let v = quiet_eval i h (scope_around Q.functions e) in
      let k = all_rounds S e v.0 L in
      let r = fed_step S e v.0 s L k.0 in
      (first_of r.0, at_loop v.1 k.1 r.1)

  steps_initialized : (i : Expression) {t : Term} → IsTrue (is_quiet_expression i) → Steps t → Steps (headed Initialized i t)
  steps_initialized i h S e s L ys P =
      let v = quiet_eval i h (scope_around Q.functions e) in
      let r = last_step S e s L in
      (at_first L v.0 r.0, at_initialized v.1 r.1)

  steps_replaced : (i : Expression) {t : Term} → IsTrue (is_quiet_expression i) → Steps t → Steps (headed Replaced i t)
  steps_replaced i h S e s L ys P =
      let v = quiet_eval i h (scope_around Q.functions e) in
      let r = last_step S e (step (wait_of s) (at_first L v.0 (input_of s))) (first_replaced v.0 L) in
      (r.0, at_replaced v.1 r.1)

  steps_followed : (i : Expression) {t : Term} → IsTrue (is_quiet_expression i) → Steps t → Steps (headed Followed i t)
  steps_followed i {t} h S e s L zs P =
      let k = all_steps S e L in
      let r = last_step S e s L in
      let v = newest_answers (eval i (scope_around Q.functions e)) k.0 (quiet_eval i h (scope_around Q.functions e)) in
      let N : Evaluated Data → Type 0 = λ a. At Q (headed Followed i t) e s L (as_outcome a []) (over (text_cost t)) in
      (v.0, subst N v.1 (at_followed k.1 r.1))

  steps_transformed : (f : Function) {t : Term} → IsTrue (is_quiet_function f) → Steps t → Steps (transformed f t)
  steps_transformed f h S e s L ys P =
      let v = quiet_apply f h (first_input s L) (scope_around Q.functions e) in
      let r = last_step S e (step (wait_of s) (at_first L v.0 (input_of s))) (first_replaced v.0 L) in
      (r.0, at_transformed v.1 r.1)

  pub quiet_steps : (t : Term) → IsTrue (is_quiet t) → Steps t
  quiet_steps (primitive p) h = λ e s L ys P.
      let r = quiet_formula p h (scope_around Q.functions e) s L in
      let N : Evaluated Data → Readings → Type 0 = λ v q. At Q (primitive p) e s L (as_outcome v q) one_term in
      (r.0, subst₂ N r.1 (no_readings p h s) at_primitive)
  quiet_steps (joined j f g) h = let k = both_true (is_quiet f) (is_quiet g) h in steps_join j (quiet_steps f k.0) (quiet_steps g k.1)
  quiet_steps (sided d t) h = λ e s L ys P.
      let r = last_step (quiet_steps t h) e (step (wait_of s) (side_of d (input_of s))) (with_inputs (side_of d) L) in
      (side_replaced d (input_of s) r.0, at_side r.1)
  quiet_steps (headed LoopPre i t) h = let k = both_true (is_quiet_expression i) (is_quiet t) h in steps_loop i k.0 (quiet_steps t k.1)
  quiet_steps (headed Initialized i t) h = let k = both_true (is_quiet_expression i) (is_quiet t) h in steps_initialized i k.0 (quiet_steps t k.1)
  quiet_steps (headed Replaced i t) h = let k = both_true (is_quiet_expression i) (is_quiet t) h in steps_replaced i k.0 (quiet_steps t k.1)
  quiet_steps (headed Followed i t) h = let k = both_true (is_quiet_expression i) (is_quiet t) h in steps_followed i k.0 (quiet_steps t k.1)
  quiet_steps (transformed f t) h = let k = both_true (is_quiet_function f) (is_quiet t) h in steps_transformed f k.0 (quiet_steps t k.1)
  quiet_steps (switching w t p u) h = absurd (no_truth h)
  quiet_steps (reference r) h = absurd (no_truth h)
  quiet_steps (continuing w t q k p u) h = absurd (no_truth h)
  quiet_steps (gathered i) h = absurd (no_truth h)
  quiet_steps (releasing w i q k p u) h = absurd (no_truth h)
  quiet_steps (editing w i k p u) h = absurd (no_truth h)
  quiet_steps (staged x f g) h = let k = both_true (is_quiet f) (is_quiet g) h in steps_stages (quiet_steps f k.0) (quiet_steps g k.1)

  -- what a quiet term gave
  pub quiet_gave : {t : Term} {e : Environment} {s : Step} {L : Life} {ys : List Data} {o : Outcome} {c : Cost} → IsTrue (is_quiet t) → Parts Q t e L ys → At Q t e s L o c → (y : Data) × (o ≡ gave y []) × (c ≡ text_cost t)
  quiet_gave {t} {e} {s} {L} {ys} h P A =
      let r = quiet_steps t h e s L ys P in
      let q = once_at Q one A r.1 in
      (r.0, q.0, q.1)
