-- Where types differ in an expression, it is refused there.
use Rattle.std.proofs.Common.{◌≡◌, Option, Some, None, Ok, Err, refl, sym, ap, ◌∙◌}
use Rattle.sf_value.specs.Values.{Kind}
use Rattle.sf_refusal.specs.declared.spot.Spot.{Spot}
use Rattle.sf_refusal.specs.declared.rule.Rule.TheVariants.{Mismatch}
use Rattle.sf_refusal.specs.declared.refusal.Breach.{Breach}
use Rattle.sf_refusal.specs.Refusals.{breach_of}
use Rattle.sf_operator.specs.Kinds.{unary_kind, binary_kind, conditional_kind, mapped_argument, mapped_kind, called_kind, folded_argument, folded_kind}
use Rattle.sf_expr.specs.declared.exprs.ExprId.{ExprId}
use Rattle.sf_expr.specs.declared.exprs.ExprNode.{ExprNode}
use Rattle.sf_expr.specs.declared.exprs.FunctionId.{FunctionId}
use Rattle.sf_expr.specs.declared.exprs.Exprs.{Exprs}
use Rattle.sf_expr.specs.Patterns.{PlacedPattern}
use Rattle.sf_expr.specs.Arena.{spot_at, stored_pattern}
use Rattle.sf_expr.specs.Typing.{Names, Fits}
use Rattle.sf_expr.specs.Judging.{◌>>=◌, Judge, judged_fitting, bound_judged, form_judged, judged, function_judged}
use Rattle.sf_expr.specs.Refusals.{Refused, FunctionRefused}
use Rattle.sf_expr.proofs.Judged.{judged_form, typed_judged, binds_binding, kind_answers}
use Rattle.sf_differ.specs.declared.difference.Difference.{Difference}
use Rattle.sf_differ.specs.Differences.{DiffersAt}
use Rattle.sf_differ.specs.Wanting.{IsMade}
use Rattle.sf_differ.specs.Differing.{NodeDiffers, operand_differs, left_differs, right_differs, condition_differs, other_differs, mapping_differs, mapped_pattern_differs, mapped_differs, folding_differs, folded_pattern_differs, second_differs, folded_differs, called_differs, ReachesPart, pair_first, pair_second, operand_part, left_part, right_part, condition_part, one_part, other_part, mapped_part, mapped_body, folded_first, folded_second, folded_body, called_part, ExpressionDiffers, differs_itself, differs_within, BoundDiffers, bound_pattern, bound_body, FunctionDiffers}

none_made : (o : Option Kind) → (IsMade o → ⊥) → o ≡ None
none_made None none = refl
none_made (Some t) none = absurd (none (record { made = t; is = refl }))

-- what differs can't stand there
pub none_stands : {can : Kind → Type 0} {s : Spot} {t : Kind} {d : Difference} → DiffersAt can s t d → can t → ⊥
none_stands {t = t} h k = h.other (h.wants.only t k)

unmade : (o : Option Kind) {s q : Spot} → (IsMade o → ⊥) → q ≡ s → judged_fitting s o ≡ Err (breach_of Mismatch q)
unmade o {s} none at = ap (judged_fitting s) (none_made o none) ∙ ap (λ s. Err (breach_of Mismatch s)) (sym at)

-- a type that is found and fits
fits_at : (s : Spot) (o : Option Kind) (a : Kind) → o ≡ Some a → Fits a → judged_fitting s o ≡ Ok a
fits_at s o a e f = kind_answers o s (Ok a) (e, f)

module _ (x : Exprs) (R : Names) (s : Spot) where
  node_refused : {n : ExprNode} {d : Difference} → NodeDiffers x R s n d → form_judged x (judged x) s n R ≡ Err (breach_of Mismatch d.spot)
  node_refused (operand_differs {o = o} {i = i} {t = t} h k) = rw (typed_judged x R i t h) (unmade (unary_kind o t) (λ m. none_stands k m) k.at)
  node_refused (left_differs {op = op} {i = i} {j = j} {t = t} {u = u} h l k) = rw (typed_judged x R i t h, typed_judged x R j u l) (unmade (binary_kind op t u) (λ m. none_stands k (u, m)) k.at)
  node_refused (right_differs {op = op} {i = i} {j = j} {t = t} {u = u} h l k) = rw (typed_judged x R i t h, typed_judged x R j u l) (unmade (binary_kind op t u) (λ m. none_stands k m) k.at)
  node_refused (condition_differs {i = i} {j = j} {k = k} {c = c} {t = t} {u = u} h l m w) =
      rw (typed_judged x R i c h, typed_judged x R j t l, typed_judged x R k u m) (unmade (conditional_kind c t u) (λ m. none_stands w (t, u, m)) w.at)
  node_refused (other_differs {i = i} {j = j} {k = k} {c = c} {t = t} {u = u} h l m w) =
      rw (typed_judged x R i c h, typed_judged x R j t l, typed_judged x R k u m) (unmade (conditional_kind c t u) (λ m. none_stands w m) w.at)
  node_refused (mapping_differs {n = n} {t = t} {d = d} h w) =
      let none : judged_fitting s (mapped_argument n.mapping t) ≡ Err (breach_of Mismatch d.spot) = unmade (mapped_argument n.mapping t) (λ m. none_stands w m) w.at in
      rw (typed_judged x R n.part t h, none) refl
  node_refused (mapped_pattern_differs {n = n} {t = t} {a = a} h e f w) =
      rw (typed_judged x R n.part t h, fits_at s (mapped_argument n.mapping t) a e f, w.refused.first R) refl
  node_refused (mapped_differs {n = n} {t = t} {a = a} {u = u} {S = S} h e f binds l w) =
      rw (typed_judged x R n.part t h, fits_at s (mapped_argument n.mapping t) a e f, binds_binding s (stored_pattern x n.pattern) binds, typed_judged x S n.body u l) (unmade (mapped_kind n.mapping t u) (λ m. none_stands w m) w.at)
  node_refused (folding_differs {n = n} {t = t} {u = u} {d = d} h l w) =
      let none : judged_fitting s (folded_argument n.folding t u) ≡ Err (breach_of Mismatch d.spot) = unmade (folded_argument n.folding t u) (λ m. none_stands w (u, m)) w.at in
      rw (typed_judged x R n.first t h, typed_judged x R n.second u l, none) refl
  node_refused (folded_pattern_differs {n = n} {t = t} {u = u} {a = a} h l e f w) =
      rw (typed_judged x R n.first t h, typed_judged x R n.second u l, fits_at s (folded_argument n.folding t u) a e f, w.refused.first R) refl
  node_refused (second_differs {n = n} {t = t} {u = u} {a = a} {v = v} {S = S} h l e f binds m w) =
      rw (typed_judged x R n.first t h, typed_judged x R n.second u l, fits_at s (folded_argument n.folding t u) a e f, binds_binding s (stored_pattern x n.pattern) binds, typed_judged x S n.body v m) (unmade (folded_kind n.folding t u v) (λ m. none_stands w (v, m)) w.at)
  node_refused (folded_differs {n = n} {t = t} {u = u} {a = a} {v = v} {S = S} h l e f binds m w) =
      rw (typed_judged x R n.first t h, typed_judged x R n.second u l, fits_at s (folded_argument n.folding t u) a e f, binds_binding s (stored_pattern x n.pattern) binds, typed_judged x S n.body v m) (unmade (folded_kind n.folding t u v) (λ m. none_stands w m) w.at)
  node_refused (called_differs {i = i} {fs = fs} {t = t} h named w) = rw (typed_judged x R i t h, named) (unmade (called_kind fs.from fs.to t) (λ m. none_stands w m) w.at)

  part_refused : {n : ExprNode} {S : Names} {j : ExprId} {b : Breach} → ReachesPart x R n S j → judged x j S ≡ Err b → form_judged x (judged x) s n R ≡ Err b
  part_refused pair_first e = rw e refl
  part_refused (pair_second {i = i} {t = t} h) e = rw (typed_judged x R i t h, e) refl
  part_refused operand_part e = rw e refl
  part_refused left_part e = rw e refl
  part_refused (right_part {i = i} {t = t} h) e = rw (typed_judged x R i t h, e) refl
  part_refused condition_part e = rw e refl
  part_refused (one_part {i = i} {c = c} h) e = rw (typed_judged x R i c h, e) refl
  part_refused (other_part {i = i} {j = j} {c = c} {t = t} h l) e = rw (typed_judged x R i c h, typed_judged x R j t l, e) refl
  part_refused mapped_part e = rw e refl
  part_refused (mapped_body {n = n} {t = t} {a = a} h g f binds) e = rw (typed_judged x R n.part t h, fits_at s (mapped_argument n.mapping t) a g f, binds_binding s (stored_pattern x n.pattern) binds, e) refl
  part_refused folded_first e = rw e refl
  part_refused (folded_second {n = n} {t = t} h) e = rw (typed_judged x R n.first t h, e) refl
  part_refused (folded_body {n = n} {t = t} {u = u} {a = a} h l g f binds) e =
      rw (typed_judged x R n.first t h, typed_judged x R n.second u l, fits_at s (folded_argument n.folding t u) a g f, binds_binding s (stored_pattern x n.pattern) binds, e) refl
  part_refused called_part e = rw e refl

module _ (x : Exprs) where
  differs_judged : (R : Names) (i : ExprId) {d : Difference} → ExpressionDiffers x R i d → judged x i R ≡ Err (breach_of Mismatch d.spot)
  differs_judged R i (differs_itself h) = ap (λ (j : Judge). j R) (judged_form x i) ∙ node_refused x R (spot_at x i) h
  differs_judged R i (differs_within {S = S} {j = j} reached h) = ap (λ (j : Judge). j R) (judged_form x i) ∙ part_refused x R (spot_at x i) reached (differs_judged S j h)

  -- the expression is refused there
  pub expression_refused : {R : Names} {i : ExprId} {d : Difference} → ExpressionDiffers x R i d → Refused x R i (breach_of Mismatch d.spot)
  expression_refused {R} {i} h = record { first = differs_judged R i h }

  bound_refused : {R : Names} {p : PlacedPattern} {i : ExprId} {a : Kind} {s : Spot} {d : Difference} → BoundDiffers x R p i a s d → bound_judged s p a (judged x i) R ≡ Err (breach_of Mismatch d.spot)
  bound_refused {R} {i = i} (bound_pattern h) = ap (λ r. r >>= judged x i) (h.refused.first R)
  bound_refused {p = p} {i = i} {s = s} (bound_body {S = S} binds h) = ap (λ r. r >>= judged x i) (binds_binding s p binds) ∙ differs_judged S i h

  -- so is the function
  pub function_refused : {R : Names} {f : FunctionId} {a : Kind} {s : Spot} {d : Difference} → FunctionDiffers x R f a s d → FunctionRefused x R f a s (breach_of Mismatch d.spot)
  unfolding function_judged
  function_refused h = record { first = bound_refused h }
