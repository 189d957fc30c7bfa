-- Plans take the types that their terms take.
use Rattle.std.proofs.Common.{◌≡◌, List, ◌∷◌, map, refl, sym, ap, subst}
use Rattle.std.proofs.lemmas.Option.{same_Some}
use mathlib.Core.Path.{ap₂}
use Rattle.sf_value.specs.Values.{Name, Kind, KeyKind}
use Rattle.sf_func.specs.Registries.{TypesByName}
use Rattle.sf_expr.specs.Expressions.{Pattern, Expression, Function}
use Rattle.sf_term.specs.declared.form.Join.{Join}
use Rattle.sf_term.specs.declared.form.Side.{Side}
use Rattle.sf_term.specs.declared.form.Heading.{Heading}
use Rattle.sf_term.specs.declared.form.Observation.{Observation}
use Rattle.sf_term.specs.declared.form.Switching.{Switching}
use Rattle.sf_term.specs.Trees.{Chain, Extent, Term, Arguments, joined, sided, headed, transformed, switching, continuing, staged, Template, Templates, gathered, releasing, editing, Collection}
use Rattle.sf_mean.specs.Contexts.{Context, Bindings, Signature, signature_of, outer_context, inside_pattern, inside_process, inside_collection}
use Rattle.sf_mean.specs.Typing.{ChainTakes, lone_takes, chained_takes, on_first_takes, on_second_takes, on_both_takes, fanned_takes, bare_takes, value_takes, arrow_takes, fused_takes, Takes, takes, primitive_takes, call_takes, ArgumentsFit, value_fits, process_fits, closed_fits, sequence_takes, parallel_takes, fan_takes, first_takes, second_takes, loop_takes, initialized_takes, replaced_takes, followed_takes, transformed_takes, switch_takes, continuing_takes, recurring_takes, stages_take, gathered_takes, releasing_takes, editing_takes, Collects, collects_added, collects_dropped, collects_kept, collects_chosen, collection_fits}
use Rattle.sf_mean.proofs.Inferred.{input_fits, output_fits}
use Rattle.sf_rewrite.specs.Laws.{arr, Laws, unchanged, in_turn, in_join, in_stages, in_side, in_heading, in_transformed, in_switch, as_pipeline, within_pipeline, associate_right, associate_left, identity_before, identity_after, arr_as_chain, chain_as_arr, arr_composed, arr_on_side, arr_in_parallel, arr_fanned_out, sides_composed, exchanged, constant_after, left_tightened, right_tightened}
use Rattle.sf_rewrite.specs.Plans.{Plans, plans, PlansParts, of_primitive, of_started, of_call, PlansArguments, of_no_arguments, of_value_argument, of_named_argument, of_closed_argument, of_term_argument, of_join, of_side, of_heading, of_transformed, of_switch, of_continuing, PlansTemplate, PlansAll, no_templates, one_more, of_gathered, of_releasing, of_editing, PlansCollection, of_without, of_used, of_added, of_dropped, of_kept, of_chosen, of_collection_argument}

abbrev Extends : Context → Term → Term → Type 0
Extends Γ t u = (a b : Kind) → Takes Γ t a b → Takes Γ u a b

module _ {Γ : Context} where
  keeps_join : {j : Join} {f f' g g' : Term} → Extends Γ f f' → Extends Γ g g' → Extends Γ (joined j f g) (joined j f' g')
  keeps_join F G a b (takes p q (sequence_takes f g)) = takes p q (sequence_takes (F _ _ f) (G _ _ g))
  keeps_join F G a b (takes p q (parallel_takes f g)) = takes p q (parallel_takes (F _ _ f) (G _ _ g))
  keeps_join F G a b (takes p q (fan_takes f g)) = takes p q (fan_takes (F _ _ f) (G _ _ g))

  keeps_stages : {x : Extent} {f f' g g' : Term} → Extends Γ f f' → Extends Γ g g' → Extends Γ (staged x f g) (staged x f' g')
  keeps_stages F G a b (takes p q (stages_take f g)) = takes p q (stages_take (F _ _ f) (G _ _ g))

  keeps_side : {d : Side} {t t' : Term} → Extends Γ t t' → Extends Γ (sided d t) (sided d t')
  keeps_side F a b (takes p q (first_takes f)) = takes p q (first_takes (F _ _ f))
  keeps_side F a b (takes p q (second_takes f)) = takes p q (second_takes (F _ _ f))

  keeps_heading : {h : Heading} {i : Expression} {t t' : Term} → Extends Γ t t' → Extends Γ (headed h i t) (headed h i t')
  keeps_heading F a b (takes p q (loop_takes e f)) = takes p q (loop_takes e (F _ _ f))
  keeps_heading F a b (takes p q (initialized_takes e f)) = takes p q (initialized_takes e (F _ _ f))
  keeps_heading F a b (takes p q (replaced_takes e f)) = takes p q (replaced_takes e (F _ _ f))
  keeps_heading F a b (takes p q (followed_takes e f)) = takes p q (followed_takes e (F _ _ f))

  keeps_transformed : {f : Function} {t t' : Term} → Extends Γ t t' → Extends Γ (transformed f t) (transformed f t')
  keeps_transformed F a b (takes p q (transformed_takes e f)) = takes p q (transformed_takes e (F _ _ f))

  keeps_switch : {w : Switching} {t t' u u' : Term} {p : Pattern} → Extends Γ t t' → ((c : Kind) → Extends (inside_pattern p c Γ) u u') → Extends Γ (switching w t p u) (switching w t' p u')
  keeps_switch F G a b (takes x y (switch_takes f h g)) = takes x y (switch_takes (F _ _ f) h (G _ _ _ g))
  keeps_switch F G a b (takes x y (recurring_takes f h g)) = takes x y (recurring_takes (F _ _ f) h (G _ _ _ g))

  keeps_continuing : {w : Observation} {t t' q q' u u' : Term} {k : Name} {p : Pattern} → Extends Γ t t' → Extends Γ q q' → ((a b c : Kind) → Extends (inside_pattern p c (inside_process k a b Γ)) u u') → Extends Γ (continuing w t q k p u) (continuing w t' q' k p u')
  keeps_continuing F H G a b (takes x y (continuing_takes f i h g)) = takes x y (continuing_takes (F _ _ f) (H _ _ i) h (G _ _ _ _ _ g))

  keeps_gathered : {i i' : Collection} → ((k : KeyKind) (a b : Kind) → Collects Γ i k a b → Collects Γ i' k a b) → Extends Γ (gathered i) (gathered i')
  keeps_gathered C a b (takes x y (gathered_takes c)) = takes x y (gathered_takes (C _ _ _ c))

  keeps_releasing : {w : Observation} {i i' : Collection} {q q' u u' : Term} {k : Name} {p : Pattern} → ((k : KeyKind) (a b : Kind) → Collects Γ i k a b → Collects Γ i' k a b) → Extends Γ q q'
      → ((l : KeyKind) (a b c : Kind) → Extends (inside_pattern p c (inside_collection k l a b Γ)) u u') → Extends Γ (releasing w i q k p u) (releasing w i' q' k p u')
  keeps_releasing C H G a b (takes x y (releasing_takes c j h g)) = takes x y (releasing_takes (C _ _ _ c) (H _ _ j) h (G _ _ _ _ _ _ g))

  keeps_editing : {w : Observation} {i i' u u' : Collection} {k : Name} {p : Pattern} → ((k : KeyKind) (a b : Kind) → Collects Γ i k a b → Collects Γ i' k a b)
      → ((Δ : Context) (l : KeyKind) (a b : Kind) → Collects Δ u l a b → Collects Δ u' l a b) → Extends Γ (editing w i k p u) (editing w i' k p u')
  keeps_editing C D a b (takes x y (editing_takes c h d)) = takes x y (editing_takes (C _ _ _ c) h (D _ _ _ _ d))

  -- the types of a fused function
  arr_chain : {f : Chain} {a b : Kind} → Takes Γ (arr f) a b → ChainTakes Γ f a b
  arr_chain (takes p q (primitive_takes (fused_takes f h))) = f

pub law_takes : {Γ : Context} {t u : Term} → Laws t u → Extends Γ t u
law_takes unchanged a b k = k
law_takes (in_turn A B) a b k = law_takes B a b (law_takes A a b k)
law_takes (in_join A B) a b k = keeps_join (law_takes A) (law_takes B) a b k
law_takes (in_stages A B) a b k = keeps_stages (law_takes A) (law_takes B) a b k
law_takes (in_side A) a b k = keeps_side (law_takes A) a b k
law_takes (in_heading A) a b k = keeps_heading (law_takes A) a b k
law_takes (in_transformed A) a b k = keeps_transformed (law_takes A) a b k
law_takes (in_switch A B) a b k = keeps_switch (law_takes A) (λ c. law_takes B) a b k
law_takes as_pipeline a b (takes p q (sequence_takes f g)) = takes p q (stages_take f g)
law_takes within_pipeline a b (takes p q (stages_take f g)) = takes p q (stages_take f g)
law_takes associate_right a b (takes p q (stages_take (takes p' q' (stages_take f g)) h)) = takes p q (stages_take f (takes (output_fits f) q (stages_take g h)))
law_takes associate_left a b (takes p q (stages_take f (takes p' q' (stages_take g h)))) = takes p q (stages_take (takes p (input_fits h) (stages_take f g)) h)
law_takes {Γ = Γ} identity_before a b (takes p q (stages_take {g = g} (takes p' q' (primitive_takes (bare_takes h k))) f)) = subst (λ a. Takes Γ g a b) (same_Some _ _ (sym h)) f
law_takes {Γ = Γ} identity_after a b (takes p q (stages_take {f = f} T (takes p' q' (primitive_takes (bare_takes h k))))) = subst (Takes Γ f a) (same_Some _ _ h) T
law_takes arr_as_chain a b (takes p q (primitive_takes (arrow_takes f))) = takes p q (primitive_takes (fused_takes (lone_takes f) q))
law_takes chain_as_arr a b (takes p q (primitive_takes (fused_takes (lone_takes f) h))) = takes p q (primitive_takes (arrow_takes f))
law_takes arr_composed a b (takes p q (stages_take f g)) = takes p q (primitive_takes (fused_takes (chained_takes (arr_chain f) (arr_chain g)) q))
law_takes arr_on_side a b (takes p q (first_takes f)) = takes p q (primitive_takes (fused_takes (on_first_takes (arr_chain f)) q))
law_takes arr_on_side a b (takes p q (second_takes f)) = takes p q (primitive_takes (fused_takes (on_second_takes (arr_chain f)) q))
law_takes arr_in_parallel a b (takes p q (parallel_takes f g)) = takes p q (primitive_takes (fused_takes (on_both_takes (arr_chain f) (arr_chain g)) q))
law_takes arr_fanned_out a b (takes p q (fan_takes f g)) = takes p q (primitive_takes (fused_takes (fanned_takes (arr_chain f) (arr_chain g)) q))
law_takes sides_composed a b (takes p q (stages_take (takes p' q' (first_takes f)) (takes p'' q'' (first_takes g)))) = takes p q (first_takes (takes (input_fits f) (output_fits g) (stages_take f g)))
law_takes sides_composed a b (takes p q (stages_take (takes p' q' (second_takes f)) (takes p'' q'' (second_takes g)))) = takes p q (second_takes (takes (input_fits f) (output_fits g) (stages_take f g)))
law_takes (exchanged z) a b (takes p q (stages_take (takes p' q' (parallel_takes f g)) (takes p'' q'' (parallel_takes h k)))) =
    takes p q (parallel_takes (takes (input_fits f) (output_fits h) (stages_take f h)) (takes (input_fits g) (output_fits k) (stages_take g k)))
law_takes (left_tightened z) a b (takes p q (loop_takes e (takes p' q' (stages_take (takes p'' q'' (first_takes f)) g)))) = takes p q (stages_take f (takes (output_fits f) q (loop_takes e g)))
law_takes right_tightened a b (takes p q (loop_takes e (takes p' q' (stages_take g (takes p'' q'' (first_takes h)))))) = takes p q (stages_take (takes p (input_fits h) (loop_takes e g)) h)
law_takes (constant_after z) a b (takes p q (stages_take f (takes p' q' (primitive_takes (value_takes e h k))))) = takes p q (primitive_takes (value_takes e h k))

mutual
  pub plan_takes : {Γ : Context} {t u : Term} → Plans t u → Extends Γ t u
  plan_takes (plans A B) a b k = law_takes B a b (parts_take A a b k)

  parts_take : {Γ : Context} {t u : Term} → PlansParts t u → Extends Γ t u
  parts_take of_primitive a b k = k
  parts_take of_started a b k = k
  parts_take (of_call A) a b (takes p q (call_takes h F)) = takes p q (call_takes h (arguments_take A F))
  parts_take (of_join A B) a b k = keeps_join (plan_takes A) (plan_takes B) a b k
  parts_take (of_side A) a b k = keeps_side (plan_takes A) a b k
  parts_take (of_heading A) a b k = keeps_heading (plan_takes A) a b k
  parts_take (of_transformed A) a b k = keeps_transformed (plan_takes A) a b k
  parts_take (of_switch A B) a b k = keeps_switch (plan_takes A) (λ c. plan_takes B) a b k
  parts_take (of_continuing A C B) a b k = keeps_continuing (plan_takes A) (plan_takes C) (λ a b c. plan_takes B) a b k
  parts_take (of_gathered I) a b k = keeps_gathered (λ l a b. collection_takes I) a b k
  parts_take (of_releasing I A B) a b k = keeps_releasing (λ l a b. collection_takes I) (plan_takes A) (λ l a b c. plan_takes B) a b k
  parts_take (of_editing I J) a b k = keeps_editing (λ l a b. collection_takes I) (λ Δ l a b. collection_takes J) a b k

  collection_takes : {Γ : Context} {i i' : Collection} {k : KeyKind} {a b : Kind} → PlansCollection i i' → Collects Γ i k a b → Collects Γ i' k a b
  collection_takes of_without C = C
  collection_takes of_used C = C
  collection_takes (of_added I A) (collects_added {a = a} {b = b} C E T) = collects_added (collection_takes I C) E (plan_takes A a b T)
  collection_takes (of_dropped I) (collects_dropped C E) = collects_dropped (collection_takes I C) E
  collection_takes (of_kept I) (collects_kept C F) = collects_kept (collection_takes I C) F
  collection_takes (of_chosen I J) (collects_chosen E C D) = collects_chosen E (collection_takes I C) (collection_takes J D)

  arguments_take : {Γ : Context} {vs vs' : Arguments} {qs : Bindings} → PlansArguments vs vs' → ArgumentsFit Γ vs qs → ArgumentsFit Γ vs' qs
  arguments_take of_no_arguments F = F
  arguments_take (of_value_argument A) (value_fits E F) = value_fits E (arguments_take A F)
  arguments_take (of_named_argument A) (process_fits T F) = process_fits T (arguments_take A F)
  arguments_take (of_collection_argument I A) (collection_fits C F) = collection_fits (collection_takes I C) (arguments_take A F)
  arguments_take (of_closed_argument h P A) (process_fits {a = a} {b = b} T F) = closed_fits (plan_takes P a b T) (arguments_take A F)
  arguments_take (of_term_argument h k P A) (process_fits {a = a} {b = b} T F) = process_fits (plan_takes P a b T) (arguments_take A F)

-- ## The contexts that plans are typed under

signatures_are : {ss ts : Templates} → PlansAll ss ts → map signature_of ss ≡ map signature_of ts
signatures_are no_templates = refl
signatures_are (one_more A B) = ap₂ (λ (s : Signature) (l : List Signature). s ∷ l) (sym (same_signature A)) (signatures_are B)
  where
    same_signature : {s t : Template} → PlansTemplate s t → signature_of t ≡ signature_of s
    same_signature A = (λ x. record { name = A.name x; parameters = A.parameters x; input = A.input x; output = A.output x })

pub same_context : {ss ts : Templates} (fs : TypesByName) (bs : Bindings) → PlansAll ss ts → outer_context fs bs ss ≡ outer_context fs bs ts
same_context fs bs P = ap (λ (l : List Signature). record { bindings = bs; signatures = l; functions = fs }) (signatures_are P)
