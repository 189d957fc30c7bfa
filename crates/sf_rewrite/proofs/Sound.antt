-- Laws keep outcomes, and cost no more.
use Rattle.std.proofs.Common.{true, false, arith}
use Rattle.sf_mean.specs.Meaning.{one_term, text_cost}
use Rattle.sf_rewrite.specs.Laws.{Laws, unchanged, in_turn, in_join, in_stages, in_side, in_heading, in_transformed, in_switch, as_pipeline, within_pipeline, associate_right, associate_left, identity_before, identity_after, arr_as_chain, chain_as_arr, arr_composed, arr_on_side, arr_in_parallel, arr_fanned_out, sides_composed, exchanged, constant_after, left_tightened, right_tightened}
use Rattle.sf_rewrite.proofs.Parts.{Leaves, OneLeaf}
use Rattle.sf_rewrite.proofs.Lowered.{Below, below_same, below_any, below, below_trans, below_over, below_both, below_stages}
use Rattle.sf_rewrite.proofs.Along.{Sound, sound_join, sound_stages, sound_side, sound_heading, sound_transformed, sound_switch, sound_turn, sound_unchanged}
use Rattle.sf_rewrite.proofs.Stages.{below_second, below_first, right_below, left_below, sound_as_pipeline, back_as_pipeline, sound_within_pipeline, back_within_pipeline, sound_identity_before, back_identity_before, sound_identity_after, back_identity_after, sound_associate_right, sound_associate_left}
use Rattle.sf_rewrite.proofs.Fuse.{sound_arr_as_chain, back_arr_as_chain, sound_arr_composed, back_arr_composed, sound_arr_on_side, back_arr_on_side, sound_arr_in_parallel, back_arr_in_parallel, sound_arr_fanned_out, back_arr_fanned_out}
use Rattle.sf_rewrite.proofs.Sides.{sound_sides_composed, back_sides_composed}
use Rattle.sf_rewrite.proofs.Exchange.{sound_exchanged, back_exchanged}
use Rattle.sf_rewrite.proofs.ConstantAfter.{sound_constant_after, back_constant_after}
use Rattle.sf_rewrite.proofs.LeftTightening.{sound_left_tightened, back_left_tightened}
use Rattle.sf_rewrite.proofs.RightTightening.{sound_right_tightened, back_right_tightened}

-- the texts' costs
pub texts : {t u : _} → Laws t u → Below true (text_cost t) (text_cost u)
texts (unchanged {t = t}) = below_same true (text_cost t)
texts (in_turn A B) = below_trans (texts A) (texts B)
texts (in_join A B) = below_over _ _ (below_both _ _ _ _ (texts A) (texts B))
texts (in_stages {x = x} A B) = below_stages x _ _ (below_both _ _ _ _ (texts A) (texts B))
texts (in_side A) = below_over _ _ (texts A)
texts (in_heading A) = below_over _ _ (texts A)
texts (in_transformed A) = below_over _ _ (texts A)
texts (in_switch A B) = below_over _ _ (texts A)
texts as_pipeline = below_same true _
texts within_pipeline = below (omega arith) (omega arith)
texts (associate_right {x = x} {f = f} {g = g} {h = h}) = below_stages x _ _ (right_below (text_cost f) (text_cost g) (text_cost h))
texts (associate_left {x = x} {f = f} {g = g} {h = h}) = below_stages x _ _ (left_below (text_cost f) (text_cost g) (text_cost h))
texts (identity_before {x = x} {f = f}) = below_second x one_term (text_cost f)
texts (identity_after {x = x} {f = f}) = below_first x (text_cost f) one_term
texts arr_as_chain = below_same true _
texts chain_as_arr = below_same true _
texts (arr_composed {x = x}) = below_first x one_term one_term
texts arr_on_side = below (omega arith) (omega arith)
texts arr_in_parallel = below (omega arith) (omega arith)
texts arr_fanned_out = below (omega arith) (omega arith)
texts sides_composed = below (omega arith) (omega arith)
texts (exchanged h) = below (omega arith) (omega arith)
texts (left_tightened h) = below (omega arith) (omega arith)
texts right_tightened = below (omega arith) (omega arith)
texts (constant_after {x = x} {f = f} h) = below_second x (text_cost f) one_term

module _ (Q : Leaves) (one : OneLeaf Q) where
  -- each law, from left to right
  pub onward : {t u : _} → Laws t u → Sound Q one true t u
  onward unchanged = sound_unchanged Q one
  onward (in_turn A B) = sound_turn Q one (onward A) (onward B)
  onward (in_join A B) = sound_join Q one (onward A) (onward B) (texts B)
  onward (in_stages A B) = sound_stages Q one (onward A) (onward B) (texts B)
  onward (in_side A) = sound_side Q one (onward A)
  onward (in_heading A) = sound_heading Q one (onward A) (texts A)
  onward (in_transformed A) = sound_transformed Q one (onward A) (texts A)
  onward (in_switch A B) = sound_switch Q one (onward A) (onward B)
  onward as_pipeline = sound_as_pipeline Q one
  onward within_pipeline = sound_within_pipeline Q one
  onward associate_right = sound_associate_right Q one right_below
  onward associate_left = sound_associate_left Q one left_below
  onward identity_before = sound_identity_before Q one
  onward identity_after = sound_identity_after Q one
  onward arr_as_chain = sound_arr_as_chain Q one
  onward chain_as_arr = back_arr_as_chain Q one
  onward arr_composed = sound_arr_composed Q one
  onward arr_on_side = sound_arr_on_side Q one
  onward arr_in_parallel = sound_arr_in_parallel Q one
  onward arr_fanned_out = sound_arr_fanned_out Q one
  onward sides_composed = sound_sides_composed Q one
  onward (exchanged h) = sound_exchanged Q one h
  onward (left_tightened h) = sound_left_tightened Q one h
  onward right_tightened = sound_right_tightened Q one
  onward (constant_after h) = sound_constant_after Q one h

  -- and back
  pub back : {t u : _} → Laws t u → Sound Q one false u t
  back unchanged = sound_unchanged Q one
  back (in_turn A B) = sound_turn Q one (back B) (back A)
  back (in_join A B) = sound_join Q one (back A) (back B) (below_any _ _)
  back (in_stages A B) = sound_stages Q one (back A) (back B) (below_any _ _)
  back (in_side A) = sound_side Q one (back A)
  back (in_heading A) = sound_heading Q one (back A) (below_any _ _)
  back (in_transformed A) = sound_transformed Q one (back A) (below_any _ _)
  back (in_switch A B) = sound_switch Q one (back A) (back B)
  back as_pipeline = back_as_pipeline Q one
  back within_pipeline = back_within_pipeline Q one
  back associate_right = sound_associate_left Q one (λ a b c. below_any _ _)
  back associate_left = sound_associate_right Q one (λ a b c. below_any _ _)
  back identity_before = back_identity_before Q one
  back identity_after = back_identity_after Q one
  back arr_as_chain = back_arr_as_chain Q one
  back chain_as_arr = sound_arr_as_chain Q one
  back arr_composed = back_arr_composed Q one
  back arr_on_side = back_arr_on_side Q one
  back arr_in_parallel = back_arr_in_parallel Q one
  back arr_fanned_out = back_arr_fanned_out Q one
  back sides_composed = back_sides_composed Q one
  back (exchanged h) = back_exchanged Q one h
  back (left_tightened h) = back_left_tightened Q one h
  back right_tightened = back_right_tightened Q one
  back (constant_after h) = back_constant_after Q one h
