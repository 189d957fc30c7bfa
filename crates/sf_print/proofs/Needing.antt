-- Which version a network needs, part by part.
use Rattle.std.proofs.Common.{◌≡◌, ℕ, ◌+◌, ◌<◌, Bool, false, ◌||◌, List, [], ◌∷◌, length, take, get_or, map, refl, sym, ap, ◌∙◌, arith}
use Rattle.std.specs.List.{list_any}
use Rattle.std.proofs.lemmas.List.{take_all}
use Rattle.std.proofs.lemmas.List.Folds.{list_any_more}
use Rattle.sf_term.specs.declared.node.Argument.{Argument}
use Rattle.sf_term.specs.declared.node.Argument.TheVariants as arguments
use Rattle.sf_term.specs.declared.program.Program.{Program}
use Rattle.sf_term.specs.Headers.{Header}
use Rattle.sf_term.specs.Parameters.{PlacedParameter, parameters_of, binding_of}
use Rattle.sf_term.specs.Arena.{arguments_of, term_template}
use Rattle.sf_print.specs.Arguments.{argument_needs_two}
use Rattle.sf_print.specs.Versions.{arguments_need_two, parameter_needs_two, parameters_need_two, template_needs_two}

-- none of the first parts, nor the next one
pub none_more : {A : Type 0} (f : A → Bool) (xs : List A) (i : ℕ) (z : A) → i < length xs → list_any f (take i xs) ≡ false → f (get_or xs i z) ≡ false → list_any f (take (i + 1) xs) ≡ false
none_more f xs i z h a b = list_any_more f xs i z h ∙ ap (λ t. t || f (get_or xs i z)) a ∙ b

-- none of all
pub none_found : {A : Type 0} (f : A → Bool) (xs : List A) (i : ℕ) → length xs ≡ i → list_any f (take i xs) ≡ false → false ≡ list_any f xs
none_found f xs i e a = sym a ∙ ap (list_any f) (take_all i xs (omega arith))

-- arguments need it where one of them does
pub arguments_any : (p : Program) (vs : List Argument) → arguments_need_two (arguments_of p vs) ≡ list_any (argument_needs_two p) vs
arguments_any p [] = refl
arguments_any p (arguments.Value e ∷ vs) = ap (λ b. argument_needs_two p (arguments.Value e) || b) (arguments_any p vs)
arguments_any p (arguments.Process t ∷ vs) = ap (λ b. argument_needs_two p (arguments.Process t) || b) (arguments_any p vs)
arguments_any p (arguments.Collection c ∷ vs) = ap (λ b. argument_needs_two p (arguments.Collection c) || b) (arguments_any p vs)

-- parameters without their places likewise
pub parameters_need : (qs : List PlacedParameter) → list_any parameter_needs_two (parameters_of qs) ≡ parameters_need_two qs
parameters_need [] = refl
parameters_need (q ∷ qs) = ap (λ b. parameter_needs_two (binding_of q) || b) (parameters_need qs)

-- templates likewise
pub templates_need : (p : Program) (hs : List Header) → list_any template_needs_two (map (term_template p) hs) ≡ list_any (λ (h : Header). template_needs_two (term_template p h)) hs
templates_need p [] = refl
templates_need p (h ∷ hs) = ap (λ b. template_needs_two (term_template p h) || b) (templates_need p hs)
