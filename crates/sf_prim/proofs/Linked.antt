-- What links make of values.
use Rattle.std.proofs.Common.{◌≡◌, ℕ, List, [], ◌∷◌, ◌++◌, Result, Ok, Err, Vec, refl, sym, ◌∙◌, ap, subst}
use Rattle.std.specs.Prelude.{map, OnOk}
use Rattle.std.proofs.lemmas.List.{map-append}
use Rattle.std.specs.declared.alloc.Global.{Global}
use Rattle.std.specs.declared.rc.Rc.{Rc}
use Rattle.sf_value.specs.Values.{Data, pair, first_of}
use Rattle.sf_func.specs.Registries.{AnswersByName}
use Rattle.sf_expr.specs.Evaluation.{Evaluated, Scope, scope_functions, answer, failed, ◌>>=◌}
use Rattle.sf_operator.specs.Answers.{EvaluatesAs}
use Rattle.sf_operator.specs.declared.fault.EvalFault.{EvalFault}
use Rattle.sf_operator.specs.declared.fault.EvalFault.TheVariants.{Value, Memory}
use Rattle.sf_term.specs.declared.form.Side.{Side}
use Rattle.sf_term.specs.declared.form.Side.TheVariants.{First, Second}
use Rattle.sf_term.specs.Trees.{Chain, on_side, on_both, fanned, fused, Primitive}
use Rattle.sf_mean.specs.Lives.{step, Life}
use Rattle.sf_mean.specs.Formulas.{side_of, side_replaced, apply_chain}
use Rattle.sf_prim.specs.declared.chain.Link.{Link}
use Rattle.sf_prim.specs.declared.chain.Link.TheVariants as links
use Rattle.sf_prim.specs.declared.chain.Link.TheOpen.{Link-F}
use Rattle.sf_prim.specs.declared.chain.Link.TheFolds.{fold-roll-Link}
use Rattle.sf_prim.specs.declared.prim_state.PrimState.TheVariants.{Fused}
use Rattle.sf_delay.specs.Gifts.{gift}
use Rattle.sf_prim.specs.Links.{Worker, Work, in_turn, link_step, link_worth, links_worth, IsLinkOf, AreLinksOf, AddsLinks}
use Rattle.sf_prim.specs.Remembering.{Remembers, remembers_chain, GoesOn, goes_on, goes_on_with_fault, goes_on_without_memory}

bind_assoc : {A B C : Type 0} (m : Evaluated A) (f : A → Evaluated B) (g : B → Evaluated C) → ((m >>= f) >>= g) ≡ (m >>= λ a. f a >>= g)
bind_assoc (answer a) f g = refl
bind_assoc (failed x) f g = refl

bind_same : {A B : Type 0} (m : Evaluated A) (f g : A → Evaluated B) → ((a : A) → f a ≡ g a) → (m >>= f) ≡ (m >>= g)
bind_same (answer a) f g h = h a
bind_same (failed x) f g h = refl

bind_answer : {A : Type 0} (m : Evaluated A) → (m >>= λ y. answer y) ≡ m
bind_answer (answer a) = refl
bind_answer (failed x) = refl

-- ## One after another

in_turn-append : (ws vs : List Worker) (φ : AnswersByName) (x : Data) → in_turn (ws ++ vs) φ x ≡ in_turn ws φ x >>= λ y. in_turn vs φ y
in_turn-append [] vs φ x = refl
in_turn-append (w ∷ ws) vs φ x = bind_same (w φ x) _ _ (λ y. in_turn-append ws vs φ y) ∙ sym (bind_assoc (w φ x) (λ y. in_turn ws φ y) (λ y. in_turn vs φ y))

-- a link behind others
links_worth-push : (ls : List Link) (k : Link) (φ : AnswersByName) (x : Data) → links_worth (ls ++ k ∷ []) φ x ≡ links_worth ls φ x >>= λ y. link_worth k φ y
links_worth-push ls k φ x =
    ap (λ ws. in_turn ws φ x) (map-append link_worth ls (k ∷ []))
    ∙ in_turn-append (map link_worth ls) (link_worth k ∷ []) φ x
    ∙ bind_same (links_worth ls φ x) _ _ (λ y. bind_answer (link_worth k φ y))

-- links behind none
pub links_begin : (s : Scope) (f : Chain) (ls more : List Link) → ls ≡ [] → AddsLinks s (apply_chain f) ls more → AreLinksOf s f more
links_begin s f ls more none adds = record { worth = λ x. adds.worth x ∙ ap (λ l. links_worth l (scope_functions s) x >>= λ y. apply_chain f y s) none }

pub adds_one : (s : Scope) (w : Work) (ls more : List Link) (k : Link) → more ≡ ls ++ k ∷ [] → IsLinkOf s w k → AddsLinks s w ls more
adds_one s w ls more k put is = record {
  worth = λ x. ap (λ l. links_worth l (scope_functions s) x) put ∙ links_worth-push ls k (scope_functions s) x ∙ bind_same (links_worth ls (scope_functions s) x) _ _ (λ y. is.worth y);
}

-- one work, then another, make a third
pub adds_both : (s : Scope) (v w u : Work) (ls ks more : List Link) → ((x : Data) → (v x s >>= λ y. w y s) ≡ u x s) → AddsLinks s v ls ks → AddsLinks s w ks more → AddsLinks s u ls more
adds_both s v w u ls ks more joined first second = record {
  worth = λ x.
      second.worth x
      ∙ ap (λ m. m >>= λ y. w y s) (first.worth x)
      ∙ bind_assoc (links_worth ls (scope_functions s) x) (λ y. v y s) (λ y. w y s)
      ∙ bind_same (links_worth ls (scope_functions s) x) _ _ joined;
}

pub adds_then : {A E : Type 0} (r : Result A E) (ss : AnswersByName → Scope) (v w u : Work) (ls ks more : List Link) → ((s : Scope) (x : Data) → (v x s >>= λ y. w y s) ≡ u x s) → ((φ : AnswersByName) → AddsLinks (ss φ) v ls ks)
    → OnOk r ((φ : AnswersByName) → AddsLinks (ss φ) w ks more) → OnOk r ((φ : AnswersByName) → AddsLinks (ss φ) u ls more)
adds_then (Ok a) ss v w u ls ks more joined first second = λ φ. adds_both (ss φ) v w u ls ks more (joined (ss φ)) (first φ) (second φ)
adds_then (Err e) ss v w u ls ks more joined first second = tt

-- ## Links of each kind

-- (a link's worth is that of its layer)
side_worth : (d : Side) (v : Vec Link Global) (φ : AnswersByName) (x : Data) → link_worth (links.OnSide d v) φ x ≡ links_worth v.items φ (side_of d x) >>= λ y. answer (side_replaced d x y)
side_worth d v φ x = ap (λ k. link_worth k φ x) (sym (links.rolls-OnSide d v)) ∙ ap (λ w. w φ x) (fold-roll-Link Worker link_step (Link-F.OnSide d v))

fork_worth : (φ : AnswersByName) (x : Data) → link_worth links.Fork φ x ≡ answer (pair x x)
fork_worth φ x = ap (λ k. link_worth k φ x) (sym links.rolls-Fork) ∙ ap (λ w. w φ x) (fold-roll-Link Worker link_step Link-F.Fork)

pub side_link : (s : Scope) (d : Side) (f : Chain) (v : Vec Link Global) → AreLinksOf s f v.items → IsLinkOf s (apply_chain (on_side d f)) (links.OnSide d v)
side_link s d f v are = record { worth = λ x. side_worth d v (scope_functions s) x ∙ ap (λ m. m >>= λ y. answer (side_replaced d x y)) (are.worth (side_of d x)) }

-- the pair of a value with itself
abbrev pub doubled : Work
doubled x s = answer (pair x x)

pub fork_link : (s : Scope) → IsLinkOf s doubled links.Fork
fork_link s = record { worth = λ x. fork_worth (scope_functions s) x }

-- functions on both sides are those on the first, then those on the second
pub both_sides : (f g : Chain) (s : Scope) (x : Data) → (apply_chain (on_side First f) x s >>= λ y. apply_chain (on_side Second g) y s) ≡ apply_chain (on_both f g) x s
both_sides f g s x = bind_assoc (apply_chain f (first_of x) s) (λ y. answer (side_replaced First x y)) (λ y. apply_chain (on_side Second g) y s)

-- so are those on one value, on the pair of it with itself
pub fanned_sides : (f g : Chain) (s : Scope) (x : Data) → (doubled x s >>= λ y. apply_chain (on_both f g) y s) ≡ apply_chain (fanned f g) x s
fanned_sides f g s x = refl

-- ## A sample

pub fused_goes_on : (φ : AnswersByName) (c : Rc (Vec Link Global) Global) (d : ℕ) (x y : Data) {A : Type 0} (r : Result A EvalFault) → EvaluatesAs (λ (a : A). y) r (links_worth c.value.items φ x)
    → (q : Primitive) (scope : Scope) (L : Life) → scope_functions scope ≡ φ → Remembers (Fused c) q scope L → GoesOn q scope (step d x) L (Fused c) (gift r y)
fused_goes_on φ c d x y (Ok a) h q scope L same (remembers_chain {f = f} K) = goes_on (sym (K.worth x) ∙ ap (λ φ. links_worth c.value.items φ x) same ∙ h) (remembers_chain K)
fused_goes_on φ c d x y (Err (Value v)) h q scope L same (remembers_chain {f = f} K) = goes_on_with_fault (sym (K.worth x) ∙ ap (λ φ. links_worth c.value.items φ x) same ∙ h)
fused_goes_on φ c d x y (Err Memory) h q scope L same K = goes_on_without_memory

-- copies share their links
pub fused_follows : (c d : Rc (Vec Link Global) Global) → d.value ≡ c.value → (q : Primitive) (scope : Scope) (L : Life) → Remembers (Fused c) q scope L → Remembers (Fused d) q scope L
fused_follows c d is q scope L (remembers_chain {f = f} K) = remembers_chain (subst (λ (v : Vec Link Global). AreLinksOf scope f v.items) (sym is) K)

-- links of functions keep them
pub fused_begins : {scope : Scope} {L : Life} (f : Chain) (c : Rc (Vec Link Global) Global) (v : Vec Link Global) → c.value ≡ v → AreLinksOf scope f v.items → Remembers (Fused c) (fused f) scope L
fused_begins {scope} f c v is K = remembers_chain (subst (λ (v : Vec Link Global). AreLinksOf scope f v.items) (sym is) K)
