-- What forms are made with, in environments that are alike.
use Rattle.std.proofs.Common.{◌≡◌, Bool, true, false, inl, inr, cond, [], ◌∷◌, refl, ap, subst, Option, Some, None}
use Rattle.sf_value.specs.Values.{Name, KeyData, Data}
use Rattle.sf_value.specs.Keys.{equal_keys}
use Rattle.sf_value.specs.declared.fault.ValueFault.{ValueFault}
use Rattle.sf_func.specs.Registries.{AnswersByName}
use Rattle.sf_operator.specs.FunctionForms.{value_of_key}
use Rattle.sf_expr.specs.Expressions.{Expression}
use Rattle.sf_expr.specs.Evaluation.{Evaluated, answer, failed, ◌>>=◌, eval, apply}
use Rattle.sf_term.specs.Parameters.{Bindings}
use Rattle.sf_term.specs.Trees.{Term, primitive, Reference, reference, started, call, Arguments, no_arguments, value_argument, process_argument, collection_argument, closed_argument, template_named, joined, sided, headed, transformed, switching, continuing, gathered, releasing, editing, staged, Collection, without_members, used, added, dropped, kept, chosen, Template}
use Rattle.sf_mean.specs.Lives.{Process, closure, Environment, empty, known, running, collected, Members, member, scope_around}
use Rattle.sf_mean.specs.Collections.{as_key, add, drop, keep, collect}
use Rattle.sf_mean.specs.Formulas.{is_high}
use Rattle.sf_mean.specs.Meaning.{Network, Made, nothing_made, value_made, process_made, members_made, process_referred, argument_process, argued, process_called, referred, head_made, make}
use Rattle.sf_coincidence.specs.Mentions.{ExpressionMentions, Mentions, CollectionMentions, ReferenceMentions, ArgumentsMention}
use Rattle.sf_coincidence.specs.Alike.{Alike, of_closures, AlikeMembers, none_alike, member_alike, AlikeName}
use Rattle.sf_coincidence.proofs.Worth.{same_worth, same_answer}
use Rattle.sf_coincidence.proofs.Same.{AlikeFor, scopes_agree, members_alike, members_by_test, alike_itself, members_themselves, alike_passing, at_empty, at_known, at_running, at_collected, alike_started}

-- two answers that are related, or one fault
pub data Likewise {A : Type 0} (R : A → A → Type 0) : Evaluated A → Evaluated A → Type 0 where
  both_answer : {a b : A} → R a b → Likewise R (answer a) (answer b)
  both_fail : {x : ValueFault} → Likewise R (failed x) (failed x)

pub then_likewise : {A B : Type 0} {R : A → A → Type 0} {S : B → B → Type 0} {p q : Evaluated A} (f g : A → Evaluated B)
    → ((a b : A) → R a b → Likewise S (f a) (g b)) → Likewise R p q → Likewise S (p >>= f) (q >>= g)
then_likewise f g h (both_answer r) = h _ _ r
then_likewise f g h both_fail = both_fail

after_each : {A B : Type 0} {S : B → B → Type 0} (p : Evaluated A) (f g : A → Evaluated B) → ((a : A) → Likewise S (f a) (g a)) → Likewise S (p >>= f) (p >>= g)
after_each (answer a) f g h = h a
after_each (failed x) f g h = both_fail

after_same : {A B : Type 0} {S : B → B → Type 0} {p q : Evaluated A} → p ≡ q → (f g : A → Evaluated B) → ((a : A) → Likewise S (f a) (g a)) → Likewise S (p >>= f) (q >>= g)
after_same {A} {B} {S} {p} {q} same f g h = let N : Evaluated A → Type 0 = λ r. Likewise S (p >>= f) (r >>= g) in subst N same (after_each p f g h)

chosen_likewise : {A : Type 0} {R : A → A → Type 0} {p q p' q' : Evaluated A} (b : Bool) → Likewise R p q → Likewise R p' q' → Likewise R (cond b p p') (cond b q q')
chosen_likewise true h k = h
chosen_likewise false h k = k

-- what is done with an expression's worth
after_worth : {B : Type 0} {S : B → B → Type 0} (φ : AnswersByName) (i : Expression) {e d : Environment} → AlikeFor (ExpressionMentions i) e d
    → (f g : Data → Evaluated B) → ((v : Data) → Likewise S (f v) (g v)) → Likewise S (eval i (scope_around φ e) >>= f) (eval i (scope_around φ d) >>= g)
after_worth φ i {e} {d} E f g h = after_same (same_worth i (scope_around φ e) (scope_around φ d) (scopes_agree φ E)) f g h

-- ## Collections

add_alike : {P Q : Process} {ms qs : Members} (k : KeyData) → Alike P Q → AlikeMembers ms qs → AlikeMembers (add k P ms) (add k Q qs)
add_alike k A none_alike = member_alike A none_alike
add_alike k A (member_alike {k = l} B M) = members_by_test (equal_keys k l) (member_alike A M) (λ h. member_alike B (add_alike k A M))

drop_alike : {ms qs : Members} (k : KeyData) → AlikeMembers ms qs → AlikeMembers (drop k ms) (drop k qs)
drop_alike k none_alike = none_alike
drop_alike k (member_alike {k = l} B M) = members_by_test (equal_keys k l) M (λ h. member_alike B (drop_alike k M))

keep_alike : {ms qs : Members} (f g : Data → Evaluated Data) → ((x : Data) → f x ≡ g x) → AlikeMembers ms qs → Likewise AlikeMembers (keep f ms) (keep g qs)
keep_alike f g h none_alike = both_answer none_alike
keep_alike f g h (member_alike {k = k} {P = P} {Q = Q} {ms = ms} {qs = qs} A M) =
    after_same (h (value_of_key k)) (λ b. keep f ms >>= λ r. answer (cond (is_high b) (member k P r) r)) (λ b. keep g qs >>= λ r. answer (cond (is_high b) (member k Q r) r))
    (λ b. then_likewise (λ r. answer (cond (is_high b) (member k P r) r)) (λ r. answer (cond (is_high b) (member k Q r) r))
    (λ r t R. both_answer (members_by_test (is_high b) (member_alike A R) (λ l. R))) (keep_alike f g h M))

module _ (φ : AnswersByName) {e d : Environment} where
  pub collect_alike : (i : Collection) → AlikeFor (CollectionMentions i) e d → Likewise AlikeMembers (collect φ i e) (collect φ i d)
  collect_alike (without_members k t) E = both_answer none_alike
  collect_alike (used x) E = both_answer (members_alike (E x refl))
  collect_alike (added i j t) E =
      then_likewise (λ ms. eval j (scope_around φ e) >>= λ v. answer (add (as_key v) (closure t e) ms)) (λ ms. eval j (scope_around φ d) >>= λ v. answer (add (as_key v) (closure t d) ms))
      (λ ms qs M. after_worth φ j (λ x h. E x (inr (inl h))) (λ v. answer (add (as_key v) (closure t e) ms)) (λ v. answer (add (as_key v) (closure t d) qs))
      (λ v. both_answer (add_alike (as_key v) (of_closures (λ x h. E x (inr (inr h)))) M)))
      (collect_alike i (λ x h. E x (inl h)))
  collect_alike (dropped i j) E =
      then_likewise (λ ms. eval j (scope_around φ e) >>= λ v. answer (drop (as_key v) ms)) (λ ms. eval j (scope_around φ d) >>= λ v. answer (drop (as_key v) ms))
      (λ ms qs M. after_worth φ j (λ x h. E x (inr h)) (λ v. answer (drop (as_key v) ms)) (λ v. answer (drop (as_key v) qs)) (λ v. both_answer (drop_alike (as_key v) M)))
      (collect_alike i (λ x h. E x (inl h)))
  collect_alike (kept i f) E =
      let A = scopes_agree φ (λ x h. E x (inr h)) in
      then_likewise (keep (λ y. apply f y (scope_around φ e))) (keep (λ y. apply f y (scope_around φ d)))
      (λ ms qs M. keep_alike (λ y. apply f y (scope_around φ e)) (λ y. apply f y (scope_around φ d)) (λ y. same_answer f y (scope_around φ e) (scope_around φ d) A) M)
      (collect_alike i (λ x h. E x (inl h)))
  collect_alike (chosen j a b) E =
      after_worth φ j (λ x h. E x (inl h)) (λ v. cond (is_high v) (collect φ a e) (collect φ b e)) (λ v. cond (is_high v) (collect φ a d) (collect φ b d))
      (λ v. chosen_likewise (is_high v) (collect_alike a (λ x h. E x (inr (inl h)))) (collect_alike b (λ x h. E x (inr (inr h)))))

-- ## Arguments

alike_referred : {e d : Environment} (r : Reference) → AlikeFor (ReferenceMentions r) e d → Alike (process_referred r e) (process_referred r d)
alike_referred (started w k) E = alike_started w (E k refl)
alike_referred (call g vs) E = of_closures E

alike_argument : {e d : Environment} (t : Term) → AlikeFor (Mentions t) e d → Alike (argument_process t e) (argument_process t d)
alike_argument (primitive p) E = of_closures E
alike_argument (reference r) E = alike_referred r E
alike_argument (joined j f g) E = of_closures E
alike_argument (sided a t) E = of_closures E
alike_argument (headed h i t) E = of_closures E
alike_argument (transformed f t) E = of_closures E
alike_argument (switching w t p u) E = of_closures E
alike_argument (continuing w t q k p u) E = of_closures E
alike_argument (gathered i) E = of_closures E
alike_argument (releasing w i q k p u) E = of_closures E
alike_argument (editing w i k p u) E = of_closures E
alike_argument (staged x f g) E = of_closures E

-- every name stands for alike
abbrev AlikeNames : Environment → Environment → Type 0
AlikeNames e d = (x : Name) → AlikeName x e d

module _ (φ : AnswersByName) {e e' : Environment} where
  alike_argued : (qs : Bindings) (vs : Arguments) → AlikeFor (ArgumentsMention vs) e e' → (d d' : Environment) → AlikeNames d d' → Likewise AlikeNames (argued φ qs vs e d) (argued φ qs vs e' d')
  alike_argued [] vs E d d' D = both_answer D
  alike_argued (q ∷ qs) no_arguments E d d' D = both_answer D
  alike_argued (q ∷ qs) (value_argument i vs) E d d' D =
      after_worth φ i (λ x h. E x (inl h)) (λ v. argued φ qs vs e (known q.0 v d)) (λ v. argued φ qs vs e' (known q.0 v d'))
      (λ v. alike_argued qs vs (λ x h. E x (inr h)) (known q.0 v d) (known q.0 v d') (λ x. at_known q.0 v (λ h. D x)))
  alike_argued (q ∷ qs) (process_argument t vs) E d d' D =
      let A : Alike (argument_process t e) (argument_process t e') = alike_argument t (λ x h. E x (inl h)) in
      alike_argued qs vs (λ x h. E x (inr h)) (running q.0 (argument_process t e) d) (running q.0 (argument_process t e') d') (λ x. at_running q.0 A (λ h. D x))
  alike_argued (q ∷ qs) (collection_argument i vs) E d d' D =
      then_likewise (λ ms. argued φ qs vs e (collected q.0 ms d)) (λ ms. argued φ qs vs e' (collected q.0 ms d'))
      (λ ms rs M. alike_argued qs vs (λ x h. E x (inr h)) (collected q.0 ms d) (collected q.0 rs d') (λ x. at_collected q.0 M (λ h. D x)))
      (collect_alike φ i (λ x h. E x (inl h)))
  alike_argued (q ∷ qs) (closed_argument t vs) E d d' D =
      let A : Alike (closure t e) (closure t e') = of_closures (λ x h. E x (inl h)) in
      alike_argued qs vs (λ x h. E x (inr h)) (running q.0 (closure t e) d) (running q.0 (closure t e') d') (λ x. at_running q.0 A (λ h. D x))

  alike_called : (t : Option Template) (vs : Arguments) → AlikeFor (ArgumentsMention vs) e e' → Likewise Alike (process_called φ t vs e) (process_called φ t vs e')
  alike_called None vs E = both_answer alike_passing
  alike_called (Some t) vs E =
      then_likewise (λ d. answer (closure t.body d)) (λ d. answer (closure t.body d)) (λ d d' D. both_answer (of_closures (λ x h. D x)))
      (alike_argued t.parameters vs E empty empty at_empty)

-- ## What a form is made with

pub data AlikeMade : Made → Made → Type 0 where
  same_nothing : AlikeMade nothing_made nothing_made
  same_value : {v : Data} → AlikeMade (value_made v) (value_made v)
  alike_made : {P Q : Process} → Alike P Q → AlikeMade (process_made P) (process_made Q)
  alike_members : {ms qs : Members} → AlikeMembers ms qs → AlikeMade (members_made ms) (members_made qs)

made_itself : (m : Made) → AlikeMade m m
made_itself nothing_made = same_nothing
made_itself (value_made v) = same_value
made_itself (process_made P) = alike_made (alike_itself P)
made_itself (members_made ms) = alike_members (members_themselves ms)

-- what is made the same
same_made : {p q : Evaluated Made} → p ≡ q → Likewise AlikeMade p q
same_made {p = p} h = subst (λ q. Likewise AlikeMade p q) h (itself p)
  where
    itself : (p : Evaluated Made) → Likewise AlikeMade p p
    itself (answer m) = both_answer (made_itself m)
    itself (failed x) = both_fail

module _ (n : Network) {e d : Environment} where
  referred_alike : (r : Reference) → AlikeFor (ReferenceMentions r) e d → Likewise Alike (referred n r e) (referred n r d)
  referred_alike (started w k) E = both_answer (alike_started w (E k refl))
  referred_alike (call g vs) E = alike_called n.functions (template_named g n.templates) vs E

  gathered_alike : (i : Collection) → AlikeFor (CollectionMentions i) e d
      → Likewise AlikeMade (collect n.functions i e >>= λ ms. answer (members_made ms)) (collect n.functions i d >>= λ ms. answer (members_made ms))
  gathered_alike i E = then_likewise (λ ms. answer (members_made ms)) (λ ms. answer (members_made ms)) (λ ms qs M. both_answer (alike_members M)) (collect_alike n.functions i E)

  pub made_alike : (t : Term) (v : Data) → AlikeFor (Mentions t) e d → Likewise AlikeMade (make n t e v) (make n t d v)
  made_alike (primitive p) v E = both_answer same_nothing
  made_alike (reference r) v E = then_likewise (λ P. answer (process_made P)) (λ P. answer (process_made P)) (λ P Q A. both_answer (alike_made A)) (referred_alike r E)
  made_alike (joined j f g) v E = both_answer same_nothing
  made_alike (sided a t) v E = both_answer same_nothing
  made_alike (headed h i t) v E = same_made (ap (head_made h) (same_worth i (scope_around n.functions e) (scope_around n.functions d) (scopes_agree n.functions (λ x h. E x (inl h)))))
  made_alike (transformed f t) v E =
      same_made (ap (λ (w : Evaluated Data). w >>= λ u. answer (value_made u)) (same_answer f v (scope_around n.functions e) (scope_around n.functions d) (scopes_agree n.functions (λ x h. E x (inl h)))))
  made_alike (switching w t p u) v E = both_answer same_nothing
  made_alike (continuing w t q k p u) v E = both_answer same_nothing
  made_alike (gathered i) v E = gathered_alike i E
  made_alike (releasing w i q k p u) v E = gathered_alike i (λ x h. E x (inl h))
  made_alike (editing w i k p u) v E = gathered_alike i (λ x h. E x (inl h))
  made_alike (staged x f g) v E = both_answer same_nothing

-- ## What is like an answer or a fault

abbrev answer_or : {A : Type 0} → A → Evaluated A → A
answer_or a (answer b) = b
answer_or a (failed x) = a

pub like_answer : {A : Type 0} {R : A → A → Type 0} {a : A} {p q : Evaluated A} → p ≡ answer a → Likewise R p q → (b : A) × R a b × (q ≡ answer b)
like_answer {R = R} {a = a} h (both_answer {b = b} r) = (b, subst (λ c. R c b) (ap (answer_or a) h) r, refl)
like_answer h both_fail = absurd cc

pub like_fault : {A : Type 0} {R : A → A → Type 0} {x : ValueFault} {p q : Evaluated A} → p ≡ failed x → Likewise R p q → q ≡ failed x
like_fault h (both_answer r) = absurd cc
like_fault h both_fail = h
