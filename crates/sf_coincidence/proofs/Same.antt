-- What environments and processes that are alike are made of is alike.
use Rattle.std.proofs.Common.{◌≡◌, ℕ, Bool, true, false, cond, IsTrue, [], ◌∷◌, refl, sym, ap, ◌∙◌, subst}
use Rattle.std.specs.Prelude.{bytes_eq}
use Rattle.std.proofs.lemmas.Slice.Eq.{bytes_eq-Decides}
use Rattle.sf_value.specs.Values.{Name, Data, first_of, second_of}
use Rattle.sf_func.specs.Registries.{AnswersByName}
use Rattle.sf_expr.specs.Expressions.{Pattern, unnamed, named, both}
use Rattle.sf_expr.specs.Evaluation.{scope_functions, value_of, nonsense}
use Rattle.sf_term.specs.declared.form.Start.{Start}
use Rattle.sf_term.specs.declared.form.Start.TheVariants.{Run, Fresh}
use Rattle.sf_term.specs.Trees.{Term}
use Rattle.sf_mean.specs.Lives.{Life, Process, closure, resumed, Environment, empty, known, running, collected, Members, no_members, member, members_of, passing, process_of, base, process_started, scope_around, bind, frozen, each_frozen}
use Rattle.sf_coincidence.specs.Mentions.{BindsOthers, Mentions}
use Rattle.sf_coincidence.specs.Alike.{Alike, of_closures, of_frozen, AlikeMembers, none_alike, member_alike, AlikeName, alike_at, all_but, restricted}
use Rattle.sf_coincidence.proofs.Worth.{Agrees, values_by_test, differs}

-- ## The parts of what is alike

values_alike : {x : Name} {e d : Environment} → AlikeName x e d → (φ : AnswersByName) → value_of x (scope_around φ e) ≡ value_of x (scope_around φ d)
values_alike (alike_at V R M) = V

pub process_alike : {x : Name} {e d : Environment} → AlikeName x e d → Alike (process_of x e) (process_of x d)
process_alike (alike_at V R M) = R

pub members_alike : {x : Name} {e d : Environment} → AlikeName x e d → AlikeMembers (members_of x e) (members_of x d)
members_alike (alike_at V R M) = M

-- these names stand for alike
abbrev pub AlikeFor : (Name → Type 0) → Environment → Environment → Type 0
AlikeFor M e d = (x : Name) → M x → AlikeName x e d

functions_around : (φ : AnswersByName) (e : Environment) → scope_functions (scope_around φ e) ≡ φ
functions_around φ empty = refl
functions_around φ (known x v e) = functions_around φ e
functions_around φ (running x P e) = functions_around φ e
functions_around φ (collected x ms e) = functions_around φ e

pub scopes_agree : {M : Name → Type 0} {e d : Environment} (φ : AnswersByName) → AlikeFor M e d → Agrees M (scope_around φ e) (scope_around φ d)
scopes_agree {e = e} {d = d} φ E = record {
  functions = functions_around φ e ∙ sym (functions_around φ d);
  values = λ x h. values_alike (E x h) φ;
}

-- ## Environments

pub alike_passing : Alike passing passing
alike_passing = of_closures (λ x h. absurd h)

pub at_empty : (x : Name) → AlikeName x empty empty
at_empty x = alike_at (λ φ. refl) alike_passing none_alike

alike_by_test : {P P' Q Q' : Process} (b : Bool) → Alike P P' → (b ≡ false → Alike Q Q') → Alike (cond b P Q) (cond b P' Q')
alike_by_test true A B = A
alike_by_test false A B = B refl

pub members_by_test : {ms qs rs ts : Members} (b : Bool) → AlikeMembers ms qs → (b ≡ false → AlikeMembers rs ts) → AlikeMembers (cond b ms rs) (cond b qs ts)
members_by_test true A B = A
members_by_test false A B = B refl

-- inside one name more, another name stands for alike where it did so around
pub at_known : {x : Name} {e d : Environment} (y : Name) (v : Data) → (bytes_eq x y ≡ false → AlikeName x e d) → AlikeName x (known y v e) (known y v d)
at_known {x} y v E =
    alike_at
    (λ φ. values_by_test (bytes_eq x y) v (λ h. values_alike (E h) φ))
    (alike_by_test (bytes_eq x y) alike_passing (λ h. process_alike (E h)))
    (members_by_test (bytes_eq x y) none_alike (λ h. members_alike (E h)))

pub at_running : {x : Name} {e d : Environment} {P Q : Process} (y : Name) → Alike P Q → (bytes_eq x y ≡ false → AlikeName x e d) → AlikeName x (running y P e) (running y Q d)
at_running {x} y A E =
    alike_at
    (λ φ. values_by_test (bytes_eq x y) nonsense (λ h. values_alike (E h) φ))
    (alike_by_test (bytes_eq x y) A (λ h. process_alike (E h)))
    (members_by_test (bytes_eq x y) none_alike (λ h. members_alike (E h)))

pub at_collected : {x : Name} {e d : Environment} {ms qs : Members} (y : Name) → AlikeMembers ms qs → (bytes_eq x y ≡ false → AlikeName x e d) → AlikeName x (collected y ms e) (collected y qs d)
at_collected {x} y A E =
    alike_at
    (λ φ. values_by_test (bytes_eq x y) nonsense (λ h. values_alike (E h) φ))
    (alike_by_test (bytes_eq x y) alike_passing (λ h. process_alike (E h)))
    (members_by_test (bytes_eq x y) A (λ h. members_alike (E h)))

pub at_bound : {x : Name} {e d : Environment} (p : Pattern) (v : Data) → (BindsOthers p x → AlikeName x e d) → AlikeName x (bind p v e) (bind p v d)
at_bound unnamed v E = E tt
at_bound {x} (named y) v E = at_known y v (λ h. E (differs x y h))
at_bound (both p q) v E = at_bound q (second_of v) (λ k. at_bound p (first_of v) (λ h. E (h, k)))

-- ## Processes

alike_base : {P Q : Process} → Alike P Q → Alike (base P) (base Q)
alike_base (of_closures E) = of_closures E
alike_base (of_frozen A) = alike_base A

pub alike_started : {k : Name} {e d : Environment} (w : Start) → AlikeName k e d → Alike (process_started w k e) (process_started w k d)
alike_started Run E = process_alike E
alike_started Fresh E = alike_base (process_alike E)

pub alike_frozen : {P Q : Process} (h : Life) (w : ℕ) → Alike P Q → Alike (frozen P h w) (frozen Q h w)
alike_frozen [] w A = A
alike_frozen (s ∷ h) w A = of_frozen A

pub each_alike_frozen : {ms qs : Members} (h : Life) (w : ℕ) → AlikeMembers ms qs → AlikeMembers (each_frozen ms h w) (each_frozen qs h w)
each_alike_frozen h w none_alike = none_alike
each_alike_frozen h w (member_alike A M) = member_alike (alike_frozen h w A) (each_alike_frozen h w M)

-- ## Each process is like itself, and like what is like it

mutual
  pub alike_itself : (P : Process) → Alike P P
  alike_itself (closure t e) = of_closures (λ x h. at_itself x e)
  alike_itself (resumed P h d) = of_frozen (alike_itself P)

  pub at_itself : (x : Name) (e : Environment) → AlikeName x e e
  at_itself x empty = at_empty x
  at_itself x (known y v e) = at_known y v (λ h. at_itself x e)
  at_itself x (running y P e) = at_running y (alike_itself P) (λ h. at_itself x e)
  at_itself x (collected y ms e) = at_collected y (members_themselves ms) (λ h. at_itself x e)

  pub members_themselves : (ms : Members) → AlikeMembers ms ms
  members_themselves no_members = none_alike
  members_themselves (member k P ms) = member_alike (alike_itself P) (members_themselves ms)

mutual
  pub alike_back : {P Q : Process} → Alike P Q → Alike Q P
  alike_back (of_closures E) = of_closures (λ x h. at_back (E x h))
  alike_back (of_frozen A) = of_frozen (alike_back A)

  at_back : {x : Name} {e d : Environment} → AlikeName x e d → AlikeName x d e
  at_back (alike_at V R M) = alike_at (λ φ. sym (V φ)) (alike_back R) (members_back M)

  members_back : {ms qs : Members} → AlikeMembers ms qs → AlikeMembers qs ms
  members_back none_alike = none_alike
  members_back (member_alike A M) = member_alike (alike_back A) (members_back M)

mutual
  pub alike_through : {P Q R : Process} → Alike P Q → Alike Q R → Alike P R
  alike_through (of_closures E) (of_closures F) = of_closures (λ x h. at_through (E x h) (F x h))
  alike_through (of_frozen A) (of_frozen B) = of_frozen (alike_through A B)

  at_through : {x : Name} {c d e : Environment} → AlikeName x c d → AlikeName x d e → AlikeName x c e
  at_through (alike_at V A M) (alike_at W B O) = alike_at (λ φ. V φ ∙ W φ) (alike_through A B) (members_through M O)

  members_through : {ms qs rs : Members} → AlikeMembers ms qs → AlikeMembers qs rs → AlikeMembers ms rs
  members_through none_alike none_alike = none_alike
  members_through (member_alike A M) (member_alike B O) = member_alike (alike_through A B) (members_through M O)

-- ## Only some names

module _ (x : Name) where
  -- behind another name stand the members that stood there
  no_members_between : {ms qs : Members} (y : Name) → bytes_eq x y ≡ false → AlikeMembers ms qs → AlikeMembers ms (cond (bytes_eq x y) no_members qs)
  no_members_between {ms} {qs} y h M = let N : Bool → Type 0 = λ b. AlikeMembers ms (cond b no_members qs) in subst N (sym h) M

  pub at_other_value : {e d : Environment} (y : Name) (v : Data) → bytes_eq x y ≡ false → AlikeName x d e → AlikeName x d (known y v e)
  at_other_value {e} {d} y v h (alike_at V R M) =
      let C : Bool → Type 0 = λ b. (φ : AnswersByName) → value_of x (scope_around φ d) ≡ cond b v (value_of x (scope_around φ e)) in
      let D : Bool → Type 0 = λ b. Alike (process_of x d) (cond b passing (process_of x e)) in
      alike_at (subst C (sym h) V) (subst D (sym h) R) (no_members_between y h M)

  pub at_other_process : {e d : Environment} (y : Name) (P : Process) → bytes_eq x y ≡ false → AlikeName x d e → AlikeName x d (running y P e)
  at_other_process {e} {d} y P h (alike_at V R M) =
      let C : Bool → Type 0 = λ b. (φ : AnswersByName) → value_of x (scope_around φ d) ≡ cond b nonsense (value_of x (scope_around φ e)) in
      let D : Bool → Type 0 = λ b. Alike (process_of x d) (cond b P (process_of x e)) in
      alike_at (subst C (sym h) V) (subst D (sym h) R) (no_members_between y h M)

  pub at_other_members : {e d : Environment} (y : Name) (ms : Members) → bytes_eq x y ≡ false → AlikeName x d e → AlikeName x d (collected y ms e)
  at_other_members {e} {d} y ms h (alike_at V R M) =
      let C : Bool → Type 0 = λ b. (φ : AnswersByName) → value_of x (scope_around φ d) ≡ cond b nonsense (value_of x (scope_around φ e)) in
      let D : Bool → Type 0 = λ b. Alike (process_of x d) (cond b passing (process_of x e)) in
      let N : Bool → Type 0 = λ b. AlikeMembers (members_of x d) (cond b ms (members_of x e)) in
      alike_at (subst C (sym h) V) (subst D (sym h) R) (subst N (sym h) M)

  module _ (wanted : Name → Bool) (is_wanted : IsTrue (wanted x)) (y : Name) where
    -- a name that isn't wanted is another one
    another : wanted y ≡ false → bytes_eq x y ≡ false
    another h = by (bytes_eq x y) refl
      where
        by : (b : Bool) → bytes_eq x y ≡ b → b ≡ false
        by true same = absurd (let equal : wanted x ≡ wanted y = ap wanted ((bytes_eq-Decides x y).0 same) in cc)
        by false same = refl

    -- another name than one of those that are wanted is still wanted behind it
    still_wanted : bytes_eq x y ≡ false → IsTrue (all_but y wanted x)
    still_wanted h = let N : Bool → Type 0 = λ b. IsTrue (cond b false (wanted x)) in subst N (sym h) is_wanted

  pub at_restricted : (e : Environment) (wanted : Name → Bool) → IsTrue (wanted x) → AlikeName x (restricted wanted e) e
  at_restricted empty wanted w = at_empty x
  at_restricted (known y v e) wanted w = by (wanted y) refl (λ h. at_restricted e (all_but y wanted) (still_wanted wanted w y h)) (at_restricted e wanted w)
    where
      by : (b : Bool) → wanted y ≡ b → (bytes_eq x y ≡ false → AlikeName x (restricted (all_but y wanted) e) e) → AlikeName x (restricted wanted e) e
          → AlikeName x (cond b (known y v (restricted (all_but y wanted) e)) (restricted wanted e)) (known y v e)
      by true h E F = at_known y v E
      by false h E F = at_other_value y v (another wanted w y h) F
  at_restricted (running y P e) wanted w = by (wanted y) refl (λ h. at_restricted e (all_but y wanted) (still_wanted wanted w y h)) (at_restricted e wanted w)
    where
      by : (b : Bool) → wanted y ≡ b → (bytes_eq x y ≡ false → AlikeName x (restricted (all_but y wanted) e) e) → AlikeName x (restricted wanted e) e
          → AlikeName x (cond b (running y P (restricted (all_but y wanted) e)) (restricted wanted e)) (running y P e)
      by true h E F = at_running y (alike_itself P) E
      by false h E F = at_other_process y P (another wanted w y h) F
  at_restricted (collected y ms e) wanted w = by (wanted y) refl (λ h. at_restricted e (all_but y wanted) (still_wanted wanted w y h)) (at_restricted e wanted w)
    where
      by : (b : Bool) → wanted y ≡ b → (bytes_eq x y ≡ false → AlikeName x (restricted (all_but y wanted) e) e) → AlikeName x (restricted wanted e) e
          → AlikeName x (cond b (collected y ms (restricted (all_but y wanted) e)) (restricted wanted e)) (collected y ms e)
      by true h E F = at_collected y (members_themselves ms) E
      by false h E F = at_other_members y ms (another wanted w y h) F

pub alike_restricted : (t : Term) (e : Environment) (wanted : Name → Bool) → ((x : Name) → Mentions t x → IsTrue (wanted x)) → Alike (closure t (restricted wanted e)) (closure t e)
alike_restricted t e wanted h = of_closures (λ x m. at_restricted x e wanted (h x m))
