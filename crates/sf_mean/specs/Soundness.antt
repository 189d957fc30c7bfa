-- Typed lives and processes.
use Rattle.std.specs.Prelude.{◌≡◌, ℕ, List, [], ◌∷◌, ⊤, Bool, true, false, ◌&&◌, IsTrue, Some, slice_get}
use Rattle.sf_value.specs.Values.{Name, KeyKind, Kind, KeyData, IsOneOf, HasKeyKind, Data, HasKind}
use Rattle.sf_func.specs.Registries.{TypesByName, KeepTheirTypes}
use Rattle.sf_term.specs.Trees.{Term, primitive, reference, started, call, joined, sided, headed, transformed, switching, continuing, gathered, releasing, editing, staged, Collection, without_members, used, added, dropped, kept, chosen, Template}
use Rattle.sf_mean.specs.Lives.{Step, input_of, Life, Environment, empty, known, running, collected, Members, no_members, member, Process, closure, resumed}
use Rattle.sf_mean.specs.Meaning.{Network, Outcome, gave, faulted, Outputs}
use Rattle.sf_mean.specs.Contexts.{value, process, collection, Bindings, outer_context}
use Rattle.sf_mean.specs.Typing.{Takes, IsTyped}

-- Each value of a list has a type.
pub data Have : List Data → Kind → Type 0 where
  have_nothing : {t : Kind} → Have [] t
  have_more : {y : Data} {ys : List Data} {t : Kind} → HasKind y t → Have ys t → Have (y ∷ ys) t

-- Each input of a life has a type.
pub data LifeHas : Life → Kind → Type 0 where
  no_steps : {t : Kind} → LifeHas [] t
  more_steps : {s : Step} {L : Life} {t : Kind} → HasKind (input_of s) t → LifeHas L t → LifeHas (s ∷ L) t

-- In a network with functions of these types each template's term takes its header's types, and the functions keep theirs.
pub record NetworkIsTyped (fs : TypesByName) (n : Network) : Type 0 where
  pub functions : KeepTheirTypes fs n.functions
  pub templates : (i : ℕ) (t : Template) → slice_get n.templates i ≡ Some t → IsTyped fs n.templates t

-- each key of members is none of those seen and none of those before it
abbrev pub HaveNewKeys : List KeyData → Members → Type 0
HaveNewKeys seen no_members = ⊤
HaveNewKeys seen (member k P ms) = (¬ IsOneOf k seen) × HaveNewKeys (k ∷ seen) ms

mutual
  -- In a network, an environment has the names of a context, each with what it stands for.
  pub data EnvironmentHas (n : Network) : Environment → Bindings → Type 0 where
    has_nothing : EnvironmentHas n empty []
    has_value : {x : Name} {d : Data} {t : Kind} {e : Environment} {bs : Bindings} → HasKind d t → EnvironmentHas n e bs → EnvironmentHas n (known x d e) ((x, value t) ∷ bs)
    has_process : {x : Name} {P : Process} {a b : Kind} {e : Environment} {bs : Bindings} → ProcessTakes n P a b → EnvironmentHas n e bs → EnvironmentHas n (running x P e) ((x, process a b) ∷ bs)
    has_members : {x : Name} {ms : Members} {k : KeyKind} {a b : Kind} {e : Environment} {bs : Bindings}
        → HaveNewKeys [] ms → MembersTake n ms k a b → EnvironmentHas n e bs → EnvironmentHas n (collected x ms e) ((x, collection k a b) ∷ bs)

  -- In a network, a process takes inputs of one type to outputs of another: the network is typed, and the environment has names
  -- under which, and under the headers of the network, its term takes them; what was frozen has lived such inputs.
  pub data ProcessTakes (n : Network) : Process → Kind → Kind → Type 0 where
    closure_takes : {t : Term} {e : Environment} {fs : TypesByName} {bs : Bindings} {a b : Kind}
        → NetworkIsTyped fs n → EnvironmentHas n e bs → Takes (outer_context fs bs n.templates) t a b → ProcessTakes n (closure t e) a b
    resumed_takes : {P : Process} {h : Life} {d : ℕ} {a b : Kind} → ProcessTakes n P a b → LifeHas h a → ProcessTakes n (resumed P h d) a b

  -- Members have keys of a type, and each takes inputs of one type to outputs of another.
  pub data MembersTake (n : Network) : Members → KeyKind → Kind → Kind → Type 0 where
    no_members_take : {k : KeyKind} {a b : Kind} → MembersTake n no_members k a b
    member_takes : {l : KeyData} {P : Process} {ms : Members} {k : KeyKind} {a b : Kind} → HasKeyKind l k → ProcessTakes n P a b → MembersTake n ms k a b → MembersTake n (member l P ms) k a b

mutual
  -- What was frozen in a process had lived so: its process gave values.
  pub data HasLived (n : Network) : Process → Type 0 where
    closed : {t : Term} {e : Environment} → HaveLived n e → HasLived n (closure t e)
    was_frozen : {P : Process} {h : Life} {d : ℕ} {ys : List Data} → HasLived n P → Outputs n P h ys → HasLived n (resumed P h d)

  -- the same of each member
  pub data EachHasLived (n : Network) : Members → Type 0 where
    none_has_lived : EachHasLived n no_members
    one_has_lived : {k : KeyData} {P : Process} {ms : Members} → HasLived n P → EachHasLived n ms → EachHasLived n (member k P ms)

  -- the same of each process of an environment
  pub data HaveLived (n : Network) : Environment → Type 0 where
    none_lived : HaveLived n empty
    value_beside : {x : Name} {d : Data} {e : Environment} → HaveLived n e → HaveLived n (known x d e)
    process_lived : {x : Name} {P : Process} {e : Environment} → HasLived n P → HaveLived n e → HaveLived n (running x P e)
    collection_lived : {x : Name} {ms : Members} {e : Environment} → EachHasLived n ms → HaveLived n e → HaveLived n (collected x ms e)

abbrev mutual
  -- no template is called in a term, in the bodies of its switches and in its edits neither
  pub is_without_calls : Term → Bool
  is_without_calls (primitive p) = true
  is_without_calls (reference (started w k)) = true
  is_without_calls (reference (call g vs)) = false
  is_without_calls (joined j f g) = is_without_calls f && is_without_calls g
  is_without_calls (sided d t) = is_without_calls t
  is_without_calls (headed h i t) = is_without_calls t
  is_without_calls (transformed f t) = is_without_calls t
  is_without_calls (switching w t p u) = is_without_calls t && is_without_calls u
  is_without_calls (continuing w t q k p u) = is_without_calls t && (is_without_calls q && is_without_calls u)
  is_without_calls (gathered i) = collects_without_calls i
  is_without_calls (releasing w i q k p u) = collects_without_calls i && (is_without_calls q && is_without_calls u)
  is_without_calls (editing w i k p u) = collects_without_calls i && collects_without_calls u
  is_without_calls (staged x f g) = is_without_calls f && is_without_calls g

  -- nor in the terms of a collection
  pub collects_without_calls : Collection → Bool
  collects_without_calls (without_members k t) = true
  collects_without_calls (used x) = true
  collects_without_calls (added i j t) = collects_without_calls i && is_without_calls t
  collects_without_calls (dropped i j) = collects_without_calls i
  collects_without_calls (kept i f) = collects_without_calls i
  collects_without_calls (chosen j a b) = collects_without_calls a && collects_without_calls b

mutual
  -- No template is called in a process, in what its names stand for neither.
  pub data HasNoCalls : Process → Type 0 where
    closed_without_calls : {t : Term} {e : Environment} → IsTrue (is_without_calls t) → HaveNoCalls e → HasNoCalls (closure t e)
    frozen_without_calls : {P : Process} {h : Life} {d : ℕ} → HasNoCalls P → HasNoCalls (resumed P h d)

  -- the same of each member
  pub data EachHasNoCalls : Members → Type 0 where
    none_without_calls : EachHasNoCalls no_members
    one_without_calls : {k : KeyData} {P : Process} {ms : Members} → HasNoCalls P → EachHasNoCalls ms → EachHasNoCalls (member k P ms)

  -- the same of each process of an environment
  pub data HaveNoCalls : Environment → Type 0 where
    none_calls : HaveNoCalls empty
    value_without_calls : {x : Name} {d : Data} {e : Environment} → HaveNoCalls e → HaveNoCalls (known x d e)
    process_without_calls : {x : Name} {P : Process} {e : Environment} → HasNoCalls P → HaveNoCalls e → HaveNoCalls (running x P e)
    members_without_calls : {x : Name} {ms : Members} {e : Environment} → EachHasNoCalls ms → HaveNoCalls e → HaveNoCalls (collected x ms e)

-- the value of an outcome has a type
abbrev pub OutcomeHas : Outcome → Kind → Type 0
OutcomeHas (gave y r) t = HasKind y t
OutcomeHas (faulted x) t = ⊤
