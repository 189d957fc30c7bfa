-- Members of a collection with keys of a type, which take inputs of one type to outputs of another.
use Rattle.std.proofs.Common.{ℕ, ◌≡◌, inl, inr, Bool, true, false, cond, List, [], ◌∷◌, Some, refl, sym, subst}
use Rattle.std.specs.Prelude.{bytes_eq}
use Rattle.std.proofs.lemmas.Option.{same_Some}
use Rattle.sf_value.specs.Values.{Name, KeyKind, int_keys, text_keys, KeyData, IsOneOf, Kind, table_kind, Data, table, HasKind, has_int, has_text, has_table, HasRowKinds, has_row, HasNewKeys, HasKeyKind, has_int_key, has_text_key}
use Rattle.sf_value.specs.Lookups.{equal_keys}
use Rattle.sf_value.proofs.Under.{equal_keys-Decides}
use Rattle.sf_operator.specs.Kinds.{kind_of_keys}
use Rattle.sf_operator.specs.FunctionForms.{value_of_key}
use Rattle.sf_expr.specs.Evaluation.{Evaluated, answer, failed, ◌>>=◌}
use Rattle.sf_mean.specs.Lives.{Life, Environment, Members, no_members, member, members_of, Process, frozen, each_frozen}
use Rattle.sf_mean.specs.Formulas.{is_high}
use Rattle.sf_mean.specs.Collections.{as_key, add, drop, keep, leading_row}
use Rattle.sf_mean.specs.Contexts.{value, process, collection, Bindings, types_of_collection, collection_named}
use Rattle.sf_mean.specs.Meaning.{Network, Outcome, gave, faulted, combined}
use Rattle.sf_mean.specs.Soundness.{LifeHas, no_steps, more_steps, HaveNewKeys, ProcessTakes, resumed_takes, MembersTake, no_members_take, member_takes, EnvironmentHas, has_nothing, has_value, has_process, has_members, OutcomeHas}

-- what was bound to an answer
pub bound_answer : {A B : Type 0} (q : Evaluated A) (f : A → Evaluated B) {b : B} → (q >>= f) ≡ answer b → (a : A) × (q ≡ answer a) × (f a ≡ answer b)
bound_answer (answer a) f h = (a, refl, h)
bound_answer (failed x) f h = absurd cc

pub same_answer : {A : Type 0} {a b : A} → answer a ≡ answer b → a ≡ b
same_answer h = cc

-- ## Keys

-- fewer keys were seen
fewer : (seen less : List KeyData) → ((j : KeyData) → IsOneOf j less → IsOneOf j seen) → (ms : Members) → HaveNewKeys seen ms → HaveNewKeys less ms
fewer seen less f no_members h = tt
fewer seen less f (member k P ms) h = (λ i. h.0 (f k i), fewer (k ∷ seen) (k ∷ less) each ms h.1)
  where
    each : (j : KeyData) → IsOneOf j (k ∷ less) → IsOneOf j (k ∷ seen)
    each j (inl e) = inl e
    each j (inr o) = inr (f j o)

not_true : false ≡ true → ⊥
not_true h = cc

new_add : (seen : List KeyData) (k : KeyData) (P : Process) (ms : Members) → (IsOneOf k seen → ⊥) → HaveNewKeys seen ms → HaveNewKeys seen (add k P ms)
new_add seen k P no_members n h = (n, tt)
new_add seen k P (member l Q ms) n h = by_test (equal_keys k l) refl (new_add (l ∷ seen) k P ms)
  where
    by_test : (b : Bool) → equal_keys k l ≡ b → ((IsOneOf k (l ∷ seen) → ⊥) → HaveNewKeys (l ∷ seen) ms → HaveNewKeys (l ∷ seen) (add k P ms)) → HaveNewKeys seen (cond b (member k P ms) (member l Q (add k P ms)))
    by_test true e f = (n, subst (λ j. HaveNewKeys (j ∷ seen) ms) (sym ((equal_keys-Decides k l).0 e)) h.1)
    by_test false e f = (h.0, f other h.1)
      where
        other : IsOneOf k (l ∷ seen) → ⊥
        other (inl i) = let g = (equal_keys-Decides k l).1 i in cc
        other (inr o) = n o

new_drop : (seen : List KeyData) (k : KeyData) (ms : Members) → HaveNewKeys seen ms → HaveNewKeys seen (drop k ms)
new_drop seen k no_members h = tt
new_drop seen k (member l Q ms) h = by_test (equal_keys k l) (new_drop (l ∷ seen) k ms h.1)
  where
    by_test : (b : Bool) → HaveNewKeys (l ∷ seen) (drop k ms) → HaveNewKeys seen (cond b ms (member l Q (drop k ms)))
    by_test true i = fewer (l ∷ seen) seen (λ j o. inr o) ms h.1
    by_test false i = (h.0, i)

new_keep : (seen : List KeyData) (f : Data → Evaluated Data) (ms : Members) {qs : Members} → keep f ms ≡ answer qs → HaveNewKeys seen ms → HaveNewKeys seen qs
new_keep seen f no_members e h = subst (HaveNewKeys seen) (same_answer e) tt
new_keep seen f (member k P ms) {qs} e h =
    let asked = bound_answer (f (value_of_key k)) (λ b. keep f ms >>= λ rest. answer (cond (is_high b) (member k P rest) rest)) e in
    let rest = bound_answer (keep f ms) (λ rest. answer (cond (is_high asked.0) (member k P rest) rest)) asked.2 in
    subst (HaveNewKeys seen) (same_answer rest.2) (by_test rest.0 (is_high asked.0) (new_keep (k ∷ seen) f ms rest.1 h.1))
  where
    by_test : (rest : Members) (b : Bool) → HaveNewKeys (k ∷ seen) rest → HaveNewKeys seen (cond b (member k P rest) rest)
    by_test rest true i = (h.0, i)
    by_test rest false i = fewer (k ∷ seen) seen (λ j o. inr o) rest i

new_frozen : (seen : List KeyData) (ms : Members) (L : Life) (d : ℕ) → HaveNewKeys seen ms → HaveNewKeys seen (each_frozen ms L d)
new_frozen seen no_members L d h = tt
new_frozen seen (member k P ms) L d h = (h.0, new_frozen (k ∷ seen) ms L d h.1)

-- ## Members

-- what was frozen has the types of its process
pub frozen_takes : {n : Network} {P : Process} {h : Life} (d : ℕ) {a b : Kind} → ProcessTakes n P a b → LifeHas h a → ProcessTakes n (frozen P h d) a b
frozen_takes d T no_steps = T
frozen_takes d T (more_steps {s = s} i l) = resumed_takes T (more_steps {s = s} i l)

-- a value of the type of keys is a key of it
pub key_is : {v : Data} (k : KeyKind) → HasKind v (kind_of_keys k) → HasKeyKind (as_key v) k
key_is int_keys (has_int h) = has_int_key h
key_is text_keys (has_text h) = has_text_key h

-- different keys of a type, over processes of these types
abbrev pub Gathers : Network → KeyKind → Kind → Kind → Members → Type 0
Gathers n k a b ms = HaveNewKeys [] ms × MembersTake n ms k a b

module _ {n : Network} {k : KeyKind} {a b : Kind} where
  add_takes : {l : KeyData} {P : Process} {ms : Members} → HasKeyKind l k → ProcessTakes n P a b → MembersTake n ms k a b → MembersTake n (add l P ms) k a b
  add_takes h p no_members_take = member_takes h p no_members_take
  add_takes {l} {P} h p (member_takes {l = j} {P = Q} {ms = ms} i q m) = by_test (equal_keys l j) (add_takes h p m)
    where
      by_test : (t : Bool) → MembersTake n (add l P ms) k a b → MembersTake n (cond t (member l P ms) (member j Q (add l P ms))) k a b
      by_test true r = member_takes h p m
      by_test false r = member_takes i q r

  drop_takes : (l : KeyData) {ms : Members} → MembersTake n ms k a b → MembersTake n (drop l ms) k a b
  drop_takes l no_members_take = no_members_take
  drop_takes l (member_takes {l = j} {P = Q} {ms = ms} i q m) = by_test (equal_keys l j) (drop_takes l m)
    where
      by_test : (t : Bool) → MembersTake n (drop l ms) k a b → MembersTake n (cond t ms (member j Q (drop l ms))) k a b
      by_test true r = m
      by_test false r = member_takes i q r

  keep_takes : (f : Data → Evaluated Data) {ms qs : Members} → keep f ms ≡ answer qs → MembersTake n ms k a b → MembersTake n qs k a b
  keep_takes f e no_members_take = subst (λ qs. MembersTake n qs k a b) (same_answer e) no_members_take
  keep_takes f e (member_takes {l = l} {P = P} {ms = ms} i q m) =
      let asked = bound_answer (f (value_of_key l)) (λ b. keep f ms >>= λ rest. answer (cond (is_high b) (member l P rest) rest)) e in
      let rest = bound_answer (keep f ms) (λ rest. answer (cond (is_high asked.0) (member l P rest) rest)) asked.2 in
      subst (λ qs. MembersTake n qs k a b) (same_answer rest.2) (by_test (is_high asked.0) (keep_takes f rest.1 m))
    where
      by_test : {rest : Members} (t : Bool) → MembersTake n rest k a b → MembersTake n (cond t (member l P rest) rest) k a b
      by_test true r = member_takes i q r
      by_test false r = r

  each_frozen_takes : {ms : Members} {L : Life} (d : ℕ) → MembersTake n ms k a b → LifeHas L a → MembersTake n (each_frozen ms L d) k a b
  each_frozen_takes d no_members_take l = no_members_take
  each_frozen_takes d (member_takes i q m) l = member_takes i (frozen_takes d q l) (each_frozen_takes d m l)

  pub gathers_none : Gathers n k a b no_members
  gathers_none = (tt, no_members_take)

  pub gathers_added : {l : KeyData} {P : Process} {ms : Members} → HasKeyKind l k → ProcessTakes n P a b → Gathers n k a b ms → Gathers n k a b (add l P ms)
  gathers_added {l} {P} {ms} h p g = (new_add [] l P ms (λ o. o) g.0, add_takes h p g.1)

  pub gathers_dropped : (l : KeyData) {ms : Members} → Gathers n k a b ms → Gathers n k a b (drop l ms)
  gathers_dropped l {ms} g = (new_drop [] l ms g.0, drop_takes l g.1)

  pub gathers_kept : (f : Data → Evaluated Data) {ms qs : Members} → keep f ms ≡ answer qs → Gathers n k a b ms → Gathers n k a b qs
  gathers_kept f {ms} e g = (new_keep [] f ms e g.0, keep_takes f e g.1)

  pub gathers_frozen : {ms : Members} {L : Life} (d : ℕ) → Gathers n k a b ms → LifeHas L a → Gathers n k a b (each_frozen ms L d)
  gathers_frozen {ms} {L} d g l = (new_frozen [] ms L d g.0, each_frozen_takes d g.1 l)

-- the members of a name have its types
pub used_gathers : {n : Network} (x : Name) {e : Environment} {bs : Bindings} {k : KeyKind} {a b : Kind} → EnvironmentHas n e bs → collection_named x bs ≡ Some (k, a, b) → Gathers n k a b (members_of x e)
used_gathers x has_nothing h = absurd cc
used_gathers {n} x {k = k} {a = a} {b = b} (has_value {x = y} {t = t} {e = e} {bs = bs} v E) h = by_test (bytes_eq x y) h (used_gathers x E)
  where
    by_test : (s : Bool) → cond s (types_of_collection (value t)) (collection_named x bs) ≡ Some (k, a, b) → (collection_named x bs ≡ Some (k, a, b) → Gathers n k a b (members_of x e)) → Gathers n k a b (cond s no_members (members_of x e))
    by_test true h f = absurd cc
    by_test false h f = f h
used_gathers {n} x {k = k} {a = a} {b = b} (has_process {x = y} {a = c} {b = d} {e = e} {bs = bs} T E) h = by_test (bytes_eq x y) h (used_gathers x E)
  where
    by_test : (s : Bool) → cond s (types_of_collection (process c d)) (collection_named x bs) ≡ Some (k, a, b) → (collection_named x bs ≡ Some (k, a, b) → Gathers n k a b (members_of x e)) → Gathers n k a b (cond s no_members (members_of x e))
    by_test true h f = absurd cc
    by_test false h f = f h
used_gathers {n} x {k = k} {a = a} {b = b} (has_members {x = y} {ms = ms} {k = j} {a = c} {b = d} {e = e} {bs = bs} N M E) h = by_test (bytes_eq x y) h (used_gathers x E)
  where
    by_test : (s : Bool) → cond s (types_of_collection (collection j c d)) (collection_named x bs) ≡ Some (k, a, b) → (collection_named x bs ≡ Some (k, a, b) → Gathers n k a b (members_of x e)) → Gathers n k a b (cond s ms (members_of x e))
    by_test true h f = let same : (j, c, d) ≡ (k, a, b) = same_Some _ _ h in subst (λ (t : KeyKind × Kind × Kind). Gathers n t.0 t.1 t.2 ms) same (N, M)
    by_test false h f = f h

-- ## Tables

-- a table with a row for each of these members
pub data RowsOf (ms : Members) (k : KeyKind) (b : Kind) : Outcome → Type 0 where
  rows_of : {rs : _} {r : _} → HasRowKinds rs k b → ((seen : List KeyData) → HaveNewKeys seen ms → HasNewKeys seen rs) → RowsOf ms k b (gave (table rs) r)
  no_rows_of : {x : _} → RowsOf ms k b (faulted x)

pub rows_typed : {ms : Members} {k : KeyKind} {b : Kind} {o : Outcome} → HaveNewKeys [] ms → RowsOf ms k b o → OutcomeHas o (table_kind k b)
rows_typed N (rows_of R S) = has_table R (S [] N)
rows_typed N no_rows_of = tt

-- one more row, or the first fault
pub with_row_of : {l : KeyData} {P : Process} {ms : Members} {k : KeyKind} {b : Kind} → HasKeyKind l k → (o o' : Outcome) → OutcomeHas o b → RowsOf ms k b o' → RowsOf (member l P ms) k b (combined (leading_row l) o o')
with_row_of i (gave y r) (gave z q) h (rows_of R S) = rows_of (has_row i h R) (λ seen N. (N.0, S _ N.1))
with_row_of i (gave y r) (faulted x) h R = no_rows_of
with_row_of i (faulted x) o' h R = no_rows_of
