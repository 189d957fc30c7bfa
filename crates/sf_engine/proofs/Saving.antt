-- How what is kept under names is found, and kept.
use Rattle.std.proofs.Common.{◌≡◌, ◌≢◌, ℕ, nat_lt, arith, ◌<◌, ◌↔◌, inl, inr, Bool, true, false, cond, IsTrue, List, [], ◌∷◌, length, Option, Some, None, is_some, refl, sym, ◌∙◌, subst, true≢false, String, string_bytes}
use Rattle.std.proofs.lemmas.Bool.Decides.{nat_tests}
use Rattle.std.specs.Map.{lookup}
use Rattle.std.specs.Str.{bytes_eq}
use Rattle.std.specs.String.{string_eq}
use Rattle.std.specs.declared.alloc.Global.{Global}
use Rattle.std.proofs.lemmas.Slice.Zip.{AllZip-long}
use Rattle.indexmap.specs.IndexMap.{insert_entry}
use Rattle.sf_value.specs.Values.{Name, Data}
use Rattle.sf_state.specs.Machine.{Machine, machine}
use Rattle.sf_term.specs.Trees.{Template}
use Rattle.sf_mean.specs.Lives.{Life}
use Rattle.sf_mean.specs.Meaning.{Network}
use Rattle.sf_engine.specs.declared.engine.Engine.{Engine}
use Rattle.sf_engine.specs.declared.engine.save.Save.{Save}
use Rattle.sf_engine.specs.Histories.{newest_input, Saves, saved_under, save_kept, MaySave}
use Rattle.sf_engine.specs.Running.{IsSaveOf, AreSavesOf, Runs}

-- what is kept under a name
abbrev pub kept_under : Name → List (String Global × Save) → Option Save
kept_under name vs = lookup (λ k. bytes_eq name (string_bytes k)) vs

module _ (μ : Machine) (m : Template) where
  -- what is kept, if anything is, stands for a history
  abbrev pub AreAlike : Option Save → Option Life → Type 0
  AreAlike None None = Unit {0}
  AreAlike None (Some K) = ⊥
  AreAlike (Some v) None = ⊥
  AreAlike (Some v) (Some K) = IsSaveOf μ m v K

  -- what is found under a name
  pub found_alike : (name : Name) (vs : List (String Global × Save)) (S : Saves) → AreSavesOf μ m vs S → AreAlike (kept_under name vs) (saved_under name S)
  found_alike name [] [] kept = tt
  found_alike name (v ∷ vs) [] kept = absurd kept
  found_alike name [] (s ∷ S) kept = absurd kept
  found_alike name (v ∷ vs) (s ∷ S) kept =
      subst (λ x. AreAlike (kept_under name (v ∷ vs)) (cond (bytes_eq name x) (Some s.1) (saved_under name S))) kept.0.0
      (elim (bytes_eq name (string_bytes v.0)) as (λ b. AreAlike (cond b (Some v.1) (kept_under name vs)) (cond b (Some s.1) (saved_under name S))) [
        | true ↦ kept.0.1
        | false ↦ found_alike name vs S kept.1
      ])

  -- what is kept under a name, old or new
  pub kept_alike : (name : Name) (k : String Global) (v : Save) (K : Life) (vs : List (String Global × Save)) (S : Saves) → string_bytes k ≡ name → IsSaveOf μ m v K → AreSavesOf μ m vs S
      → AreSavesOf μ m (insert_entry string_eq vs k v) (save_kept name K S)
  kept_alike name k v K [] [] same is kept = ((same, is), tt)
  kept_alike name k v K (w ∷ vs) [] same is kept = absurd kept
  kept_alike name k v K [] (s ∷ S) same is kept = absurd kept
  kept_alike name k v K (w ∷ vs) (s ∷ S) same is kept =
      subst (λ x. AreSavesOf μ m (insert_entry string_eq (w ∷ vs) k v) (cond (bytes_eq x s.0) ((s.0, K) ∷ S) (s ∷ save_kept name K S))) same
      (subst (λ x. AreSavesOf μ m (insert_entry string_eq (w ∷ vs) k v) (cond (bytes_eq (string_bytes k) x) ((s.0, K) ∷ S) (s ∷ save_kept name K S))) kept.0.0
      (elim (bytes_eq (string_bytes k) (string_bytes w.0)) as (λ b. AreSavesOf μ m (cond b ((w.0, v) ∷ vs) (w ∷ insert_entry string_eq vs k v)) (cond b ((s.0, K) ∷ S) (s ∷ save_kept name K S))) [
        | true ↦ ((kept.0.0, is), kept.1)
        | false ↦ (kept.0, kept_alike name k v K vs S same is kept.1)
      ]))

  -- as many are kept as there are names
  pub kept_length : (vs : List (String Global × Save)) (S : Saves) → AreSavesOf μ m vs S → length S ≡ length vs
  kept_length vs S kept = AllZip-long (λ v s. (string_bytes v.0 ≡ s.0) × IsSaveOf μ m v.1 s.1) vs S kept

  -- What is kept stands for the history that is saved.
  pub record Finds (v : Save) (q : Option Life) : Type 0 where
    pub life : Life
    pub found : q ≡ Some life
    pub save : IsSaveOf μ m v life

  pub found_some : (v : Save) (q : Option Life) → AreAlike (Some v) q → Finds v q
  found_some v None alike = absurd alike
  found_some v (Some K) alike = record { life = K; found = refl; save = alike }

  pub found_none : (q : Option Life) → AreAlike None q → q ≡ None
  found_none None alike = refl
  found_none (Some K) alike = absurd alike

  -- whether there is a place under a name: where it is there, and where it isn't
  pub there_is : (o : Option Save) (q : Option Life) → AreAlike o q → is_some o ≡ true → q ≢ None
  there_is None q alike there = absurd (true≢false (sym there))
  there_is (Some v) None alike there = absurd alike
  there_is (Some v) (Some K) alike there = λ none. absurd cc

  pub there_is_not : (o : Option Save) (q : Option Life) → AreAlike o q → is_some o ≡ false → q ≡ None
  there_is_not None None alike absent = refl
  there_is_not None (Some K) alike absent = absurd alike
  there_is_not (Some v) q alike absent = absurd (true≢false absent)

-- a test for fewer than 64
few_tested : (count : ℕ) → IsTrue (nat_lt count 64) → count < 64
few_tested count t = grind (arith, nat_tests)

tested_few : (count : ℕ) → count < 64 → IsTrue (nat_lt count 64)
tested_few count few = grind (arith, nat_tests)

-- a history with a newest input has begun
some_input : (K : Life) (x : Data) → newest_input K ≡ Some x → K ≢ []
some_input [] x last = absurd cc
some_input (s ∷ K) x last = λ none. absurd cc

-- a name that isn't there has a place where there are fewer than 64
few_saved : (name : Name) (S : Saves) → MaySave name S → saved_under name S ≡ None → length S < 64
few_saved name S (inl there) absent = absurd (there absent)
few_saved name S (inr few) absent = few

-- a test for a place, failed
pub no_place : (name : Name) (S : Saves) (b : Bool) → b ≡ false → (IsTrue b ↔ MaySave name S) → ¬ MaySave name S
no_place name S b absent tested may = absurd (let t : b ≡ true = tested.1 may in cc)

-- Engines over functions that are held by name.
module _ {F : Type 0} {h : _} {e : Engine F h} {n : Network} {m : Template} {L : Life} {S : Saves} where
  -- a look-up, and the history that it stands for
  looked_up : Runs e n m L S → (name : Name) (o : Option Save) → o ≡ kept_under name e.saves.entries → AreAlike (machine (h.answers e.functions) e.plan) m o (saved_under name S)
  looked_up R name o is =
      subst (λ v. AreAlike (machine (h.answers e.functions) e.plan) m v (saved_under name S)) (sym is)
      (found_alike (machine (h.answers e.functions) e.plan) m name e.saves.entries S R.saves)

  pub finds_some : Runs e n m L S → (name : Name) (v : Save) → Some v ≡ kept_under name e.saves.entries → Finds (machine (h.answers e.functions) e.plan) m v (saved_under name S)
  finds_some R name v is = found_some (machine (h.answers e.functions) e.plan) m v (saved_under name S) (looked_up R name (Some v) is)

  pub finds_none : Runs e n m L S → (name : Name) → None ≡ kept_under name e.saves.entries → saved_under name S ≡ None
  finds_none R name is = found_none (machine (h.answers e.functions) e.plan) m (saved_under name S) (looked_up R name None is)

  -- each history that an engine keeps has begun
  pub saved_lived : Runs e n m L S → (name : Name) (K : Life) → saved_under name S ≡ Some K → K ≢ []
  saved_lived R name K found =
      (elim (kept_under name e.saves.entries) as (λ o. AreAlike (machine (h.answers e.functions) e.plan) m o (Some K) → K ≢ []) [
        | None ↦ λ alike. absurd alike
        | Some v ↦ λ alike. some_input K v.last alike.last
      ]) (subst (λ q. AreAlike (machine (h.answers e.functions) e.plan) m (kept_under name e.saves.entries) q) found (looked_up R name (kept_under name e.saves.entries) refl))

  pub has_place_there : Runs e n m L S → (name : Name) (b : Bool) → b ≡ is_some (kept_under name e.saves.entries) → b ≡ true → MaySave name S
  has_place_there R name b is there =
      inl (there_is (machine (h.answers e.functions) e.plan) m (kept_under name e.saves.entries) (saved_under name S) (looked_up R name (kept_under name e.saves.entries) refl) (sym is ∙ there))

  pub has_place_behind : Runs e n m L S → (name : Name) (b : Bool) (count : ℕ) → b ≡ is_some (kept_under name e.saves.entries) → b ≡ false → count ≡ length e.saves.entries → (IsTrue (nat_lt count 64) ↔ MaySave name S)
  has_place_behind R name b count is absent long =
      let same : count ≡ length S = long ∙ sym (kept_length (machine (h.answers e.functions) e.plan) m e.saves.entries S R.saves) in
      let none : saved_under name S ≡ None = there_is_not (machine (h.answers e.functions) e.plan) m (kept_under name e.saves.entries) (saved_under name S) (looked_up R name (kept_under name e.saves.entries) refl) (sym is ∙ absent) in
      (λ t. inr (subst (λ k. k < 64) same (few_tested count t)), λ may. tested_few count (subst (λ k. k < 64) (sym same) (few_saved name S may none)))
