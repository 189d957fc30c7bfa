-- The trees of nodes, of which more are put behind.
use Rattle.std.proofs.Common.{◌≡◌, ℕ, zero, suc, ◌+◌, ◌<◌, ◌≤◌, List, [], ◌∷◌, ◌++◌, length, get_or, fold, refl, sym, ◌∙◌, ap, subst, append_assoc, arith, ◌⊎◌, inl, inr, ⊎_elim, Result, Ok, Err, IfOk, OnErr}
use Rattle.std.proofs.lemmas.Bool.{cases_eq, cases_lt}
use Rattle.std.proofs.lemmas.List.{append-nil, length-append, get_or_append_left, get_or_past, get_or_push}
use Rattle.std.proofs.Math.Seq.{get_or-append_seam}
use Rattle.sf_arena.specs.Folded.{trees, folded_tree}
use Rattle.std.proofs.lemmas.List.Elements.{All-get_or}
use Rattle.sf_arena.specs.Items.{Added}
use Rattle.sf_arena.specs.Shallow.{AreShallow}
use Rattle.sf_arena.specs.Arenas.{entries_of}
use Rattle.sf_arena.specs.declared.entry.Entry.{Entry}
use Rattle.sf_arena.specs.declared.arena.Arena.{Arena}

steps : {N T : Type 0} → (List T → N → T) → List T → List N → List T
steps over ts nodes = fold (λ us n. us ++ over us n ∷ []) ts nodes

module _ {N T : Type 0} (over : List T → N → T) where
  steps-append : (ts : List T) (ms ns : List N) → steps over ts (ms ++ ns) ≡ steps over (steps over ts ms) ns
  unfolding steps
  steps-append ts [] ns = refl
  steps-append ts (m ∷ ms) ns = steps-append (ts ++ over ts m ∷ []) ms ns

  steps-length : (ts : List T) (ns : List N) → length (steps over ts ns) ≡ length ts + length ns
  unfolding steps
  steps-length ts [] = omega arith
  steps-length ts (n ∷ ns) = steps-length (ts ++ over ts n ∷ []) ns ∙ simp length-append (omega arith)

  steps-more : (ts : List T) (ns : List N) → (more : List T) × (steps over ts ns ≡ ts ++ more)
  unfolding steps
  steps-more ts [] = ([], sym (append-nil ts))
  steps-more ts (n ∷ ns) =
      let r = steps-more (ts ++ over ts n ∷ []) ns in
      (over ts n ∷ r.0, r.1 ∙ append_assoc ts (over ts n ∷ []) r.0)

  -- one more node gives one more tree
  pub trees-push : (ns : List N) (n : N) → trees over (ns ++ n ∷ []) ≡ trees over ns ++ over (trees over ns) n ∷ []
  unfolding trees steps
  trees-push ns n = steps-append [] ns (n ∷ [])

  pub trees-length : (ns : List N) → length (trees over ns) ≡ length ns
  unfolding trees steps
  trees-length ns = steps-length [] ns ∙ omega arith

  -- the trees so far stay
  pub tree-keeps : (ns : List N) (n : N) (i : ℕ) (d : T) → i < length ns → get_or (trees over (ns ++ n ∷ [])) i d ≡ get_or (trees over ns) i d
  tree-keeps ns n i d h =
      ap (λ ts. get_or ts i d) (trees-push ns n)
      ∙ get_or_append_left (trees over ns) (over (trees over ns) n ∷ []) d i (omega (arith, trees-length ns))

  -- the tree of the node behind them
  pub tree-pushed : (ns : List N) (n : N) (i : ℕ) (d : T) → i ≡ length ns → get_or (trees over (ns ++ n ∷ [])) i d ≡ over (trees over ns) n
  tree-pushed ns n i d e =
      ap (λ ts. get_or ts i d) (trees-push ns n)
      ∙ get_or_push (trees over ns) (over (trees over ns) n) d i (omega (arith, trees-length ns))

  -- elsewhere nothing changes
  pub tree-other : (ns : List N) (n : N) (i : ℕ) (d : T) → (i ≡ length ns → ⊥) → get_or (trees over (ns ++ n ∷ [])) i d ≡ get_or (trees over ns) i d
  tree-other ns n i d h = ⊎_elim (tree-keeps ns n i d) past (cases_lt i (length ns))
    where
      past : length ns ≤ i → get_or (trees over (ns ++ n ∷ [])) i d ≡ get_or (trees over ns) i d
      past b =
          let more = length-append ns (n ∷ []) in
          let behind : length ns < i = elim (cases_lt (length ns) i) [ inl q ↦ q | inr q ↦ absurd (h (omega arith)) ] in
          get_or_past (trees over (ns ++ n ∷ [])) i d (omega (arith, trees-length (ns ++ n ∷ []), more))
          ∙ sym (get_or_past (trees over ns) i d (omega (arith, trees-length ns)))

-- a list, of which one more is put behind, elsewhere
pub item-other : {X : Type 0} (xs : List X) (x : X) (i : ℕ) (d : X) → (i ≡ length xs → ⊥) → get_or (xs ++ x ∷ []) i d ≡ get_or xs i d
item-other xs x i d h = ⊎_elim (get_or_append_left xs (x ∷ []) d i) past (cases_lt i (length xs))
  where
    past : length xs ≤ i → get_or (xs ++ x ∷ []) i d ≡ get_or xs i d
    past b =
        let behind : length xs < i = elim (cases_lt (length xs) i) [ inl q ↦ q | inr q ↦ absurd (h (omega arith)) ] in
        get_or_past (xs ++ x ∷ []) i d (omega (arith, length-append xs (x ∷ []))) ∙ sym (get_or_past xs i d b)

-- What follows where an item is added.
module _ {A : Type 0} (old new : List A) (x : A) (n : ℕ) (added : Added old new x n) where
  pub added_counted : length new ≡ length old + 1
  added_counted = ap length added.grown ∙ omega (arith, length-append old (x ∷ []))

  pub added_within : n < length new
  added_within = omega (arith, added.next, added_counted)

  pub added_fresh : n < length old → ⊥
  added_fresh h = omega (arith, added.next)

  -- the item that was added
  pub added_item : (none : A) → get_or new n none ≡ x
  added_item none = ap (λ xs. get_or xs n none) added.grown ∙ get_or_push old x none n (sym added.next)

  -- the items that were there
  pub item_kept : (i : ℕ) (none : A) → i < length old → get_or new i none ≡ get_or old i none
  item_kept i none h = ap (λ xs. get_or xs i none) added.grown ∙ get_or_append_left old (x ∷ []) none i h

  -- elsewhere nothing changes
  pub item_other : (i : ℕ) (none : A) → (i ≡ n → ⊥) → get_or new i none ≡ get_or old i none
  item_other i none h = ap (λ xs. get_or xs i none) added.grown ∙ item-other old x i none (λ e. h (e ∙ sym added.next))

  -- what holds of each item
  pub each_item : (P : ℕ → A → Type 0) (none : A) → ((i : ℕ) → P i (get_or old i none)) → P n x → (i : ℕ) → P i (get_or new i none)
  each_item P none before here i = ⊎_elim at other (cases_eq i n)
    where
      at : i ≡ n → P i (get_or new i none)
      at e = rw (e, added_item none) here

      other : (i ≡ n → ⊥) → P i (get_or new i none)
      other q = rw (item_other i none q) (before i)

  -- the trees of the nodes that were there stay, and that of the new one is made over them
  module _ {T : Type 0} (over : List T → A → T) (leaf : T) where
    pub tree_kept : (i : ℕ) → i < length old → folded_tree over leaf new i ≡ folded_tree over leaf old i
    unfolding folded_tree
    tree_kept i h = ap (λ xs. get_or (trees over xs) i leaf) added.grown ∙ tree-keeps over old x i leaf h

    pub tree_added : folded_tree over leaf new n ≡ over (trees over old) x
    unfolding folded_tree
    tree_added = ap (λ xs. get_or (trees over xs) n leaf) added.grown ∙ tree-pushed over old x n leaf added.next

    pub tree_other : (i : ℕ) → (i ≡ n → ⊥) → folded_tree over leaf new i ≡ folded_tree over leaf old i
    unfolding folded_tree
    tree_other i h = ap (λ xs. get_or (trees over xs) i leaf) added.grown ∙ tree-other over old x i leaf (λ e. h (e ∙ sym added.next))

    -- what holds of each node and its tree
    pub each_tree : (P : ℕ → A → T → Type 0) (none : A) → ((i : ℕ) → P i (get_or old i none) (folded_tree over leaf old i)) → P n x (over (trees over old) x) → (i : ℕ) → P i (get_or new i none) (folded_tree over leaf new i)
    each_tree P none before here i = ⊎_elim at other (cases_eq i n)
      where
        at : i ≡ n → P i (get_or new i none) (folded_tree over leaf new i)
        at e = rw (e, added_item none, tree_added) here

        other : (i ≡ n → ⊥) → P i (get_or new i none) (folded_tree over leaf new i)
        other q = rw (item_other i none q, tree_other i q) (before i)

-- A node's tree is made over the trees of all nodes, where its parts stand before it.
module _ {N T : Type 0} (over : List T → N → T) (needs : N → ℕ) (none : N) (local : (ts more : List T) (n : N) → needs n ≤ length ts → over (ts ++ more) n ≡ over ts n) where
  built : (ts : List T) (ns : List N) (j : ℕ) (d : T) → ((i : ℕ) → i < length ns → needs (get_or ns i none) ≤ length ts + i) → j < length ns → get_or (steps over ts ns) (length ts + j) d ≡ over (steps over ts ns) (get_or ns j none)
  unfolding steps
  built ts [] j d h b = absurd (omega arith)
  built ts (n ∷ ns) zero d h b =
      let r = steps-more over (ts ++ over ts n ∷ []) ns in
      let whole : steps over (ts ++ over ts n ∷ []) ns ≡ ts ++ over ts n ∷ r.0 = r.1 ∙ append_assoc ts (over ts n ∷ []) r.0 in
      let first : needs n ≤ length ts = omega (arith, h 0 (omega arith)) in
      let left : get_or (steps over (ts ++ over ts n ∷ []) ns) (length ts + 0) d ≡ over ts n =
      ap (λ us. get_or us (length ts + 0) d) whole ∙ ap (λ i. get_or (ts ++ over ts n ∷ r.0) i d) (omega arith) ∙ get_or-append_seam ts (over ts n) r.0 d in
      let right : over (steps over (ts ++ over ts n ∷ []) ns) n ≡ over ts n = ap (λ us. over us n) whole ∙ local ts (over ts n ∷ r.0) n first in
      left ∙ sym right
  built ts (n ∷ ns) (suc j) d h b =
      let us = ts ++ over ts n ∷ [] in
      let long : length us ≡ suc (length ts) = omega (arith, length-append ts (over ts n ∷ [])) in
      let below : (i : ℕ) → i < length ns → needs (get_or ns i none) ≤ length us + i = λ i q. omega (arith, h (suc i) (omega arith), long) in
      ap (λ i. get_or (steps over us ns) i d) (omega (arith, long)) ∙ built us ns j d below (omega arith)

  pub tree-built : (ns : List N) (j : ℕ) (d : T) → ((i : ℕ) → needs (get_or ns i none) ≤ i) → j < length ns → get_or (trees over ns) j d ≡ over (trees over ns) (get_or ns j none)
  unfolding trees steps
  tree-built ns j d h b =
      ap (λ i. get_or (steps over [] ns) i d) (omega arith) ∙ built [] ns j d (λ i q. omega (arith, h i)) b

  -- the tree with a number is made over all trees, where what stands past the end makes the tree that stands there
  pub tree_made : (ns : List N) (leaf : T) → ((ts : List T) → over ts none ≡ leaf) → ((i : ℕ) → needs (get_or ns i none) ≤ i) → (i : ℕ) → folded_tree over leaf ns i ≡ over (trees over ns) (get_or ns i none)
  unfolding folded_tree
  tree_made ns leaf makes h i = ⊎_elim (λ q. tree-built ns i leaf h q) past (cases_lt i (length ns))
    where
      past : length ns ≤ i → get_or (trees over ns) i leaf ≡ over (trees over ns) (get_or ns i none)
      past q =
          get_or_past (trees over ns) i leaf (omega (arith, trees-length over ns))
          ∙ sym (ap (λ n. over (trees over ns) n) (get_or_past ns i none q) ∙ makes (trees over ns))

-- The trees are the same where each node's tree is made the same.
module _ {N T : Type 0} (f g : List T → N → T) (none : N) where
  steps-same : (ts : List T) (ns : List N) → ((i : ℕ) (us : List T) → i < length ns → f us (get_or ns i none) ≡ g us (get_or ns i none)) → steps f ts ns ≡ steps g ts ns
  unfolding steps
  steps-same ts [] h = refl
  steps-same ts (n ∷ ns) h =
      ap (λ t. steps f (ts ++ t ∷ []) ns) (h 0 ts (omega arith))
      ∙ steps-same (ts ++ g ts n ∷ []) ns (λ i us q. h (suc i) us (omega arith))

  pub trees-same : (ns : List N) → ((i : ℕ) (us : List T) → i < length ns → f us (get_or ns i none) ≡ g us (get_or ns i none)) → trees f ns ≡ trees g ns
  unfolding trees steps
  trees-same ns h = steps-same [] ns h

-- A list has grown: what stood there stands.
pub record Grows {A : Type 0} (old new : List A) : Type 0 where
  pub longer : length old ≤ length new
  pub same : (i : ℕ) (none : A) → i < length old → get_or new i none ≡ get_or old i none

pub grows_same : {A : Type 0} (old new : List A) → new ≡ old → Grows old new
grows_same old new e = record { longer = omega (arith, ap length e); same = λ i none h. ap (λ xs. get_or xs i none) e }

pub grows_added : {A : Type 0} (old new : List A) (x : A) (n : ℕ) → Added old new x n → Grows old new
grows_added old new x n a = record { longer = omega (arith, added_counted old new x n a); same = item_kept old new x n a }

-- What a call that adds leaves, whatever it answers.
pub added_or_same : {A E : Type 0} (old new : List A) (x : A) (r : Result ℕ E) → IfOk r (λ n. Added old new x n) → OnErr r (new ≡ old) → Added old new x (length old) ⊎ (new ≡ old)
added_or_same old new x (Ok n) a e = inl (record { next = refl; grown = a.grown })
added_or_same old new x (Err f) a e = inr e

-- no node of an arena is too deep, nor is one that stands for numbers that are not held
pub shallow_at : {N : Type 0} (entries : List (Entry N)) (none : Entry N) (i : ℕ) → AreShallow entries → none.depth ≤ 64 → (get_or entries i none).depth ≤ 64
shallow_at {N} entries none i all h = ⊎_elim (λ q. All-get_or (λ (e : Entry N). e.depth ≤ 64) entries i none q all) (λ q. subst (λ (e : Entry N). e.depth ≤ 64) (sym (get_or_past entries i none q)) h) (cases_lt i (length entries))

-- what an arena keeps
pub few_entries : {N : Type 0} (arena : Arena N) → length (entries_of arena) ≤ 100000
unfolding entries_of
few_entries arena = arena.few

pub shallow_entries : {N : Type 0} (arena : Arena N) → AreShallow (entries_of arena)
unfolding entries_of
shallow_entries arena = arena.shallow

-- there are no fewer after a call that adds, whatever it answers
pub more_put : {A E : Type 0} (old new : List A) (x : A) (r : Result ℕ E) → IfOk r (Added old new x) → OnErr r (new ≡ old) → length old ≤ length new
more_put old new x r ok err = ⊎_elim (λ a. omega (arith, added_counted old new x _ a)) (λ e. omega (arith, ap length e)) (added_or_same old new x r ok err)
