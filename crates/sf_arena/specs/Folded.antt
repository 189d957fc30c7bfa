-- Trees of nodes that stand in an order, each made of trees before it.
-- An owner gives `over`, which makes the tree of a node over the trees before it, and the tree `none` for numbers that are
-- not held. Over entries of an arena, `over` is `λ ts entry. made ts entry.node`. By proofs/Grown.antt, where a node is
-- `Added` the trees of those before it stay (`tree_kept`) and its own is made over them (`tree_added`); where each node
-- names only nodes before it, each tree is made over all trees (`tree_built`).
use Rattle.std.specs.Prelude.{ℕ, List, [], ◌∷◌, ◌++◌, fold, slice_index_or}

-- the trees of nodes, where a node's tree is made over the trees before it
unfoldable pub trees : {N T : Type 0} → (List T → N → T) → List N → List T
trees over nodes = fold (λ ts n. ts ++ over ts n ∷ []) [] nodes

-- the tree of the node with a number; `none` past the end
unfoldable pub folded_tree : {N T : Type 0} → (List T → N → T) → T → List N → ℕ → T
folded_tree over none nodes i = slice_index_or (trees over nodes) i none
