-- The names around an expression.
use Rattle.std.proofs.Common.{◌≡◌, ℕ, Bool, true, false, cond, List, [], ◌∷◌, ◌++◌, refl, ap, sym, ◌∙◌}
use mathlib.Core.Path.{ap₂}
use Rattle.std.specs.Prelude.{◌||◌, Option, Some, None, bytes_eq, is_some, if◌then◌else◌}
use Rattle.std.specs.List.{list_any}
use Rattle.std.specs.Borrow.{Bor}
use Rattle.std.proofs.lemmas.Bool.{and_parts, and_from, or_right, false≢true}
use Rattle.std.proofs.lemmas.List.{map-append}
use Rattle.std.proofs.Math.Bool.{or_assoc, or-false}
use Rattle.std.proofs.lemmas.Slice.Eq.{bytes_eq-Decides}
use Rattle.sf_value.specs.Values.{Name}
use Rattle.sf_expr.specs.declared.exprs.Exprs.{Exprs}
use Rattle.sf_expr.specs.declared.exprs.ExprId.{ExprId}
use Rattle.sf_expr.specs.declared.exprs.Mapped.{Mapped}
use Rattle.sf_expr.specs.declared.exprs.Folded.{Folded}
use Rattle.sf_operator.specs.declared.operator.Operator.{Operator}
use Rattle.sf_expr.specs.declared.exprs.NameId.{NameId}
use Rattle.sf_expr.specs.declared.exprs.PatternId.{PatternId}
use Rattle.sf_expr.specs.declared.exprs.ExprNode.TheVariants as nodes
use Rattle.sf_expr.specs.Arena.{expression, name_at, stored_pattern, Builds, builds_pair, builds_operation, builds_conditional, builds_mapped, builds_folded}
use Rattle.sf_expr.specs.Expressions.{Pattern, named, both, Expression, variable, literal, paired, applied, operation, conditional, mapped, folded, called}
use Rattle.sf_expr.specs.Patterns.{pattern_of}
use Rattle.sf_expr.specs.Meanings.{names_seen}
use Rattle.sf_code.specs.Around.{names_by_id}
use Rattle.sf_code.specs.declared.place.Half.{Half}
use Rattle.sf_code.specs.Places.{Place}
use Rattle.sf_code.specs.Compiling.{path_of_name, inner_path, place_or, place_of_name, is_closed, named_each, BindAsMany}

-- ## Patterns of frames

-- whether one of the patterns binds a name
abbrev binds : Name → List Pattern → Bool
binds x ps = is_some (place_of_name x ps)

first_binds : (o : Option (List Half)) (q : Option Place) → is_some (place_or o q) ≡ (is_some o || is_some q)
first_binds (Some hs) q = refl
first_binds None None = refl
first_binds None (Some p) = refl

binds_append : (x : Name) (ps qs : List Pattern) → binds x (ps ++ qs) ≡ (binds x ps || binds x qs)
binds_append x [] qs = refl
binds_append x (p ∷ ps) qs =
    first_binds (path_of_name x p) (place_of_name x (ps ++ qs))
    ∙ ap (λ (b : Bool). is_some (path_of_name x p) || b) (binds_append x ps qs)
    ∙ sym (or_assoc (is_some (path_of_name x p)) (binds x ps) (binds x qs))
    ∙ ap (λ (b : Bool). b || binds x qs) (sym (first_binds (path_of_name x p) (place_of_name x ps)))

-- a name that some patterns bind is bound by them and others
pub binds_before : (x : Name) (ps qs : List Pattern) → binds x ps ≡ true → binds x (ps ++ qs) ≡ true
binds_before x ps qs h = binds_append x ps qs ∙ ap (λ (b : Bool). b || binds x qs) h

pub binds_behind : (x : Name) (ps qs : List Pattern) → binds x qs ≡ true → binds x (ps ++ qs) ≡ true
binds_behind x ps qs h = binds_append x ps qs ∙ or_right (binds x ps) (binds x qs) h

module _ (qs rs : List Pattern) (more : BindAsMany qs rs) where
  binds_more : (ps : List Pattern) (x : Name) → binds x (ps ++ qs) ≡ true → binds x (ps ++ rs) ≡ true
  binds_more ps x h = binds_append x ps rs ∙ by (binds x ps) (binds x qs) (binds x rs) (more x) (sym (binds_append x ps qs) ∙ h)
    where
      by : (a b c : Bool) → (b ≡ true → c ≡ true) → (a || b) ≡ true → (a || c) ≡ true
      by true b c f k = refl
      by false b c f k = f k

  -- an expression of which patterns bind each name, where others bind as many
  pub closed_more : (e : Expression) (ps : List Pattern) → is_closed (ps ++ qs) e ≡ true → is_closed (ps ++ rs) e ≡ true
  closed_more (variable x) ps h = binds_more ps x h
  closed_more (literal l) ps h = refl
  closed_more (paired i j) ps h = let each = and_parts _ _ h in and_from _ _ (closed_more i ps each.0) (closed_more j ps each.1)
  closed_more (applied o i) ps h = closed_more i ps h
  closed_more (operation i op j) ps h = let each = and_parts _ _ h in and_from _ _ (closed_more i ps each.0) (closed_more j ps each.1)
  closed_more (conditional i j k) ps h =
      let each = and_parts _ _ h in
      let branches = and_parts _ _ each.1 in
      and_from _ _ (closed_more i ps each.0) (and_from _ _ (closed_more j ps branches.0) (closed_more k ps branches.1))
  closed_more (mapped i m p j) ps h = let each = and_parts _ _ h in and_from _ _ (closed_more i ps each.0) (closed_more j (p ∷ ps) each.1)
  closed_more (folded i o j p k) ps h =
      let each = and_parts _ _ h in
      let later = and_parts _ _ each.1 in
      and_from _ _ (closed_more i ps each.0) (and_from _ _ (closed_more j ps later.0) (closed_more k (p ∷ ps) later.1))
  closed_more (called g i) ps h = closed_more i ps h

-- ## Names, each of one frame

named_append : (ys zs : List Name) → named_each (ys ++ zs) ≡ named_each ys ++ named_each zs
named_append ys zs = map-append (λ (x : Name). named x) ys zs

abbrev is_one_of : Name → List Name → Bool
is_one_of x ys = binds x (named_each ys)

one_append : (x : Name) (ys zs : List Name) → is_one_of x (ys ++ zs) ≡ (is_one_of x ys || is_one_of x zs)
one_append x ys zs = ap (binds x) (named_append ys zs) ∙ binds_append x (named_each ys) (named_each zs)

test_some : (b : Bool) (o : Option Place) → is_some (place_or (cond b (Some []) None) o) ≡ (b || is_some o)
test_some true o = refl
test_some false o = first_binds None o

one_next : (x y : Name) (ys : List Name) → is_one_of x (y ∷ ys) ≡ (bytes_eq x y || is_one_of x ys)
one_next x y ys = test_some (bytes_eq x y) (place_of_name x (named_each ys))

any_one : (x : Name) (ks : List (Bor (List ℕ))) → list_any (λ (j : Bor (List ℕ)). bytes_eq x j.now) ks ≡ is_one_of x (names_seen ks)
any_one x [] = refl
any_one x (k ∷ ks) = ap (λ b. bytes_eq x k.now || b) (any_one x ks) ∙ sym (one_next x k.now (names_seen ks))

pub seen_both : (ks js : List (Bor (List ℕ))) → names_seen (ks ++ js) ≡ names_seen ks ++ names_seen js
seen_both ks js = map-append (λ (j : Bor (List ℕ)). j.now) ks js

pub at_both : (x : Exprs) (ks js : List NameId) → names_by_id x (ks ++ js) ≡ names_by_id x ks ++ names_by_id x js
at_both x ks js = map-append (λ k. name_at x k) ks js

-- a name put behind others
module _ (x : Exprs) (ks new : List NameId) (k : NameId) (put : new ≡ ks ++ k ∷ []) where
  pub pushed_kept : BindAsMany (named_each (names_by_id x ks)) (named_each (names_by_id x new))
  pushed_kept y h =
      ap (λ (js : List NameId). is_one_of y (names_by_id x js)) put
      ∙ ap (is_one_of y) (at_both x ks (k ∷ []))
      ∙ one_append y (names_by_id x ks) (name_at x k ∷ [])
      ∙ ap (λ (c : Bool). c || is_one_of y (name_at x k ∷ [])) h

  pub pushed_there : is_one_of (name_at x k) (names_by_id x new) ≡ true
  pushed_there =
      let y = name_at x k in
      ap (λ (js : List NameId). is_one_of y (names_by_id x js)) put
      ∙ ap (is_one_of y) (at_both x ks (k ∷ []))
      ∙ one_append y (names_by_id x ks) (y ∷ [])
      ∙ or_right (is_one_of y (names_by_id x ks)) (is_one_of y (y ∷ []))
      (one_next y y [] ∙ ap (λ (c : Bool). c || is_one_of y []) ((bytes_eq-Decides y y).1 refl))

-- a name put behind others, unless it is one of them
module _ (k : Bor (List ℕ)) (ks new : List (Bor (List ℕ))) (b : Bool) (put : new ≡ (if b then ks else ks ++ k ∷ [])) where
  pub put_kept : BindAsMany (named_each (names_seen ks)) (named_each (names_seen new))
  put_kept x h = ap (λ (js : List (Bor (List ℕ))). is_one_of x (names_seen js)) put ∙ by b
    where
      by : (b : Bool) → is_one_of x (names_seen (if b then ks else ks ++ k ∷ [])) ≡ true
      by true = h
      by false = ap (is_one_of x) (seen_both ks (k ∷ [])) ∙ one_append x (names_seen ks) (k.now ∷ []) ∙ ap (λ (c : Bool). c || is_one_of x (k.now ∷ [])) h

  pub put_there : list_any (λ (j : Bor (List ℕ)). bytes_eq k.now j.now) ks ≡ b → is_one_of k.now (names_seen new) ≡ true
  put_there old = ap (λ (js : List (Bor (List ℕ))). is_one_of k.now (names_seen js)) put ∙ by b old
    where
      by : (b : Bool) → list_any (λ (j : Bor (List ℕ)). bytes_eq k.now j.now) ks ≡ b → is_one_of k.now (names_seen (if b then ks else ks ++ k ∷ [])) ≡ true
      by true h = sym (any_one k.now ks) ∙ h
      by false h =
          ap (is_one_of k.now) (seen_both ks (k ∷ []))
          ∙ one_append k.now (names_seen ks) (k.now ∷ [])
          ∙ or_right (is_one_of k.now (names_seen ks)) (is_one_of k.now (k.now ∷ []))
          (one_next k.now k.now [] ∙ ap (λ (c : Bool). c || is_one_of k.now []) ((bytes_eq-Decides k.now k.now).1 refl))

-- names of which those of a new text are kept, beside the texts
pub once_seen : (x : Exprs) (ks : List NameId) (k : NameId) (js new : List (Bor (List ℕ))) (j : Bor (List ℕ)) (b : Bool) → j.now ≡ name_at x k → new ≡ (if b then js else js ++ j ∷ []) → names_by_id x ks ≡ names_seen js
    → names_by_id x (if b then ks else ks ++ k ∷ []) ≡ names_seen new
once_seen x ks k js new j true same put h = h ∙ sym (ap names_seen put)
once_seen x ks k js new j false same put h =
    at_both x ks (k ∷ [])
    ∙ ap₂ (λ (ys zs : List Name). ys ++ zs) h (ap (λ (y : Name). y ∷ []) (sym same))
    ∙ sym (seen_both js (j ∷ []))
    ∙ sym (ap names_seen put)

-- one name more is bound where it is bound beside the others
pub one_more : (x : Exprs) (ks : List NameId) (k : NameId) (ps : List Pattern) → BindAsMany (named_each (names_by_id x ks)) ps → binds (name_at x k) ps ≡ true → BindAsMany (named_each (names_by_id x (ks ++ k ∷ []))) ps
one_more x ks k ps h here y m =
    by (is_one_of y (names_by_id x ks)) (bytes_eq y (name_at x k)) refl refl
    (sym (ap (is_one_of y) (at_both x ks (k ∷ [])) ∙ one_append y (names_by_id x ks) (name_at x k ∷ []) ∙ ap (λ (c : Bool). is_one_of y (names_by_id x ks) || c) (one_next y (name_at x k) [])) ∙ m)
  where
    by : (a b : Bool) → is_one_of y (names_by_id x ks) ≡ a → bytes_eq y (name_at x k) ≡ b → (a || (b || false)) ≡ true → binds y ps ≡ true
    by true b before last n = h y before
    by false true before last n = ap (λ (z : Name). binds z ps) ((bytes_eq-Decides y (name_at x k)).0 last) ∙ here
    by false false before last n = absurd (false≢true n)

-- ## A pattern of names

path_some : (o q : Option (List Half)) → is_some (inner_path o q) ≡ (is_some o || is_some q)
path_some (Some hs) q = refl
path_some None (Some hs) = refl
path_some None None = refl

only_binds : (x : Name) (p : Pattern) → binds x (p ∷ []) ≡ is_some (path_of_name x p)
only_binds x p = first_binds (path_of_name x p) None ∙ or-false (is_some (path_of_name x p))

-- a pattern binds the names of both its parts
pub both_bind : (p q : Pattern) (ys zs : List Name) → BindAsMany (named_each ys) (p ∷ []) → BindAsMany (named_each zs) (q ∷ []) → BindAsMany (named_each (ys ++ zs)) (both p q ∷ [])
both_bind p q ys zs h k x m =
    only_binds x (both p q)
    ∙ path_some (path_of_name x q) (path_of_name x p)
    ∙ by (is_one_of x ys) (is_one_of x zs) (is_some (path_of_name x q)) (is_some (path_of_name x p)) (sym (one_append x ys zs) ∙ m) (λ i. sym (only_binds x p) ∙ h x i) (λ i. sym (only_binds x q) ∙ k x i)
  where
    by : (a b c d : Bool) → (a || b) ≡ true → (a ≡ true → d ≡ true) → (b ≡ true → c ≡ true) → (c || d) ≡ true
    by a b true d n f g = refl
    by true b false d n f g = f refl
    by false b false d n f g = absurd (false≢true (g n))

-- ## Nodes of an arena

module _ {x : Exprs} (ps : List Pattern) where
  -- an expression is closed where its parts are
  pub conditional_closed : {a b c : ExprId} {t : Expression} (old new : List Pattern) → Builds x (nodes.Conditional a b c) t → BindAsMany old new
      → is_closed (ps ++ old) (expression x a) ≡ true → is_closed (ps ++ new) (expression x b) ≡ true → is_closed (ps ++ new) (expression x c) ≡ true → is_closed (ps ++ new) t ≡ true
  conditional_closed {a} old new builds_conditional more h k l = and_from _ _ (closed_more old new more (expression x a) ps h) (and_from _ _ k l)

  pub mapped_closed : {n : Mapped} {t : Expression} (old new : List Pattern) → Builds x (nodes.Mapped n) t → BindAsMany old new
      → is_closed (ps ++ old) (expression x n.part) ≡ true → is_closed (pattern_of (stored_pattern x n.pattern) ∷ (ps ++ new)) (expression x n.body) ≡ true → is_closed (ps ++ new) t ≡ true
  mapped_closed {n} old new builds_mapped more h k = and_from _ _ (closed_more old new more (expression x n.part) ps h) k

  pub folded_closed : {n : Folded} {t : Expression} (old new : List Pattern) → Builds x (nodes.Folded n) t → BindAsMany old new
      → is_closed (ps ++ old) (expression x n.first) ≡ true → is_closed (ps ++ old) (expression x n.second) ≡ true → is_closed (pattern_of (stored_pattern x n.pattern) ∷ (ps ++ new)) (expression x n.body) ≡ true → is_closed (ps ++ new) t ≡ true
  folded_closed {n} old new builds_folded more h k l =
      and_from _ _ (closed_more old new more (expression x n.first) ps h) (and_from _ _ (closed_more old new more (expression x n.second) ps k) l)

  pub pair_closed : {a b : ExprId} {t : Expression} → Builds x (nodes.Pair a b) t → is_closed ps (expression x a) ≡ true → is_closed ps (expression x b) ≡ true → is_closed ps t ≡ true
  pair_closed builds_pair h k = and_from _ _ h k

  pub operation_closed : {a b : ExprId} {op : Operator} {t : Expression} → Builds x (nodes.Operation a op b) t → is_closed ps (expression x a) ≡ true → is_closed ps (expression x b) ≡ true → is_closed ps t ≡ true
  operation_closed builds_operation h k = and_from _ _ h k

  -- the parts of an expression are closed where it is
  pub pair_parts : {a b : ExprId} {t : Expression} → Builds x (nodes.Pair a b) t → is_closed ps t ≡ true → (is_closed ps (expression x a) ≡ true) × (is_closed ps (expression x b) ≡ true)
  pair_parts builds_pair h = and_parts _ _ h

  pub operation_parts : {a b : ExprId} {op : Operator} {t : Expression} → Builds x (nodes.Operation a op b) t → is_closed ps t ≡ true → (is_closed ps (expression x a) ≡ true) × (is_closed ps (expression x b) ≡ true)
  operation_parts builds_operation h = and_parts _ _ h

  pub conditional_parts : {a b c : ExprId} {t : Expression} → Builds x (nodes.Conditional a b c) t → is_closed ps t ≡ true
      → (is_closed ps (expression x a) ≡ true) × (is_closed ps (expression x b) ≡ true) × (is_closed ps (expression x c) ≡ true)
  conditional_parts builds_conditional h = let each = and_parts _ _ h in let branches = and_parts _ _ each.1 in (each.0, branches.0, branches.1)

  pub folded_parts : {n : Folded} {t : Expression} → Builds x (nodes.Folded n) t → is_closed ps t ≡ true
      → (is_closed ps (expression x n.first) ≡ true) × (is_closed ps (expression x n.second) ≡ true) × (is_closed (pattern_of (stored_pattern x n.pattern) ∷ ps) (expression x n.body) ≡ true)
  folded_parts builds_folded h = let each = and_parts _ _ h in let others = and_parts _ _ each.1 in (each.0, others.0, others.1)
