-- Members of collections.
use Rattle.std.specs.Prelude.{cond, pos, unwrap_or}
use Rattle.sf_value.specs.Values.{KeyData, number_key, Data, table, row}
use Rattle.sf_value.specs.Keys.{equal_keys}
use Rattle.sf_func.specs.Registries.{AnswersByName}
use Rattle.sf_operator.specs.Operations.{key_held}
use Rattle.sf_operator.specs.FunctionForms.{value_of_key}
use Rattle.sf_expr.specs.Evaluation.{Evaluated, answer, ◌>>=◌, eval, apply}
use Rattle.sf_term.specs.Trees.{Collection, without_members, used, added, dropped, kept, chosen}
use Rattle.sf_mean.specs.Lives.{Process, closure, Environment, Members, no_members, member, members_of, scope_around}
use Rattle.sf_mean.specs.Formulas.{is_high}

-- the key that a value is; what is none is the key 0
abbrev pub as_key : Data → KeyData
as_key d = unwrap_or (key_held d) (number_key (pos 0))

-- members with one more: at their end, or in the place of the one under its key
abbrev pub add : KeyData → Process → Members → Members
add k P no_members = member k P no_members
add k P (member l Q ms) = cond (equal_keys k l) (member k P ms) (member l Q (add k P ms))

-- members without the one under a key, if there is one
abbrev pub drop : KeyData → Members → Members
drop k no_members = no_members
drop k (member l Q ms) = cond (equal_keys k l) ms (member l Q (drop k ms))

-- the members whose keys a function keeps, which it is asked in order
abbrev pub keep : (Data → Evaluated Data) → Members → Evaluated Members
keep f no_members = answer no_members
keep f (member k P ms) = f (value_of_key k) >>= λ b. keep f ms >>= λ rest. answer (cond (is_high b) (member k P rest) rest)

-- The members of a collection, or the first fault; what it is made of is evaluated from left to right. A term in it is closed
-- in the environment.
abbrev pub collect : AnswersByName → Collection → Environment → Evaluated Members
collect φ (without_members k t) e = answer no_members
collect φ (used x) e = answer (members_of x e)
collect φ (added i j t) e = collect φ i e >>= λ ms. eval j (scope_around φ e) >>= λ v. answer (add (as_key v) (closure t e) ms)
collect φ (dropped i j) e = collect φ i e >>= λ ms. eval j (scope_around φ e) >>= λ v. answer (drop (as_key v) ms)
collect φ (kept i f) e = collect φ i e >>= λ ms. keep (λ x. apply f x (scope_around φ e)) ms
collect φ (chosen j a b) e = eval j (scope_around φ e) >>= λ v. cond (is_high v) (collect φ a e) (collect φ b e)

-- a table with a row before its others
abbrev pub leading_row : KeyData → Data → Data → Data
leading_row k y (table rs) = table (row k y rs)
leading_row k y d = d
