-- What an edit makes of the members that run.
use Rattle.std.specs.Prelude.{ℕ, List, [], ◌∷◌, ◌++◌, Option, Some, Ok, set}
use Rattle.std.specs.List.{remove}
use Rattle.std.specs.Option.{unwrap_or}
use Rattle.sf_value.specs.Values.{Data}
use Rattle.sf_expr.specs.Arena.{stored_pattern, name_at}
use Rattle.sf_expr.specs.Patterns.{pattern_of}
use Rattle.sf_expr.specs.Evaluation.{Evaluated}
use Rattle.sf_mean.specs.Lives.{Environment, Members, bind, collected}
use Rattle.sf_law.specs.declared.plan.Plan.{Plan}
use Rattle.sf_law.specs.Arena.{plan_expressions}
use Rattle.sf_state.specs.declared.state.State.{State}
use Rattle.sf_state.specs.declared.state.Gathered.{Gathered}
use Rattle.sf_state.specs.declared.state.Editing.{Editing}
use Rattle.sf_state.specs.Held.{Holding}
use Rattle.sf_state.specs.Standing.{Gathers}
use Rattle.sf_state.specs.Machine.{Machine}
use Rattle.sf_begin.specs.declared.drafting.Change.{Change}
use Rattle.sf_begin.specs.declared.drafting.Change.TheVariants.{Put, Add, Take}
use Rattle.sf_begin.specs.declared.drafting.Draft.{Draft}
use Rattle.sf_begin.specs.Beginning.{Makes}

-- a list of what stands for members, all_changed, where one that begins is worth this
abbrev pub change_one : {A : Type 0} → (State → A) → Change → List A → List A
change_one worth (Put i a) xs = set xs i (worth a)
change_one worth (Add a) xs = xs ++ worth a ∷ []
change_one worth (Take i) xs = remove xs i

-- the same by several changes, in order
abbrev pub all_changed : {A : Type 0} → (State → A) → List Change → List A → List A
all_changed worth [] xs = xs
all_changed worth (c ∷ cs) xs = all_changed worth cs (change_one worth c xs)

-- the members of a draft, where these states run, which wait so long
abbrev pub laid_over : List State → Option ℕ → Draft → Holding
laid_over bs w x = record { keys = x.keys; states = all_changed (λ a. a) x.changes.items bs; wait = w }

-- the members that run, frozen for so long, and those of a draft over them
abbrev pub frozen_over : Gathered → ℕ → Holding
frozen_over g d = record { keys = g.keys.value; states = g.states.value.items; wait = Some (unwrap_or g.wait d) }

abbrev pub drafted : Gathered → ℕ → Draft → Holding
drafted g d x = laid_over g.states.value.items (Some (unwrap_or g.wait d)) x

-- the names of an edit: those of its pattern, and around them that of the members
abbrev pub around_edit : Plan → Editing → Data → Members → Environment → Environment
around_edit p k v fs e = bind (pattern_of (stored_pattern (plan_expressions p) k.pattern)) v (collected (name_at (plan_expressions p) k.name) fs e)

-- members that were made, of which no step has been lived, are held
abbrev pub Lays : Machine → Evaluated Members → Holding → Type 0
Lays μ w h = Makes (λ (h : Holding) ms. Gathers μ h ms []) w (Ok h)
