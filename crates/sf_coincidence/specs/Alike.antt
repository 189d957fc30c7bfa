-- Processes that differ in names alone which their terms do not mention.
use Rattle.std.specs.Prelude.{◌≡◌, ℕ, Bool, false, cond, bytes_eq}
use Rattle.sf_value.specs.Values.{Name, KeyData}
use Rattle.sf_func.specs.Registries.{AnswersByName}
use Rattle.sf_expr.specs.Evaluation.{value_of}
use Rattle.sf_term.specs.Trees.{Term}
use Rattle.sf_mean.specs.Lives.{Life, Process, closure, resumed, Environment, empty, known, running, collected, Members, no_members, member, members_of, scope_around, process_of}
use Rattle.sf_coincidence.specs.Mentions.{Mentions}

mutual
  -- Two processes are alike: the same term, around which each name that it mentions stands for alike; or frozen, after the same
  -- life and for the same time, where what was frozen is alike.
  pub data Alike : Process → Process → Type 0 where
    of_closures : {t : Term} {e d : Environment} → ((x : Name) → Mentions t x → AlikeName x e d) → Alike (closure t e) (closure t d)
    of_frozen : {P Q : Process} {h : Life} {d : ℕ} → Alike P Q → Alike (resumed P h d) (resumed Q h d)

  -- Members are alike: the same keys in the same order, under which stand processes that are alike.
  pub data AlikeMembers : Members → Members → Type 0 where
    none_alike : AlikeMembers no_members no_members
    member_alike : {k : KeyData} {P Q : Process} {ms qs : Members} → Alike P Q → AlikeMembers ms qs → AlikeMembers (member k P ms) (member k Q qs)

  -- A name stands for alike in two environments: in expressions for the same value, where none is what makes no sense, for
  -- processes that are alike, and for members that are alike.
  pub data AlikeName : Name → Environment → Environment → Type 0 where
    alike_at : {x : Name} {e d : Environment}
        → ((φ : AnswersByName) → value_of x (scope_around φ e) ≡ value_of x (scope_around φ d)) → Alike (process_of x e) (process_of x d)
        → AlikeMembers (members_of x e) (members_of x d) → AlikeName x e d

-- the names that are wanted, but for one
abbrev pub all_but : Name → (Name → Bool) → Name → Bool
all_but y wanted x = cond (bytes_eq x y) false (wanted x)

-- an environment with only the names that are wanted, each once, as what it stands for innermost
abbrev pub restricted : (Name → Bool) → Environment → Environment
restricted wanted empty = empty
restricted wanted (known x v e) = cond (wanted x) (known x v (restricted (all_but x wanted) e)) (restricted wanted e)
restricted wanted (running x P e) = cond (wanted x) (running x P (restricted (all_but x wanted) e)) (restricted wanted e)
restricted wanted (collected x ms e) = cond (wanted x) (collected x ms (restricted (all_but x wanted) e)) (restricted wanted e)
