-- The theorems on plans.
use Rattle.std.proofs.Common.{◌≤◌, true, false, IsTrue, [], ◌∷◌, refl, sym}
use Rattle.sf_value.specs.Values.{Data}
use Rattle.sf_term.specs.Trees.{Term, Arguments, Templates, Collection}
use Rattle.sf_mean.specs.Lives.{Step, Process, closure, Environment, Life, Members}
use Rattle.sf_mean.specs.Meaning.{Network, Outcome, gave, Cost, count, height, text_cost, Gives}
use Rattle.sf_mean.proofs.Once.{once_sample}
use Rattle.sf_rewrite.specs.Quiet.{is_quiet}
use Rattle.sf_rewrite.specs.Laws.{unchanged}
use Rattle.sf_rewrite.specs.Plans.{Plans, plans, PlansParts, PlansProcess, of_closure, of_frozen, PlansNames, of_nothing, of_value, of_process, PlansAll, no_templates, one_more, PlansNetwork}
use Rattle.sf_rewrite.specs.Plans.{of_primitive, of_started, of_call, PlansArguments, of_no_arguments, of_value_argument, of_named_argument, of_closed_argument, of_term_argument, of_join, of_side, of_heading, of_transformed, of_switch, of_continuing, of_gathered, of_releasing, of_editing, PlansCollection, of_without, of_used, of_added, of_dropped, of_kept, of_chosen, of_collection_argument, PlansMembers, of_no_member, of_member, of_collected}
use Rattle.sf_rewrite.proofs.Parts.{OneLeaf}
use Rattle.sf_rewrite.proofs.Quiet.{last_step, quiet_steps}
use Rattle.sf_rewrite.proofs.Lowered.{lowered}
use Rattle.sf_rewrite.proofs.Opening.{Leaf, closed_part}
use Rattle.sf_rewrite.proofs.Main.{to_plan, from_plan, Alike, alike, Formed, same_primitive, same_started, same_call, AlikeArguments, alike_none, alike_value, alike_named, alike_closed, alike_opened, alike_terms, same_join, same_side, same_heading, same_transformed, same_switch, same_continuing, AlikeProcess, alike_closure, alike_resumed, AlikeNames, alike_empty, alike_known, alike_running, AlikeAll, none_alike, more_alike, keeps, same_gathered, same_releasing, same_editing, AlikeCollection, alike_without, alike_used, alike_added, alike_dropped, alike_kept, alike_chosen, alike_collection, AlikeMembers, alike_no_member, alike_member, alike_collected}

mutual
  onto : {t u : Term} → Plans t u → Alike true t u
  onto (plans A B) = alike (to_plan unchanged) (onto_parts A) (to_plan B)

  onto_parts : {t u : Term} → PlansParts t u → Formed true t u
  onto_parts of_primitive = same_primitive
  onto_parts of_started = same_started
  onto_parts (of_call A) = same_call (onto_arguments A)
  onto_parts (of_join A B) = same_join (onto A) (onto B)
  onto_parts (of_side A) = same_side (onto A)
  onto_parts (of_heading A) = same_heading (onto A)
  onto_parts (of_transformed A) = same_transformed (onto A)
  onto_parts (of_switch A B) = same_switch (onto A) (onto B)
  onto_parts (of_continuing A C B) = same_continuing (onto A) (onto C) (onto B)
  onto_parts (of_gathered I) = same_gathered (onto_collection I)
  onto_parts (of_releasing I A B) = same_releasing (onto_collection I) (onto A) (onto B)
  onto_parts (of_editing I J) = same_editing (onto_collection I) (onto_collection J)

  onto_collection : {i j : Collection} → PlansCollection i j → AlikeCollection true i j
  onto_collection of_without = alike_without
  onto_collection of_used = alike_used
  onto_collection (of_added I A) = alike_added (onto_collection I) (onto A)
  onto_collection (of_dropped I) = alike_dropped (onto_collection I)
  onto_collection (of_kept I) = alike_kept (onto_collection I)
  onto_collection (of_chosen I J) = alike_chosen (onto_collection I) (onto_collection J)

  onto_arguments : {vs us : Arguments} → PlansArguments vs us → AlikeArguments true vs us
  onto_arguments of_no_arguments = alike_none
  onto_arguments (of_value_argument A) = alike_value (onto_arguments A)
  onto_arguments (of_named_argument A) = alike_named (onto_arguments A)
  onto_arguments (of_collection_argument I A) = alike_collection (onto_collection I) (onto_arguments A)
  onto_arguments (of_closed_argument h P A) = alike_closed h (onto P) (onto_arguments A)
  onto_arguments (of_term_argument h k P A) = alike_terms h k (onto P) (onto_arguments A)

mutual
  from : {t u : Term} → Plans t u → Alike false u t
  from (plans A B) = alike (from_plan B) (from_parts A) (from_plan unchanged)

  from_parts : {t u : Term} → PlansParts t u → Formed false u t
  from_parts of_primitive = same_primitive
  from_parts of_started = same_started
  from_parts (of_call A) = same_call (from_arguments A)
  from_parts (of_join A B) = same_join (from A) (from B)
  from_parts (of_side A) = same_side (from A)
  from_parts (of_heading A) = same_heading (from A)
  from_parts (of_transformed A) = same_transformed (from A)
  from_parts (of_switch A B) = same_switch (from A) (from B)
  from_parts (of_continuing A C B) = same_continuing (from A) (from C) (from B)
  from_parts (of_gathered I) = same_gathered (from_collection I)
  from_parts (of_releasing I A B) = same_releasing (from_collection I) (from A) (from B)
  from_parts (of_editing I J) = same_editing (from_collection I) (from_collection J)

  from_collection : {i j : Collection} → PlansCollection i j → AlikeCollection false j i
  from_collection of_without = alike_without
  from_collection of_used = alike_used
  from_collection (of_added I A) = alike_added (from_collection I) (from A)
  from_collection (of_dropped I) = alike_dropped (from_collection I)
  from_collection (of_kept I) = alike_kept (from_collection I)
  from_collection (of_chosen I J) = alike_chosen (from_collection I) (from_collection J)

  from_arguments : {vs us : Arguments} → PlansArguments vs us → AlikeArguments false us vs
  from_arguments of_no_arguments = alike_none
  from_arguments (of_value_argument A) = alike_value (from_arguments A)
  from_arguments (of_named_argument A) = alike_named (from_arguments A)
  from_arguments (of_collection_argument I A) = alike_collection (from_collection I) (from_arguments A)
  from_arguments (of_closed_argument h P A) = alike_opened h (from P) (from_arguments A)
  from_arguments (of_term_argument h k P A) = alike_terms k h (from P) (from_arguments A)

mutual
  onto_process : {P P' : Process} → PlansProcess P P' → AlikeProcess true P P'
  onto_process (of_closure A E) = alike_closure (onto A) (onto_names E)
  onto_process (of_frozen R) = alike_resumed (onto_process R)

  onto_members : {ms qs : Members} → PlansMembers ms qs → AlikeMembers true ms qs
  onto_members of_no_member = alike_no_member
  onto_members (of_member R M) = alike_member (onto_process R) (onto_members M)

  onto_names : {e e' : Environment} → PlansNames e e' → AlikeNames true e e'
  onto_names of_nothing = alike_empty
  onto_names (of_value E) = alike_known (onto_names E)
  onto_names (of_collected M E) = alike_collected (onto_members M) (onto_names E)
  onto_names (of_process R E) = alike_running (onto_process R) (onto_names E)

mutual
  from_process : {P P' : Process} → PlansProcess P P' → AlikeProcess false P' P
  from_process (of_closure A E) = alike_closure (from A) (from_names E)
  from_process (of_frozen R) = alike_resumed (from_process R)

  from_members : {ms qs : Members} → PlansMembers ms qs → AlikeMembers false qs ms
  from_members of_no_member = alike_no_member
  from_members (of_member R M) = alike_member (from_process R) (from_members M)

  from_names : {e e' : Environment} → PlansNames e e' → AlikeNames false e' e
  from_names of_nothing = alike_empty
  from_names (of_value E) = alike_known (from_names E)
  from_names (of_collected M E) = alike_collected (from_members M) (from_names E)
  from_names (of_process R E) = alike_running (from_process R) (from_names E)

onto_all : {n m : Templates} → PlansAll n m → AlikeAll true n m
onto_all no_templates = none_alike
onto_all (one_more A B) = more_alike (record { name = A.name; parameters = A.parameters; body = onto A.body }) (onto_all B)

from_all : {n m : Templates} → PlansAll n m → AlikeAll false m n
from_all no_templates = none_alike
from_all (one_more A B) = more_alike (record { name = sym A.name; parameters = sym A.parameters; body = from A.body }) (from_all B)

one_leaf : (n : Network) → OneLeaf (Leaf n)
one_leaf n t e s L a b c d A B = once_sample n A B

pub plan_gives : (n m : Network) (P P' : Process) (L : Life) (o : Outcome) (c : Cost) → PlansNetwork n m → PlansProcess P P' → Gives n P L o c
    → (d : Cost) × Gives m P' L o d × (count d ≤ count c) × (height d ≤ height c)
plan_gives n m P P' L o c N R G =
    elim (keeps true n m (onto_all N.templates) N.functions (one_leaf n) (one_leaf m) (onto_process R) G) [ lowered A h ↦ (_, A, h.counts refl, h.heights refl) ]

pub plan_no_more : (n m : Network) (P P' : Process) (L : Life) (o : Outcome) (d : Cost) → PlansNetwork n m → PlansProcess P P' → Gives m P' L o d → (c : Cost) × Gives n P L o c
plan_no_more n m P P' L o d N R G =
    elim (keeps false m n (from_all N.templates) (sym N.functions) (one_leaf m) (one_leaf n) (from_process R) G) [ lowered A h ↦ (_, A) ]

pub quiet_gives : (n : Network) (t : Term) (e : Environment) (s : Step) (L : Life) → IsTrue (is_quiet t) → (y : Data) × Gives n (closure t e) (s ∷ L) (gave y []) (text_cost t)
quiet_gives n t e s L h = let r = last_step (Leaf n) (one_leaf n) (quiet_steps (Leaf n) (one_leaf n) t h) e s L in (r.0, closed_part n r.1)
