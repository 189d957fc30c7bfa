-- Templates of a plan with other bodies.
use Rattle.std.proofs.Common.{◌≡◌, ℕ, zero, suc, ◌+◌, Bool, List, [], ◌∷◌, map, not, cond, nat_eq, bytes_eq, unwrap_or, slice_index_or, IsTrue, String, refl, sym, ◌∙◌, ap, subst}
use Rattle.indexmap.specs.IndexMap.{IndexMap, get_by_text}
use Rattle.std.proofs.lemmas.List.{length-map}
use Rattle.sf_value.specs.Values.{Name}
use Rattle.sf_expr.specs.declared.exprs.Exprs.{Exprs}
use Rattle.sf_expr.specs.Arena.{name_at}
use Rattle.sf_law.specs.declared.node.PlanId.{PlanId}
use Rattle.sf_law.specs.declared.node.PlanNode.{PlanNode}
use Rattle.sf_law.specs.declared.node.PlanNode.TheVariants as nodes
use Rattle.sf_law.specs.declared.mentioned.Mentioned.{Mentioned}
use Rattle.sf_law.specs.Headers.{PlanHeader, no_header, rebodied, place_named, NumbersFirst}
use Rattle.sf_law.specs.Entries.{calls_first, node_among, ArePlanNodes}
use Rattle.sf_law.specs.Mentioned.{is_mentioned}
use Rattle.sf_law.specs.Asking.{arguments_asked, is_asked, AreAsked}

module _ (ids : List PlanId) (n : ℕ) where
  -- a name stands where it stood
  place_kept : (x : Name) (hs : List PlanHeader) → place_named x (map (rebodied ids n) hs) ≡ place_named x hs
  place_kept x [] = refl
  place_kept x (h ∷ hs) = ap (λ k. cond (not (bytes_eq x h.name)) (1 + k) 0) (place_kept x hs)

  pub numbers_kept : {Y S : Type 0} (numbers : IndexMap (String Y) ℕ S) (hs : List PlanHeader) → NumbersFirst numbers hs → NumbersFirst numbers (map (rebodied ids n) hs)
  numbers_kept numbers hs h x = ap (unwrap_or (get_by_text numbers x)) (length-map hs (rebodied ids n)) ∙ h x ∙ sym (place_kept x hs)

  calls_kept : (x : Exprs) (hs : List PlanHeader) (m : PlanNode) → calls_first x (map (rebodied ids n) hs) m ≡ calls_first x hs m
  calls_kept x hs (nodes.Primitive q) = refl
  calls_kept x hs (nodes.Started w k) = refl
  calls_kept x hs (nodes.Probe r) = refl
  calls_kept x hs (nodes.Call k g v) = ap (nat_eq g.0) (place_kept (name_at x k) hs)
  calls_kept x hs (nodes.Joined j a b) = refl
  calls_kept x hs (nodes.Sided d a) = refl
  calls_kept x hs (nodes.Headed h e c a) = refl
  calls_kept x hs (nodes.Transformed f c a) = refl
  calls_kept x hs (nodes.Switching n) = refl
  calls_kept x hs (nodes.Continuation n) = refl
  calls_kept x hs (nodes.Gathered r) = refl
  calls_kept x hs (nodes.Releasing s) = refl
  calls_kept x hs (nodes.Editing s) = refl
  calls_kept x hs (nodes.Pipeline v) = refl

  pub arena_kept : (x : Exprs) (hs : List PlanHeader) (ns : List PlanNode) → ArePlanNodes x hs ns → ArePlanNodes x (map (rebodied ids n) hs) ns
  arena_kept x hs ns a = record {
    in_order = a.in_order;
    wholes = a.wholes;
    coded = a.coded;
    beside = a.beside;
    called = λ i. subst IsTrue (sym (calls_kept x hs (node_among ns i))) (a.called i);
  }

  -- a template has the parameters that it had
  parameters_kept : (hs : List PlanHeader) (i : ℕ) → (slice_index_or (map (rebodied ids n) hs) i no_header).parameters ≡ (slice_index_or hs i no_header).parameters
  parameters_kept [] i = refl
  parameters_kept (h ∷ hs) zero = refl
  parameters_kept (h ∷ hs) (suc i) = parameters_kept hs i

  asked_kept : (x : Exprs) (hs : List PlanHeader) (asks : Name → Bool) (m : PlanNode) → is_asked x (map (rebodied ids n) hs) asks m ≡ is_asked x hs asks m
  asked_kept x hs asks (nodes.Primitive q) = refl
  asked_kept x hs asks (nodes.Started w k) = refl
  asked_kept x hs asks (nodes.Probe r) = refl
  asked_kept x hs asks (nodes.Call k g v) = ap (λ qs. arguments_asked x asks qs v.items) (parameters_kept hs g.0)
  asked_kept x hs asks (nodes.Joined j a b) = refl
  asked_kept x hs asks (nodes.Sided d a) = refl
  asked_kept x hs asks (nodes.Headed h e c a) = refl
  asked_kept x hs asks (nodes.Transformed f c a) = refl
  asked_kept x hs asks (nodes.Switching n) = refl
  asked_kept x hs asks (nodes.Continuation n) = refl
  asked_kept x hs asks (nodes.Gathered r) = refl
  asked_kept x hs asks (nodes.Releasing s) = refl
  asked_kept x hs asks (nodes.Editing s) = refl
  asked_kept x hs asks (nodes.Pipeline v) = refl

  -- nodes ask for what they asked for
  pub enough_kept : (x : Exprs) (hs : List PlanHeader) (m : Mentioned) (ns : List PlanNode) → AreAsked x hs m ns → AreAsked x (map (rebodied ids n) hs) m ns
  enough_kept x hs m ns h i = subst IsTrue (sym (asked_kept x hs (is_mentioned x m) (node_among ns i))) (h i)
