use Rattle.std.proofs.Common.{◌≡◌, ◌≢◌, ◌⊎◌, inl, inr, ◌<◌, length, false, true≢false, refl, sym, ap, subst, ◌∙◌, arith}
use Rattle.std.specs.Prelude.{IsTrue}
use Rattle.sf_value.specs.Values.{Data, count, unit, truth, number, text, pair, no_event, event, table}
use Rattle.sf_value.specs.View.{data_of, IsFilled}
use Rattle.sf_value.specs.declared.value.Form.{Form}
use Rattle.sf_value.specs.declared.value.Form.TheVariants.{Unit, Bool, Int, Text, Pair, NoEvent, UnitEvent, Event, Table}
use Rattle.sf_value.proofs.Comparing.{count_of_values, values_fewer, same_tables, other_keys}
use Rattle.sf_value.proofs.equal.+same.Goals as goal

-- a form that a value has
abbrev FormOf : Data → Form → Type 0
FormOf unit g = g ≡ Unit
FormOf (truth b) g = (x : _) × (g ≡ Bool x)
FormOf (number z) g = (x : _) × (g ≡ Int x)
FormOf (text s) g = (x : _) × (g ≡ Text x)
FormOf (pair d e) g = (x : _) × (g ≡ Pair x)
FormOf no_event g = g ≡ NoEvent
FormOf (event d) g = ((d ≡ unit) × (g ≡ UnitEvent)) ⊎ ((d ≢ unit) × ((x : _) × (g ≡ Event x)))
FormOf (table rs) g = (x : _) × (g ≡ Table x)

form_of : (g : Form) → IsFilled g → FormOf (data_of g) g
form_of Unit h = refl
form_of (Bool x) h = (x, refl)
form_of (Int x) h = (x, refl)
form_of (Text x) h = (x, refl)
form_of (Pair x) h = (x, refl)
form_of NoEvent h = refl
form_of UnitEvent h = inl (refl, refl)
form_of (Event x) h = inr (h, (x, refl))
form_of (Table x) h = (x, refl)

-- a value is none that has another form
apart_by_form : {a b : Data} (f g : Form) → data_of f ≡ a → data_of g ≡ b → IsFilled g → (FormOf (data_of f) g → ⊥) → (IsTrue false → a ≡ b) × (a ≡ b → IsTrue false)
apart_by_form f g is gives filled none = ((λ h. absurd (true≢false (sym h))), λ e. absurd (none (subst (λ d. FormOf d g) (gives ∙ sym e ∙ sym is) (form_of g filled))))

-- an event that has a node is none of the unit, nor one without an event
unit_apart : (g : Form) → (g ≡ UnitEvent → ⊥) → FormOf (data_of UnitEvent) g → ⊥
unit_apart g isnt (inl p) = isnt p.1
unit_apart g isnt (inr q) = q.0 refl

event_apart : (x : _) (g : Form) → IsFilled (Event x) → ((y : _) → g ≡ Event y → ⊥) → FormOf (data_of (Event x)) g → ⊥
event_apart x g filled isnt (inl p) = filled p.0
event_apart x g filled isnt (inr q) = isnt q.1.0 q.1.1

pub same_values-returns-in-len1-up-b : goal.same_values-returns-in-len1-up-b
same_values-returns-in-len1-up-b t c = (λ h. cc, λ e. absurd (let len = ap length e in omega (arith, len)))

pub same-same_values-requires : goal.same-same_values-requires
same-same_values-requires t c =
    let left = rw c.in-Table-Table.is-0 at c.a.view_is in
    let filled = rw c.in-Table-Table.is-0 at c.a.invariant in
    let less : count_of_values c.deref-then-same_keys-2.result.now < count c.args.a.now = rw (c.deref-then-same_keys-2.ensures.value, c.deref-then-same_keys.ensures, ← left) (values_fewer _ _ filled.1) in
    (subst (λ n. count_of_values c.deref-then-same_keys-2.result.now < n) c.decreases less, tt)

pub same-returns-then-same_keys : goal.same-returns-then-same_keys
same-returns-then-same_keys t c =
    let left = rw c.in-Table-Table.is-0 at c.a.view_is in
    let right = rw c.in-Table-Table.is-1 at c.b.view_is in
    let filled = rw c.in-Table-Table.is-0 at c.a.invariant in
    let filled-2 = rw c.in-Table-Table.is-1 at c.b.invariant in
    let keys = rw (c.all.ensures.keys, c.deref-in-Table-Table-2.ensures, c.deref-in-Table-Table.ensures, c.all-in-Table-Table.ensures.keys, c.deref-in-Table-Table-4.ensures, c.deref-in-Table-Table-3.ensures) at c.same_keys.ensures in
    let values = rw (c.deref-then-same_keys-2.ensures.value, c.deref-then-same_keys.ensures, c.deref-then-same_keys-4.ensures.value, c.deref-then-same_keys-3.ensures) at c.same_values.ensures in
    rw (← left, ← right) (same_tables _ _ _ _ _ _ filled.1 filled-2.1 c.if-same_keys.true keys values)

pub same-returns-else-same_keys : goal.same-returns-else-same_keys
same-returns-else-same_keys t c =
    let left = rw c.in-Table-Table.is-0 at c.a.view_is in
    let right = rw c.in-Table-Table.is-1 at c.b.view_is in
    let filled = rw c.in-Table-Table.is-0 at c.a.invariant in
    let filled-2 = rw c.in-Table-Table.is-1 at c.b.invariant in
    let keys = rw (c.all.ensures.keys, c.deref-in-Table-Table-2.ensures, c.deref-in-Table-Table.ensures, c.all-in-Table-Table.ensures.keys, c.deref-in-Table-Table-4.ensures, c.deref-in-Table-Table-3.ensures) at c.same_keys.ensures in
    rw (← left, ← right) (other_keys _ _ _ _ _ filled.1 filled-2.1 c.if-same_keys.false keys)

pub same-returns-in_default : goal.same-returns-in_default
same-returns-in_default t c = apart_by_form Unit c.b.inside.form (ap data_of (sym c.in_default.is-0) ∙ c.a.view_is) c.b.view_is c.b.invariant.1 c.in_default.not-Unit-1

pub same-returns-in_default-2 : goal.same-returns-in_default-2
same-returns-in_default-2 t c = apart_by_form (Bool c.in_default.field-0-0) c.b.inside.form (ap data_of (sym c.in_default.is-0) ∙ c.a.view_is) c.b.view_is c.b.invariant.1 (λ h. c.in_default.not-Bool-1 h.0 h.1)

pub same-returns-in_default-3 : goal.same-returns-in_default-3
same-returns-in_default-3 t c = apart_by_form (Int c.in_default.field-0-0) c.b.inside.form (ap data_of (sym c.in_default.is-0) ∙ c.a.view_is) c.b.view_is c.b.invariant.1 (λ h. c.in_default.not-Int-1 h.0 h.1)

pub same-returns-in_default-4 : goal.same-returns-in_default-4
same-returns-in_default-4 t c = apart_by_form (Text c.in_default.field-0-0) c.b.inside.form (ap data_of (sym c.in_default.is-0) ∙ c.a.view_is) c.b.view_is c.b.invariant.1 (λ h. c.in_default.not-Text-1 h.0 h.1)

pub same-returns-in_default-5 : goal.same-returns-in_default-5
same-returns-in_default-5 t c = apart_by_form (Pair c.in_default.field-0-0) c.b.inside.form (ap data_of (sym c.in_default.is-0) ∙ c.a.view_is) c.b.view_is c.b.invariant.1 (λ h. c.in_default.not-Pair-1 h.0 h.1)

pub same-returns-in_default-6 : goal.same-returns-in_default-6
same-returns-in_default-6 t c = apart_by_form NoEvent c.b.inside.form (ap data_of (sym c.in_default.is-0) ∙ c.a.view_is) c.b.view_is c.b.invariant.1 c.in_default.not-NoEvent-1

pub same-returns-in_default-7 : goal.same-returns-in_default-7
same-returns-in_default-7 t c = apart_by_form UnitEvent c.b.inside.form (ap data_of (sym c.in_default.is-0) ∙ c.a.view_is) c.b.view_is c.b.invariant.1 (unit_apart c.b.inside.form c.in_default.not-UnitEvent-1)

pub same-returns-in_default-8 : goal.same-returns-in_default-8
same-returns-in_default-8 t c = apart_by_form (Event c.in_default.field-0-0) c.b.inside.form (ap data_of (sym c.in_default.is-0) ∙ c.a.view_is) c.b.view_is c.b.invariant.1 (event_apart c.in_default.field-0-0 c.b.inside.form (rw c.in_default.is-0 at c.a.invariant).1 c.in_default.not-Event-1)

pub same-returns-in_default-9 : goal.same-returns-in_default-9
same-returns-in_default-9 t c = apart_by_form (Table c.in_default.field-0-0) c.b.inside.form (ap data_of (sym c.in_default.is-0) ∙ c.a.view_is) c.b.view_is c.b.invariant.1 (λ h. c.in_default.not-Table-1 h.0 h.1)
