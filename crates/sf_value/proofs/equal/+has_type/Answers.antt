use Rattle.std.proofs.Common.{◌<◌, ◌∙◌, refl, ap, subst}
use Rattle.sf_value.specs.Values.{count, HasKind, HasKeyKind, has_unit, has_bool, has_int, has_text, has_no_event}
use Rattle.sf_value.specs.View.{key_of}
use Rattle.sf_value.specs.KindView.{key_kind_of}
use Rattle.sf_value.proofs.Comparing.{count_of_values, values_fewer, all_of, all_of_none, not_first, mapped}
use Rattle.sf_value.proofs.Typing.{pair_typed, event_typed, table_typed, keys_untyped}
use Rattle.sf_value.proofs.equal.+has_type.Goals as goal

pub has_type-returns-in-Unit-Unit : goal.has_type-returns-in-Unit-Unit
has_type-returns-in-Unit-Unit t c =
    let value = rw c.in-Unit-Unit.is-0 at c.value.view_is in
    let kind = rw c.in-Unit-Unit.is-1 at c.ty.view_is in
    rw (← value, ← kind) (λ _. has_unit, λ _. refl)

pub has_type-returns-in-Bool-Bool : goal.has_type-returns-in-Bool-Bool
has_type-returns-in-Bool-Bool t c =
    let value = rw c.in-Bool-Bool.is-0 at c.value.view_is in
    let kind = rw c.in-Bool-Bool.is-1 at c.ty.view_is in
    rw (← value, ← kind) (λ _. has_bool, λ _. refl)

pub has_type-returns-in-Int-Int : goal.has_type-returns-in-Int-Int
has_type-returns-in-Int-Int t c =
    let value = rw c.in-Int-Int.is-0 at c.value.view_is in
    let kind = rw c.in-Int-Int.is-1 at c.ty.view_is in
    let proper = rw c.in-Int-Int.is-0 at c.value.invariant in
    rw (← value, ← kind) (λ _. has_int proper.0, λ _. refl)

pub has_type-returns-in-Text-Text : goal.has_type-returns-in-Text-Text
has_type-returns-in-Text-Text t c =
    let value = rw c.in-Text-Text.is-0 at c.value.view_is in
    let kind = rw c.in-Text-Text.is-1 at c.ty.view_is in
    let proper = rw c.in-Text-Text.is-0 at c.value.invariant in
    rw (← value, ← kind) (λ _. has_text proper.0, λ _. refl)

pub has_type-returns-then-has_type : goal.has_type-returns-then-has_type
has_type-returns-then-has_type t c =
    let value = rw c.in-Pair-Pair.is-0 at c.value.view_is in
    let kind = rw c.in-Pair-Pair.is-1 at c.ty.view_is in
    let first = rw (c.deref.ensures, c.deref-in-Pair-Pair.ensures) at c.has_type.ensures in
    let second = rw (c.deref-then-has_type.ensures, c.deref-then-has_type-2.ensures) at c.has_type-then-has_type.ensures in
    rw (← value, ← kind) (pair_typed _ _ _ _ _ _ c.if-has_type.true first second)

pub has_type-returns-in-NoEvent-Event : goal.has_type-returns-in-NoEvent-Event
has_type-returns-in-NoEvent-Event t c =
    let value = rw c.in-NoEvent-Event.is-0 at c.value.view_is in
    let kind = rw c.in-NoEvent-Event.is-1 at c.ty.view_is in
    rw (← value, ← kind) (λ _. has_no_event, λ _. refl)

pub has_type-returns-in-UnitEvent-Event : goal.has_type-returns-in-UnitEvent-Event
has_type-returns-in-UnitEvent-Event t c =
    let value = rw c.in-UnitEvent-Event.is-0 at c.value.view_is in
    let kind = rw c.in-UnitEvent-Event.is-1 at c.ty.view_is in
    let part = rw c.deref-in-UnitEvent-Event.ensures at c.is_unit_type.ensures in
    rw (← value, ← kind) (event_typed _ _ _ part)

pub has_type-returns-in-Event-Event : goal.has_type-returns-in-Event-Event
has_type-returns-in-Event-Event t c =
    let value = rw c.in-Event-Event.is-0 at c.value.view_is in
    let kind = rw c.in-Event-Event.is-1 at c.ty.view_is in
    let part = rw (c.deref-in-Event-Event.ensures, c.deref-in-Event-Event-2.ensures) at c.has_type-in-Event-Event.ensures in
    rw (← value, ← kind) (event_typed _ _ _ part)

pub has_type-have_type-requires : goal.has_type-have_type-requires
has_type-have_type-requires t c =
    let value = rw c.in-Table-Table.is-0 at c.value.view_is in
    let known = rw c.in-Table-Table.is-0 at c.value.invariant in
    let less : count_of_values c.deref-then-have_key_type-2.result.now < count c.args.value.now = rw (c.deref-then-have_key_type-2.ensures.value, c.deref-then-have_key_type.ensures, ← value) (values_fewer _ _ known.1) in
    (subst (λ n. count_of_values c.deref-then-have_key_type-2.result.now < n) c.decreases less, tt)

pub has_type-returns-then-have_key_type : goal.has_type-returns-then-have_key_type
has_type-returns-then-have_key_type t c =
    let value = rw c.in-Table-Table.is-0 at c.value.view_is in
    let kind = rw c.in-Table-Table.is-1 at c.ty.view_is in
    let known = rw c.in-Table-Table.is-0 at c.value.invariant in
    let listed = c.all.ensures.keys ∙ c.deref-in-Table-Table-2.ensures ∙ ap (λ x. x.keys.value) c.deref-in-Table-Table.ensures in
    let keys = mapped key_of (λ l. HasKeyKind l (key_kind_of c.in-Table-Table.k)) _ _ _ listed c.have_key_type.ensures in
    let values = rw (c.deref-then-have_key_type-2.ensures.value, c.deref-then-have_key_type.ensures, c.deref-then-have_key_type-3.ensures) at c.have_type.ensures in
    rw (← value, ← kind) (table_typed _ _ _ _ _ _ known.0 known.1 c.if-have_key_type.true keys values)

pub has_type-returns-else-have_key_type : goal.has_type-returns-else-have_key_type
has_type-returns-else-have_key_type t c =
    let value = rw c.in-Table-Table.is-0 at c.value.view_is in
    let kind = rw c.in-Table-Table.is-1 at c.ty.view_is in
    let known = rw c.in-Table-Table.is-0 at c.value.invariant in
    let listed = c.all.ensures.keys ∙ c.deref-in-Table-Table-2.ensures ∙ ap (λ x. x.keys.value) c.deref-in-Table-Table.ensures in
    let keys = mapped key_of (λ l. HasKeyKind l (key_kind_of c.in-Table-Table.k)) _ _ _ listed c.have_key_type.ensures in
    rw (← value, ← kind) (keys_untyped _ _ _ _ _ known.1 c.if-have_key_type.false keys)

pub have_type-returns-in-empty : goal.have_type-returns-in-empty
have_type-returns-in-empty t c = all_of_none (λ x. HasKind x c.args.ty.now) _ c.in-empty.len_below

pub have_type-returns-then-has_type : goal.have_type-returns-then-has_type
have_type-returns-then-has_type t c = all_of (λ x. HasKind x c.args.ty.now) _ c.in-len1-up.len_at_least _ _ c.value-item.is (c.has_type.ensures.0 c.if-has_type.true) c.have_type.ensures

pub have_type-returns-else-has_type : goal.have_type-returns-else-has_type
have_type-returns-else-has_type t c = not_first (λ x. HasKind x c.args.ty.now) _ c.in-len1-up.len_at_least _ _ c.value-item.is c.if-has_type.false c.has_type.ensures
