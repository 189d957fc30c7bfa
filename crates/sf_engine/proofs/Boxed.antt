-- What boxed actuators do.
use Rattle.std.proofs.Common.{◌≡◌, Bool, refl, subst}
use Rattle.std.specs.declared.dyn_box.DynBox.{DynBox}
use Rattle.sf_engine.specs.declared.engine.Sample.{Sample}
use Rattle.sf_engine.specs.Acting.{ActsInside}

-- what is in a box acts there
module _ {X Z : Type 0} {V : X → Type 0} (acts : (a : (k : X) × V k) → V a.0 → Sample → Bool → V a.0 → Type 0) (b c : DynBox X Z V) (s : Sample) (answer : Bool) where
  -- what is in the box, where it was this
  record ComesFrom (a : (k : X) × V k) : Type 0 where
    next : V a.0
    acted : acts a a.1 s answer next
    comes_to : ◌≡◌ {A = (k : X) × V k} (c.vtable, c.value) (a.0, next)

  pub acts_inside : (v : V c.vtable) → ◌≡◌ {A = (k : X) × V k} (c.vtable, v) (b.vtable, b.value) → acts (c.vtable, v) v s answer c.value → ActsInside b (acts (b.vtable, b.value)) s answer c
  acts_inside v same acted =
      let came : ComesFrom (b.vtable, b.value) = subst ComesFrom same (record { next = c.value; acted = acted; comes_to = refl }) in
      record { next = came.next; acted = came.acted; comes_to = came.comes_to }
