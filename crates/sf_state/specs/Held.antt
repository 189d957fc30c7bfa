-- The members that are held under keys.
use Rattle.std.specs.Prelude.{ℕ, List, Option}
use Rattle.std.specs.declared.alloc.Global.{Global}
use Rattle.std.specs.declared.rc.Rc.{Rc}
use Rattle.sf_value.specs.Values.{KeyData}
use Rattle.sf_value.specs.declared.keys.Keys.{Keys}
use Rattle.sf_state.specs.declared.state.State.{State}
use Rattle.sf_state.specs.declared.state.Gathered.{Gathered}

-- keys, the states under them, and the time that they wait, where they were frozen and none has been stepped since
pub record Holding : Type 0 where
  pub keys : List KeyData
  pub states : List State
  pub wait : Option ℕ

abbrev pub held_as : Rc Keys Global → List State → Option ℕ → Holding
held_as keys bs w = record { keys = keys.value; states = bs; wait = w }

abbrev pub gathered_holding : Gathered → Holding
gathered_holding g = held_as g.keys g.states.value.items g.wait
