-- Refusals of arenas, as those of programs.
use Rattle.sf_arena.specs.declared.arena.ArenaRefusal.{ArenaRefusal}
use Rattle.sf_arena.specs.declared.arena.ArenaRefusal.TheVariants as of_arenas
use Rattle.sf_term.specs.declared.refusal.BuildRefusal.{BuildRefusal}
use Rattle.sf_term.specs.declared.refusal.BuildRefusal.TheVariants.{TooMany, TooDeep, Memory}

abbrev pub as_build_refusal : ArenaRefusal → BuildRefusal
as_build_refusal of_arenas.TooMany = TooMany
as_build_refusal of_arenas.TooDeep = TooDeep
as_build_refusal of_arenas.Memory = Memory
