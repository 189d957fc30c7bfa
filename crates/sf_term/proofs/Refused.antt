-- Refusals that are due.
use Rattle.std.proofs.Common.{◌≡◌, ◌↔◌, ℕ, min, ◌<◌, ◌≤◌, refl, sym, subst, arith, inl, inr, Result, Ok, Err}
use Rattle.std.specs.Prelude.{IfErr, IsErrAnd}
use Rattle.std.proofs.lemmas.Bool.{cases_lt}
use Rattle.sf_arena.specs.declared.arena.ArenaRefusal.{ArenaRefusal}
use Rattle.sf_arena.specs.declared.arena.ArenaRefusal.TheVariants as of_arenas
use Rattle.sf_term.specs.declared.refusal.BuildRefusal.{BuildRefusal}
use Rattle.sf_term.specs.declared.refusal.BuildRefusal.TheVariants.{TooMany, TooDeep, BadName, Memory}
use Rattle.sf_term.specs.declared.program.Program.{Program}
use Rattle.sf_term.specs.Refusals.{as_build_refusal}
use Rattle.sf_term.specs.Arena.{IsSameProgram}
use Rattle.sf_term.specs.Building.{HasRoom, IsDue, RefusesDue, IsBuilt, NoNames}

pub itself : {P : Type 0} → P ↔ P
itself = (λ p. p, λ p. p)

-- room for one is room for another that counts, measures and is named as it
pub room_as : (others inner count whole : ℕ) (B Named : Type 0) → others ≡ count → min inner 65 ≡ min whole 65 → (B ↔ Named) → HasRoom others inner B → HasRoom count whole Named
room_as others inner count whole B Named counted deep named h = (omega (arith, h.0, counted), omega (arith, h.1, deep), named.0 h.2)

-- what is due of the one is due of the other
pub due_as : (others inner count whole : ℕ) (B Named : Type 0) (f : BuildRefusal) → others ≡ count → min inner 65 ≡ min whole 65 → (B ↔ Named) → IsDue others inner B f → IsDue count whole Named f
due_as others inner count whole B Named TooMany counted deep named h = omega (arith, h, counted)
due_as others inner count whole B Named TooDeep counted deep named h = (omega (arith, h.0, counted), omega (arith, h.1, deep))
due_as others inner count whole B Named BadName counted deep named h = (omega (arith, h.0, counted), omega (arith, h.1, deep), λ n. h.2 (named.1 n))
due_as others inner count whole B Named Memory counted deep named h = room_as others inner count whole B Named counted deep named h

-- a refusal that is handed on
pub hands_on : {X A B Named : Type 0} (others inner count whole : ℕ) (r : Result A BuildRefusal) (f : BuildRefusal) → IsErrAnd r (λ e. e ≡ f) → RefusesDue {A = X} (Err f) others inner B → others ≡ count → min inner 65 ≡ min whole 65 → (B ↔ Named) → RefusesDue r count whole Named
hands_on others inner count whole (Ok x) f h refused counted deep named = absurd h
hands_on {X} {A} {B} {Named} others inner count whole (Err e) f h refused counted deep named = record {
  room = tt;
  due = subst (IsDue count whole Named) (sym h) (due_as others inner count whole B Named f counted deep named refused.due);
}

-- where there was room nothing else is refused than for want of memory
pub still_room : {X A B Named : Type 0} (x : X) (others inner count whole : ℕ) (r : Result A BuildRefusal) → RefusesDue {A = X} (Ok x) others inner B → others ≡ count → min inner 65 ≡ min whole 65 → (B ↔ Named) → IfErr r (λ f. f ≡ Memory) → RefusesDue r count whole Named
still_room {X} {A} {B} {Named} x others inner count whole (Ok a) room counted deep named memory = record {
  room = room_as others inner count whole B Named counted deep named room.room;
  due = tt;
}
still_room {X} {A} {B} {Named} x others inner count whole (Err f) room counted deep named memory = record {
  room = tt;
  due = subst (IsDue count whole Named) (sym memory) (room_as others inner count whole B Named counted deep named room.room);
}

-- nothing is built of what is refused
pub builds_none : {X A B Named : Type 0} {M : A → Type 0} (old new : Program) (others inner count whole : ℕ) (r : Result A BuildRefusal) (f : BuildRefusal) → IsErrAnd r (λ e. e ≡ f) → RefusesDue {A = X} (Err f) others inner B → others ≡ count → min inner 65 ≡ min whole 65 → (B ↔ Named) → IsSameProgram old new
    → IsBuilt old new r M count whole Named
builds_none old new others inner count whole (Ok x) f h refused counted deep named same = absurd h
builds_none old new others inner count whole (Err e) f h refused counted deep named same = record {
  ok = tt;
  refused = hands_on others inner count whole (Err e) f h refused counted deep named;
  err = same;
}

-- and nothing where memory ran out
pub builds_starved : {X A B Named : Type 0} {M : A → Type 0} (x : X) (old new : Program) (others inner count whole : ℕ) (r : Result A BuildRefusal) (f : BuildRefusal) → IsErrAnd r (λ e. e ≡ f) → f ≡ Memory → RefusesDue {A = X} (Ok x) others inner B → others ≡ count → min inner 65 ≡ min whole 65 → (B ↔ Named) → IsSameProgram old new
    → IsBuilt old new r M count whole Named
builds_starved {X} {A} {B} x old new others inner count whole r f h memory room counted deep named same =
    builds_none {X = X} old new others inner count whole r f h (still_room {A = X} {Named = B} x others inner others inner (Err f) room refl refl itself memory) counted deep named same

-- an arena has room where it refuses neither for the number nor for the depth
arena_room : {Y : Type 0} (r : Result Y ArenaRefusal) (n d : ℕ) → (r ≡ Err of_arenas.TooMany → ⊥) → (r ≡ Err of_arenas.TooDeep → ⊥) → (r ≡ Err of_arenas.TooMany ↔ 100000 ≤ n) → (r ≡ Err of_arenas.TooDeep ↔ (n < 100000) × (64 < d)) → HasRoom n d NoNames
arena_room r n d not_many not_deep many deep =
    let few : n < 100000 = elim (cases_lt n 100000) [ inl p ↦ p | inr p ↦ absurd (not_many (many.1 (omega arith))) ] in
    let shallow : d ≤ 64 = elim (cases_lt 64 d) [ inl p ↦ absurd (not_deep (deep.1 (few, p))) | inr p ↦ omega arith ] in
    (few, shallow, tt)

arena_due : {Y : Type 0} (f : ArenaRefusal) (n d : ℕ) → (◌≡◌ {A = Result Y ArenaRefusal} (Err f) (Err of_arenas.TooMany) ↔ 100000 ≤ n) → (◌≡◌ {A = Result Y ArenaRefusal} (Err f) (Err of_arenas.TooDeep) ↔ (n < 100000) × (64 < d)) → IsDue n d NoNames (as_build_refusal f)
arena_due of_arenas.TooMany n d many deep = many.0 refl
arena_due of_arenas.TooDeep n d many deep = deep.0 refl
arena_due {Y = Y} of_arenas.Memory n d many deep = arena_room {Y = Y} (Err of_arenas.Memory) n d (λ e. cc) (λ e. cc) many deep

-- what an arena took, whose depth is that of the whole
pub arena_took : {X Y : Type 0} (x : X) (y : Y) (n d whole : ℕ) → (◌≡◌ {A = Result Y ArenaRefusal} (Ok y) (Err of_arenas.TooMany) ↔ 100000 ≤ n) → (◌≡◌ {A = Result Y ArenaRefusal} (Ok y) (Err of_arenas.TooDeep) ↔ (n < 100000) × (64 < d)) → min d 65 ≡ min whole 65 → RefusesDue {A = X} (Ok x) n whole NoNames
arena_took {X} {Y} x y n d whole many deep measured = record {
  room = room_as n d n whole NoNames NoNames refl measured itself (arena_room {Y = Y} (Ok y) n d (λ e. cc) (λ e. cc) many deep);
  due = tt;
}

-- and what it refused
pub arena_refused : {X Y : Type 0} (f : ArenaRefusal) (e : BuildRefusal) (n d whole : ℕ) → e ≡ as_build_refusal f → (◌≡◌ {A = Result Y ArenaRefusal} (Err f) (Err of_arenas.TooMany) ↔ 100000 ≤ n) → (◌≡◌ {A = Result Y ArenaRefusal} (Err f) (Err of_arenas.TooDeep) ↔ (n < 100000) × (64 < d)) → min d 65 ≡ min whole 65
    → RefusesDue {A = X} (Err e) n whole NoNames
arena_refused {X} {Y} f e n d whole is many deep measured = record {
  room = tt;
  due = subst (IsDue n whole NoNames) (sym is) (due_as n d n whole NoNames NoNames (as_build_refusal f) refl measured itself (arena_due {Y = Y} f n d many deep));
}
