-- Terms that stand one after another.
use Rattle.std.specs.Prelude.{List, [], ◌∷◌, Bool, true, false, ◌&&◌, IsTrue}
use Rattle.sf_term.specs.declared.form.Bare.{Bare}
use Rattle.sf_term.specs.declared.form.Bare.TheVariants.{Identity, LocalTime, Integral, Edge, NotYet, Once, Count, Pre}
use Rattle.sf_term.specs.Trees.{bare, probe, never, with_value, timed, selected, arrow, accumulated, fused, Term, primitive, reference, joined, sided, headed, transformed, switching, continuing, gathered, releasing, editing, staged}
use Rattle.sf_rewrite.specs.Quiet.{is_quiet}
use Rattle.sf_rewrite.specs.Normal.{IsPlan, is_stage, is_arr, may_meet}

-- the form of the identity
abbrev pub is_identity_form : Bare → Bool
is_identity_form Identity = true
is_identity_form LocalTime = false
is_identity_form Integral = false
is_identity_form Edge = false
is_identity_form NotYet = false
is_identity_form Once = false
is_identity_form Count = false
is_identity_form Pre = false

-- whether a term is the identity
abbrev pub is_identity_term : Term → Bool
is_identity_term (primitive (bare k)) = is_identity_form k
is_identity_term (primitive (probe k)) = false
is_identity_term (primitive (never t)) = false
is_identity_term (primitive (with_value k i)) = false
is_identity_term (primitive (arrow f)) = false
is_identity_term (primitive (timed k q i)) = false
is_identity_term (primitive (selected k n)) = false
is_identity_term (primitive (accumulated k i f)) = false
is_identity_term (primitive (fused f)) = false
is_identity_term (reference r) = false
is_identity_term (joined j f g) = false
is_identity_term (sided d t) = false
is_identity_term (headed h i t) = false
is_identity_term (transformed f t) = false
is_identity_term (switching w t p u) = false
is_identity_term (continuing w t q k p u) = false
is_identity_term (gathered i) = false
is_identity_term (releasing w i q k p u) = false
is_identity_term (editing w i k p u) = false
is_identity_term (staged x f g) = false

-- all of these terms are quiet
abbrev pub all_quiet : List Term → Bool
all_quiet [] = true
all_quiet (t ∷ ts) = is_quiet t && all_quiet ts

-- Stages of a pipeline in normal form: each is a plan, but no pipeline and not the identity, and no two
-- neighbours are `arr`.
pub data AreStages : List Term → Type 0 where
  no_stages : AreStages []
  one_stage : {t : Term} → IsPlan t → IsTrue (is_stage t) → AreStages (t ∷ [])
  more_stages : {t u : Term} {us : List Term} → IsPlan t → IsTrue (is_stage t) → IsTrue (may_meet (is_arr t) (is_arr u)) → AreStages (u ∷ us) → AreStages (t ∷ u ∷ us)
