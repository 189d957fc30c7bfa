-- Stages one after another.
use Rattle.std.proofs.Common.{◌≡◌, List, [], ◌∷◌, ◌++◌, IsTrue, refl, sym, subst}
use Rattle.sf_term.specs.Trees.{Extent, whole, rest, Term, staged}
use Rattle.sf_term.specs.Entries.{identity_term}
use Rattle.sf_law.specs.Entries.{stages, pipeline}
use Rattle.sf_rewrite.specs.Laws.{Laws, unchanged, in_turn, in_stages, within_pipeline, associate_right, associate_left}
use Rattle.sf_rewrite.specs.Normal.{is_arr, is_stage, may_meet, IsPlan, plan_pipeline, IsRest, last_stage}
use Rattle.sf_rewrite.specs.Normal
use Rattle.sf_optimise.specs.Lists.{AreStages, no_stages, one_stage, more_stages}

-- stages as a whole pipeline, or as the rest of one
abbrev row : Extent → List Term → Term
row x [] = identity_term
row x (t ∷ ts) = stages x t ts

as_pipeline : (ts : List Term) → row whole ts ≡ pipeline ts
as_pipeline [] = refl
as_pipeline (t ∷ ts) = refl

-- the rest of a pipeline after one of its first stages
opened : (t : Term) (ts : List Term) → Laws (stages whole t ts) (stages rest t ts)
opened t [] = unchanged
opened t (u ∷ us) = within_pipeline

-- stages before others
appended : (x : Extent) (a : Term) (ss : List Term) (b : Term) (bs : List Term) → Laws (staged x (stages rest a ss) (stages rest b bs)) (stages x a (ss ++ b ∷ bs))
appended x a [] b bs = unchanged
appended x a (c ∷ cs) b bs = in_turn associate_right (in_stages unchanged (appended rest c cs b bs))

pub put_before : (a : Term) (ss : List Term) (b : Term) (bs : List Term) → Laws (staged whole (stages whole a ss) (stages whole b bs)) (stages whole a (ss ++ b ∷ bs))
put_before a ss b bs = in_turn (in_stages (opened a ss) (opened b bs)) (appended whole a ss b bs)

-- two neighbours become one
replaced : (x : Extent) (before : List Term) (a b c : Term) (after : List Term) → ((y : Extent) → Laws (staged y a b) c) → Laws (row x (before ++ a ∷ b ∷ after)) (row x (before ++ c ∷ after))
replaced x [] a b c [] h = h x
replaced x [] a b c (d ∷ ds) h = in_turn associate_left (in_stages (h rest) unchanged)
replaced x (p ∷ []) a b c after h = in_stages unchanged (replaced rest [] a b c after h)
replaced x (p ∷ q ∷ qs) a b c after h = in_stages unchanged (replaced rest (q ∷ qs) a b c after h)

pub become_one : (before : List Term) (a b c : Term) (after : List Term) → ((y : Extent) → Laws (staged y a b) c) → Laws (pipeline (before ++ a ∷ b ∷ after)) (pipeline (before ++ c ∷ after))
become_one before a b c after h =
    subst (λ t. Laws t (pipeline (before ++ c ∷ after))) (as_pipeline (before ++ a ∷ b ∷ after)) (subst (λ t. Laws (row whole (before ++ a ∷ b ∷ after)) t) (as_pipeline (before ++ c ∷ after)) (replaced whole before a b c after h))

-- ## Stages in which no law about pipelines is left

-- the rest of a pipeline
rest_of : (t u : Term) (us : List Term) → IsTrue (may_meet (is_arr t) (is_arr u)) → AreStages (u ∷ us) → IsRest t (stages rest u us)
rest_of t u [] m (one_stage P S) = last_stage P S m
rest_of t u (v ∷ vs) m (more_stages P S n A) = Normal.more_stages P S m (rest_of u v vs n A)

pub normal_row : (t : Term) (ts : List Term) → AreStages (t ∷ ts) → IsPlan (stages whole t ts)
normal_row t [] (one_stage P S) = P
normal_row t (u ∷ us) (more_stages P S m A) = plan_pipeline P S (rest_of t u us m A)

-- the stages before the last ones
pub first_stages : (ts us : List Term) → AreStages (ts ++ us) → AreStages ts
first_stages [] us A = no_stages
first_stages (t ∷ []) [] (one_stage P S) = one_stage P S
first_stages (t ∷ []) (u ∷ us) (more_stages P S m A) = one_stage P S
first_stages (t ∷ v ∷ vs) us (more_stages P S m A) = more_stages P S m (first_stages (v ∷ vs) us A)

-- a stage behind others whose last one it may meet
pub stages_meet : (ts : List Term) (a t : Term) (rs : List Term) → AreStages (ts ++ a ∷ []) → IsTrue (may_meet (is_arr a) (is_arr t)) → AreStages (t ∷ rs) → AreStages ((ts ++ a ∷ []) ++ t ∷ rs)
stages_meet [] a t rs (one_stage P S) m A = more_stages P S m A
stages_meet (b ∷ []) a t rs (more_stages P S n B) m A = more_stages P S n (stages_meet [] a t rs B m A)
stages_meet (b ∷ c ∷ cs) a t rs (more_stages P S n B) m A = more_stages P S n (stages_meet (c ∷ cs) a t rs B m A)

-- another first stage, which is `arr` where the first was
pub another_first : (t u : Term) (rs : List Term) → IsPlan u → IsTrue (is_stage u) → is_arr u ≡ is_arr t → AreStages (t ∷ rs) → AreStages (u ∷ rs)
another_first t u [] P S e A = one_stage P S
another_first t u (r ∷ rs) P S e (more_stages Q T m A) = more_stages P S (subst (λ b. IsTrue (may_meet b (is_arr r))) (sym e) m) A
