-- Processes that are alike give the same, at the same cost.
use Rattle.std.proofs.Common.{◌≢◌, inl, inr, List, [], ◌∷◌, refl, sym, ap, ◌∙◌, subst, Option, Some, None, option_map}
use Rattle.sf_value.specs.Values.{Name, Data, second_of}
use Rattle.sf_func.specs.Registries.{AnswersByName}
use Rattle.sf_expr.specs.Expressions.{Pattern, Expression}
use Rattle.sf_expr.specs.Evaluation.{Evaluated, eval}
use Rattle.sf_term.specs.declared.form.Heading.TheVariants.{Followed}
use Rattle.sf_term.specs.declared.form.Observation.{Observation}
use Rattle.sf_term.specs.Trees.{Term, headed, Collection}
use Rattle.sf_mean.specs.Lives.{Step, wait_of, input_of, Life, Process, closure, Environment, Members, scope_around, first_input}
use Rattle.sf_mean.specs.Formulas.{occurring}
use Rattle.sf_mean.specs.Meaning.{Network, Outcome, as_outcome, answered_by, newest_or, recorded, Cost, over, last_event, Made, Watched, itself, observed, observed_members, Takeover, Standing, waits, fired, stands_after, body_of, continuing_body, body_with_members, event_beside, Edit, edit_of, since_edit, edited, which_run, unless_faulted, what_runs, Gives, gives, Outputs, not_begun, and_gave, Sample, of_constants, of_form, of_resumed, Form, of_primitive, of_reference, of_join, of_side, of_loop, of_initialized, of_replaced, of_followed, of_transformed, of_switch, of_continuing, of_recurring, of_gathered, of_releasing, of_editing, of_stages, Next, goes_on, stops, Loops, no_loop, and_looped, Sees, beside_values, by_observer, by_members_observer, Since, at_start, watched, had_fired, SwitchTurn, while_waiting, as_body, Switched, after_fault, after_value, Fires, no_event_yet, event_now, Tables, no_tables, and_table, Each, no_more, one_more, Others, others_go_on, others_stop, Edited, no_edit, edit_failed, edit_now}
use Rattle.sf_coincidence.specs.Mentions.{BindsOthers, ExpressionMentions, Mentions, CollectionMentions}
use Rattle.sf_coincidence.specs.Alike.{Alike, of_closures, of_frozen, AlikeMembers, none_alike, member_alike}
use Rattle.sf_coincidence.proofs.Worth.{differs, same_worth, same_formula}
use Rattle.sf_coincidence.proofs.Same.{AlikeFor, scopes_agree, at_running, at_collected, at_bound, alike_frozen, each_alike_frozen}
use Rattle.sf_coincidence.proofs.Opening.{Likewise, both_answer, both_fail, then_likewise, collect_alike, AlikeMade, same_value, alike_made, alike_members, made_alike, like_answer, like_fault}

-- ## Switches

-- what a switch watches
data AlikeWatched : Watched → Watched → Type 0 where
  alike_itself : {P Q : Process} → Alike P Q → AlikeWatched (itself P) (itself Q)
  alike_observed : {P Q : Process} {t : Term} {e d : Environment} → Alike P Q → AlikeFor (Mentions t) e d → AlikeWatched (observed P t e) (observed Q t d)
  alike_observed_members : {ms qs : Members} {t : Term} {e d : Environment} → AlikeMembers ms qs → AlikeFor (Mentions t) e d → AlikeWatched (observed_members ms t e) (observed_members qs t d)

-- what bodies begin as, by their payloads
abbrev AlikeBodies : (B C : Data → Process) → Type 0
AlikeBodies B C = (v : Data) → Alike (B v) (C v)

abbrev AlikeTakeover : Takeover → Takeover → Type 0
AlikeTakeover B C = (s : Step) (L : Life) → AlikeBodies (B s L) (C s L)

data AlikeStanding : Standing → Standing → Type 0 where
  alike_waits : AlikeStanding waits waits
  alike_fired : {P Q : Process} {M : Life} → Alike P Q → AlikeStanding (fired P M) (fired Q M)

alike_after : (B C : Takeover) → AlikeTakeover B C → (s : Step) (L : Life) (o : Option Data) → AlikeStanding (stands_after B s L o) (stands_after C s L o)
alike_after B C T s L None = alike_waits
alike_after B C T s L (Some v) = alike_fired (T s L v)

alike_bodies : {e d : Environment} (p : Pattern) (u : Term) → AlikeFor (λ x. Mentions u x × BindsOthers p x) e d → AlikeBodies (body_of p u e) (body_of p u d)
alike_bodies p u E v = of_closures (λ x h. at_bound p v (λ o. E x (h, o)))

alike_kept : {P Q : Process} {e d : Environment} (k : Name) (p : Pattern) (u : Term) → Alike P Q → AlikeFor (λ x. Mentions u x × BindsOthers p x × k ≢ x) e d → AlikeTakeover (continuing_body k P p u e) (continuing_body k Q p u d)
alike_kept k p u A E s L v = of_closures (λ x h. at_bound p v (λ o. at_running k (alike_frozen L (wait_of s) A) (λ l. E x (h, o, differs x k l))))

alike_members_kept : {ms qs : Members} {e d : Environment} (k : Name) (p : Pattern) (u : Term) → AlikeMembers ms qs → AlikeFor (λ x. Mentions u x × BindsOthers p x × k ≢ x) e d → AlikeTakeover (body_with_members k ms p u e) (body_with_members k qs p u d)
alike_members_kept k p u M E s L v = of_closures (λ x h. at_bound p v (λ o. at_collected k (each_alike_frozen L (wait_of s) M) (λ l. E x (h, o, differs x k l))))

alike_runs : {P Q : Process} {B C : Data → Process} → Alike P Q → AlikeBodies B C → (o : Option Data) → Alike (what_runs P B o) (what_runs Q C o)
alike_runs A T None = A
alike_runs A T (Some v) = T v

-- ## Edits

-- edits make what is alike of what is alike
abbrev AlikeEdit : Edit → Edit → Type 0
AlikeEdit E F = (L : Life) (s : Step) (ms qs : Members) (v : Data) → AlikeMembers ms qs → Likewise AlikeMembers (E L s ms v) (F L s qs v)

edit_alike : (φ : AnswersByName) {e d : Environment} (k : Name) (p : Pattern) (i : Collection) → AlikeFor (λ x. CollectionMentions i x × BindsOthers p x × k ≢ x) e d → AlikeEdit (edit_of φ k p i e) (edit_of φ k p i d)
edit_alike φ k p i E L s ms qs v M = collect_alike φ i (λ x h. at_bound p v (λ o. at_collected k (each_alike_frozen L (wait_of s) M) (λ l. E x (h, o, differs x k l))))

edited_alike : {ms qs : Members} (f g : Data → Evaluated Members) → ((v : Data) → Likewise AlikeMembers (f v) (g v)) → AlikeMembers ms qs → (o : Option Data) → Likewise AlikeMembers (edited f ms o) (edited g qs o)
edited_alike f g h M None = both_answer M
edited_alike f g h M (Some v) = h v

which_alike : {ms qs : Members} (E F : Edit) → AlikeEdit E F → AlikeMembers ms qs → (L : Life) → Likewise AlikeMembers (which_run E ms L) (which_run F qs L)
which_alike E F T M [] = both_answer M
which_alike E F T M (s ∷ L) =
    then_likewise (λ rs. edited (E (since_edit L) s rs) rs (event_beside s)) (λ rs. edited (F (since_edit L) s rs) rs (event_beside s))
    (λ rs ts N. edited_alike (E (since_edit L) s rs) (F (since_edit L) s ts) (λ v. T (since_edit L) s rs ts v N) N (event_beside s))
    (which_alike E F T M L)

-- an edit at a step, if there is one
data AlikeEdited : (a b : Option (Evaluated Members)) → Type 0 where
  unedited : AlikeEdited None None
  edited_likewise : {a b : Evaluated Members} → Likewise AlikeMembers a b → AlikeEdited (Some a) (Some b)

edits_alike : (f g : Data → Evaluated Members) → ((v : Data) → Likewise AlikeMembers (f v) (g v)) → (o : Option Data) → AlikeEdited (option_map f o) (option_map g o)
edits_alike f g h None = unedited
edits_alike f g h (Some v) = edited_likewise (h v)

module _ (n : Network) where
  -- a switch that stood so, in the other environment
  stood : {W : Watched} {B : Takeover} {L : Life} {st : Standing} → AlikeStanding waits st → Since n W B L st → Since n W B L waits
  stood alike_waits S = S

  stood_later : {W : Watched} {B : Takeover} (s : Step) {L M : Life} {P : Process} {st : Standing} → AlikeStanding (fired P M) st → Since n W B L st
      → (st' : Standing) × AlikeStanding (fired P (s ∷ M)) st' × Since n W B (s ∷ L) st'
  stood_later s (alike_fired A) S = (_, alike_fired A, had_fired S)

  -- `fby` has the outcome of its part, with a constant that is worth the same in the other environment
  followed_alike : {i : Expression} {t : Term} {e d : Environment} {m : Made} {s : Step} {L : Life} {ys : List Data} {o : Outcome} {c : Cost} → AlikeFor (ExpressionMentions i) e d
      → Outputs n (closure t d) L ys → Gives n (closure t d) (s ∷ L) o c → Form n (headed Followed i t) d m s L (answered_by (newest_or (eval i (scope_around n.functions e)) ys) o) (over c)
  followed_alike {i = i} {t = t} {e = e} {d = d} {m = m} {s = s} {L = L} {ys = ys} {o = o} {c = c} E O G =
      let N : Evaluated Data → Type 0 = λ w. Form n (headed Followed i t) d m s L (answered_by (newest_or w ys) o) (over c) in
      subst N (sym (same_worth i (scope_around n.functions e) (scope_around n.functions d) (scopes_agree n.functions E))) (of_followed O G)

  mutual
    pub same : {P Q : Process} {L : Life} {o : Outcome} {c : Cost} → Alike P Q → Gives n P L o c → Gives n Q L o c
    same A (gives O S) = gives (same_outputs A O) (same_sample A S)

    same_outputs : {P Q : Process} {L : Life} {ys : List Data} → Alike P Q → Outputs n P L ys → Outputs n Q L ys
    same_outputs A not_begun = not_begun
    same_outputs A (and_gave O S) = and_gave (same_outputs A O) (same_sample A S)

    same_sample : {P Q : Process} {s : Step} {L : Life} {o : Outcome} {c : Cost} → Alike P Q → Sample n P s L o c → Sample n Q s L o c
    same_sample (of_closures {t = t} E) (of_constants {s = s} h) = of_constants (like_fault h (made_alike n t (input_of s) E))
    same_sample (of_closures {t = t} E) (of_form {s = s} {L = L} h F) = let m = like_answer h (made_alike n t (first_input s L) E) in of_form m.2 (same_form E m.1 F)
    same_sample (of_frozen A) (of_resumed G) = of_resumed (same A G)

    same_form : {t : Term} {e d : Environment} {m m' : Made} {s : Step} {L : Life} {o : Outcome} {c : Cost} → AlikeFor (Mentions t) e d → AlikeMade m m' → Form n t e m s L o c → Form n t d m' s L o c
    same_form {d = d} E M (of_primitive {p = p} {e = e} {s = s} {L = L} h) =
        of_primitive (ap (λ a. as_outcome a (recorded p s)) (sym (same_formula p (scope_around n.functions e) (scope_around n.functions d) (scopes_agree n.functions E) s L)) ∙ h)
    same_form E (alike_made A) (of_reference G) = of_reference (same A G)
    same_form E M (of_join O G N) = of_join (same_outputs (of_closures (λ x h. E x (inl h))) O) (same (of_closures (λ x h. E x (inl h))) G) (same_next (λ x h. E x (inr h)) N)
    same_form E M (of_side G) = of_side (same (of_closures E) G)
    same_form E same_value (of_loop R G) = of_loop (same_loops (of_closures (λ x h. E x (inr h))) R) (same (of_closures (λ x h. E x (inr h))) G)
    same_form E same_value (of_initialized G) = of_initialized (same (of_closures (λ x h. E x (inr h))) G)
    same_form E same_value (of_replaced G) = of_replaced (same (of_closures (λ x h. E x (inr h))) G)
    same_form E M (of_followed O G) = followed_alike (λ x h. E x (inl h)) (same_outputs (of_closures (λ x h. E x (inr h))) O) (same (of_closures (λ x h. E x (inr h))) G)
    same_form E same_value (of_transformed G) = of_transformed (same (of_closures (λ x h. E x (inr h))) G)
    same_form E M (of_switch {u = u} {p = p} S T) =
        let W = alike_itself (of_closures (λ x h. E x (inl h))) in
        let B = λ (s : Step) (L : Life). alike_bodies p u (λ x h. E x (inr h)) in
        let r = same_since W B S in
        of_switch r.2 (same_turn W B r.1 T)
    same_form E M (of_recurring {u = u} {p = p} {L = L} G F) =
        let B = alike_bodies p u (λ x h. E x (inr h)) in
        of_recurring (same (alike_runs (of_closures (λ x h. E x (inl h))) B (last_event L)) G) (same_fires B F)
    same_form E M (of_continuing {u = u} {k = k} {p = p} S T) =
        let A = of_closures (λ x h. E x (inl h)) in
        let W = alike_observed A (λ x h. E x (inr (inl h))) in
        let B = alike_kept k p u A (λ x h. E x (inr (inr h))) in
        let r = same_since W B S in
        of_continuing r.2 (same_turn W B r.1 T)
    same_form E (alike_members M) (of_gathered G) = of_gathered (same_each M G)
    same_form E (alike_members M) (of_releasing {u = u} {k = k} {p = p} S T) =
        let W = alike_observed_members M (λ x h. E x (inr (inl h))) in
        let B = alike_members_kept k p u M (λ x h. E x (inr (inr h))) in
        let r = same_since W B S in
        of_releasing r.2 (same_turn W B r.1 T)
    same_form {e = e} {d = d} E (alike_members M) (of_editing {u = u} {k = k} {p = p} {qs = qs} {s = s} {L = L} {o = o} h G F) =
        let E' = edit_of n.functions k p u e in
        let D = edit_of n.functions k p u d in
        let T = edit_alike n.functions k p u (λ x h. E x (inr h)) in
        let r = like_answer h (which_alike E' D T M L) in
        of_editing r.2 (same_each r.1 G) (same_edited (edits_alike (E' (since_edit L) s qs) (D (since_edit L) s r.0) (λ v. T (since_edit L) s qs r.0 v r.1) (unless_faulted o (event_beside s))) F)
    same_form E M (of_stages O G N) = of_stages (same_outputs (of_closures (λ x h. E x (inl h))) O) (same (of_closures (λ x h. E x (inl h))) G) (same_next (λ x h. E x (inr h)) N)

    same_next : {t : Term} {e d : Environment} {p : Outcome} {L : Life} {o : Outcome} {c : Cost} → AlikeFor (Mentions t) e d → Next n p t e L o c → Next n p t d L o c
    same_next E (goes_on G) = goes_on (same (of_closures E) G)
    same_next E stops = stops

    same_loops : {P Q : Process} {v : Data} {L : Life} {zs : List Data} → Alike P Q → Loops n v P L zs → Loops n v Q L zs
    same_loops A no_loop = no_loop
    same_loops A (and_looped R G) = and_looped (same_loops A R) (same A G)

    same_sees : {W W' : Watched} {s : Step} {L : Life} {o : Outcome} {c : Cost} → AlikeWatched W W' → Sees n W s L o c → Sees n W' s L o c
    same_sees (alike_itself A) (beside_values G) = beside_values (same A G)
    same_sees (alike_observed A E) (by_observer O G N) = by_observer (same_outputs A O) (same A G) (same_next E N)
    same_sees (alike_observed_members M E) (by_members_observer T G N) = by_members_observer (same_tables M T) (same_each M G) (same_next E N)

    same_since : {W W' : Watched} {B C : Takeover} {L : Life} {st : Standing} → AlikeWatched W W' → AlikeTakeover B C → Since n W B L st → (st' : Standing) × AlikeStanding st st' × Since n W' C L st'
    same_since V T at_start = (waits, alike_waits, at_start)
    same_since {B = B} {C = C} V T (watched {s = s} {L = L} {y = y} S G h) =
        let r = same_since V T S in
        let o = occurring (second_of y) in
        (stands_after C s L o, subst (λ st. AlikeStanding st (stands_after C s L o)) h (alike_after B C T s L o), watched (stood r.1 r.2) (same_sees V G) refl)
    same_since V T (had_fired {s = s} S) = let r = same_since V T S in stood_later s r.1 r.2

    same_turn : {w : Observation} {W W' : Watched} {B C : Takeover} {s : Step} {L : Life} {st st' : Standing} {o : Outcome} {c : Cost} → AlikeWatched W W' → AlikeTakeover B C → AlikeStanding st st'
        → SwitchTurn n w W B s L st o c → SwitchTurn n w W' C s L st' o c
    same_turn V T alike_waits (while_waiting {s = s} {L = L} G S) = while_waiting (same_sees V G) (same_switched (T s L) S)
    same_turn V T (alike_fired A) (as_body G) = as_body (same A G)

    same_switched : {w : Observation} {B C : Data → Process} {s : Step} {p o : Outcome} {c : Cost} → AlikeBodies B C → Switched n w B s p o c → Switched n w C s p o c
    same_switched T after_fault = after_fault
    same_switched T (after_value F) = after_value (same_fires T F)

    same_fires : {w : Observation} {B C : Data → Process} {s : Step} {p : Outcome} {q : Option Data} {o : Outcome} {c : Cost} → AlikeBodies B C → Fires n w B s p q o c → Fires n w C s p q o c
    same_fires T no_event_yet = no_event_yet
    same_fires T (event_now {v = v} G) = event_now (same (T v) G)

    same_tables : {ms qs : Members} {L : Life} {ys : List Data} → AlikeMembers ms qs → Tables n ms L ys → Tables n qs L ys
    same_tables M no_tables = no_tables
    same_tables M (and_table T G) = and_table (same_tables M T) (same_each M G)

    same_each : {ms qs : Members} {s : Step} {L : Life} {o : Outcome} {c : Cost} → AlikeMembers ms qs → Each n ms s L o c → Each n qs s L o c
    same_each none_alike no_more = no_more
    same_each (member_alike A M) (one_more G O) = one_more (same A G) (same_others M O)

    same_others : {ms qs : Members} {s : Step} {L : Life} {p o : Outcome} {c : Cost} → AlikeMembers ms qs → Others n p ms s L o c → Others n p qs s L o c
    same_others M (others_go_on G) = others_go_on (same_each M G)
    same_others M others_stop = others_stop

    same_edited : {w : Observation} {a b : Option (Evaluated Members)} {s : Step} {p o : Outcome} {c : Cost} → AlikeEdited a b → Edited n w a s p o c → Edited n w b s p o c
    same_edited unedited no_edit = no_edit
    same_edited (edited_likewise both_fail) edit_failed = edit_failed
    same_edited (edited_likewise (both_answer M)) (edit_now G) = edit_now (same_each M G)
