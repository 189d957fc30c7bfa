-- Reading a network stops at a token whatever stands behind it.
use Rattle.std.proofs.Common.{◌≡◌, ℕ, suc, ◌≤◌, List, [], ◌∷◌, ◌++◌, length, refl, sym, ◌∙◌, ap, subst, append_assoc, arith}
use Rattle.sf_lex.specs.Tokens.{Tok}
use Rattle.sf_refusal.specs.declared.rule.Rule.TheVariants.{Unexpected}
use Rattle.sf_term.specs.Trees.{Templates}
use Rattle.sf_grammar.specs.declared.ty.Version.{Version}
use Rattle.sf_grammar.specs.Spelling.{spell, spell_templates, IsWithinLimits}
use Rattle.sf_grammar.specs.Reading.{Read, stop, Counts, parse_opening, parse_template}
use Rattle.sf_grammar.specs.Stopping.{Stopped, template_counts, StopsBehind, NetworkStops, in_opening, in_template}
use Rattle.sf_grammar.proofs.Unique.{stops_none}
use Rattle.sf_place.specs.Places.{IsRefusedToken}
use Rattle.sf_place.proofs.Onward.{edge, Common, front, Past, got_past, stop_past, other_past, Local, StopsToo, stops_too, common_at}
use Rattle.sf_place.proofs.Local.{opening_local, template_local}

-- two ways to split tokens, the second no earlier than the first
record Splits (xs before after ys : List Tok) : Type 0 where
  pub between : List Tok
  pub first : before ≡ xs ++ between
  pub second : ys ≡ between ++ after

splits : (xs ys before after : List Tok) → xs ++ ys ≡ before ++ after → length after ≤ length ys → Splits xs before after ys
splits [] ys before after same short = record { between = before; first = refl; second = same }
splits (x ∷ xs) ys [] after same short = absurd (omega (arith, ap length same, long xs ys))
  where
    long : (xs ys : List Tok) → length ys ≤ length (xs ++ ys)
    long [] ys = omega arith
    long (x ∷ xs) ys = omega (arith, long xs ys)
splits (x ∷ xs) ys (b ∷ before) after same short =
    let head : x ≡ b = cc in
    let tail : xs ++ ys ≡ before ++ after = cc in
    let s : Splits xs before after ys = splits xs ys before after tail short in
    record { between = s.between; first = ap (λ y. y ∷ before) (sym head) ∙ ap (λ ys. x ∷ ys) s.first; second = s.second }

-- a front that has a token behind it is not empty
common_front : (before rest other : List Tok) (t : Tok) → Common rest other (before ++ (t ∷ rest)) (before ++ (t ∷ other))
common_front [] rest other t = front t edge
common_front (s ∷ before) rest other t = front s (common_at before rest other t)

-- a reader that stops at a token stops there whatever stands behind it
stopped_on : {A : Type 0} (f : List Tok → Read A) → Local f f → (before rest other : List Tok) (t : Tok) → Stopped Unexpected (suc (length rest)) (f (before ++ (t ∷ rest))) → Stopped Unexpected (suc (length other)) (f (before ++ (t ∷ other)))
stopped_on f l before rest other t stopped =
    let too : StopsToo other (f (before ++ (t ∷ other))) =
    stops_too stopped.at (l.near rest other (before ++ (t ∷ rest)) (before ++ (t ∷ other)) (common_front before rest other t)) stopped.is (sym stopped.counted) in
    record { at = too.at; is = too.is; counted = sym too.counted }

-- a reader stops no later than its tokens end
pub stop_short : {A : Type 0} {n : ℕ} {r : Read A} (at : List Tok) → Past n r → r ≡ stop Unexpected at → length at ≤ n
stop_short at (got_past a b short) is = cc
stop_short at (stop_past fault b short) is = let same : b ≡ at = cc in omega (arith, short, ap length same)
stop_short at (other_past fault b different) is = absurd (different cc)

template_on : (v : Version) (before rest other tokens : List Tok) (t : Tok) (s : StopsBehind v tokens Unexpected (suc (length rest))) → Splits (spell v [] ++ spell_templates v s.read) before (t ∷ rest) s.rest
    → NetworkStops (before ++ (t ∷ other)) Unexpected (suc (length other))
template_on v before rest other tokens t s split =
    let c : Counts = template_counts s.read in
    let here : Stopped Unexpected (suc (length rest)) (parse_template v c (split.between ++ (t ∷ rest))) = subst (λ (r : List Tok). Stopped Unexpected (suc (length rest)) (parse_template v c r)) split.second s.stopped in
    let there : Stopped Unexpected (suc (length other)) (parse_template v c (split.between ++ (t ∷ other))) = stopped_on (parse_template v c) (template_local v c) split.between rest other t here in
    let behind : List Tok = split.between ++ (t ∷ other) in
    let spelled : before ++ (t ∷ other) ≡ spell v [] ++ (spell_templates v s.read ++ behind) =
    ap (λ b. b ++ (t ∷ other)) split.first ∙ append_assoc (spell v [] ++ spell_templates v s.read) split.between (t ∷ other) ∙ append_assoc (spell v []) (spell_templates v s.read) behind in
    in_template v spelled (record { read = s.read; rest = behind; spelled = refl; limited = s.limited; more = some split.between; stopped = there })
  where
    some : (between : List Tok) → between ++ (t ∷ other) ≡ [] → ⊥
    some [] is = cc
    some (b ∷ between) is = cc

stops_on : (before rest other tokens : List Tok) (t : Tok) (left : ℕ) → tokens ≡ before ++ (t ∷ rest) → left ≡ suc (length rest) → NetworkStops tokens Unexpected left → NetworkStops (before ++ (t ∷ other)) Unexpected (suc (length other))
stops_on before rest other tokens t left is count (in_opening stopped) =
    let here : Stopped Unexpected (suc (length rest)) (parse_opening (before ++ (t ∷ rest))) =
    subst (λ (r : List Tok). Stopped Unexpected (suc (length rest)) (parse_opening r)) is (subst (λ (n : ℕ). Stopped Unexpected n (parse_opening tokens)) count stopped) in
    in_opening (stopped_on parse_opening opening_local before rest other t here)
stops_on before rest other tokens t left is count (in_template {rest = behind} v opened stops) =
    let s : StopsBehind v behind Unexpected (suc (length rest)) = subst (λ (n : ℕ). StopsBehind v behind Unexpected n) count stops in
    let short : length s.stopped.at ≤ length s.rest = stop_short s.stopped.at ((template_local v (template_counts s.read)).gone (length s.rest) s.rest (omega arith)) s.stopped.is in
    let same : (spell v [] ++ spell_templates v s.read) ++ s.rest ≡ before ++ (t ∷ rest) =
    append_assoc (spell v []) (spell_templates v s.read) s.rest ∙ sym (ap (λ r. spell v [] ++ r) s.spelled) ∙ sym opened ∙ is in
    template_on v before rest other behind t s (splits (spell v [] ++ spell_templates v s.read) s.rest before (t ∷ rest) same (omega (arith, short, s.stopped.counted)))

pub stays : (before rest : List Tok) (t : Tok) → IsRefusedToken before (t ∷ rest) → (other : List Tok) → IsRefusedToken before (t ∷ other)
stays before rest t stops other = stops_on before rest other (before ++ (t ∷ rest)) t (suc (length rest)) refl refl stops

pub no_network : (before rest : List Tok) (t : Tok) → IsRefusedToken before (t ∷ rest) → (other : List Tok) (v : Version) (p : Templates) → IsWithinLimits v p → before ++ (t ∷ other) ≡ spell v p → ⊥
no_network before rest t stops other v p limits spelled = stops_none (before ++ (t ∷ other)) Unexpected (suc (length other)) (stays before rest t stops other) v p limits spelled
