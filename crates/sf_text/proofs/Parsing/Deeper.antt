-- Reading with some depth left, and with none.
use Rattle.std.proofs.Common.{◌≡◌, ℕ, zero, suc, ◌-◌, ◌<◌, List, refl, ap, arith}
use Rattle.sf_lex.specs.Tokens.{Tok}
use Rattle.sf_grammar.specs.declared.ty.Version.{Version}
use Rattle.sf_grammar.specs.Reading.{Counts, too_deep, begins_type, begins_pattern, begins_expression, parse_type_form, parse_inner_type, parse_pattern_form, parse_pattern, parse_expression_form, parse_expression}

pub inner_type_at_zero : (v : Version) (start : List Tok) (met : ℕ) (tokens : List Tok) → parse_inner_type 0 v start met tokens ≡ too_deep begins_type tokens
unfolding parse_inner_type
inner_type_at_zero v start met tokens = refl

pub inner_type_at_more : (left : ℕ) (v : Version) (start : List Tok) (met : ℕ) (tokens : List Tok) → 0 < left → parse_inner_type left v start met tokens ≡ parse_type_form (parse_inner_type (left - 1) v start) v start met tokens
unfolding parse_inner_type
inner_type_at_more zero v start met tokens h = absurd (omega arith)
inner_type_at_more (suc d) v start met tokens h = ap (λ n. parse_type_form (parse_inner_type n v start) v start met tokens) (omega arith)

pub pattern_at_zero : (tokens : List Tok) → parse_pattern 0 tokens ≡ too_deep begins_pattern tokens
unfolding parse_pattern
pattern_at_zero tokens = refl

pub pattern_at_more : (left : ℕ) (tokens : List Tok) → 0 < left → parse_pattern left tokens ≡ parse_pattern_form (parse_pattern (left - 1)) tokens
unfolding parse_pattern
pattern_at_more zero tokens h = absurd (omega arith)
pattern_at_more (suc d) tokens h = ap (λ n. parse_pattern_form (parse_pattern n) tokens) (omega arith)

pub expression_at_zero : (v : Version) (c : Counts) (tokens : List Tok) → parse_expression 0 v c tokens ≡ too_deep begins_expression tokens
unfolding parse_expression
expression_at_zero v c tokens = refl

pub expression_at_more : (left : ℕ) (v : Version) (c : Counts) (tokens : List Tok) → 0 < left → parse_expression left v c tokens ≡ parse_expression_form (left - 1) v (parse_expression (left - 1) v) c tokens
unfolding parse_expression
expression_at_more zero v c tokens h = absurd (omega arith)
expression_at_more (suc d) v c tokens h = ap (λ n. parse_expression_form n v (parse_expression n v) c tokens) (omega arith)
