-- Reading terms and collections with some depth left, and with none.
use Rattle.std.proofs.Common.{◌≡◌, ℕ, zero, suc, ◌-◌, ◌<◌, List, refl, ap, arith}
use Rattle.sf_lex.specs.Tokens.{Tok}
use Rattle.sf_grammar.specs.declared.ty.Version.{Version}
use Rattle.sf_grammar.specs.Reading.{Counts, too_deep, begins_term, begins_collection, parse_form, parse_collection_form, parse_shallow, parse_term, parse_collection}

pub term_at_zero : (v : Version) (c : Counts) (tokens : List Tok) → parse_term 0 v c tokens ≡ too_deep begins_term tokens
unfolding parse_shallow
term_at_zero v c tokens = refl

pub term_at_more : (left : ℕ) (v : Version) (c : Counts) (tokens : List Tok) → 0 < left → parse_term left v c tokens ≡ parse_form (left - 1) v (parse_term (left - 1) v) (parse_collection (left - 1) v) c tokens
unfolding parse_shallow
term_at_more zero v c tokens h = absurd (omega arith)
term_at_more (suc d) v c tokens h = ap (λ n. parse_form n v (parse_term n v) (parse_collection n v) c tokens) (omega arith)

pub collection_at_zero : (v : Version) (c : Counts) (tokens : List Tok) → parse_collection 0 v c tokens ≡ too_deep begins_collection tokens
unfolding parse_shallow
collection_at_zero v c tokens = refl

pub collection_at_more : (left : ℕ) (v : Version) (c : Counts) (tokens : List Tok) → 0 < left → parse_collection left v c tokens ≡ parse_collection_form (left - 1) v (parse_term (left - 1) v) (parse_collection (left - 1) v) c tokens
unfolding parse_shallow
collection_at_more zero v c tokens h = absurd (omega arith)
collection_at_more (suc d) v c tokens h = ap (λ n. parse_collection_form n v (parse_term n v) (parse_collection n v) c tokens) (omega arith)
