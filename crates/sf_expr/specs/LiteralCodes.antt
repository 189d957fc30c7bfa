-- How a literal is stored, by which a proof tells two literals apart.
use Rattle.std.specs.Prelude.{◌≡◌, ℕ, suc, zero, ℤ, pos, true, false, List, [], refl}
use Rattle.sf_value.specs.Values.{Kind, unit_kind}
use Rattle.sf_expr.specs.Expressions.{Literal, unit_literal, truth_literal, int_literal, text_literal, none_literal}

-- which literal it is, and what it is made of
abbrev pub LiteralCode : Type 0
LiteralCode = ℕ × (ℤ × (List ℕ × Kind))

abbrev pub literal_code : Literal → LiteralCode
literal_code unit_literal = (0, (pos 0, ([], unit_kind)))
literal_code (truth_literal false) = (1, (pos 0, ([], unit_kind)))
literal_code (truth_literal true) = (2, (pos 0, ([], unit_kind)))
literal_code (int_literal z) = (3, (z, ([], unit_kind)))
literal_code (text_literal s) = (4, (pos 0, (s, unit_kind)))
literal_code (none_literal t) = (5, (pos 0, ([], t)))

abbrev pub decoded_literal : LiteralCode → Literal
decoded_literal (zero, c) = unit_literal
decoded_literal (suc zero, c) = truth_literal false
decoded_literal (suc (suc zero), c) = truth_literal true
decoded_literal (suc (suc (suc zero)), (z, c)) = int_literal z
decoded_literal (suc (suc (suc (suc zero))), (z, (s, t))) = text_literal s
decoded_literal (suc (suc (suc (suc (suc n)))), (z, (s, t))) = none_literal t

pub decoded_literal-code : (l : Literal) → decoded_literal (literal_code l) ≡ l
decoded_literal-code unit_literal = refl
decoded_literal-code (truth_literal false) = refl
decoded_literal-code (truth_literal true) = refl
decoded_literal-code (int_literal z) = refl
decoded_literal-code (text_literal s) = refl
decoded_literal-code (none_literal t) = refl
