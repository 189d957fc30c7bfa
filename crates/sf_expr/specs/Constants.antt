-- The literal that a `Constant` stands for.
use Rattle.std.specs.Prelude.{ℕ, Bool, true, false, List, []}
use Rattle.std.specs.Str.{is_utf8}
use Rattle.sf_value.specs.Values.{Data, text}
use Rattle.sf_expr.specs.Expressions.{Literal, text_literal, none_literal}
use Rattle.sf_expr.specs.declared.constant.ConstantForm.{ConstantForm}
use Rattle.sf_expr.specs.declared.constant.ConstantForm.TheVariants.{Text, NoEvent}

-- the bytes of a text
abbrev pub text_bytes : Data → List ℕ
text_bytes (text s) = s
text_bytes d = []

-- what a form means
abbrev pub constant_literal : ConstantForm → Literal
constant_literal (Text d) = text_literal (text_bytes d)
constant_literal (NoEvent t) = none_literal t

-- whether a value is a text in UTF-8
abbrev pub is_text_value : Data → Bool
is_text_value (text s) = is_utf8 s
is_text_value d = false

-- whether the value of a text is one
abbrev pub is_constant : ConstantForm → Bool
is_constant (Text d) = is_text_value d
is_constant (NoEvent t) = true
