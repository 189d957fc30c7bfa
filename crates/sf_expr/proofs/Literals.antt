-- Literals and their values.
use Rattle.std.proofs.Common.{◌≡◌, IsTrue, refl, string_bytes, subst, sym}
use Rattle.std.specs.Prelude.{String}
use Rattle.std.specs.Str.{is_utf8}
use Rattle.std.proofs.lemmas.Str.{IsUtf8-from_is_utf8, is_utf8-from_IsUtf8, IsUtf8-string_bytes}
use Rattle.sf_value.specs.Values.{Data, unit, truth, number, text, pair, no_event, event, table, HasKind, has_unit, has_bool, has_int, has_text, has_no_event}
use Rattle.sf_expr.specs.Expressions.{Literal, unit_literal, truth_literal, int_literal, text_literal, none_literal}
use Rattle.sf_expr.specs.Evaluation.{literal_value}
use Rattle.sf_expr.specs.Typing.{literal_kind}
use Rattle.sf_expr.specs.Inference.{is_valued}
use Rattle.sf_expr.specs.Constants.{text_bytes, constant_literal, is_text_value, is_constant}
use Rattle.sf_expr.specs.declared.constant.ConstantForm.{ConstantForm}
use Rattle.sf_expr.specs.declared.constant.ConstantForm.TheVariants.{Text, NoEvent}

-- the value of a literal has its type where there is one
pub valued_has : (l : Literal) → IsTrue (is_valued l) → HasKind (literal_value l) (literal_kind l)
valued_has unit_literal h = has_unit
valued_has (truth_literal b) h = has_bool
valued_has (int_literal z) h = has_int h
valued_has (text_literal s) h = has_text (IsUtf8-from_is_utf8 s h)
valued_has (none_literal t) h = has_no_event

pub has_valued : (l : Literal) → HasKind (literal_value l) (literal_kind l) → IsTrue (is_valued l)
has_valued unit_literal h = refl
has_valued (truth_literal b) h = refl
has_valued (int_literal z) (has_int h) = h
has_valued (text_literal s) (has_text h) = is_utf8-from_IsUtf8 s h
has_valued (none_literal t) h = refl

-- a text in UTF-8 is the text of its bytes
pub text_worth : (d : Data) → IsTrue (is_text_value d) → text (text_bytes d) ≡ d
text_worth (text s) h = refl
text_worth unit h = absurd cc
text_worth (truth b) h = absurd cc
text_worth (number z) h = absurd cc
text_worth (pair x y) h = absurd cc
text_worth no_event h = absurd cc
text_worth (event x) h = absurd cc
text_worth (table rs) h = absurd cc

text_valued : (d : Data) → IsTrue (is_text_value d) → IsTrue (is_utf8 (text_bytes d))
text_valued (text s) h = h
text_valued unit h = absurd cc
text_valued (truth b) h = absurd cc
text_valued (number z) h = absurd cc
text_valued (pair x y) h = absurd cc
text_valued no_event h = absurd cc
text_valued (event x) h = absurd cc
text_valued (table rs) h = absurd cc

pub constant_valued : (f : ConstantForm) → IsTrue (is_constant f) → IsTrue (is_valued (constant_literal f))
constant_valued (Text d) h = text_valued d h
constant_valued (NoEvent t) h = refl

pub text_constant : {Z : Type 0} (s : String Z) (d : Data) → d ≡ text (string_bytes s) → IsTrue (is_constant (Text d))
text_constant s d e = subst (λ (d : Data). IsTrue (is_text_value d)) (sym e) (is_utf8-from_IsUtf8 (string_bytes s) (IsUtf8-string_bytes s))
