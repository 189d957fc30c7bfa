-- Tokens appended one after another.
use Rattle.std.proofs.Common.{◌≡◌, Bool, true, false, ℕ, ℤ, List, [], ◌∷◌, ◌++◌, refl, sym, ap, ◌∙◌, append_assoc}
use Rattle.std.proofs.lemmas.List.{append-nil}
use Rattle.sf_lex.specs.declared.word.Keyword.{Keyword}
use Rattle.sf_lex.specs.Tokens.{Tok, keyword, name, number, text}
use Rattle.sf_print.specs.declared.draft.Last.{Last}
use Rattle.sf_print.specs.declared.draft.Last.TheVariants as lasts
use Rattle.sf_print.specs.Canonical.{has_own_brackets, token_bytes, closes, is_round, ends_line}
use Rattle.sf_value.specs.Values.{Data, unit, truth, pair, no_event, event, table}
use Rattle.sf_value.specs.Values
use Rattle.sf_expr.specs.Constants.{text_bytes}
use Rattle.sf_spelling.specs.Spelling.{spelling, quoted}
use Rattle.sf_print.specs.Drafts.{is_text, Front, as_last, is_apart, is_spaced, space, line_end, append_token, append_tokens}

pub tokens_apart : (d : Front) (xs ys : List Tok) → append_tokens d (xs ++ ys) ≡ append_tokens (append_tokens d xs) ys
tokens_apart d [] ys = refl
tokens_apart d (x ∷ xs) ys = tokens_apart (append_token d x) xs ys

-- what a token is but a symbol that has a rule of its own
pub record IsPlain (t : Tok) : Type 0 where
  pub closes_none : closes t ≡ false
  pub opens_none : is_round t ≡ false
  pub ends_none : ends_line t ≡ false

apart : (l : Last) (t : Tok) → IsPlain t → is_spaced l t ≡ is_apart l
apart lasts.Opening t p = refl
apart lasts.Head t p = rw (p.closes_none, p.opens_none) refl
apart lasts.Other t p = rw p.closes_none refl

-- a token is appended as its bytes behind a space or none
pub put_plain : (d new : Front) (t : Tok) (spaced : Bool) (bytes : List ℕ) (last : Last) → IsPlain t → spaced ≡ is_apart d.last → bytes ≡ token_bytes t → last ≡ as_last t
    → new ≡ record { bytes = d.bytes ++ (space spaced ++ bytes); last = last } → new ≡ append_token d t
unfolding append_token
put_plain d new t spaced bytes last p a b c e =
    let word : token_bytes t ++ line_end (ends_line t) ≡ bytes = ap (λ x. token_bytes t ++ line_end x) p.ends_none ∙ append-nil (token_bytes t) ∙ sym b in
    let gap : space (is_spaced d.last t) ≡ space spaced = ap space (apart d.last t p ∙ sym a) in
    e ∙ ap (λ l. record { bytes = d.bytes ++ (space spaced ++ bytes); last = l }) c
    ∙ ap (λ w. record { bytes = d.bytes ++ (space spaced ++ w); last = as_last t }) (sym word)
    ∙ ap (λ g. record { bytes = d.bytes ++ (g ++ (token_bytes t ++ line_end (ends_line t))); last = as_last t }) (sym gap)

-- the same where the bytes are appended behind the space
pub put_behind : (d middle new : Front) (t : Tok) (spaced : Bool) (bytes : List ℕ) (last : Last) → IsPlain t → spaced ≡ is_apart d.last → bytes ≡ token_bytes t → last ≡ as_last t
    → middle ≡ record { bytes = d.bytes ++ (space spaced ++ []); last = last } → new ≡ record { bytes = middle.bytes ++ bytes; last = middle.last } → new ≡ append_token d t
put_behind d middle new t spaced bytes last p a b c e f =
    put_plain d new t spaced bytes last p a b c
    (f ∙ ap (λ (m : Front). record { bytes = m.bytes ++ bytes; last = m.last }) e
    ∙ ap (λ bs. record { bytes = bs; last = last }) (append_assoc d.bytes (space spaced ++ []) bytes ∙ ap (λ bs. d.bytes ++ (bs ++ bytes)) (append-nil (space spaced))))

-- a symbol is appended as its bytes behind a space or none, and before a line feed or none
pub put_symbol : (d new : Front) (t : Tok) (spaced ends : Bool) (bytes : List ℕ) (last : Last) → spaced ≡ is_spaced d.last t → ends ≡ ends_line t → bytes ≡ token_bytes t → last ≡ as_last t
    → new ≡ record { bytes = (d.bytes ++ (space spaced ++ bytes)) ++ line_end ends; last = last } → new ≡ append_token d t
unfolding append_token
put_symbol d new t spaced ends bytes last a b c e f =
    f ∙ ap (λ l. record { bytes = (d.bytes ++ (space spaced ++ bytes)) ++ line_end ends; last = l }) e
    ∙ ap (λ s. record { bytes = (d.bytes ++ (space s ++ bytes)) ++ line_end ends; last = as_last t }) a
    ∙ ap (λ s. record { bytes = (d.bytes ++ (space (is_spaced d.last t) ++ bytes)) ++ line_end s; last = as_last t }) b
    ∙ ap (λ s. record { bytes = (d.bytes ++ (space (is_spaced d.last t) ++ s)) ++ line_end (ends_line t); last = as_last t }) c
    ∙ ap (λ bs. record { bytes = bs; last = as_last t }) (append_assoc d.bytes (space (is_spaced d.last t) ++ token_bytes t) (line_end (ends_line t)) ∙ ap (λ bs. d.bytes ++ bs) (append_assoc (space (is_spaced d.last t)) (token_bytes t) (line_end (ends_line t))))

pub keyword_plain : (k : Keyword) → IsPlain (keyword k)
keyword_plain k = record { closes_none = refl; opens_none = refl; ends_none = refl }

pub name_plain : (n : List ℕ) → IsPlain (name n)
name_plain n = record { closes_none = refl; opens_none = refl; ends_none = refl }

pub number_plain : (z : ℤ) → IsPlain (number z)
number_plain z = record { closes_none = refl; opens_none = refl; ends_none = refl }

pub text_plain : (s : List ℕ) → IsPlain (text s)
text_plain s = record { closes_none = refl; opens_none = refl; ends_none = refl }

pub name_last : (n : List ℕ) → lasts.Head ≡ as_last (name n)
unfolding has_own_brackets
name_last n = refl

pub number_last : (z : ℤ) → lasts.Other ≡ as_last (number z)
unfolding has_own_brackets
number_last z = refl

pub text_last : (s : List ℕ) → lasts.Other ≡ as_last (text s)
unfolding has_own_brackets
text_last s = refl

-- a value that is a text is spelled so
pub text_spelled : (d : Data) → is_text d ≡ true → spelling d ≡ quoted (text_bytes d)
text_spelled (Values.text s) e = refl
text_spelled unit e = cc
text_spelled (truth b) e = cc
text_spelled (Values.number z) e = cc
text_spelled (pair x y) e = cc
text_spelled no_event e = cc
text_spelled (event x) e = cc
text_spelled (table rs) e = cc

-- any other has no characters
pub no_text : (d : Data) → is_text d ≡ false → quoted [] ≡ quoted (text_bytes d)
no_text (Values.text s) e = cc
no_text unit e = refl
no_text (truth b) e = refl
no_text (Values.number z) e = refl
no_text (pair x y) e = refl
no_text no_event e = refl
no_text (event x) e = refl
no_text (table rs) e = refl
