-- The tokens that are the same in each text.
use Rattle.sf_lex.specs.Tokens.{Tok, keyword, symbol}
use Rattle.sf_print.specs.declared.words.Sign.{Sign}
use Rattle.sf_print.specs.declared.words.Sign.TheVariants as signs

-- the token that a sign is
abbrev pub sign_token : Sign → Tok
sign_token (signs.Word k) = keyword k
sign_token (signs.Symbol s) = symbol s
