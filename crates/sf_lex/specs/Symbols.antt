-- The symbols of the language.
use Rattle.std.specs.Prelude.{ℕ, List, codes}
use Rattle.sf_lex.specs.declared.symbol.Symbol.{Symbol}
use Rattle.sf_lex.specs.declared.symbol.Symbol.TheVariants as symbols

-- the bytes of a symbol
abbrev pub symbol_bytes : Symbol → List ℕ
symbol_bytes symbols.Initially = codes "-->"
symbol_bytes symbols.OnFirstInput = codes ">--"
symbol_bytes symbols.MapsFirstInput = codes ">=-"
symbol_bytes symbols.InSequence = codes ">>>"
symbol_bytes symbols.InParallel = codes "***"
symbol_bytes symbols.FannedOut = codes "&&&"
symbol_bytes symbols.Leads = codes "~>"
symbol_bytes symbols.MapsTo = codes "=>"
symbol_bytes symbols.IsEqual = codes "=="
symbol_bytes symbols.IsDifferent = codes "!="
symbol_bytes symbols.AtMost = codes "<="
symbol_bytes symbols.AtLeast = codes ">="
symbol_bytes symbols.Less = codes "<"
symbol_bytes symbols.Greater = codes ">"
symbol_bytes symbols.Plus = codes "+"
symbol_bytes symbols.Minus = codes "-"
symbol_bytes symbols.Times = codes "*"
symbol_bytes symbols.Open = codes "("
symbol_bytes symbols.Close = codes ")"
symbol_bytes symbols.OpenBracket = codes "["
symbol_bytes symbols.CloseBracket = codes "]"
symbol_bytes symbols.Comma = codes ","
symbol_bytes symbols.Colon = codes ":"
symbol_bytes symbols.Semicolon = codes ";"
symbol_bytes symbols.Equals = codes "="
