-- The words of the language: keywords and names.
use Rattle.std.specs.Prelude.{◌≢◌, ℕ, Bool, false, List, [], ◌∷◌, ◌&&◌, ◌||◌, ◌==◌, nat_le, IsTrue, codes}
use Rattle.std.specs.List.{list_all}
use Rattle.sf_lex.specs.declared.word.Keyword.{Keyword}
use Rattle.sf_lex.specs.declared.word.Keyword.TheVariants as words

-- the bytes of a keyword
abbrev pub keyword_bytes : Keyword → List ℕ
keyword_bytes words.Network = codes "network"
keyword_bytes words.Template = codes "template"
keyword_bytes words.Unit = codes "Unit"
keyword_bytes words.Bool = codes "Bool"
keyword_bytes words.Int = codes "Int"
keyword_bytes words.Text = codes "Text"
keyword_bytes words.Event = codes "Event"
keyword_bytes words.Table = codes "Table"
keyword_bytes words.True = codes "true"
keyword_bytes words.False = codes "false"
keyword_bytes words.Not = codes "not"
keyword_bytes words.EventOf = codes "event"
keyword_bytes words.NoEvent = codes "none"
keyword_bytes words.If = codes "if"
keyword_bytes words.Then = codes "then"
keyword_bytes words.Else = codes "else"
keyword_bytes words.Let = codes "let"
keyword_bytes words.In = codes "in"
keyword_bytes words.Match = codes "match"
keyword_bytes words.Call = codes "call"
keyword_bytes words.FilterE = codes "filterE"
keyword_bytes words.MapE = codes "mapE"
keyword_bytes words.MergeBy = codes "mergeBy"
keyword_bytes words.Fold = codes "fold"
keyword_bytes words.Div = codes "div"
keyword_bytes words.Mod = codes "mod"
keyword_bytes words.And = codes "and"
keyword_bytes words.Or = codes "or"
keyword_bytes words.Fst = codes "fst"
keyword_bytes words.Snd = codes "snd"
keyword_bytes words.IsEvent = codes "isEvent"
keyword_bytes words.Size = codes "size"
keyword_bytes words.Tag = codes "tag"
keyword_bytes words.Attach = codes "attach"
keyword_bytes words.FromEvent = codes "fromEvent"
keyword_bytes words.Gate = codes "gate"
keyword_bytes words.LMerge = codes "lMerge"
keyword_bytes words.RMerge = codes "rMerge"
keyword_bytes words.Merge = codes "merge"
keyword_bytes words.Get = codes "get"
keyword_bytes words.Identity = codes "identity"
keyword_bytes words.LocalTime = codes "localTime"
keyword_bytes words.Integral = codes "integral"
keyword_bytes words.Edge = codes "edge"
keyword_bytes words.NotYet = codes "notYet"
keyword_bytes words.Once = codes "once"
keyword_bytes words.Count = codes "count"
keyword_bytes words.Pre = codes "pre"
keyword_bytes words.Constant = codes "constant"
keyword_bytes words.Initially = codes "initially"
keyword_bytes words.IPre = codes "iPre"
keyword_bytes words.Now = codes "now"
keyword_bytes words.IEdge = codes "iEdge"
keyword_bytes words.EdgeTag = codes "edgeTag"
keyword_bytes words.Hold = codes "hold"
keyword_bytes words.DHold = codes "dHold"
keyword_bytes words.Never = codes "never"
keyword_bytes words.Arr = codes "arr"
keyword_bytes words.Probe = codes "probe"
keyword_bytes words.Run = codes "run"
keyword_bytes words.Delay = codes "delay"
keyword_bytes words.After = codes "after"
keyword_bytes words.Repeatedly = codes "repeatedly"
keyword_bytes words.TakeEvents = codes "takeEvents"
keyword_bytes words.DropEvents = codes "dropEvents"
keyword_bytes words.EdgeBy = codes "edgeBy"
keyword_bytes words.AccumBy = codes "accumBy"
keyword_bytes words.AccumHoldBy = codes "accumHoldBy"
keyword_bytes words.Sscan = codes "sscan"
keyword_bytes words.First = codes "first"
keyword_bytes words.Second = codes "second"
keyword_bytes words.Fby = codes "fby"
keyword_bytes words.LoopPre = codes "loopPre"
keyword_bytes words.Switch = codes "switch"
keyword_bytes words.DSwitch = codes "dSwitch"
keyword_bytes words.RSwitch = codes "rSwitch"
keyword_bytes words.DrSwitch = codes "drSwitch"
keyword_bytes words.KSwitch = codes "kSwitch"
keyword_bytes words.DkSwitch = codes "dkSwitch"
keyword_bytes words.ParB = codes "parB"
keyword_bytes words.PSwitchB = codes "pSwitchB"
keyword_bytes words.DpSwitchB = codes "dpSwitchB"
keyword_bytes words.RpSwitchB = codes "rpSwitchB"
keyword_bytes words.DrpSwitchB = codes "drpSwitchB"
keyword_bytes words.SignalFunction = codes "sf"
keyword_bytes words.Collection = codes "col"
keyword_bytes words.Empty = codes "empty"
keyword_bytes words.Use = codes "use"
keyword_bytes words.Add = codes "add"
keyword_bytes words.Drop = codes "drop"
keyword_bytes words.Keep = codes "keep"
keyword_bytes words.Underscore = codes "_"

abbrev pub is_letter : ℕ → Bool
is_letter b = (nat_le 65 b && nat_le b 90) || (nat_le 97 b && nat_le b 122)

abbrev pub is_digit : ℕ → Bool
is_digit b = nat_le 48 b && nat_le b 57

abbrev pub is_word_byte : ℕ → Bool
is_word_byte b = is_letter b || (is_digit b || b == 95)

-- a letter, then letters, digits and underscores
abbrev pub is_word : List ℕ → Bool
is_word [] = false
is_word (b ∷ bytes) = is_letter b && list_all is_word_byte bytes

-- a word that is no keyword
pub record IsName (bytes : List ℕ) : Type 0 where
  pub word : IsTrue (is_word bytes)
  pub other : (k : Keyword) → keyword_bytes k ≢ bytes
