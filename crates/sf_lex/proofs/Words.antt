-- Keywords and names.
use Rattle.std.proofs.Common.{◌≡◌, ◌≢◌, ℕ, List, [], ◌∷◌, Bool, true, false, IsTrue, Option, Some, None, is_some, not, find, refl, sym, ◌∙◌, cond, ap, ◌↔◌}
use Rattle.std.proofs.lemmas.Slice.Eq.{bytes_eq-Decides}
use Rattle.sf_lex.specs.declared.word.Keyword.{Keyword}
use Rattle.sf_lex.specs.declared.word.Keyword.TheVariants as words
use Rattle.sf_lex.specs.declared.word.TheConstants.{KEYWORDS}
use Rattle.sf_lex.specs.Words.{keyword_bytes, is_word, IsName}
use Rattle.sf_lex.specs.Scanning.{keyword_of, is_keyword}

-- what is found passes
pub find_passes : {X : Type 0} (p : X → Bool) (xs : List X) (x : X) → find p xs ≡ Some x → p x ≡ true
find_passes p [] x e = cc
find_passes p (y ∷ ys) x e =
    (elim (p y) as (λ b. p y ≡ b → cond b (Some y) (find p ys) ≡ Some x → p x ≡ true) [
      | true ↦ λ is found. (let same : y ≡ x = cc in ap p (sym same) ∙ is)
      | false ↦ λ is found. find_passes p ys x found
    ]) refl e

-- the table has each keyword at its bytes
pub keyword_again : (k : Keyword) → keyword_of (keyword_bytes k) ≡ Some k
unfolding keyword_of
keyword_again words.Network = refl
keyword_again words.Template = refl
keyword_again words.Unit = refl
keyword_again words.Bool = refl
keyword_again words.Int = refl
keyword_again words.Text = refl
keyword_again words.Event = refl
keyword_again words.Table = refl
keyword_again words.True = refl
keyword_again words.False = refl
keyword_again words.Not = refl
keyword_again words.EventOf = refl
keyword_again words.NoEvent = refl
keyword_again words.If = refl
keyword_again words.Then = refl
keyword_again words.Else = refl
keyword_again words.Let = refl
keyword_again words.In = refl
keyword_again words.Match = refl
keyword_again words.Call = refl
keyword_again words.FilterE = refl
keyword_again words.MapE = refl
keyword_again words.MergeBy = refl
keyword_again words.Fold = refl
keyword_again words.Div = refl
keyword_again words.Mod = refl
keyword_again words.And = refl
keyword_again words.Or = refl
keyword_again words.Fst = refl
keyword_again words.Snd = refl
keyword_again words.IsEvent = refl
keyword_again words.Size = refl
keyword_again words.Tag = refl
keyword_again words.Attach = refl
keyword_again words.FromEvent = refl
keyword_again words.Gate = refl
keyword_again words.LMerge = refl
keyword_again words.RMerge = refl
keyword_again words.Merge = refl
keyword_again words.Get = refl
keyword_again words.Identity = refl
keyword_again words.LocalTime = refl
keyword_again words.Integral = refl
keyword_again words.Edge = refl
keyword_again words.NotYet = refl
keyword_again words.Once = refl
keyword_again words.Count = refl
keyword_again words.Pre = refl
keyword_again words.Constant = refl
keyword_again words.Initially = refl
keyword_again words.IPre = refl
keyword_again words.Now = refl
keyword_again words.IEdge = refl
keyword_again words.EdgeTag = refl
keyword_again words.Hold = refl
keyword_again words.DHold = refl
keyword_again words.Never = refl
keyword_again words.Arr = refl
keyword_again words.Probe = refl
keyword_again words.Run = refl
keyword_again words.Delay = refl
keyword_again words.After = refl
keyword_again words.Repeatedly = refl
keyword_again words.TakeEvents = refl
keyword_again words.DropEvents = refl
keyword_again words.EdgeBy = refl
keyword_again words.AccumBy = refl
keyword_again words.AccumHoldBy = refl
keyword_again words.Sscan = refl
keyword_again words.First = refl
keyword_again words.Second = refl
keyword_again words.Fby = refl
keyword_again words.LoopPre = refl
keyword_again words.Switch = refl
keyword_again words.DSwitch = refl
keyword_again words.RSwitch = refl
keyword_again words.DrSwitch = refl
keyword_again words.KSwitch = refl
keyword_again words.DkSwitch = refl
keyword_again words.ParB = refl
keyword_again words.PSwitchB = refl
keyword_again words.DpSwitchB = refl
keyword_again words.RpSwitchB = refl
keyword_again words.DrpSwitchB = refl
keyword_again words.SignalFunction = refl
keyword_again words.Collection = refl
keyword_again words.Empty = refl
keyword_again words.Use = refl
keyword_again words.Add = refl
keyword_again words.Drop = refl
keyword_again words.Keep = refl
keyword_again words.Underscore = refl

pub keyword_is : (word : List ℕ) (k : Keyword) → keyword_of word ≡ Some k → keyword_bytes k ≡ word
unfolding keyword_of
keyword_is word k e = (bytes_eq-Decides (keyword_bytes k) word).0 (find_passes (is_keyword word) KEYWORDS k e)

pub no_keyword : (word : List ℕ) (k : Keyword) → keyword_of word ≡ None → keyword_bytes k ≢ word
no_keyword word k e same = let found : keyword_of word ≡ Some k = ap keyword_of (sym same) ∙ keyword_again k in cc

pub name_from : (word : List ℕ) → is_word word ≡ true → keyword_of word ≡ None → IsName word
name_from word w e = record { word = w; other = λ k. no_keyword word k e }

pub name_other : (word : List ℕ) → IsName word → keyword_of word ≡ None
name_other word n = by_found (keyword_of word) refl
  where
    by_found : (o : Option Keyword) → keyword_of word ≡ o → o ≡ None
    by_found None e = refl
    by_found (Some k) e = absurd (n.other k (keyword_is word k e))

pub name_is : (word : List ℕ) (r : Bool) (o : Option Keyword) → is_word word ≡ true → o ≡ keyword_of word → is_some o ≡ not r → IsTrue r ↔ IsName word
name_is word true None w e s = (λ _. name_from word w (sym e), λ n. refl)
name_is word false None w e s = cc
name_is word true (Some k) w e s = cc
name_is word false (Some k) w e s = (λ h. cc, λ n. absurd (n.other k (keyword_is word k (sym e))))
