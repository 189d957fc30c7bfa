-- Canonical texts are texts of their networks.
use Rattle.std.proofs.Common.{◌≡◌, ℕ, ◌+◌, ◌≤◌, List, [], length, drop, map, true, refl, sym, ◌∙◌, ap, subst, arith, inl}
use Rattle.std.specs.List.{All}
use Rattle.std.specs.Str.{IsUtf8}
use Rattle.std.proofs.lemmas.List.{drop-drop, length-drop}
use Rattle.std.proofs.lemmas.List.Elements.{All-nil, All-cons}
use Rattle.sf_lex.specs.Tokens.{Tok, keyword, name, number, text, symbol, Located}
use Rattle.sf_lex.specs.Cutting.{gap, token, fits, IsCutInto, here, more, IsLongest, IsReadable, byte_limit}
use Rattle.sf_lex.proofs.Readable.{readable}
use Rattle.sf_term.specs.Trees.{Templates}
use Rattle.sf_grammar.specs.declared.ty.Version.{Version}
use Rattle.sf_grammar.specs.Spelling.{spell, IsWithinLimits, IsNetworkText}
use Rattle.sf_print.specs.Versions.{version_of}
use Rattle.sf_print.specs.Canonical.{text_of, canonical_text}
use Rattle.sf_print.specs.Laws.{CanStand, IsShort, IsCanonicalText}
use Rattle.sf_print.proofs.Cut.{text_cut, text_utf8}

-- the text of tokens that can stand in texts, which spell a network within the limits of a version, is a text of it
pub tokens_text : (v : Version) (p : Templates) (bytes : List ℕ) → bytes ≡ text_of (spell v p) → All CanStand (spell v p) → IsWithinLimits v p → length bytes ≤ byte_limit → IsNetworkText bytes p
tokens_text v p bytes e a limits short =
    let c = text_cut (spell v p) a 0 in
    record {
      version = v;
      located = c.found;
      cut = record { short = short; utf8 = subst IsUtf8 (sym e) (text_utf8 (spell v p) a); end = c.end; cut = subst (λ (x : List ℕ). IsCutInto 0 x c.found c.end []) (sym e) c.cut };
      spelled = c.tokens_are;
      limited = limits;
    }

-- what can be read can stand in texts
stands : (t : Tok) → IsReadable t → fits (token t) ≡ true → CanStand t
stands (keyword k) r f = tt
stands (name n) r f = r
stands (number z) r f = f
stands (text s) r f = r
stands (symbol s) r f = tt

-- the tokens of a text can stand in texts
pub cut_stands : (all : List ℕ) → IsUtf8 all → (at end : ℕ) (bytes rest : List ℕ) (found : List Located) → bytes ≡ drop at all → at ≤ length all → IsCutInto at bytes found end rest → All CanStand (map (λ (l : Located). l.token) found)
cut_stands all u at end bytes rest found e w here = All-nil CanStand
cut_stands all u at end bytes rest found e w (more {n = n} {p = gap} {found = later} l f k) =
    let near : at + n ≤ length all = (let i = l.within in omega (arith, ap length e, length-drop at all)) in
    cut_stands all u (at + n) end (drop n bytes) rest later (ap (drop n) e ∙ drop-drop n at all) near k
cut_stands all u at end bytes rest found e w (more {n = n} {p = token t} {found = later} l f k) =
    let near : at + n ≤ length all = (let i = l.within in omega (arith, ap length e, length-drop at all)) in
    let first : CanStand t = stands t (readable all at (length all) n t (subst (λ (x : List ℕ). IsLongest x (token t) n) e l) near (inl (u, refl))) f in
    All-cons CanStand t (map (λ (l : Located). l.token) later) first (cut_stands all u (at + n) end (drop n bytes) rest later (ap (drop n) e ∙ drop-drop n at all) near k)

-- the tokens of a network that has a text
pub text_stands : (bytes : List ℕ) (p : Templates) → (t : IsNetworkText bytes p) → All CanStand (spell t.version p)
text_stands bytes p t = subst (λ (ts : List Tok). All CanStand ts) t.spelled (cut_stands bytes t.cut.utf8 0 t.cut.end bytes [] t.located refl (omega arith) t.cut.cut)

pub built_read : (p : Templates) → All CanStand (spell (version_of p) p) → IsWithinLimits (version_of p) p → IsShort p → IsCanonicalText (canonical_text p) p
built_read p a limits short = record { canonical = refl; text = tokens_text (version_of p) p (canonical_text p) refl a limits short }
