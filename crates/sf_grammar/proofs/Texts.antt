-- Texts of networks.
use Rattle.std.proofs.Common.{◌≡◌, ◌≢◌, ℕ, List, [], ◌++◌, map, Result, Ok, Err, IfErr, refl, sym, ◌∙◌, ap, arith}
use Rattle.std.proofs.lemmas.List.{append-nil}
use Rattle.sf_refusal.specs.Refusals.{OrMemory, because, no_memory}
use Rattle.sf_refusal.specs.declared.spot.Spot.{Spot}
use Rattle.sf_refusal.specs.declared.rule.Rule.{Rule}
use Rattle.sf_refusal.specs.declared.refusal.Breach.{Breach}
use Rattle.sf_refusal.specs.declared.refusal.Refusal.{Refusal}
use Rattle.sf_refusal.specs.declared.refusal.Refusal.TheVariants as refusals
use Rattle.sf_lex.specs.Tokens.{Tok, Located}
use Rattle.sf_lex.specs.Cutting.{Lexes, BreaksLexis, too_long, at_fault}
use Rattle.sf_lex.proofs.Cuts.{further, cuts_nil, stuck_nil}
use Rattle.sf_term.specs.Trees.{Templates}
use Rattle.sf_grammar.specs.Spelling.{IsNetworkText}
use Rattle.sf_grammar.specs.Stopping.{ReadingStops, BreaksText, no_tokens, no_network}
use Rattle.sf_grammar.proofs.Unique.{spelled_once, stops_none}

-- bytes have their tokens alone
lexes_once : (bytes : List ℕ) (one two : List Located) → Lexes bytes one → Lexes bytes two → two ≡ one
lexes_once bytes one two a b =
    let on = further 0 a.end b.end bytes [] [] one two a.cut b.cut stuck_nil in
    on.is ∙ ap (λ ls. one ++ ls) (cuts_nil a.end b.end [] on.found on.cut) ∙ append-nil one

tokens_of : List Located → List Tok
tokens_of located = map (λ (l : Located). l.token) located

-- a text is the text of one network at most
pub one_text : (bytes : List ℕ) (p q : Templates) → IsNetworkText bytes p → IsNetworkText bytes q → p ≡ q
unfolding tokens_of
one_text bytes p q a b =
    spelled_once a.version b.version p q a.limited b.limited (sym a.spelled ∙ ap tokens_of (lexes_once bytes b.located a.located b.cut a.cut) ∙ b.spelled)

-- where reading its tokens stops, a text is that of no network
pub stops_at_none : (bytes : List ℕ) (fault : Rule) (place : Spot) → ReadingStops bytes fault place → (p : Templates) → IsNetworkText bytes p → ⊥
unfolding tokens_of
stops_at_none bytes fault place s p reads =
    stops_none (tokens_of s.located) fault s.left s.stops reads.version p reads.limited (ap tokens_of (lexes_once bytes reads.located s.located reads.cut s.cut) ∙ reads.spelled)

lexis_none : (bytes : List ℕ) (b : Breach) → BreaksLexis bytes b → (p : Templates) → IsNetworkText bytes p → ⊥
lexis_none bytes b (too_long long is) p reads = omega (arith, reads.cut.short)
lexis_none bytes b (at_fault first) p reads = first.none reads.located reads.cut

broken_none : (bytes : List ℕ) (b : Breach) → BreaksText bytes b → (p : Templates) → IsNetworkText bytes p → ⊥
broken_none bytes b (no_tokens breaks) p reads = lexis_none bytes b breaks p reads
broken_none bytes b (no_network stops) p reads = stops_at_none bytes b.rule b.spot stops p reads

-- what breaks a rule is the text of no network
pub refused_none : (bytes : List ℕ) (e : Refusal) → OrMemory (BreaksText bytes) e → e ≢ refusals.Memory → (p : Templates) → IsNetworkText bytes p → ⊥
refused_none bytes e (because {b = b} breaks) other p reads = broken_none bytes b breaks p reads
refused_none bytes e no_memory other p reads = other refl

pub none_refused : {A : Type 0} (bytes : List ℕ) (answer : Result A Refusal) → IfErr answer (OrMemory (BreaksText bytes)) → IfErr answer (λ e. e ≢ refusals.Memory → (p : Templates) → IsNetworkText bytes p → ⊥)
none_refused bytes (Ok x) r = tt
none_refused bytes (Err e) r = refused_none bytes e r
