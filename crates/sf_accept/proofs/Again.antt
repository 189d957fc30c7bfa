-- What is dumped is read again.
use Rattle.std.proofs.Common.{◌≡◌, ℕ, ◌≤◌, List, length, sym, ap, ◌∙◌, subst}
use Rattle.sf_lex.specs.Cutting.{byte_limit}
use Rattle.sf_term.specs.Trees.{Templates}
use Rattle.sf_text.specs.Spelling.{IsNetworkText}
use Rattle.sf_grammar.proofs.Texts.{one_text}
use Rattle.sf_print.specs.Canonical.{canonical_text}
use Rattle.sf_print.proofs.Again.{read_again}
use Rattle.sf_accept.specs.Dumps.{IsDump}

-- what was dumped is a text of the same network
pub dump_read : (net dumped : List ℕ) (p : Templates) → IsDump net p dumped → length dumped ≤ byte_limit → IsNetworkText dumped p
dump_read net dumped p d short =
    let short_text : length (canonical_text p) ≤ byte_limit = subst (λ x. length x ≤ byte_limit) d.canonical short in
    subst (λ x. IsNetworkText x p) (sym d.canonical) (read_again net p d.text short_text).text

-- dumped again it is the same
pub dump_again : (net dumped again : List ℕ) (p q : Templates) → IsDump net p dumped → IsDump dumped q again → (q ≡ p) × (again ≡ dumped)
dump_again net dumped again p q d e =
    let same : q ≡ p = one_text dumped q p e.text (dump_read net dumped p d e.text.cut.short) in
    (same, e.canonical ∙ ap canonical_text same ∙ sym d.canonical)
