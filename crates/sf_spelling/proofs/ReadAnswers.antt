-- What `read_value` answers, from what its reader gave.
use Rattle.std.proofs.Common.{◌≡◌, ℕ, ◌-◌, ◌≤◌, List, [], ◌∷◌, length, Ok, Err, sym, ap, subst, ◌∙◌, arith, length-append}
use Rattle.sf_value.specs.Values.{Kind, Data, HasKind}
use Rattle.sf_spelling.specs.Scan.{bad, fault, Scanned, scanned_value}
use Rattle.sf_spelling.specs.Spelling.{spelling}
use Rattle.sf_spelling.specs.Reading.{Cause, Reads, bad_value}
use Rattle.sf_spelling.proofs.Readers.{Within, FaultFrom, Sound, never_grows}
use Rattle.sf_spelling.proofs.Languages.{kinds}
use Rattle.sf_spelling.proofs.EachKind.{reader}
use Rattle.sf_spelling.proofs.Settled.{answer, refusal, reads, only}

module _ (t : Kind) (bytes : List ℕ) where
  pub answered : (o : Scanned Data) → scanned_value t bytes ≡ o → Reads t bytes (answer (length bytes) o)
  answered o e = subst (λ x. Reads t bytes (answer (length bytes) x)) e (reads t bytes)

  pub answered_only : (o : Scanned Data) → scanned_value t bytes ≡ o → (v : Data) → HasKind v t → bytes ≡ spelling v → answer (length bytes) o ≡ Ok v
  answered_only o e v h s = sym (ap (answer (length bytes)) e) ∙ only t bytes v h s

  shorter : (o : Scanned Data) → scanned_value t bytes ≡ o → Within bytes o
  shorter o e = subst (λ x. Within bytes x) e (never_grows (kinds t) bytes (scanned_value t bytes) ((reader t bytes).sound))

  pub left_of_value : (v : Data) (rest : List ℕ) → scanned_value t bytes ≡ Ok (v, rest) → length rest ≤ length bytes
  left_of_value v rest e = shorter (Ok (v, rest)) e

  pub left_of_bad : (rest : List ℕ) → scanned_value t bytes ≡ Err (bad rest) → length rest ≤ length bytes
  left_of_bad rest e = shorter (Err (bad rest)) e

  pub left_of_fault : (c : Cause) (rest : List ℕ) → scanned_value t bytes ≡ Err (fault c rest) → length rest ≤ length bytes
  left_of_fault c rest e = of (subst (λ x. Sound (kinds t) bytes x) e (reader t bytes).sound)
    where
      of : FaultFrom (kinds t) bytes c rest → length rest ≤ length bytes
      of h = let e = ap length h.cut in omega (arith, length-append h.before rest)

  pub whole_reads : (v : Data) (rest : List ℕ) → length rest ≡ 0 → scanned_value t bytes ≡ Ok (v, rest) → Reads t bytes (Ok v) × ((w : Data) → HasKind w t → bytes ≡ spelling w → v ≡ w)
  whole_reads v [] l e = (answered (Ok (v, [])) e, λ w h s. let is : Ok v ≡ Ok w = answered_only (Ok (v, [])) e w h s in cc)
  whole_reads v (x ∷ rest) l e = absurd (omega arith)

  pub more_reads : (v : Data) (rest : List ℕ) → 1 ≤ length rest → scanned_value t bytes ≡ Ok (v, rest) → Reads t bytes (Err (bad_value (length bytes - length rest))) × ((w : Data) → HasKind w t → bytes ≡ spelling w → ⊥)
  more_reads v [] l e = absurd (omega arith)
  more_reads v (x ∷ rest) l e = (answered (Ok (v, x ∷ rest)) e, λ w h s. let is = answered_only (Ok (v, x ∷ rest)) e w h s in cc)

  pub bad_reads : (rest : List ℕ) → scanned_value t bytes ≡ Err (bad rest) → Reads t bytes (Err (bad_value (length bytes - length rest))) × ((w : Data) → HasKind w t → bytes ≡ spelling w → ⊥)
  bad_reads rest e = (answered (Err (bad rest)) e, λ w h s. let is = answered_only (Err (bad rest)) e w h s in cc)

  pub fault_reads : (c : Cause) (rest : List ℕ) → scanned_value t bytes ≡ Err (fault c rest) → Reads t bytes (Err (refusal (length bytes) (fault c rest))) × ((w : Data) → HasKind w t → bytes ≡ spelling w → ⊥)
  fault_reads c rest e = (answered (Err (fault c rest)) e, λ w h s. let is = answered_only (Err (fault c rest)) e w h s in cc)
