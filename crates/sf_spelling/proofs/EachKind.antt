-- Reading a value of a type.
use Rattle.std.proofs.Common.{◌≡◌, ℤ, List, ℕ, refl}
use Rattle.std.specs.Prelude.{⊤}
use Rattle.sf_value.specs.Values.{Kind, unit_kind, bool_kind, int_kind, text_kind, pair_kind, event_kind, table_kind, Data, number}
use Rattle.sf_spelling.specs.Scan.{scanned_integer, scanned_value}
use Rattle.sf_spelling.specs.Reading.{HasShape, int_shape}
use Rattle.sf_spelling.proofs.Readers.{IsReader, mapped, map_reader, same_reader}
use Rattle.sf_spelling.proofs.Integers.{integers, integers_reader}
use Rattle.sf_spelling.proofs.Languages.{kinds}
use Rattle.sf_spelling.proofs.Words.{mapped_is, unit_reader, truth_reader, event_reader}
use Rattle.sf_spelling.proofs.Pairs.{pair_reader}
use Rattle.sf_spelling.proofs.Keys.{text_reader}
use Rattle.sf_spelling.proofs.Tables.{table_reader}

-- an integer
int_up : (b : Data) → HasShape b int_kind → (z : ℤ) × (b ≡ number z) × ⊤
int_up b (int_shape {z = z}) = (z, refl, tt)

int_same : (s : List ℕ) → mapped number (scanned_integer s) ≡ scanned_value int_kind s
unfolding scanned_value
int_same s = mapped_is number (scanned_integer s)

int_reader : IsReader (kinds int_kind) (scanned_value int_kind)
int_reader s = same_reader (kinds int_kind) s _ _ (int_same s)
    (map_reader integers (kinds int_kind) number (λ _ _. int_shape) (λ _ _. refl) (λ _ _ _ _ f. f) (λ _ _ _ _ f. f) int_up s (scanned_integer s) (integers_reader s))

pub reader : (t : Kind) → IsReader (kinds t) (scanned_value t)
reader unit_kind = unit_reader
reader bool_kind = truth_reader
reader int_kind = int_reader
reader text_kind = text_reader
reader (pair_kind t u) = pair_reader t u (reader t) (reader u)
reader (event_kind t) = event_reader t (reader t)
reader (table_kind k t) = table_reader k t (reader t)
