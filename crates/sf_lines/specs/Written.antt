-- The lines of an output.
use Rattle.std.specs.Prelude.{ℕ, List, ◌++◌, codes}
use Rattle.sf_value.specs.declared.fault.Fault.{Fault}
use Rattle.sf_value.specs.Values.{Name, Data}
use Rattle.sf_decimal.specs.Decimals.{natural}
use Rattle.sf_spelling.specs.Spelling.{spelling}
use Rattle.sf_lines.specs.declared.refusal.LineRefusal.{LineRefusal}
use Rattle.sf_lines.specs.Names.{fault_name, refusal_name}

-- the sample at a time in milliseconds: `> T VALUE`
abbrev pub sample_line : ℕ → Data → List ℕ
sample_line time value = codes "> " ++ (natural time ++ (codes " " ++ (spelling value ++ codes "\n")))

-- what is read under a name: `? NAME VALUE`
abbrev pub reading_line : Name → Data → List ℕ
reading_line name value = codes "? " ++ (name ++ (codes " " ++ (spelling value ++ codes "\n")))

-- the fault of the sample at a time: `! T FAULT`
abbrev pub fault_line : ℕ → Fault → List ℕ
fault_line time fault = codes "! " ++ (natural time ++ (codes " " ++ (fault_name fault ++ codes "\n")))

-- the refusal of a line, by its number from 1: `! line N REFUSAL`
abbrev pub refusal_line : ℕ → LineRefusal → List ℕ
refusal_line n refusal = codes "! line " ++ (natural n ++ (codes " " ++ (refusal_name refusal ++ codes "\n")))
