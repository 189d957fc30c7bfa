-- The rules that a network can break, and how a refusal is told.
use Rattle.std.specs.Prelude.{ℕ, List, ◌∷◌, ◌++◌, codes}
use Rattle.std.specs.Fmt.{decimal}
use Rattle.sf_refusal.specs.declared.spot.Spot.{Spot}
use Rattle.sf_refusal.specs.declared.rule.Rule.{Rule}
use Rattle.sf_refusal.specs.declared.rule.Rule.TheVariants.{BadByte, NumberTooLarge, OpenText, TooLong, Unexpected, TooDeep, Version, WrittenTypeTooLarge, TooMany, UnknownName, DuplicateName, Arity, Mismatch, BarePre, Endless, NoMain, BadConstant, TypeTooLarge}
use Rattle.sf_refusal.specs.declared.refusal.Breach.{Breach}
use Rattle.sf_refusal.specs.declared.refusal.Refusal.{Refusal}
use Rattle.sf_refusal.specs.declared.refusal.Refusal.TheVariants.{Broken, Memory}

-- where a text begins
abbrev pub first_spot : Spot
first_spot = record { line = 1; column = 1 }

-- a place is told as `LINE:COLUMN`
abbrev pub spot_text : Spot → List ℕ
spot_text s = decimal s.line ++ 58 ∷ decimal s.column

-- the number of a rule
abbrev pub rule_number : Rule → List ℕ
rule_number BadByte = codes "L1"
rule_number NumberTooLarge = codes "L2"
rule_number OpenText = codes "L3"
rule_number TooLong = codes "L4"
rule_number Unexpected = codes "P1"
rule_number TooDeep = codes "P2"
rule_number Version = codes "P3"
rule_number WrittenTypeTooLarge = codes "P4"
rule_number TooMany = codes "B1"
rule_number UnknownName = codes "C1"
rule_number DuplicateName = codes "C2"
rule_number Arity = codes "C3"
rule_number Mismatch = codes "C4"
rule_number BarePre = codes "C5"
rule_number Endless = codes "C6"
rule_number NoMain = codes "C7"
rule_number BadConstant = codes "C8"
rule_number TypeTooLarge = codes "C9"

-- the name of a rule
abbrev pub rule_name : Rule → List ℕ
rule_name BadByte = codes "BadByte"
rule_name NumberTooLarge = codes "NumberTooLarge"
rule_name OpenText = codes "OpenText"
rule_name TooLong = codes "TooLong"
rule_name Unexpected = codes "Unexpected"
rule_name TooDeep = codes "TooDeep"
rule_name Version = codes "Version"
rule_name WrittenTypeTooLarge = codes "TypeTooLarge"
rule_name TooMany = codes "TooMany"
rule_name UnknownName = codes "UnknownName"
rule_name DuplicateName = codes "DuplicateName"
rule_name Arity = codes "Arity"
rule_name Mismatch = codes "Mismatch"
rule_name BarePre = codes "BarePre"
rule_name Endless = codes "Endless"
rule_name NoMain = codes "NoMain"
rule_name BadConstant = codes "BadConstant"
rule_name TypeTooLarge = codes "TypeTooLarge"

-- the breach of a rule at a place
abbrev pub breach_of : Rule → Spot → Breach
breach_of rule spot = record { rule = rule; spot = spot }

-- a rule is broken at a place
abbrev pub broken : Rule → Spot → Refusal
broken rule spot = Broken (breach_of rule spot)

-- The breach that a refusal names is explained, or memory was wanting, which says nothing.
pub data OrMemory (explained : Breach → Type 0) : Refusal → Type 0 where
  because : {b : Breach} → explained b → OrMemory explained (Broken b)
  no_memory : OrMemory explained Memory

-- a rule that is broken is told as `NUMBER NAME LINE:COLUMN`
abbrev pub breach_text : Breach → List ℕ
breach_text b = rule_number b.rule ++ 32 ∷ (rule_name b.rule ++ 32 ∷ spot_text b.spot)

-- a refusal is told as the rule that is broken, or as `Memory`
abbrev pub refusal_text : Refusal → List ℕ
refusal_text (Broken b) = breach_text b
refusal_text Memory = codes "Memory"
