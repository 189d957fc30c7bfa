-- The names of faults and refusals in an output.
use Rattle.std.specs.Prelude.{ℕ, List, codes}
use Rattle.sf_value.specs.declared.fault.ValueFault.{ValueFault}
use Rattle.sf_value.specs.declared.fault.ValueFault.TheVariants.{Overflow, DivideByZero, Clash, Function}
use Rattle.sf_value.specs.declared.fault.Fault.{Fault}
use Rattle.sf_value.specs.declared.fault.Fault.TheVariants as fault
use Rattle.sf_lines.specs.declared.refusal.LineRefusal.{LineRefusal}
use Rattle.sf_lines.specs.declared.refusal.LineRefusal.TheVariants.{BadLine, LineTooLong, TooManyLines, NotStarted, Started, BadStep, BadValue, OutOfRange, DuplicateKey, NoSave, TooManySaves, Memory}

abbrev pub refusal_name : LineRefusal → List ℕ
refusal_name BadLine = codes "BadLine"
refusal_name LineTooLong = codes "LineTooLong"
refusal_name TooManyLines = codes "TooManyLines"
refusal_name NotStarted = codes "NotStarted"
refusal_name Started = codes "Started"
refusal_name BadStep = codes "BadStep"
refusal_name BadValue = codes "BadValue"
refusal_name OutOfRange = codes "OutOfRange"
refusal_name DuplicateKey = codes "DuplicateKey"
refusal_name NoSave = codes "NoSave"
refusal_name TooManySaves = codes "TooManySaves"
refusal_name Memory = codes "Memory"

abbrev pub value_fault_name : ValueFault → List ℕ
value_fault_name Overflow = codes "Overflow"
value_fault_name DivideByZero = codes "DivideByZero"
value_fault_name Clash = codes "Clash"
value_fault_name Function = codes "Function"

abbrev pub fault_name : Fault → List ℕ
fault_name (fault.Value f) = value_fault_name f
fault_name fault.Large = codes "Large"
fault_name fault.Memory = codes "Memory"
