-- The refusal of a line whose value is not read.
use Rattle.sf_spelling.specs.declared.read.ReadRefusal.{ReadRefusal}
use Rattle.sf_spelling.specs.declared.read.ReadRefusal.TheVariants as read
use Rattle.sf_lines.specs.declared.refusal.LineRefusal.{LineRefusal}
use Rattle.sf_lines.specs.declared.refusal.LineRefusal.TheVariants.{BadValue, OutOfRange, DuplicateKey, Memory}

abbrev pub refusal_from : ReadRefusal → LineRefusal
refusal_from (read.BadValue place) = BadValue
refusal_from (read.OutOfRange place) = OutOfRange
refusal_from (read.DuplicateKey place) = DuplicateKey
refusal_from read.Memory = Memory
