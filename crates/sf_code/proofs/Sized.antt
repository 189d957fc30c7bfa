-- The size of code.
use Rattle.std.proofs.Common.{ℕ, suc, ◌+◌}
use Rattle.sf_code.specs.Codes.{Code, place, constant, paired, applied, operation, conditional, mapped, folded, called}

-- how many codes code is made of, itself among them
abbrev pub code_size : Code → ℕ
code_size (place p) = 1
code_size (constant d) = 1
code_size (paired i j) = suc (code_size i + code_size j)
code_size (applied o i) = suc (code_size i)
code_size (operation i op j) = suc (code_size i + code_size j)
code_size (conditional i j k) = suc (code_size i + (code_size j + code_size k))
code_size (mapped i m j) = suc (code_size i + code_size j)
code_size (folded i o j k) = suc (code_size i + (code_size j + code_size k))
code_size (called g i) = suc (code_size i)
