use Rattle.std.proofs.Common.{refl, arith}
use Rattle.sf_lex.specs.Scanning.{symbol_of}
use Rattle.sf_lex.proofs.SymbolGroups.{along, no_group}
use Rattle.sf_lex.proofs.symbol.place_of.Goals as goal

pub returns-in-33-clause-all : goal.returns-in-33-clause-all
unfolding symbol_of
returns-in-33-clause-all c = along c.args.first 33 0 1 c.in-33.is (λ rest. refl)

pub returns-in-38-clause-all : goal.returns-in-38-clause-all
unfolding symbol_of
returns-in-38-clause-all c = along c.args.first 38 1 2 c.in-38.is (λ rest. refl)

pub returns-in-40-clause-all : goal.returns-in-40-clause-all
unfolding symbol_of
returns-in-40-clause-all c = along c.args.first 40 2 3 c.in-40.is (λ rest. refl)

pub returns-in-41-clause-all : goal.returns-in-41-clause-all
unfolding symbol_of
returns-in-41-clause-all c = along c.args.first 41 3 4 c.in-41.is (λ rest. refl)

pub returns-in-42-clause-all : goal.returns-in-42-clause-all
unfolding symbol_of
returns-in-42-clause-all c = along c.args.first 42 4 6 c.in-42.is (λ rest. refl)

pub returns-in-43-clause-all : goal.returns-in-43-clause-all
unfolding symbol_of
returns-in-43-clause-all c = along c.args.first 43 6 7 c.in-43.is (λ rest. refl)

pub returns-in-44-clause-all : goal.returns-in-44-clause-all
unfolding symbol_of
returns-in-44-clause-all c = along c.args.first 44 7 8 c.in-44.is (λ rest. refl)

pub returns-in-45-clause-all : goal.returns-in-45-clause-all
unfolding symbol_of
returns-in-45-clause-all c = along c.args.first 45 8 10 c.in-45.is (λ rest. refl)

pub returns-in-58-clause-all : goal.returns-in-58-clause-all
unfolding symbol_of
returns-in-58-clause-all c = along c.args.first 58 10 11 c.in-58.is (λ rest. refl)

pub returns-in-59-clause-all : goal.returns-in-59-clause-all
unfolding symbol_of
returns-in-59-clause-all c = along c.args.first 59 11 12 c.in-59.is (λ rest. refl)

pub returns-in-60-clause-all : goal.returns-in-60-clause-all
unfolding symbol_of
returns-in-60-clause-all c = along c.args.first 60 12 14 c.in-60.is (λ rest. refl)

pub returns-in-61-clause-all : goal.returns-in-61-clause-all
unfolding symbol_of
returns-in-61-clause-all c = along c.args.first 61 14 17 c.in-61.is (λ rest. refl)

pub returns-in-62-clause-all : goal.returns-in-62-clause-all
unfolding symbol_of
returns-in-62-clause-all c = along c.args.first 62 17 22 c.in-62.is (λ rest. refl)

pub returns-in-91-clause-all : goal.returns-in-91-clause-all
unfolding symbol_of
returns-in-91-clause-all c = along c.args.first 91 22 23 c.in-91.is (λ rest. refl)

pub returns-in-93-clause-all : goal.returns-in-93-clause-all
unfolding symbol_of
returns-in-93-clause-all c = along c.args.first 93 23 24 c.in-93.is (λ rest. refl)

pub returns-in-126-clause-all : goal.returns-in-126-clause-all
unfolding symbol_of
returns-in-126-clause-all c = along c.args.first 126 24 25 c.in-126.is (λ rest. refl)

pub returns-in_default-clause-all : goal.returns-in_default-clause-all
returns-in_default-clause-all c = no_group c.args.first (λ is. omega arith) (λ is. omega arith) (λ is. omega arith) (λ is. omega arith) (λ is. omega arith) (λ is. omega arith) (λ is. omega arith) (λ is. omega arith) (λ is. omega arith) (λ is. omega arith) (λ is. omega arith) (λ is. omega arith) (λ is. omega arith) (λ is. omega arith) (λ is. omega arith) (λ is. omega arith)
