use Rattle.std.proofs.Common.{refl, arith}
use Rattle.sf_lex.specs.Scanning.{keyword_of}
use Rattle.sf_lex.proofs.Groups.{along, no_group}
use Rattle.sf_lex.proofs.word.place_of.Goals as goal

pub returns-in-66-clause-all : goal.returns-in-66-clause-all
unfolding keyword_of
returns-in-66-clause-all c = along c.args.first 66 0 1 c.in-66.is (λ rest. refl)

pub returns-in-69-clause-all : goal.returns-in-69-clause-all
unfolding keyword_of
returns-in-69-clause-all c = along c.args.first 69 1 2 c.in-69.is (λ rest. refl)

pub returns-in-73-clause-all : goal.returns-in-73-clause-all
unfolding keyword_of
returns-in-73-clause-all c = along c.args.first 73 2 3 c.in-73.is (λ rest. refl)

pub returns-in-84-clause-all : goal.returns-in-84-clause-all
unfolding keyword_of
returns-in-84-clause-all c = along c.args.first 84 3 5 c.in-84.is (λ rest. refl)

pub returns-in-85-clause-all : goal.returns-in-85-clause-all
unfolding keyword_of
returns-in-85-clause-all c = along c.args.first 85 5 6 c.in-85.is (λ rest. refl)

pub returns-in-95-clause-all : goal.returns-in-95-clause-all
unfolding keyword_of
returns-in-95-clause-all c = along c.args.first 95 6 7 c.in-95.is (λ rest. refl)

pub returns-in-97-clause-all : goal.returns-in-97-clause-all
unfolding keyword_of
returns-in-97-clause-all c = along c.args.first 97 7 14 c.in-97.is (λ rest. refl)

pub returns-in-99-clause-all : goal.returns-in-99-clause-all
unfolding keyword_of
returns-in-99-clause-all c = along c.args.first 99 14 18 c.in-99.is (λ rest. refl)

pub returns-in-100-clause-all : goal.returns-in-100-clause-all
unfolding keyword_of
returns-in-100-clause-all c = along c.args.first 100 18 28 c.in-100.is (λ rest. refl)

pub returns-in-101-clause-all : goal.returns-in-101-clause-all
unfolding keyword_of
returns-in-101-clause-all c = along c.args.first 101 28 34 c.in-101.is (λ rest. refl)

pub returns-in-102-clause-all : goal.returns-in-102-clause-all
unfolding keyword_of
returns-in-102-clause-all c = along c.args.first 102 34 41 c.in-102.is (λ rest. refl)

pub returns-in-103-clause-all : goal.returns-in-103-clause-all
unfolding keyword_of
returns-in-103-clause-all c = along c.args.first 103 41 43 c.in-103.is (λ rest. refl)

pub returns-in-104-clause-all : goal.returns-in-104-clause-all
unfolding keyword_of
returns-in-104-clause-all c = along c.args.first 104 43 44 c.in-104.is (λ rest. refl)

pub returns-in-105-clause-all : goal.returns-in-105-clause-all
unfolding keyword_of
returns-in-105-clause-all c = along c.args.first 105 44 52 c.in-105.is (λ rest. refl)

pub returns-in-107-clause-all : goal.returns-in-107-clause-all
unfolding keyword_of
returns-in-107-clause-all c = along c.args.first 107 52 54 c.in-107.is (λ rest. refl)

pub returns-in-108-clause-all : goal.returns-in-108-clause-all
unfolding keyword_of
returns-in-108-clause-all c = along c.args.first 108 54 58 c.in-108.is (λ rest. refl)

pub returns-in-109-clause-all : goal.returns-in-109-clause-all
unfolding keyword_of
returns-in-109-clause-all c = along c.args.first 109 58 63 c.in-109.is (λ rest. refl)

pub returns-in-110-clause-all : goal.returns-in-110-clause-all
unfolding keyword_of
returns-in-110-clause-all c = along c.args.first 110 63 69 c.in-110.is (λ rest. refl)

pub returns-in-111-clause-all : goal.returns-in-111-clause-all
unfolding keyword_of
returns-in-111-clause-all c = along c.args.first 111 69 71 c.in-111.is (λ rest. refl)

pub returns-in-112-clause-all : goal.returns-in-112-clause-all
unfolding keyword_of
returns-in-112-clause-all c = along c.args.first 112 71 75 c.in-112.is (λ rest. refl)

pub returns-in-114-clause-all : goal.returns-in-114-clause-all
unfolding keyword_of
returns-in-114-clause-all c = along c.args.first 114 75 80 c.in-114.is (λ rest. refl)

pub returns-in-115-clause-all : goal.returns-in-115-clause-all
unfolding keyword_of
returns-in-115-clause-all c = along c.args.first 115 80 86 c.in-115.is (λ rest. refl)

pub returns-in-116-clause-all : goal.returns-in-116-clause-all
unfolding keyword_of
returns-in-116-clause-all c = along c.args.first 116 86 91 c.in-116.is (λ rest. refl)

pub returns-in-117-clause-all : goal.returns-in-117-clause-all
unfolding keyword_of
returns-in-117-clause-all c = along c.args.first 117 91 92 c.in-117.is (λ rest. refl)

pub returns-in_default-clause-all : goal.returns-in_default-clause-all
returns-in_default-clause-all c = no_group c.args.first (λ is. omega arith) (λ is. omega arith) (λ is. omega arith) (λ is. omega arith) (λ is. omega arith) (λ is. omega arith) (λ is. omega arith) (λ is. omega arith) (λ is. omega arith) (λ is. omega arith) (λ is. omega arith) (λ is. omega arith) (λ is. omega arith) (λ is. omega arith) (λ is. omega arith) (λ is. omega arith) (λ is. omega arith) (λ is. omega arith) (λ is. omega arith) (λ is. omega arith) (λ is. omega arith) (λ is. omega arith) (λ is. omega arith) (λ is. omega arith)
