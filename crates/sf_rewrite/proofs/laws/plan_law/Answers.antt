use Rattle.sf_rewrite.proofs.Theorem.{plan_gives, plan_no_more}
use Rattle.sf_rewrite.proofs.laws.plan_law.Goals as goal

pub returns-clause-gives : goal.returns-clause-gives
returns-clause-gives k = λ n m P Q L o c N R G. plan_gives n m P Q L o c N R G

pub returns-clause-no_more : goal.returns-clause-no_more
returns-clause-no_more k = λ n m P Q L o d N R G. plan_no_more n m P Q L o d N R G
