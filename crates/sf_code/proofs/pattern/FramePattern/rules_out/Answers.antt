use Rattle.std.proofs.Common.{◌≡◌, Bool, true≢false, Option, Some, None, is_some, false, refl, sym, ◌∙◌}
use Rattle.std.proofs.lemmas.Bool.{not-true}
use Rattle.sf_code.proofs.pattern.FramePattern.rules_out.Goals as goal

is_absent : {X : Type 0} (o : Option X) (b : Bool) → b ≡ is_some o → b ≡ false → o ≡ None
is_absent None b is absent = refl
is_absent (Some x) b is absent = absurd (true≢false (sym is ∙ absent))

pub returns-in-Some : goal.returns-in-Some
returns-in-Some c = λ h. is_absent _ c.contains_key.result (c.contains_key.ensures ∙ c.args.self.now.indexed c.in-Some.names c.in-Some.is c.args.name.now) (not-true _ h)
