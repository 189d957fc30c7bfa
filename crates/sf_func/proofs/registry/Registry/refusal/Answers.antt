use Rattle.std.proofs.Common.{◌∙◌, sym, subst, ◌<◌, ◌≤◌, string_bytes}
use Rattle.std.proofs.lemmas.List.{length-map}
use Rattle.sf_func.proofs.Lookups.{is_there, is_new}
use Rattle.sf_func.proofs.registry.Registry.refusal.Goals as goal

pub returns-then-contains_key-clause-refused : goal.returns-then-contains_key-clause-refused
returns-then-contains_key-clause-refused g c =
    is_there string_bytes _ c.args.name.now c.args.self.now.entries.entries _ c.contains_key.ensures c.if-contains_key.true

pub returns-then-len-ge256-clause-refused : goal.returns-then-len-ge256-clause-refused
returns-then-len-ge256-clause-refused g c = (
  is_new string_bytes _ c.args.name.now c.args.self.now.entries.entries _ c.contains_key.ensures c.if-contains_key.false,
  subst (λ n. 256 ≤ n) (c.len.ensures.len ∙ sym (length-map c.args.self.now.entries.entries _)) c.if-len-ge256.true,
)

pub returns-else-len-ge256-clause-room : goal.returns-else-len-ge256-clause-room
returns-else-len-ge256-clause-room g c = (
  is_new string_bytes _ c.args.name.now c.args.self.now.entries.entries _ c.contains_key.ensures c.if-contains_key.false,
  subst (λ n. n < 256) (c.len.ensures.len ∙ sym (length-map c.args.self.now.entries.entries _)) c.if-len-ge256.false,
)
