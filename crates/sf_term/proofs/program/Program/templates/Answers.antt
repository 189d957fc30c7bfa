use Rattle.std.proofs.Common.{All, List, sym, subst}
use Rattle.sf_term.specs.Headers.{Header}
use Rattle.sf_term.specs.Arena.{HoldsTerm, headers_of}
use Rattle.sf_term.proofs.Extended.{bodies_held}
use Rattle.sf_term.proofs.program.Program.templates.Goals as goal

pub returns-clause-held : goal.returns-clause-held
unfolding headers_of
returns-clause-held c =
    let p = c.args.self.now in
    subst (λ (hs : List Header). All (λ (h : Header). HoldsTerm p h.body) hs) (sym c.deref.ensures.value) (bodies_held p)
