use Rattle.std.proofs.Common.{◌≡◌, drop}
use Rattle.sf_prim.specs.Links.{links_worth, held}
use Rattle.sf_prim.proofs.chain.+run.Given as goal

abbrev pub invariant-run_links-loop-link : goal.invariant-run_links-loop-link
invariant-run_links-loop-link g l =
    links_worth l.links (g.R.Holds.answers l.functions) l.fn.value ≡ links_worth (drop l.link-index l.links) (g.R.Holds.answers l.functions) (held l.number l.value)
