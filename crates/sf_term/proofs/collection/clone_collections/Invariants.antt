use Rattle.std.proofs.Common.{◌≡◌, take}
use Rattle.sf_term.specs.Entries.{collections_in}
use Rattle.sf_term.proofs.collection.clone_collections.Given as goal

abbrev pub invariant-loop-collection : goal.invariant-loop-collection
invariant-loop-collection l = collections_in l.copies.items ≡ collections_in (take l.collection-index l.collections)
