use Rattle.std.proofs.Common.{map}
use Rattle.sf_value.specs.Keys.{key_of}
use Rattle.sf_value.proofs.Listing.{new_among}
use Rattle.sf_value.proofs.keys.note_new.Goals as goal

pub returns-in-None-clause-added : goal.returns-in-None-clause-added
returns-in-None-clause-added c = new_among (key_of c.args.key.now) (map key_of c.args.keys.now) c.place_among.result c.is_none.result c.place_among.ensures c.is_none.ensures
