use Rattle.sf_spelling.proofs.Failing.{minus_is}
use Rattle.sf_spelling.proofs.read.integer_of.Goals as goal

pub returns-in_ok-n-in-len1-up : goal.returns-in_ok-n-in-len1-up
returns-in_ok-n-in-len1-up c =
    let read = c.in_ok-n-in-len1-up.ensures in
    let is = minus_is c.args.bytes.now read.0 c.in_ok-n-in-len1-up.after.now c.in-len1-up.len_at_least c.if-c-eq45.true read.1 in
    rw is.1 (c.narrow.ensures read.0 read.2)
