use Rattle.sf_text.proofs.Behind.{none_reached, next_reached}
use Rattle.sf_text.proofs.network.templates.Goals as goal

pub loop-version-init : goal.loop-version-init
loop-version-init c = none_reached c.args.version c.args.reader.now c.requires.blank

pub loop-version-preserved : goal.loop-version-preserved
loop-version-preserved c =
    next_reached c.args.version c.args.reader.now.cursor.tokens.now c.loop-version.reader c.template.new.reader c.loop-version.invariant c.in_ok-template.ensures.reads c.in_ok-template.ensures.placed
