use Rattle.std.proofs.Common.{refl}
use Rattle.sf_player.specs.Playing.{gathered}
use Rattle.sf_session.specs.Phases.{phase_line}
use Rattle.sf_session.proofs.Fed.{takes_fed, takes_played, left_behind, least}
use Rattle.sf_session.proofs.session.Session.take.Goals as goal

pub returns-clause-taken : goal.returns-clause-taken
returns-clause-taken c =
    let s = c.args.self.now in
    record {
      most = c.copy_out-taken.ensures.count;
      written = c.copy_out-taken.ensures.front;
      left = left_behind c.min-of_gathered.result c.copy_out-taken.result s.handed s.told (gathered s.player) (phase_line s.phase)
          (least c.min-of_gathered.result c.copy_out-taken.result s.handed (gathered s.player) c.gathered.result.now c.gathered.ensures c.min-of_gathered.ensures);
      phase = refl;
    }

pub returns-clause-fed : goal.returns-clause-fed
returns-clause-fed c = λ probes n m fed given F.
    let s = c.args.self.now in
    takes_fed F (returns-clause-taken c) (least c.min-of_gathered.result c.copy_out-taken.result s.handed (gathered s.player) c.gathered.result.now c.gathered.ensures c.min-of_gathered.ensures) refl refl

pub returns-clause-played : goal.returns-clause-played
returns-clause-played c = λ probes n m whole given P. takes_played P (returns-clause-taken c)

pub returns-clause-live : goal.returns-clause-live
returns-clause-live c = λ live. live
