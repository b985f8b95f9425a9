use Rattle.fabric_core.proofs.OneThread.{may_now, turn_of}
use Rattle.fabric_core.proofs.own.OwnTurns.turn.Goals as goal

pub apply-requires : goal.apply-requires
apply-requires g c =
    let p = g.P.Rules in
    let s = c.args.self.now in
    may_now p.law s.who s.fabric.journal c.args.call c.requires.may c.journal-seen.ensures.legal

pub returns-clause-turn : goal.returns-clause-turn
returns-clause-turn g c =
    let p = g.P.Rules in
    let s = c.args.self.now in
    turn_of p.law s.who s.fabric.journal c.args.call c.apply.result c.apply.new.self.journal c.apply.ensures.adds c.apply.ensures.legal
