use Rattle.std.proofs.Common.{◌≡◌, List}
use Rattle.legal_journal.specs.declared.events.Event.{Event}
use Rattle.virtual_log.specs.declared.underway.Going.{Going}
use Rattle.virtual_log.specs.Underway.{IsGoing, AreApart}
use Rattle.worked_nodes.proofs.both.carry.Given as goal

abbrev pub invariant-turn : goal.invariant-turn
invariant-turn g l =
    let may = g.T.Law.Rules.law.may in
    let old = l.fn.log in
    record {
      who : l.log.who ≡ old.who;
      going : (early : List Event) × IsGoing may l.log.who early l.log.seen l.log.chain l.going;
      others : (early : List Event) (other : Going) → IsGoing may old.who early old.seen old.chain other → AreApart l.fn.going other
          → IsGoing may old.who early l.log.seen l.log.chain other × AreApart l.going other;
    }
