use Rattle.std.proofs.Common.{List, IfOk, subst}
use Rattle.legal_journal.specs.declared.events.Event.{Event}
use Rattle.virtual_log.specs.declared.underway.Going.{Going}
use Rattle.virtual_log.specs.Log.{LogView}
use Rattle.virtual_log.specs.Underway.{IsGoing, AreApart}
use Rattle.virtual_log.proofs.log.VirtualLog.start_append.Goals as goal

pub returns-clause-others : goal.returns-clause-others
returns-clause-others g c =
    let p = g.T.Law.Rules in
    let t = g.T.Turns in
    let m = c.start_append_on in
    let new = t.seen m.new.turns in
    subst (λ (v : LogView). (early : List Event) (other : Going) → IsGoing p.law.may v.who early v.seen v.chain other
    → IsGoing p.law.may v.who early new c.self.inside.known.chain other × IfOk m.result (λ going. AreApart going other)) c.self.view_is m.ensures.others
