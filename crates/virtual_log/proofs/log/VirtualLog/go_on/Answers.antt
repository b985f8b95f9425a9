use Rattle.std.proofs.Common.{◌≡◌, List, IfOk, IfErr, IfSome, IfNone, subst}
use Rattle.legal_journal.specs.declared.events.Event.{Event}
use Rattle.virtual_log.specs.declared.fault.Fault.TheVariants.{Memory}
use Rattle.virtual_log.specs.Turning.{IsAbove}
use Rattle.virtual_log.specs.Log.{LogView}
use Rattle.virtual_log.specs.Underway.{IsGoing, StaysGoing, LeavesOthers}
use Rattle.virtual_log.proofs.log.VirtualLog.go_on.Goals as goal

pub returns-clause-above : goal.returns-clause-above
returns-clause-above g c =
    let p = g.T.Law.Rules in
    let t = g.T.Turns in
    let m = c.go_on_with in
    let new = t.seen m.new.turns in
    let going = c.args.going.now in
    subst (λ (v : LogView). IfOk m.result (λ o. IfSome o (λ pos. (early : List Event) → IsGoing p.law.may v.who early v.seen v.chain going → IsAbove v.who early pos new))) c.self.view_is m.ensures.above

pub returns-clause-going : goal.returns-clause-going
returns-clause-going g c =
    let p = g.T.Law.Rules in
    let t = g.T.Turns in
    let m = c.go_on_with in
    let new = t.seen m.new.turns in
    let going = c.args.going.now in
    subst (λ (v : LogView). IfOk m.result (λ o. IfNone o (StaysGoing p.law.may v.who v.seen v.chain going new m.new.known.chain m.new.going))) c.self.view_is m.ensures.going

pub returns-clause-again : goal.returns-clause-again
returns-clause-again g c =
    let p = g.T.Law.Rules in
    let t = g.T.Turns in
    let m = c.go_on_with in
    let new = t.seen m.new.turns in
    let going = c.args.going.now in
    subst (λ (v : LogView). IfErr m.result (λ fault. fault ≡ Memory → StaysGoing p.law.may v.who v.seen v.chain going new m.new.known.chain m.new.going)) c.self.view_is m.ensures.again

pub returns-clause-others : goal.returns-clause-others
returns-clause-others g c =
    let p = g.T.Law.Rules in
    let t = g.T.Turns in
    let m = c.go_on_with in
    let new = t.seen m.new.turns in
    let going = c.args.going.now in
    subst (λ (v : LogView). LeavesOthers p.law.may v.who v.seen v.chain going new m.new.known.chain m.new.going) c.self.view_is m.ensures.others
