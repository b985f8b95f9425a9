use Rattle.std.proofs.Common.{◌≤◌, subst}
use Rattle.legal_journal.specs.Journal.{state_of, tail_of}
use Rattle.virtual_log.specs.Log.{LogView}
use Rattle.virtual_log.proofs.Going.{known_below}
use Rattle.virtual_log.proofs.log.VirtualLog.known.Goals as goal

pub returns-clause-within : goal.returns-clause-within
returns-clause-within g c =
    let p = g.T.Law.Rules in
    let s = c.self.inside in
    subst (λ (v : LogView). s.known.tail ≤ tail_of (state_of v.seen)) c.self.view_is
    (known_below p.law (g.T.Turns.seen s.turns) s.known.version s.known.tail s.known.chain c.self.invariant.legal c.self.invariant.goes_by)
