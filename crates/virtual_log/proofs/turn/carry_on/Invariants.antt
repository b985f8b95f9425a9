use Rattle.std.proofs.Common.{◌≡◌, ◌-◌, Some}
use Rattle.legal_journal.specs.Told.{Running}
use Rattle.legal_journal.specs.Journal.{state_of, IsOwn, patience}
use Rattle.virtual_log.specs.Turning.{OnlyOwn, Still, Later}
use Rattle.virtual_log.specs.Writing.{WroteNone}
use Rattle.virtual_log.specs.Causes.{CalmSince}
use Rattle.virtual_log.specs.Sealing.{SealsNone}
use Rattle.virtual_log.specs.Saying.{SaysDrawn}
use Rattle.virtual_log.specs.Operating.{Operates}
use Rattle.virtual_log.specs.Attempts.{Idles}
use Rattle.virtual_log.proofs.turn.carry_on.Given as goal

abbrev pub invariant-loop-answer : goal.invariant-loop-answer
invariant-loop-answer g l =
    let t = g.T.Turns in
    let p = g.T.Law.Rules in
    let ch = g.C.Chooser in
    record {
      later : Later p.law (t.seen l.fn.turns) (t.seen l.turns);
      who : t.who l.turns ≡ t.who l.fn.turns;
      own : (r : Running) → IsOwn ((state_of (t.seen l.fn.turns)).cells l.cell) (t.who l.fn.turns) l.ticket r → IsOwn ((state_of (t.seen l.turns)).cells l.cell) (t.who l.fn.turns) l.ticket r;
      still : OnlyOwn (t.who l.fn.turns) (t.seen l.fn.turns) (t.seen l.turns) → Still (state_of (t.seen l.fn.turns)) (state_of (t.seen l.turns));
      quiet : WroteNone (t.who l.fn.turns) (t.seen l.fn.turns) (t.seen l.turns);
      unsealed : SealsNone (t.who l.fn.turns) (t.seen l.fn.turns) (t.seen l.turns);
      idle : Idles (t.who l.fn.turns) (t.seen l.fn.turns) (t.seen l.turns);
      calm : CalmSince (t.who l.fn.turns) (t.seen l.fn.turns) (t.seen l.turns);
      closes : Operates (t.who l.fn.turns) (Some (record { loglet = l.cell; ticket = l.ticket })) (Some (record { loglet = l.cell; ticket = l.ticket })) (t.seen l.fn.turns) (t.seen l.turns);
      draws : SaysDrawn ch.gives (t.who l.fn.turns) (ch.at l.fn.chooser) (t.seen l.fn.turns) (ch.at l.chooser) (t.seen l.turns);
    }

abbrev pub decreases-loop-answer : goal.decreases-loop-answer
decreases-loop-answer g l = patience - ((state_of (g.T.Turns.seen l.turns)).cells l.cell).carried l.ticket
