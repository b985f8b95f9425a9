use Rattle.std.proofs.Common.{◌≡◌, ◌-◌, ℕ, List, length, None, ◌≤◌}
use Rattle.chain_map.specs.Chain.{last_segment}
use Rattle.legal_journal.specs.declared.events.Event.{Event}
use Rattle.legal_journal.specs.Journal.{state_of}
use Rattle.virtual_log.specs.Turning.{Later, IsAbove}
use Rattle.virtual_log.specs.Log.{GoesBy}
use Rattle.virtual_log.specs.Saying.{SaysDrawn}
use Rattle.virtual_log.specs.Sealing.{SealsNone}
use Rattle.virtual_log.specs.Causes.{CalmSince}
use Rattle.virtual_log.specs.Operating.{Operates}
use Rattle.virtual_log.proofs.calls.tail_on.Given as goal

abbrev pub invariant-segment : goal.invariant-segment
invariant-segment g l =
    let t = g.T.Turns in
    let p = g.T.Law.Rules in
    let ch = g.C.Chooser in
    record {
      later : Later p.law (t.seen l.fn.turns) (t.seen l.turns);
      who : t.who l.turns ≡ t.who l.fn.turns;
      goes_by : GoesBy (state_of (t.seen l.turns)) l.known.version l.known.chain l.known.tail;
      tail : l.known.tail ≡ l.fn.known.tail;
      rises : (last_segment l.fn.known.chain).id ≤ (last_segment l.known.chain).id;
      above : (pos : ℕ) (new : List Event) → Later p.law (t.seen l.turns) new → IsAbove (t.who l.fn.turns) (t.seen l.turns) pos new → IsAbove (t.who l.fn.turns) (t.seen l.fn.turns) pos new;
      draws : SaysDrawn ch.gives (t.who l.fn.turns) (ch.at l.fn.chooser) (t.seen l.fn.turns) (ch.at l.chooser) (t.seen l.turns);
      unsealed : SealsNone (t.who l.fn.turns) (t.seen l.fn.turns) (t.seen l.turns);
      calm : CalmSince (t.who l.fn.turns) (t.seen l.fn.turns) (t.seen l.turns);
      closes : Operates (t.who l.fn.turns) None None (t.seen l.fn.turns) (t.seen l.turns);
    }

abbrev pub decreases-segment : goal.decreases-segment
decreases-segment g l = length g.T.Law.Rules.law.shelf - (last_segment l.known.chain).id
