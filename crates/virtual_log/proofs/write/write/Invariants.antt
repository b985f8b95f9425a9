use Rattle.chain_map.specs.Chain.{last_segment}
use Rattle.std.proofs.Common.{◌≡◌, ◌-◌, ◌^◌, None, ◌≤◌}
use Rattle.legal_journal.specs.Journal.{state_of}
use Rattle.virtual_log.specs.Turning.{Later}
use Rattle.virtual_log.specs.Writing.{WroteNone}
use Rattle.virtual_log.specs.Sealing.{SealsNone}
use Rattle.virtual_log.specs.Log.{GoesBy}
use Rattle.virtual_log.specs.Saying.{SaysNone}
use Rattle.virtual_log.specs.Causes.{CalmSince}
use Rattle.virtual_log.specs.Changing.{Lacks, IsGranted}
use Rattle.virtual_log.specs.Operating.{Operates}
use Rattle.virtual_log.specs.Attempts.{Idles}
use Rattle.virtual_log.proofs.write.write.Given as goal

abbrev pub invariant-write : goal.invariant-write
invariant-write g l =
    let t = g.T.Turns in
    let p = g.T.Law.Rules in
    record {
      later : Later p.law (t.seen l.fn.turns) (t.seen l.turns);
      who : t.who l.turns ≡ t.who l.fn.turns;
      goes_by : GoesBy (state_of (t.seen l.turns)) l.known.version l.known.chain l.known.tail;
      tail : l.known.tail ≡ l.fn.known.tail;
      rises : (last_segment l.fn.known.chain).id ≤ (last_segment l.known.chain).id;
      granted : IsGranted p.law.floor (state_of (t.seen l.turns)) l.known.tail l.change;
      lacks : Lacks l.change l.known.chain;
      quiet : WroteNone (t.who l.fn.turns) (t.seen l.fn.turns) (t.seen l.turns);
      unsealed : SealsNone (t.who l.fn.turns) (t.seen l.fn.turns) (t.seen l.turns);
      idle : Idles (t.who l.fn.turns) (t.seen l.fn.turns) (t.seen l.turns);
      silent : SaysNone (t.who l.fn.turns) (t.seen l.fn.turns) (t.seen l.turns);
      calm : CalmSince (t.who l.fn.turns) (t.seen l.fn.turns) (t.seen l.turns);
      closes : Operates (t.who l.fn.turns) None None (t.seen l.fn.turns) (t.seen l.turns);
    }

abbrev pub decreases-write : goal.decreases-write
decreases-write g l = 2 ^ 39 - l.known.version
