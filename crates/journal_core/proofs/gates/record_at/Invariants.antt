use Rattle.std.proofs.Common.{◌≡◌, ◌≤◌, ◌-◌, length, drop}
use Rattle.disk_model.specs.Disk.{content}
use Rattle.journal_core.specs.Layout.{IsWalked}
use Rattle.journal_core.proofs.gates.record_at.Given as goal

abbrev pub invariant-loop-before : goal.invariant-loop-before
invariant-loop-before g l = record {
  same : (g.D.Disk.view l.disk).timeline ≡ (g.D.Disk.view l.fn.disk).timeline;
  behind : l.base ≤ l.place;
  walked : IsWalked l._before (l.place - l.base) (drop l.base (content (g.D.Disk.view l.fn.disk).timeline.now));
  inside : l.place ≤ length (content (g.D.Disk.view l.fn.disk).timeline.now);
  armed : (g.D.Disk.view l.disk).armed ≡ (g.D.Disk.view l.fn.disk).armed;
  word : (g.D.Disk.view l.disk).word ≡ (g.D.Disk.view l.fn.disk).word;
  stopped : (g.D.Disk.view l.disk).stopped ≡ (g.D.Disk.view l.fn.disk).stopped;
  faults : (g.D.Disk.view l.disk).faults ≡ (g.D.Disk.view l.fn.disk).faults;
}
