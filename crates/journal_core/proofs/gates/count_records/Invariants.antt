use Rattle.std.proofs.Common.{◌≡◌, ◌≤◌, ◌<◌, ◌+◌, ◌^◌, ◌-◌, length, drop}
use Rattle.disk_model.specs.Disk.{content}
use Rattle.journal_core.specs.Layout.{IsWalked}
use Rattle.journal_core.proofs.gates.count_records.Given as goal

abbrev pub invariant-loop-size : goal.invariant-loop-size
invariant-loop-size g l = record {
  same : (g.D.Disk.view l.disk).timeline ≡ (g.D.Disk.view l.fn.disk).timeline;
  walked : IsWalked l.count l.end (drop l.base (content (g.D.Disk.view l.fn.disk).timeline.now));
  few : l.count ≤ l.end;
  inside : l.base + l.end ≤ length (content (g.D.Disk.view l.fn.disk).timeline.now);
  fits : l.base + l.end + 1 < 2 ^ 64;
  armed : (g.D.Disk.view l.disk).armed ≡ (g.D.Disk.view l.fn.disk).armed;
  word : (g.D.Disk.view l.disk).word ≡ (g.D.Disk.view l.fn.disk).word;
  stopped : (g.D.Disk.view l.disk).stopped ≡ (g.D.Disk.view l.fn.disk).stopped;
  faults : (g.D.Disk.view l.disk).faults ≡ (g.D.Disk.view l.fn.disk).faults;
}

abbrev pub decreases-loop-size : goal.decreases-loop-size
decreases-loop-size g l = length (content (g.D.Disk.view l.fn.disk).timeline.now) - (l.base + l.end)
