use Rattle.std.proofs.Common.{◌≡◌, ◌≤◌, ◌<◌, ◌+◌, ◌^◌, ◌-◌, length, drop}
use Rattle.disk_model.specs.Disk.{content}
use Rattle.journal_core.specs.Layout.{Whole}
use Rattle.journal_core.specs.Records.{payloads}
use Rattle.journal_core.proofs.gates.read_records.Given as goal

abbrev pub invariant-loop-found : goal.invariant-loop-found
invariant-loop-found g l = record {
  same : (g.D.Disk.view l.disk).timeline ≡ (g.D.Disk.view l.fn.disk).timeline;
  whole : Whole (payloads l.found.items) l.end (drop l.base (content (g.D.Disk.view l.fn.disk).timeline.now));
  inside : l.base + l.end ≤ length (content (g.D.Disk.view l.fn.disk).timeline.now);
  fits : l.base + l.end + 1 < 2 ^ 64;
  armed : (g.D.Disk.view l.disk).armed ≡ (g.D.Disk.view l.fn.disk).armed;
  word : (g.D.Disk.view l.disk).word ≡ (g.D.Disk.view l.fn.disk).word;
  stopped : (g.D.Disk.view l.disk).stopped ≡ (g.D.Disk.view l.fn.disk).stopped;
  faults : (g.D.Disk.view l.disk).faults ≡ (g.D.Disk.view l.fn.disk).faults;
}

abbrev pub decreases-loop-found : goal.decreases-loop-found
decreases-loop-found g l = length (content (g.D.Disk.view l.fn.disk).timeline.now) - (l.base + l.end)
