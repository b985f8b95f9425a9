use Rattle.std.proofs.Common.{◌≡◌, ◌⊎◌, true, false, ◌≤◌, ◌+◌, ◌-◌, ◌*◌, if◌then◌else◌}
use Rattle.disk_model.specs.Crash.{AnyCrash}
use Rattle.disk_model.specs.Disk.{Rose}
use Rattle.virtual_log.specs.Turning.{Later}
use Rattle.replica_api.specs.Replica.{SpellsOne, saved_in}
use Rattle.base_engine.specs.Arming.{LeavesArming, repaired}
use Rattle.base_engine.specs.Following.{Follows, IsKnown, IsFound, GoesOn, KeepsTail}
use Rattle.base_engine.proofs.Following.{turns_left}
use Rattle.base_engine.proofs.play.play.Given as goal

abbrev pub invariant-entry : goal.invariant-entry
invariant-entry g l =
    let p = g.L.Law.Rules in
    let t = g.L.SharedLog in
    let r = g.R.Replica in
    let v = r.shows l.replica in
    let w = r.shows l.fn.replica in
    record {
      later : Later p.law (t.seen l.fn.log) (t.seen l.log);
      who : t.who l.log ≡ t.who l.fn.log;
      known : t.reaches l.log ≡ t.reaches l.fn.log;
      follows : Follows t.holds r.meaning (t.seen l.log) v;
      bounded : IsKnown (t.reaches l.log) v;
      forward : w.cursor ≤ v.cursor;
      went : GoesOn t.holds r.meaning.state (t.seen l.log) (saved_in w) (saved_in v);
      below : (v.cursor ≡ w.cursor) ⊎ (v.cursor ≤ l.to);
      counts : w.faults ≤ v.faults;
      up : l.spare ≡ false → v.down ≡ false;
      arming : LeavesArming 0 w v;
      used : l.spare ≡ false → (w.down ≡ true) ⊎ Rose w.faults v.faults;
      spent : v.faults ≡ (if l.spare then w.faults else repaired w);
      stays : l.spare ≡ true → v.down ≡ w.down;
      kept : v.kept ≡ w.kept;
      origin : v.origin ≡ w.origin;
      quiet : KeepsTail (t.who l.fn.log) w.cursor (t.seen l.fn.log) (t.seen l.log);
      any_crash : AnyCrash w.disk v.disk (SpellsOne r.meaning.spells (IsFound t.holds r.meaning.state (t.seen l.log) w.cursor));
    }

abbrev pub decreases-entry : goal.decreases-entry
decreases-entry g l = 2 * (l.to - (g.R.Replica.shows l.replica).cursor) + turns_left l.spare
