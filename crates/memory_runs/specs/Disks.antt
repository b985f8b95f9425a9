-- Disks that nothing was written to.
use Rattle.std.specs.Prelude.{◌≡◌, false, []}
use Rattle.disk_model.specs.Disk.{DiskView, reads, IsSynced}

-- the disk is empty, with nothing pending on it and no fault counted
pub record IsFreshDisk (v : DiskView) : Type 0 where
  pub empty : reads v ≡ []
  pub synced : IsSynced v
  pub none_counted : v.faults ≡ 0

-- nobody stopped it, or asked for that: it isn't armed and not stopped, and was never reopened
pub record IsUntouched (v : DiskView) : Type 0 where
  pub unarmed : v.armed ≡ 0
  pub running : v.stopped ≡ false
  pub first : v.word ≡ 0
