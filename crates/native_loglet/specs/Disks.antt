-- What a stop and a crash leave of the servers' disks.
use Rattle.std.specs.Prelude.{◌≡◌, ◌⊎◌, ℕ, if◌then◌else◌, List, slice_get, Some}
use Rattle.disk_model.specs.Disk.{bumped}
use Rattle.log_server.specs.View.{View, Survives}

-- a server whose disk is told to stop inside its write of this number, which one that has stopped isn't
abbrev pub armed_by : ℕ → View → View
armed_by after v = record v { disk = if v.disk.stopped then v.disk else record v.disk { armed = after }; stops = bumped v.stops }

-- each server with its disk is as it was, or is what the records of its disk spell: a crash leaves what a restart may find
abbrev pub KeepDisks : List View → List View → Type 0
KeepDisks before after = (i : ℕ) (v : View) → slice_get after i ≡ Some v → (slice_get before i ≡ Some v) ⊎ Survives v
