-- What a log server answers, and what it does.
use Rattle.std.specs.Prelude.{◌≡◌, ◌⊎◌, ℕ, Bool, true, false, ◌&&◌, if◌then◌else◌, List, Some}
use Rattle.disk_model.specs.Disk.{bumped}
use Rattle.quorum_cell.specs.declared.message.Ask.{Ask}
use Rattle.quorum_cell.specs.declared.message.Ask.TheVariants.{Trim}
use Rattle.quorum_cell.specs.declared.message.Told.{Told}
use Rattle.quorum_cell.specs.declared.message.Told.TheVariants.{DiskFault}
use Rattle.quorum_cell.specs.Servers.{Server, told, writes, written}
use Rattle.server_records.specs.Spelled.{server_of}
use Rattle.log_server.specs.View.{View, TakesWrite, MayFind}

-- what it holds once it has answered
abbrev pub after_ask : Server → Ask → Server
after_ask s ask = if s.up then written s ask else s

-- whether it writes before it answers
abbrev pub wants_write : Server → Ask → Bool
wants_write s ask = s.up && writes s ask

-- how many writes its record may take besides its own two: those of a compaction, which only a trim may have behind it
abbrev pub writes_behind : Ask → ℕ
writes_behind (Trim n) = 4
writes_behind ask = 0

-- a call counts no stop and no restart
abbrev pub CountsNothing : View → View → Type 0
CountsNothing old new = (new.stops ≡ old.stops) × (new.restarts ≡ old.restarts)

-- its disk failed in the write that the table wants, which counts one fault, and it is down
pub record Stops (old : View) (ask : Ask) (new : View) : Type 0 where
  pub wanted : wants_write old.server ask ≡ true
  pub server : new.server ≡ record old.server { up = false; torn = Some ask }
  pub faults : new.disk.faults ≡ bumped old.disk.faults
  pub word : new.disk.word ≡ old.disk.word
  pub counts : CountsNothing old new

-- it answers by the table, and does what the table says
pub record Tells (old : View) (ask : Ask) (answer : Told) (new : View) : Type 0 where
  pub told : answer ≡ told old.server ask
  pub server : new.server ≡ after_ask old.server ask
  -- where nothing is to be written, nothing is touched
  pub calm : wants_write old.server ask ≡ false → new ≡ old
  -- else it is the two writes of a record, with those of a compaction behind a trim
  pub write : wants_write old.server ask ≡ true → TakesWrite (writes_behind ask) old.disk new.disk
  pub counts : CountsNothing old new

abbrev pub Answers : View → Ask → Told → View → Type 0
Answers old ask DiskFault new = Stops old ask new
Answers old ask answer new = Tells old ask answer new

-- what a crash inside the call may leave: what one before it may leave, or what is held once it was answered
abbrev pub MayFindDuring : View → Ask → List (List ℕ) → Type 0
MayFindDuring v ask found = MayFind v found ⊎ (server_of found ≡ Some (after_ask v.server ask))
