use Rattle.std.proofs.Common.{◌≡◌, ◌-◌, ◌≤◌, true, false}
use Rattle.quorum_cell.specs.Servers.{length_of, is_sealed}
use Rattle.file_loglet.specs.Held.{IsCalm}
use Rattle.file_loglet.specs.Later.{records_between, TakesRecords}
use Rattle.file_loglet.proofs.Heeding.{lacking, GoesOnBy}
use Rattle.file_loglet.proofs.decide.store_up_to.Given as goal

abbrev pub invariant-loop-server : goal.invariant-loop-server
invariant-loop-server g l = record {
  rises : length_of l.initial.server.server ≤ length_of l.server.server;
  up : l.server.server.up ≡ true;
  unsealed : is_sealed l.server.server ≡ false;
  calm : IsCalm l.initial.server.disk l.server.disk;
  counted : TakesRecords (records_between l.initial.server.server l.server.server) l.initial.server.disk.armed l.server.disk.armed;
  heeds : GoesOnBy l.initial.server.server (lacking l.entries l.initial.server.server l.end) l.server.server (lacking l.entries l.server.server l.end);
}

abbrev pub decreases-loop-server : goal.decreases-loop-server
decreases-loop-server g l = l.end - length_of l.server.server
