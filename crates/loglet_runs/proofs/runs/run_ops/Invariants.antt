use Rattle.std.proofs.Common.{◌≡◌, ◌≤◌, ◌+◌, take, length, vec_len, vec_capacity}
use Rattle.std.specs.HashSet.{spare}
use Rattle.loglet_api.specs.Servers.{ServesAll}
use Rattle.loglet_runs.specs.Runs.{OpsRun, Tracks, made}
use Rattle.loglet_runs.proofs.runs.run_ops.Given as goal

-- the calls so far were made or skipped
abbrev pub invariant-loop-call : goal.invariant-loop-call
invariant-loop-call g l = record {
  ran : OpsRun ((goal.Loglet-dyn g l.fn.loglet.now).view l.fn.loglet.now.1) (take l.call-index l.calls) l.answers.items ((goal.Loglet-dyn g l.loglet.now).view l.loglet.now.1);
  served : ServesAll ((goal.Loglet-dyn g l.fn.loglet.now).serving l.fn.loglet.now.1) (made (take l.call-index l.calls) l.answers.items) ((goal.Loglet-dyn g l.loglet.now).serving l.loglet.now.1);
  tracked : Tracks ((goal.Loglet-dyn g l.loglet.now).view l.loglet.now.1) l.servers l.tickets;
  told : vec_len l.answers ≡ l.call-index;
  answers_room : length l.calls ≤ vec_capacity l.answers;
  tickets_room : length l.calls ≤ l.call-index + spare l.tickets;
}
