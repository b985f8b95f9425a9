use Rattle.std.proofs.Common.{◌≡◌}
use Rattle.snap_reads.specs.declared.change.Published.{Published}
use Rattle.snap_reads.proofs.Showing.{publishes_ok, publishes_not, publishes_owed}
use Rattle.snap_reads.proofs.snap.Snap.publish.Goals as goal

pub returns-clause-ok : goal.returns-clause-ok
returns-clause-ok g c = publishes_ok (record { pos = c.args.pos; changes = c.args.changes.now }) c.publish_in.result _ c.args.self.now _ c.self.view_is c.publish_in.ensures.outcome

pub returns-clause-not_taken : goal.returns-clause-not_taken
returns-clause-not_taken g c = publishes_not (record { pos = c.args.pos; changes = c.args.changes.now }) c.publish_in.result _ c.args.self.now _ c.self.view_is c.publish_in.ensures.outcome

pub returns-clause-owed : goal.returns-clause-owed
returns-clause-owed g c = publishes_owed (record { pos = c.args.pos; changes = c.args.changes.now }) c.publish_in.result _ c.args.self.now _ c.self.view_is c.publish_in.ensures.outcome
