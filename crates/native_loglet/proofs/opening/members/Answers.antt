use Rattle.std.proofs.Common.{subst, List, ◌≡◌, suc, ◌+◌, arith}
use Rattle.log_server.specs.View.{View}
use Rattle.native_loglet.specs.Moving.{AreOf}
use Rattle.native_loglet.proofs.Rules.{none_of, one_of_more, take_one, take_all}
use Rattle.native_loglet.proofs.opening.members.Goals as goal

pub loop-replica-init : goal.loop-replica-init
loop-replica-init g c = rw c.in_ok-members.ensures.items none_of

pub loop-replica-preserved : goal.loop-replica-preserved
loop-replica-preserved g c =
    let more : c.loop-replica.replica-index + 1 ≡ suc c.loop-replica.replica-index = omega arith in
    rw (more, take_one c.args.replicas.now c.loop-replica.replica-index c.replica-item.result (omega arith) c.replica-item.is, c.in_ok-push.ensures.items, c.new.ensures)
    (one_of_more _ _ c.replica-item.result c.known_length.result c.loop-replica.invariant c.known_length.ensures)

pub returns : goal.returns
returns g c = subst (λ (vs : List View). AreOf vs c.loop-replica.members.items) (take_all c.args.replicas.now c.loop-replica.replica-index (omega arith)) c.loop-replica.invariant
