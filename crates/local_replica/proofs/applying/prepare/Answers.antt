use Rattle.std.proofs.Common.{◌≡◌, true}
use Rattle.local_replica.proofs.Posting.{made_by, grows_by}
use Rattle.local_replica.proofs.applying.prepare.Goals as goal

pub returns-clause-advances : goal.returns-clause-advances
returns-clause-advances g c = λ log len state. (grows_by c.args.store.now c.in_ok-txn.txn c.in_ok-made.made.0 c.args.entry.now _ c.in_ok-txn.ensures.begun c.in_ok-made.ensures.base c.in_ok-made.ensures.grows log len state).state

pub returns-clause-grows : goal.returns-clause-grows
returns-clause-grows g c = grows_by c.args.store.now c.in_ok-txn.txn c.in_ok-made.made.0 c.args.entry.now _ c.in_ok-txn.ensures.begun c.in_ok-made.ensures.base c.in_ok-made.ensures.grows

pub returns-clause-known : goal.returns-clause-known
returns-clause-known g c = made_by (λ m. g.E.Layers.knows c.come_up.new.engines m ≡ true) c.args.store.now c.in_ok-txn.txn c.in_ok-made.made.0 c.in_ok-txn.ensures.begun c.in_ok-made.ensures.base c.in_ok-made.ensures.known
