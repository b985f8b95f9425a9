use Rattle.local_store.proofs.Keeping.{none_stay}
use Rattle.local_store.proofs.store.Store.begin_on.Goals as goal

pub returns-in_default-clause-any_crash_back : goal.returns-in_default-clause-any_crash_back
returns-in_default-clause-any_crash_back g c = none_stay (g.D.Disk.view c.args.disk) c.requires.synced c.requires.empty
