use Rattle.std.specs.Arc.{arc_value}
use Rattle.local_store.proofs.Keeping.{counts_records}
use Rattle.local_store.proofs.store.Store.records.Goals as goal

pub returns : goal.returns
returns g c = λ up. let i = c.self.inside in counts_records (arc_value i.base) i.kept c.args.self.now c.self.invariant c.self.view_is c.count.result c.count.ensures up
