use Rattle.meta_register.proofs.Keeping.{counts_records}
use Rattle.meta_register.proofs.meta.MetaRegister.records.Goals as goal

pub returns : goal.returns
returns g c = λ up. let i = c.self.inside in counts_records i.standing i.older i.counts i.kept c.args.self.now c.self.invariant c.self.view_is c.count.result c.count.ensures up
