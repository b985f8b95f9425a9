use Rattle.std.specs.Arc.{arc_value}
use Rattle.local_store.proofs.Keeping.{seen_survives}
use Rattle.local_store.proofs.store.Store.into_parts.Goals as goal

pub returns-clause-survives : goal.returns-clause-survives
returns-clause-survives g c = let i = c.self.inside in seen_survives (arc_value i.base) i.kept c.args.self c.self.invariant c.self.view_is
