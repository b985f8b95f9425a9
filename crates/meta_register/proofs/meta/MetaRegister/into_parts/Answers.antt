use Rattle.meta_register.proofs.Keeping.{seen_survives}
use Rattle.meta_register.proofs.meta.MetaRegister.into_parts.Goals as goal

pub returns-clause-survives : goal.returns-clause-survives
returns-clause-survives g c = let i = c.self.inside in seen_survives i.standing i.older i.counts i.kept c.args.self c.self.invariant c.self.view_is
