use Rattle.meta_register.proofs.Keeping.{seen_sound}
use Rattle.meta_register.proofs.meta.MetaRegisterRegister.version.Goals as goal

pub returns-in-Some-clause-sound : goal.returns-in-Some-clause-sound
returns-in-Some-clause-sound g c = let i = c.self.inside in seen_sound i.standing i.older i.counts i.kept c.args.self.now c.self.invariant c.self.view_is
