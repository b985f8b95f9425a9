use Rattle.std.proofs.Common.{arith, ap}
use Rattle.world_steps.specs.Parts.{World}
use Rattle.world_steps.specs.Laws.{any_append, any_trim}
use Rattle.world_steps.proofs.Fits.{version_small}
use Rattle.world_steps.proofs.parts.Parts.mend.Goals as goal

pub mend-requires : goal.mend-requires
mend-requires c = omega (arith, version_small any_append any_trim c.args.self.now c.requires, ap (λ (w : World). w.register.version) c.self.view_is)
