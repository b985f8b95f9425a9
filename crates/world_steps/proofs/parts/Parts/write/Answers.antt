use Rattle.world_steps.specs.Laws.{any_append, any_trim}
use Rattle.world_steps.proofs.Fits.{version_small}
use Rattle.world_steps.proofs.parts.Parts.write.Goals as goal

pub ask-requires : goal.ask-requires
ask-requires c = version_small any_append any_trim c.args.self.now c.requires
