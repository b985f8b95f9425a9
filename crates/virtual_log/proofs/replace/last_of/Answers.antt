use Rattle.std.proofs.Common.{◌∙◌, ap}
use Rattle.chain_map.specs.Chain.{last_of_segments}
use Rattle.virtual_log.proofs.Lasts.{last_is}
use Rattle.virtual_log.proofs.replace.last_of.Goals as goal

pub returns-in-Some : goal.returns-in-Some
returns-in-Some c = last_is c.as_slice.result.now _ c.in-Some.ensures.value ∙ ap last_of_segments c.as_slice.ensures
