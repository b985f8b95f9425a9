use Rattle.std.specs.FinMap as finmap
use Rattle.engine_api.specs.Acted.{asked_in}
use Rattle.log_laws.proofs.Replies.{log_turn}
use Rattle.log_laws.proofs.acts.ranks_act_in_turn.Goals as goal

pub returns : goal.returns
returns c = λ log s q low. (log_turn finmap.empty (asked_in 0 log)).acted s q low
