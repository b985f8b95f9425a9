use Rattle.std.proofs.Common.{inr, Ok}
use Rattle.loglet_api.specs.declared.call.LogletCall.TheVariants.{Carry}
use Rattle.loglet_api.specs.declared.call.LogletAnswer.TheVariants.{Carried}
use Rattle.loglet_api.specs.View.{LogletView}
use Rattle.loglet_api.specs.Step.{LogletStep}
use Rattle.striped_loglet.specs.Calls.{CarriedOn, TakenOn}
use Rattle.striped_loglet.specs.declared.stripe.Inner.{Inner}
use Rattle.striped_loglet.specs.declared.stripe.Outcome.{Outcome}
use Rattle.striped_loglet.specs.declared.stripe.Outcome.TheVariants.{Going, Answered}
use Rattle.striped_loglet.proofs.stripe.carry_on.Goals as goal

-- a carry, and then the take of the answer
carried_taken : (old mid new : LogletView) (x : Inner) (word : _) (o : Outcome) → LogletStep old (Carry x.ticket word) Carried mid → TakenOn mid x o new → CarriedOn old x word (Ok o) new
carried_taken old mid new x word (Going y) step t = rw t.1 (step, t.0, t.2, rw t.1 at t.3)
carried_taken old mid new x word (Answered answer) step t = (mid, inr step, t)

pub returns-in-Ok-clause-step : goal.returns-in-Ok-clause-step
returns-in-Ok-clause-step g c = carried_taken (g.L.Loglet.view c.args.stripe.now) (g.L.Loglet.view c.carry.new.self) (g.L.Loglet.view c.taken-in-Ok.new.stripe) c.args.inner c.args.word c.taken-in-Ok.result c.in-Ok.ensures.step c.taken-in-Ok.ensures.step
