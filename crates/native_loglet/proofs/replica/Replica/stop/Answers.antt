use Rattle.std.proofs.Common.{◌∙◌, ap, sym, subst}
use Rattle.quorum_cell.specs.Servers.{is_sealed}
use Rattle.log_server.specs.View.{View}
use Rattle.native_loglet.specs.Natives.{state_in}
use Rattle.loglet_api.specs.Servers.{IsArmed}
use Rattle.native_loglet.proofs.Serving.{state_armed}
use Rattle.native_loglet.proofs.replica.Replica.stop.Goals as goal

pub invariant_of-self : goal.invariant_of-self
invariant_of-self g c = c.self.invariant ∙ ap (λ (v : View). is_sealed v.server) (sym c.stop.ensures.stops)

pub returns-clause-arms : goal.returns-clause-arms
returns-clause-arms g c = subst (λ (v : View). IsArmed c.args.after (state_in v) (state_in c.stop.new.self)) c.self.view_is (state_armed c.self.inside.server c.stop.new.self c.args.after c.stop.ensures.stops c.stop.ensures.arms)
