use Rattle.std.proofs.Common.{◌≡◌, ◌∙◌, ap, sym, subst}
use Rattle.quorum_cell.specs.Servers.{is_sealed}
use Rattle.log_server.specs.View.{View}
use Rattle.loglet_api.specs.Servers.{TakesSome}
use Rattle.log_server.specs.Answers.{Answers}
use Rattle.native_loglet.specs.Natives.{state_in}
use Rattle.native_loglet.proofs.Serving.{state_spared, refused}
use Rattle.native_loglet.proofs.Rules.{known_sealed, down_sealed}
use Rattle.native_loglet.proofs.replica.Replica.ask_again.Goals as goal

pub invariant_of-self : goal.invariant_of-self
invariant_of-self g c = c.self.invariant ∙ ap (λ (v : View). is_sealed v.server) (sym c.in_err-told.ensures.memory)

pub invariant_of-self-2 : goal.invariant_of-self-2
invariant_of-self-2 g c =
    known_sealed c.send_again.new.server.server c.self.inside.sealed c.is_sealed_now-self-inside.result c.is_sealed_now-self-inside.ensures
    (λ down. c.self.invariant ∙ sym (down_sealed c.self.inside.server c.send_again.new.server c.args.ask.now c.in_ok-told.told c.in_ok-told.ensures.answers down))

pub returns-clause-answers : goal.returns-clause-answers
returns-clause-answers g c = subst (λ (v : View). Answers v c.args.ask.now c.in_ok-told.told c.send_again.new.server) c.self.view_is c.in_ok-told.ensures.answers

pub returns-in_err-told-clause-spared : goal.returns-in_err-told-clause-spared
returns-in_err-told-clause-spared g c = refused c.from_residual.result (subst (λ (v : View). TakesSome (state_in v) (state_in c.send_again.new.server)) c.self.view_is (state_spared c.self.inside.server c.send_again.new.server c.in_err-told.ensures.memory c.in_err-told.ensures.spared))
