use Rattle.std.proofs.Common.{◌≡◌, ◌∙◌, ap, sym, subst}
use Rattle.quorum_cell.specs.Servers.{is_sealed}
use Rattle.log_server.specs.View.{View}
use Rattle.loglet_api.specs.Servers.{TakesSome}
use Rattle.log_server.specs.Answers.{Answers}
use Rattle.native_loglet.specs.Natives.{state_in}
use Rattle.native_loglet.proofs.Serving.{state_spared, refused}
use Rattle.native_loglet.proofs.Rules.{known_sealed, down_sealed}
use Rattle.native_loglet.proofs.replica.Replica.ask.Goals as goal

pub invariant_of-self : goal.invariant_of-self
invariant_of-self g c = c.self.invariant ∙ ap (λ (v : View). is_sealed v.server) (sym c.in_err-told.ensures.memory)

pub invariant_of-self-2 : goal.invariant_of-self-2
invariant_of-self-2 g c =
    known_sealed c.send.new.server.server c.self.inside.sealed c.is_sealed_now-self-inside.result c.is_sealed_now-self-inside.ensures
    (λ down. c.self.invariant ∙ sym (down_sealed c.self.inside.server c.send.new.server c.requires.there.0 c.in_ok-told.told (c.in_ok-told.ensures.answers c.requires.there.0 c.requires.there.1) down))

pub returns-clause-answers : goal.returns-clause-answers
returns-clause-answers g c = λ ask asked. subst (λ (v : View). Answers v ask c.in_ok-told.told c.send.new.server) c.self.view_is (c.in_ok-told.ensures.answers ask asked)

pub returns-in_err-told-clause-spared : goal.returns-in_err-told-clause-spared
returns-in_err-told-clause-spared g c = refused c.from_residual.result (subst (λ (v : View). TakesSome (state_in v) (state_in c.send.new.server)) c.self.view_is (state_spared c.self.inside.server c.send.new.server c.in_err-told.ensures.memory c.in_err-told.ensures.spared))
