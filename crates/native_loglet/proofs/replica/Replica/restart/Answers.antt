use Rattle.std.proofs.Common.{◌≡◌, ◌∙◌, false, ap, sym, subst}
use Rattle.std.specs.Prelude.{Ok}
use Rattle.quorum_cell.specs.Servers.{is_sealed}
use Rattle.log_server.specs.View.{View}
use Rattle.loglet_api.specs.Servers.{RestartsTo, MayReopen}
use Rattle.native_loglet.specs.Natives.{state_in}
use Rattle.native_loglet.proofs.Rules.{known_sealed, restart_sealed, value_or}
use Rattle.native_loglet.proofs.Serving.{state_reopened, state_down, refused}
use Rattle.native_loglet.proofs.replica.Replica.restart.Goals as goal

pub invariant_of-self : goal.invariant_of-self
invariant_of-self g c = c.self.invariant ∙ ap (λ (v : View). is_sealed v.server) (sym c.in_err-up.ensures.memory.1)

pub invariant_of-self-2 : goal.invariant_of-self-2
invariant_of-self-2 g c =
    known_sealed c.restart.new.self.server c.self.inside.sealed c.is_sealed_now-self-inside.result c.is_sealed_now-self-inside.ensures
    (restart_sealed c.self.inside.server.server c.restart.new.self.server c.self.inside.sealed c.in_ok-up.up c.self.invariant (λ u. c.in_ok-up.ensures.restarted (ap (λ x. Ok x) u)) (λ u. ap (λ (v : View). v.server) (c.in_ok-up.ensures.failed (ap (λ x. Ok x) u)).0))

pub returns-in_err-up-clause-spared : goal.returns-in_err-up-clause-spared
returns-in_err-up-clause-spared g c =
    let v : View = c.self.inside.server in
    refused c.from_residual.result
    (subst (λ (x : View). MayReopen c.args.word (state_in x) (state_in c.restart.new.self)) c.self.view_is
    (state_down c.args.word v c.restart.new.self c.in_err-up.ensures.memory.0 c.in_err-up.ensures.memory.1 c.in_err-up.ensures.memory.2 c.in_err-up.ensures.memory.3))

pub returns-clause-rises : goal.returns-clause-rises
returns-clause-rises g c =
    let v : View = c.self.inside.server in
    subst (λ (x : View). RestartsTo c.args.word c.in_ok-up.up (state_in x) (state_in c.restart.new.self)) c.self.view_is
    (state_reopened c.args.word v c.restart.new.self c.in_ok-up.up (record {
      calm = λ u. (let y = c.in_ok-up.ensures.up u in (ap (value_or false) y.0, y.1));
      restarted = λ u. c.in_ok-up.ensures.restarted (ap (λ x. Ok x) u);
      failed = λ u. c.in_ok-up.ensures.failed (ap (λ x. Ok x) u);
      no_fault = λ u. c.in_ok-up.ensures.no_fault (ap (λ x. Ok x) u);
      word_is = λ u. c.in_ok-up.ensures.word (ap (λ x. Ok x) u);
      disarmed = λ u. c.in_ok-up.ensures.disarmed (ap (λ x. Ok x) u);
      counted = λ u. c.in_ok-up.ensures.counted (ap (λ x. Ok x) u);
      stops = c.restart.ensures.stops;
    }))
