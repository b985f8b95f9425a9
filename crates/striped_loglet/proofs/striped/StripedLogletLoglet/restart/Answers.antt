use Rattle.std.proofs.Common.{◌<◌, length, map, set, ◌∙◌, arith}
use Rattle.loglet_api.specs.declared.call.LogletCall.TheVariants.{Restart}
use Rattle.loglet_api.specs.Answers.{restart_answer}
use Rattle.striped_loglet.proofs.Bridge.{step_whole}
use Rattle.striped_loglet.proofs.Wholes.{restart_whole, server_there, server_below, server_of_all, server_called}
use Rattle.striped_loglet.proofs.Serving.{served, restart_served, restart_length}
use Rattle.striped_loglet.proofs.Handing.{serves_from, server_handed}
use Rattle.striped_loglet.proofs.Works.{rest_called}
use Rattle.striped_loglet.proofs.striped.StripedLogletLoglet.restart.Goals as goal

pub place_of-i-requires : goal.place_of-i-requires
place_of-i-requires g c =
    let i = c.self.inside in
    rw c.as_slice.ensures.value (server_of_all g.L.Loglet.view g.L.Loglet.serving i.shape i.stripes.items i.marks i.pending _ c.args.server c.self.view_is c.self.invariant.0 c.requires)

pub index_mut-requires : goal.index_mut-requires
index_mut-requires g c =
    let i = c.self.inside in
    let l : c.place_of-i.result.0 < length i.stripes.items = server_there g.L.Loglet.view i.stripes.items c.place_of-i.result.0 c.place_of-i.result.1 (rw c.as_slice.ensures.value at c.place_of-i.ensures.place) in
    omega (arith, l)

pub restart_on-requires : goal.restart_on-requires
restart_on-requires g c =
    let i = c.self.inside in
    server_below g.L.Loglet.view i.stripes.items c.place_of-i.result.0 c.place_of-i.result.1 c.index_mut.result.now (rw c.as_slice.ensures.value at c.place_of-i.ensures.place) c.index_mut.ensures.value

pub invariant_of-self : goal.invariant_of-self
invariant_of-self g c =
    let i = c.self.inside in
    let l : c.place_of-i.result.0 < length i.stripes.items = server_there g.L.Loglet.view i.stripes.items c.place_of-i.result.0 c.place_of-i.result.1 (rw c.as_slice.ensures.value at c.place_of-i.ensures.place) in (
      (restart_whole g.L.Loglet.view i.shape i.stripes.items i.marks i.pending c.place_of-i.result.0 c.args.server c.place_of-i.result.1 c.args.word c.index_mut.result.now c.restart_on.new.stripe c.restart_on.result c.self.invariant.0 l c.index_mut.ensures.value c.restart_on.ensures.step).0,
      restart_length g.L.Loglet.serving i.stripes.items c.place_of-i.result.0 c.place_of-i.result.1 c.args.server c.args.word c.restart_on.result c.index_mut.result.now c.restart_on.new.stripe l c.index_mut.ensures.value (rw c.as_slice.ensures.value at c.place_of-i.ensures.each) c.restart_on.ensures.serves ∙ c.self.invariant.1,
    )

pub returns-clause-step : goal.returns-clause-step
returns-clause-step g c =
    let i = c.self.inside in
    let l : c.place_of-i.result.0 < length i.stripes.items = server_there g.L.Loglet.view i.stripes.items c.place_of-i.result.0 c.place_of-i.result.1 (rw c.as_slice.ensures.value at c.place_of-i.ensures.place) in
    step_whole g.L.Loglet.view g.L.Loglet.serving i.shape i.stripes.items _ i.marks i.marks i.pending i.pending _ _ _ c.self.view_is c.self.invariant.0 (invariant_of-self g c).0 c.requires
    (restart_whole g.L.Loglet.view i.shape i.stripes.items i.marks i.pending c.place_of-i.result.0 c.args.server c.place_of-i.result.1 c.args.word c.index_mut.result.now c.restart_on.new.stripe c.restart_on.result c.self.invariant.0 l c.index_mut.ensures.value c.restart_on.ensures.step).1

pub returns-clause-stripe : goal.returns-clause-stripe
returns-clause-stripe g c =
    let i = c.self.inside in
    server_called g.L.Loglet.view g.L.Loglet.serving i.shape i.stripes.items i.marks i.pending _ c.args.server c.place_of-i.result.0 c.place_of-i.result.1 (λ inner. Restart inner c.args.word) (restart_answer c.restart_on.result) c.index_mut.result.now c.restart_on.new.stripe c.self.view_is (rw c.as_slice.ensures.value at c.place_of-i.ensures.place) c.index_mut.ensures.value c.restart_on.ensures.step

pub returns-clause-handed : goal.returns-clause-handed
returns-clause-handed g c =
    let i = c.self.inside in
    server_handed g.L.Loglet.view g.L.Loglet.serving i.shape i.stripes.items i.marks i.pending i.given _ c.args.server c.place_of-i.result.0 c.place_of-i.result.1 (λ inner. Restart inner c.args.word) (restart_answer c.restart_on.result) c.index_mut.result.now c.restart_on.new.stripe c.self.view_is (rw c.as_slice.ensures.value at c.place_of-i.ensures.place) c.index_mut.ensures.value c.restart_on.ensures.serves

pub returns-clause-serves : goal.returns-clause-serves
returns-clause-serves g c =
    let i = c.self.inside in
    let l : c.place_of-i.result.0 < length i.stripes.items = server_there g.L.Loglet.view i.stripes.items c.place_of-i.result.0 c.place_of-i.result.1 (rw c.as_slice.ensures.value at c.place_of-i.ensures.place) in
    serves_from g.L.Loglet.view g.L.Loglet.serving i.shape i.stripes.items i.marks i.pending i.given _ (Restart c.args.server c.args.word) (restart_answer c.restart_on.result) (served (map g.L.Loglet.serving (set i.stripes.items c.place_of-i.result.0 c.restart_on.new.stripe)) i.given) c.self.view_is
    (restart_served g.L.Loglet.serving i.stripes.items c.place_of-i.result.0 c.place_of-i.result.1 c.args.server c.args.word i.given c.restart_on.result c.index_mut.result.now c.restart_on.new.stripe l c.index_mut.ensures.value (rw c.as_slice.ensures.value at c.place_of-i.ensures.each) c.restart_on.ensures.serves)

pub returns-clause-rest : goal.returns-clause-rest
returns-clause-rest g c = let i = c.self.inside in rest_called g.L.Loglet.view g.L.Loglet.serving i.shape i.stripes.items (set i.stripes.items c.place_of-i.result.0 c.restart_on.new.stripe) i.marks i.pending i.given _ c.self.view_is
