use Rattle.std.proofs.Common.{◌<◌, length, map, set, refl, ◌∙◌, arith}
use Rattle.striped_loglet.specs.State.{state_of}
use Rattle.loglet_api.specs.declared.call.LogletCall.TheVariants.{Stop}
use Rattle.loglet_api.specs.declared.call.LogletAnswer.TheVariants.{Stopped}
use Rattle.striped_loglet.proofs.Bridge.{step_alike, shows}
use Rattle.striped_loglet.proofs.Wholes.{stop_whole, server_there, server_below, server_of_all, server_called}
use Rattle.striped_loglet.proofs.Serving.{served, stop_served, stop_length}
use Rattle.striped_loglet.proofs.Works.{rest_called}
use Rattle.striped_loglet.proofs.Handing.{serves_from, server_handed}
use Rattle.striped_loglet.proofs.striped.StripedLogletLoglet.stop.Goals as goal

pub place_of-i-requires : goal.place_of-i-requires
place_of-i-requires g c =
    let i = c.self.inside in
    rw c.as_slice.ensures.value (server_of_all g.L.Loglet.view g.L.Loglet.serving i.shape i.stripes.items i.marks i.pending _ c.args.server c.self.view_is c.self.invariant.0 c.requires)

pub index_mut-requires : goal.index_mut-requires
index_mut-requires g c =
    let i = c.self.inside in
    let l : c.place_of-i.result.0 < length i.stripes.items = server_there g.L.Loglet.view i.stripes.items c.place_of-i.result.0 c.place_of-i.result.1 (rw c.as_slice.ensures.value at c.place_of-i.ensures.place) in
    omega (arith, l)

pub stop-requires : goal.stop-requires
stop-requires g c =
    let i = c.self.inside in
    server_below g.L.Loglet.view i.stripes.items c.place_of-i.result.0 c.place_of-i.result.1 c.index_mut.result.now (rw c.as_slice.ensures.value at c.place_of-i.ensures.place) c.index_mut.ensures.value

pub invariant_of-self : goal.invariant_of-self
invariant_of-self g c =
    let i = c.self.inside in
    let l : c.place_of-i.result.0 < length i.stripes.items = server_there g.L.Loglet.view i.stripes.items c.place_of-i.result.0 c.place_of-i.result.1 (rw c.as_slice.ensures.value at c.place_of-i.ensures.place) in (
      (stop_whole g.L.Loglet.view i.shape i.stripes.items i.marks i.pending c.place_of-i.result.0 c.place_of-i.result.1 c.args.after c.index_mut.result.now c.stop.new.self c.self.invariant.0 l c.index_mut.ensures.value c.stop.ensures.step).0,
      stop_length g.L.Loglet.serving i.stripes.items c.place_of-i.result.0 c.place_of-i.result.1 c.args.server c.args.after c.index_mut.result.now c.stop.new.self l c.index_mut.ensures.value (rw c.as_slice.ensures.value at c.place_of-i.ensures.each) c.stop.ensures.serves ∙ c.self.invariant.1,
    )

pub returns-clause-step : goal.returns-clause-step
returns-clause-step g c =
    let i = c.self.inside in
    let view = g.L.Loglet.view in
    let l : c.place_of-i.result.0 < length i.stripes.items = server_there view i.stripes.items c.place_of-i.result.0 c.place_of-i.result.1 (rw c.as_slice.ensures.value at c.place_of-i.ensures.place) in
    step_alike view (state_of view i.shape i.stripes.items i.marks i.pending) _ _ _ _ (shows view g.L.Loglet.serving i.shape i.stripes.items i.marks i.pending _ c.self.view_is)
    (stop_whole view i.shape i.stripes.items i.marks i.pending c.place_of-i.result.0 c.place_of-i.result.1 c.args.after c.index_mut.result.now c.stop.new.self c.self.invariant.0 l c.index_mut.ensures.value c.stop.ensures.step).1 c.self.invariant.0 c.requires refl

pub returns-clause-stripe : goal.returns-clause-stripe
returns-clause-stripe g c =
    let i = c.self.inside in
    server_called g.L.Loglet.view g.L.Loglet.serving i.shape i.stripes.items i.marks i.pending _ c.args.server c.place_of-i.result.0 c.place_of-i.result.1 (λ inner. Stop inner c.args.after) Stopped c.index_mut.result.now c.stop.new.self c.self.view_is (rw c.as_slice.ensures.value at c.place_of-i.ensures.place) c.index_mut.ensures.value c.stop.ensures.step

pub returns-clause-serves : goal.returns-clause-serves
returns-clause-serves g c =
    let i = c.self.inside in
    let l : c.place_of-i.result.0 < length i.stripes.items = server_there g.L.Loglet.view i.stripes.items c.place_of-i.result.0 c.place_of-i.result.1 (rw c.as_slice.ensures.value at c.place_of-i.ensures.place) in
    serves_from g.L.Loglet.view g.L.Loglet.serving i.shape i.stripes.items i.marks i.pending i.given _ (Stop c.args.server c.args.after) Stopped (served (map g.L.Loglet.serving (set i.stripes.items c.place_of-i.result.0 c.stop.new.self)) i.given) c.self.view_is
    (stop_served g.L.Loglet.serving i.stripes.items c.place_of-i.result.0 c.place_of-i.result.1 c.args.server c.args.after i.given c.index_mut.result.now c.stop.new.self l c.index_mut.ensures.value (rw c.as_slice.ensures.value at c.place_of-i.ensures.each) c.stop.ensures.serves)

pub returns-clause-handed : goal.returns-clause-handed
returns-clause-handed g c =
    let i = c.self.inside in
    server_handed g.L.Loglet.view g.L.Loglet.serving i.shape i.stripes.items i.marks i.pending i.given _ c.args.server c.place_of-i.result.0 c.place_of-i.result.1 (λ inner. Stop inner c.args.after) Stopped c.index_mut.result.now c.stop.new.self c.self.view_is (rw c.as_slice.ensures.value at c.place_of-i.ensures.place) c.index_mut.ensures.value c.stop.ensures.serves

pub returns-clause-rest : goal.returns-clause-rest
returns-clause-rest g c = let i = c.self.inside in rest_called g.L.Loglet.view g.L.Loglet.serving i.shape i.stripes.items (set i.stripes.items c.place_of-i.result.0 c.stop.new.self) i.marks i.pending i.given _ c.self.view_is
