use Rattle.std.proofs.Common.{◌≡◌, ◌+◌, map, take, drop, arith}
use Rattle.striped_loglet.specs.Views.{total}
use Rattle.striped_loglet.proofs.Places.{view_at, total_drop, total_take, last}
use Rattle.striped_loglet.proofs.Serving.{length_take}
use Rattle.striped_loglet.proofs.shape.place_of.Goals as goal

pub returns-then-rest-servers-clause-place : goal.returns-then-rest-servers-clause-place
returns-then-rest-servers-clause-place g c =
    let below = c.if-rest-servers.true in
    let is = c.servers-servers.ensures.value in
    record { view = g.L.Loglet.view c.index-stripes-i.result; is = view_at g.L.Loglet.view c.args.stripes.now c.loop-i.i c.index-stripes-i.result c.loop-i.invariant.inside c.index-stripes-i.is; below = omega (arith, below, is); number = c.loop-i.invariant.number }

pub loop-i-preserved : goal.loop-i-preserved
loop-i-preserved g c =
    let next : total (λ v. v.servers) (drop c.loop-i.i (map g.L.Loglet.view c.args.stripes.now)) ≡ (g.L.Loglet.view c.index-stripes-i.result).servers + total (λ v. v.servers) (drop (c.loop-i.i + 1) (map g.L.Loglet.view c.args.stripes.now)) =
    total_drop (λ v. v.servers) g.L.Loglet.view c.args.stripes.now c.loop-i.i c.index-stripes-i.result c.loop-i.invariant.inside c.index-stripes-i.is in
    let below = c.if-rest-servers.false in
    let is = c.servers-servers.ensures.value in
    let more = c.loop-i-test.true in
    let old = c.loop-i.invariant.below in
    let seen : total (λ v. v.servers) (take (c.loop-i.i + 1) (map g.L.Loglet.view c.args.stripes.now)) ≡ total (λ v. v.servers) (take c.loop-i.i (map g.L.Loglet.view c.args.stripes.now)) + (g.L.Loglet.view c.index-stripes-i.result).servers =
    total_take (λ v. v.servers) g.L.Loglet.view c.args.stripes.now c.loop-i.i c.index-stripes-i.result c.loop-i.invariant.inside c.index-stripes-i.is in
    let number = c.loop-i.invariant.number in
    let states = length_take g.L.Loglet.serving c.args.stripes.now c.loop-i.i c.index-stripes-i.result c.loop-i.invariant.inside c.index-stripes-i.is in
    let has = c.servers-servers.ensures.each in
    let each = c.loop-i.invariant.each in
    record { inside = omega (arith, more); below = omega (arith, next, below, is, old); number = omega (arith, seen, below, is, number); each = omega (arith, states, has, below, each) }

pub returns-clause-place : goal.returns-clause-place
returns-clause-place g c = last g.L.Loglet.view c.args.stripes.now c.args.server c.loop-i.i c.loop-i.rest c.loop-i.invariant.inside c.loop-i-test.false c.loop-i.invariant.below c.loop-i.invariant.number
