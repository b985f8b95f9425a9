use Rattle.std.proofs.Common.{◌≡◌, length, arith}
use Rattle.striped_loglet.proofs.Asks.{starts_on, refused_on, own_within}
use Rattle.striped_loglet.proofs.Serving.{kept_set}
use Rattle.striped_loglet.proofs.striped.start.Goals as goal

pub returns-in-Ok-clause-step : goal.returns-in-Ok-clause-step
returns-in-Ok-clause-step g c =
    let e : c.len.result ≡ length c.args.stripes.now.items = (let k = c.len.ensures in omega (arith, k)) in
    starts_on g.L.Loglet.view c.args.stripes.now.items c.args.op c.args.size c.stripe_of-stripe.result c.len.result c.in-Ok.inner c.index_mut.result.now c.begin_on.new.stripe c.in-Append.entry c.requires.count c.in-Append.is c.stripe_of-stripe.ensures e c.index_mut.ensures.value c.in-Ok.ensures.step

pub returns-in-Err-clause-step : goal.returns-in-Err-clause-step
returns-in-Err-clause-step g c =
    let e : c.len.result ≡ length c.args.stripes.now.items = (let k = c.len.ensures in omega (arith, k)) in
    refused_on g.L.Loglet.view c.args.stripes.now.items c.args.op c.args.size c.stripe_of-stripe.result c.len.result c.in-Err.refused c.index_mut.result.now c.begin_on.new.stripe c.in-Append.entry c.requires.count c.in-Append.is c.stripe_of-stripe.ensures e c.index_mut.ensures.value c.in-Err.ensures.step

pub returns-in-Ok-clause-serves : goal.returns-in-Ok-clause-serves
returns-in-Ok-clause-serves g c =
    let xs = c.args.stripes.now.items in
    let e : c.len.result ≡ length xs = (let k = c.len.ensures in omega (arith, k)) in
    kept_set g.L.Loglet.serving xs c.stripe_of-stripe.result c.index_mut.result.now c.begin_on.new.stripe (own_within c.args.size c.stripe_of-stripe.result c.len.result (length xs) c.requires.count c.stripe_of-stripe.ensures e) c.index_mut.ensures.value c.in-Ok.ensures.serves

pub returns-in-Err-clause-serves : goal.returns-in-Err-clause-serves
returns-in-Err-clause-serves g c =
    let xs = c.args.stripes.now.items in
    let e : c.len.result ≡ length xs = (let k = c.len.ensures in omega (arith, k)) in
    kept_set g.L.Loglet.serving xs c.stripe_of-stripe.result c.index_mut.result.now c.begin_on.new.stripe (own_within c.args.size c.stripe_of-stripe.result c.len.result (length xs) c.requires.count c.stripe_of-stripe.ensures e) c.index_mut.ensures.value c.in-Err.ensures.serves
