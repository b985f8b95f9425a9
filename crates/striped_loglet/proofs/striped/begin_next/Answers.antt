use Rattle.std.proofs.Common.{◌≡◌, ◌<◌, length, refl, inl, inr, arith}
use Rattle.striped_loglet.proofs.Beginning.{target_below}
use Rattle.striped_loglet.proofs.Serving.{kept_set}
use Rattle.striped_loglet.proofs.Asks.{can_ask, asks_next, refuses_next}
use Rattle.striped_loglet.proofs.striped.begin_next.Goals as goal

pub index_mut-requires : goal.index_mut-requires
index_mut-requires g c =
    let e : c.len-count.result ≡ length c.args.stripes.now.items = (let k = c.len-count.ensures in omega (arith, k)) in
    let l : c.target-stripe.result < c.len-count.result = (let t = c.target-stripe.ensures in rw t (target_below c.len-count.result c.args.course.now.plan c.args.course.now.asked.task (let n = c.requires.next in omega (arith, e, n)) (let n = c.requires.next in omega (arith, e, n)))) in
    omega (arith, l, e)

pub op_of-op-requires-clause-stripe : goal.op_of-op-requires-clause-stripe
op_of-op-requires-clause-stripe g c =
    let e : c.len-count.result ≡ length c.args.stripes.now.items = (let k = c.len-count.ensures in omega (arith, k)) in
    (let t = c.target-stripe.ensures in rw t (target_below c.len-count.result c.args.course.now.plan c.args.course.now.asked.task (let n = c.requires.next in omega (arith, e, n)) (let n = c.requires.next in omega (arith, e, n))))

pub begin_on-requires : goal.begin_on-requires
begin_on-requires g c = (let o = c.op_of-op.ensures in rw o (can_ask c.args.course.now.asked.task c.args.course.now.asked.size c.args.course.now.plan.stage c.args.cut c.target-stripe.result c.len-count.result))

pub returns-in-Err-clause-step : goal.returns-in-Err-clause-step
returns-in-Err-clause-step g c =
    let e : c.len-count.result ≡ length c.args.stripes.now.items = (let k = c.len-count.ensures in omega (arith, k)) in
    let l : c.target-stripe.result < c.len-count.result = (let t = c.target-stripe.ensures in rw t (target_below c.len-count.result c.args.course.now.plan c.args.course.now.asked.task (let n = c.requires.next in omega (arith, e, n)) (let n = c.requires.next in omega (arith, e, n)))) in
    refuses_next g.L.Loglet.view c.args.stripes.now.items c.args.pending.now c.args.cut c.target-stripe.result c.len-count.result c.args.course.now c.op_of-op.result c.in-Err.refused c.index_mut.result.now c.begin_on.new.stripe c.target-stripe.ensures (omega (arith, l, e)) e c.op_of-op.ensures c.index_mut.ensures.value c.in-Err.ensures.step

pub returns-then-is_unspoken-clause-step : goal.returns-then-is_unspoken-clause-step
returns-then-is_unspoken-clause-step g c = inr (record { unspoken = c.if-is_unspoken.ensures.0 refl; rest = refl; sets = c.set.ensures })

pub returns-clause-step : goal.returns-clause-step
returns-clause-step g c =
    let e : c.len-count.result ≡ length c.args.stripes.now.items = (let k = c.len-count.ensures in omega (arith, k)) in
    let l : c.target-stripe.result < c.len-count.result = (let t = c.target-stripe.ensures in rw t (target_below c.len-count.result c.args.course.now.plan c.args.course.now.asked.task (let n = c.requires.next in omega (arith, e, n)) (let n = c.requires.next in omega (arith, e, n)))) in
    inl (asks_next g.L.Loglet.view c.args.stripes.now.items c.args.pending.now c.set-2.new.pending c.args.number c.args.cut c.target-stripe.result c.len-count.result c.args.course.now c.op_of-op.result c.behind-plan.result c.in-Ok.inner c.index_mut.result.now c.begin_on.new.stripe
    (λ u. (let t = c.if-is_unspoken.ensures.1 u in let f = c.if-is_unspoken.false in cc)) c.target-stripe.ensures (omega (arith, l, e)) e c.op_of-op.ensures c.behind-plan.ensures c.index_mut.ensures.value c.in-Ok.ensures.step c.set-2.ensures)

pub returns-in-Err-clause-serves : goal.returns-in-Err-clause-serves
returns-in-Err-clause-serves g c =
    let e : c.len-count.result ≡ length c.args.stripes.now.items = (let k = c.len-count.ensures in omega (arith, k)) in
    let l : c.target-stripe.result < c.len-count.result = (let t = c.target-stripe.ensures in rw t (target_below c.len-count.result c.args.course.now.plan c.args.course.now.asked.task (let n = c.requires.next in omega (arith, e, n)) (let n = c.requires.next in omega (arith, e, n)))) in
    kept_set g.L.Loglet.serving c.args.stripes.now.items c.target-stripe.result c.index_mut.result.now c.begin_on.new.stripe (omega (arith, l, e)) c.index_mut.ensures.value c.in-Err.ensures.serves

pub returns-clause-serves : goal.returns-clause-serves
returns-clause-serves g c =
    let e : c.len-count.result ≡ length c.args.stripes.now.items = (let k = c.len-count.ensures in omega (arith, k)) in
    let l : c.target-stripe.result < c.len-count.result = (let t = c.target-stripe.ensures in rw t (target_below c.len-count.result c.args.course.now.plan c.args.course.now.asked.task (let n = c.requires.next in omega (arith, e, n)) (let n = c.requires.next in omega (arith, e, n)))) in
    kept_set g.L.Loglet.serving c.args.stripes.now.items c.target-stripe.result c.index_mut.result.now c.begin_on.new.stripe (omega (arith, l, e)) c.index_mut.ensures.value c.in-Ok.ensures.serves
