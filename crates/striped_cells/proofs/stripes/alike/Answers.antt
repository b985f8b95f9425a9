use Rattle.std.proofs.Common.{◌≡◌, replicate, ap, ◌∙◌, arith}
use Rattle.striped_cells.proofs.Calling.{like_more}
use Rattle.striped_cells.proofs.stripes.alike.Goals as goal

pub loop-preserved : goal.loop-preserved
loop-preserved g c = c.in_ok-push.ensures.items ∙ like_more c.loop.counter c.args.one.now c.loop.made.items c.in_ok-copied.field-0 c.loop.invariant c.in_ok-copied.ensures

pub returns : goal.returns
returns g c =
    let all : c.loop.counter ≡ c.args.count = (let l = c.loop-test.false in let k = c.loop.auto.counter-end in omega (arith, l, k)) in
    c.loop.invariant ∙ ap (λ n. replicate n c.args.one.now) all
