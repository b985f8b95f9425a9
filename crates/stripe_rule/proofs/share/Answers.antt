use Rattle.std.proofs.Common.{◌≡◌, ◌+◌, ◌-◌, ◌/◌, suc, ap, arith}
use Rattle.stripe_rule.specs.Stripes.{share}
use Rattle.stripe_rule.proofs.share.Goals as goal

pub returns : goal.returns
unfolding share
returns c =
    let e : c.args.length + (c.args.count - 1 - c.args.stripe) ≡ c.args.length + (c.args.count - suc c.args.stripe) = omega (arith, c.requires.stripe) in
    ap (λ x. x / c.args.count) e
