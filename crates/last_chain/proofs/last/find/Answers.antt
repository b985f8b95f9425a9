use Rattle.std.proofs.Common.{ap, ◌∙◌}
use Rattle.last_chain.specs.Gifts.{given_last}
use Rattle.last_chain.proofs.Asking.{found}
use Rattle.last_chain.proofs.last.find.Goals as goal

pub returns : goal.returns
returns g c =
    let p = g.P.Rules in
    let j = c.journal.ensures in
    found p.law c.in_ok-version.version c.in_ok-version.chain c.args.fabric.now c.requires.down c.requires.opened
    (c.in_ok-version.ensures ∙ ap given_last j.value) j.legal j.register_runs j.register
