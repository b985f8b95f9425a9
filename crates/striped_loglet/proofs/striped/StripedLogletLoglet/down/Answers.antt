use Rattle.std.proofs.Common.{ap, ◌∙◌}
use Rattle.loglet_api.specs.Servers.{downs_of}
use Rattle.striped_loglet.specs.Striped.{StripedView, serving_of}
use Rattle.striped_loglet.proofs.Begins.{downs_few}
use Rattle.striped_loglet.proofs.striped.StripedLogletLoglet.down.Goals as goal

pub down_of-requires : goal.down_of-requires
down_of-requires g c =
    let i = c.self.inside in
    rw c.as_slice.ensures.value (downs_few g.L.Loglet.view i.shape i.stripes.items i.marks i.pending c.self.invariant.0)

pub returns-clause-each : goal.returns-clause-each
returns-clause-each g c = (rw c.as_slice.ensures.value at c.down_of.ensures.each) ∙ ap (λ (v : StripedView). downs_of (serving_of v).states) c.self.view_is
