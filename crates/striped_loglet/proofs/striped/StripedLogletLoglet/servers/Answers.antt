use Rattle.std.proofs.Common.{length, sym, ap, ◌∙◌}
use Rattle.striped_loglet.specs.Striped.{StripedView, serving_of}
use Rattle.striped_loglet.proofs.Bridge.{sound_whole}
use Rattle.striped_loglet.proofs.striped.StripedLogletLoglet.servers.Goals as goal

pub returns-clause-sound : goal.returns-clause-sound
returns-clause-sound g c = sound_whole g.L.Loglet.view g.L.Loglet.serving c.self.inside.shape c.self.inside.stripes.items c.self.inside.marks c.self.inside.pending _ c.self.view_is c.self.invariant.0

pub returns-clause-each : goal.returns-clause-each
returns-clause-each g c = ap (λ (v : StripedView). length (serving_of v).states) (sym c.self.view_is) ∙ c.self.invariant.1
