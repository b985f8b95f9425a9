use Rattle.std.proofs.Common.{◌≤◌, ◌∙◌, ap, sym, subst}
use Rattle.quorum_cell.specs.Servers.{length_of}
use Rattle.log_server.specs.View.{View}
use Rattle.native_loglet.specs.Telling.{length_told_by}
use Rattle.native_loglet.proofs.Rules.{length_known}
use Rattle.native_loglet.proofs.replica.Replica.known_length.Goals as goal

pub returns : goal.returns
returns g c = subst (λ (v : View). c.length_told.result ≤ length_of v.server) c.self.view_is (subst (λ n. n ≤ length_of c.self.inside.server.server) (sym (c.length_told.ensures ∙ ap length_told_by c.tail.ensures.answer)) (length_known c.self.inside.server.server))
