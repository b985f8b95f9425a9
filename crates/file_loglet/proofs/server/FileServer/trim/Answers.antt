use Rattle.std.proofs.Common.{subst, refl}
use Rattle.quorum_cell.specs.declared.message.Ask.{Ask}
use Rattle.server_records.specs.declared.record.Record.TheVariants.{Trimmed}
use Rattle.file_loglet.specs.Held.{Writes}
use Rattle.file_loglet.proofs.Writing.{asked, may_trim}
use Rattle.file_loglet.proofs.server.FileServer.trim.Goals as goal

pub write-requires-clause-writes : goal.write-requires-clause-writes
write-requires-clause-writes g c =
    rw (asked (Trimmed c.args.position) _ _ c.in_ok-bytes.ensures c.as_slice.ensures)
    (may_trim c.args.self.now c.self.inside.journal c.self.inside.extent c.self.inside.torn c.args.position c.self.view_is c.self.invariant c.if-position-self.false)

pub write-requires-clause-changes : goal.write-requires-clause-changes
write-requires-clause-changes g c = rw (asked (Trimmed c.args.position) _ _ c.in_ok-bytes.ensures c.as_slice.ensures) (refl, c.requires.within)

pub returns-clause-above : goal.returns-clause-above
returns-clause-above g c above =
    subst (λ (a : Ask). Writes c.args.self.now a c.write.result c.write.new.self) (asked (Trimmed c.args.position) _ _ c.in_ok-bytes.ensures c.as_slice.ensures) c.write.ensures
