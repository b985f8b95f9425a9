use Rattle.std.proofs.Common.{subst, refl}
use Rattle.quorum_cell.specs.declared.message.Ask.{Ask}
use Rattle.server_records.specs.declared.record.Record.TheVariants.{Sealed}
use Rattle.file_loglet.specs.Held.{Writes}
use Rattle.file_loglet.proofs.Writing.{asked}
use Rattle.file_loglet.proofs.server.FileServer.seal.Goals as goal

pub write-requires-clause-writes : goal.write-requires-clause-writes
write-requires-clause-writes g c = rw (asked Sealed _ _ c.in_ok-bytes.ensures c.as_slice.ensures) (rw c.requires.unsealed refl)

pub write-requires-clause-changes : goal.write-requires-clause-changes
write-requires-clause-changes g c = rw (asked Sealed _ _ c.in_ok-bytes.ensures c.as_slice.ensures) tt

pub returns : goal.returns
returns g c = subst (λ (a : Ask). Writes c.args.self.now a c.write.result c.write.new.self) (asked Sealed _ _ c.in_ok-bytes.ensures c.as_slice.ensures) c.write.ensures
