use Rattle.std.proofs.Common.{subst}
use Rattle.quorum_cell.specs.declared.message.Ask.{Ask}
use Rattle.file_loglet.specs.Held.{Writes}
use Rattle.file_loglet.proofs.Writing.{store_asked, may_store}
use Rattle.file_loglet.proofs.server.FileServer.store.Goals as goal

pub write-requires-clause-writes : goal.write-requires-clause-writes
write-requires-clause-writes g c =
    rw (store_asked c.args.self.now c.self.inside.journal c.self.inside.extent c.self.inside.torn c.args.entry.now _ _ c.self.view_is c.self.invariant c.in_ok-bytes.ensures c.as_slice.ensures)
    (may_store c.args.self.now.server c.args.entry.now c.requires.unsealed)

pub write-requires-clause-changes : goal.write-requires-clause-changes
write-requires-clause-changes g c =
    rw (store_asked c.args.self.now c.self.inside.journal c.self.inside.extent c.self.inside.torn c.args.entry.now _ _ c.self.view_is c.self.invariant c.in_ok-bytes.ensures c.as_slice.ensures) c.requires.room

pub returns : goal.returns
returns g c =
    subst (λ (a : Ask). Writes c.args.self.now a c.write.result c.write.new.self)
    (store_asked c.args.self.now c.self.inside.journal c.self.inside.extent c.self.inside.torn c.args.entry.now _ _ c.self.view_is c.self.invariant c.in_ok-bytes.ensures c.as_slice.ensures) c.write.ensures
