use Rattle.file_loglet.proofs.Wholes.{open_whole, left_whole}
use Rattle.file_loglet.proofs.file.FileLogletLoglet.left.Goals as goal

pub index-requires : goal.index-requires
index-requires g c = rw c.number.ensures (open_whole c.self.inside.room c.self.inside.entries.items c.self.inside.server c.self.inside.marks c.self.inside.pending _ c.args.ticket c.self.view_is c.requires)

pub returns : goal.returns
returns g c = left_whole c.self.inside.room c.self.inside.entries.items c.self.inside.server c.self.inside.marks c.self.inside.pending _ c.args.ticket c.index.result.now _ _ c.self.view_is (rw c.number.ensures at c.index.ensures) c.left.ensures
