use Rattle.std.proofs.Common.{arith}
use Rattle.pass_lock.proofs.Moves.{splits}
use Rattle.pass_lock.proofs.parts.cut.Goals as goal

pub split_seat-requires : goal.split_seat-requires
split_seat-requires g c = let words = c.requires.table.words in (c.requires.seat, omega arith, splits g.S.Chronicled.journal g.S.Chronicled.signer _ _ g.N.Moving.count _ c.requires.idle.0 c.requires.enough)
