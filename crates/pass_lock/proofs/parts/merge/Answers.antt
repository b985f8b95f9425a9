use Rattle.std.proofs.Common.{arith}
use Rattle.pass_lock.proofs.Moves.{joins}
use Rattle.pass_lock.proofs.parts.merge.Goals as goal

pub join_seat-requires : goal.join_seat-requires
join_seat-requires g c = let words = c.requires.table.words in
    (c.requires.seat, c.requires.other_seat, c.requires.other_idle.1, omega arith, joins g.S.Chronicled.journal g.S.Chronicled.signer _ _ _ _ _ c.requires.idle.0 c.requires.other_idle.0)
