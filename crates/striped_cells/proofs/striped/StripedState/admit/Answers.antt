use Rattle.striped_cells.proofs.Calling.{small}
use Rattle.striped_cells.proofs.striped.StripedState.admit.Goals as goal

pub note-requires : goal.note-requires
note-requires g c = small g.C.AnyCell.ways c.args.self.now c.requires.lawful
