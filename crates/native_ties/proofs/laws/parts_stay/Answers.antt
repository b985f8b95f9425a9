use Rattle.native_ties.proofs.Parts.{part_later}
use Rattle.native_ties.proofs.laws.parts_stay.Goals as goal

pub returns : goal.returns
returns c = λ cell later t p l x same h. part_later cell later t p l x same h
