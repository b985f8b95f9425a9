use Rattle.file_loglet.proofs.Runs.{placed_stands}
use Rattle.file_loglet.proofs.laws.acknowledged_entries_stand.Goals as goal

pub returns : goal.returns
returns c = λ before begun waiting after later calls more cell entry ticket position h began next took rest. placed_stands before begun waiting after later calls more cell entry ticket position h began next took rest
