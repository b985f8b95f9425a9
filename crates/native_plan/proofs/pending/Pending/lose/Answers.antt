use Rattle.native_plan.proofs.pending.Pending.lose.Goals as goal

pub returns : goal.returns
returns c = record { between = c.note_loss.new.self; notes = c.note_loss.ensures; settles = c.settle.ensures }
