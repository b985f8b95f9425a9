use Rattle.native_plan.proofs.pending.Pending.hear.Goals as goal

pub returns : goal.returns
returns c = λ e told h. record { between = c.note.new.self; notes = c.note.ensures.notes e told h; settles = c.settle.ensures }
