use Rattle.std.proofs.Common.{◌≡◌, drop}
use Rattle.quorum_cell.specs.Tallies.{entry_heard as entry_heard_by}
use Rattle.cell_steps.proofs.answer.entry_heard.Given as goal

abbrev pub invariant-loop-reply : goal.invariant-loop-reply
invariant-loop-reply l = entry_heard_by l.place (drop l.reply-index l.replies) ≡ entry_heard_by l.place l.replies
