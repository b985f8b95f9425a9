use Rattle.std.proofs.Common.{length}
use Rattle.fitting_run.proofs.asking.+entries_hold_lines.Given as goal

abbrev pub decreases-entries_hold_lines : goal.decreases-entries_hold_lines
decreases-entries_hold_lines l = length l.entries.now
