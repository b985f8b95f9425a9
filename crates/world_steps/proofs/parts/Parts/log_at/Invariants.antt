use Rattle.std.proofs.Common.{◌≡◌, drop}
use Rattle.legal_journal.specs.Shown.{entry_in}
use Rattle.world_steps.specs.Parts.{last_given}
use Rattle.world_steps.specs.Logs.{reach_in, entries_in}
use Rattle.world_steps.proofs.parts.Parts.log_at.Given as goal

abbrev pub invariant-loop-segment : goal.invariant-loop-segment
invariant-loop-segment l = entry_in (reach_in l.self) (entries_in l.self) (drop l.segment-index (last_given l.self.register).segments) l.pos ≡ entry_in (reach_in l.self) (entries_in l.self) (last_given l.self.register).segments l.pos
