use Rattle.local_store.proofs.Keeping.{opened_empty, none_left, none_bad}
use Rattle.local_store.proofs.store.begin_kept.Goals as goal

pub returns-in-Ok-clause-kept : goal.returns-in-Ok-clause-kept
returns-in-Ok-clause-kept g c = opened_empty _ _ c.in-Ok.opened.kept c.requires.empty c.in-Ok.ensures.spelled c.in-Ok.ensures.kept

pub returns-in-Ok-clause-any_crash : goal.returns-in-Ok-clause-any_crash
returns-in-Ok-clause-any_crash g c = none_left (g.D.Disk.view c.args.disk) c.in-Ok.opened.kept.journal.disk _ c.requires.empty c.in-Ok.ensures.any_crash

pub unreachable-requires : goal.unreachable-requires
unreachable-requires g c = none_bad _ c.in-BadRecord.index c.requires.empty (c.in-Err.ensures.bad c.in-BadRecord.index c.in-BadRecord.is)
