use Rattle.std.proofs.Common.{◌+◌, ℕ, Err, ap, ◌∙◌}
use Rattle.local_store.specs.View as store
use Rattle.local_store.specs.View.{txn_commit}
use Rattle.local_replica.specs.Shown.{shown}
use Rattle.local_replica.proofs.Showing.{shown_survives, crash_during, advanced, failed, unchanged}
use Rattle.local_replica.proofs.applying.keep.Goals as goal

pub returns-in-Ok-clause-takes : goal.returns-in-Ok-clause-takes
returns-in-Ok-clause-takes g c = λ o w s r e up led. advanced c.args.store.now c.commit.new.self (txn_commit (c.cursor-next.result + 1) c.args.txn) o w s r e up (ap (λ (n : ℕ). n + 1) c.cursor-next.ensures.cursor) led c.in-Ok.ensures.ok c.in-Ok.ensures.ok_faults c.commit.ensures.word c.in-Ok.ensures.counted.six

pub returns-in-Err-Disk-clause-takes : goal.returns-in-Err-Disk-clause-takes
returns-in-Err-Disk-clause-takes g c = λ o w s r e up led.
    let f = c.commit.ensures.disk (c.in-Err-Disk.is ∙ ap (λ x. Err x) c.in-Err-Disk.field-0-is) in
    failed c.args.store.now c.commit.new.self (txn_commit (c.cursor-next.result + 1) c.args.txn) o w s r e up (ap (λ (n : ℕ). n + 1) c.cursor-next.ensures.cursor) led f.0 f.1 c.commit.ensures.word c.commit.ensures.faults

pub returns-in-Err-Down-clause-takes : goal.returns-in-Err-Down-clause-takes
returns-in-Err-Down-clause-takes g c = λ o w s r e up led.
    let h = c.in-Err-Down.is ∙ ap (λ x. Err x) c.in-Err-Down.field-0-is in
    (c.commit.ensures.down.0 h, ap (λ (v : store.View). shown v o w s r) (c.commit.ensures.down_same h))

pub returns-in-Err-Memory-clause-takes : goal.returns-in-Err-Memory-clause-takes
returns-in-Err-Memory-clause-takes g c = λ o w s r e up led.
    let h = c.in-Err-Memory.is ∙ ap (λ x. Err x) c.in-Err-Memory.field-0-is in
    unchanged c.args.store.now c.commit.new.self o w s r up (c.commit.ensures.memory h) (c.commit.ensures.no_fault h) c.commit.ensures.word (c.commit.ensures.spends h)

pub returns-in-Ok-clause-survives : goal.returns-in-Ok-clause-survives
returns-in-Ok-clause-survives g c = λ o w s r. shown_survives c.commit.new.self o w s r c.commit.ensures.survives

pub returns-in-Ok-clause-any_crash : goal.returns-in-Ok-clause-any_crash
returns-in-Ok-clause-any_crash g c = λ o w s r e led. crash_during c.args.store.now (txn_commit (c.cursor-next.result + 1) c.args.txn) o w s r e c.commit.new.self.disk (ap (λ (n : ℕ). n + 1) c.cursor-next.ensures.cursor) led c.commit.ensures.any_crash

pub returns-in-Err-Disk-clause-survives : goal.returns-in-Err-Disk-clause-survives
returns-in-Err-Disk-clause-survives g c = λ o w s r. shown_survives c.commit.new.self o w s r c.commit.ensures.survives

pub returns-in-Err-Disk-clause-any_crash : goal.returns-in-Err-Disk-clause-any_crash
returns-in-Err-Disk-clause-any_crash g c = λ o w s r e led. crash_during c.args.store.now (txn_commit (c.cursor-next.result + 1) c.args.txn) o w s r e c.commit.new.self.disk (ap (λ (n : ℕ). n + 1) c.cursor-next.ensures.cursor) led c.commit.ensures.any_crash

pub returns-in-Err-Down-clause-survives : goal.returns-in-Err-Down-clause-survives
returns-in-Err-Down-clause-survives g c = λ o w s r. shown_survives c.commit.new.self o w s r c.commit.ensures.survives

pub returns-in-Err-Down-clause-any_crash : goal.returns-in-Err-Down-clause-any_crash
returns-in-Err-Down-clause-any_crash g c = λ o w s r e led. crash_during c.args.store.now (txn_commit (c.cursor-next.result + 1) c.args.txn) o w s r e c.commit.new.self.disk (ap (λ (n : ℕ). n + 1) c.cursor-next.ensures.cursor) led c.commit.ensures.any_crash

pub returns-in-Err-Memory-clause-survives : goal.returns-in-Err-Memory-clause-survives
returns-in-Err-Memory-clause-survives g c = λ o w s r. shown_survives c.commit.new.self o w s r c.commit.ensures.survives

pub returns-in-Err-Memory-clause-any_crash : goal.returns-in-Err-Memory-clause-any_crash
returns-in-Err-Memory-clause-any_crash g c = λ o w s r e led. crash_during c.args.store.now (txn_commit (c.cursor-next.result + 1) c.args.txn) o w s r e c.commit.new.self.disk (ap (λ (n : ℕ). n + 1) c.cursor-next.ensures.cursor) led c.commit.ensures.any_crash

pub returns-in-Ok-clause-contents : goal.returns-in-Ok-clause-contents
returns-in-Ok-clause-contents g c = λ _. ap (λ (v : store.View). v.contents) c.in-Ok.ensures.ok

pub returns-in-Err-Memory-clause-no_fault : goal.returns-in-Err-Memory-clause-no_fault
returns-in-Err-Memory-clause-no_fault g c = λ _. c.commit.ensures.no_fault (c.in-Err-Memory.is ∙ ap (λ x. Err x) c.in-Err-Memory.field-0-is)
