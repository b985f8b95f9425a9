use Rattle.std.proofs.Common.{ℕ, Err, ap, sym, subst, ◌∙◌, inr}
use Rattle.local_store.specs.View as store
use Rattle.replica_api.specs.Replica.{Recovered, StaysDown}
use Rattle.local_replica.specs.Shown.{shown}
use Rattle.local_replica.proofs.Showing.{counts_one, shown_survives, crash_reopening, idle_crash, idle, recovered, stays_down, stays_so_down}
use Rattle.local_replica.proofs.applying.reopen.Goals as goal

pub returns-then-not-is_down-clause-reopens : goal.returns-then-not-is_down-clause-reopens
returns-then-not-is_down-clause-reopens g c = λ o w s.
    subst (λ (n : ℕ). Recovered c.args.word (shown c.args.store.now o w s c.args.reopenings.now) (shown c.args.store.now o w s n)) (counts_one c.args.reopenings.now c.saturating_add.result c.saturating_add.ensures)
    (idle c.args.store.now o w s c.args.reopenings.now c.args.word c.is_down.ensures.survives (sym c.is_down.ensures.down ∙ c.if-not-is_down.true))

pub returns-then-not-is_down-clause-survives : goal.returns-then-not-is_down-clause-survives
returns-then-not-is_down-clause-survives g c = λ o w s. shown_survives c.args.store.now o w s c.saturating_add.result c.is_down.ensures.survives

pub returns-then-not-is_down-clause-any_crash : goal.returns-then-not-is_down-clause-any_crash
returns-then-not-is_down-clause-any_crash g c = λ o w s. idle_crash c.args.store.now o w s c.args.reopenings.now c.is_down.ensures.survives

pub returns-in-Ok-clause-reopens : goal.returns-in-Ok-clause-reopens
returns-in-Ok-clause-reopens g c = λ o w s.
    let was = sym c.is_down.ensures.down ∙ c.if-not-is_down.false in
    let ok = c.in-Ok.ensures.ok in
    let still = c.in-Ok.ensures.disarmed was in
    subst (λ (n : ℕ). Recovered c.args.word (shown c.args.store.now o w s c.args.reopenings.now) (shown c.reopen.new.self o w s n)) (counts_one c.args.reopenings.now c.saturating_add-in-Ok.result c.saturating_add-in-Ok.ensures)
    (recovered c.args.store.now c.reopen.new.self o w s c.args.reopenings.now c.args.word ok.0 c.is_down.ensures.survives was ok.1 ok.2 (c.in-Ok.ensures.word was) still.0 still.1)

pub returns-in-Err-Disk-clause-reopens : goal.returns-in-Err-Disk-clause-reopens
returns-in-Err-Disk-clause-reopens g c = λ o w s.
    let was = sym c.is_down.ensures.down ∙ c.if-not-is_down.false in
    let f = c.reopen.ensures.disk (c.in-Err-Disk.is ∙ ap (λ x. Err x) c.in-Err-Disk.field-0-is) in
    subst (λ (n : ℕ). StaysDown c.args.word (shown c.args.store.now o w s c.args.reopenings.now) (shown c.reopen.new.self o w s n)) (counts_one c.args.reopenings.now c.saturating_add-in-Err-Disk.result c.saturating_add-in-Err-Disk.ensures)
    (stays_down c.args.store.now c.reopen.new.self o w s c.args.reopenings.now c.args.word was f.0 f.1 c.reopen.ensures.faults c.reopen.ensures.word_refused)

pub returns-in-Err-Memory-clause-reopens : goal.returns-in-Err-Memory-clause-reopens
returns-in-Err-Memory-clause-reopens g c = λ o w s.
    let was = sym c.is_down.ensures.down ∙ c.if-not-is_down.false in
    let m = c.reopen.ensures.memory (c.in-Err-Memory.is ∙ ap (λ x. Err x) c.in-Err-Memory.field-0-is) in
    inr (stays_so_down c.args.store.now c.reopen.new.self o w s c.args.reopenings.now c.args.word was m.0 m.1 c.reopen.ensures.word_refused)

pub returns-in-Ok-clause-survives : goal.returns-in-Ok-clause-survives
returns-in-Ok-clause-survives g c = λ o w s. shown_survives c.reopen.new.self o w s c.saturating_add-in-Ok.result c.reopen.ensures.survives

pub returns-in-Ok-clause-any_crash : goal.returns-in-Ok-clause-any_crash
returns-in-Ok-clause-any_crash g c = λ o w s. crash_reopening c.args.store.now o w s c.args.reopenings.now c.reopen.new.self.disk c.reopen.ensures.any_crash

pub returns-in-Err-Disk-clause-survives : goal.returns-in-Err-Disk-clause-survives
returns-in-Err-Disk-clause-survives g c = λ o w s. shown_survives c.reopen.new.self o w s c.saturating_add-in-Err-Disk.result c.reopen.ensures.survives

pub returns-in-Err-Disk-clause-any_crash : goal.returns-in-Err-Disk-clause-any_crash
returns-in-Err-Disk-clause-any_crash g c = λ o w s. crash_reopening c.args.store.now o w s c.args.reopenings.now c.reopen.new.self.disk c.reopen.ensures.any_crash

pub returns-in-Err-Memory-clause-survives : goal.returns-in-Err-Memory-clause-survives
returns-in-Err-Memory-clause-survives g c = λ o w s. shown_survives c.reopen.new.self o w s c.args.reopenings.now c.reopen.ensures.survives

pub returns-in-Err-Memory-clause-any_crash : goal.returns-in-Err-Memory-clause-any_crash
returns-in-Err-Memory-clause-any_crash g c = λ o w s. crash_reopening c.args.store.now o w s c.args.reopenings.now c.reopen.new.self.disk c.reopen.ensures.any_crash

pub returns-in-Ok-clause-up : goal.returns-in-Ok-clause-up
returns-in-Ok-clause-up g c = λ _. ap (λ (v : store.View). v.down) c.in-Ok.ensures.ok.2
