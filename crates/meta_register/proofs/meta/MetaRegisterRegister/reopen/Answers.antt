use Rattle.std.proofs.Common.{◌≡◌, Err, true, sym, ap, ◌∙◌, refl}
use Rattle.meta_register.specs.View.{View}
use Rattle.meta_register.proofs.Keeping.{seen_survives, stays_found, given_after, reopened, kept_survives, kept_same, kept_reopened, reopens_so, misses_so, unheard_so}
use Rattle.meta_register.proofs.meta.MetaRegisterRegister.reopen.Goals as goal

pub returns-in-Ok-clause-any_crash : goal.returns-in-Ok-clause-any_crash
returns-in-Ok-clause-any_crash g c =
    let i = c.self.inside in
    reopened i.standing i.older i.counts i.kept c.args.self.now c.reopen.new.self.journal.disk c.self.view_is c.reopen.ensures.any_crash

pub returns-in-Err-Memory-clause-any_crash : goal.returns-in-Err-Memory-clause-any_crash
returns-in-Err-Memory-clause-any_crash g c =
    let i = c.self.inside in
    reopened i.standing i.older i.counts i.kept c.args.self.now c.reopen.new.self.journal.disk c.self.view_is c.reopen.ensures.any_crash

pub returns-clause-any_crash : goal.returns-clause-any_crash
returns-clause-any_crash g c =
    let i = c.self.inside in
    reopened i.standing i.older i.counts i.kept c.args.self.now c.reopen.new.self.journal.disk c.self.view_is c.reopen.ensures.any_crash

pub invariant_of-self-in-Ok : goal.invariant_of-self-in-Ok
invariant_of-self-in-Ok g c =
    let i = c.self.inside in
    let found = c.in-Ok.ensures.found in
    let gives = given_after i.standing c.in_ok-clone.field-0 i.older c.remember.new.older c.reopen.new.value c.in_ok-clone.ensures.cases c.remember.ensures in
    kept_reopened i.standing c.reopen.new.value i.older c.remember.new.older i.kept.asked found.0 c.reopen.new.self found.2 gives c.self.invariant.whole c.self.invariant.before c.reopen.ensures.sound c.reopen.ensures.kept

pub returns-in-Ok-clause-survives : goal.returns-in-Ok-clause-survives
returns-in-Ok-clause-survives g c =
    let i = c.self.inside in
    let found = c.in-Ok.ensures.found in
    let gives = given_after i.standing c.in_ok-clone.field-0 i.older c.remember.new.older c.reopen.new.value c.in_ok-clone.ensures.cases c.remember.ensures in
    kept_survives c.reopen.new.value c.remember.new.older c.with_reopening-self-inside-in-Ok.result c.reopen.new.self (kept_reopened i.standing c.reopen.new.value i.older c.remember.new.older i.kept.asked found.0 c.reopen.new.self found.2 gives c.self.invariant.whole c.self.invariant.before c.reopen.ensures.sound c.reopen.ensures.kept)

pub returns-in-Ok-clause-reopens : goal.returns-in-Ok-clause-reopens
returns-in-Ok-clause-reopens g c =
    let i = c.self.inside in
    let found = c.in-Ok.ensures.found in
    let gives = given_after i.standing c.in_ok-clone.field-0 i.older c.remember.new.older c.reopen.new.value c.in_ok-clone.ensures.cases c.remember.ensures in
    let was : i.kept.journal.shut ≡ true = sym c.is_shut.ensures ∙ c.if-not-is_shut.false in
    reopens_so i.standing i.older i.counts c.args.word i.kept c.reopen.new.self was c.in-Ok.ensures.ok.1 c.in-Ok.ensures.ok.0 c.in-Ok.ensures.disarmed c.in-Ok.ensures.no_fault c.in-Ok.ensures.word c.with_reopening-self-inside-in-Ok.result c.reopen.new.value c.remember.new.older found.0 c.args.self.now c.with_reopening-self-inside-in-Ok.ensures c.self.view_is found.1 found.2 gives

pub invariant_of-self-in-Err-Memory : goal.invariant_of-self-in-Err-Memory
invariant_of-self-in-Err-Memory g c =
    let i = c.self.inside in
    let e = ap Err c.in-Err-Memory.field-0-is in
    let told = c.reopen.ensures.memory (c.in-Err-Memory.is ∙ e) in
    kept_same i.standing c.reopen.new.value i.older c.reopen.new.self told.0 c.reopen.ensures.sound c.self.invariant.before c.reopen.ensures.kept

pub returns-in-Err-Memory-clause-survives : goal.returns-in-Err-Memory-clause-survives
returns-in-Err-Memory-clause-survives g c =
    let i = c.self.inside in
    let e = ap Err c.in-Err-Memory.field-0-is in
    let told = c.reopen.ensures.memory (c.in-Err-Memory.is ∙ e) in
    kept_survives c.reopen.new.value i.older i.counts c.reopen.new.self (kept_same i.standing c.reopen.new.value i.older c.reopen.new.self told.0 c.reopen.ensures.sound c.self.invariant.before c.reopen.ensures.kept)

pub invariant_of-self-in-Err-Disk : goal.invariant_of-self-in-Err-Disk
invariant_of-self-in-Err-Disk g c =
    let i = c.self.inside in
    let e = ap Err c.in-Err-Disk.field-0-is in
    let told = c.reopen.ensures.disk (c.in-Err-Disk.is ∙ e) in
    kept_same i.standing c.reopen.new.value i.older c.reopen.new.self told.0 c.reopen.ensures.sound c.self.invariant.before c.reopen.ensures.kept

pub returns-clause-survives : goal.returns-clause-survives
returns-clause-survives g c =
    let i = c.self.inside in
    let e = ap Err c.in-Err-Disk.field-0-is in
    let told = c.reopen.ensures.disk (c.in-Err-Disk.is ∙ e) in
    kept_survives c.reopen.new.value i.older c.with_miss-self-inside.result c.reopen.new.self (kept_same i.standing c.reopen.new.value i.older c.reopen.new.self told.0 c.reopen.ensures.sound c.self.invariant.before c.reopen.ensures.kept)

pub returns-in_err-clone-clause-any_crash : goal.returns-in_err-clone-clause-any_crash
returns-in_err-clone-clause-any_crash g c =
    let i = c.self.inside in
    stays_found c.args.self.now c.args.self.now.disk refl (seen_survives i.standing i.older i.counts i.kept c.args.self.now c.self.invariant c.self.view_is)

pub returns-in-Err-Memory-clause-reopens : goal.returns-in-Err-Memory-clause-reopens
returns-in-Err-Memory-clause-reopens g c =
    let i = c.self.inside in
    let e = ap Err c.in-Err-Memory.field-0-is in
    let told = c.reopen.ensures.memory (c.in-Err-Memory.is ∙ e) in
    let was : i.kept.journal.shut ≡ true = sym c.is_shut.ensures ∙ c.if-not-is_shut.false in
    unheard_so i.standing i.older i.counts c.args.word i.kept c.reopen.new.self was c.reopen.new.value told.0 (c.reopen.ensures.word_memory (c.in-Err-Memory.is ∙ e)) c.args.self.now c.self.view_is _ told.1 told.2

pub returns-clause-reopens : goal.returns-clause-reopens
returns-clause-reopens g c =
    let i = c.self.inside in
    let e = ap Err c.in-Err-Disk.field-0-is in
    let told = c.reopen.ensures.disk (c.in-Err-Disk.is ∙ e) in
    let was : i.kept.journal.shut ≡ true = sym c.is_shut.ensures ∙ c.if-not-is_shut.false in
    misses_so i.standing i.older i.counts c.args.word i.kept c.reopen.new.self was c.reopen.new.value told.0 (c.reopen.ensures.word_disk (c.in-Err-Disk.is ∙ e)) c.args.self.now c.self.view_is c.with_miss-self-inside.result c.with_miss-self-inside.ensures told.1 told.2

pub returns-then-not-is_shut-clause-any_crash : goal.returns-then-not-is_shut-clause-any_crash
returns-then-not-is_shut-clause-any_crash g c =
    let i = c.self.inside in
    stays_found c.args.self.now i.kept.journal.disk (ap (λ (v : View). v.disk.timeline) c.self.view_is) (seen_survives i.standing i.older i.counts i.kept c.args.self.now c.self.invariant c.self.view_is)
