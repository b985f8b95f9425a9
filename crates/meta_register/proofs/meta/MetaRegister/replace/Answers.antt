use Rattle.std.proofs.Common.{◌≡◌, ◌^◌, ◌<◌, Err, None, false, sym, ap, subst, ◌∙◌, refl}
use Rattle.delos_types.specs.declared.chain.Chain.{Chain}
use Rattle.chain_map.specs.Chain.{IsChain}
use Rattle.meta_register.specs.View.{View, CountsWrites}
use Rattle.meta_register.proofs.Keeping.{seen_survives, stays_during, during, kept_survives, kept_same, kept_written, counts_writes}
use Rattle.meta_register.proofs.meta.MetaRegister.replace.Goals as goal

pub write-requires-clause-can : goal.write-requires-clause-can
write-requires-clause-can g c = record {
  small = subst (λ (v : View). v.register.version < 2 ^ 48) (sym c.self.view_is) c.requires.small;
  joined = subst (λ (x : Chain). IsChain x) (sym c.in_ok-given.ensures.cases) c.requires.chain;
}

pub returns-in-Ok-clause-any_crash : goal.returns-in-Ok-clause-any_crash
returns-in-Ok-clause-any_crash g c =
    let i = c.self.inside in
    during i.standing i.older i.counts i.kept c.args.self.now c.args.chain.now c.in_ok-given.given c.write.new.self.journal.disk c.self.view_is c.in_ok-given.ensures.cases c.write.ensures.any_crash

pub returns-in-Err-Memory-clause-any_crash : goal.returns-in-Err-Memory-clause-any_crash
returns-in-Err-Memory-clause-any_crash g c =
    let i = c.self.inside in
    during i.standing i.older i.counts i.kept c.args.self.now c.args.chain.now c.in_ok-given.given c.write.new.self.journal.disk c.self.view_is c.in_ok-given.ensures.cases c.write.ensures.any_crash

pub returns-in-Err-Disk-clause-any_crash : goal.returns-in-Err-Disk-clause-any_crash
returns-in-Err-Disk-clause-any_crash g c =
    let i = c.self.inside in
    during i.standing i.older i.counts i.kept c.args.self.now c.args.chain.now c.in_ok-given.given c.write.new.self.journal.disk c.self.view_is c.in_ok-given.ensures.cases c.write.ensures.any_crash

pub returns-in-Ok-clause-counted : goal.returns-in-Ok-clause-counted
returns-in-Ok-clause-counted g c =
    let i = c.self.inside in
    let running : i.kept.journal.shut ≡ false = ap (λ (v : View). v.register.down) c.self.view_is ∙ c.requires.up in
    λ next e. subst (λ (v : View). CountsWrites v.disk c.write.new.self.journal.disk) c.self.view_is
    (counts_writes i.standing c.in_ok-given.given i.kept c.write.new.self c.self.invariant.kept running c.in-Ok.ensures.one_more c.in-Ok.ensures.writes)

pub returns-in_err-given-clause-any_crash : goal.returns-in_err-given-clause-any_crash
returns-in_err-given-clause-any_crash g c =
    let i = c.self.inside in
    stays_during c.args.self.now c.args.chain.now c.args.self.now.disk refl (seen_survives i.standing i.older i.counts i.kept c.args.self.now c.self.invariant c.self.view_is)

pub returns-in_err-given-clause-survives : goal.returns-in_err-given-clause-survives
returns-in_err-given-clause-survives g c =
    let i = c.self.inside in
    seen_survives i.standing i.older i.counts i.kept c.args.self.now c.self.invariant c.self.view_is

pub invariant_of-self : goal.invariant_of-self
invariant_of-self g c = kept_written c.write.new.value c.write.new.self c.write.ensures.sound c.write.ensures.kept

pub returns-in-Ok-clause-survives : goal.returns-in-Ok-clause-survives
returns-in-Ok-clause-survives g c =
    let i = c.self.inside in
    kept_survives c.write.new.value None i.counts c.write.new.self (kept_written c.write.new.value c.write.new.self c.write.ensures.sound c.write.ensures.kept)

pub invariant_of-self-in-Err-Memory : goal.invariant_of-self-in-Err-Memory
invariant_of-self-in-Err-Memory g c =
    let i = c.self.inside in
    let e = ap Err c.in-Err-Memory.field-0-is in
    let told = c.write.ensures.memory (c.in-Err-Memory.is ∙ e) in
    kept_same i.standing c.write.new.value i.older c.write.new.self told.0 c.write.ensures.sound c.self.invariant.before c.write.ensures.kept

pub returns-in-Err-Memory-clause-survives : goal.returns-in-Err-Memory-clause-survives
returns-in-Err-Memory-clause-survives g c =
    let i = c.self.inside in
    let e = ap Err c.in-Err-Memory.field-0-is in
    let told = c.write.ensures.memory (c.in-Err-Memory.is ∙ e) in
    kept_survives c.write.new.value i.older i.counts c.write.new.self (kept_same i.standing c.write.new.value i.older c.write.new.self told.0 c.write.ensures.sound c.self.invariant.before c.write.ensures.kept)

pub invariant_of-self-in-Err-Disk : goal.invariant_of-self-in-Err-Disk
invariant_of-self-in-Err-Disk g c =
    let i = c.self.inside in
    let e = ap Err c.in-Err-Disk.field-0-is in
    let told = c.write.ensures.disk (c.in-Err-Disk.is ∙ e) in
    kept_same i.standing c.write.new.value i.older c.write.new.self told.0 c.write.ensures.sound c.self.invariant.before c.write.ensures.kept

pub returns-in-Err-Disk-clause-survives : goal.returns-in-Err-Disk-clause-survives
returns-in-Err-Disk-clause-survives g c =
    let i = c.self.inside in
    let e = ap Err c.in-Err-Disk.field-0-is in
    let told = c.write.ensures.disk (c.in-Err-Disk.is ∙ e) in
    kept_survives c.write.new.value i.older i.counts c.write.new.self (kept_same i.standing c.write.new.value i.older c.write.new.self told.0 c.write.ensures.sound c.self.invariant.before c.write.ensures.kept)
