use Rattle.std.proofs.Common.{ap, refl}
use Rattle.meta_register.specs.View.{View}
use Rattle.meta_register.proofs.Keeping.{seen_survives, stays_during, stays_found}
use Rattle.meta_register.proofs.meta.MetaRegisterRegister.write.Goals as goal

pub returns-then-is_shut-clause-any_crash : goal.returns-then-is_shut-clause-any_crash
returns-then-is_shut-clause-any_crash g c =
    let i = c.self.inside in
    stays_during c.args.self.now c.args.chain.now i.kept.journal.disk (ap (λ (v : View). v.disk.timeline) c.self.view_is) (seen_survives i.standing i.older i.counts i.kept c.args.self.now c.self.invariant c.self.view_is)

pub returns-in_err-standing-clause-any_crash : goal.returns-in_err-standing-clause-any_crash
returns-in_err-standing-clause-any_crash g c =
    let i = c.self.inside in
    stays_during c.args.self.now c.args.chain.now c.args.self.now.disk refl (seen_survives i.standing i.older i.counts i.kept c.args.self.now c.self.invariant c.self.view_is)

pub returns-then-expected-version-clause-any_crash : goal.returns-then-expected-version-clause-any_crash
returns-then-expected-version-clause-any_crash g c =
    let i = c.self.inside in
    stays_during c.args.self.now c.args.chain.now i.kept.journal.disk (ap (λ (v : View). v.disk.timeline) c.self.view_is) (seen_survives i.standing i.older i.counts i.kept c.args.self.now c.self.invariant c.self.view_is)

pub returns-then-is_shut-clause-wrong : goal.returns-then-is_shut-clause-wrong
returns-then-is_shut-clause-wrong g c = λ _.
    let i = c.self.inside in
    stays_found c.args.self.now i.kept.journal.disk (ap (λ (v : View). v.disk.timeline) c.self.view_is) (seen_survives i.standing i.older i.counts i.kept c.args.self.now c.self.invariant c.self.view_is)

pub returns-in_err-standing-clause-wrong : goal.returns-in_err-standing-clause-wrong
returns-in_err-standing-clause-wrong g c = λ _.
    let i = c.self.inside in
    stays_found c.args.self.now c.args.self.now.disk refl (seen_survives i.standing i.older i.counts i.kept c.args.self.now c.self.invariant c.self.view_is)

pub returns-then-expected-version-clause-wrong : goal.returns-then-expected-version-clause-wrong
returns-then-expected-version-clause-wrong g c = λ _.
    let i = c.self.inside in
    stays_found c.args.self.now i.kept.journal.disk (ap (λ (v : View). v.disk.timeline) c.self.view_is) (seen_survives i.standing i.older i.counts i.kept c.args.self.now c.self.invariant c.self.view_is)
