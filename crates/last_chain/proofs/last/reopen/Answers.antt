use Rattle.std.proofs.Common.{subst}
use Rattle.legal_journal.specs.declared.events.FabricAnswer.{FabricAnswer}
use Rattle.legal_journal.specs.declared.events.FabricCall.TheVariants.{MendMeta}
use Rattle.fabric_core.specs.Fabric.{Adds}
use Rattle.last_chain.proofs.Asking.{watches, mend_leaves, opened}
use Rattle.last_chain.proofs.last.reopen.Goals as goal

pub returns-in-Set-clause-watches : goal.returns-in-Set-clause-watches
returns-in-Set-clause-watches g c =
    let a = c.apply-answer in
    watches c.args.who (MendMeta 0) a.result c.args.fabric.now.journal a.new.self.journal a.ensures.adds (λ w. mend_leaves w c.args.who 0 a.result)

pub returns-in-Set-clause-opened : goal.returns-in-Set-clause-opened
returns-in-Set-clause-opened g c =
    let p = g.P.Rules in
    let old = c.args.fabric.now in
    let new = c.apply-answer.new.self in
    opened p.law c.args.who 0 c.in-Set.field-0 old new
    (subst (λ (x : FabricAnswer). Adds old.journal c.args.who (MendMeta 0) x new.journal) c.in-Set.is c.apply-answer.ensures.adds)
    c.journal-after.ensures.register

pub returns-in_default : goal.returns-in_default
returns-in_default g c =
    let a = c.apply-answer in
    record {
      legal = a.ensures.legal;
      watches = watches c.args.who (MendMeta 0) a.result c.args.fabric.now.journal a.new.self.journal a.ensures.adds (λ w. mend_leaves w c.args.who 0 a.result);
      makes = tt;
      opened = tt;
    }
