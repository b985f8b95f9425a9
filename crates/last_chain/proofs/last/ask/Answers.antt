use Rattle.std.proofs.Common.{subst}
use Rattle.legal_journal.specs.declared.events.FabricAnswer.{FabricAnswer}
use Rattle.legal_journal.specs.declared.events.FabricCall.TheVariants.{ReadChain}
use Rattle.fabric_core.specs.Fabric.{Adds}
use Rattle.last_chain.proofs.Asking.{watches, read_leaves, gave, stays_down, up_then}
use Rattle.last_chain.proofs.last.ask.Goals as goal

pub returns-in-At-clause-watches : goal.returns-in-At-clause-watches
returns-in-At-clause-watches g c =
    let a = c.apply-answer in
    watches c.args.who ReadChain a.result c.args.fabric.now.journal a.new.self.journal a.ensures.adds (λ w. read_leaves w c.args.who a.result)

pub returns-in-At-clause-asked : goal.returns-in-At-clause-asked
returns-in-At-clause-asked g c =
    let p = g.P.Rules in
    let old = c.args.fabric.now in
    let new = c.apply-answer.new.self in
    let adds = subst (λ (x : FabricAnswer). Adds old.journal c.args.who ReadChain x new.journal) c.in-At.is c.apply-answer.ensures.adds in
    let told = c.journal-after.ensures.register in (
      gave p.law c.args.who c.in-At.version c.in-At.chain old new adds c.apply-answer.ensures.legal told,
      up_then p.law c.args.who c.in-At.version c.in-At.chain old new adds told,
    )

pub returns-in-Down-clause-watches : goal.returns-in-Down-clause-watches
returns-in-Down-clause-watches g c =
    let a = c.apply-answer in
    watches c.args.who ReadChain a.result c.args.fabric.now.journal a.new.self.journal a.ensures.adds (λ w. read_leaves w c.args.who a.result)

pub returns-in-Down-clause-asked : goal.returns-in-Down-clause-asked
returns-in-Down-clause-asked g c =
    let p = g.P.Rules in
    let old = c.args.fabric.now in
    let new = c.apply-answer.new.self in
    stays_down p.law c.args.who old new
    (subst (λ (x : FabricAnswer). Adds old.journal c.args.who ReadChain x new.journal) c.in-Down.is c.apply-answer.ensures.adds)
    c.apply-answer.ensures.legal c.journal-before.ensures.register c.journal-after.ensures.register

pub returns-in_default : goal.returns-in_default
returns-in_default g c =
    let a = c.apply-answer in
    record {
      legal = a.ensures.legal;
      watches = watches c.args.who ReadChain a.result c.args.fabric.now.journal a.new.self.journal a.ensures.adds (λ w. read_leaves w c.args.who a.result);
      makes = tt;
      asked = tt;
    }
