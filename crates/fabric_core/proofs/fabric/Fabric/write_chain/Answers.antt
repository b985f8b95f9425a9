use Rattle.std.proofs.Common.{map, subst, sym}
use Rattle.legal_journal.specs.declared.events.FabricCall.TheVariants.{WriteChain}
use Rattle.legal_journal.specs.Journal.{state_of}
use Rattle.legal_journal.specs.Turns.{MayCall}
use Rattle.fabric_core.specs.Fabric.{FabricView, Keeps}
use Rattle.fabric_core.proofs.Registered.{write_goes, may_write, version_small}
use Rattle.fabric_core.proofs.fabric.Fabric.write_chain.Goals as goal

pub invariant_of-self : goal.invariant_of-self
invariant_of-self g c =
    let p = g.P.Rules in
    let s = c.self.inside in
    let f : FabricView = record { cells = map g.L.Loglet.view s.cells.items; serving = map g.L.Loglet.serving s.cells.items; register = g.R.Register.view s.register; journal = s.journal.items } in
    let can = subst (λ (x : FabricView). MayCall (state_of x.journal) p.law c.args.who (WriteChain c.args.expected c.args.chain)) (sym c.self.view_is) c.requires in
    (write_goes p.law f (map (λ m. m.items) s.marks.items) c.self.invariant c.args.who c.args.expected c.args.chain c.write_in.result (g.R.Register.view c.write_in.new.register) c.write_in.new.journal.items can c.write_in.ensures).now

pub returns : goal.returns
returns g c =
    let p = g.P.Rules in
    let s = c.self.inside in
    let f : FabricView = record { cells = map g.L.Loglet.view s.cells.items; serving = map g.L.Loglet.serving s.cells.items; register = g.R.Register.view s.register; journal = s.journal.items } in
    let can = subst (λ (x : FabricView). MayCall (state_of x.journal) p.law c.args.who (WriteChain c.args.expected c.args.chain)) (sym c.self.view_is) c.requires in
    let now : FabricView = record { cells = map g.L.Loglet.view s.cells.items; serving = map g.L.Loglet.serving s.cells.items; register = g.R.Register.view c.write_in.new.register; journal = c.write_in.new.journal.items } in
    subst (λ (x : FabricView). Keeps p.law x c.args.who (WriteChain c.args.expected c.args.chain) c.write_in.result now) c.self.view_is
    (write_goes p.law f (map (λ m. m.items) s.marks.items) c.self.invariant c.args.who c.args.expected c.args.chain c.write_in.result (g.R.Register.view c.write_in.new.register) c.write_in.new.journal.items can c.write_in.ensures).keeps

pub write_in-requires-clause-version : goal.write_in-requires-clause-version
write_in-requires-clause-version g c =
    let p = g.P.Rules in
    let s = c.self.inside in
    let f : FabricView = record { cells = map g.L.Loglet.view s.cells.items; serving = map g.L.Loglet.serving s.cells.items; register = g.R.Register.view s.register; journal = s.journal.items } in
    version_small p.law f (map (λ m. m.items) s.marks.items) c.self.invariant

pub write_in-requires-clause-chain : goal.write_in-requires-clause-chain
write_in-requires-clause-chain g c =
    let p = g.P.Rules in
    let s = c.self.inside in
    let f : FabricView = record { cells = map g.L.Loglet.view s.cells.items; serving = map g.L.Loglet.serving s.cells.items; register = g.R.Register.view s.register; journal = s.journal.items } in
    let can = subst (λ (x : FabricView). MayCall (state_of x.journal) p.law c.args.who (WriteChain c.args.expected c.args.chain)) (sym c.self.view_is) c.requires in
    may_write p.law f (map (λ m. m.items) s.marks.items) c.self.invariant c.args.who c.args.expected c.args.chain can
