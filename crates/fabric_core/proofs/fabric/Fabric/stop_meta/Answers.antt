use Rattle.std.proofs.Common.{map, subst}
use Rattle.legal_journal.specs.declared.events.FabricCall.TheVariants.{StopMeta}
use Rattle.fabric_core.specs.Fabric.{FabricView, Keeps}
use Rattle.fabric_core.proofs.Registered.{arm_goes}
use Rattle.fabric_core.proofs.fabric.Fabric.stop_meta.Goals as goal

pub invariant_of-self : goal.invariant_of-self
invariant_of-self g c =
    let p = g.P.Rules in
    let s = c.self.inside in
    let f : FabricView = record { cells = map g.L.Loglet.view s.cells.items; serving = map g.L.Loglet.serving s.cells.items; register = g.R.Register.view s.register; journal = s.journal.items } in
    (arm_goes p.law f (map (λ m. m.items) s.marks.items) c.self.invariant c.args.who c.args.after c.arm_in.result (g.R.Register.view c.arm_in.new.register) c.arm_in.new.journal.items c.arm_in.ensures).now

pub returns : goal.returns
returns g c =
    let p = g.P.Rules in
    let s = c.self.inside in
    let f : FabricView = record { cells = map g.L.Loglet.view s.cells.items; serving = map g.L.Loglet.serving s.cells.items; register = g.R.Register.view s.register; journal = s.journal.items } in
    let now : FabricView = record { cells = map g.L.Loglet.view s.cells.items; serving = map g.L.Loglet.serving s.cells.items; register = g.R.Register.view c.arm_in.new.register; journal = c.arm_in.new.journal.items } in
    subst (λ (x : FabricView). Keeps p.law x c.args.who (StopMeta c.args.after) c.arm_in.result now) c.self.view_is
    (arm_goes p.law f (map (λ m. m.items) s.marks.items) c.self.invariant c.args.who c.args.after c.arm_in.result (g.R.Register.view c.arm_in.new.register) c.arm_in.new.journal.items c.arm_in.ensures).keeps
