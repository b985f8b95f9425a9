use Rattle.std.proofs.Common.{◌≡◌, List, length, sym, subst, arith, map}
use Rattle.legal_journal.specs.declared.events.Event.{Event}
use Rattle.fabric_core.specs.Fabric.{FabricOk}
use Rattle.fabric_core.proofs.Opening.{opened}
use Rattle.fabric_core.proofs.fabric.Fabric.new.Goals as goal

pub invariant_of-result : goal.invariant_of-result
invariant_of-result g c =
    let p = g.P.Rules in
    let r = c.requires in
    let m = c.in-Ok.marks.items in
    let count : length m ≡ length c.args.cells.items = omega (arith, c.in-Ok.ensures.count, c.len.ensures) in
    subst (λ (j : List Event). FabricOk p.law p.kinds (record { cells = map g.L.Loglet.view c.args.cells.items; serving = map g.L.Loglet.serving c.args.cells.items; register = g.R.Register.view c.args.register; journal = j }) (map (λ m. m.items) m)) (sym c.new.ensures.items)
    (opened p.law g.L.Loglet.view g.L.Loglet.serving (λ m. m.items) c.args.cells.items m (g.R.Register.view c.args.register) r.least r.most r.shelf r.kinds r.fresh r.sound r.register count c.in-Ok.ensures.none)
