use Rattle.std.proofs.Common.{map, set, refl, sym, subst, arith}
use Rattle.std.proofs.lemmas.Option.{slice_get_read}
use Rattle.legal_journal.specs.declared.events.FabricCall.TheVariants.{Stray}
use Rattle.legal_journal.specs.Journal.{state_of}
use Rattle.legal_journal.specs.Turns.{MayCall}
use Rattle.fabric_core.specs.Fabric.{FabricView, Keeps}
use Rattle.fabric_core.proofs.Shelf.{cell_within, strayed}
use Rattle.fabric_core.proofs.fabric.Fabric.stray.Goals as goal

pub index_mut-loglet-requires : goal.index_mut-loglet-requires
index_mut-loglet-requires g c =
    let p = g.P.Rules in
    let s = c.self.inside in
    let can = subst (λ (x : FabricView). MayCall (state_of x.journal) p.law c.args.who (Stray c.args.cell c.args.word)) (sym c.self.view_is) c.requires in
    let low = can.there in
    omega (arith, cell_within p.law g.L.Loglet.view g.L.Loglet.serving (λ m. m.items) s.cells.items s.marks.items (g.R.Register.view s.register) s.journal.items c.self.invariant c.args.cell low)

pub invariant_of-self : goal.invariant_of-self
invariant_of-self g c =
    let p = g.P.Rules in
    let s = c.self.inside in
    let can = subst (λ (x : FabricView). MayCall (state_of x.journal) p.law c.args.who (Stray c.args.cell c.args.word)) (sym c.self.view_is) c.requires in
    let low = can.there in
    let at = slice_get_read s.cells.items _ c.args.cell c.index_mut-loglet.result.now refl (cell_within p.law g.L.Loglet.view g.L.Loglet.serving (λ m. m.items) s.cells.items s.marks.items (g.R.Register.view s.register) s.journal.items c.self.invariant c.args.cell low) c.index_mut-loglet.ensures.value in
    (strayed p.law g.L.Loglet.view g.L.Loglet.serving (λ m. m.items) s.cells.items s.marks.items (g.R.Register.view s.register) s.journal.items c.self.invariant c.args.cell low c.index_mut-loglet.result.now at c.stray_in.new.loglet c.stray_in.new.journal.items c.args.who c.args.word c.stray_in.result can c.stray_in.ensures).now

pub returns : goal.returns
returns g c =
    let p = g.P.Rules in
    let s = c.self.inside in
    let can = subst (λ (x : FabricView). MayCall (state_of x.journal) p.law c.args.who (Stray c.args.cell c.args.word)) (sym c.self.view_is) c.requires in
    let low = can.there in
    let at = slice_get_read s.cells.items _ c.args.cell c.index_mut-loglet.result.now refl (cell_within p.law g.L.Loglet.view g.L.Loglet.serving (λ m. m.items) s.cells.items s.marks.items (g.R.Register.view s.register) s.journal.items c.self.invariant c.args.cell low) c.index_mut-loglet.ensures.value in
    let now : FabricView = record { cells = map g.L.Loglet.view (set s.cells.items c.args.cell c.stray_in.new.loglet); serving = map g.L.Loglet.serving (set s.cells.items c.args.cell c.stray_in.new.loglet); register = g.R.Register.view s.register; journal = c.stray_in.new.journal.items } in
    subst (λ (f : FabricView). Keeps p.law f c.args.who (Stray c.args.cell c.args.word) c.stray_in.result now) c.self.view_is
    (strayed p.law g.L.Loglet.view g.L.Loglet.serving (λ m. m.items) s.cells.items s.marks.items (g.R.Register.view s.register) s.journal.items c.self.invariant c.args.cell low c.index_mut-loglet.result.now at c.stray_in.new.loglet c.stray_in.new.journal.items c.args.who c.args.word c.stray_in.result can c.stray_in.ensures).keeps
