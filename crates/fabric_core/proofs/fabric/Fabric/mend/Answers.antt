use Rattle.std.proofs.Common.{map, set, refl, sym, subst, arith}
use Rattle.std.proofs.lemmas.Option.{slice_get_read, slice_get_within}
use Rattle.legal_journal.specs.declared.events.FabricCall.TheVariants.{Mend}
use Rattle.legal_journal.specs.Journal.{state_of}
use Rattle.legal_journal.specs.Turns.{MayCall}
use Rattle.fabric_core.specs.Fabric.{FabricView, Keeps}
use Rattle.fabric_core.proofs.Shelf.{cell_within, mended, server_within}
use Rattle.fabric_core.proofs.fabric.Fabric.mend.Goals as goal

pub index_mut-loglet-requires : goal.index_mut-loglet-requires
index_mut-loglet-requires g c =
    let p = g.P.Rules in
    let s = c.self.inside in
    let can = subst (λ (x : FabricView). MayCall (state_of x.journal) p.law c.args.who (Mend c.args.cell c.args.server c.args.word)) (sym c.self.view_is) c.requires in
    let low = slice_get_within p.law.shelf c.args.cell can.there.0 can.there.1 in
    omega (arith, cell_within p.law g.L.Loglet.view g.L.Loglet.serving (λ m. m.items) s.cells.items s.marks.items (g.R.Register.view s.register) s.journal.items c.self.invariant c.args.cell low)

pub invariant_of-self : goal.invariant_of-self
invariant_of-self g c =
    let p = g.P.Rules in
    let s = c.self.inside in
    let can = subst (λ (x : FabricView). MayCall (state_of x.journal) p.law c.args.who (Mend c.args.cell c.args.server c.args.word)) (sym c.self.view_is) c.requires in
    let low = slice_get_within p.law.shelf c.args.cell can.there.0 can.there.1 in
    let at = slice_get_read s.cells.items _ c.args.cell c.index_mut-loglet.result.now refl (cell_within p.law g.L.Loglet.view g.L.Loglet.serving (λ m. m.items) s.cells.items s.marks.items (g.R.Register.view s.register) s.journal.items c.self.invariant c.args.cell low) c.index_mut-loglet.ensures.value in
    (mended p.law g.L.Loglet.view g.L.Loglet.serving (λ m. m.items) s.cells.items s.marks.items (g.R.Register.view s.register) s.journal.items c.self.invariant c.args.cell low c.index_mut-loglet.result.now at c.mend_in.new.loglet c.mend_in.new.journal.items c.args.who c.args.server c.args.word c.mend_in.result can c.mend_in.ensures).now

pub returns : goal.returns
returns g c =
    let p = g.P.Rules in
    let s = c.self.inside in
    let can = subst (λ (x : FabricView). MayCall (state_of x.journal) p.law c.args.who (Mend c.args.cell c.args.server c.args.word)) (sym c.self.view_is) c.requires in
    let low = slice_get_within p.law.shelf c.args.cell can.there.0 can.there.1 in
    let at = slice_get_read s.cells.items _ c.args.cell c.index_mut-loglet.result.now refl (cell_within p.law g.L.Loglet.view g.L.Loglet.serving (λ m. m.items) s.cells.items s.marks.items (g.R.Register.view s.register) s.journal.items c.self.invariant c.args.cell low) c.index_mut-loglet.ensures.value in
    let now : FabricView = record { cells = map g.L.Loglet.view (set s.cells.items c.args.cell c.mend_in.new.loglet); serving = map g.L.Loglet.serving (set s.cells.items c.args.cell c.mend_in.new.loglet); register = g.R.Register.view s.register; journal = c.mend_in.new.journal.items } in
    subst (λ (f : FabricView). Keeps p.law f c.args.who (Mend c.args.cell c.args.server c.args.word) c.mend_in.result now) c.self.view_is
    (mended p.law g.L.Loglet.view g.L.Loglet.serving (λ m. m.items) s.cells.items s.marks.items (g.R.Register.view s.register) s.journal.items c.self.invariant c.args.cell low c.index_mut-loglet.result.now at c.mend_in.new.loglet c.mend_in.new.journal.items c.args.who c.args.server c.args.word c.mend_in.result can c.mend_in.ensures).keeps

pub mend_in-requires : goal.mend_in-requires
mend_in-requires g c =
    let p = g.P.Rules in
    let s = c.self.inside in
    let can = subst (λ (x : FabricView). MayCall (state_of x.journal) p.law c.args.who (Mend c.args.cell c.args.server c.args.word)) (sym c.self.view_is) c.requires in
    let low = slice_get_within p.law.shelf c.args.cell can.there.0 can.there.1 in
    let at = slice_get_read s.cells.items _ c.args.cell c.index_mut-loglet.result.now refl (cell_within p.law g.L.Loglet.view g.L.Loglet.serving (λ m. m.items) s.cells.items s.marks.items (g.R.Register.view s.register) s.journal.items c.self.invariant c.args.cell low) c.index_mut-loglet.ensures.value in
    server_within p.law g.L.Loglet.view g.L.Loglet.serving (λ m. m.items) s.cells.items s.marks.items (g.R.Register.view s.register) s.journal.items c.self.invariant c.args.cell low c.index_mut-loglet.result.now at c.index_mut-loglet.result.now s.journal.items c.args.server can.there.0 can.there.1 can.there.2
