use Rattle.std.proofs.Common.{map, set, refl, sym, subst, arith}
use Rattle.std.proofs.lemmas.Option.{slice_get_read}
use Rattle.legal_journal.specs.declared.events.FabricCall.TheVariants.{Carry}
use Rattle.legal_journal.specs.Journal.{state_of}
use Rattle.legal_journal.specs.Turns.{MayCall}
use Rattle.fabric_core.specs.Fabric.{FabricView, Keeps}
use Rattle.fabric_core.proofs.Shelf.{cell_within, marks_within, carried, open_where_marked}
use Rattle.fabric_core.proofs.fabric.Fabric.carry.Goals as goal

pub index_mut-requires-2 : goal.index_mut-requires-2
index_mut-requires-2 g c =
    let p = g.P.Rules in
    let s = c.self.inside in
    omega (arith, marks_within p.law g.L.Loglet.view g.L.Loglet.serving (λ m. m.items) s.cells.items s.marks.items (g.R.Register.view s.register) s.journal.items c.self.invariant c.args.cell c.requires.there)

pub invariant_of-self : goal.invariant_of-self
invariant_of-self g c =
    let p = g.P.Rules in
    let s = c.self.inside in
    let can = subst (λ (f : FabricView). MayCall (state_of f.journal) p.law c.args.who (Carry c.args.cell c.args.ticket c.args.word)) (sym c.self.view_is) c.requires in
    let at = slice_get_read s.cells.items _ c.args.cell c.index_mut.result.now refl (cell_within p.law g.L.Loglet.view g.L.Loglet.serving (λ m. m.items) s.cells.items s.marks.items (g.R.Register.view s.register) s.journal.items c.self.invariant c.args.cell can.there) c.index_mut.ensures.value in
    let marked = slice_get_read s.marks.items _ c.args.cell c.index_mut-2.result.now refl (marks_within p.law g.L.Loglet.view g.L.Loglet.serving (λ m. m.items) s.cells.items s.marks.items (g.R.Register.view s.register) s.journal.items c.self.invariant c.args.cell can.there) c.index_mut-2.ensures.value in
    (carried p.law g.L.Loglet.view g.L.Loglet.serving (λ m. m.items) s.cells.items s.marks.items (g.R.Register.view s.register) s.journal.items c.self.invariant c.args.cell c.index_mut.result.now c.index_mut-2.result.now at marked c.carry_in.new.loglet c.carry_in.new.marks c.carry_in.new.journal.items
    c.args.who c.args.ticket c.args.word c.carry_in.result can c.carry_in.ensures).now

pub returns : goal.returns
returns g c =
    let p = g.P.Rules in
    let s = c.self.inside in
    let can = subst (λ (f : FabricView). MayCall (state_of f.journal) p.law c.args.who (Carry c.args.cell c.args.ticket c.args.word)) (sym c.self.view_is) c.requires in
    let at = slice_get_read s.cells.items _ c.args.cell c.index_mut.result.now refl (cell_within p.law g.L.Loglet.view g.L.Loglet.serving (λ m. m.items) s.cells.items s.marks.items (g.R.Register.view s.register) s.journal.items c.self.invariant c.args.cell can.there) c.index_mut.ensures.value in
    let marked = slice_get_read s.marks.items _ c.args.cell c.index_mut-2.result.now refl (marks_within p.law g.L.Loglet.view g.L.Loglet.serving (λ m. m.items) s.cells.items s.marks.items (g.R.Register.view s.register) s.journal.items c.self.invariant c.args.cell can.there) c.index_mut-2.ensures.value in
    let now : FabricView = record { cells = map g.L.Loglet.view (set s.cells.items c.args.cell c.carry_in.new.loglet); serving = map g.L.Loglet.serving (set s.cells.items c.args.cell c.carry_in.new.loglet); register = g.R.Register.view s.register; journal = c.carry_in.new.journal.items } in
    subst (λ (f : FabricView). Keeps p.law f c.args.who (Carry c.args.cell c.args.ticket c.args.word) c.carry_in.result now) c.self.view_is
    (carried p.law g.L.Loglet.view g.L.Loglet.serving (λ m. m.items) s.cells.items s.marks.items (g.R.Register.view s.register) s.journal.items c.self.invariant c.args.cell c.index_mut.result.now c.index_mut-2.result.now at marked c.carry_in.new.loglet c.carry_in.new.marks c.carry_in.new.journal.items
    c.args.who c.args.ticket c.args.word c.carry_in.result can c.carry_in.ensures).keeps

pub carry_in-requires : goal.carry_in-requires
carry_in-requires g c =
    let p = g.P.Rules in
    let s = c.self.inside in
    let at = slice_get_read s.cells.items _ c.args.cell c.index_mut.result.now refl (cell_within p.law g.L.Loglet.view g.L.Loglet.serving (λ m. m.items) s.cells.items s.marks.items (g.R.Register.view s.register) s.journal.items c.self.invariant c.args.cell c.requires.there) c.index_mut.ensures.value in
    let marked = slice_get_read s.marks.items _ c.args.cell c.index_mut-2.result.now refl (marks_within p.law g.L.Loglet.view g.L.Loglet.serving (λ m. m.items) s.cells.items s.marks.items (g.R.Register.view s.register) s.journal.items c.self.invariant c.args.cell c.requires.there) c.index_mut-2.ensures.value in
    open_where_marked p.law g.L.Loglet.view g.L.Loglet.serving (λ m. m.items) s.cells.items s.marks.items (g.R.Register.view s.register) s.journal.items c.self.invariant c.args.cell c.index_mut.result.now c.index_mut-2.result.now at marked c.index_mut.result.now c.index_mut-2.result.now s.journal.items c.args.ticket
