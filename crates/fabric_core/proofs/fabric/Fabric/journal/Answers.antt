use Rattle.std.proofs.Common.{◌≡◌, ◌≤◌, ℕ, Some, map, subst}
use Rattle.std.specs.Prelude.{slice_get}
use Rattle.loglet_api.specs.View.{LogletView}
use Rattle.legal_journal.specs.Journal.{state_of, log_at, trim_of, tail_of}
use Rattle.fabric_core.specs.Log.{virtual_log_at, virtual_tail}
use Rattle.fabric_core.specs.Runs.{HasRun, HasRegisterRun}
use Rattle.fabric_core.specs.Fabric.{FabricView, IsRegisterAsTold}
use Rattle.fabric_core.proofs.Ties.{shows, tails}
use Rattle.fabric_core.proofs.fabric.Fabric.journal.Goals as goal

pub returns-clause-runs : goal.returns-clause-runs
returns-clause-runs g c =
    subst (λ (f : FabricView). (i : ℕ) (v : LogletView) → slice_get f.cells i ≡ Some v → HasRun i f.journal v) c.self.view_is (λ i v h. (c.self.invariant.cells i v h).ran)

pub returns-clause-shows : goal.returns-clause-shows
returns-clause-shows g c =
    let p = g.P.Rules in
    let s = c.self.inside in
    let f : FabricView = record { cells = map g.L.Loglet.view s.cells.items; serving = map g.L.Loglet.serving s.cells.items; register = g.R.Register.view s.register; journal = s.journal.items } in
    subst (λ (v : FabricView). (pos : ℕ) → trim_of (state_of v.journal) ≤ pos → virtual_log_at (state_of v.journal).register.chain v.cells pos ≡ log_at (state_of v.journal) pos) c.self.view_is
    (shows p.law f (map (λ m. m.items) s.marks.items) c.self.invariant)

pub returns-clause-tail : goal.returns-clause-tail
returns-clause-tail g c =
    let p = g.P.Rules in
    let s = c.self.inside in
    let f : FabricView = record { cells = map g.L.Loglet.view s.cells.items; serving = map g.L.Loglet.serving s.cells.items; register = g.R.Register.view s.register; journal = s.journal.items } in
    subst (λ (v : FabricView). virtual_tail (state_of v.journal).register.chain v.cells ≡ tail_of (state_of v.journal)) c.self.view_is
    (tails p.law f (map (λ m. m.items) s.marks.items) c.self.invariant)

pub returns-clause-register_runs : goal.returns-clause-register_runs
returns-clause-register_runs g c = subst (λ (f : FabricView). HasRegisterRun f.journal f.register) c.self.view_is c.self.invariant.register_ran

pub returns-clause-register : goal.returns-clause-register
returns-clause-register g c =
    subst (λ (f : FabricView). IsRegisterAsTold (state_of f.journal).register f.register) c.self.view_is c.self.invariant.register
