use Rattle.std.proofs.Common.{◌≡◌, refl, sym, ◌∙◌, subst, List, length, map}
use Rattle.std.proofs.lemmas.List.{length-map}
use Rattle.delos_types.specs.declared.chain.Chain.{Chain}
use Rattle.legal_journal.specs.Journal.{IsLegal}
use Rattle.fitting_run.specs.Yard.{Shown}
use Rattle.fitting_run.specs.declared.told.Told.{Told}
use Rattle.run_laws.specs.Ended.{RunEnded}
use Rattle.fabric_core.specs.Fabric.{IsRegisterAsTold}
use Rattle.legal_journal.specs.Journal as journal
use Rattle.run_ends.specs.Closing.{WorkerEnd, HasClosed, IsGivenBack}
use Rattle.run_ends.specs.Rows.{played_of}
use Rattle.run_ends.specs.Rows.{AreRows, CanTell}
use Rattle.fitting_run.specs.Fits.{Fits}
use Rattle.turn_scopes.specs.Floors.{FloorIs}
use Rattle.run_closing.specs.Finishing.{SeesAll}
use Rattle.crew_run.specs.Telling.{GoesByRows}
use Rattle.crew_run.proofs.Telling.{asked_only, outside_asked, stands_on}
use Rattle.node_workers.proofs.Ok.{in_ok, on_ok}
use Rattle.crew_run.proofs.tell.tell_closed.Goals as goal

pub rows_of-rows-requires : goal.rows_of-rows-requires
rows_of-rows-requires g c =
    let w = c.args.crew in
    let h = c.requires.closed in
    let ends : List WorkerEnd = map (λ x. record { seat = x.seat; desks = x.desks.items }) w.workers.items in
    record {
      tellable = subst (λ l. CanTell c.args.lines.now (map (λ x. record { seat = x.seat; desks = x.desks.items }) l) c.as_slice-2.result.now) (sym c.as_slice.ensures.value)
          (subst (λ l. CanTell c.args.lines.now ends l) (sym c.as_slice-2.ensures.value)
          (c.what_closed_can_be_told.ensures c.requires.run c.args.lines.now c.args._faults.now w.fabric.journal w.looks.items h.0 ends h.2));
    }

pub returns-in-Ok-Ok-clause-told : goal.returns-in-Ok-Ok-clause-told
returns-in-Ok-Ok-clause-told g c =
    let p = g.K.Terms in
    let r = g.S.Replica in
    let lines = c.args.lines.now in
    let faults = c.args._faults.now in
    let w = c.args.crew in
    let q = c.read_last-fabric in
    let h = c.requires.closed in
    let early = w.fabric.journal in
    let new = q.result.fabric.journal in
    let ends : List WorkerEnd = map (λ x. record { seat = x.seat; desks = x.desks.items }) w.workers.items in
    let o : Told = record { rows = c.in-Ok-Ok.rows; end = c.args.end; version = c.in-Ok-Ok.last.version; chain = c.in-Ok-Ok.last.chain; down = c.in-Ok-Ok.last.down } in
    let asks = on_ok _ c.in-Ok-Ok.is-0 q.ensures.asks in
    let last = in_ok _ c.in-Ok-Ok.is-0 q.ensures.last in
    let legal = q.ensures.legal in
    let closed = subst (λ l. HasClosed p.law r.meaning lines faults l w.looks.items h.0 ends) (sym asks.seen)
    (c.reads_change_nothing.ensures lines faults early asks.more w.looks.items h.0 ends h.2 (outside_asked early new q.ensures.since asks) (subst (λ l. IsLegal p.law l) asks.seen legal)) in
    let rows = in_ok _ c.in-Ok-Ok.is-1 c.rows_of-rows.ensures.rows in
    let rows' = subst (λ l. AreRows lines (map (λ x. record { seat = x.seat; desks = x.desks.items }) l) w.looks.items c.in-Ok-Ok.rows) c.as_slice.ensures.value (subst (λ l. AreRows lines (map (λ x. record { seat = x.seat; desks = x.desks.items }) c.as_slice.result.now) l c.in-Ok-Ok.rows) c.as_slice-2.ensures.value rows) in
    let long : length ends ≡ length w.workers.items = length-map w.workers.items (λ x. record { seat = x.seat; desks = x.desks.items }) in
    let rule = subst (FloorIs p.law.floor) (sym long) c.requires.floor in
    let ended : (yard : Shown) → IsGivenBack p.law new ends o.chain yard → IsRegisterAsTold (journal.state_of new).register yard.register → (map (λ t. t.line) (played_of lines o.rows w.looks.items) ≡ lines) × RunEnded (played_of lines o.rows w.looks.items) faults o yard = λ yard back told.
    c.what_closed_has_ended.ensures c.requires.run lines faults new w.looks.items h.0 ends o yard c.requires.may rule closed rows' (sym h.1) back told
    (c.the_chain_is_registered.ensures early c.in-Ok-Ok.last q.result.fabric yard.register o legal asks last c.journal-told.ensures.register c.journal-told.ensures.register_runs told back.register_runs refl refl refl) in
    record {
      chain = last.told;
      whole = λ yard back told quiet.
          let reads = outside_asked early new q.ensures.since asks in
          sym h.1 ∙ c.a_calm_run_has_seen_all.ensures c.requires.run.low early asks.more ends h.0 o.chain yard
          (subst (λ n. SeesAll early (λ (w : WorkerEnd). w.seat) ends n) (sym h.1) c.requires.sees) h.2.front reads
          (subst (λ l. IsGivenBack p.law l ends o.chain yard) asks.seen back) quiet;
      extended = λ yard back quiet.
          let goes = c.each_segment_is_told.ensures lines faults o.rows new w.looks.items h.0 ends closed rows' in
          subst (λ (k : Chain). GoesByRows k o.rows) (sym last.told) (record { most = goes.most (c.a_calm_journal_tells_no_fault.ensures new ends o.chain yard back quiet); segments = goes.segments });
      fits = λ yard back told. let e = ended yard back told in subst (λ l. Fits l faults o yard) e.0 (c.what_ended_fits.ensures (played_of lines o.rows w.looks.items) faults o yard e.1);
      calm = λ yard back told quiet. c.a_calm_run_answers_all.ensures (played_of lines o.rows w.looks.items) faults o yard (ended yard back told).1 quiet;
    }

pub returns-in-Ok-Ok-clause-mends : goal.returns-in-Ok-Ok-clause-mends
returns-in-Ok-Ok-clause-mends g c =
    let q = c.read_last-fabric in
    asked_only c.args.crew.fabric.journal q.result.fabric.journal q.ensures.since (on_ok _ c.in-Ok-Ok.is-0 q.ensures.asks)

pub returns-in-Ok-Ok-clause-stands : goal.returns-in-Ok-Ok-clause-stands
returns-in-Ok-Ok-clause-stands g c =
    let p = g.K.Terms in
    let r = g.S.Replica in
    let q = c.read_last-fabric in
    stands_on p.law r.meaning 0 c.args.crew.fabric.journal q.result.fabric.journal (λ x. x.seat) c.args.crew.workers.items q.ensures.since q.ensures.legal c.requires.stands

pub returns-in_default-clause-stands : goal.returns-in_default-clause-stands
returns-in_default-clause-stands g c =
    let p = g.K.Terms in
    let r = g.S.Replica in
    let q = c.read_last-fabric in
    stands_on p.law r.meaning 0 c.args.crew.fabric.journal q.result.fabric.journal (λ x. x.seat) c.args.crew.workers.items q.ensures.since q.ensures.legal c.requires.stands
