use Rattle.std.proofs.Common.{◌≡◌, ◌<◌, length, Some, ap, sym, ◌∙◌, arith}
use Rattle.std.specs.Prelude.{slice_get, Ok}
use Rattle.std.proofs.lemmas.Result.{err_from_is_err_and}
use Rattle.quorum_cell.specs.Servers.{Server, length_of, is_sealed}
use Rattle.file_loglet.proofs.Laters.{got_at, stored_rises, store_goes}
use Rattle.file_loglet.proofs.Heeding.{lacking, goes_stored, heeds_all, heeds_some}
use Rattle.file_loglet.proofs.decide.store_up_to.Goals as goal

pub store-requires-clause-entry : goal.store-requires-clause-entry
store-requires-clause-entry g c =
    let lt : c.length-next.result < length c.args.entries.now = omega (arith, c.requires.within, c.length.ensures.length, c.length-next.ensures.length) in
    c.requires.spelled c.length-next.result c.index-entries-next.result (got_at c.args.entries.now c.length-next.result c.index-entries-next.result lt c.index-entries-next.is)

pub loop-server-preserved : goal.loop-server-preserved
loop-server-preserved g c =
    let lt : c.length-next.result < length c.args.entries.now = omega (arith, c.requires.within, c.length.ensures.length, c.length-next.ensures.length) in
    let here : slice_get c.args.entries.now (length_of c.loop-server.server.server) ≡ Some c.index-entries-next.result =
    ap (λ i. slice_get c.args.entries.now i) (sym c.length-next.ensures.length) ∙ got_at c.args.entries.now c.length-next.result c.index-entries-next.result lt c.index-entries-next.is in
    let goes = store_goes c.args.server.now c.loop-server.server c.store.new.self c.index-entries-next.result (Ok c.in_ok-store.field-0) c.loop-server.invariant.calm c.loop-server.invariant.counted
    c.loop-server.invariant.rises c.loop-server.invariant.up (c.requires.unsealed ∙ sym c.loop-server.invariant.unsealed) c.in_ok-store.ensures in
    record {
      rises = stored_rises c.args.server.now.server c.loop-server.server.server c.store.new.self.server c.index-entries-next.result c.loop-server.invariant.rises c.in_ok-store.ensures.0;
      up = goes.0;
      unsealed = ap (λ (s : Server). is_sealed s) c.in_ok-store.ensures.0 ∙ c.loop-server.invariant.unsealed;
      calm = goes.1;
      counted = goes.2;
      heeds = goes_stored c.args.entries.now c.args.server.now.server c.loop-server.server.server c.store.new.self.server (lacking c.args.entries.now c.args.server.now.server c.args.end) c.args.end c.index-entries-next.result
          c.loop-server.invariant.unsealed (omega (arith, c.length.ensures.length)) here c.in_ok-store.ensures.0 c.loop-server.invariant.heeds;
    }

pub returns-in_err-store-clause-heeds : goal.returns-in_err-store-clause-heeds
returns-in_err-store-clause-heeds g c =
    let lt : c.length-next.result < length c.args.entries.now = omega (arith, c.requires.within, c.length.ensures.length, c.length-next.ensures.length) in
    let here : slice_get c.args.entries.now (length_of c.loop-server.server.server) ≡ Some c.index-entries-next.result =
    ap (λ i. slice_get c.args.entries.now i) (sym c.length-next.ensures.length) ∙ got_at c.args.entries.now c.length-next.result c.index-entries-next.result lt c.index-entries-next.is in
    let r = err_from_is_err_and c.from_residual.result c.from_residual.ensures.1 in
    rw (r.1, r.2)
    (heeds_some c.store.result c.args.entries.now c.args.server.now.server (lacking c.args.entries.now c.args.server.now.server c.args.end) c.loop-server.server c.store.new.self c.args.end c.index-entries-next.result _
    c.loop-server.invariant.unsealed (omega (arith, c.length.ensures.length)) here c.loop-server.invariant.heeds c.in_err-store.ensures)

pub returns-clause-heeds : goal.returns-clause-heeds
returns-clause-heeds g c =
    heeds_all c.args.entries.now c.args.server.now.server c.loop-server.server.server (lacking c.args.entries.now c.args.server.now.server c.args.end) c.args.end (omega (arith, c.length.ensures.length)) c.loop-server.invariant.heeds
