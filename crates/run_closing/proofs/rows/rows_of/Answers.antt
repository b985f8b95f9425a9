use Rattle.std.proofs.Common.{refl, sym, subst, List, map, length, arith}
use Rattle.std.proofs.lemmas.Option.{slice_get_read}
use Rattle.run_ends.specs.Closing.{WorkerEnd}
use Rattle.run_ends.specs.Rows.{AreRows}
use Rattle.run_closing.proofs.First.{tells_it, goes_on, are_rows}
use Rattle.run_closing.proofs.rows.rows_of.Goals as goal

pub row_of-requires : goal.row_of-requires
row_of-requires g c =
    let a = c.args in
    let l = c.loop-i in
    let line = c.index-lines-i.result in
    let look = c.index-looks-i.result in
    let size = c.requires.tellable.size in
    let at = slice_get_read a.lines.now (length a.lines.now) l.i line refl c.loop-i-test.true c.index-lines-i.is in
    let looked = slice_get_read a.looks.now (length a.looks.now) l.i look refl (omega (arith, c.loop-i-test.true, size)) c.index-looks-i.is in
    let workers : List WorkerEnd = map (λ w. record { seat = w.seat; desks = w.desks.items }) a.workers.now in
    tells_it a.lines.now workers a.looks.now c.requires.tellable l.i line look at looked

pub loop-i-preserved : goal.loop-i-preserved
loop-i-preserved g c =
    let a = c.args in
    let l = c.loop-i in
    let line = c.index-lines-i.result in
    let look = c.index-looks-i.result in
    let size = c.requires.tellable.size in
    let workers : List WorkerEnd = map (λ w. record { seat = w.seat; desks = w.desks.items }) a.workers.now in
    let at = slice_get_read a.lines.now (length a.lines.now) l.i line refl c.loop-i-test.true c.index-lines-i.is in
    let looked = slice_get_read a.looks.now (length a.looks.now) l.i look refl (omega (arith, c.loop-i-test.true, size)) c.index-looks-i.is in
    let more = goes_on a.lines.now workers a.looks.now l.i l.rows.items c.push.new.self.items line look c.in_ok-row.row l.invariant.size c.in_ok-push.ensures.items at looked c.in_ok-row.ensures l.invariant.first in
    record { size = more.0; first = more.1 }

pub returns : goal.returns
returns g c =
    let a = c.args in
    let l = c.loop-i in
    let workers : List WorkerEnd = map (λ w. record { seat = w.seat; desks = w.desks.items }) a.workers.now in
    record {
      rows = subst (AreRows a.lines.now workers a.looks.now) (sym c.from_vec.ensures)
          (are_rows a.lines.now workers a.looks.now l.rows.items (omega (arith, l.invariant.size, l.invariant.first.short, c.loop-i-test.false)) l.invariant.first);
    }
