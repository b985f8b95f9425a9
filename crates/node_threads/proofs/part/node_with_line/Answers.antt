use Rattle.std.proofs.Common.{◌≡◌, refl, sym, ap, ◌∙◌, length, arith}
use Rattle.std.proofs.lemmas.Option.{slice_get_read}
use Rattle.script_text.specs.declared.asks.NamedLine.{NamedLine}
use Rattle.node_threads.proofs.Parts.{none_more}
use Rattle.node_threads.proofs.part.node_with_line.Goals as goal

pub loop-i-preserved : goal.loop-i-preserved
loop-i-preserved c =
    let a = c.args in
    let l = c.loop-i in
    let line = c.index-lines-i.result in
    let at = slice_get_read a.lines.now (length a.lines.now) l.i line refl (omega (arith, c.loop-i-test.true, c.requires.1)) c.index-lines-i.is in
    let other = λ (e : line.node ≡ a.who). c.if-from-who.false (c.from.ensures ∙ (c.number.ensures.value ∙ (ap (λ (x : NamedLine). x.node) (sym c.index-lines-i.is) ∙ e))) in
    record {
      low = omega (arith, l.invariant.low);
      high = omega (arith, c.loop-i-test.true);
      none = none_more a.lines.now a.from l.i a.who line at other l.invariant.none;
    }
