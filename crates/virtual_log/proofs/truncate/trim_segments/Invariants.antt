use Rattle.std.proofs.Common.{◌≡◌, ◌<◌, ℕ, Some, None}
use Rattle.std.specs.Prelude.{slice_get}
use Rattle.delos_types.specs.declared.chain.Segment.{Segment}
use Rattle.virtual_log.specs.Turning.{Later}
use Rattle.virtual_log.specs.Truncating.{LetsGo}
use Rattle.virtual_log.specs.Saying.{SaysDrawn}
use Rattle.virtual_log.specs.Sealing.{SealsNone}
use Rattle.virtual_log.specs.Causes.{CalmSince}
use Rattle.virtual_log.specs.Operating.{Operates}
use Rattle.virtual_log.proofs.truncate.trim_segments.Given as goal

abbrev pub invariant-segment : goal.invariant-segment
invariant-segment g l =
    let t = g.T.Turns in
    let p = g.T.Law.Rules in
    let ch = g.C.Chooser in
    record {
      later : Later p.law (t.seen l.fn.turns) (t.seen l.turns);
      who : t.who l.turns ≡ t.who l.fn.turns;
      trimmed : (k : ℕ) (s : Segment) → k < l.segment-index → slice_get l.segments k ≡ Some s → s.start < l.n → LetsGo (t.who l.fn.turns) (t.seen l.fn.turns) s l.n (t.seen l.turns);
      draws : SaysDrawn ch.gives (t.who l.fn.turns) (ch.at l.fn.chooser) (t.seen l.fn.turns) (ch.at l.chooser) (t.seen l.turns);
      unsealed : SealsNone (t.who l.fn.turns) (t.seen l.fn.turns) (t.seen l.turns);
      calm : CalmSince (t.who l.fn.turns) (t.seen l.fn.turns) (t.seen l.turns);
      closes : Operates (t.who l.fn.turns) None None (t.seen l.fn.turns) (t.seen l.turns);
    }
