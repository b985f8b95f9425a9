-- What comes behind a node's report stands at it or above, still as its course goes on.
use Rattle.std.proofs.Common.{ℕ, ◌+◌, List, Option}
use Rattle.legal_journal.specs.Law.{Law}
use Rattle.script_text.specs.declared.asks.NamedLine.{NamedLine}
use Rattle.node_lines.specs.declared.lines.Looked.{Looked}
use Rattle.node_lines.specs.declared.lines.Looked.TheVariants as looked
use Rattle.node_course.specs.Moments.{NodeCourse, moment}
use Rattle.node_course.specs.Played.{Came}
use Rattle.node_course.specs.Behind.{ReportsHold, WasReported}
use Rattle.node_course.proofs.Growing.{Grown}
use Rattle.node_course.proofs.Moments.{grows_both}

module _ (law : Law) (c c' : NodeCourse) (g : Grown law c c') (lines : List NamedLine) (looks looks' : List (Option Looked)) (n : ℕ) where
  pub reported_on : (i phase position : ℕ) → WasReported lines n c i phase position → WasReported lines n c' i phase position
  reported_on i phase position h = record {
    early = h.early;
    upto = grows_both h.early (moment c (phase + 1)) (moment c' (phase + 1)) h.upto (g.later (phase + 1));
    clean = h.clean;
    own = h.own;
  }

  pub hold_on : ((i : ℕ) (l : NamedLine) (look : Looked) → Came lines looks' n i l look → Came lines looks n i l look) → ReportsHold lines looks n c → ReportsHold lines looks' n c'
  hold_on back h = record {
    each = λ i l position come. reported_on i l.phase position (h.each i l position (back i l (looked.Reported position) come));
    reads = λ i j l m position after found come then' low. h.reads i j l m position after found (back i l (looked.Reported position) come) (back j m (looked.Found after found) then') low;
    forward = λ i j l m s query after later found next come then' look low. h.forward i j l m s query after later found next (back i l (looked.Found after found) come) (back j m (looked.Found later next) then') look low;
    again = λ i j l m position later come then' low. h.again i j l m position later (back i l (looked.Reported position) come) (back j m (looked.Reported later) then') low;
  }
