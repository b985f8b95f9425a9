-- How many Seals a node began.
use Rattle.std.proofs.Common.{◌≡◌, sym, ap, ◌∙◌, ℕ, ◌≤◌, List, [], Option, Some, None, slice_get, slice_set, arith}
use Rattle.legal_journal.specs.declared.events.Event.{Event}
use Rattle.legal_journal.specs.Sealing.{own_seals}
use Rattle.journal_laws.specs.Own.{faults_of}
use Rattle.virtual_log.specs.Sealing.{SealsNone}
use Rattle.script_text.specs.declared.asks.NamedLine.{NamedLine}
use Rattle.node_lines.specs.declared.lines.Looked.{Looked}
use Rattle.node_course.specs.Played.{went_further}
use Rattle.node_course.proofs.Events.{calm_before, seals_on}
use Rattle.node_course.proofs.Replacing.{further_set}

module _ (n : ℕ) (old new : List Event) where
  pub seals_kept : SealsNone n old new → own_seals n new ≡ own_seals n old
  seals_kept h =
      let is = ap (own_seals n) h.seen in
      let parts = seals_on n old h.more in
      omega (arith, is, parts, h.none)

  -- where it began none since, and as many lines of its own found the chain further on
  pub seals_still : (before after : ℕ) → SealsNone n old new → before ≤ after → (faults_of n old ≡ [] → own_seals n old ≤ before) → faults_of n new ≡ [] → own_seals n new ≤ after
  seals_still before after h up was calm =
      let low = was (calm_before n old h.more (sym (ap (faults_of n) h.seen) ∙ calm)) in
      omega (arith, low, seals_kept h, up)

  -- .. and one more line of its own was played
  pub seals_played : (lines : List NamedLine) (looks : List (Option Looked)) (i : ℕ) (line : NamedLine) (look : Looked) → slice_get lines i ≡ Some line → line.node ≡ n → slice_get looks i ≡ Some None → SealsNone n old new
      → (faults_of n old ≡ [] → own_seals n old ≤ went_further n lines looks) → faults_of n new ≡ [] → own_seals n new ≤ went_further n lines (slice_set looks i (Some look))
  seals_played lines looks i line look at own not_yet still was =
      seals_still (went_further n lines looks) (went_further n lines (slice_set looks i (Some look))) still (let more = further_set n lines looks i line look at own not_yet in omega (arith, more)) was
