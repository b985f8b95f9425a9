-- The lines of a run over nodes.
use Rattle.std.specs.Prelude.{◌≡◌, ℕ, ◌+◌, ◌<◌, ◌≤◌, slice_get, ◌==◌, ◌&&◌, nat_lt, Bool, true, List, [], ◌∷◌, length, take, count_by, Option, Some, None}
use Rattle.std.specs.List.{AllByRecursion}
use Rattle.delos_types.specs.declared.cause.Cause.{Cause}
use Rattle.script_text.specs.declared.asks.NamedLine.{NamedLine}
use Rattle.fitting_run.specs.Lines.{logs_for, are_ranked, are_in_phase, are_not_retired}
use Rattle.node_lines.specs.declared.lines.Looked.{Looked}
use Rattle.node_lines.specs.declared.lines.Looked.TheVariants as looked
use Rattle.run_laws.specs.Ended.{session_in, pays, IsAtHome}

-- Each session has its lines at one of the nodes, which keeps a desk for it; ranks count its logged lines. Any node may be asked
-- something itself.
pub record AreLines (lines : List NamedLine) (home : ℕ → ℕ) (nodes : ℕ) : Type 0 where
  pub few : length lines ≤ 20000
  pub ranked : are_ranked [] lines ≡ true
  pub phases : are_in_phase 0 lines ≡ true
  -- a node that is asked to leave has no line behind that
  pub stay : are_not_retired lines ≡ true
  pub nodes_are : AllByRecursion (λ l. (1 ≤ l.node) × (l.node ≤ nodes)) lines
  pub at_home : AllByRecursion (λ l. IsAtHome home l.node l.asks) lines
  pub there : (s : ℕ) → 1 ≤ home s
  pub within : (s : ℕ) → home s ≤ nodes
  pub known : AllByRecursion (λ l. session_in l.asks ≤ 63) lines

-- the lines of a phase and of later ones begin there
pub record BeginsAt (lines : List NamedLine) (from phase : ℕ) : Type 0 where
  pub before : (i : ℕ) (l : NamedLine) → slice_get lines i ≡ Some l → i < from → l.phase < phase
  pub behind : (i : ℕ) (l : NamedLine) → slice_get lines i ≡ Some l → from ≤ i → phase ≤ l.phase

-- the line logs a command of the session, at the node
abbrev pub logs_at : ℕ → ℕ → NamedLine → Bool
logs_at n s l = (l.node == n) && logs_for s l

-- how many commands of the session the first lines log at the node
abbrev pub asked_by : List NamedLine → ℕ → ℕ → ℕ → ℕ
asked_by lines n s at = count_by (logs_at n s) (take at lines)

-- how many of its commands the lines of earlier phases log
abbrev pub asked_before : List NamedLine → ℕ → ℕ → ℕ
asked_before lines s phase = count_by (λ l. logs_for s l && nat_lt l.phase phase) lines

-- Why a read's own look failed, or what a line asked of a node itself, if it did. A line that wasn't played yet has looked at
-- nothing.
abbrev pub failure_of_look : Option Looked → Option Cause
failure_of_look None = None
failure_of_look (Some (looked.Found after found)) = None
failure_of_look (Some (looked.Kept cause)) = None
failure_of_look (Some (looked.Extended extension)) = None
failure_of_look (Some (looked.Reported position)) = None
failure_of_look (Some looked.Left) = None
failure_of_look (Some (looked.Trimmed trim)) = None
failure_of_look (Some (looked.Failed cause)) = Some cause

-- how many lines failed so by such causes
abbrev pub failed_looks : (ℕ → Cause → Bool) → List NamedLine → List (Option Looked) → ℕ
failed_looks by [] looks = 0
failed_looks by (l ∷ lines) [] = 0
failed_looks by (l ∷ lines) (k ∷ looks) = count_by (pays (by l.node)) (failure_of_look k ∷ []) + failed_looks by lines looks
