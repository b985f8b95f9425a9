-- How far the chain goes, by what rows tell.
use Rattle.std.specs.Prelude.{◌≡◌, ℕ, ◌+◌, ◌≤◌, List, [], length, count_by, is_some}
use Rattle.delos_types.specs.declared.cause.Cause.{Cause}
use Rattle.delos_types.specs.declared.chain.Chain.{Chain}
use Rattle.chain_map.specs.Chain.{last_id}
use Rattle.row_text.specs.declared.row.Row.{Row}
use Rattle.fitting_run.specs.Replacements.{version_told}
use Rattle.run_laws.specs.Ended.{Played, tells_version}

-- Rows tell versions of the chain that their lines made, or found. The last loglet is at least each node's number of them, and, where no
-- fault came, at most the number of all; where nothing is trimmed each loglet up to it has a segment.
pub record GoesAsTold (played : List Played) (rows : List Row) (nodes : ℕ) (faults : List Cause) (chain : Chain) : Type 0 where
  pub each : (node : ℕ) → 1 ≤ node → node ≤ nodes → count_by (tells_version node) played ≤ last_id chain
  pub most : faults ≡ [] → last_id chain ≤ count_by (λ r. is_some (version_told r.outcome)) rows
  pub segments : chain.trim ≡ 0 → length chain.segments ≡ last_id chain + 1
