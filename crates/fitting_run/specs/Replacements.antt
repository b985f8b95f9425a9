-- Replacements of the loglet: what the lines that asked for one were answered, and the chain that is told.
use Rattle.std.specs.Prelude.{◌≡◌, ℕ, ◌+◌, Bool, true, false, not, ◌&&◌, ◌||◌, nat_lt, nat_le, ◌==◌, if◌then◌else◌, List, length, Option, Some, None, is_some, sum_by}
use Rattle.std.specs.List.{list_all, list_any}
use Rattle.delos_types.specs.declared.chain.Chain.{Chain}
use Rattle.chain_map.specs.Chain.{first_start, last_id}
use Rattle.script_text.specs.declared.asks.NamedLine.{NamedLine}
use Rattle.script_text.specs.declared.faults.FaultAsk.{FaultAsk}
use Rattle.script_text.specs.declared.faults.FaultAsk.TheVariants.{Stop}
use Rattle.script_text.specs.declared.faults.FaultLine.{FaultLine}
use Rattle.row_text.specs.declared.row.Outcome.{Outcome}
use Rattle.row_text.specs.declared.row.Outcome.TheVariants as out
use Rattle.fitting_run.specs.Tests.{◌⇒◌, where_some, each_pair}
use Rattle.fitting_run.specs.Answered.{Answered, before_barrier}

-- What a row tells

-- where the segment begins that the line made
abbrev pub start_made : Outcome → Option ℕ
start_made (out.Extended v s) = Some s
start_made other = None

-- the version of the chain that the line found, since another node had replaced the loglet
abbrev pub version_found : Outcome → Option ℕ
version_found (out.Moved v) = Some v
version_found other = None

-- the version of the chain that the line made, or found
abbrev pub version_told : Outcome → Option ℕ
version_told (out.Extended v s) = Some v
version_told (out.Moved v) = Some v
version_told other = None

-- there was no loglet to spare
abbrev pub lacks_spare : Outcome → Bool
lacks_spare out.NoSpare = true
lacks_spare other = false

-- Rows of two lines, a first

-- b is of the node of a, or of a later phase
abbrev pub is_behind : Answered → Answered → Bool
is_behind a b = (a.line.node == b.line.node) || before_barrier a b

-- lines that made two versions, of which the lower begins no higher
abbrev pub make_in_order : Outcome → Outcome → Bool
make_in_order (out.Extended v s) (out.Extended w t) = (nat_lt v w && nat_le s t) || (nat_lt w v && nat_le t s)
make_in_order answered other = true

abbrev pub tells_higher : Answered → Answered → Bool
tells_higher a b = is_behind a b ⇒ where_some (version_told a.row.outcome) (λ v. where_some (version_told b.row.outcome) (λ w. nat_lt v w))

abbrev pub stays_spent : Answered → Answered → Bool
stays_spent a b = (is_behind a b && lacks_spare a.row.outcome) ⇒ not (is_some (version_told b.row.outcome))

-- Rows with the chain

-- how many rows of the node tell a version
abbrev pub versions_at : ℕ → List Answered → ℕ
versions_at node told = sum_by (λ a. if (a.line.node == node) && is_some (version_told a.row.outcome) then 1 else 0) told

-- there are ids in the chain for all the versions that rows of the node tell
abbrev pub has_ids : Chain → List Answered → Answered → Bool
has_ids chain told a = nat_le (versions_at a.line.node told) (last_id chain)

-- a segment of the chain begins there, or all of them begin above
abbrev pub begins_at : Chain → ℕ → Bool
begins_at chain s = list_any (λ g. g.start == s) chain.segments || nat_lt s (first_start chain)

abbrev pub has_begun : Chain → Answered → Bool
has_begun chain a = where_some (start_made a.row.outcome) (begins_at chain)

abbrev pub tells_upto : ℕ → Answered → Bool
tells_upto version a = where_some (version_told a.row.outcome) (λ v. nat_le v version)

-- the line is of another node, in the phase
abbrev pub is_beside : Answered → NamedLine → Bool
is_beside a l = (l.phase == a.line.phase) && not (l.node == a.line.node)

-- what is asked for is a stop of another node's disk
abbrev pub stops_another : ℕ → FaultAsk → Bool
stops_another node (Stop stopped after) = not (stopped == node)
stops_another node asked = false

-- the fault line stops the disk of another node, in the phase
abbrev pub stops_beside : Answered → FaultLine → Bool
stops_beside a f = (f.phase == a.line.phase) && stops_another a.line.node f.asks

-- the line found another chain than the first, and another node has a line in its phase, or is stopped in it
abbrev pub is_overtaken : List NamedLine → List FaultLine → Answered → Bool
is_overtaken lines faults a = where_some (version_found a.row.outcome) (λ v. nat_le 2 v && (list_any (is_beside a) lines || list_any (stops_beside a) faults))

-- the last segment is of the last loglet of the shelf
abbrev pub is_spent : Chain → ℕ → Answered → Bool
is_spent chain shelf a = lacks_spare a.row.outcome ⇒ (last_id chain + 1 == shelf)

-- each version behind the first has a loglet of its own, but for those that trimmed the log; and where none did, a segment
abbrev pub goes_by_ones : ℕ → Chain → Bool
goes_by_ones version chain =
    if chain.trim == 0 then (version == last_id chain + 1) && (length chain.segments == last_id chain + 1) else nat_le (last_id chain + 2) version

-- What the lines of a script were answered that asked to extend the chain, and the chain that is told with its version. The
-- shelf has so many loglets.
pub record ReplacementsAgree (lines : List NamedLine) (faults : List FaultLine) (told : List Answered) (version : ℕ) (chain : Chain) (shelf : ℕ) : Type 0 where
  -- no two lines made one version, and starts don't fall as versions rise
  pub versions : each_pair (λ a b. make_in_order a.row.outcome b.row.outcome) told ≡ true
  -- versions rise along the lines of a node, and from phase to phase
  pub rise : each_pair tells_higher told ≡ true
  -- where no loglet was to spare, none is replaced later
  pub spent : each_pair stays_spent told ≡ true
  pub ids : list_all (has_ids chain told) told ≡ true
  pub starts : list_all (has_begun chain) told ≡ true
  pub upto : list_all (tells_upto version) told ≡ true
  -- another node's replacement needs another node
  pub overtaken : list_all (is_overtaken lines faults) told ≡ true
  pub last : list_all (is_spent chain shelf) told ≡ true
  pub counts : goes_by_ones version chain ≡ true
