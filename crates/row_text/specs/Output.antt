-- The text of a run: its rows, its end, and the chain.
use Rattle.std.specs.Prelude.{◌++◌, ℕ, Bool, List, [], ◌∷◌, Option, Some, None, codes, if◌then◌else◌, slice_index_or}
use Rattle.std.specs.List.{flat_map}
use Rattle.std.specs.Fmt.{decimal, signed_decimal}
use Rattle.delos_types.specs.declared.place.Place.{Place}
use Rattle.delos_types.specs.declared.cause.Cause.{Cause}
use Rattle.delos_types.specs.declared.cause.Cause.TheVariants as cause
use Rattle.delos_types.specs.declared.chain.Segment.{Segment}
use Rattle.delos_types.specs.declared.chain.Chain.{Chain}
use Rattle.table_core.specs.declared.command.Reply.{Reply}
use Rattle.table_core.specs.declared.command.Reply.TheVariants as reply
use Rattle.table_core.specs.declared.command.Pair.{Pair}
use Rattle.table_core.specs.declared.command.Found.{Found}
use Rattle.table_core.specs.declared.command.Found.TheVariants as found
use Rattle.row_text.specs.declared.row.Who.{Who}
use Rattle.row_text.specs.declared.row.Who.TheVariants as who
use Rattle.row_text.specs.declared.row.Outcome.{Outcome}
use Rattle.row_text.specs.declared.row.Outcome.TheVariants as outcome
use Rattle.row_text.specs.declared.row.Row.{Row}

-- `ok`, `none`, `was X`, `= X`, `full` or `text`
abbrev pub reply_text : Reply → List ℕ
reply_text reply.Done = codes "ok"
reply_text reply.Absent = codes "none"
reply_text (reply.Was v) = codes "was " ++ v
reply_text (reply.Number z) = codes "= " ++ signed_decimal z
reply_text reply.Full = codes "full"
reply_text reply.NotNumber = codes "text"

-- what spells no command has the reply of no bytes
abbrev pub logged_text : Option Reply → List ℕ
logged_text None = []
logged_text (Some r) = reply_text r

-- `K=V`
abbrev pub pair_text : Pair → List ℕ
pair_text p = p.key ++ codes "=" ++ p.value

-- the pairs, with a space before each but the first
abbrev pub pairs_text : List Pair → List ℕ
pairs_text [] = []
pairs_text (p ∷ ps) = pair_text p ++ flat_map (λ q. codes " " ++ pair_text q) ps

-- `none`, `= X`, or what a scan found between brackets
abbrev pub found_text : Found → List ℕ
found_text found.Nothing = codes "none"
found_text (found.Value v) = codes "= " ++ v
found_text (found.All pairs) = codes "[" ++ pairs_text pairs ++ codes "]"

-- the session's name, or `n` and the node's number
abbrev pub who_text : Who → List ℕ
who_text (who.Session name) = name
who_text (who.Node n) = codes "n" ++ decimal n

abbrev pub cause_text : Cause → List ℕ
cause_text (cause.NoQuorum id unreached) = codes "no-quorum " ++ decimal id ++ codes " " ++ decimal unreached
cause_text (cause.Full id) = codes "full " ++ decimal id
cause_text cause.Meta = codes "meta"
cause_text cause.Store = codes "store"

abbrev pub late_text : Bool → List ℕ
late_text late = if late then codes " late" else []

-- `@POS.SUB`
abbrev pub place_text : Place → List ℕ
place_text p = codes "@" ++ decimal p.pos ++ codes "." ++ decimal p.sub

abbrev pub extended_text : ℕ → ℕ → List ℕ
extended_text version start = (codes "extended v=" ++ decimal version) ++ (codes " at " ++ decimal start)

abbrev pub outcome_text : Outcome → List ℕ
outcome_text (outcome.Placed place reply late) = place_text place ++ codes " " ++ logged_text reply ++ late_text late
outcome_text (outcome.Read after found) = codes ">" ++ decimal after ++ codes " " ++ found_text found
outcome_text (outcome.Extended version start) = extended_text version start
outcome_text (outcome.Moved version) = codes "moved v=" ++ decimal version
outcome_text outcome.NoSpare = codes "no-spare"
outcome_text (outcome.Alive clean) = codes "alive " ++ decimal clean
outcome_text (outcome.Trimmed trim) = codes "trim " ++ decimal trim
outcome_text outcome.Retired = codes "retired"
outcome_text (outcome.Open c) = codes "open " ++ cause_text c

-- the line's number, who asked, and what was answered
abbrev pub row_text : Row → List ℕ
row_text r = decimal r.number ++ codes " " ++ who_text r.who ++ codes " " ++ outcome_text r.outcome ++ codes "\n"

-- `end E` and `chain v=V trim=T`
abbrev pub head_text : ℕ → ℕ → ℕ → List ℕ
head_text end version trim = codes "end " ++ decimal end ++ codes "\nchain v=" ++ decimal version ++ codes " trim=" ++ decimal trim ++ codes "\n"

abbrev pub end_text : Option ℕ → List ℕ
end_text None = codes "open"
end_text (Some e) = decimal e

-- `seg ID KIND START END`; the kind is the name that stands at the id
abbrev pub segment_text : List (List ℕ) → Segment → List ℕ
segment_text kinds s = codes "seg " ++ decimal s.id ++ codes " " ++ slice_index_or kinds s.id [] ++ codes " " ++ decimal s.start ++ codes " " ++ end_text s.end ++ codes "\n"

abbrev pub down_text : Bool → List ℕ
down_text down = if down then codes "meta down\n" else []

-- the rows in order, the end, the chain and its segments, and whether the register is down
abbrev pub output : List Row → ℕ → ℕ → Chain → Bool → List (List ℕ) → List ℕ
output rows end version chain down kinds =
    flat_map row_text rows ++ head_text end version chain.trim ++ flat_map (segment_text kinds) chain.segments ++ down_text down
