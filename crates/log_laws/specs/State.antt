-- The state of a log in a space: what each kind of engine keeps there after these entries, from an empty space.
use Rattle.std.specs.Prelude.{◌≡◌, ℕ, ◌+◌, ◌<◌, ◌≤◌, ◌^◌, ◌==◌, ◌&&◌, Bool, false, nat_le, not, if◌then◌else◌, List, [], ◌∷◌, ◌++◌, length, find, Option, Some, None}
use Rattle.std.specs.List.{list_any}
use Rattle.std.specs.Prelude as prelude
use Rattle.std.specs.Option.{option_map}
use Rattle.std.specs.Ordering.{is_lt}
use Rattle.std.specs.FinMap as map
use Rattle.delos_types.specs.Spaces.{SpaceMap, Text, text_cmp}
use Rattle.delos_types.specs.declared.entry.Entry.{Entry}
use Rattle.table_core.specs.Reading.{command_of}
use Rattle.engine_api.specs.declared.act.Act.{Act}
use Rattle.engine_api.specs.Acted.{Asked, asked_in, acted_log, table_after, unpack_all}
use Rattle.engine_api.specs.Order.{first_of, gap_from}
use Rattle.engine_api.specs.Members.{has_left, position_of, trim_point, clean_position}
use Rattle.engine_steps.specs.declared.layout.Kept.{Kept}
use Rattle.engine_steps.specs.Layout.{last_of, held_of, held_key, clean_of, has_left_in, reported_of, trim_of, value_of, reply_of}
use Rattle.engine_steps.specs.Replies.{reply_text}
use Rattle.log_laws.specs.declared.rising.Acted.{Acted}

-- session s after these ranks: those up to the last have acted, and the later ones that appeared wait, with the commands of their first appearances
pub record TracksAt (before : List Asked) (m : SpaceMap) (s : ℕ) : Type 0 where
  pub gap : gap_from before s 1 ≡ last_of m s + 1
  pub held : (q : ℕ) → last_of m s + 1 < q → option_map command_of (held_of m s q) ≡ option_map (λ x. x.command) (first_of before s q)
  pub none : (q : ℕ) → q ≤ last_of m s + 1 → held_of m s q ≡ None

-- the session engine's last keys are those of waiting ranks
pub record HoldsRanks (m : SpaceMap) : Type 0 where
  pub key : (k v : Text) → is_lt (text_cmp k (4 ∷ [])) ≡ false → map.get m (2, k) ≡ Some v → (s : ℕ) × (q : ℕ) × (s ≤ 63) × (q < 2 ^ 64) × (k ≡ held_key s q)

-- there are 64 sessions
abbrev pub KnownSessions : List Asked → Type 0
KnownSessions [] = Unit {0}
KnownSessions (x ∷ xs) = (x.session ≤ 63) × KnownSessions xs

-- the session engine's space after these ranks
pub record Tracks (before : List Asked) (m : SpaceMap) : Type 0 where
  pub sessions : (s : ℕ) → s ≤ 63 → TracksAt before m s
  pub waiting : HoldsRanks m
  pub known : KnownSessions before

-- the view engine's space: who has left, and what the others reported
pub record Views (left : ℕ → Bool) (position : ℕ → ℕ) (m : SpaceMap) : Type 0 where
  pub gone : (node : ℕ) → has_left_in m node ≡ left node
  pub reported : (node : ℕ) → left node ≡ false → reported_of m node ≡ position node

-- the act of rank r of session s, where none 64 or more above it follows
abbrev pub kept_act : List Act → ℕ → ℕ → Option Act
kept_act acts s r = if list_any (λ a. (a.session == s) && nat_le (r + 64) a.rank) acts then None else find (λ a. (a.session == s) && (a.rank == r)) acts

abbrev pub kept_reply : List Act → ℕ → ℕ → Option Kept
kept_reply acts s r = option_map (λ a. record { place = a.place; reply = reply_text a.reply }) (kept_act acts s r)

-- what acts in a log that begins at position 0, on the empty table, each session from its rank 1 on
abbrev pub acts_in : List Entry → List Act
acts_in log = acted_log map.empty (λ s. 1) 0 log

-- the slots keep the last 64 replies of each session of this log
pub record KeepsReplies (log : List Entry) (m : SpaceMap) : Type 0 where
  pub at : (s r : ℕ) → s ≤ 63 → 1 ≤ r → reply_of m s r ≡ kept_reply (acts_in log) s r

-- the space is the state of this log
pub record IsStateOf (log : List Entry) (m : SpaceMap) : Type 0 where
  pub sessions : Tracks (asked_in 0 log) m
  pub clean : clean_of m (length log) ≡ clean_position log
  pub members : Views (has_left (unpack_all 0 log)) (position_of (unpack_all 0 log)) m
  pub trim : trim_of m ≡ trim_point (unpack_all 0 log)
  pub table : (key : Text) → value_of m key ≡ map.get (table_after map.empty (acts_in log)) key
  pub replies : KeepsReplies log m

-- what acted, as the stack tells it
abbrev pub acted_of : Act → Acted
acted_of a = record { place = a.place; session = a.session; rank = a.rank; reply = reply_text a.reply }

-- an entry was applied to the state of this log: what acted, and the state with it at the end
pub record Grows (log : List Entry) (e : Entry) (acted : List Acted) (m : SpaceMap) : Type 0 where
  pub state : IsStateOf (log ++ e ∷ []) m
  pub acts : prelude.map acted_of (acts_in (log ++ e ∷ [])) ≡ prelude.map acted_of (acts_in log) ++ acted
