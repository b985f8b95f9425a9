-- The commands of a session on their way through its node.
use Rattle.std.specs.Prelude.{◌≡◌, ◌⊎◌, ℕ, ◌+◌, ◌-◌, ◌<◌, ◌≤◌, true, ◌==◌, if◌then◌else◌, List, [], ◌∷◌, Option, Some, None, is_some, filter_map}
use Rattle.delos_types.specs.declared.entry.Entry.{Entry}
use Rattle.delos_types.specs.declared.item.Item.{Item}
use Rattle.legal_journal.specs.declared.events.Event.{Event}
use Rattle.legal_journal.specs.Journal.{state_of, tail_of}
use Rattle.virtual_log.specs.Holding.{Holds}
use Rattle.engine_api.specs.declared.content.Content.{Content}
use Rattle.engine_api.specs.declared.content.Content.TheVariants.{Session, Alive, Leave, Trim}
use Rattle.engine_api.specs.Items.{content_of, unpack}
use Rattle.engine_api.specs.Acted.{appearances}
use Rattle.engine_api.specs.Order.{first_of, numbers}

-- x is an element
abbrev pub Among : {A : Type 0} → A → List A → Type 0
Among x [] = ⊥
Among x (y ∷ ys) = (y ≡ x) ⊎ Among x ys

-- an item of the entry is rank r of session s
abbrev pub HasRank : ℕ → ℕ → Entry → Type 0
HasRank s r e = is_some (first_of (appearances (unpack 0 e)) s r) ≡ true

-- the log holds the entry, below its tail
pub record IsHeld (seen : List Event) (e : Entry) : Type 0 where
  pub pos : ℕ
  pub held : Holds seen pos e
  pub below : pos < tail_of (state_of seen)

-- rank r of session s is in an entry that the log holds
pub record HasLanded (seen : List Event) (s r : ℕ) : Type 0 where
  pub entry : Entry
  pub held : IsHeld seen entry
  pub rank : HasRank s r entry

-- it is in an entry that isn't settled yet
pub record Waits (entries : List Entry) (s r : ℕ) : Type 0 where
  pub entry : Entry
  pub among : Among entry entries
  pub rank : HasRank s r entry

abbrev pub IsUnderWay : List Event → List Entry → ℕ → ℕ → Type 0
IsUnderWay seen entries s r = HasLanded seen s r ⊎ Waits entries s r

abbrev pub rank_under : ℕ → Option Content → Option ℕ
rank_under s (Some (Session t r c)) = if t == s then Some r else None
rank_under s (Some (Alive n p)) = None
rank_under s (Some (Leave n)) = None
rank_under s (Some (Trim p)) = None
rank_under s None = None

-- the ranks of session s among these items
abbrev pub ranks_in : ℕ → List Item → List ℕ
ranks_in s items = filter_map (λ i. rank_under s (content_of i)) items

-- The first `sent` ranks of session s were given to the node: the last of them wait to be packed, in order, and the
-- others are under way.
pub record IsGiven (seen : List Event) (entries : List Entry) (kept : List Item) (s sent : ℕ) : Type 0 where
  pub queued : ℕ
  pub few : queued ≤ sent
  pub waiting : ranks_in s kept ≡ numbers (sent - queued + 1) queued
  pub under_way : (r : ℕ) → 1 ≤ r → r + queued ≤ sent → IsUnderWay seen entries s r
