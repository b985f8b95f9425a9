-- The stripes of a striped loglet, by what they show.
use Rattle.std.specs.Prelude.{◌≡◌, ℕ, zero, suc, ◌+◌, ◌-◌, ◌/◌, ◌%◌, ◌≤◌, ◌||◌, min, Bool, true, false, Option, None, Some, List, [], ◌∷◌, ◌++◌, length, slice_get}
use Rattle.delos_types.specs.declared.entry.Entry.{Entry}
use Rattle.loglet_api.specs.View.{LogletView}
use Rattle.stripe_rule.specs.Stripes.{covered, share}

-- one number of each stripe, all together
abbrev pub total : (LogletView → ℕ) → List LogletView → ℕ
total f [] = 0
total f (v ∷ vs) = f v + total f vs

-- a stripe is sealed
abbrev pub any_shut : List LogletView → Bool
any_shut [] = false
any_shut (v ∷ vs) = v.shut || any_shut vs

-- the least of these numbers
abbrev pub least_of : List ℕ → ℕ
least_of [] = 0
least_of (n ∷ []) = n
least_of (n ∷ k ∷ ns) = min n (least_of (k ∷ ns))

-- the entry at an index, where the log begins at this cut
abbrev pub entry_in : Option LogletView → ℕ → Option Entry
entry_in None index = None
entry_in (Some v) index = slice_get v.log (index - v.cut)

-- the entry at a position
abbrev pub entry_at : List LogletView → ℕ → Option Entry
entry_at views p = entry_in (slice_get views (p % length views)) (p / length views)

abbrev pub listed : Option Entry → List Entry
listed None = []
listed (Some e) = e ∷ []

-- the entries at a position and so many from there on
abbrev pub joined : List LogletView → ℕ → ℕ → List Entry
joined views p zero = []
joined views p (suc n) = listed (entry_at views p) ++ joined views (suc p) n

-- each stripe is sealed
abbrev pub AllShut : List LogletView → Type 0
AllShut views = (i : ℕ) (v : LogletView) → slice_get views i ≡ Some v → v.shut ≡ true

-- no stripe is sealed
abbrev pub NoneShut : List LogletView → Type 0
NoneShut views = (i : ℕ) (v : LogletView) → slice_get views i ≡ Some v → v.shut ≡ false

-- what is there for good on each stripe covers this length
abbrev pub AllReach : List LogletView → ℕ → Type 0
AllReach views t = (i : ℕ) (v : LogletView) → slice_get views i ≡ Some v → t ≤ covered (length views) i v.reach

-- what was answered of each stripe covers this length
abbrev pub AllFirm : List LogletView → ℕ → Type 0
AllFirm views t = (i : ℕ) (v : LogletView) → slice_get views i ≡ Some v → t ≤ covered (length views) i v.firm

-- each stripe let go of the positions below this length that it has
abbrev pub AllTrimmed : List LogletView → ℕ → Type 0
AllTrimmed views t = (i : ℕ) (v : LogletView) → slice_get views i ≡ Some v → share (length views) i t ≤ v.cut

-- a stripe whose sealed tail covers no more than this length
pub record IsCapped (views : List LogletView) (t : ℕ) : Type 0 where
  pub stripe : ℕ
  pub view : LogletView
  pub is : slice_get views stripe ≡ Some view
  pub cap : ℕ
  pub cap_is : view.cap ≡ Some cap
  pub within : covered (length views) stripe cap ≤ t
