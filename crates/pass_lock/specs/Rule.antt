-- The rule of the lock's table: the three words, the slot and all views.
use Rattle.std.specs.Prelude.{◌≡◌, ◌⊎◌, ℕ, suc, ◌+◌, ◌%◌, ◌^◌, ◌<◌, ◌≤◌, ◌==◌, cond, List, [], ◌∷◌, length, Option, Some}
use Rattle.std.specs.List.{All}
use mathlib.Core.Option.{some, none}
use mathlib.Core.Option as maybe
use lib.ListN.{get_elem?}
use Rattle.atomic_table.specs.Table.{State}
use Rattle.pass_lock.specs.declared.view.View.{View}
use Rattle.pass_lock.specs.Journal.{Part, Turn, total, times, concat, IsKnown}
use Rattle.pass_lock.specs.Pass.{numbered, brought}

-- the stages of a turn: before it and after it, until the ticket is served, with the value, and with the value once its entries are in the history
abbrev pub outside : ℕ
outside = 0

abbrev pub waiting : ℕ
waiting = 1

abbrev pub inside : ℕ
inside = 2

abbrev pub leaving : ℕ
leaving = 3

module _ {E : Type 0} where
  abbrev pub seeing : List (Part E) → List (Turn E) → ℕ → ℕ → View E
  seeing parts made stage ticket = record { marker = record {}; parts = parts; made = made; stage = stage; ticket = ticket }

  -- the first view, with all parts
  abbrev pub opened : ℕ → View E
  opened count = seeing (numbered 0 count) [] outside 0

  abbrev pub part_count : View E → ℕ
  part_count v = length v.parts

  -- how many of the view's parts have the number k
  abbrev pub parts_with : ℕ → View E → ℕ
  parts_with k v = times k v.parts

  abbrev pub made_count : View E → ℕ
  made_count v = length v.made

  -- how many of the view's turns have the number t
  abbrev pub turns_with : ℕ → View E → ℕ
  turns_with t v = times t v.made

  -- 1 in a turn, and 0 outside
  abbrev pub in_turn : View E → ℕ
  in_turn v = cond (v.stage == outside) 0 1

  -- what a view says is true, where the history is `log`, and so many tickets were drawn, turns served and turns raised
  pub record Fits (signer : E → ℕ) (log : List E) (drawn served raised : ℕ) (v : View E) : Type 0 where
    pub known : IsKnown signer log v.parts
    pub queued : outside < v.stage → (0 < length v.parts) × (served ≤ v.ticket) × (v.ticket < drawn)
    pub holds : inside ≤ v.stage → (v.ticket ≡ served) × (v.parts ≡ brought log v.parts)
    pub not_raised : v.stage ≡ inside → raised ≡ served
    pub is_raised : v.stage ≡ leaving → raised ≡ suc served

  -- the history is the pieces of the turns 0, 1, 2, ..; each turn is in one view, with the piece that was added in it
  pub record Turned (log : List E) (raised : ℕ) (views : List (View E)) : Type 0 where
    pub pieces : List (List E)
    pub whole : log ≡ concat pieces
    pub counted : length pieces ≡ raised
    pub told : (id : ℕ) (v : View E) → get_elem? views id ≡ some v → All (λ t. get_elem? pieces t.0 ≡ some t.1) v.made
    pub all_made : total made_count views ≡ raised
    pub once_made : (t : ℕ) → total (turns_with t) views ≤ 1
    pub owned : (id : ℕ) (v : View E) → get_elem? views id ≡ some v → length v.parts ≡ 0 → v.made ≡ []

module _ {S E : Type 0} (journal : S → List E) where
  -- the value is at home, its journal is the history, and no pass is inside its turn; or a pass that is has the value
  abbrev pub Placed : List E → ℕ → ℕ → List (maybe.Option (Option S)) → List (View E) → Type 0
  Placed log served raised homes views =
      ((x : S) × (homes ≡ some (Some x) ∷ []) × (journal x ≡ log) × (raised ≡ served) × ((id : ℕ) (v : View E) → get_elem? views id ≡ some v → v.stage < inside))
      ⊎ ((homes ≡ none ∷ []) × (holder : ℕ) × (v : View E) × (get_elem? views holder ≡ some v) × (inside ≤ v.stage))

  -- the counts of tickets and turns are true numbers, and the words are these modulo 2^64;
  -- a ticket is out for each pass in a turn; there are `count` parts, none of them twice, and each entry is signed by one; no two passes have one ticket
  pub record Kept (signer : E → ℕ) (count : ℕ) (s : State (Option S) (View E)) : Type 0 where
    pub drawn : ℕ
    pub served : ℕ
    pub raised : ℕ
    pub log : List E
    pub words : s.words ≡ drawn % 2 ^ 64 ∷ served % 2 ^ 64 ∷ raised % 2 ^ 64 ∷ []
    pub turns : drawn ≡ served + total in_turn s.views
    pub parts : total part_count s.views ≡ count
    pub once : (k : ℕ) → total (parts_with k) s.views ≤ 1
    pub signed : All (λ e. 0 < total (parts_with (signer e)) s.views) log
    pub fits : (id : ℕ) (v : View E) → get_elem? s.views id ≡ some v → Fits signer log drawn served raised v
    pub apart : (i j : ℕ) (v w : View E) → get_elem? s.views i ≡ some v → get_elem? s.views j ≡ some w → outside < v.stage → outside < w.stage → v.ticket ≡ w.ticket → i ≡ j
    pub placed : Placed log served raised s.homes s.views
    pub turned : Turned log raised s.views
