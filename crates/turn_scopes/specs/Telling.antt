-- What a node says of itself.
use Rattle.std.specs.Prelude.{◌≡◌, ◌≤◌, ℕ, List, Contains}
use Rattle.delos_types.specs.declared.entry.Entry.{Entry}
use Rattle.engine_api.specs.declared.content.Content.TheVariants.{Alive, Leave}
use Rattle.engine_api.specs.declared.content.Placed.{Placed}
use Rattle.engine_api.specs.Items.{unpack}

-- where the log may be trimmed, but not above m
abbrev pub UpTo : (List Entry → ℕ → Type 0) → ℕ → List Entry → ℕ → Type 0
UpTo floor m log n = floor log n × (n ≤ m)

-- of what may be appended, by whomever, no entry says that the node leaves, nor that it needs no more than a position above m
pub record TellsUpTo (sends : ℕ → Entry → Type 0) (node m : ℕ) : Type 0 where
  pub stays : (user : ℕ) (e : Entry) (p : Placed) → sends user e → Contains (unpack 0 e) p → p.content ≡ Leave node → ⊥
  pub upto : (user n : ℕ) (e : Entry) (p : Placed) → sends user e → Contains (unpack 0 e) p → p.content ≡ Alive node n → n ≤ m
