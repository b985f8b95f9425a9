-- How a space and the changes of a transaction are kept in memory: a slot for a key has its value, or says that it has
-- none. A key without a slot has none either; in a transaction it is left as it is.
use Rattle.std.specs.Prelude.{◌≡◌, ◌==◌, ◌&&◌, not, ℕ, ◌^◌, ◌<◌, Bool, if◌then◌else◌, List, [], ◌∷◌, ◌++◌, map, length, Option, Some, None, is_some, IsSome, IfSome, unwrap_or}
use Rattle.std.specs.Ordering.{is_gt}
use Rattle.std.specs.List.Sorted.{IsStrictlySortedBy}
use Rattle.std.specs.Map.{lookup, keys_of}
use Rattle.std.specs.BTreeMap.{is_at}
use Rattle.std.specs.FinMap as finmap
use Rattle.delos_types.specs.Spaces.{SpaceMap, Text, text_cmp}
use Rattle.store_records.specs.declared.change.Change.{Change}
use Rattle.store_records.specs.Changing.{set_at}
use Rattle.local_store.specs.Keys.{KeyView, key_cmp}

abbrev pub Entries : Type 0
Entries = List (KeyView × Option Text)

abbrev pub key_pair : KeyView → ℕ × Text
key_pair k = (k.kind, k.key)

-- the slot of a key
abbrev pub slot_of : Entries → KeyView → Option (Option Text)
slot_of es q = lookup (is_at (key_cmp q)) es

-- the value in a slot
abbrev pub value_in : Option (Option Text) → Option Text
value_in slot = unwrap_or slot None

-- the space that the slots hold
abbrev pub held : Entries → SpaceMap
held [] = finmap.empty
held (e ∷ es) = set_at (held es) (key_pair e.0) e.1

-- the changes that the slots say, in the keys' order
abbrev pub change_of : KeyView × Option Text → Change
change_of e = record { kind = e.0.kind; key = e.0.key; value = e.1 }

abbrev pub changes_of : Entries → List Change
changes_of es = map change_of es

-- keys have at most 65,535 bytes
abbrev pub AreShort : Entries → Type 0
AreShort es = (q : KeyView) → IsSome (slot_of es q) → length q.key < 2 ^ 16

-- keys have at most 65,535 bytes, and values less than 2^32
abbrev pub AreFit : Entries → Type 0
AreFit es = (q : KeyView) (o : Option Text) → slot_of es q ≡ Some o → (length q.key < 2 ^ 16) × IfSome o (λ v. length v < 2 ^ 32)

-- each key of these has a slot
abbrev pub HaveRoom : Entries → Entries → Type 0
HaveRoom es [] = Unit {0}
HaveRoom es (c ∷ cs) = IsSome (slot_of es c.0) × HaveRoom es cs

-- so that they can be made in their order
pub record RoomFor (es changes : Entries) : Type 0 where
  pub slots : HaveRoom es changes
  pub ordered : IsStrictlySortedBy key_cmp (keys_of changes)

-- The first key of the kind that has a value and isn't hidden, in slots that begin at a key of the kind, in order.
abbrev pub first_shown : ℕ → (KeyView → Bool) → Entries → Option Text
first_shown kind hidden [] = None
first_shown kind hidden (e ∷ es) =
    if e.0.kind == kind then (if is_some e.1 && not (hidden e.0) then Some e.0.key else first_shown kind hidden es) else None

-- the lesser of two keys
abbrev pub lesser_of : Option Text → Option Text → Option Text
lesser_of None other = other
lesser_of (Some a) None = Some a
lesser_of (Some a) (Some b) = if is_gt (text_cmp a b) then Some b else Some a

-- the change by which a key gets a value, if there is one
abbrev pub set_of : KeyView → Option Text → List Change
set_of k None = []
set_of k (Some v) = record { kind = k.kind; key = k.key; value = Some v } ∷ []

-- the changes by which an empty space gets what these slots hold once changes are made of which each has a slot here
abbrev pub set_after : Entries → Entries → List Change
set_after changes [] = []
set_after changes (e ∷ es) = set_of e.0 (unwrap_or (slot_of changes e.0) e.1) ++ set_after changes es
