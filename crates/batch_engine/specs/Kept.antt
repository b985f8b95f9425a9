-- Items that the batch engine keeps: that an entry may hold them is a fact with at most one proof.
use Rattle.std.specs.Prelude.{ℕ, ◌+◌, List, [], ◌∷◌, All}
use Rattle.std.proofs.Props.{props}
use Rattle.delos_types.specs.Spelling.{IsRisingFrom}
use Rattle.delos_types.specs.declared.item.Header.{Header}
use Rattle.delos_types.specs.declared.item.Item.{Item}
use Rattle.engine_api.specs.Packing.{IsProposable}

pub rising-prop : (least : ℕ) (headers : List Header) → IsProp (IsRisingFrom least headers)
rising-prop least [] = hlevel props
rising-prop least (h ∷ hs) = hlevel (props, rising-prop (h.kind + 1) hs)

pub proposable-prop : (items : List Item) → IsProp (All IsProposable items)
proposable-prop items = hlevel (props, rising-prop)
