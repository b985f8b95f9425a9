-- A space: a finite map from an engine's kind and a key of bytes to a value of bytes.
use Rattle.std.specs.Prelude.{ℕ, ◌==◌, ◌&&◌, not, List, [], ◌∷◌, Option, Some, None}
use Rattle.std.specs.Ordering.{nat_cmp, ordering_then, is_lt}
use Rattle.std.specs.Cmp.Lexicographic.{slice_cmp}
use Rattle.std.specs.declared.cmp.Ordering.{Ordering}
use Rattle.std.specs.FinMap.{FinMap, entries, retain_keys}

-- a text of bytes, as contracts see it
abbrev pub Text : Type 0
Text = List ℕ

-- the order of texts: by the first byte in which two differ
abbrev pub text_cmp : Text → Text → Ordering
text_cmp = slice_cmp nat_cmp

-- by kind, and then by key
abbrev pub space_cmp : ℕ × Text → ℕ × Text → Ordering
space_cmp a b = ordering_then (nat_cmp a.0 b.0) (text_cmp a.1 b.1)

abbrev pub SpaceMap : Type 0
SpaceMap = FinMap space_cmp Text

abbrev pub first_key : List ((ℕ × Text) × Text) → Option Text
first_key [] = None
first_key (e ∷ es) = Some e.0.1

-- the least key of the kind that is at or above the one given
abbrev pub least_key_from : SpaceMap → ℕ → Text → Option Text
least_key_from m kind key = first_key (entries (retain_keys m (λ k. (k.0 == kind) && not (is_lt (text_cmp k.1 key)))))
