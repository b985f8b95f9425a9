-- The kinds of loglet, and the text of a shelf.
use Rattle.std.specs.Prelude.{◌==◌, ℕ, List, [], ◌∷◌, Option, Some, None, length, nat_lt, codes, if◌then◌else◌, option_and_then, option_map}
use Rattle.std.specs.List.{slice_split, find}
use Rattle.std.specs.Str.{bytes_eq}
use Rattle.script_words.specs.declared.shelf.Kind.{Kind}
use Rattle.script_words.specs.declared.shelf.Kind.TheVariants.{File, Native1, Native3, Native5, Native7, Striped2, Striped3, Striped4, Striped5, Striped6, Striped7, Striped8, Nested}

abbrev pub kind_name : Kind → List ℕ
kind_name File = codes "file"
kind_name Native1 = codes "native1"
kind_name Native3 = codes "native3"
kind_name Native5 = codes "native5"
kind_name Native7 = codes "native7"
kind_name Striped2 = codes "striped2"
kind_name Striped3 = codes "striped3"
kind_name Striped4 = codes "striped4"
kind_name Striped5 = codes "striped5"
kind_name Striped6 = codes "striped6"
kind_name Striped7 = codes "striped7"
kind_name Striped8 = codes "striped8"
kind_name Nested = codes "nested"

-- all that there are
abbrev pub kinds : List Kind
kinds = File ∷ Native1 ∷ Native3 ∷ Native5 ∷ Native7 ∷ Striped2 ∷ Striped3 ∷ Striped4 ∷ Striped5 ∷ Striped6 ∷ Striped7 ∷ Striped8 ∷ Nested ∷ []

-- the kind of this name
abbrev pub kind_of : List ℕ → Option Kind
kind_of word = find (λ kind. bytes_eq word (kind_name kind)) kinds

-- the kinds of these words, where each is known
abbrev pub all_kinds : List (List ℕ) → Option (List Kind)
all_kinds [] = Some []
all_kinds (word ∷ words) = option_and_then (λ k. option_map (λ ks. k ∷ ks) (all_kinds words)) (kind_of word)

-- 1 to 64 known kinds with one comma between
abbrev pub kinds_of : List ℕ → Option (List Kind)
kinds_of text = let words = slice_split (λ b. b == 44) text in
    if nat_lt 64 (length words) then None else all_kinds words
