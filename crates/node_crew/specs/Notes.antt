-- What lines came to, as it is noted.
use Rattle.std.specs.Prelude.{◌≡◌, ℕ, List, [], ◌∷◌, ◌++◌, slice_get, slice_set, Option, Some}
use Rattle.std.specs.List.{AllByRecursion}
use Rattle.script_text.specs.declared.asks.NamedLine.{NamedLine}
use Rattle.node_lines.specs.declared.lines.Looked.{Looked}
use Rattle.node_crew.specs.declared.note.Note.{Note}

-- what each line's own look came to, by the numbers of lines, once these are noted
abbrev pub noted : List (Option Looked) → List Note → List (Option Looked)
noted looks [] = looks
noted looks (n ∷ ns) = noted (slice_set looks n.line (Some n.look)) ns

-- line i is node n's
pub record IsOwnLine (lines : List NamedLine) (i n : ℕ) : Type 0 where
  pub line : NamedLine
  pub is : slice_get lines i ≡ Some line
  pub own : line.node ≡ n

-- they are of lines of node n
abbrev pub AreNotesOf : List NamedLine → ℕ → List Note → Type 0
AreNotesOf lines n notes = AllByRecursion (λ note. IsOwnLine lines note.line n) notes

-- to what was noted comes nothing but of line i
pub record NotesLine (i : ℕ) (old new : List Note) : Type 0 where
  pub more : List Note
  pub is : new ≡ old ++ more
  pub at : AllByRecursion (λ note. note.line ≡ i) more
