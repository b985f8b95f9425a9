-- What came of a node's own lines.
use Rattle.std.specs.Prelude.{◌≡◌, ℕ, ◌+◌, ◌==◌, ◌&&◌, Bool, true, false, cond, List, [], ◌∷◌, slice_get, Option, Some}
use Rattle.virtual_log.specs.declared.extend.Extension.TheVariants.{Extended, Moved}
use Rattle.script_text.specs.declared.asks.NamedLine.{NamedLine}
use Rattle.node_lines.specs.declared.lines.Looked.{Looked}
use Rattle.node_lines.specs.declared.lines.Looked.TheVariants as looked

-- Line i is node n's, and came to this. The elements of `looks` are by the numbers of lines.
pub record Came (lines : List NamedLine) (looks : List (Option Looked)) (n i : ℕ) (l : NamedLine) (look : Looked) : Type 0 where
  pub is : slice_get lines i ≡ Some l
  pub own : l.node ≡ n
  pub looked : slice_get looks i ≡ Some (Some look)

-- the line replaced the last loglet, or found that another node had
abbrev pub goes_further : Option Looked → Bool
goes_further (Some (looked.Extended (Extended version start))) = true
goes_further (Some (looked.Extended (Moved version))) = true
goes_further look = false

-- how many lines of the node did
abbrev pub went_further : ℕ → List NamedLine → List (Option Looked) → ℕ
went_further n [] looks = 0
went_further n (l ∷ lines) [] = 0
went_further n (l ∷ lines) (look ∷ looks) = cond ((l.node == n) && goes_further look) 1 0 + went_further n lines looks
