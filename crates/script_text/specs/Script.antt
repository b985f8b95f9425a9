-- A script: its lines, and the first of them that breaks a rule.
use Rattle.std.specs.Prelude.{◌≡◌, ◌==◌, ◌+◌, ℕ, List, [], ◌∷◌, Result, Ok, Err, length, nat_lt, if◌then◌else◌}
use Rattle.std.specs.List.{slice_split}
use Rattle.script_text.specs.declared.line.Rule.{Rule}
use Rattle.script_text.specs.declared.line.Rule.TheVariants.{ScriptTooLong, TooManyLines}
use Rattle.script_text.specs.declared.line.Line.{Line}
use Rattle.script_text.specs.declared.line.Fault.{Fault}
use Rattle.script_text.specs.declared.line.Fault.TheVariants as fault
use Rattle.script_text.specs.declared.script.BadLine.{BadLine}
use Rattle.script_text.specs.declared.script.ParseError.{ParseError}
use Rattle.script_text.specs.declared.script.ParseError.TheVariants as error
use Rattle.script_text.specs.Gives.{◌>>=◌}
use Rattle.script_text.specs.Words.{is_empty}
use Rattle.script_text.specs.Seen.{Before, nothing_yet}
use Rattle.script_text.specs.Forms.{line_at}

-- a line without its LF, and how many bytes it has with it
pub record RawLine : Type 0 where
  pub text : List ℕ
  pub size : ℕ

abbrev pub raw_line : List ℕ → ℕ → RawLine
raw_line text size = record { text = text; size = size }

-- the pieces between LFs as lines: the last is one only where it isn't empty
abbrev pub raw_lines : List (List ℕ) → List RawLine
raw_lines [] = []
raw_lines (x ∷ []) = if is_empty x then [] else raw_line x (length x) ∷ []
raw_lines (x ∷ y ∷ more) = raw_line x (length x + 1) ∷ raw_lines (y ∷ more)

-- the lines of these bytes
unfoldable pub lines_in : List ℕ → List RawLine
lines_in bytes = raw_lines (slice_split (λ b. b == 10) bytes)

-- the n-th line, which stands after `at` bytes; a script has at most 1,048,576 bytes and 20,000 lines
abbrev pub line_numbered : ℕ → Before → ℕ → ℕ → RawLine → Result (Line × Before) Rule
line_numbered nodes seen n at r = if nat_lt 1048576 (at + r.size) then Err ScriptTooLong
    else (if nat_lt 20000 n then Err TooManyLines else line_at nodes seen r.text)

abbrev pub in_line : {A : Type 0} → ℕ → Result A Rule → Result A BadLine
in_line n (Ok x) = Ok x
in_line n (Err r) = Err (record { n = n; rule = r })

-- why a script was not read whose n-th line was not
abbrev pub error_at : ℕ → Fault → ParseError
error_at n fault.Memory = error.Memory
error_at n (fault.Breaks r) = error.Bad (record { n = n; rule = r })

-- the lines from the n-th on, or the first that breaks a rule
unfoldable pub lines_from : ℕ → Before → ℕ → ℕ → List RawLine → Result (List Line) BadLine
lines_from nodes seen n at [] = Ok []
lines_from nodes seen n at (r ∷ rs) = do
  first ← in_line n (line_numbered nodes seen n at r)
  others ← lines_from nodes first.1 (n + 1) (at + r.size) rs
  Ok (first.0 ∷ others)

-- the script that the bytes spell for so many nodes, or its first line that breaks a rule
unfoldable pub script_of : ℕ → List ℕ → Result (List Line) BadLine
script_of nodes bytes = lines_from nodes nothing_yet 1 0 (lines_in bytes)

-- what a function returned is what reading gives, unless memory ran out
abbrev pub ReadsScript : Result (List Line) ParseError → Result (List Line) BadLine → Type 0
ReadsScript (Ok s) read = read ≡ Ok s
ReadsScript (Err error.Memory) read = Unit {0}
ReadsScript (Err (error.Bad b)) read = read ≡ Err b
