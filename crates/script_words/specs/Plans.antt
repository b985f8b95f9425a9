-- What the words ask for, by the matches that clap defines.
use Rattle.std.specs.Prelude.{◌≡◌, ◌==◌, ◌<◌, ◌≤◌, ◌&&◌, nat_le, ℕ, Bool, true, false, List, [], ◌∷◌, Option, Some, None, Result, Ok, Err, codes, if◌then◌else◌, option_and_then, option_map, length}
use Rattle.std.specs.Str.Parse.{digits_value, without_leading_plus}
use Rattle.std.specs.Str.{bytes_eq}
use Rattle.clap.specs.Words.{Row, Text, fault_of, first_of, one_of, subcommand_of, subcommand_rows_of}
use Rattle.clap.specs.ValueTests.{is_unsigned_in}
use Rattle.clap.specs.declared.parser.matches.ArgMatches.{ArgMatches}
use Rattle.script_words.specs.App.{the_app}
use Rattle.script_words.specs.Shelf.{kinds_of}
use Rattle.script_words.specs.declared.shelf.Kind.{Kind}
use Rattle.script_words.specs.declared.plan.Plan.{Plan}
use Rattle.script_words.specs.declared.plan.Task.{Task}
use Rattle.script_words.specs.declared.plan.Task.TheVariants.{Run, Make}
use Rattle.script_words.specs.declared.plan.WordsError.{WordsError}
use Rattle.script_words.specs.declared.plan.WordsError.TheVariants as error

-- what a function returned is what there is to read, unless memory ran out
abbrev pub Reads : {A : Type 0} → Result A WordsError → Option A → Type 0
Reads (Ok x) read = read ≡ Some x
Reads (Err error.Memory) read = Unit {0}
Reads (Err error.BadWords) read = read ≡ None

-- the words behind the program's name, where none stand for `run`
abbrev pub told_words : List Text → List Text
told_words [] = codes "delos_sim" ∷ codes "run" ∷ []
told_words (w ∷ ws) = codes "delos_sim" ∷ w ∷ ws

-- the number of 32 bits that a text is
abbrev pub number_of : Text → Option ℕ
number_of t = if is_unsigned_in 0 4294967295 t then Some (digits_value 10 (without_leading_plus t)) else None

abbrev pub number_in : Text → List Row → Option ℕ
number_in id rows = option_and_then number_of (one_of id rows)

-- how many nodes: 1 to 8
abbrev pub node_count : ℕ → Option ℕ
node_count n = if nat_le 1 n && nat_le n 8 then Some n else None

abbrev pub nodes_in : List Row → Option ℕ
nodes_in rows = option_and_then node_count (number_in (codes "nodes") rows)

abbrev pub shelf_in : List Row → Option (List Kind)
shelf_in rows = option_and_then kinds_of (first_of (codes "shelf") rows)

-- how many logged lines a made script has: 1 to 15,000
abbrev pub line_count : ℕ → Option ℕ
line_count n = if nat_le 1 n && nat_le n 15000 then Some n else None

abbrev pub lines_in : List Row → Option ℕ
lines_in rows = option_and_then line_count (number_in (codes "lines") rows)

-- what is done with the nodes, by the subcommand's name
abbrev pub task_in : Text → List Row → Option Task
task_in name rows = if bytes_eq name (codes "make") then option_map (λ lines. Make lines) (lines_in rows) else Some Run

-- the plan of the options of a subcommand
abbrev pub options_in : Text → List Row → Option Plan
options_in name rows =
    option_and_then (λ nodes. option_and_then (λ seed. option_and_then (λ shelf. option_map (λ task. record { nodes = nodes; seed = seed; shelf = shelf; task = task }) (task_in name rows))
    (shelf_in rows)) (number_in (codes "seed") rows)) (nodes_in rows)

-- the plan of the subcommand that was met
abbrev pub plan_in : Option (Text × List Row) → Option Plan
plan_in None = None
plan_in (Some p) = options_in p.0 p.1

-- the command takes the words: no kind of fault may come
abbrev pub is_taken : List Text → Bool
is_taken told = length (fault_of the_app told) == 0

-- what the words ask for: None where the command doesn't take them, or the shelf isn't of known kinds
unfoldable pub plan_of : List Text → Option Plan
plan_of words = if is_taken (told_words words) then plan_in (subcommand_of the_app (told_words words)) else None

-- a made script has 1 to 15,000 logged lines
abbrev pub IsTask : Task → Type 0
IsTask Run = Unit {0}
IsTask (Make lines) = (1 ≤ lines) × (lines ≤ 15000)

-- a plan for 1 to 8 nodes, a shelf of 1 to 64 loglets, and such a task
pub record IsPlan (plan : Plan) : Type 0 where
  pub nodes : (1 ≤ plan.nodes) × (plan.nodes ≤ 8)
  pub shelf : (0 < length plan.shelf) × (length plan.shelf ≤ 64)
  pub task : IsTask plan.task

-- what a parse gave
abbrev pub Matches : Result ArgMatches WordsError → List Text → Type 0
Matches (Ok m) told = (is_taken told ≡ true) × (subcommand_rows_of m ≡ subcommand_of the_app told)
Matches (Err error.Memory) told = Unit {0}
Matches (Err error.BadWords) told = is_taken told ≡ false

-- what is told of words that have no plan
abbrev pub bad_words_text : Text
bad_words_text = codes "bad words\n"
