-- What was read of a source, and what is composed of it.
use Rattle.std.proofs.Common.{◌≡◌, ◌≤◌, ◌∙◌, ℕ, Bool, true, false, if◌then◌else◌, List, [], ◌∷◌, length, take, Option, Some, None, Result, Ok, Err, refl, sym, ap, subst, arith, inl, inr}
use Rattle.std.specs.Prelude.{IfOk, IfSome, IsErrAnd, IsSomeAnd}
use Rattle.std.specs.declared.alloc.AllocError.{AllocError}
use Rattle.std.proofs.lemmas.Bool.{cases_lt, and_parts}
use Rattle.std.proofs.lemmas.List.{take_at, take_all}
use Rattle.outside_ends.specs.Sources.{LeavesBehind}
use Rattle.outside_ends.specs.Whole.{IsFront, ReadsUpTo}
use Rattle.script_text.specs.declared.line.Line.{Line}
use Rattle.script_text.specs.declared.script.BadLine.{BadLine}
use Rattle.script_text.specs.declared.script.ParseError.{ParseError}
use Rattle.script_text.specs.declared.script.ParseError.TheVariants as parse
use Rattle.script_text.specs.declared.asks.NamedLine.{NamedLine}
use Rattle.script_text.specs.Lines.{lines_of}
use Rattle.script_text.specs.Refusal.{refusal_text}
use Rattle.script_text.specs.Script.{script_of, ReadsScript}
use Rattle.script_text.specs.Spelling.{IsScript}
use Rattle.script_words.specs.declared.plan.Plan.{Plan}
use Rattle.script_words.specs.declared.plan.Task.{Task}
use Rattle.script_words.specs.declared.plan.Task.TheVariants as task
use Rattle.script_words.specs.Plans.{bad_words_text}
use Rattle.fitting_run.specs.declared.told.Told.{Told}
use Rattle.script_runner.specs.declared.ended.Status.TheVariants as status
use Rattle.script_runner.specs.declared.compose.Composed.{Composed}
use Rattle.script_runner.specs.declared.compose.Failure.{Failure}
use Rattle.script_runner.specs.declared.lines.NoLines.{NoLines}
use Rattle.script_runner.specs.declared.lines.NoLines.TheVariants as none
use Rattle.script_runner.specs.Lines.{AreLinesFor, TakenFrom}
use Rattle.script_runner.specs.Unread.{unparsed}
use Rattle.crew_run.specs.Running.{RunTold}
use Rattle.script_runner.specs.Composed.{ComposesRun, IsComposed, Tells, status_of}
use Rattle.row_text.specs.declared.row.Row.{Row}
use Rattle.row_text.specs.declared.row.Outcome.{Outcome}
use Rattle.row_text.specs.declared.row.Outcome.TheVariants as out
use Rattle.script_runner.specs.declared.ended.Status.{Status}
use Rattle.fitting_run.specs.Answered.{is_open}
use Rattle.fitting_run.specs.Yard.{Shown}
use Rattle.fitting_run.specs.Calm.{IsCalm, is_answered, all_answered}
use Rattle.script_runner.specs.declared.ended.End.{End}
use Rattle.script_runner.specs.Ends.{IsPlan, Ran, ComesFrom, IsRefused, read_limit, Composes}
use Rattle.script_runner.specs.Made.{any_open}
use Rattle.script_text.proofs.Again.{script_again}
use Rattle.script_runner.proofs.Made.{counts_made}

front_of : (limit : ℕ) (all bytes : List ℕ) (after : Option (List ℕ)) → length bytes ≡ limit → LeavesBehind all after bytes → bytes ≡ take limit all
front_of limit all bytes None len h = absurd h
front_of limit all bytes (Some rest) len h = sym (ap (take limit) h ∙ take_at bytes rest limit len)

front_is : (limit : ℕ) (all bytes : List ℕ) (after : Option (List ℕ)) → IsFront limit all after bytes → length bytes ≤ limit → bytes ≡ take limit all
front_is limit all bytes after h within = elim (cases_lt (length bytes) limit) [
  | inl lt ↦ let same : all ≡ bytes = h.all lt in rw same (sym (take_all limit bytes within))
  | inr le ↦ front_of limit all bytes after (omega arith) h.front
]

-- a script is shorter than the limit, so it was read to the source's end
pub all-read : (left after : Option (List ℕ)) (bytes : List ℕ) → ReadsUpTo read_limit left after bytes → length bytes ≤ 1048576 → IfSome left (λ all. all ≡ bytes)
all-read None after bytes came short = tt
all-read (Some all) after bytes came short = came.all (omega arith)

pub front-read : (left after : Option (List ℕ)) (bytes : List ℕ) → ReadsUpTo read_limit left after bytes → length bytes ≤ read_limit → IfSome left (λ all. take read_limit all ≡ bytes)
front-read None after bytes came within = tt
front-read (Some all) after bytes came within = sym (front_is read_limit all bytes after came within)

-- what isn't parsed for a bad line has that line
unparsed-bad : (fault : ParseError) (bad : BadLine) → none.Bad bad ≡ unparsed fault → fault ≡ parse.Bad bad
unparsed-bad parse.Memory bad is = absurd (cc)
unparsed-bad (parse.Bad other) bad is = cc

pub bad-parsed : {T : Type 0} (answer : Result T NoLines) (fault : ParseError) (bad : BadLine) → answer ≡ Err (none.Bad bad) → IsErrAnd answer (λ e. e ≡ unparsed fault) → fault ≡ parse.Bad bad
bad-parsed answer fault bad is from = unparsed-bad fault bad (subst (λ r. IsErrAnd r (λ e. e ≡ unparsed fault)) is from)

pub refused-read : (plan : Plan) (left after : Option (List ℕ)) (bytes : List ℕ) (bad : BadLine)
    → plan.task ≡ task.Run → ReadsUpTo read_limit left after bytes → length bytes ≤ read_limit → script_of plan.nodes bytes ≡ Err bad → IsRefused plan left bad
refused-read plan left after bytes bad run came within read = record { read = run; bytes = bytes; front = front-read left after bytes came within; refused = read }

pub composes-refusal : (plan : Plan) (left : Option (List ℕ)) (yard : Shown) (c : Composed) (bad : BadLine)
    → IsRefused plan left bad → (c.end ≡ record { status = status.BadLine; told = None; refused = Some bad }) × (c.text ≡ refusal_text bad) → IsComposed (Some plan) left yard c
composes-refusal plan left yard c bad refused is =
    subst (λ (e : End). Composes (Some plan) left yard e.status e.told e.refused c.text) (sym is.0) (refused, is.1, refl)

-- what was taken and spells a script is what the script comes from
pub comes-from : (t : Task) (plan : Plan) (left : Option (List ℕ)) (bytes : List ℕ) (script : List Line) → plan.nodes ≤ 8 → TakenFrom t plan left bytes script → IsScript plan.nodes bytes script → ComesFrom t plan left script
comes-from task.Run plan left bytes script low taken spelled = (bytes, taken, script_again plan.nodes bytes script low spelled)
comes-from (task.Make count) plan left bytes script low taken spelled = taken.1

composes-script : (plan : Plan) (left : Option (List ℕ)) (yard : Shown) (c : Composed) (script : List Line)
    → IsPlan plan → ComesFrom plan.task plan left script → ComposesRun plan script yard c → IsComposed (Some plan) left yard c
composes-script plan left yard c script sound comes run =
    subst (λ (e : End). Composes (Some plan) left yard e.status e.told e.refused c.text) (sym run.tells.is) (ran, run.tells.text, refl)
  where
    ran : Ran plan left yard run.told
    ran = record {
      plan_is = sound;
      script = script;
      comes = comes;
      fits = run.ran.fits;
      made = λ count make. counts_made plan count left yard run.told script sound make comes run.shelf run.ran;
      answered = run.ran.answered;
      whole = run.ran.whole;
      extended = run.ran.extended;
      shelved = run.ran.shelved;
      shelf = run.shelf;
    }

-- a plan's lines are of a script
pub has-script : (plan : Plan) (left : Option (List ℕ)) (lines : List NamedLine) → IsPlan plan → AreLinesFor plan left lines → (script : List Line) × ComesFrom plan.task plan left script
has-script plan left lines sound asked = (asked.script, comes-from plan.task plan left asked.bytes asked.script sound.nodes.1 asked.comes asked.spelled)

-- what the lines that a plan asks for told is composed
pub composes-lines : (plan : Plan) (left : Option (List ℕ)) (yard : Shown) (c : Composed) (lines : List NamedLine)
    → IsPlan plan → (asked : AreLinesFor plan left lines) → ComposesRun plan asked.script yard c → IsComposed (Some plan) left yard c
composes-lines plan left yard c lines sound asked run = composes-script plan left yard c asked.script sound (comes-from plan.task plan left asked.bytes asked.script sound.nodes.1 asked.comes asked.spelled) run

-- what is read of a spelled script is that script
pub read-same : (lines script : List Line) → ReadsScript (Ok script) (Ok lines) → script ≡ lines
read-same lines script e = cc

-- an open row has no answer of its own
none-open : (rows : List Row) → all_answered rows ≡ true → any_open rows ≡ false
none-open [] e = refl
none-open (r ∷ rs) e = let k = and_parts (is_answered r.outcome) (all_answered rs) e in rw (not_open r.outcome k.0) (none-open rs k.1)
  where
    not_open : (o : Outcome) → is_answered o ≡ true → is_open o ≡ false
    not_open (out.Open c) e = sym e
    not_open (out.Placed p reply late) e = refl
    not_open (out.Read after found) e = refl
    not_open (out.Extended n m) e = refl
    not_open (out.Moved n) e = refl
    not_open out.NoSpare e = refl
    not_open (out.Alive n) e = refl
    not_open (out.Trimmed n) e = refl
    not_open out.Retired e = refl

-- where nothing was counted no row is open
pub calm-closed : (plan : Option Plan) (left : Option (List ℕ)) (yard : Shown) (end : Status) (told : Option Told) (refused : Option BadLine) (text : List ℕ)
    → Composes plan left yard end told refused text → IsCalm yard → end ≡ status.Open → ⊥
calm-closed (Some plan) left yard end (Some told) None text h calm e =
    let done : status.Open ≡ status.Done = sym e ∙ (h.2 ∙ ap (λ (b : Bool). if b then status.Open else status.Done) (none-open told.rows (h.0.answered calm))) in cc
calm-closed (Some plan) left yard end None (Some bad) text h calm e = let other : status.Open ≡ status.BadLine = sym e ∙ h.2 in cc
calm-closed None left yard end None None text h calm e = let other : status.Open ≡ status.BadWords = sym e ∙ h.1 in cc
calm-closed plan left yard end told refused text h calm e = absurd h

-- what a script told is composed of it, if memory sufficed
pub composes-told : (plan : Plan) (script : List Line) (lines : List NamedLine) (yard : Shown) (answer : Result Composed Failure) (told : Result Told AllocError)
    → lines ≡ lines_of script → length yard.cells ≡ length plan.shelf → IfOk answer (λ c. IfOk told (Tells plan lines c)) → IfOk answer (λ c. (t : Told) × (told ≡ Ok t))
    → IfOk told (RunTold lines [] yard) → IfOk answer (ComposesRun plan script yard)
composes-told plan script lines yard (Err e) told same size tells some ran = tt
composes-told plan script lines yard (Ok c) (Err e) same size tells some ran = absurd (none some.1)
  where
    none : Err e ≡ Ok some.0 → ⊥
    none h = cc
composes-told plan script lines yard (Ok c) (Ok t) same size tells some ran = record {
  told = t;
  tells = subst (λ ls. Tells plan ls c t) same tells;
  ran = subst (λ ls. RunTold ls [] yard t) same ran;
  shelf = size;
}

-- words that have no plan are answered so
pub composes-bad : (plan : Option Plan) (left : Option (List ℕ)) (yard : Shown) (c : Composed) → plan ≡ None
    → (c.end ≡ record { status = status.BadWords; told = None; refused = None }) × (c.text ≡ bad_words_text) → IsComposed plan left yard c
composes-bad plan left yard c none is =
    subst (λ (o : Option Plan). IsComposed o left yard c) (sym none) (subst (λ (e : End). Composes None left yard e.status e.told e.refused c.text) (sym is.0) (is.1, refl))

-- what is told is a run of the plan
pub told-composed : (plan : Option Plan) (left : Option (List ℕ)) (yard : Shown) (end : Status) (told : Option Told) (refused : Option BadLine) (text : List ℕ)
    → Composes plan left yard end told refused text → IfSome told (λ t. IsSomeAnd plan (λ p. Ran p left yard t))
told-composed (Some plan) left yard end (Some told) None text h = h.0
told-composed (Some plan) left yard end None (Some bad) text h = tt
told-composed None left yard end None None text h = tt
told-composed plan left yard end told refused text h = absurd h

-- a line that is named is one for which the plan refuses the source
pub refused-composed : (plan : Option Plan) (left : Option (List ℕ)) (yard : Shown) (end : Status) (told : Option Told) (refused : Option BadLine) (text : List ℕ)
    → Composes plan left yard end told refused text → IfSome refused (λ bad. IsSomeAnd plan (λ p. IsRefused p left bad))
refused-composed (Some plan) left yard end (Some told) None text h = tt
refused-composed (Some plan) left yard end None (Some bad) text h = h.0
refused-composed None left yard end None None text h = tt
refused-composed plan left yard end told refused text h = absurd h
