-- What else is said of how a run ended, which follows from what was put.
use Rattle.std.proofs.Common.{◌≡◌, ◌≢◌, ◌∙◌, ℕ, Bool, true, false, if◌then◌else◌, List, Option, Some, None, Err, take, refl, sym, ap, subst}
use Rattle.std.specs.Prelude.{IfSome, IsSomeAnd, IsOk, is_ok}
use Rattle.script_text.specs.declared.line.Line.{Line}
use Rattle.script_text.specs.declared.script.BadLine.{BadLine}
use Rattle.script_text.specs.Script.{script_of}
use Rattle.script_text.specs.Spelling.{IsScript}
use Rattle.script_text.proofs.Laws.{script_takes}
use Rattle.script_words.specs.declared.plan.Plan.{Plan}
use Rattle.script_words.specs.declared.plan.Task.{Task}
use Rattle.script_words.specs.declared.plan.Task.TheVariants as task
use Rattle.script_words.specs.Plans.{IsPlan, IsTask}
use Rattle.made_script.specs.Made.{made_lines, made_text}
use Rattle.made_script.proofs.Spelled.{made-script}
use Rattle.fitting_run.specs.declared.told.Told.{Told}
use Rattle.fitting_run.specs.Yard.{Shown}
use Rattle.script_runner.specs.declared.ended.End.{End}
use Rattle.script_runner.specs.declared.ended.Status.{Status}
use Rattle.script_runner.specs.declared.ended.Status.TheVariants as status
use Rattle.script_runner.specs.Ends.{ComesFrom, Composes, EndsView, IsRefused, Puts, Ran, read_limit}
use Rattle.script_runner.specs.Lines.{TakenFrom}
use Rattle.script_runner.specs.Made.{any_open}
use Rattle.script_runner.specs.Standing.{HasEnded}
use Rattle.script_runner.proofs.Outside.{told-composed, refused-composed}

-- Bytes of a script

-- bytes that were taken spell the script
pub record Spelled (plan : Plan) (left : Option (List ℕ)) (script : List Line) : Type 0 where
  pub bytes : List ℕ
  pub taken : TakenFrom plan.task plan left bytes script
  pub spelled : IsScript plan.nodes bytes script

by_task : (t : Task) (plan : Plan) (left : Option (List ℕ)) (script : List Line) → IsPlan plan → IsTask t → ComesFrom t plan left script → (bytes : List ℕ) × TakenFrom t plan left bytes script × IsScript plan.nodes bytes script
by_task task.Run plan left script sound few h = (h.0, h.1, script_takes plan.nodes h.0 script h.2)
by_task (task.Make count) plan left script sound few h =
    (made_text plan.seed count plan.nodes, (refl, h), subst (IsScript plan.nodes (made_text plan.seed count plan.nodes)) (sym h) (made-script plan.seed count plan.nodes sound.nodes.0 sound.nodes.1 few.1))

pub script_is_spelled : (plan : Plan) (left : Option (List ℕ)) (script : List Line) → IsPlan plan → ComesFrom plan.task plan left script → Spelled plan left script
script_is_spelled plan left script sound h = let is = by_task plan.task plan left script sound sound.task h in record { bytes = is.0; taken = is.1; spelled = is.2 }

-- What was told, and which line is named

told_by : (plan : Option Plan) (before after : EndsView) (yard : Shown) (s : Status) (told : Option Told) (refused : Option BadLine) → Puts plan before after yard s told refused
    → IfSome told (λ t. IsSomeAnd plan (λ p. Ran p before.left yard t))
told_by plan before after yard status.Done told refused h = told-composed plan before.left yard status.Done told refused h.0 h.1
told_by plan before after yard status.Open told refused h = told-composed plan before.left yard status.Open told refused h.0 h.1
told_by plan before after yard status.BadLine told refused h = told-composed plan before.left yard status.BadLine told refused h.0 h.1
told_by plan before after yard status.BadWords told refused h = told-composed plan before.left yard status.BadWords told refused h.0 h.1
told_by plan before after yard status.SinkFault told refused h = told-composed plan before.left yard h.2 told h.3 h.4 h.5
told_by plan before after yard status.SourceFault told refused h = subst (λ (o : Option Told). IfSome o (λ t. IsSomeAnd plan (λ p. Ran p before.left yard t))) (sym h.2) tt
told_by plan before after yard status.Memory told refused h = subst (λ (o : Option Told). IfSome o (λ t. IsSomeAnd plan (λ p. Ran p before.left yard t))) (sym h.0) tt

-- what was told is a run of the plan
pub what_is_told : (plan : Option Plan) (before after : EndsView) (yard : Shown) (end : End) → HasEnded plan before after yard end → IfSome end.told (λ t. IsSomeAnd plan (λ p. Ran p before.left yard t))
what_is_told plan before after yard end h = told_by plan before after yard end.status end.told end.refused h.puts

named_by : (plan : Option Plan) (before after : EndsView) (yard : Shown) (s : Status) (told : Option Told) (refused : Option BadLine) → Puts plan before after yard s told refused
    → IfSome refused (λ bad. IsSomeAnd plan (λ p. IsRefused p before.left bad))
named_by plan before after yard status.Done told refused h = refused-composed plan before.left yard status.Done told refused h.0 h.1
named_by plan before after yard status.Open told refused h = refused-composed plan before.left yard status.Open told refused h.0 h.1
named_by plan before after yard status.BadLine told refused h = refused-composed plan before.left yard status.BadLine told refused h.0 h.1
named_by plan before after yard status.BadWords told refused h = refused-composed plan before.left yard status.BadWords told refused h.0 h.1
named_by plan before after yard status.SinkFault told refused h = subst (λ (o : Option BadLine). IfSome o (λ bad. IsSomeAnd plan (λ p. IsRefused p before.left bad))) (sym h.1) tt
named_by plan before after yard status.SourceFault told refused h = subst (λ (o : Option BadLine). IfSome o (λ bad. IsSomeAnd plan (λ p. IsRefused p before.left bad))) (sym h.3) tt
named_by plan before after yard status.Memory told refused h = subst (λ (o : Option BadLine). IfSome o (λ bad. IsSomeAnd plan (λ p. IsRefused p before.left bad))) (sym h.1) tt

-- a line that is named is one for which the plan refuses the source
pub what_is_named : (plan : Option Plan) (before after : EndsView) (yard : Shown) (end : End) → HasEnded plan before after yard end → IfSome end.refused (λ bad. IsSomeAnd plan (λ p. IsRefused p before.left bad))
what_is_named plan before after yard end h = named_by plan before after yard end.status end.told end.refused h.puts

-- A script that can be read is run

-- the source tells bytes that are a script; one that is made always is
abbrev pub CanBeRead : Task → ℕ → Option (List ℕ) → Type 0
CanBeRead task.Run nodes left = IsSomeAnd left (λ all. IsOk (script_of nodes (take read_limit all)))
CanBeRead (task.Make count) nodes left = Unit {0}

read_well : (nodes : ℕ) (left : Option (List ℕ)) (bytes : List ℕ) (bad : BadLine) → CanBeRead task.Run nodes left → IfSome left (λ all. take read_limit all ≡ bytes) → script_of nodes bytes ≡ Err bad → ⊥
read_well nodes None bytes bad has front refused = absurd has
read_well nodes (Some all) bytes bad has front refused =
    let none : is_ok (script_of nodes (take read_limit all)) ≡ false = ap (λ bs. is_ok (script_of nodes bs)) front ∙ ap is_ok refused in
    let both : true ≡ false = sym has ∙ none in cc

-- a line of a script that can be read isn't refused
readable : (plan : Plan) (left : Option (List ℕ)) (bad : BadLine) → CanBeRead plan.task plan.nodes left → IsRefused plan left bad → ⊥
readable plan left bad has r = read_well plan.nodes left r.bytes bad (subst (λ (t : Task). CanBeRead t plan.nodes left) r.read has) r.front r.refused

no_line : (plan : Option Plan) (left : Option (List ℕ)) (yard : Shown) (told : Option Told) (refused : Option BadLine) (text : List ℕ) → Composes plan left yard status.BadLine told refused text
    → IsSomeAnd plan (λ p. CanBeRead p.task p.nodes left) → ⊥
no_line (Some plan) left yard None (Some bad) text h can = readable plan left bad can h.0
no_line (Some plan) left yard (Some told) None text h can = differs (any_open told.rows) h.2
  where
    differs : (b : Bool) → status.BadLine ≡ (if b then status.Open else status.Done) → ⊥
    differs true e = cc
    differs false e = cc
no_line None left yard None None text h can = absurd can
no_line plan left yard told refused text h can = absurd h

no_words : (plan : Option Plan) (left : Option (List ℕ)) (yard : Shown) (told : Option Told) (refused : Option BadLine) (text : List ℕ) → Composes plan left yard status.BadWords told refused text
    → IsSomeAnd plan (λ p. CanBeRead p.task p.nodes left) → ⊥
no_words (Some plan) left yard None (Some bad) text h can = let other : status.BadWords ≡ status.BadLine = h.2 in cc
no_words (Some plan) left yard (Some told) None text h can = differs (any_open told.rows) h.2
  where
    differs : (b : Bool) → status.BadWords ≡ (if b then status.Open else status.Done) → ⊥
    differs true e = cc
    differs false e = cc
no_words None left yard None None text h can = absurd can
no_words plan left yard told refused text h can = absurd h

-- words that have a plan, and a script that can be read, are answered neither by a bad line nor as bad words
pub a_script_is_run : (plan : Option Plan) (before after : EndsView) (yard : Shown) (end : End) → HasEnded plan before after yard end → IsSomeAnd plan (λ p. CanBeRead p.task p.nodes before.left)
    → (end.status ≢ status.BadWords) × (end.status ≢ status.BadLine)
a_script_is_run plan before after yard end h can = (
  (λ e. let put = subst (λ s. Puts plan before after yard s end.told end.refused) e h.puts in no_words plan before.left yard end.told end.refused put.0 put.1 can),
  (λ e. let put = subst (λ s. Puts plan before after yard s end.told end.refused) e h.puts in no_line plan before.left yard end.told end.refused put.0 put.1 can),
)
