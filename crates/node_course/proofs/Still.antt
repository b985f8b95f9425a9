-- What a node did, where it appended nothing but commands of sessions, began no Seal, and none of its lines came to a look.
use Rattle.std.proofs.Common.{◌≡◌, refl, ℕ, ◌≤◌, Bool, false, List, ◌++◌, Option, count_by, arith}
use Rattle.delos_types.specs.declared.cause.Cause.{Cause}
use Rattle.delos_types.specs.declared.cause.Cause.TheVariants as cause
use Rattle.legal_journal.specs.Law.{Law}
use Rattle.legal_journal.specs.declared.events.Event.{Event}
use Rattle.legal_journal.specs.Journal.{IsLegal}
use Rattle.journal_laws.specs.Own.{faults_of}
use Rattle.virtual_log.specs.Sealing.{SealsNone}
use Rattle.script_text.specs.declared.asks.NamedLine.{NamedLine}
use Rattle.node_lines.specs.declared.lines.Looked.{Looked}
use Rattle.node_lines.specs.Workers.{IsOfSessions, MayRun, OwnAdds}
use Rattle.node_course.specs.Moments.{NodeCourse}
use Rattle.node_course.specs.Played.{went_further}
use Rattle.node_course.specs.Course.{IsCourse}
use Rattle.node_course.specs.Telling.{AreTold, AsksBehind}
use Rattle.node_course.proofs.Told.{TellsOn, tells_commands}
use Rattle.node_course.proofs.Seals.{seals_still}
use Rattle.node_course.proofs.Advance.{advance_back, advanced, advanced_on, events_then, here_then}

pub tells_still : (law : Law) → MayRun law → (lines : List NamedLine) (looks : List (Option Looked)) (n : ℕ) (old new more : List Event) → new ≡ old ++ more → IsLegal law new
    → (cursor cursor' : ℕ) → cursor ≤ cursor' → AreTold lines looks n old → OwnAdds n IsOfSessions old new → TellsOn lines looks n cursor cursor' old new
tells_still law run lines looks n old new more seen legal cursor cursor' up told adds =
    tells_commands law old new (more, seen) legal lines looks looks n (λ i l look come. come) run cursor cursor' up told adds

pub did_still : (law : Law) (lines : List NamedLine) (nodes n : ℕ) (c : NodeCourse) (looks : List (Option Looked)) → IsCourse law lines nodes n c looks
    → (came : List Cause) (journal more : List Event) (when : ℕ → ℕ) → journal ≡ c.seen ++ more → IsLegal law journal
    → ((kind : Cause → Bool) → kind cause.Store ≡ false → count_by kind came ≤ count_by kind (faults_of n more))
    → SealsNone n c.seen journal → AreTold lines looks n journal → AsksBehind n journal → IsCourse law lines nodes n (advanced c n came journal when) looks
did_still law lines nodes n c looks ok came journal more when seen legal told_by still told behind =
    advance_back law lines nodes n c looks ok (advanced c n came journal when) (advanced_on c n came journal more when seen) legal
    (here_then law lines nodes n c looks ok came journal more when seen) looks (λ i l look come. come) (λ i l look come. come) refl refl
    (λ kind store. events_then law lines nodes n c looks ok came journal more when seen looks kind store (let e = told_by kind store in omega (arith, e)))
    (seals_still n c.seen journal (went_further n lines looks) (went_further n lines looks) still (omega arith) ok.seals)
    told behind
