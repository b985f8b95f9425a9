-- The lines of a run with their rows.
use Rattle.std.proofs.Common.{◌≡◌, refl, ap, ◌∙◌, true, List, [], ◌∷◌, map, filter, zip}
use Rattle.script_text.specs.declared.asks.NamedLine.{NamedLine}
use Rattle.script_text.specs.declared.asks.Asks.{Asks}
use Rattle.script_text.specs.declared.asks.Asks.TheVariants as asks
use Rattle.fitting_run.specs.declared.answered.Answered.{Answered}
use Rattle.fitting_run.specs.declared.told.Told.{Told}
use Rattle.fitting_run.specs.Answered.{has_row, answered_lines}
use Rattle.fitting_run.specs.Fits.{told_of}
use Rattle.run_laws.specs.Ended.{Played}

abbrev pub tell : Played → Answered
tell t = record { line = t.line; row = t.row }

has_rows : (asked : Asks) → has_row asked ≡ true
has_rows (asks.Logged s r c) = refl
has_rows (asks.Look s q) = refl
has_rows (asks.Admin a) = refl

pub all_have_rows : (lines : List NamedLine) → filter (λ l. has_row l.asks) lines ≡ lines
all_have_rows [] = refl
all_have_rows (l ∷ ls) = rw (has_rows l.asks) (ap (λ xs. l ∷ xs) (all_have_rows ls))

zipped : (ts : List Played) → map (λ x. record { line = x.0; row = x.1 }) (zip (map (λ (t : Played). t.line) ts) (map (λ (t : Played). t.row) ts)) ≡ map tell ts
zipped [] = refl
zipped (t ∷ ts) = ap (λ xs. tell t ∷ xs) (zipped ts)

answered-told : (played : List Played) → answered_lines (map (λ t. t.line) played) (map (λ t. t.row) played) ≡ map tell played
answered-told played = rw (all_have_rows (map (λ (t : Played). t.line) played)) (zipped played)

pub told-is : (played : List Played) (o : Told) → o.rows ≡ map (λ t. t.row) played → told_of (map (λ t. t.line) played) o ≡ map tell played
told-is played o rows = ap (answered_lines (map (λ (t : Played). t.line) played)) rows ∙ answered-told played
