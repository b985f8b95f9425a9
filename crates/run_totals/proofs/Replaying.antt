-- Commands put in their turns and done again are the acts of placed rows, put in order.
use Rattle.std.proofs.Common.{◌≡◌, refl, sym, ap, ◌∙◌, List, [], ◌∷◌, ◌++◌, Option, Some, map, fold, filter, flat_map, zip, true, Less, Equal, Greater}
use Rattle.std.specs.Ordering.{match_ordering}
use Rattle.std.specs.BTreeMap.{insert_entry}
use Rattle.std.specs.FinMap as finmap
use Rattle.std.specs.FinMap.Entries.{by_order}
use Rattle.std.proofs.lemmas.List.Sums.{fold-append}
use Rattle.table_core.specs.declared.command.Command.{Command}
use Rattle.table_core.specs.Table.{TableMap, act}
use Rattle.engine_api.specs.declared.act.Act.{Act}
use Rattle.engine_api.specs.Acted.{act_on, table_after}
use Rattle.script_text.specs.declared.asks.NamedLine.{NamedLine}
use Rattle.script_text.specs.declared.asks.Asks.{Asks}
use Rattle.script_text.specs.declared.asks.Asks.TheVariants as asks
use Rattle.row_text.specs.declared.row.Row.{Row}
use Rattle.row_text.specs.declared.row.Outcome.{Outcome}
use Rattle.row_text.specs.declared.row.Outcome.TheVariants as out
use Rattle.fitting_run.specs.declared.answered.Answered.{Answered}
use Rattle.fitting_run.specs.declared.told.Told.{Told}
use Rattle.fitting_run.specs.Answered.{has_row, answered_lines}
use Rattle.fitting_run.specs.Acts.{act_of, act_order}
use Rattle.fitting_run.specs.Turns.{turn_cmp, turn_of}
use Rattle.fitting_run.specs.declared.acting.Turn.{Turn}
use Rattle.fitting_run.proofs.Turning.{order-turn}
use Rattle.run_totals.specs.Totals.{table_told}
use Rattle.run_totals.specs.Replay.{Turns, shown, placed_of, with_placed, with_acts, acts_told, table_by}

-- A map of turns shows what is put into it

pub shown-insert : (es : List (Turn × Command)) (k : Turn) (v : Command) → shown (insert_entry turn_cmp es k v) ≡ finmap.put turn_cmp k (Some v) (shown es)
shown-insert [] k v = refl
shown-insert (e ∷ es) k v =
    elim (turn_cmp k e.0) as (λ o. shown (match_ordering o ((k, v) ∷ e ∷ es) ((e.0, v) ∷ es) (e ∷ insert_entry turn_cmp es k v)) ≡ by_order o ((k, Some v) ∷ shown (e ∷ es)) ((e.0, Some v) ∷ shown es) ((e.0, Some e.1) ∷ finmap.put turn_cmp k (Some v) (shown es))) [
      | Less ↦ refl
      | Equal ↦ refl
      | Greater ↦ ap (λ l. (e.0, Some e.1) ∷ l) (shown-insert es k v)
    ]

pub placed-acts : (turns : Turns) (q : Asks) (w : Outcome) → with_placed turns (placed_of q w) ≡ with_acts turns (act_of q w)
placed-acts turns (asks.Logged s r c) (out.Placed p reply late) = refl
placed-acts turns (asks.Logged s r c) w = refl
placed-acts turns (asks.Look s q) w = refl
placed-acts turns (asks.Admin a) w = refl

-- one line more with its row
pub told-more : (turns : Turns) (l : NamedLine) (ls : List NamedLine) (r : Row) (rs : List Row) → with_acts turns (acts_told (l ∷ ls) (r ∷ rs)) ≡ with_acts (with_placed turns (placed_of l.asks r.outcome)) (acts_told ls rs)
told-more turns l ls r rs =
    fold-append (λ (es : Turns) (a : Act). finmap.put turn_cmp (turn_of a) a.command es) turns (act_of l.asks r.outcome) (acts_told ls rs)
    ∙ ap (λ ts. with_acts ts (acts_told ls rs)) (sym (placed-acts turns l.asks r.outcome))

pub told-nothing : (ls : List NamedLine) → acts_told ls [] ≡ []
told-nothing [] = refl
told-nothing (l ∷ ls) = refl

-- Turns are put in the order of acts

-- an act's command by its turn
abbrev by_turn : Act × Act → Turn × Option Command
by_turn e = (turn_of e.0, e.1.command)

put-by_turn : (a : Act) (es : List (Act × Act)) → map by_turn (finmap.put act_order a a es) ≡ finmap.put turn_cmp (turn_of a) a.command (map by_turn es)
put-by_turn a [] = refl
put-by_turn a (e ∷ es) =
    elim (act_order a e.0) as (λ o. map by_turn (by_order o ((a, a) ∷ e ∷ es) ((e.0, a) ∷ es) (e ∷ finmap.put act_order a a es)) ≡ by_order o ((turn_of a, a.command) ∷ map by_turn (e ∷ es)) ((turn_of e.0, a.command) ∷ map by_turn es) (by_turn e ∷ finmap.put turn_cmp (turn_of a) a.command (map by_turn es))) [
      | Less ↦ refl
      | Equal ↦ refl
      | Greater ↦ ap (λ l. by_turn e ∷ l) (put-by_turn a es)
    ]
    ∙ ap (λ o. by_order o ((turn_of a, a.command) ∷ map by_turn (e ∷ es)) ((turn_of e.0, a.command) ∷ map by_turn es) (by_turn e ∷ finmap.put turn_cmp (turn_of a) a.command (map by_turn es))) (order-turn a e.0)

acts-by_turn : (es : List (Act × Act)) (acts : List Act) → map by_turn (fold (λ es a. finmap.put act_order a a es) es acts) ≡ with_acts (map by_turn es) acts
acts-by_turn es [] = refl
acts-by_turn es (a ∷ acts) = acts-by_turn (finmap.put act_order a a es) acts ∙ ap (λ ts. with_acts ts acts) (put-by_turn a es)

-- Commands done in the same order leave the same table

head-same : {A : Type 0} (x y : A) (xs ys : List A) → x ∷ xs ≡ y ∷ ys → x ≡ y
head-same x y xs ys e = cc

tail-same : {A : Type 0} (x y : A) (xs ys : List A) → x ∷ xs ≡ y ∷ ys → xs ≡ ys
tail-same x y xs ys e = cc

nothing-more : {A : Type 0} (x : A) (xs : List A) → [] ≡ x ∷ xs → ⊥
nothing-more x xs e = cc

table-same : (m : TableMap) (es : List (Act × Act)) (fs : List (Turn × Command)) → map by_turn es ≡ shown fs → table_by m (map (λ e. e.1) fs) ≡ table_after m (map (λ e. e.1) es)
table-same m [] [] e = refl
table-same m [] (f ∷ fs) e = absurd (nothing-more _ _ e)
table-same m (a ∷ es) [] e = absurd (nothing-more _ _ (sym e))
table-same m (a ∷ es) (f ∷ fs) e =
    let heads : by_turn a ≡ (f.0, Some f.1) = head-same _ _ _ _ e in
    let command : a.1.command ≡ Some f.1 = ap (λ (p : Turn × Option Command). p.1) heads in
    table-same (act m f.1).0 es fs (tail-same _ _ _ _ e)
    ∙ ap (λ c. table_after (act_on m c).0 (map (λ (e : Act × Act). e.1) es)) (sym command)

-- Lines with their rows

has_rows : (asked : Asks) → has_row asked ≡ true
has_rows (asks.Logged s r c) = refl
has_rows (asks.Look s q) = refl
has_rows (asks.Admin a) = refl

pub all_have_rows : (lines : List NamedLine) → filter (λ l. has_row l.asks) lines ≡ lines
all_have_rows [] = refl
all_have_rows (l ∷ ls) = rw (has_rows l.asks) (ap (λ xs. l ∷ xs) (all_have_rows ls))

zipped-acts : (lines : List NamedLine) (rows : List Row) → flat_map (λ (a : Answered). act_of a.line.asks a.row.outcome) (map (λ x. record { line = x.0; row = x.1 }) (zip lines rows)) ≡ acts_told lines rows
zipped-acts [] rows = refl
zipped-acts (l ∷ ls) [] = refl
zipped-acts (l ∷ ls) (r ∷ rs) = ap (λ xs. act_of l.asks r.outcome ++ xs) (zipped-acts ls rs)

pub told-acts : (lines : List NamedLine) (rows : List Row) → flat_map (λ (a : Answered). act_of a.line.asks a.row.outcome) (answered_lines lines rows) ≡ acts_told lines rows
told-acts lines rows = rw (all_have_rows lines) (zipped-acts lines rows)

-- commands in their turns leave the table that is told
pub by-turns : (lines : List NamedLine) (o : Told) (fs : List (Turn × Command)) → shown fs ≡ with_acts [] (acts_told lines o.rows) → table_by finmap.empty (map (λ e. e.1) fs) ≡ table_told lines o
by-turns lines o fs e =
    let acts = flat_map (λ (a : Answered). act_of a.line.asks a.row.outcome) (answered_lines lines o.rows) in
    table-same finmap.empty (fold (λ es a. finmap.put act_order a a es) [] acts) fs (acts-by_turn [] acts ∙ ap (with_acts []) (told-acts lines o.rows) ∙ sym e)
