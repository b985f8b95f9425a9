-- Where each line has its row, no more rows are placed than lines log, and as many where no row is open.
use Rattle.std.proofs.Common.{◌≡◌, refl, sym, ap, ◌∙◌, subst, ℕ, ◌+◌, ◌≤◌, Bool, true, false, cond, ◌&&◌, ◌||◌, ◌==◌, List, [], ◌∷◌, length, map, zip, arith}
use Rattle.std.specs.List.{list_all, list_any}
use Rattle.std.proofs.lemmas.Bool.{and_parts}
use Rattle.std.proofs.lemmas.List.Sums.{sum_by-cons}
use Rattle.script_text.specs.declared.line.Admin.TheVariants.{Extend, Alive, Trim, Retire}
use Rattle.script_text.specs.declared.asks.NamedLine.{NamedLine}
use Rattle.script_text.specs.declared.asks.Asks.{Asks}
use Rattle.script_text.specs.declared.asks.Asks.TheVariants as asks
use Rattle.row_text.specs.declared.row.Row.{Row}
use Rattle.row_text.specs.declared.row.Outcome.{Outcome}
use Rattle.row_text.specs.declared.row.Outcome.TheVariants as out
use Rattle.fitting_run.specs.declared.answered.Answered.{Answered}
use Rattle.fitting_run.specs.declared.told.Told.{Told}
use Rattle.fitting_run.specs.Answered.{is_open, logs, session_asking}
use Rattle.fitting_run.specs.Outcomes.{OneRowEach, answers, is_row_of, names}
use Rattle.run_totals.specs.Totals.{commands_in, acted_in, is_placed}
use Rattle.run_totals.proofs.Replaying.{all_have_rows}

-- the lines with their rows
abbrev pub paired : List NamedLine → List Row → List Answered
paired lines rows = map (λ x. record { line = x.0; row = x.1 }) (zip lines rows)

pub record EachHasRow (lines : List NamedLine) (rows : List Row) : Type 0 where
  pub as_many : length rows ≡ length lines
  pub each : list_all is_row_of (paired lines rows) ≡ true

pub each-has-row : (lines : List NamedLine) (rows : List Row) → OneRowEach lines rows → EachHasRow lines rows
each-has-row lines rows h = record {
  as_many = h.as_many ∙ ap length (all_have_rows lines);
  each = subst (λ ls. list_all is_row_of (paired ls rows) ≡ true) (all_have_rows lines) h.each;
}

-- the rest of the lines have their rows too
pub more-have-rows : (l : NamedLine) (ls : List NamedLine) (r : Row) (rs : List Row) → EachHasRow (l ∷ ls) (r ∷ rs) → (is_row_of (record { line = l; row = r }) ≡ true) × EachHasRow ls rs
more-have-rows l ls r rs h =
    let both = and_parts (is_row_of (record { line = l; row = r })) (list_all is_row_of (paired ls rs)) h.each in
    let as_many = h.as_many in
    (both.0, record { as_many = omega arith; each = both.1 })

pub no_row : (l : NamedLine) (ls : List NamedLine) → EachHasRow (l ∷ ls) [] → ⊥
no_row l ls h = let as_many = h.as_many in omega arith

pub no_line : (r : Row) (rs : List Row) → EachHasRow [] (r ∷ rs) → ⊥
no_line r rs h = let as_many = h.as_many in omega arith

pub kind-of : (a : Answered) → is_row_of a ≡ true → answers a.line.asks a.row.outcome ≡ true
kind-of a h = (and_parts ((a.row.number == a.line.number) && names a.row.who a.line.node (session_asking a.line.asks)) (answers a.line.asks a.row.outcome) h).1

no : false ≡ true → ⊥
no e = cc

-- 1, or 0
abbrev pub one : Bool → ℕ
one b = cond b 1 0

le-one : (b : Bool) → one b ≤ 1
le-one true = omega arith
le-one false = omega arith

-- only a line that logs is placed
pub placed-logs : (q : Asks) (w : Outcome) → answers q w ≡ true → one (is_placed w) ≤ one (logs q)
placed-logs (asks.Logged s r c) w h = le-one (is_placed w)
placed-logs (asks.Look s q) (out.Placed p reply late) h = absurd (no h)
placed-logs (asks.Look s q) w h = omega arith
placed-logs (asks.Admin Extend) (out.Placed p reply late) h = absurd (no h)
placed-logs (asks.Admin Extend) w h = omega arith
placed-logs (asks.Admin Alive) (out.Placed p reply late) h = absurd (no h)
placed-logs (asks.Admin Alive) w h = omega arith
placed-logs (asks.Admin Trim) (out.Placed p reply late) h = absurd (no h)
placed-logs (asks.Admin Trim) w h = omega arith
placed-logs (asks.Admin Retire) (out.Placed p reply late) h = absurd (no h)
placed-logs (asks.Admin Retire) w h = omega arith

-- a line that logs is placed or open
closed-placed : (q : Asks) (w : Outcome) → answers q w ≡ true → is_open w ≡ false → one (is_placed w) ≡ one (logs q)
closed-placed (asks.Logged s r c) (out.Placed p reply late) h k = refl
closed-placed (asks.Logged s r c) (out.Open cause) h k = absurd (no (sym k))
closed-placed (asks.Logged s r c) w h k = absurd (no h)
closed-placed (asks.Look s q) (out.Placed p reply late) h k = absurd (no h)
closed-placed (asks.Look s q) w h k = refl
closed-placed (asks.Admin Extend) (out.Placed p reply late) h k = absurd (no h)
closed-placed (asks.Admin Extend) w h k = refl
closed-placed (asks.Admin Alive) (out.Placed p reply late) h k = absurd (no h)
closed-placed (asks.Admin Alive) w h k = refl
closed-placed (asks.Admin Trim) (out.Placed p reply late) h k = absurd (no h)
closed-placed (asks.Admin Trim) w h k = refl
closed-placed (asks.Admin Retire) (out.Placed p reply late) h k = absurd (no h)
closed-placed (asks.Admin Retire) w h k = refl

neither : (a b : Bool) → (a || b) ≡ false → (a ≡ false) × (b ≡ false)
neither true b e = absurd (no (sym e))
neither false b e = (refl, e)

more-acted : (r : Row) (rs : List Row) → acted_in (r ∷ rs) ≡ one (is_placed r.outcome) + acted_in rs
more-acted r rs = sum_by-cons (λ (r : Row). one (is_placed r.outcome)) r rs

pub more-commands : (l : NamedLine) (ls : List NamedLine) → commands_in (l ∷ ls) ≡ one (logs l.asks) + commands_in ls
more-commands l ls = sum_by-cons (λ (l : NamedLine). one (logs l.asks)) l ls

pub acted-le : (lines : List NamedLine) (rows : List Row) → EachHasRow lines rows → acted_in rows ≤ commands_in lines
acted-le [] [] h = omega arith
acted-le [] (r ∷ rs) h = absurd (no_line r rs h)
acted-le (l ∷ ls) [] h = absurd (no_row l ls h)
acted-le (l ∷ ls) (r ∷ rs) h =
    let more = more-have-rows l ls r rs h in
    let here = placed-logs l.asks r.outcome (kind-of (record { line = l; row = r }) more.0) in
    let rest = acted-le ls rs more.1 in
    omega (arith, more-acted r rs, more-commands l ls)

acted-closed : (lines : List NamedLine) (rows : List Row) → EachHasRow lines rows → list_any (λ r. is_open r.outcome) rows ≡ false → acted_in rows ≡ commands_in lines
acted-closed [] [] h k = refl
acted-closed [] (r ∷ rs) h k = absurd (no_line r rs h)
acted-closed (l ∷ ls) [] h k = absurd (no_row l ls h)
acted-closed (l ∷ ls) (r ∷ rs) h k =
    let more = more-have-rows l ls r rs h in
    let closed = neither (is_open r.outcome) (list_any (λ (r : Row). is_open r.outcome) rs) k in
    let here = closed-placed l.asks r.outcome (kind-of (record { line = l; row = r }) more.0) closed.0 in
    let rest = acted-closed ls rs more.1 closed.1 in
    omega (arith, more-acted r rs, more-commands l ls)

pub answered-acts : (lines : List NamedLine) (o : Told) → OneRowEach lines o.rows → list_any (λ r. is_open r.outcome) o.rows ≡ false → acted_in o.rows ≡ commands_in lines
answered-acts lines o h k = acted-closed lines o.rows (each-has-row lines o.rows h) k

-- where all logged commands acted, a line that logs is placed, and so are those behind it
pub whole-more : (l : NamedLine) (ls : List NamedLine) (r : Row) (rs : List Row) → EachHasRow (l ∷ ls) (r ∷ rs) → acted_in (r ∷ rs) ≡ commands_in (l ∷ ls)
    → (one (is_placed r.outcome) ≡ one (logs l.asks)) × (acted_in rs ≡ commands_in ls)
whole-more l ls r rs h e =
    let more = more-have-rows l ls r rs h in
    let here = placed-logs l.asks r.outcome (kind-of (record { line = l; row = r }) more.0) in
    let rest = acted-le ls rs more.1 in
    (omega (arith, more-acted r rs, more-commands l ls), omega (arith, more-acted r rs, more-commands l ls))
