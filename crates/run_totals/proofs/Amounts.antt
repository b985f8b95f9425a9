-- What small adds come to, as their lines and rows say.
use Rattle.std.proofs.Common.{◌≡◌, refl, sym, ap, ◌∙◌, ℕ, ◌+◌, ◌*◌, ◌≤◌, Bool, true, false, cond, List, [], ◌∷◌, fold, sum_by, ℤ, pos, ◌+ℤ◌, arith}
use Rattle.std.specs.FinMap as finmap
use Rattle.std.specs.List.{AllByRecursion}
use Rattle.std.proofs.lemmas.List.Sums.{sum_by-append}
use Rattle.engine_api.specs.declared.act.Act.{Act}
use Rattle.engine_api.specs.Acted.{table_after}
use Rattle.script_text.specs.declared.asks.NamedLine.{NamedLine}
use Rattle.script_text.specs.declared.asks.Asks.{Asks}
use Rattle.script_text.specs.declared.asks.Asks.TheVariants as asks
use Rattle.row_text.specs.declared.row.Row.{Row}
use Rattle.row_text.specs.declared.row.Outcome.{Outcome}
use Rattle.row_text.specs.declared.row.Outcome.TheVariants as out
use Rattle.fitting_run.specs.declared.told.Told.{Told}
use Rattle.fitting_run.specs.Answered.{answered_lines, logs}
use Rattle.fitting_run.specs.Acts.{act_of, in_order}
use Rattle.fitting_run.specs.Fits.{told_of}
use Rattle.fitting_run.specs.Outcomes.{OneRowEach}
use Rattle.run_totals.specs.Totals.{acted_in, commands_in, is_placed, sum_of_table, table_told}
use Rattle.run_totals.specs.Replay.{acts_told}
use Rattle.run_totals.specs.Adds.{AreSmallAdds, AsksSmallAdd, amount_asked, amount_in, amount_placed, amounts_in, amounts_placed}
use Rattle.run_totals.proofs.Adding.{IsSmallAct, act_adds, adds-sum, small-adds}
use Rattle.run_totals.proofs.Permuting.{all-in_order, sum-in_order}
use Rattle.run_totals.proofs.Ranks.{all-append, told-apart}
use Rattle.run_totals.proofs.Replaying.{all_have_rows, told-acts}
use Rattle.run_totals.proofs.Whole.{EachHasRow, each-has-row, more-commands, more-have-rows, no_line, no_row, one, paired, whole-more}

-- what an act adds
abbrev adds : Act → ℕ
adds a = act_adds a.command

-- The acts of small adds

head-small : (q : Asks) (w : Outcome) → AsksSmallAdd q → AllByRecursion (λ a. IsSmallAct a.command) (act_of q w)
head-small (asks.Logged s r c) (out.Placed p reply late) h = (h, tt)
head-small (asks.Logged s r c) w h = tt
head-small (asks.Look s q) w h = tt
head-small (asks.Admin a) w h = tt

told-small : (lines : List NamedLine) (rows : List Row) → AllByRecursion (λ l. AsksSmallAdd l.asks) lines → AllByRecursion (λ a. IsSmallAct a.command) (acts_told lines rows)
told-small [] rows h = tt
told-small (l ∷ ls) [] h = tt
told-small (l ∷ ls) (r ∷ rs) h =
    all-append (λ (a : Act). IsSmallAct a.command) (act_of l.asks r.outcome) (acts_told ls rs) (head-small l.asks r.outcome h.0) (told-small ls rs h.1)

-- each adds 99 at most
head-adds_le : (q : Asks) (w : Outcome) → AsksSmallAdd q → sum_by adds (act_of q w) ≤ 99 * one (logs q)
head-adds_le (asks.Logged s r c) (out.Placed p reply late) h = let small = (small-adds c h).1 in omega (arith, small)
head-adds_le (asks.Logged s r c) w h = omega arith
head-adds_le (asks.Look s q) w h = omega arith
head-adds_le (asks.Admin a) w h = omega arith

told-adds_le : (lines : List NamedLine) (rows : List Row) → AllByRecursion (λ l. AsksSmallAdd l.asks) lines → sum_by adds (acts_told lines rows) ≤ 99 * commands_in lines
told-adds_le [] rows h = omega arith
told-adds_le (l ∷ ls) [] h = omega arith
told-adds_le (l ∷ ls) (r ∷ rs) h =
    let here = head-adds_le l.asks r.outcome h.0 in
    let rest = told-adds_le ls rs h.1 in
    omega (arith, sum_by-append adds (act_of l.asks r.outcome) (acts_told ls rs), more-commands l ls)

-- Amounts of placed rows

same-either : (b : Bool) (z : ℤ) → cond b z z ≡ z
same-either true z = refl
same-either false z = refl

head-amount : (l : NamedLine) (r : Row) (q : Asks) (w : Outcome) → AsksSmallAdd q → cond (is_placed w) (amount_asked q) (pos 0) ≡ pos (sum_by adds (act_of q w))
head-amount l r (asks.Logged s k c) (out.Placed p reply late) h = (small-adds c h).0 ∙ ap pos (omega arith)
head-amount l r (asks.Logged s k c) w h = refl
head-amount l r (asks.Look s q) w h = same-either (is_placed w) (pos 0)
head-amount l r (asks.Admin a) w h = same-either (is_placed w) (pos 0)

paired-amounts : (sum : ℕ) (lines : List NamedLine) (rows : List Row) → AllByRecursion (λ l. AsksSmallAdd l.asks) lines
    → fold (λ s a. s +ℤ amount_placed a) (pos sum) (paired lines rows) ≡ pos (sum + sum_by adds (acts_told lines rows))
paired-amounts sum [] rows h = ap pos (omega arith)
paired-amounts sum (l ∷ ls) [] h = ap pos (omega arith)
paired-amounts sum (l ∷ ls) (r ∷ rs) h =
    ap (λ z. fold (λ s a. s +ℤ amount_placed a) (pos sum +ℤ z) (paired ls rs)) (head-amount l r l.asks r.outcome h.0)
    ∙ paired-amounts (sum + sum_by adds (act_of l.asks r.outcome)) ls rs h.1
    ∙ ap pos (omega (arith, sum_by-append adds (act_of l.asks r.outcome) (acts_told ls rs)))

told-paired : (lines : List NamedLine) (rows : List Row) → answered_lines lines rows ≡ paired lines rows
told-paired lines rows = ap (λ ls. paired ls rows) (all_have_rows lines)

pub placed-sum : (lines : List NamedLine) (o : Told) → AreSmallAdds lines → sum_of_table (table_told lines o) ≡ amounts_placed (told_of lines o)
placed-sum lines o h =
    let acts = acts_told lines o.rows in
    let apart = told-apart [] lines o.rows h.ranked in
    let same = sum-in_order adds acts apart in
    let most = told-adds_le lines o.rows h.small in
    let few = h.few in
    ap (λ xs. sum_of_table (table_after finmap.empty (in_order xs))) (told-acts lines o.rows)
    ∙ adds-sum (in_order acts) (all-in_order (λ (a : Act). IsSmallAct a.command) acts (told-small lines o.rows h.small)) (omega (arith, same, most, few))
    ∙ ap pos (let from_nothing : sum_by adds (in_order acts) ≡ 0 + sum_by adds acts = omega (arith, same) in from_nothing)
    ∙ sym (paired-amounts 0 lines o.rows h.small)
    ∙ ap amounts_placed (sym (told-paired lines o.rows))

-- Amounts of all lines

whole-amount : (q : Asks) (w : Outcome) → one (is_placed w) ≡ one (logs q) → cond (is_placed w) (amount_asked q) (pos 0) ≡ amount_asked q
whole-amount (asks.Logged s r c) w e = by (is_placed w) e
  where
    by : (b : Bool) → one b ≡ 1 → cond b (amount_in c) (pos 0) ≡ amount_in c
    by true e = refl
    by false e = absurd (omega arith)
whole-amount (asks.Look s q) w e = same-either (is_placed w) (pos 0)
whole-amount (asks.Admin a) w e = same-either (is_placed w) (pos 0)

whole-amounts : (sum : ℤ) (lines : List NamedLine) (rows : List Row) → EachHasRow lines rows → acted_in rows ≡ commands_in lines
    → fold (λ s a. s +ℤ amount_placed a) sum (paired lines rows) ≡ fold (λ s l. s +ℤ amount_asked l.asks) sum lines
whole-amounts sum [] [] h e = refl
whole-amounts sum [] (r ∷ rs) h e = absurd (no_line r rs h)
whole-amounts sum (l ∷ ls) [] h e = absurd (no_row l ls h)
whole-amounts sum (l ∷ ls) (r ∷ rs) h e =
    let more = whole-more l ls r rs h e in
    ap (λ z. fold (λ s a. s +ℤ amount_placed a) (sum +ℤ z) (paired ls rs)) (whole-amount l.asks r.outcome more.0)
    ∙ whole-amounts (sum +ℤ amount_asked l.asks) ls rs (more-have-rows l ls r rs h).1 more.1

pub whole-sum : (lines : List NamedLine) (o : Told) → AreSmallAdds lines → OneRowEach lines o.rows → acted_in o.rows ≡ commands_in lines → sum_of_table (table_told lines o) ≡ amounts_in lines
whole-sum lines o h rows e =
    placed-sum lines o h ∙ ap amounts_placed (told-paired lines o.rows) ∙ whole-amounts (pos 0) lines o.rows (each-has-row lines o.rows rows) e
