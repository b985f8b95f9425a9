-- The rows of the first lines, and what each line is told by.
use Rattle.std.proofs.Common.{◌≡◌, refl, sym, ap, ◌∙◌, subst, ⊎_elim, ℕ, ◌+◌, ◌<◌, ◌≤◌, List, [], ◌∷◌, ◌++◌, Option, Some, Result, Ok, Err, IfOk, length, slice_get, arith, length-append}
use Rattle.std.proofs.lemmas.Bool.{cases_lt}
use Rattle.std.proofs.lemmas.Option.{same_Some, slice_get_within}
use Rattle.fabric_core.proofs.Marks.{at_end, not_at_end}
use Rattle.script_text.specs.declared.asks.NamedLine.{NamedLine}
use Rattle.row_text.specs.declared.row.Row.{Row}
use Rattle.node_lines.specs.declared.lines.Looked.{Looked}
use Rattle.run_ends.specs.Closing.{WorkerEnd}
use Rattle.run_ends.specs.Rows.{AreRows, CanTell, IsRowOf, TellsIt, desk_for}

pub ok_then : {T E : Type 0} (r : Result T E) {P Q : T → Type 0} → IfOk r P → ((x : T) → P x → Q x) → IfOk r Q
ok_then (Ok x) p f = f x p
ok_then (Err e) p f = tt

module _ (lines : List NamedLine) (workers : List WorkerEnd) (looks : List (Option Looked)) where
  -- these are the rows of the first lines
  pub record AreFirst (rows : List Row) : Type 0 where
    pub short : length rows ≤ length lines
    pub each : (i : ℕ) (l : NamedLine) (look : Option Looked) (row : Row) → slice_get lines i ≡ Some l → slice_get looks i ≡ Some look → slice_get rows i ≡ Some row → IsRowOf l (desk_for workers l.node l.asks) look row

  pub none_yet : AreFirst []
  none_yet = record { short = omega arith; each = λ i l look row at looked here. absurd (cc) }

  pub tells_it : CanTell lines workers looks → (i : ℕ) (l : NamedLine) (look : Option Looked) → slice_get lines i ≡ Some l → slice_get looks i ≡ Some look → TellsIt (desk_for workers l.node l.asks) look l.asks
  tells_it can i l look at looked =
      let k = can.each i l at in
      let look_is : k.look ≡ look = same_Some k.look look (sym k.look_at ∙ looked) in
      subst (λ e. TellsIt (desk_for workers l.node l.asks) e l.asks) look_is k.tells

  -- the row of the next line is added
  one_more : (rows : List Row) (l : NamedLine) (look : Option Looked) (row : Row) → slice_get lines (length rows) ≡ Some l → slice_get looks (length rows) ≡ Some look → IsRowOf l (desk_for workers l.node l.asks) look row → AreFirst rows
      → AreFirst (rows ++ row ∷ [])
  one_more rows l look row at looked is so = record { short = short; each = each }
    where
      short : length (rows ++ row ∷ []) ≤ length lines
      short = let low = slice_get_within lines (length rows) l at in let size = length-append rows (row ∷ []) in omega (arith, low, size)

      last : (m : NamedLine) (k : Option Looked) (r : Row) → slice_get lines (length rows) ≡ Some m → slice_get looks (length rows) ≡ Some k → slice_get (rows ++ row ∷ []) (length rows) ≡ Some r → IsRowOf m (desk_for workers m.node m.asks) k r
      last m k r at' looked' here =
          let line_is : l ≡ m = same_Some l m (sym at ∙ at') in
          let look_is : look ≡ k = same_Some look k (sym looked ∙ looked') in
          let row_is : row ≡ r = same_Some row r (sym (at_end rows row (length rows) refl) ∙ here) in
          subst (λ x. IsRowOf m (desk_for workers m.node m.asks) k x) row_is
          (subst (λ x. IsRowOf m (desk_for workers m.node m.asks) x row) look_is (subst (λ (x : NamedLine). IsRowOf x (desk_for workers x.node x.asks) look row) line_is is))

      each : (i : ℕ) (m : NamedLine) (k : Option Looked) (r : Row) → slice_get lines i ≡ Some m → slice_get looks i ≡ Some k → slice_get (rows ++ row ∷ []) i ≡ Some r → IsRowOf m (desk_for workers m.node m.asks) k r
      each i m k r at' looked' here =
          let size = length-append rows (row ∷ []) in
          let within = slice_get_within (rows ++ row ∷ []) i r here in
          ⊎_elim
          (λ (before : i < length rows). so.each i m k r at' looked' (sym (not_at_end rows row i (λ same. omega (arith, before, same))) ∙ here))
          (λ (behind : length rows ≤ i).
          let same : i ≡ length rows = omega (arith, within, behind, size) in
          last m k r (subst (λ n. slice_get lines n ≡ Some m) same at') (subst (λ n. slice_get looks n ≡ Some k) same looked') (subst (λ n. slice_get (rows ++ row ∷ []) n ≡ Some r) same here))
          (cases_lt i (length rows))

  -- it is added behind them
  pub goes_on : (i : ℕ) (rows more : List Row) (l : NamedLine) (look : Option Looked) (row : Row) → length rows ≡ i → more ≡ rows ++ row ∷ [] → slice_get lines i ≡ Some l → slice_get looks i ≡ Some look → IsRowOf l (desk_for workers l.node l.asks) look row
      → AreFirst rows → (length more ≡ i + 1) × AreFirst more
  goes_on i rows more l look row size is at looked own so =
      let sum = length-append rows (row ∷ []) in
      let grown : length (rows ++ row ∷ []) ≡ i + 1 = omega (arith, sum, size) in (
        ap length is ∙ grown,
        subst AreFirst (sym is) (one_more rows l look row (subst (λ n. slice_get lines n ≡ Some l) (sym size) at) (subst (λ n. slice_get looks n ≡ Some look) (sym size) looked) own so),
      )

  pub are_rows : (rows : List Row) → length rows ≡ length lines → AreFirst rows → AreRows lines workers looks rows
  are_rows rows size so = record { size = size; each = so.each }
