-- The lines of a run with their rows: which is which, and how many of them are so.
use Rattle.std.proofs.Common.{◌≡◌, refl, sym, ap, subst, ℕ, zero, suc, ◌<◌, ◌||◌, Bool, List, [], ◌∷◌, ◌++◌, Option, Some, map, length, take, count_by, slice_get, arith, append_assoc, append-nil}
use Rattle.std.specs.List.{AllByRecursion, list_any}
use Rattle.script_text.specs.declared.asks.NamedLine.{NamedLine}
use Rattle.row_text.specs.declared.row.Row.{Row}
use Rattle.node_lines.specs.declared.lines.Looked.{Looked}
use Rattle.run_laws.specs.Ended.{Played, AllAfter}
use Rattle.node_course.specs.Script.{failure_of_look}
use Rattle.node_course.proofs.Lines.{count-cons}
use Rattle.run_ends.specs.Rows.{played_of}

-- an element of a list that is long enough
pub some_at : {A : Type 0} (xs : List A) (n : ℕ) → n < length xs → (x : A) × (slice_get xs n ≡ Some x)
some_at [] n h = absurd (omega arith)
some_at (x ∷ xs) zero h = (x, refl)
some_at (x ∷ xs) (suc n) h = some_at xs n (omega arith)

-- what holds of each element, with those before it, holds so of the list
module _ {A : Type 0} (P : List A → A → Type 0) where
  pub all_after : (before xs : List A) → ((i : ℕ) (x : A) → slice_get xs i ≡ Some x → P (before ++ take i xs) x) → AllAfter P before xs
  all_after before [] each = tt
  all_after before (x ∷ xs) each = (
    subst (λ b. P b x) (append-nil before) (each 0 x refl),
    all_after (before ++ x ∷ []) xs (λ i y at. subst (λ b. P b y) (sym (append_assoc before (x ∷ []) (take i xs))) (each (suc i) y at)),
  )

-- What is counted of lines

module _ {A B : Type 0} (f : A → B) (p : B → Bool) where
  pub count_map : (xs : List A) → count_by (λ x. p (f x)) xs ≡ count_by p (map f xs)
  count_map [] = refl
  count_map (x ∷ xs) =
      let a = count-cons (λ y. p (f y)) x xs in
      let b = count-cons p (f x) (map f xs) in
      let rest = count_map xs in
      omega (arith, a, b, rest)

  pub any_map : (xs : List A) → list_any (λ x. p (f x)) xs ≡ list_any p (map f xs)
  any_map [] = refl
  any_map (x ∷ xs) = ap (λ t. p (f x) || t) (any_map xs)

pub map_take : {A B : Type 0} (f : A → B) (i : ℕ) (xs : List A) → map f (take i xs) ≡ take i (map f xs)
map_take f zero [] = refl
map_take f zero (x ∷ xs) = refl
map_take f (suc i) [] = refl
map_take f (suc i) (x ∷ xs) = ap (λ l. f x ∷ l) (map_take f i xs)

-- The lines with their rows

-- a line with its row, and what its own look came to
pub record IsTurn (lines : List NamedLine) (rows : List Row) (looks : List (Option Looked)) (i : ℕ) (t : Played) : Type 0 where
  pub line : NamedLine
  pub row : Row
  pub look : Option Looked
  pub line_at : slice_get lines i ≡ Some line
  pub row_at : slice_get rows i ≡ Some row
  pub look_at : slice_get looks i ≡ Some look
  pub is : t ≡ record { line = line; row = row; paid = failure_of_look look }

pub turn_is : (lines : List NamedLine) (rows : List Row) (looks : List (Option Looked)) (i : ℕ) (t : Played) → slice_get (played_of lines rows looks) i ≡ Some t → IsTurn lines rows looks i t
turn_is [] rows looks i t at = absurd (cc)
turn_is (l ∷ lines) [] looks i t at = absurd (cc)
turn_is (l ∷ lines) (row ∷ rows) [] i t at = absurd (cc)
turn_is (l ∷ lines) (row ∷ rows) (look ∷ looks) zero t at = record {
  line = l;
  row = row;
  look = look;
  line_at = refl;
  row_at = refl;
  look_at = refl;
  is = same _ t at;
}
  where
    same : (x y : Played) → Some x ≡ Some y → y ≡ x
    same x y e = cc
turn_is (l ∷ lines) (row ∷ rows) (look ∷ looks) (suc i) t at =
    let k = turn_is lines rows looks i t at in
    record { line = k.line; row = k.row; look = k.look; line_at = k.line_at; row_at = k.row_at; look_at = k.look_at; is = k.is }

pub lines_are : (lines : List NamedLine) (rows : List Row) (looks : List (Option Looked)) → length rows ≡ length lines → length looks ≡ length lines → map (λ t. t.line) (played_of lines rows looks) ≡ lines
lines_are [] rows looks size sizes = refl
lines_are (l ∷ lines) [] looks size sizes = absurd (omega (arith, size))
lines_are (l ∷ lines) (row ∷ rows) [] size sizes = absurd (omega (arith, sizes))
lines_are (l ∷ lines) (row ∷ rows) (look ∷ looks) size sizes = ap (λ ls. l ∷ ls) (lines_are lines rows looks (omega (arith, size)) (omega (arith, sizes)))

pub rows_are : (lines : List NamedLine) (rows : List Row) (looks : List (Option Looked)) → length rows ≡ length lines → length looks ≡ length lines → map (λ t. t.row) (played_of lines rows looks) ≡ rows
rows_are [] [] looks size sizes = refl
rows_are [] (row ∷ rows) looks size sizes = absurd (omega (arith, size))
rows_are (l ∷ lines) [] looks size sizes = absurd (omega (arith, size))
rows_are (l ∷ lines) (row ∷ rows) [] size sizes = absurd (omega (arith, sizes))
rows_are (l ∷ lines) (row ∷ rows) (look ∷ looks) size sizes = ap (λ rs. row ∷ rs) (rows_are lines rows looks (omega (arith, size)) (omega (arith, sizes)))

-- what a line is an element of
pub turn_of : (ts : List Played) (i : ℕ) (l : NamedLine) → slice_get (map (λ t. t.line) ts) i ≡ Some l → (t : Played) × (slice_get ts i ≡ Some t) × (t.line ≡ l)
turn_of [] i l at = absurd (cc)
turn_of (t ∷ ts) zero l at = (t, refl, same t.line l at)
  where
    same : (x y : NamedLine) → Some x ≡ Some y → x ≡ y
    same x y e = cc
turn_of (t ∷ ts) (suc i) l at = turn_of ts i l at

-- what holds of each line holds of it with its row
pub all_lines : (P : NamedLine → Type 0) (ts : List Played) → AllByRecursion P (map (λ t. t.line) ts) → AllByRecursion (λ t. P t.line) ts
all_lines P [] h = tt
all_lines P (t ∷ ts) h = (h.0, all_lines P ts h.1)
