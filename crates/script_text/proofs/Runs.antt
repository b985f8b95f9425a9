-- Reading lines one after the other, as a loop does.
use Rattle.std.proofs.Common.{◌≡◌, ◌+◌, ◌<◌, ◌==◌, ℕ, Bool, true, false, cond, List, [], ◌∷◌, ◌++◌, length, Option, Some, None, ltb, take, drop, ◌≤◌, Result, Ok, Err, refl, sym, ap, ◌∙◌, append_assoc, arith}
use Rattle.std.specs.List.{slice_split, before_first, after_first, position_or_len}
use Rattle.std.proofs.lemmas.List.{append-nil, length-take}
use Rattle.std.proofs.lemmas.List.Sums.{fails_before_first}
use Rattle.std.proofs.lemmas.Bool.{ltb-true, ltb-false}
use Rattle.std.proofs.lemmas.Bool.Decides.{nat_tests}
use Rattle.std.proofs.lemmas.List.Splits.{slice_split_first, slice_split_none, length-slice_split}
use Rattle.script_text.specs.declared.line.Line.{Line}
use Rattle.script_text.specs.declared.script.BadLine.{BadLine}
use Rattle.script_text.specs.declared.line.Fault.{Fault}
use Rattle.script_text.specs.declared.line.Fault.TheVariants as fault
use Rattle.script_text.specs.Gives.{◌>>=◌, Fails}
use Rattle.script_text.specs.Seen.{Before, nothing_yet}
use Rattle.script_text.specs.Words.{is_empty}
use Rattle.script_text.specs.Script.{RawLine, raw_line, raw_lines, lines_in, lines_from, script_of, line_numbered, ReadsScript, error_at}

-- what was read before, and what is still read
abbrev pub with_front : List Line → Result (List Line) BadLine → Result (List Line) BadLine
with_front front read = read >>= λ x. Ok (front ++ x)

regroup : (front : List Line) (l : Line) (read : Result (List Line) BadLine) → with_front front (read >>= λ x. Ok (l ∷ x)) ≡ with_front (front ++ l ∷ []) read
regroup front l (Ok x) = ap (λ (ls : List Line). Ok ls) (sym (append_assoc front (l ∷ []) x))
regroup front l (Err f) = refl

pub goes_on : (nodes : ℕ) (seen after : Before) (n at : ℕ) (r : RawLine) (rs all : List RawLine) (front : List Line) (l : Line) (whole : Result (List Line) BadLine)
    → all ≡ r ∷ rs → line_numbered nodes seen n at r ≡ Ok (l, after)
    → with_front front (lines_from nodes seen n at all) ≡ whole → with_front (front ++ l ∷ []) (lines_from nodes after (n + 1) (at + r.size) rs) ≡ whole
unfolding lines_from
goes_on nodes seen after n at r rs all front l whole is h so_far =
    let one : with_front front (lines_from nodes seen n at all) ≡ with_front (front ++ l ∷ []) (lines_from nodes after (n + 1) (at + r.size) rs) =
    rw (is, h) (regroup front l (lines_from nodes after (n + 1) (at + r.size) rs)) in
    sym one ∙ so_far

pub ends : (e : Fault) (nodes : ℕ) (seen : Before) (n at : ℕ) (r : RawLine) (rs all : List RawLine) (front : List Line) (whole : Result (List Line) BadLine)
    → all ≡ r ∷ rs → Fails e (line_numbered nodes seen n at r)
    → with_front front (lines_from nodes seen n at all) ≡ whole → ReadsScript (Err (error_at n e)) whole
unfolding lines_from
ends fault.Memory nodes seen n at r rs all front whole is h so_far = tt
ends (fault.Breaks rule) nodes seen n at r rs all front whole is h so_far =
    let one : with_front front (lines_from nodes seen n at all) ≡ Err (record { n = n; rule = rule }) = rw (is, h) refl in
    sym so_far ∙ one

pub is_done : (nodes : ℕ) (seen : Before) (n at : ℕ) (bytes : List ℕ) (front : List Line) (whole : Result (List Line) BadLine)
    → length bytes ≡ 0 → with_front front (lines_from nodes seen n at (lines_in bytes)) ≡ whole → whole ≡ Ok front
unfolding lines_from lines_in
is_done nodes seen n at [] front whole none so_far = sym so_far ∙ ap (λ (ls : List Line). Ok ls) (append-nil front)
is_done nodes seen n at (b ∷ bs) front whole none so_far = absurd (omega arith)

-- a piece before other pieces is a line
rows_before : (x : List ℕ) (ps : List (List ℕ)) → 0 < length ps → raw_lines (x ∷ ps) ≡ raw_line x (length x + 1) ∷ raw_lines ps
rows_before x [] some = absurd (omega arith)
rows_before x (y ∷ more) some = refl

some_pieces : (p : ℕ → Bool) (bytes : List ℕ) → 0 < length (slice_split p bytes)
some_pieces p bytes = omega (arith, length-slice_split p bytes)

pub first_line : (bytes : List ℕ) → position_or_len (λ b. b == 10) bytes < length bytes
    → lines_in bytes ≡ raw_line (before_first (λ b. b == 10) bytes) (length (before_first (λ b. b == 10) bytes) + 1) ∷ lines_in (after_first (λ b. b == 10) bytes)
unfolding lines_in
first_line bytes found =
    ap raw_lines (slice_split_first (λ b. b == 10) bytes 0 found)
    ∙ rows_before (before_first (λ b. b == 10) bytes) (slice_split (λ b. b == 10) (after_first (λ b. b == 10) bytes)) (some_pieces (λ b. b == 10) (after_first (λ b. b == 10) bytes))

-- where `position` found an LF, and where it found none
pub found_at : (bytes : List ℕ) (r : Option ℕ) (i : ℕ) → r ≡ cond (ltb (position_or_len (λ b. b == 10) bytes) (length bytes)) (Some (position_or_len (λ b. b == 10) bytes)) None → r ≡ Some i
    → (i ≡ position_or_len (λ b. b == 10) bytes) × (position_or_len (λ b. b == 10) bytes < length bytes)
found_at bytes r i e is = go (ltb (position_or_len (λ b. b == 10) bytes) (length bytes)) refl (sym e ∙ is)
  where
    go : (t : Bool) → ltb (position_or_len (λ b. b == 10) bytes) (length bytes) ≡ t → cond t (Some (position_or_len (λ b. b == 10) bytes)) None ≡ Some i
        → (i ≡ position_or_len (λ b. b == 10) bytes) × (position_or_len (λ b. b == 10) bytes < length bytes)
    go true h k = (cc, ltb-true _ _ h)
    go false h k = absurd cc

pub none_found : (bytes : List ℕ) (r : Option ℕ) → r ≡ cond (ltb (position_or_len (λ b. b == 10) bytes) (length bytes)) (Some (position_or_len (λ b. b == 10) bytes)) None → r ≡ None
    → length bytes ≤ position_or_len (λ b. b == 10) bytes
none_found bytes r e is = go (ltb (position_or_len (λ b. b == 10) bytes) (length bytes)) refl (sym e ∙ is)
  where
    go : (t : Bool) → ltb (position_or_len (λ b. b == 10) bytes) (length bytes) ≡ t → cond t (Some (position_or_len (λ b. b == 10) bytes)) None ≡ None
        → length bytes ≤ position_or_len (λ b. b == 10) bytes
    go true h k = absurd cc
    go false h k = ltb-false _ _ h

pub first_cut : (bytes : List ℕ) (i : ℕ) → i ≡ position_or_len (λ b. b == 10) bytes → position_or_len (λ b. b == 10) bytes < length bytes
    → lines_in bytes ≡ raw_line (take i bytes) (i + 1) ∷ lines_in (drop (i + 1) bytes)
first_cut bytes i is found =
    let len : length (take (position_or_len (λ b. b == 10) bytes) bytes) ≡ position_or_len (λ b. b == 10) bytes = omega (arith, length-take (position_or_len (λ b. b == 10) bytes) bytes) in
    rw is (first_line bytes found ∙ ap (λ (k : ℕ). raw_line (take (position_or_len (λ b. b == 10) bytes) bytes) (k + 1) ∷ lines_in (drop (position_or_len (λ b. b == 10) bytes + 1) bytes)) len)

pub last_line : (bytes : List ℕ) → 0 < length bytes → length bytes ≤ position_or_len (λ b. b == 10) bytes → lines_in bytes ≡ raw_line bytes (length bytes) ∷ lines_in []
unfolding lines_in
last_line bytes some none =
    let whole : slice_split (λ b. b == 10) bytes ≡ bytes ∷ [] = slice_split_none (λ b. b == 10) bytes (λ k d lt. fails_before_first (λ b. b == 10) bytes k d (omega arith)) in
    let full : is_empty bytes ≡ false = grind (arith, nat_tests) in
    ap raw_lines whole ∙ rw full refl

pub begins : (nodes : ℕ) (seen : Before) (front : List Line) (bytes : List ℕ) → seen ≡ nothing_yet → front ≡ [] → with_front front (lines_from nodes seen 1 0 (lines_in bytes)) ≡ script_of nodes bytes
unfolding script_of
begins nodes seen front bytes new none = rw (new, none) (go (lines_from nodes nothing_yet 1 0 (lines_in bytes)))
  where
    go : (r : Result (List Line) BadLine) → with_front [] r ≡ r
    go (Ok x) = refl
    go (Err e) = refl
