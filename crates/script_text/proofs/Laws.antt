-- What is read is spelled so.
use Rattle.std.proofs.Common.{◌≡◌, ◌≤◌, ◌+◌, ◌==◌, ℕ, Bool, true, false, cond, List, [], ◌∷◌, length, Result, Ok, Err, refl, ap, subst, ◌∙◌, arith}
use Rattle.std.specs.Prelude.{nat_lt, IfOk, OnOk}
use Rattle.std.specs.List.{slice_split, join_with_byte}
use Rattle.std.proofs.lemmas.List.{length-append}
use Rattle.std.proofs.lemmas.List.Splits.{join_with_byte-slice_split}
use Rattle.std.proofs.lemmas.Bool.{ltb-false, eqb-true}
use Rattle.script_text.specs.Words.{is_empty}
use Rattle.script_text.specs.declared.line.Rule.{Rule}
use Rattle.script_text.specs.declared.line.Rule.TheVariants as rule
use Rattle.script_text.specs.declared.line.Line.{Line}
use Rattle.script_text.specs.declared.script.BadLine.{BadLine}
use Rattle.script_text.specs.declared.script.ParseError.{ParseError}
use Rattle.script_text.specs.Gives.{◌>>=◌}
use Rattle.script_text.specs.Seen.{Before, nothing_yet}
use Rattle.script_text.specs.Forms.{line_at}
use Rattle.script_text.specs.Script.{RawLine, raw_line, raw_lines, lines_in, lines_from, script_of, line_numbered, in_line, ReadsScript}
use Rattle.script_text.specs.Spelling.{SpellsFrom, IsScript}
use Rattle.script_text.proofs.Takes.{bind_ok, taken_else, line_takes}

in_line_ok : {A : Type 0} (n : ℕ) (r : Result A Rule) (x : A) → in_line n r ≡ Ok x → r ≡ Ok x
in_line_ok n (Ok y) x e = cc
in_line_ok n (Err r) x e = absurd cc

abbrev read : List Line → Result (List Line) BadLine
read ls = Ok ls

lines_are : (ls ks : List Line) → read ls ≡ read ks → ls ≡ ks
lines_are ls ks e = cc

pub lines_take : (nodes : ℕ) (b : Before) (n at : ℕ) (rows : List RawLine) (ls : List Line) → lines_from nodes b n at rows ≡ Ok ls → SpellsFrom nodes b n at rows ls
unfolding lines_from
lines_take nodes b n at [] ls e = subst (SpellsFrom nodes b n at []) (lines_are [] ls e) tt
lines_take nodes b n at (r ∷ rs) ls e =
    let a = bind_ok (in_line n (line_numbered nodes b n at r)) (λ first. lines_from nodes first.1 (n + 1) (at + r.size) rs >>= λ others. Ok (first.0 ∷ others)) ls e in
    let o = bind_ok (lines_from nodes a.0.1 (n + 1) (at + r.size) rs) (λ others. Ok (a.0.0 ∷ others)) ls a.2 in
    let l = in_line_ok n (line_numbered nodes b n at r) a.0 a.1 in
    let place = taken_else (nat_lt 1048576 (at + r.size)) rule.ScriptTooLong (cond (nat_lt 20000 n) (Err rule.TooManyLines) (line_at nodes b r.text)) a.0 l in
    let number = taken_else (nat_lt 20000 n) rule.TooManyLines (line_at nodes b r.text) a.0 place.1 in
    let rest = lines_take nodes a.0.1 (n + 1) (at + r.size) rs o.0 o.1 in
    subst (SpellsFrom nodes b n at (r ∷ rs)) (lines_are (a.0.0 ∷ o.0) ls o.2)
    (ltb-false _ _ place.0, ltb-false _ _ number.0, a.0.1, line_takes nodes b r.text a.0 number.1, rest)

pub script_takes : (nodes : ℕ) (bytes : List ℕ) (ls : List Line) → script_of nodes bytes ≡ Ok ls → IsScript nodes bytes ls
unfolding script_of
script_takes nodes bytes ls e = lines_take nodes nothing_yet 1 0 (lines_in bytes) ls e

pub is_found : (nodes : ℕ) (bytes : List ℕ) (r : Result (List Line) ParseError) → ReadsScript r (script_of nodes bytes) → IfOk r (λ s. IsScript nodes bytes s)
is_found nodes bytes (Ok s) e = script_takes nodes bytes s e
is_found nodes bytes (Err x) e = tt

-- ---- how long a script is

abbrev pub total_size : List RawLine → ℕ
total_size [] = 0
total_size (r ∷ rs) = r.size + total_size rs

last_size : (x : List ℕ) (t : Bool) → is_empty x ≡ t → total_size (cond t [] (raw_line x (length x) ∷ [])) ≡ length x
last_size x true e = omega (arith, eqb-true _ _ e)
last_size x false e = omega arith

joined_size : (c : ℕ) (ps : List (List ℕ)) → total_size (raw_lines ps) ≡ length (join_with_byte c ps)
joined_size c [] = refl
joined_size c (x ∷ []) = last_size x (is_empty x) refl
joined_size c (x ∷ y ∷ more) = omega (arith, joined_size c (y ∷ more), length-append x (c ∷ join_with_byte c (y ∷ more)))

pub all_size : (bytes : List ℕ) → total_size (lines_in bytes) ≡ length bytes
unfolding lines_in
all_size bytes = joined_size 10 (slice_split (λ b. b == 10) bytes) ∙ ap length (join_with_byte-slice_split 10 bytes)

sizes_fit : (nodes : ℕ) (b : Before) (n at : ℕ) (rows : List RawLine) (ls : List Line) → at ≤ 1048576 → SpellsFrom nodes b n at rows ls → at + total_size rows ≤ 1048576
sizes_fit nodes b n at [] [] low h = omega arith
sizes_fit nodes b n at [] (l ∷ ls) low h = absurd h
sizes_fit nodes b n at (r ∷ rs) [] low h = absurd h
sizes_fit nodes b n at (r ∷ rs) (l ∷ ls) low h = omega (arith, sizes_fit nodes h.2 (n + 1) (at + r.size) rs ls h.0 h.4)

-- a script has at most 1,048,576 bytes
pub script_short : (nodes : ℕ) (bytes : List ℕ) (ls : List Line) → IsScript nodes bytes ls → length bytes ≤ 1048576
script_short nodes bytes ls h = omega (arith, sizes_fit nodes nothing_yet 1 0 (lines_in bytes) ls (omega arith) h, all_size bytes)

pub is_short : (nodes : ℕ) (bytes : List ℕ) (r : Result (List Line) ParseError) → ReadsScript r (script_of nodes bytes) → OnOk r (length bytes ≤ 1048576)
is_short nodes bytes (Ok s) e = script_short nodes bytes s (script_takes nodes bytes s e)
is_short nodes bytes (Err x) e = tt
