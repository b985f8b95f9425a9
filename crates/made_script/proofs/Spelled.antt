-- A made script is spelled by its text.
use Rattle.std.proofs.Common.{◌≡◌, ◌≢◌, ◌≤◌, ◌<◌, ◌+◌, ◌-◌, ◌*◌, ◌/◌, ◌%◌, ◌==◌, ◌&&◌, not, ℕ, zero, suc, pos, Bool, true, false, cond, List, [], ◌∷◌, ◌++◌, length, refl, sym, ap, subst, ◌∙◌, arith, append_assoc, length-append}
use Rattle.std.specs.Prelude.{All, map, min}
use Rattle.std.specs.List.{flat_map, range_with_len, slice_split, list_all}
use Rattle.std.specs.Fmt.{decimal}
use Rattle.std.proofs.lemmas.Int.{ints}
use Rattle.std.proofs.lemmas.Bool.Decides.{nat_tests}
use Rattle.std.proofs.lemmas.Fmt.{length-decimal-le}
use Rattle.std.proofs.lemmas.List.Elements.{All-head, All-tail, All-weaker}
use Rattle.std.proofs.lemmas.List.Folds.{list_all-append}
use Rattle.std.proofs.lemmas.List.Splits.{slice_split_at, length-slice_split}
use Rattle.std.proofs.lemmas.List.Sums.{AllPass-from_list_all}
use Rattle.std.proofs.Math.Nat.{mod-lt}
use Rattle.script_text.specs.declared.line.Line.{Line}
use Rattle.script_text.specs.declared.line.Line.TheVariants as line
use Rattle.script_text.specs.declared.line.Admin.TheVariants.{Extend}
use Rattle.script_text.specs.Seen.{Before, nothing_yet, is_retired}
use Rattle.script_text.specs.Script.{RawLine, raw_line, raw_lines, lines_in}
use Rattle.script_text.specs.Spelling.{spell, is_print, LineFits, Follows, SpellsFrom, IsScript}
use Rattle.script_text.proofs.Numbers.{number_prints}
use Rattle.made_script.specs.Generator.{node_at, key_at, amount_at}
use Rattle.made_script.specs.Made.{add_line, lines_before, lines_behind, lines_around, lines_at, text_of, made_lines, made_text}
use Rattle.made_script.proofs.Asking.{all-around, all-flat_map, one-more-hundred}
use Rattle.made_script.proofs.Homes.{seen_to, homes_none, belongs}

-- ---- a text is cut into the texts of its lines

-- a line as it is cut out of its text
abbrev row : Line → RawLine
row l = raw_line (spell l) (length (spell l) + 1)

-- its text has no LF
abbrev HasNoEnd : Line → Type 0
HasNoEnd l = All (λ b. (b == 10) ≡ false) (spell l)

more-rows : (x : List ℕ) (ps : List (List ℕ)) → 0 < length ps → raw_lines (x ∷ ps) ≡ raw_line x (length x + 1) ∷ raw_lines ps
more-rows x [] some = absurd (omega arith)
more-rows x (y ∷ more) some = refl

first-row : (x rest : List ℕ) → All (λ b. (b == 10) ≡ false) x → lines_in ((x ++ 10 ∷ []) ++ rest) ≡ raw_line x (length x + 1) ∷ lines_in rest
unfolding lines_in
first-row x rest none =
    ap lines_in (append_assoc x (10 ∷ []) rest)
    ∙ ap raw_lines (slice_split_at (λ b. b == 10) x 10 rest none refl)
    ∙ more-rows x (slice_split (λ b. b == 10) rest) (omega (arith, length-slice_split (λ b. b == 10) rest))

lines_in-text : (ls : List Line) → All HasNoEnd ls → lines_in (text_of ls) ≡ map row ls
unfolding lines_in
lines_in-text [] h = refl
lines_in-text (l ∷ ls) h =
    first-row (spell l) (text_of ls) (All-head HasNoEnd l ls h) ∙ ap (λ (rs : List RawLine). row l ∷ rs) (lines_in-text ls (All-tail HasNoEnd l ls h))

-- ---- the text of a command

-- the byte ends no line
abbrev goes_on : ℕ → Bool
goes_on b = not (b == 10)

print-goes_on : (b : ℕ) → is_print b ≡ true → goes_on b ≡ true
print-goes_on b h = grind (arith, nat_tests)

both : (a b : Bool) → (a && b) ≡ true → (a ≡ true) × (b ≡ true)
both true b e = (refl, e)
both false b e = absurd cc

printed-goes_on : (w : List ℕ) → list_all is_print w ≡ true → list_all goes_on w ≡ true
printed-goes_on [] h = refl
printed-goes_on (b ∷ w) h = let k = both (is_print b) (list_all is_print w) h in rw (print-goes_on b k.0) (printed-goes_on w k.1)

decimal-prints : (n : ℕ) → n < 100 → list_all is_print (decimal n) ≡ true
decimal-prints n few = (number_prints (pos n) (omega (arith, ints))).1

not-end : (b : ℕ) → goes_on b ≡ true → (b == 10) ≡ false
not-end b h = grind (arith, nat_tests)

digit-goes_on : (node : ℕ) → goes_on (48 + node) ≡ true
digit-goes_on node = grind (arith, nat_tests)

command-goes_on : (node key amount : ℕ) → key < 16 → amount < 100 → list_all goes_on (spell (add_line node key amount)) ≡ true
command-goes_on node key amount few small =
    rw (digit-goes_on node, list_all-append goes_on (decimal key) (32 ∷ decimal amount), printed-goes_on (decimal key) (decimal-prints key (omega arith)))
    (printed-goes_on (decimal amount) (decimal-prints amount small))

no-end : (l : Line) → list_all goes_on (spell l) ≡ true → HasNoEnd l
no-end l h = All-weaker (λ b. goes_on b ≡ true) (λ b. (b == 10) ≡ false) not-end (spell l) (AllPass-from_list_all goes_on (spell l) h)

length-command : (node key amount : ℕ) → key < 16 → amount < 100 → length (spell (add_line node key amount)) ≤ 19
length-command node key amount few small =
    omega (
      arith,
      length-append (decimal key) (32 ∷ decimal amount),
      length-decimal-le 2 key (omega arith) (omega arith) (omega arith),
      length-decimal-le 2 amount (omega arith) (omega arith) (omega arith),
    )

command-fits : (nodes node key amount : ℕ) → nodes ≤ 8 → 1 ≤ node → node ≤ nodes → key < 16 → amount < 100 → LineFits nodes (add_line node key amount)
command-fits nodes node key amount most first last few small = (
  record { least = first; most = last },
  record { letters = grind (arith, nat_tests); not_admin = refl },
  (
    record {
      some = omega arith;
      most_bytes = omega (arith, length-decimal-le 2 key (omega arith) (omega arith) (omega arith));
      printed = decimal-prints key (omega arith);
    },
    omega (arith, ints),
  ),
)

-- ---- lines that follow one another

-- these lines, spelled one after the other from here on, are a script's
abbrev SpelledFrom : ℕ → Before → ℕ → ℕ → List Line → Type 0
SpelledFrom nodes b n at ls = SpellsFrom nodes b n at (map row ls) ls

one-line : (nodes : ℕ) (b after : Before) (n at : ℕ) (l : Line) (rest : List Line) → at + (length (spell l) + 1) ≤ 1048576 → n ≤ 20000 → length (spell l) ≤ 512
    → LineFits nodes l → Follows b l after → SpelledFrom nodes after (n + 1) (at + (length (spell l) + 1)) rest → SpelledFrom nodes b n at (l ∷ rest)
one-line nodes b after n at l rest place number short fits follows others =
    (place, number, after, record { spelled = refl; short = short; fits = fits; follows = follows }, others)

before-command : (t : Bool) (nodes : ℕ) (b : Before) (n at : ℕ) (rest : List Line) → is_retired b 1 ≡ false → 1 ≤ nodes → at + 13 ≤ 1048576 → n ≤ 20000
    → ((m to : ℕ) → m ≡ n + cond t 1 0 → to ≤ at + 13 → SpelledFrom nodes b m to rest) → SpelledFrom nodes b n at (cond t (line.Admin 1 Extend ∷ []) [] ++ rest)
before-command true nodes b n at rest there least place number others =
    one-line nodes b b n at (line.Admin 1 Extend) rest place number (omega arith) (record { least = omega arith; most = least }) (there, refl)
    (others (n + 1) (at + 13) refl (omega arith))
before-command false nodes b n at rest there least place number others = others n at (omega arith) (omega arith)

behind-command : (t : Bool) (nodes : ℕ) (b : Before) (n at : ℕ) (rest : List Line) → at + 8 ≤ 1048576 → n ≤ 20000
    → ((m to : ℕ) → m ≡ n + cond t 1 0 → to ≤ at + 8 → SpelledFrom nodes b m to rest) → SpelledFrom nodes b n at (cond t (line.Barrier ∷ []) [] ++ rest)
behind-command true nodes b n at rest place number others =
    one-line nodes b b n at line.Barrier rest place number (omega arith) tt refl (others (n + 1) (at + 8) refl (omega arith))
behind-command false nodes b n at rest place number others = others n at (omega arith) (omega arith)

around-command : (nodes : ℕ) (b after : Before) (i n at : ℕ) (command : Line) (rest : List Line) → is_retired b 1 ≡ false → 1 ≤ nodes → at + 41 ≤ 1048576 → n + 2 ≤ 20000
    → length (spell command) ≤ 19 → LineFits nodes command → Follows b command after
    → ((m to : ℕ) → m ≡ n + cond (i % 100 == 51) 1 0 + 1 + cond (i % 100 == 0) 1 0 → to ≤ at + 41 → SpelledFrom nodes after m to rest)
    → SpelledFrom nodes b n at (lines_around i command ++ rest)
around-command nodes b after i n at command rest there least place number short fits follows others =
    subst (SpelledFrom nodes b n at) (sym (append_assoc (lines_before i) (command ∷ lines_behind i) rest))
    (before-command (i % 100 == 51) nodes b n at (command ∷ (lines_behind i ++ rest)) there least (omega arith) (omega arith)
    (λ k from ek lk.
    one-line nodes b after k from command (lines_behind i ++ rest) (omega arith) (at-most-one (i % 100 == 51) k ek) (omega arith) fits follows
    (behind-command (i % 100 == 0) nodes after (k + 1) (from + (length (spell command) + 1)) rest (omega arith) (one-more (i % 100 == 51) k ek)
    (λ m to em lm. others m to (em ∙ ap (λ (j : ℕ). j + 1 + cond (i % 100 == 0) 1 0) ek) (omega arith)))))
  where
    at-most-one : (t : Bool) (k : ℕ) → k ≡ n + cond t 1 0 → k ≤ 20000
    at-most-one true k is = omega arith
    at-most-one false k is = omega arith

    one-more : (t : Bool) (k : ℕ) → k ≡ n + cond t 1 0 → k + 1 ≤ 20000
    one-more true k is = omega arith
    one-more false k is = omega arith

-- the number of the line with which the lines of the command after the i-th begin
abbrev line_after : ℕ → ℕ
line_after i = i + (i + 49) / 100 + i / 100 + 1

whole-hundred : (n k : ℕ) → k ≡ n + 1 → n / 100 + cond (k % 100 == 0) 1 0 ≡ k / 100
whole-hundred n k next = go (k % 100 == 0) refl
  where
    go : (t : Bool) → (k % 100 == 0) ≡ t → n / 100 + cond t 1 0 ≡ k / 100
    go true is = let h : k % 100 ≡ 0 = grind (arith, nat_tests) in omega (arith, next)
    go false is = let h : k % 100 ≢ 0 = λ e. grind (arith, nat_tests) in omega (arith, next)

line_after-next : (i n m : ℕ) → n ≡ line_after i → m ≡ n + cond ((i + 1) % 100 == 51) 1 0 + 1 + cond ((i + 1) % 100 == 0) 1 0 → m ≡ line_after (i + 1)
line_after-next i n m here there =
    omega (arith, here, there, one-more-hundred i (i + 1) refl, whole-hundred i (i + 1) refl)

spelled-from : (seed nodes count i n at : ℕ) → 1 ≤ nodes → nodes ≤ 8 → i + count ≤ 15000 → n ≡ line_after i → at ≤ 41 * i
    → SpelledFrom nodes (seen_to (min i nodes)) n at (flat_map (lines_at seed nodes) (range_with_len (i + 1) count))
spelled-from seed nodes zero i n at least most few line place = tt
spelled-from seed nodes (suc count) i n at least most few line place =
    let turn : (i + 1 - 1) % nodes < nodes = mod-lt (i + 1 - 1) least in
    let small : key_at seed (i + 1) < 16 = omega arith in
    let cents : amount_at seed (i + 1) < 100 = omega arith in
    around-command nodes (seen_to (min i nodes)) (seen_to (min (i + 1) nodes)) (i + 1) n at
    (add_line (node_at nodes (i + 1)) (key_at seed (i + 1)) (amount_at seed (i + 1)))
    (flat_map (lines_at seed nodes) (range_with_len (i + 1 + 1) count)) refl least (omega arith) (omega arith)
    (length-command (node_at nodes (i + 1)) (key_at seed (i + 1)) (amount_at seed (i + 1)) small cents)
    (command-fits nodes (node_at nodes (i + 1)) (key_at seed (i + 1)) (amount_at seed (i + 1)) most (omega arith) (omega (arith, turn)) small cents)
    (refl, belongs nodes i least most)
    (λ m to em lm. spelled-from seed nodes count (i + 1) m to least most (omega arith) (line_after-next i n m line em) (omega arith))

made-ends : (seed count nodes : ℕ) → All HasNoEnd (made_lines seed count nodes)
unfolding made_lines
made-ends seed count nodes =
    all-flat_map HasNoEnd (lines_at seed nodes) (range_with_len 1 count)
    (λ i. all-around HasNoEnd i (add_line (node_at nodes i) (key_at seed i) (amount_at seed i)) (no-end (line.Admin 1 Extend) refl) (ends i) (no-end line.Barrier refl))
  where
    ends : (i : ℕ) → HasNoEnd (add_line (node_at nodes i) (key_at seed i) (amount_at seed i))
    ends i = no-end (add_line (node_at nodes i) (key_at seed i) (amount_at seed i))
        (command-goes_on (node_at nodes i) (key_at seed i) (amount_at seed i) (omega arith) (omega arith))

-- a made script is one
pub made-script : (seed count nodes : ℕ) → 1 ≤ nodes → nodes ≤ 8 → count ≤ 15000 → IsScript nodes (made_text seed count nodes) (made_lines seed count nodes)
unfolding made_text made_lines
made-script seed count nodes least most few =
    let none : seen_to (min 0 nodes) ≡ nothing_yet =
    ap seen_to (omega arith) ∙ ap (λ homes. let b : Before = record { homes = homes; retired = [] } in b) homes_none in
    let spelled : SpelledFrom nodes (seen_to (min 0 nodes)) 1 0 (made_lines seed count nodes) =
    spelled-from seed nodes count 0 1 0 least most (omega arith) refl (omega arith) in
    let begun : SpelledFrom nodes nothing_yet 1 0 (made_lines seed count nodes) =
    subst (λ b. SpelledFrom nodes b 1 0 (made_lines seed count nodes)) none spelled in
    subst (λ rows. SpellsFrom nodes nothing_yet 1 0 rows (made_lines seed count nodes)) (sym (lines_in-text (made_lines seed count nodes) (made-ends seed count nodes))) begun
