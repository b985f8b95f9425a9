-- What the lines of a made script ask.
use Rattle.std.proofs.Common.{◌≡◌, ◌≢◌, ◌+◌, ◌/◌, ◌%◌, ◌==◌, ℕ, zero, suc, pos, negsuc, Bool, true, false, cond, List, [], ◌∷◌, ◌++◌, refl, sym, ap, ◌∙◌, arith}
use Rattle.std.specs.Prelude.{◌≤ℤ◌, All, count_by}
use Rattle.std.specs.List.{flat_map, range_with_len, sum_by}
use Rattle.std.specs.Option.{option_to_list}
use Rattle.std.proofs.lemmas.Int.{ints}
use Rattle.std.proofs.lemmas.Bool.Decides.{nat_tests}
use Rattle.std.proofs.lemmas.List.Elements.{All-nil, All-cons, All-append, All-head, All-tail}
use Rattle.std.proofs.lemmas.List.Sums.{sum_by-append, sum_by-cons}
use Rattle.table_core.specs.declared.command.Command.TheVariants.{Put, Del, Cas, Add}
use Rattle.script_text.specs.declared.line.Line.{Line}
use Rattle.script_text.specs.declared.line.Line.TheVariants as line
use Rattle.script_text.specs.declared.line.Admin.TheVariants.{Extend, Alive, Trim, Retire}
use Rattle.script_text.specs.declared.line.Ask.TheVariants.{Log, Look}
use Rattle.script_text.specs.declared.asks.NamedLine.{NamedLine}
use Rattle.script_text.specs.Lines.{named_after, lines_after, lines_of}
use Rattle.made_script.specs.Generator.{node_at, key_at, amount_at}
use Rattle.made_script.specs.Made.{add_line, lines_before, lines_behind, lines_around, lines_at, made_lines, amounts}
use Rattle.made_script.specs.Asked.{logs_something, extends, added, AddsOrExtends}
use Rattle.made_script.proofs.Ranges.{sum_by-range-suc, sum_by-same, sum_by-flat_map}

-- ---- sums

-- a sum over what lines ask is a sum over the lines
sum-lines_after : (f : NamedLine → ℕ) (w : Line → ℕ) → ((before : List Line) (l : Line) → sum_by f (option_to_list (named_after before l)) ≡ w l)
    → (before ls : List Line) → sum_by f (lines_after before ls) ≡ sum_by w ls
sum-lines_after f w h before [] = refl
sum-lines_after f w h before (l ∷ ls) =
    sum_by-append f (option_to_list (named_after before l)) (lines_after (before ++ l ∷ []) ls)
    ∙ rw (h before l, sum-lines_after f w h (before ++ l ∷ []) ls) (sym (sum_by-cons w l ls))

-- a sum over made lines is a sum over their commands
sum-made : (w : Line → ℕ) (g : ℕ → ℕ) (seed count nodes : ℕ) → ((i : ℕ) → sum_by w (lines_at seed nodes i) ≡ g i)
    → sum_by w (made_lines seed count nodes) ≡ sum_by g (range_with_len 1 count)
unfolding made_lines
sum-made w g seed count nodes h =
    sum_by-flat_map w (lines_at seed nodes) (range_with_len 1 count) ∙ sum_by-same (λ i. sum_by w (lines_at seed nodes i)) g (range_with_len 1 count) h

-- where the lines around a command count for nothing
command-alone : (w : Line → ℕ) (i : ℕ) (command : Line) → w (line.Admin 1 Extend) ≡ 0 → w line.Barrier ≡ 0 → sum_by w (lines_around i command) ≡ w command
command-alone w i command before behind = go (i % 100 == 51) (i % 100 == 0)
  where
    go : (t u : Bool) → sum_by w (cond t (line.Admin 1 Extend ∷ []) [] ++ command ∷ cond u (line.Barrier ∷ []) []) ≡ w command
    go true true = omega (arith, before, behind)
    go true false = omega (arith, before)
    go false true = omega (arith, behind)
    go false false = omega arith

-- where the line before it alone counts
before-alone : (w : Line → ℕ) (i : ℕ) (command : Line) → w (line.Admin 1 Extend) ≡ 1 → w command ≡ 0 → w line.Barrier ≡ 0
    → sum_by w (lines_around i command) ≡ cond (i % 100 == 51) 1 0
before-alone w i command before at behind = go (i % 100 == 51) (i % 100 == 0)
  where
    go : (t u : Bool) → sum_by w (cond t (line.Admin 1 Extend ∷ []) [] ++ command ∷ cond u (line.Barrier ∷ []) []) ≡ cond t 1 0
    go true true = omega (arith, before, at, behind)
    go true false = omega (arith, before, at)
    go false true = omega (arith, at, behind)
    go false false = omega (arith, at)

-- ---- logged lines

abbrev logged_in : Line → ℕ
logged_in (line.Session n s (Log command)) = 1
logged_in _ = 0

named-logged : (before : List Line) (l : Line) → sum_by (λ x. cond (logs_something x) 1 0) (option_to_list (named_after before l)) ≡ logged_in l
named-logged before line.Blank = refl
named-logged before line.Barrier = refl
named-logged before (line.Admin n a) = refl
named-logged before (line.Session n s (Log command)) = refl
named-logged before (line.Session n s (Look query)) = refl

sum-ones : (count : ℕ) → sum_by (λ i. 1) (range_with_len 1 count) ≡ count
sum-ones zero = refl
sum-ones (suc n) = omega (arith, sum_by-range-suc (λ i. 1) n, sum-ones n)

pub count-logged : (seed count nodes : ℕ) → count_by logs_something (lines_of (made_lines seed count nodes)) ≡ count
count-logged seed count nodes =
    sum-lines_after (λ x. cond (logs_something x) 1 0) logged_in named-logged [] (made_lines seed count nodes)
    ∙ sum-made logged_in (λ i. 1) seed count nodes (λ i. command-alone logged_in i (add_line (node_at nodes i) (key_at seed i) (amount_at seed i)) refl refl)
    ∙ sum-ones count

-- ---- lines that extend the chain

abbrev extends_in : Line → ℕ
extends_in (line.Admin n Extend) = 1
extends_in _ = 0

named-extends : (before : List Line) (l : Line) → sum_by (λ x. cond (extends x) 1 0) (option_to_list (named_after before l)) ≡ extends_in l
named-extends before line.Blank = refl
named-extends before line.Barrier = refl
named-extends before (line.Admin n Extend) = refl
named-extends before (line.Admin n Alive) = refl
named-extends before (line.Admin n Trim) = refl
named-extends before (line.Admin n Retire) = refl
named-extends before (line.Session n s (Log command)) = refl
named-extends before (line.Session n s (Look query)) = refl

pub one-more-hundred : (n k : ℕ) → k ≡ n + 1 → (n + 49) / 100 + cond (k % 100 == 51) 1 0 ≡ (k + 49) / 100
one-more-hundred n k next = go (k % 100 == 51) refl
  where
    go : (t : Bool) → (k % 100 == 51) ≡ t → (n + 49) / 100 + cond t 1 0 ≡ (k + 49) / 100
    go true is = let h : k % 100 ≡ 51 = grind (arith, nat_tests) in omega (arith, next)
    go false is = let h : k % 100 ≢ 51 = λ e. grind (arith, nat_tests) in omega (arith, next)

sum-hundreds : (count : ℕ) → sum_by (λ i. cond (i % 100 == 51) 1 0) (range_with_len 1 count) ≡ (count + 49) / 100
sum-hundreds zero = refl
sum-hundreds (suc n) =
    sum_by-range-suc (λ i. cond (i % 100 == 51) 1 0) n
    ∙ ap (λ (k : ℕ). k + cond (suc n % 100 == 51) 1 0) (sum-hundreds n)
    ∙ one-more-hundred n (suc n) (omega arith)

pub count-extends : (seed count nodes : ℕ) → count_by extends (lines_of (made_lines seed count nodes)) ≡ (count + 49) / 100
count-extends seed count nodes =
    sum-lines_after (λ x. cond (extends x) 1 0) extends_in named-extends [] (made_lines seed count nodes)
    ∙ sum-made extends_in (λ i. cond (i % 100 == 51) 1 0) seed count nodes
    (λ i. before-alone extends_in i (add_line (node_at nodes i) (key_at seed i) (amount_at seed i)) refl refl refl)
    ∙ sum-hundreds count

-- ---- amounts

abbrev amount_in : Line → ℕ
amount_in (line.Session n s (Log (Add key (pos amount)))) = amount
amount_in _ = 0

named-added : (before : List Line) (l : Line) → sum_by added (option_to_list (named_after before l)) ≡ amount_in l
named-added before line.Blank = refl
named-added before line.Barrier = refl
named-added before (line.Admin n Extend) = refl
named-added before (line.Admin n Alive) = refl
named-added before (line.Admin n Trim) = refl
named-added before (line.Admin n Retire) = refl
named-added before (line.Session n s (Log (Put key value))) = refl
named-added before (line.Session n s (Log (Del key))) = refl
named-added before (line.Session n s (Log (Cas key old new))) = refl
named-added before (line.Session n s (Log (Add key (pos amount)))) = omega arith
named-added before (line.Session n s (Log (Add key (negsuc amount)))) = refl
named-added before (line.Session n s (Look query)) = refl

pub sum-added : (seed count nodes : ℕ) → sum_by added (lines_of (made_lines seed count nodes)) ≡ amounts seed count
unfolding amounts
sum-added seed count nodes =
    sum-lines_after added amount_in named-added [] (made_lines seed count nodes)
    ∙ sum-made amount_in (amount_at seed) seed count nodes (λ i. command-alone amount_in i (add_line (node_at nodes i) (key_at seed i) (amount_at seed i)) refl refl)

-- ---- nothing else

abbrev AddsIn : Line → Type 0
AddsIn (line.Session n s (Log (Add key amount))) = (pos 0 ≤ℤ amount) × (amount ≤ℤ pos 99)
AddsIn (line.Session n s ask) = ⊥
AddsIn (line.Admin n Alive) = ⊥
AddsIn (line.Admin n Trim) = ⊥
AddsIn (line.Admin n Retire) = ⊥
AddsIn _ = Unit {0}

abbrev NamedAdds : NamedLine → Type 0
NamedAdds l = AddsOrExtends l.asks

named-adds : (before : List Line) (l : Line) → AddsIn l → All NamedAdds (option_to_list (named_after before l))
named-adds before line.Blank h = All-nil NamedAdds
named-adds before line.Barrier h = All-nil NamedAdds
named-adds before (line.Admin n Extend) h = All-cons NamedAdds _ [] tt (All-nil NamedAdds)
named-adds before (line.Admin n Alive) h = absurd h
named-adds before (line.Admin n Trim) h = absurd h
named-adds before (line.Admin n Retire) h = absurd h
named-adds before (line.Session n s (Log (Put key value))) h = absurd h
named-adds before (line.Session n s (Log (Del key))) h = absurd h
named-adds before (line.Session n s (Log (Cas key old new))) h = absurd h
named-adds before (line.Session n s (Log (Add key amount))) h = All-cons NamedAdds _ [] h (All-nil NamedAdds)
named-adds before (line.Session n s (Look query)) h = absurd h

all-lines_after : (before ls : List Line) → All AddsIn ls → All NamedAdds (lines_after before ls)
all-lines_after before [] h = All-nil NamedAdds
all-lines_after before (l ∷ ls) h =
    All-append NamedAdds (option_to_list (named_after before l)) (lines_after (before ++ l ∷ []) ls)
    (named-adds before l (All-head AddsIn l ls h)) (all-lines_after (before ++ l ∷ []) ls (All-tail AddsIn l ls h))

pub all-around : (P : Line → Type 0) (i : ℕ) (command : Line) → P (line.Admin 1 Extend) → P command → P line.Barrier → All P (lines_around i command)
all-around P i command before at behind =
    All-append P (lines_before i) (command ∷ lines_behind i) (first (i % 100 == 51)) (All-cons P command (lines_behind i) at (last (i % 100 == 0)))
  where
    first : (t : Bool) → All P (cond t (line.Admin 1 Extend ∷ []) [])
    first true = All-cons P (line.Admin 1 Extend) [] before (All-nil P)
    first false = All-nil P

    last : (t : Bool) → All P (cond t (line.Barrier ∷ []) [])
    last true = All-cons P line.Barrier [] behind (All-nil P)
    last false = All-nil P

pub all-flat_map : {X Y : Type 0} (P : Y → Type 0) (f : X → List Y) (xs : List X) → ((x : X) → All P (f x)) → All P (flat_map f xs)
all-flat_map P f [] h = All-nil P
all-flat_map P f (x ∷ xs) h = All-append P (f x) (flat_map f xs) (h x) (all-flat_map P f xs h)

pub all-made : (seed count nodes : ℕ) → All NamedAdds (lines_of (made_lines seed count nodes))
unfolding made_lines
all-made seed count nodes =
    all-lines_after [] (made_lines seed count nodes)
    (all-flat_map AddsIn (lines_at seed nodes) (range_with_len 1 count)
    (λ i. all-around AddsIn i (add_line (node_at nodes i) (key_at seed i) (amount_at seed i)) tt (adds i) tt))
  where
    adds : (i : ℕ) → (pos 0 ≤ℤ pos (amount_at seed i)) × (pos (amount_at seed i) ≤ℤ pos 99)
    adds i = (omega (arith, ints), omega (arith, ints))
