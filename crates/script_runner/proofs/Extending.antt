-- Lines of a made script that extend the chain are the first node's.
use Rattle.std.proofs.Common.{◌≡◌, refl, ◌++◌, ℕ, true, false, List, [], ◌∷◌}
use Rattle.std.specs.Prelude.{All}
use Rattle.std.specs.List.{range_with_len}
use Rattle.std.specs.Option.{option_to_list}
use Rattle.std.proofs.lemmas.Bool.{both_ways}
use Rattle.std.proofs.lemmas.List.Elements.{All-nil, All-cons, All-append, All-head, All-tail}
use Rattle.script_text.specs.declared.line.Line.{Line}
use Rattle.script_text.specs.declared.line.Line.TheVariants as line
use Rattle.script_text.specs.declared.line.Admin.TheVariants.{Extend, Alive, Trim, Retire}
use Rattle.script_text.specs.declared.line.Ask.TheVariants.{Log, Look}
use Rattle.script_text.specs.declared.asks.NamedLine.{NamedLine}
use Rattle.script_text.specs.Lines.{named_after, lines_after, lines_of}
use Rattle.made_script.specs.Generator.{node_at, key_at, amount_at}
use Rattle.made_script.specs.Made.{add_line, lines_at, made_lines}
use Rattle.made_script.specs.Asked.{extends}
use Rattle.made_script.proofs.Asking.{all-around, all-flat_map}

abbrev ExtendsFirst : Line → Type 0
ExtendsFirst (line.Admin n Extend) = n ≡ 1
ExtendsFirst l = Unit {0}

-- if it extends the chain, it is the first node's
abbrev pub IsOfFirst : NamedLine → Type 0
IsOfFirst l = extends l ≡ true → l.node ≡ 1

named-first : (before : List Line) (l : Line) → ExtendsFirst l → All IsOfFirst (option_to_list (named_after before l))
named-first before line.Blank h = All-nil IsOfFirst
named-first before line.Barrier h = All-nil IsOfFirst
named-first before (line.Admin n Extend) h = All-cons IsOfFirst _ [] (λ e. h) (All-nil IsOfFirst)
named-first before (line.Admin n Alive) h = All-cons IsOfFirst _ [] (λ e. absurd (both_ways false refl e)) (All-nil IsOfFirst)
named-first before (line.Admin n Trim) h = All-cons IsOfFirst _ [] (λ e. absurd (both_ways false refl e)) (All-nil IsOfFirst)
named-first before (line.Admin n Retire) h = All-cons IsOfFirst _ [] (λ e. absurd (both_ways false refl e)) (All-nil IsOfFirst)
named-first before (line.Session n s (Log command)) h = All-cons IsOfFirst _ [] (λ e. absurd (both_ways false refl e)) (All-nil IsOfFirst)
named-first before (line.Session n s (Look query)) h = All-cons IsOfFirst _ [] (λ e. absurd (both_ways false refl e)) (All-nil IsOfFirst)

first-after : (before ls : List Line) → All ExtendsFirst ls → All IsOfFirst (lines_after before ls)
first-after before [] h = All-nil IsOfFirst
first-after before (l ∷ ls) h =
    All-append IsOfFirst (option_to_list (named_after before l)) (lines_after (before ++ l ∷ []) ls)
    (named-first before l (All-head ExtendsFirst l ls h)) (first-after (before ++ l ∷ []) ls (All-tail ExtendsFirst l ls h))

pub all-first : (seed count nodes : ℕ) → All IsOfFirst (lines_of (made_lines seed count nodes))
unfolding made_lines
all-first seed count nodes =
    first-after [] (made_lines seed count nodes)
    (all-flat_map ExtendsFirst (lines_at seed nodes) (range_with_len 1 count)
    (λ i. all-around ExtendsFirst i (add_line (node_at nodes i) (key_at seed i) (amount_at seed i)) refl tt tt))
