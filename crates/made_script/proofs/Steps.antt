-- One command after the other.
use Rattle.std.proofs.Common.{append_assoc, ◌≡◌, ◌≤◌, ◌+◌, ◌-◌, ◌/◌, ◌%◌, ◌^◌, ℕ, zero, suc, List, [], ◌∷◌, ◌++◌, sym, ap, ◌∙◌, arith}
use Rattle.std.specs.Fmt.{decimal}
use Rattle.std.specs.Prelude.{Result, Ok, Err, OnOk, cond}
use Rattle.std.specs.Result.{is_ok}
use Rattle.std.proofs.lemmas.List.Concat.{flat_map-append}
use Rattle.made_script.specs.Generator.{next, number_at, node_at}
use Rattle.made_script.specs.Made.{lines_at, lines_around, add_line, line_text, text_of, made_lines, made_text}
use Rattle.made_script.proofs.Ranges.{flat_map-range-suc}

made_lines-suc : (seed i nodes : ℕ) → made_lines seed (suc i) nodes ≡ made_lines seed i nodes ++ lines_at seed nodes (suc i)
unfolding made_lines
made_lines-suc seed i nodes = flat_map-range-suc (lines_at seed nodes) i

made_text-suc : (seed i nodes : ℕ) → made_text seed (suc i) nodes ≡ made_text seed i nodes ++ text_of (lines_at seed nodes (suc i))
unfolding made_text
made_text-suc seed i nodes =
    ap text_of (made_lines-suc seed i nodes) ∙ flat_map-append line_text (made_lines seed i nodes) (lines_at seed nodes (suc i))

-- these are the bytes of the commands before the i-th, and this is the last number of the generator for them
pub record IsBelow (seed nodes i : ℕ) (x : ℕ) (bytes : List ℕ) : Type 0 where
  pub number : x ≡ number_at seed (i - 1)
  pub bytes_are : bytes ≡ made_text seed (i - 1) nodes

pub below-first : (seed nodes x : ℕ) (bytes : List ℕ) → x ≡ seed % (2 ^ 31) → bytes ≡ [] → IsBelow seed nodes 1 x bytes
unfolding number_at made_text made_lines
below-first seed nodes x bytes is none = record { number = is; bytes_are = none }

pub below-next : (seed nodes i x y : ℕ) (bytes more : List ℕ) → 1 ≤ i → IsBelow seed nodes i x bytes → y ≡ next x
    → more ≡ bytes ++ text_of (lines_around i (add_line (node_at nodes i) (y / 65536 % 16) (y / 65536 % 100)))
    → IsBelow seed nodes (i + 1) y more
unfolding number_at
below-next seed nodes zero x y bytes more some below is grown = absurd (omega arith)
below-next seed nodes (suc i) x y bytes more some below is grown =
    let j : (suc i - 1) ≡ i = omega arith in
    let k : (suc i + 1 - 1) ≡ suc i = omega arith in
    let drawn : y ≡ number_at seed (suc i) = is ∙ ap next (below.number ∙ ap (number_at seed) j) in
    let made : more ≡ made_text seed (suc i) nodes =
    grown
    ∙ ap (λ (n : ℕ). bytes ++ text_of (lines_around (suc i) (add_line (node_at nodes (suc i)) (n / 65536 % 16) (n / 65536 % 100)))) drawn
    ∙ ap (λ (b : List ℕ). b ++ text_of (lines_at seed nodes (suc i))) (below.bytes_are ∙ ap (λ (n : ℕ). made_text seed n nodes) j)
    ∙ sym (made_text-suc seed i nodes) in
    record {
      number = drawn ∙ ap (number_at seed) (sym k);
      bytes_are = made ∙ ap (λ (n : ℕ). made_text seed n nodes) (sym k);
    }

pub below-last : (seed nodes count i x : ℕ) (bytes : List ℕ) → i ≤ count + 1 → count + 1 ≤ i → IsBelow seed nodes i x bytes → bytes ≡ made_text seed count nodes
below-last seed nodes count i x bytes most least below =
    let j : i - 1 ≡ count = omega arith in
    below.bytes_are ∙ ap (λ (n : ℕ). made_text seed n nodes) j

-- the text of a command, put in parts
pub line_put : (node key amount : ℕ) (a b c d e f g : List ℕ)
    → b ≡ a ++ 111 ∷ 110 ∷ 32 ∷ 110 ∷ (48 + node) ∷ 32 ∷ 115 ∷ (48 + node) ∷ [] → c ≡ b ++ 32 ∷ 97 ∷ 100 ∷ 100 ∷ 32 ∷ 107 ∷ []
    → d ≡ c ++ decimal key → e ≡ d ++ 32 ∷ [] → f ≡ e ++ decimal amount → g ≡ f ++ 10 ∷ []
    → g ≡ a ++ line_text (add_line node key amount)
line_put node key amount a b c d e f g head add keyed space counted ended = rw (ended, counted, space, keyed, add, head) (simp append_assoc)

-- what a call left that put bytes or left them as they were
pub put-ok : {T E : Type 0} (r : Result T E) (was more now : List ℕ) → now ≡ cond (is_ok r) more was → OnOk r (now ≡ more)
put-ok (Ok x) was more now is = is
put-ok (Err x) was more now is = tt
