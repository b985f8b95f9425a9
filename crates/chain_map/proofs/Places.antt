-- Looking for the segment that holds a position.
use Rattle.std.proofs.Common.{◌≡◌, ℕ, suc, ◌+◌, ◌<◌, ◌≤◌, true, List, [], ◌∷◌, length, get_or, drop, Option, sym, ap, subst, ◌∙◌, arith, drop-cons}
use Rattle.std.specs.Prelude.{IfSome}
use Rattle.std.proofs.lemmas.Bool.{leb-true}
use Rattle.delos_types.specs.declared.chain.Segment.{Segment}
use Rattle.delos_types.specs.declared.chain.Chain.{Chain}
use Rattle.chain_map.specs.Chain.{no_segment, first_of_segments, is_linked, is_chain}
use Rattle.chain_map.proofs.Links.{both_hold, linked_parts, linked_last}

-- the position lies in these segments
pub record Covers (pos : ℕ) (ss : List Segment) : Type 0 where
  pub linked : is_linked ss ≡ true
  pub start : (first_of_segments ss).start ≤ pos

pub covers_all : (chain : Chain) (pos : ℕ) → is_chain chain ≡ true → chain.trim ≤ pos → Covers pos chain.segments
covers_all chain pos e le = let parts = both_hold (is_linked chain.segments) _ e in record { linked = parts.0; start = omega (arith, leb-true _ _ parts.1, le) }

pub covers_nothing : (pos : ℕ) → Covers pos [] → ⊥
covers_nothing pos c = let e = c.linked in absurd cc

after_end : (pos start : ℕ) → (pos < start → ⊥) → start ≤ pos
after_end pos start never = omega (arith, never)

covers_rest : (pos : ℕ) (s : Segment) (ss : List Segment) → Covers pos (s ∷ ss) → (IfSome s.end (λ end. pos < end) → ⊥) → Covers pos ss
covers_rest pos s [] c past = absurd (past (subst (λ (o : Option ℕ). IfSome o (λ end. pos < end)) (sym (linked_last s c.linked).1) tt))
covers_rest pos s (t ∷ ts) c past =
    let parts = linked_parts s t ts c.linked in
    record { linked = parts.1; start = after_end pos t.start (λ lt. past (subst (λ (o : Option ℕ). IfSome o (λ end. pos < end)) (sym parts.0.closed) lt)) }

split_at : (ss : List Segment) (i : ℕ) → i < length ss → drop i ss ≡ get_or ss i no_segment ∷ drop (i + 1) ss
split_at ss i lt =
    let next : suc i ≡ i + 1 = omega arith in
    drop-cons ss i no_segment lt ∙ ap (λ (k : ℕ). get_or ss i no_segment ∷ drop k ss) next

pub covers_next : (pos : ℕ) (ss : List Segment) (i : ℕ) → i < length ss → (IfSome (get_or ss i no_segment).end (λ end. pos < end) → ⊥) → Covers pos (drop i ss) → Covers pos (drop (i + 1) ss)
covers_next pos ss i lt past c = covers_rest pos (get_or ss i no_segment) (drop (i + 1) ss) (subst (λ (rest : List Segment). Covers pos rest) (split_at ss i lt) c) past
