-- What the test of a chain says of its segments.
use Rattle.std.proofs.Common.{◌≡◌, ℕ, ◌+◌, ◌<◌, ◌≤◌, Bool, true, false, ◌&&◌, ltb, leb, eqb, List, [], ◌∷◌, length, Option, Some, None, refl, ap, ◌∙◌, arith}
use Rattle.std.specs.Prelude.{is_none}
use Rattle.std.specs.Option.{option_map_or}
use Rattle.std.proofs.lemmas.Bool.{ltb-true, leb-true, eqb-true}
use Rattle.delos_types.specs.declared.chain.Segment.{Segment}
use Rattle.delos_types.specs.declared.chain.Chain.{Chain}
use Rattle.chain_map.specs.Chain.{first_of_segments, first_start, goes_on, is_linked, is_chain, ends_where}

pub both_hold : (a b : Bool) → (a && b) ≡ true → (a ≡ true) × (b ≡ true)
both_hold true b e = (refl, e)
both_hold false b e = absurd cc

pub closed_where : (test : ℕ → Bool) (o : Option ℕ) → option_map_or test o false ≡ true → (end : ℕ) × (o ≡ Some end) × (test end ≡ true)
closed_where test None e = absurd cc
closed_where test (Some end) e = (end, refl, e)

pub is_open : {A : Type 0} (o : Option A) → is_none o ≡ true → o ≡ None
is_open None e = refl
is_open (Some x) e = absurd cc

-- s is closed where t begins
pub record Joins (s t : Segment) : Type 0 where
  pub rises : s.id < t.id
  pub closed : s.end ≡ Some t.start
  pub above : s.start ≤ t.start

pub joins_where : (s t : Segment) → goes_on s t ≡ true → Joins s t
joins_where s t e =
    let parts = both_hold (ltb s.id t.id) (ends_where (λ end. leb s.start end && eqb end t.start) s) e in
    let closed = closed_where (λ end. leb s.start end && eqb end t.start) s.end parts.1 in
    let tests = both_hold (leb s.start closed.0) (eqb closed.0 t.start) closed.2 in
    let at : closed.0 ≡ t.start = eqb-true _ _ tests.1 in
    record { rises = ltb-true _ _ parts.0; closed = closed.1 ∙ ap (λ (n : ℕ). Some n) at; above = omega (arith, leb-true _ _ tests.0, at) }

-- the test of a chain of two segments or more
pub linked_parts : (s t : Segment) (ts : List Segment) → is_linked (s ∷ t ∷ ts) ≡ true → Joins s t × (is_linked (t ∷ ts) ≡ true)
linked_parts s t ts e = let parts = both_hold (goes_on s t) (is_linked (t ∷ ts)) e in (joins_where s t parts.0, parts.1)

pub linked_last : (s : Segment) → is_linked (s ∷ []) ≡ true → (s.id < 64) × (s.end ≡ None)
linked_last s e = let parts = both_hold (ltb s.id 64) (is_none s.end) e in (ltb-true _ _ parts.0, is_open s.end parts.1)

-- ids rise below 64, so there are 64 segments at most
pub length-linked : (ss : List Segment) → is_linked ss ≡ true → length ss + (first_of_segments ss).id ≤ 64
length-linked [] e = absurd cc
length-linked (s ∷ []) e = omega (arith, (linked_last s e).0)
length-linked (s ∷ t ∷ ts) e = let parts = linked_parts s t ts e in omega (arith, parts.0.rises, length-linked (t ∷ ts) parts.1)

pub length-chain : (chain : Chain) → is_chain chain ≡ true → length chain.segments ≤ 64
length-chain chain e = omega (arith, length-linked chain.segments (both_hold (is_linked chain.segments) (leb (first_start chain) chain.trim) e).0)
