-- Segments that are read are spelled so, and what is spelled so is read again.
use Rattle.std.proofs.Common.{◌≡◌, ℕ, zero, suc, ◌+◌, ◌<◌, ◌≤◌, List, [], ◌∷◌, ◌++◌, length, Option, Some, None, Ok, refl, sym, ap, subst, ◌∙◌, append_assoc, arith}
use Rattle.std.specs.List.{flat_map}
use Rattle.std.proofs.lemmas.List.{append-nil}
use Rattle.std.proofs.lemmas.List.Concat.{flat_map-cons}
use Rattle.delos_types.specs.Numbers.{IsBytes, u32_bytes, u64_bytes}
use Rattle.delos_types.specs.Fields.{◌>>=◌}
use Rattle.delos_types.specs.declared.chain.Segment.{Segment}
use Rattle.delos_types.proofs.FieldLaws.{bind_ok, ok_is, Takes, Takes-then}
use Rattle.chain_map.specs.Format.{segment_bytes, HasPositions}
use Rattle.chain_map.specs.Reading.{id_field, start_field, flag_field, end_field, closed_field, open_field, segments_from}
use Rattle.chain_map.proofs.ChainFieldLaws.{MayStart, id_takes, id_again, start_takes, start_again, flag_takes, flag_again, end_takes, end_again}

-- the segment may stand there, after ids below `least` and the former end
pub record MayStand (trim : ℕ) (former : Option ℕ) (least : ℕ) (s : Segment) : Type 0 where
  pub rises : least ≤ s.id
  pub small : s.id < 64
  pub start : MayStart trim former s.start
  pub positions : HasPositions s

pub record IsClosed (s : Segment) (end : ℕ) : Type 0 where
  pub at : s.end ≡ Some end
  pub above : s.start ≤ end

closed_bytes : (id start end : ℕ) (rest : List ℕ) → (u32_bytes id ++ (u64_bytes start ++ (1 ∷ u64_bytes end))) ++ rest ≡ u32_bytes id ++ (u64_bytes start ++ (1 ∷ (u64_bytes end ++ rest)))
closed_bytes id start end rest = append_assoc (u32_bytes id) (u64_bytes start ++ (1 ∷ u64_bytes end)) rest ∙ ap (λ (x : List ℕ). u32_bytes id ++ x) (append_assoc (u64_bytes start) (1 ∷ u64_bytes end) rest)

open_bytes : (id start : ℕ) (rest : List ℕ) → (u32_bytes id ++ (u64_bytes start ++ (0 ∷ []))) ++ rest ≡ u32_bytes id ++ (u64_bytes start ++ (0 ∷ rest))
open_bytes id start rest = append_assoc (u32_bytes id) (u64_bytes start ++ (0 ∷ [])) rest ∙ ap (λ (x : List ℕ). u32_bytes id ++ x) (append_assoc (u64_bytes start) (0 ∷ []) rest)

pub record TakesClosed (trim : ℕ) (former : Option ℕ) (least : ℕ) (bytes : List ℕ) (x : Segment × List ℕ) : Type 0 where
  pub taken : Takes bytes (segment_bytes x.0) x.1
  pub stands : MayStand trim former least x.0
  pub end : ℕ
  pub closed : IsClosed x.0 end

pub closed_takes : (size trim : ℕ) (former : Option ℕ) (least : ℕ) (bytes : List ℕ) (x : Segment × List ℕ) → IsBytes bytes → closed_field size trim former least bytes ≡ Ok x → TakesClosed trim former least bytes x
unfolding closed_field
closed_takes size trim former least bytes x fits e =
    let a = bind_ok (id_field size least bytes) (λ id. start_field size trim former id.1 >>= λ start. flag_field size 1 start.1 >>= λ flag. end_field size start.0 flag.1 >>= λ end. Ok (record { id = id.0; start = start.0; end = Some end.0 }, end.1)) x e in
    let b = bind_ok (start_field size trim former a.0.1) (λ start. flag_field size 1 start.1 >>= λ flag. end_field size start.0 flag.1 >>= λ end. Ok (record { id = a.0.0; start = start.0; end = Some end.0 }, end.1)) x a.2 in
    let c = bind_ok (flag_field size 1 b.0.1) (λ flag. end_field size b.0.0 flag.1 >>= λ end. Ok (record { id = a.0.0; start = b.0.0; end = Some end.0 }, end.1)) x b.2 in
    let d = bind_ok (end_field size b.0.0 c.0.1) (λ end. Ok (record { id = a.0.0; start = b.0.0; end = Some end.0 }, end.1)) x c.2 in
    let id = id_takes size least bytes a.0.0 a.0.1 fits a.1 in
    let start = start_takes size trim former a.0.1 b.0.0 b.0.1 id.0.rest_fits b.1 in
    let flag = flag_takes size 1 b.0.1 c.0.0 c.0.1 start.0.rest_fits c.1 in
    let end = end_takes size b.0.0 c.0.1 d.0.0 d.0.1 flag.rest_fits d.1 in
    let flagged = Takes-then b.0.1 (1 ∷ []) c.0.1 (u64_bytes d.0.0) d.0.1 flag end.0 in
    let started = Takes-then a.0.1 (u64_bytes b.0.0) b.0.1 (1 ∷ u64_bytes d.0.0) d.0.1 start.0 flagged in
    let whole = Takes-then bytes (u32_bytes a.0.0) a.0.1 (u64_bytes b.0.0 ++ (1 ∷ u64_bytes d.0.0)) d.0.1 id.0 started in
    let made : Segment × List ℕ = (record { id = a.0.0; start = b.0.0; end = Some d.0.0 }, d.0.1) in
    subst (λ (y : Segment × List ℕ). TakesClosed trim former least bytes y) {x = made} (ok_is made x d.2)
    (record { taken = whole; stands = record { rises = id.1; small = id.2; start = start.1; positions = (start.2, end.2) }; end = d.0.0; closed = record { at = refl {a = Some d.0.0}; above = end.1 } })

pub record TakesOpen (trim : ℕ) (former : Option ℕ) (least : ℕ) (bytes : List ℕ) (x : Segment × List ℕ) : Type 0 where
  pub taken : Takes bytes (segment_bytes x.0) x.1
  pub stands : MayStand trim former least x.0
  pub none : x.0.end ≡ None

pub open_takes : (size trim : ℕ) (former : Option ℕ) (least : ℕ) (bytes : List ℕ) (x : Segment × List ℕ) → IsBytes bytes → open_field size trim former least bytes ≡ Ok x → TakesOpen trim former least bytes x
unfolding open_field
open_takes size trim former least bytes x fits e =
    let a = bind_ok (id_field size least bytes) (λ id. start_field size trim former id.1 >>= λ start. flag_field size 0 start.1 >>= λ flag. Ok (record { id = id.0; start = start.0; end = None }, flag.1)) x e in
    let b = bind_ok (start_field size trim former a.0.1) (λ start. flag_field size 0 start.1 >>= λ flag. Ok (record { id = a.0.0; start = start.0; end = None }, flag.1)) x a.2 in
    let c = bind_ok (flag_field size 0 b.0.1) (λ flag. Ok (record { id = a.0.0; start = b.0.0; end = None }, flag.1)) x b.2 in
    let id = id_takes size least bytes a.0.0 a.0.1 fits a.1 in
    let start = start_takes size trim former a.0.1 b.0.0 b.0.1 id.0.rest_fits b.1 in
    let flag = flag_takes size 0 b.0.1 c.0.0 c.0.1 start.0.rest_fits c.1 in
    let started = Takes-then a.0.1 (u64_bytes b.0.0) b.0.1 (0 ∷ []) c.0.1 start.0 flag in
    let whole = Takes-then bytes (u32_bytes a.0.0) a.0.1 (u64_bytes b.0.0 ++ (0 ∷ [])) c.0.1 id.0 started in
    let made : Segment × List ℕ = (record { id = a.0.0; start = b.0.0; end = None }, c.0.1) in
    subst (λ (y : Segment × List ℕ). TakesOpen trim former least bytes y) {x = made} (ok_is made x c.2)
    (record { taken = whole; stands = record { rises = id.1; small = id.2; start = start.1; positions = (start.2, tt) }; none = refl })

-- the same, for a segment whose parts are named
closed_again_of : (size trim : ℕ) (former : Option ℕ) (least id start end : ℕ) (rest : List ℕ) → MayStand trim former least (record { id = id; start = start; end = Some end }) → start ≤ end
    → closed_field size trim former least (segment_bytes (record { id = id; start = start; end = Some end }) ++ rest) ≡ Ok (record { id = id; start = start; end = Some end }, rest)
unfolding closed_field
closed_again_of size trim former least id start end rest s le =
    ap (closed_field size trim former least) (closed_bytes id start end rest)
    ∙ rw (id_again size least id (u64_bytes start ++ (1 ∷ (u64_bytes end ++ rest))) s.rises s.small, start_again size trim former start (1 ∷ (u64_bytes end ++ rest)) s.start s.positions.0, flag_again size 1 (u64_bytes end ++ rest), end_again size start end rest le s.positions.1) refl

pub closed_again : (size trim : ℕ) (former : Option ℕ) (least : ℕ) (s : Segment) (end : ℕ) (rest : List ℕ) → MayStand trim former least s → IsClosed s end → closed_field size trim former least (segment_bytes s ++ rest) ≡ Ok (s, rest)
closed_again size trim former least s end rest stands closed =
    let is : s ≡ record s { end = Some end } = ap (λ (o : Option ℕ). record s { end = o }) closed.at in
    subst (λ (r : Segment). closed_field size trim former least (segment_bytes r ++ rest) ≡ Ok (r, rest)) (sym is)
    (closed_again_of size trim former least s.id s.start end rest (subst (λ (r : Segment). MayStand trim former least r) is stands) closed.above)

open_again_of : (size trim : ℕ) (former : Option ℕ) (least id start : ℕ) (rest : List ℕ) → MayStand trim former least (record { id = id; start = start; end = None })
    → open_field size trim former least (segment_bytes (record { id = id; start = start; end = None }) ++ rest) ≡ Ok (record { id = id; start = start; end = None }, rest)
unfolding open_field
open_again_of size trim former least id start rest s =
    ap (open_field size trim former least) (open_bytes id start rest)
    ∙ rw (id_again size least id (u64_bytes start ++ (0 ∷ rest)) s.rises s.small, start_again size trim former start (0 ∷ rest) s.start s.positions.0, flag_again size 0 rest) refl

pub open_again : (size trim : ℕ) (former : Option ℕ) (least : ℕ) (s : Segment) (rest : List ℕ) → MayStand trim former least s → s.end ≡ None → open_field size trim former least (segment_bytes s ++ rest) ≡ Ok (s, rest)
open_again size trim former least s rest stands none =
    let is : s ≡ record s { end = None } = ap (λ (o : Option ℕ). record s { end = o }) none in
    subst (λ (r : Segment). open_field size trim former least (segment_bytes r ++ rest) ≡ Ok (r, rest)) (sym is)
    (open_again_of size trim former least s.id s.start rest (subst (λ (r : Segment). MayStand trim former least r) is stands))

-- ---- lists of segments

-- closed segments that go on in one another, and then an open one
abbrev pub Follow : ℕ → Option ℕ → ℕ → List Segment → Type 0
Follow trim former least [] = ⊥
Follow trim former least (s ∷ []) = MayStand trim former least s × (s.end ≡ None)
Follow trim former least (s ∷ t ∷ ts) = MayStand trim former least s × (end : ℕ) × IsClosed s end × Follow trim s.end (s.id + 1) (t ∷ ts)

follow-cons : (trim : ℕ) (former : Option ℕ) (least : ℕ) (s : Segment) (end : ℕ) (ss : List Segment) → MayStand trim former least s → IsClosed s end → Follow trim s.end (s.id + 1) ss → Follow trim former least (s ∷ ss)
follow-cons trim former least s end [] stands closed follow = absurd follow
follow-cons trim former least s end (t ∷ ts) stands closed follow = (stands, end, closed, follow)

pub record TakesAll (trim : ℕ) (former : Option ℕ) (least closed : ℕ) (bytes : List ℕ) (x : List Segment × List ℕ) : Type 0 where
  pub taken : Takes bytes (flat_map segment_bytes x.0) x.1
  pub count : length x.0 ≡ suc closed
  pub follow : Follow trim former least x.0

pub from_takes : (size trim : ℕ) (former : Option ℕ) (least closed : ℕ) (bytes : List ℕ) (x : List Segment × List ℕ) → IsBytes bytes → segments_from size trim former least closed bytes ≡ Ok x → TakesAll trim former least closed bytes x
unfolding segments_from
from_takes size trim former least zero bytes x fits e =
    let a = bind_ok (open_field size trim former least bytes) (λ last. Ok (last.0 ∷ [], last.1)) x e in
    let last = open_takes size trim former least bytes a.0 fits a.1 in
    let made : List Segment × List ℕ = (a.0.0 ∷ [], a.0.1) in
    let text : Takes bytes (flat_map segment_bytes (a.0.0 ∷ [])) a.0.1 = subst (λ (t : List ℕ). Takes bytes t a.0.1) (sym (flat_map-cons segment_bytes a.0.0 [] ∙ append-nil (segment_bytes a.0.0))) last.taken in
    subst (λ (y : List Segment × List ℕ). TakesAll trim former least 0 bytes y) {x = made} (ok_is made x a.2) (record { taken = text; count = refl; follow = (last.stands, last.none) })
from_takes size trim former least (suc closed) bytes x fits e =
    let a = bind_ok (closed_field size trim former least bytes) (λ first. segments_from size trim first.0.end (first.0.id + 1) closed first.1 >>= λ others. Ok (first.0 ∷ others.0, others.1)) x e in
    let b = bind_ok (segments_from size trim a.0.0.end (a.0.0.id + 1) closed a.0.1) (λ others. Ok (a.0.0 ∷ others.0, others.1)) x a.2 in
    let first = closed_takes size trim former least bytes a.0 fits a.1 in
    let others = from_takes size trim a.0.0.end (a.0.0.id + 1) closed a.0.1 b.0 first.taken.rest_fits b.1 in
    let both = Takes-then bytes (segment_bytes a.0.0) a.0.1 (flat_map segment_bytes b.0.0) b.0.1 first.taken others.taken in
    let made : List Segment × List ℕ = (a.0.0 ∷ b.0.0, b.0.1) in
    let text : Takes bytes (flat_map segment_bytes (a.0.0 ∷ b.0.0)) b.0.1 = subst (λ (t : List ℕ). Takes bytes t b.0.1) (sym (flat_map-cons segment_bytes a.0.0 b.0.0)) both in
    subst (λ (y : List Segment × List ℕ). TakesAll trim former least (suc closed) bytes y) {x = made} (ok_is made x b.2)
    (record { taken = text; count = ap suc others.count; follow = follow-cons trim former least a.0.0 first.end b.0.0 first.stands first.closed others.follow })

pub from_again : (size trim : ℕ) (former : Option ℕ) (least closed : ℕ) (ss : List Segment) (rest : List ℕ) → Follow trim former least ss → length ss ≡ suc closed → segments_from size trim former least closed (flat_map segment_bytes ss ++ rest) ≡ Ok (ss, rest)
unfolding segments_from
from_again size trim former least closed [] rest follow len = absurd follow
from_again size trim former least zero (s ∷ []) rest follow len =
    let text : flat_map segment_bytes (s ∷ []) ++ rest ≡ segment_bytes s ++ rest = ap (λ (t : List ℕ). t ++ rest) (flat_map-cons segment_bytes s [] ∙ append-nil (segment_bytes s)) in
    ap (segments_from size trim former least 0) text ∙ rw (open_again size trim former least s rest follow.0 follow.1) refl
from_again size trim former least (suc closed) (s ∷ []) rest follow len = absurd (omega (arith, len))
from_again size trim former least zero (s ∷ t ∷ ts) rest follow len = absurd (omega (arith, len))
from_again size trim former least (suc closed) (s ∷ t ∷ ts) rest follow len =
    let others : List ℕ = flat_map segment_bytes (t ∷ ts) ++ rest in
    let text : flat_map segment_bytes (s ∷ t ∷ ts) ++ rest ≡ segment_bytes s ++ others = ap (λ (x : List ℕ). x ++ rest) (flat_map-cons segment_bytes s (t ∷ ts)) ∙ append_assoc (segment_bytes s) (flat_map segment_bytes (t ∷ ts)) rest in
    ap (segments_from size trim former least (suc closed)) text
    ∙ rw (closed_again size trim former least s follow.1 others follow.0 follow.2, from_again size trim s.end (s.id + 1) closed (t ∷ ts) rest follow.3 (omega (arith, len))) refl
