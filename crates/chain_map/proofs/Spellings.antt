-- What is read is spelled so, and what is spelled so is read.
use Rattle.std.proofs.Common.{◌≡◌, ℕ, ◌+◌, ◌-◌, ◌<◌, ◌≤◌, Bool, true, false, ◌&&◌, ltb, leb, eqb, List, [], ◌∷◌, ◌++◌, length, Option, Some, None, Result, Ok, Err, refl, sym, ap, subst, ◌∙◌, arith}
use Rattle.std.specs.Result.{IfOk}
use Rattle.std.specs.Prelude.{is_none}
use Rattle.std.specs.Option.{option_map_or}
use Rattle.std.specs.List.{flat_map, AllByRecursion}
use Rattle.std.proofs.lemmas.Bool.{leb-true, le-leb, lt-ltb}
use Rattle.std.proofs.lemmas.List.{append-nil}
use Rattle.delos_types.specs.Numbers.{IsBytes, u16_bytes, u64_bytes}
use Rattle.delos_types.specs.Fields.{◌>>=◌, u64_field, ended}
use Rattle.delos_types.specs.declared.chain.Segment.{Segment}
use Rattle.delos_types.specs.declared.chain.Chain.{Chain}
use Rattle.delos_types.proofs.FieldLaws.{bind_ok, ok_is, Takes, Takes-then, takes_all, u64_takes, u64_again, ended_ok, ended_again}
use Rattle.chain_map.specs.declared.fault.DecodeError.{DecodeError}
use Rattle.chain_map.specs.declared.fault.Rule.TheVariants as rule
use Rattle.chain_map.specs.Chain.{first_of_segments, first_start, goes_on, ends_where, is_linked}
use Rattle.chain_map.specs.Format.{segment_bytes, segments_bytes, chain_bytes, HasPositions, SpellsChain}
use Rattle.chain_map.specs.Reading.{Gives, fault, short, version_field, count_field, segments_from, chain_fields, chain_read}
use Rattle.chain_map.proofs.Links.{both_hold, linked_parts, linked_last, length-linked}
use Rattle.chain_map.proofs.ChainFieldLaws.{MayStart, version_takes, version_again, count_takes, count_again}
use Rattle.chain_map.proofs.SegmentLaws.{Follow, from_takes, from_again}

-- ---- segments that follow one another are those of a chain

both_are : (a b : Bool) → a ≡ true → b ≡ true → (a && b) ≡ true
both_are a b e f = rw (e, f) refl

eqb-same : (n : ℕ) → eqb n n ≡ true
eqb-same n = grind arith

open_is_none : (o : Option ℕ) → o ≡ None → is_none o ≡ true
open_is_none o e = ap (λ (x : Option ℕ). is_none x) e

goes_on_at : (s t : Segment) (end : ℕ) → s.end ≡ Some end → s.start ≤ end → t.start ≡ end → s.id < t.id → goes_on s t ≡ true
goes_on_at s t end closed above at rises =
    let test : (leb s.start end && eqb end t.start) ≡ true = both_are (leb s.start end) (eqb end t.start) (le-leb _ _ above) (ap (eqb end) at ∙ eqb-same end) in
    both_are (ltb s.id t.id) (ends_where (λ e. leb s.start e && eqb e t.start) s) (lt-ltb _ _ rises)
    (ap (λ (o : Option ℕ). option_map_or (λ e. leb s.start e && eqb e t.start) o false) closed ∙ test)

record IsRun (trim : ℕ) (former : Option ℕ) (least : ℕ) (ss : List Segment) : Type 0 where
  linked : is_linked ss ≡ true
  rises : least ≤ (first_of_segments ss).id
  start : MayStart trim former (first_of_segments ss).start
  positions : AllByRecursion HasPositions ss

run_of : (trim : ℕ) (former : Option ℕ) (least : ℕ) (ss : List Segment) → Follow trim former least ss → IsRun trim former least ss
run_of trim former least [] follow = absurd follow
run_of trim former least (s ∷ []) follow =
    record { linked = both_are (ltb s.id 64) (is_none s.end) (lt-ltb _ _ follow.0.small) (open_is_none s.end follow.1); rises = follow.0.rises; start = follow.0.start; positions = (follow.0.positions, tt) }
run_of trim former least (s ∷ t ∷ ts) follow =
    let rest = run_of trim s.end (s.id + 1) (t ∷ ts) follow.3 in
    let start : MayStart trim (Some follow.1) t.start = subst (λ (o : Option ℕ). MayStart trim o t.start) follow.2.at rest.start in
    record {
      linked = both_are (goes_on s t) (is_linked (t ∷ ts)) (goes_on_at s t follow.1 follow.2.at follow.2.above start (omega (arith, rest.rises))) rest.linked;
      rises = follow.0.rises;
      start = follow.0.start;
      positions = (follow.0.positions, rest.positions);
    }

follow_of : (trim : ℕ) (former : Option ℕ) (least : ℕ) (ss : List Segment) → is_linked ss ≡ true → least ≤ (first_of_segments ss).id → MayStart trim former (first_of_segments ss).start → AllByRecursion HasPositions ss → Follow trim former least ss
follow_of trim former least [] linked rises start positions = absurd cc
follow_of trim former least (s ∷ []) linked rises start positions =
    let last = linked_last s linked in
    (record { rises = rises; small = last.0; start = start; positions = positions.0 }, last.1)
follow_of trim former least (s ∷ t ∷ ts) linked rises start positions =
    let parts = linked_parts s t ts linked in
    let small : s.id < 64 = omega (arith, parts.0.rises, length-linked (t ∷ ts) parts.1) in
    let next : MayStart trim s.end t.start = subst (λ (o : Option ℕ). MayStart trim o t.start) (sym parts.0.closed) refl in (
      record { rises = rises; small = small; start = start; positions = positions.0 },
      t.start,
      record { at = parts.0.closed; above = parts.0.above },
      follow_of trim s.end (s.id + 1) (t ∷ ts) parts.1 (omega (arith, parts.0.rises)) next positions.1,
    )

some_linked : (ss : List Segment) → is_linked ss ≡ true → 1 ≤ length ss
some_linked [] e = absurd cc
some_linked (s ∷ ss) e = omega arith

-- ---- chains

pub chain_takes : (bytes : List ℕ) (c : Chain) → IsBytes bytes → chain_read bytes ≡ Ok c → SpellsChain bytes c
unfolding chain_read chain_fields
chain_takes bytes c fits e =
    let size = length bytes in
    let v = bind_ok (version_field size bytes) (λ version. u64_field (short size) version.1 >>= λ trim. count_field size trim.1 >>= λ count. segments_from size trim.0 None 0 (count.0 - 1) count.1 >>= λ segments. ended (fault (size - length segments.1) rule.Long) segments.1 (record { trim = trim.0; segments = segments.0 })) c e in
    let t = bind_ok (u64_field (short size) v.0.1) (λ trim. count_field size trim.1 >>= λ count. segments_from size trim.0 None 0 (count.0 - 1) count.1 >>= λ segments. ended (fault (size - length segments.1) rule.Long) segments.1 (record { trim = trim.0; segments = segments.0 })) c v.2 in
    let n = bind_ok (count_field size t.0.1) (λ count. segments_from size t.0.0 None 0 (count.0 - 1) count.1 >>= λ segments. ended (fault (size - length segments.1) rule.Long) segments.1 (record { trim = t.0.0; segments = segments.0 })) c t.2 in
    let s = bind_ok (segments_from size t.0.0 None 0 (n.0.0 - 1) n.0.1) (λ segments. ended (fault (size - length segments.1) rule.Long) segments.1 (record { trim = t.0.0; segments = segments.0 })) c n.2 in
    let made : Chain = record { trim = t.0.0; segments = s.0.0 } in
    let end = ended_ok (fault (size - length s.0.1) rule.Long) s.0.1 made c s.2 in
    let version = version_takes size bytes v.0.0 v.0.1 fits v.1 in
    let trim = u64_takes (short size) v.0.1 t.0.0 t.0.1 version.rest_fits t.1 in
    let count = count_takes size t.0.1 n.0.0 n.0.1 trim.0.rest_fits n.1 in
    let segments = from_takes size t.0.0 None 0 (n.0.0 - 1) n.0.1 s.0 count.0.rest_fits s.1 in
    let counted : Takes t.0.1 (segments_bytes s.0.0) s.0.1 =
    subst (λ (k : ℕ). Takes t.0.1 (u16_bytes k ++ flat_map segment_bytes s.0.0) s.0.1) {x = n.0.0} {y = length s.0.0} (omega (arith, segments.count, count.1)) (Takes-then t.0.1 (u16_bytes n.0.0) n.0.1 (flat_map segment_bytes s.0.0) s.0.1 count.0 segments.taken) in
    let trimmed = Takes-then v.0.1 (u64_bytes t.0.0) t.0.1 (segments_bytes s.0.0) s.0.1 trim.0 counted in
    let whole = Takes-then bytes (1 ∷ []) v.0.1 (u64_bytes t.0.0 ++ segments_bytes s.0.0) s.0.1 version trimmed in
    let run = run_of t.0.0 None 0 s.0.0 segments.follow in
    subst (λ (d : Chain). SpellsChain bytes d) {x = made} end.1
    (record {
      spelled = takes_all bytes (1 ∷ (u64_bytes t.0.0 ++ segments_bytes s.0.0)) s.0.1 whole end.0;
      joined = both_are (is_linked s.0.0) (leb (first_of_segments s.0.0).start t.0.0) run.linked (le-leb (first_of_segments s.0.0).start t.0.0 run.start);
      trim = trim.1;
      positions = run.positions;
    })

chain_again_of : (size : ℕ) (bytes : List ℕ) (c : Chain) → SpellsChain bytes c → chain_fields size (chain_bytes c) ≡ Ok c
unfolding chain_fields
chain_again_of size bytes c s =
    let parts = both_hold (is_linked c.segments) (leb (first_start c) c.trim) s.joined in
    let few : length c.segments + (first_of_segments c.segments).id ≤ 64 = length-linked c.segments parts.0 in
    let some : 1 ≤ length c.segments = some_linked c.segments parts.0 in
    let follow = follow_of c.trim None 0 c.segments parts.0 (omega arith) (leb-true _ _ parts.1) s.positions in
    let all : segments_from size c.trim None 0 (length c.segments - 1) (flat_map segment_bytes c.segments) ≡ Ok (c.segments, []) =
    ap (segments_from size c.trim None 0 (length c.segments - 1)) (sym (append-nil (flat_map segment_bytes c.segments))) ∙ from_again size c.trim None 0 (length c.segments - 1) c.segments [] follow (omega (arith, some)) in
    rw (version_again size (u64_bytes c.trim ++ segments_bytes c.segments), u64_again (short size) c.trim (segments_bytes c.segments) s.trim, count_again size (length c.segments) (flat_map segment_bytes c.segments) some (omega (arith, few)), all) (ended_again (fault (size - 0) rule.Long) c)

pub chain_again : (bytes : List ℕ) (c : Chain) → SpellsChain bytes c → chain_read bytes ≡ Ok c
unfolding chain_read
chain_again bytes c s = ap (chain_fields (length bytes)) s.spelled ∙ chain_again_of (length bytes) bytes c s

pub chain_found : (bytes : List ℕ) (r : Result Chain DecodeError) → IsBytes bytes → Gives r (chain_read bytes) → IfOk r (SpellsChain bytes)
chain_found bytes (Ok c) fits given = chain_takes bytes c fits given
chain_found bytes (Err e) fits given = tt

-- ---- no two chains are spelled alike

pub chain_alike : (bytes : List ℕ) (c d : Chain) → SpellsChain bytes c → SpellsChain bytes d → c ≡ d
chain_alike bytes c d s t = ok_is c d (sym (chain_again bytes c s) ∙ chain_again bytes d t)
