-- Reading segments one after the other, as a loop does.
use Rattle.std.proofs.Common.{◌≡◌, ℕ, suc, ◌-◌, ◌+◌, ◌≤◌, ◌<◌, List, [], ◌∷◌, ◌++◌, Option, Result, Ok, Err, refl, sym, ap, ◌∙◌, append_assoc, arith}
use Rattle.delos_types.specs.Fields.{◌>>=◌}
use Rattle.delos_types.specs.declared.chain.Segment.{Segment}
use Rattle.chain_map.specs.declared.fault.BadChain.{BadChain}
use Rattle.chain_map.specs.declared.fault.DecodeError.{DecodeError}
use Rattle.chain_map.specs.declared.fault.DecodeError.TheVariants as decode
use Rattle.chain_map.specs.Reading.{Fails, closed_field, open_field, segments_from}

-- what was read before, and what is still read
abbrev pub with_front : List Segment → Result (List Segment × List ℕ) BadChain → Result (List Segment × List ℕ) BadChain
with_front front read = read >>= λ x. Ok (front ++ x.0, x.1)

regroup : (front : List Segment) (s : Segment) (read : Result (List Segment × List ℕ) BadChain) → with_front front (read >>= λ x. Ok (s ∷ x.0, x.1)) ≡ with_front (front ++ s ∷ []) read
regroup front s (Ok x) = ap (λ (ss : List Segment). Ok (ss, x.1)) (simp append_assoc)
regroup front s (Err b) = refl

pub begins : (read : Result (List Segment × List ℕ) BadChain) → with_front [] read ≡ read
begins (Ok x) = refl
begins (Err b) = refl

-- a loop that has read `front`, and is to read `count - i` closed segments and the open one
pub record Run (size trim : ℕ) (former : Option ℕ) (least : ℕ) (front : List Segment) (count i : ℕ) (bytes : List ℕ) (total : Result (List Segment × List ℕ) BadChain) : Type 0 where
  pub reads : with_front front (segments_from size trim former least (count - i) bytes) ≡ total

pub goes_on : (size trim : ℕ) (former : Option ℕ) (least : ℕ) (front : List Segment) (count i : ℕ) (bytes : List ℕ) (s : Segment) (after : List ℕ) (total : Result (List Segment × List ℕ) BadChain) → i < count
    → closed_field size trim former least bytes ≡ Ok (s, after) → Run size trim former least front count i bytes total → Run size trim s.end (s.id + 1) (front ++ s ∷ []) count (i + 1) after total
unfolding segments_from
goes_on size trim former least front count i bytes s after total lt e so_far =
    let k : count - i ≡ suc (count - (i + 1)) = omega arith in
    let one : with_front front (segments_from size trim former least (count - i) bytes) ≡ with_front (front ++ s ∷ []) (segments_from size trim s.end (s.id + 1) (count - (i + 1)) after) = rw (k, e) (regroup front s (segments_from size trim s.end (s.id + 1) (count - (i + 1)) after)) in
    record { reads = sym one ∙ so_far.reads }

pub stops : (e : DecodeError) (size trim : ℕ) (former : Option ℕ) (least : ℕ) (front : List Segment) (count i : ℕ) (bytes : List ℕ) (total : Result (List Segment × List ℕ) BadChain) → i < count
    → Fails e (closed_field size trim former least bytes) → Run size trim former least front count i bytes total → Fails e total
unfolding segments_from
stops decode.Memory size trim former least front count i bytes total lt f so_far = tt
stops (decode.Bad b) size trim former least front count i bytes total lt f so_far =
    let k : count - i ≡ suc (count - (i + 1)) = omega arith in
    let one : with_front front (segments_from size trim former least (count - i) bytes) ≡ Err b = rw (k, f) refl in
    sym so_far.reads ∙ one

pub ends : (size trim : ℕ) (former : Option ℕ) (least : ℕ) (front : List Segment) (count i : ℕ) (bytes : List ℕ) (s : Segment) (after : List ℕ) (total : Result (List Segment × List ℕ) BadChain) → count ≤ i
    → open_field size trim former least bytes ≡ Ok (s, after) → Run size trim former least front count i bytes total → total ≡ Ok (front ++ s ∷ [], after)
unfolding segments_from
ends size trim former least front count i bytes s after total le e so_far =
    let k : count - i ≡ 0 = omega arith in
    let one : with_front front (segments_from size trim former least (count - i) bytes) ≡ Ok (front ++ s ∷ [], after) = rw (k, e) refl in
    sym so_far.reads ∙ one

pub stops_at_last : (e : DecodeError) (size trim : ℕ) (former : Option ℕ) (least : ℕ) (front : List Segment) (count i : ℕ) (bytes : List ℕ) (total : Result (List Segment × List ℕ) BadChain) → count ≤ i
    → Fails e (open_field size trim former least bytes) → Run size trim former least front count i bytes total → Fails e total
unfolding segments_from
stops_at_last decode.Memory size trim former least front count i bytes total le f so_far = tt
stops_at_last (decode.Bad b) size trim former least front count i bytes total le f so_far =
    let k : count - i ≡ 0 = omega arith in
    let one : with_front front (segments_from size trim former least (count - i) bytes) ≡ Err b = rw (k, f) refl in
    sym so_far.reads ∙ one
