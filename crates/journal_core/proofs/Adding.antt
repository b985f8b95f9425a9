-- What a crash leaves while a record is added.
use Rattle.std.proofs.Common.{◌≡◌, inl, inr, ℕ, ◌+◌, ◌^◌, ◌<◌, ◌≤◌, Some, List, [], ◌∷◌, ◌++◌, length, get_or, take, drop, refl, sym, ◌∙◌, ap, subst, arith, append_assoc, length-append, length-take, length-drop}
use Rattle.std.proofs.lemmas.List.{get_or-drop, get_or_at, take-take, take_at, drop_at, drop_more}
use Rattle.std.proofs.lemmas.Bool.{cases_eq}
use Rattle.std.proofs.lemmas.Nat.{from_be_bytes-to_be_bytes_8}
use Rattle.std.specs.Int.{w64, to_be_bytes}
use Rattle.disk_model.specs.Torn.{IsTorn}
use Rattle.disk_model.specs.Disk.{Timeline, Written, changed, content, at_rest}
use Rattle.disk_model.specs.Crash.{AnyCrash}
use Rattle.disk_model.specs.CrashLaws.{joined, weaker}
use Rattle.disk_model.proofs.Tear.{done_torn}
use Rattle.disk_model.proofs.Images.{written_inside}
use Rattle.journal_core.specs.Records.{number, first_record}
use Rattle.journal_core.specs.Layout.{Whole, EndsAt, framed, BeforeOrWith}
use Rattle.journal_core.proofs.Walk.{IsFirst, from_first, same_at, whole_keeps, whole_push, ends_records}

-- a write behind the closed gate
pub behind : (ps : List (List ℕ)) (e n : ℕ) (old c : List ℕ) → EndsAt ps e old → IsTorn old (e + 1) n c → EndsAt ps e c
behind ps e n old c ends torn =
    let fronts : take e c ≡ take e old = sym (take-take e (e + 1) c (omega arith)) ∙ ap (λ (l : List ℕ). take e l) torn.before ∙ take-take e (e + 1) old (omega arith) in
    let long : e < length c = omega (arith, ends.inside, torn.no_shorter) in
    record {
      whole = whole_keeps ps e c old fronts long ends.whole;
      inside = long;
      closed = λ is. ends.closed (sym (same_at (e + 1) e c old torn.before (omega arith)) ∙ is);
    }

module _ (payload : List ℕ) (short : length payload < 2 ^ 64) where
  abbrev n : ℕ
  n = length payload

  eight : length (to_be_bytes w64 n) ≡ 8
  eight = refl

  pub length-framed : length (framed payload) ≡ 9 + n
  length-framed = omega (arith, eight, length-append (to_be_bytes w64 n) (payload ++ 0 ∷ []), length-append payload (0 ∷ []))

  number_back : number (to_be_bytes w64 n) ≡ n
  unfolding number
  number_back = from_be_bytes-to_be_bytes_8 n short

  -- an open gate before it
  framed_first : (gate : ℕ) (tail : List ℕ) → gate ≡ 1 → IsFirst (gate ∷ (framed payload ++ tail)) payload
  framed_first gate tail is =
      let whole = gate ∷ (framed payload ++ tail) in
      let front : framed payload ++ tail ≡ to_be_bytes w64 n ++ ((payload ++ 0 ∷ []) ++ tail) = append_assoc (to_be_bytes w64 n) (payload ++ 0 ∷ []) tail in
      let eighth : take 8 (framed payload ++ tail) ≡ to_be_bytes w64 n = ap (λ (l : List ℕ). take 8 l) front ∙ take_at (to_be_bytes w64 n) ((payload ++ 0 ∷ []) ++ tail) 8 eight in
      let rest : drop 8 (framed payload ++ tail) ≡ payload ++ (0 ∷ tail) =
      ap (λ (l : List ℕ). drop 8 l) front ∙ drop_at (to_be_bytes w64 n) ((payload ++ 0 ∷ []) ++ tail) 8 eight ∙ append_assoc payload (0 ∷ []) tail in
      record {
        opened = is;
        size_is = ap number eighth ∙ number_back;
        fits = omega (arith, length-framed, length-append (framed payload) tail);
        payload = ap (λ (l : List ℕ). take n l) rest ∙ take_at payload (0 ∷ tail) n refl;
      }

  last_gate : (gate : ℕ) (tail : List ℕ) → get_or (gate ∷ (framed payload ++ tail)) (9 + n) 0 ≡ 0
  last_gate gate tail =
      let front : gate ∷ (framed payload ++ tail) ≡ (gate ∷ (to_be_bytes w64 n ++ payload)) ++ 0 ∷ tail =
      ap (λ (l : List ℕ). gate ∷ (l ++ tail)) (sym (append_assoc (to_be_bytes w64 n) payload (0 ∷ []))) ∙ ap (λ (l : List ℕ). gate ∷ l) (append_assoc (to_be_bytes w64 n ++ payload) (0 ∷ []) tail) in
      ap (λ (l : List ℕ). get_or l (9 + n) 0) front
      ∙ get_or_at (gate ∷ (to_be_bytes w64 n ++ payload)) 0 tail 0 (9 + n) (omega (arith, eight, length-append (to_be_bytes w64 n) payload))

  module _ (ps : List (List ℕ)) (e : ℕ) (tail : List ℕ) where
    split : (c : List ℕ) → e < length c → drop (e + 1) c ≡ framed payload ++ tail → drop e c ≡ get_or c e 0 ∷ (framed payload ++ tail)
    split c long rest = drop_more c e 0 long ∙ ap (λ (l : List ℕ). get_or c e 0 ∷ l) rest

    -- the gate is open
    pub gate_open : (c : List ℕ) → Whole ps e c → e < length c → get_or c e 0 ≡ 1 → drop (e + 1) c ≡ framed payload ++ tail → EndsAt (ps ++ payload ∷ []) (e + (9 + n)) c
    gate_open c whole long opened rest =
        let all = split c long rest in
        let first : first_record (drop e c) ≡ Some payload = ap first_record all ∙ from_first (get_or c e 0 ∷ (framed payload ++ tail)) payload (framed_first (get_or c e 0) tail opened) in
        let size_of : length c ≡ e + (1 + length (framed payload ++ tail)) = omega (arith, ap length all, length-drop e c, long) in
        let zero_there : get_or c (e + (9 + n)) 0 ≡ 0 = sym (get_or-drop e c (9 + n) 0) ∙ ap (λ (l : List ℕ). get_or l (9 + n) 0) all ∙ last_gate (get_or c e 0) tail in
        record {
          whole = whole_push ps e c payload whole first;
          inside = omega (arith, size_of, length-append (framed payload) tail, length-framed);
          closed = λ is. omega (arith, zero_there, is);
        }

    -- the gate may be open
    pub gate_torn : (old c : List ℕ) → EndsAt ps e old → drop (e + 1) old ≡ framed payload ++ tail → IsTorn old e 1 c → BeforeOrWith ps payload c
    gate_torn old c ends rest torn =
        let long : e < length c = omega (arith, ends.inside, torn.no_shorter) in
        let whole = whole_keeps ps e c old torn.before long ends.whole in
        elim (cases_eq (get_or c e 0) 1) [
          | inl opened ↦ inr (ends_records _ _ c (gate_open c whole long opened (torn.after ∙ rest)))
          | inr shut ↦ inl (ends_records ps e c (record { whole = whole; inside = long; closed = shut }))
        ]

-- after the first write
pub record FirstDone (payload : List ℕ) (ps : List (List ℕ)) (e : ℕ) (bytes : List ℕ) : Type 0 where
  pub ends : EndsAt ps e bytes
  pub tail : List ℕ
  pub rest : drop (e + 1) bytes ≡ framed payload ++ tail

pub first_done : (payload : List ℕ) (ps : List (List ℕ)) (e : ℕ) (old body : List ℕ) → EndsAt ps e old → body ≡ framed payload → FirstDone payload ps e (changed (Written (e + 1) body) old)
first_done payload ps e old body ends is =
    let front : length (take (e + 1) old) ≡ e + 1 = omega (arith, length-take (e + 1) old, ends.inside) in
    let tail = drop (e + 1 + length body) old in
    record {
      ends = behind ps e (length body) old _ ends (done_torn old (e + 1) body (omega (arith, ends.inside)));
      tail = tail;
      rest = ap (λ (l : List ℕ). drop (e + 1) l) (written_inside (e + 1) body old (omega (arith, ends.inside))) ∙ drop_at (take (e + 1) old) (body ++ tail) (e + 1) front ∙ ap (λ (l : List ℕ). l ++ tail) is;
    }

pub second_done : (payload : List ℕ) (ps : List (List ℕ)) (e : ℕ) (old : List ℕ) → length payload < 2 ^ 64 → FirstDone payload ps e old → EndsAt (ps ++ payload ∷ []) (e + (9 + length payload)) (changed (Written e (1 ∷ [])) old)
second_done payload ps e old short first =
    let le : e ≤ length old = omega (arith, first.ends.inside) in
    let torn = done_torn old e (1 ∷ []) le in
    let new = changed (Written e (1 ∷ [])) old in
    let front : length (take e old) ≡ e = omega (arith, length-take e old, le) in
    let long : e < length new = omega (arith, torn.no_shorter, first.ends.inside) in
    gate_open payload short ps e first.tail new (whole_keeps ps e new old torn.before long first.ends.whole) long
    (ap (λ (l : List ℕ). get_or l e 0) (written_inside e (1 ∷ []) old le) ∙ get_or_at (take e old) 1 (drop (e + 1) old) 0 e front) (torn.after ∙ first.rest)

module _ (old mid : Timeline) (payload : List ℕ) (short : length payload < 2 ^ 64) (ps : List (List ℕ)) (e : ℕ) (body : List ℕ) (ends : EndsAt ps e (content old.now)) (is : body ≡ framed payload) where
  -- the first write
  pub first_crash : AnyCrash old mid (IsTorn (content old.now) (e + 1) (length body)) → AnyCrash old mid (BeforeOrWith ps payload)
  first_crash run = weaker old mid _ (BeforeOrWith ps payload) (λ c torn. inl (ends_records ps e c (behind ps e (length body) (content old.now) c ends torn))) run

  module _ (synced : mid.now ≡ at_rest (changed (Written (e + 1) body) (content old.now))) where
    pub mid_done : FirstDone payload ps e (content mid.now)
    mid_done = subst (FirstDone payload ps e) (sym (ap content synced)) (first_done payload ps e (content old.now) body ends is)

    -- and the second
    pub both_crash : (new : Timeline) → AnyCrash old mid (IsTorn (content old.now) (e + 1) (length body)) → AnyCrash mid new (IsTorn (content mid.now) e 1) → AnyCrash old new (BeforeOrWith ps payload)
    both_crash new front back = joined old mid new (BeforeOrWith ps payload) (first_crash front)
        (weaker mid new _ (BeforeOrWith ps payload) (λ c torn. gate_torn payload short ps e mid_done.tail (content mid.now) c mid_done.ends mid_done.rest torn) back)

    pub both_done : (new : Timeline) → new.now ≡ at_rest (changed (Written e (1 ∷ [])) (content mid.now)) → EndsAt (ps ++ payload ∷ []) (e + (9 + length payload)) (content new.now)
    both_done new done = subst (EndsAt (ps ++ payload ∷ []) (e + (9 + length payload))) (sym (ap content done)) (second_done payload ps e (content mid.now) short mid_done)
