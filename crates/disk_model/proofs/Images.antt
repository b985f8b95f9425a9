-- The image that a word picks is one that a crash may leave.
use Rattle.std.proofs.Common.{◌≡◌, inl, inr, ℕ, ◌+◌, ◌-◌, ◌/◌, ◌%◌, ◌<◌, ◌≤◌, ◌==◌, min, Bool, true, false, List, [], ◌∷◌, ◌++◌, length, get_or, take, drop, replicate, refl, ◌∙◌, ap, subst, arith, if◌then◌else◌, length-append, length-take, length-drop}
use Rattle.std.proofs.lemmas.List.{append-nil, get_or-take, get_or-drop, get_or_append_left, get_or-append_right, length-replicate}
use Rattle.std.proofs.lemmas.Bool.{cases_lt}
use Rattle.disk_model.specs.Disk.{Change, Written, CutTo, padded, changed, replayed, Moment, content}
use Rattle.disk_model.specs.Crash.{low, high, Covers, Untouched, IsImage}
use Rattle.disk_model.specs.Memory.{halved, filled, all_filled, image}

pub length-padded : (at : ℕ) (b : List ℕ) → length (padded at b) ≡ at
length-padded at b = omega (arith, length-append (take at b) (replicate (at - length b) 0), length-take at b, length-replicate {A = ℕ} (at - length b) 0)

-- no zeros are wanted
pub padded_inside : (at : ℕ) (b : List ℕ) → at ≤ length b → padded at b ≡ take at b
padded_inside at b le =
    let none : at - length b ≡ 0 = omega (arith, le) in
    ap (λ (n : ℕ). take at b ++ replicate n 0) none ∙ append-nil (take at b)

pub written_inside : (at : ℕ) (bytes b : List ℕ) → at ≤ length b → changed (Written at bytes) b ≡ take at b ++ (bytes ++ drop (at + length bytes) b)
written_inside at bytes b le = ap (λ (front : List ℕ). front ++ (bytes ++ drop (at + length bytes) b)) (padded_inside at b le)

pub length-changed : (at : ℕ) (bytes b : List ℕ) → length (changed (Written at bytes) b) ≡ at + (length bytes + (length b - (at + length bytes)))
length-changed at bytes b = omega (arith, length-append (padded at b) (bytes ++ drop (at + length bytes) b), length-append bytes (drop (at + length bytes) b), length-padded at b, length-drop (at + length bytes) b)

-- a byte outside the middle part
middle_other : (at n : ℕ) (mid b : List ℕ) (i : ℕ) → i < length b → (at + n ≤ length b → length mid ≡ n) → ¬ ((at ≤ i) × (i < at + n)) → get_or (take at b ++ (mid ++ drop (at + n) b)) i 0 ≡ get_or b i 0
middle_other at n mid b i lt long free = elim (cases_lt i at) [
  | inl below ↦ get_or_append_left (take at b) (mid ++ drop (at + n) b) 0 i (omega (arith, length-take at b, below, lt)) ∙ get_or-take at b i 0 below
  | inr past ↦ elim (cases_lt i (at + n)) [
    | inl within ↦ absurd (free (omega (arith, past), within))
    | inr behind ↦
        let front : length (take at b) ≡ at = omega (arith, length-take at b, past, lt) in
        let mid_is : length mid ≡ n = long (omega (arith, behind, lt)) in
        get_or-append_right (take at b) (mid ++ drop (at + n) b) at i 0 front (omega (arith, past))
        ∙ get_or-append_right mid (drop (at + n) b) n (i - at) 0 mid_is (omega (arith, behind))
        ∙ get_or-drop (at + n) b (i - at - n) 0 ∙ ap (λ (k : ℕ). get_or b k 0) (omega (arith, behind))
  ]
]

written_other : (at : ℕ) (bytes b : List ℕ) (i : ℕ) → i < length b → ¬ Covers (Written at bytes) i → get_or (changed (Written at bytes) b) i 0 ≡ get_or b i 0
written_other at bytes b i lt free = elim (cases_lt i at) [
  | inl below ↦
      let zeros : List ℕ = replicate (at - length b) 0 in
      let rest = bytes ++ drop (at + length bytes) b in
      get_or_append_left (padded at b) rest 0 i (omega (arith, length-padded at b, below))
      ∙ get_or_append_left (take at b) zeros 0 i (omega (arith, length-take at b, below, lt)) ∙ get_or-take at b i 0 below
  | inr past ↦ ap (λ (l : List ℕ). get_or l i 0) (written_inside at bytes b (omega (arith, past, lt))) ∙ middle_other at (length bytes) bytes b i lt (λ _. refl) free
]

changed_other : (c : Change) (b : List ℕ) (i : ℕ) → i < length b → i < length (changed c b) → ¬ Covers c i → get_or (changed c b) i 0 ≡ get_or b i 0
changed_other (Written at bytes) b i lt there free = written_other at bytes b i lt free
changed_other (CutTo n) b i lt there free = get_or-take n b i 0 (omega (arith, length-take n b, there))

low_start : (cs : List Change) (b : List ℕ) → low cs b ≤ length b
low_start [] b = omega arith
low_start (c ∷ cs) b = omega arith

pub high_start : (cs : List Change) (b : List ℕ) → length b ≤ high cs b
high_start [] b = omega arith
high_start (c ∷ cs) b = omega arith

replayed_low : (cs : List Change) (b : List ℕ) → low cs b ≤ length (replayed cs b)
replayed_low [] b = omega arith
replayed_low (c ∷ cs) b = omega (arith, replayed_low cs (changed c b))

pub replayed_high : (cs : List Change) (b : List ℕ) → length (replayed cs b) ≤ high cs b
replayed_high [] b = omega arith
replayed_high (c ∷ cs) b = omega (arith, replayed_high cs (changed c b))

replayed_other : (cs : List Change) (b : List ℕ) (i : ℕ) → i < low cs b → Untouched cs i → get_or (replayed cs b) i 0 ≡ get_or b i 0
replayed_other [] b i lt free = refl
replayed_other (c ∷ cs) b i lt free =
    let later : i < low cs (changed c b) = omega (arith, lt) in
    replayed_other cs (changed c b) i later free.1 ∙ changed_other c b i (omega (arith, lt)) (omega (arith, later, low_start cs (changed c b))) free.0

-- the last change by halves
pub record IsBetween (cs : List Change) (b out : List ℕ) : Type 0 where
  pub no_shorter : low cs b ≤ length out
  pub no_longer : length out ≤ high cs b
  pub kept : (i : ℕ) → i < low cs b → Untouched cs i → get_or out i 0 ≡ get_or b i 0

pub replayed_between : (cs : List Change) (b : List ℕ) → IsBetween cs b (replayed cs b)
replayed_between cs b = record { no_shorter = replayed_low cs b; no_longer = replayed_high cs b; kept = replayed_other cs b }

half_between : (at : ℕ) (bytes b : List ℕ) → IsBetween (Written at bytes ∷ []) b (changed (Written at (take (length bytes / 2) bytes)) b)
half_between at bytes b =
    let half = take (length bytes / 2) bytes in
    let short : length half ≤ length bytes = omega (arith, length-take (length bytes / 2) bytes) in
    let whole = length-changed at bytes b in
    let part = length-changed at half b in
    record {
      no_shorter = omega (arith, whole, part, short);
      no_longer = omega (arith, whole, part, short);
      kept = λ i lt free. changed_other (Written at half) b i (omega (arith, lt)) (omega (arith, lt, part)) (λ both. free.0 (both.0, omega (arith, both.1, short)));
    }

pub halved_between : (cs : List Change) (b : List ℕ) → IsBetween cs b (replayed (halved cs) b)
halved_between [] b = record { no_shorter = omega arith; no_longer = omega arith; kept = λ i lt free. refl }
halved_between (Written at bytes ∷ []) b = half_between at bytes b
halved_between (CutTo n ∷ []) b = record { no_shorter = omega arith; no_longer = omega arith; kept = λ i lt free. refl }
halved_between (c ∷ d ∷ cs) b =
    let rest = halved_between (d ∷ cs) (changed c b) in
    record {
      no_shorter = omega (arith, rest.no_shorter);
      no_longer = omega (arith, rest.no_longer);
      kept = λ i lt free.
          let later : i < low (d ∷ cs) (changed c b) = omega (arith, lt) in
          rest.kept i later free.1 ∙ changed_other c b i (omega (arith, lt)) (omega (arith, later, low_start (d ∷ cs) (changed c b))) free.0;
    }

pub length-filled : (at n byte : ℕ) (bytes : List ℕ) → length (filled at n byte bytes) ≡ length bytes
length-filled at n byte bytes =
    let mid = replicate (min n (length bytes - at)) byte in
    omega (arith, length-append (take at bytes) (mid ++ drop (at + n) bytes), length-append mid (drop (at + n) bytes), length-take at bytes, length-drop (at + n) bytes, length-replicate (min n (length bytes - at)) byte)

pub length-all_filled : (byte : ℕ) (cs : List Change) (bytes : List ℕ) → length (all_filled byte cs bytes) ≡ length bytes
length-all_filled byte [] bytes = refl
length-all_filled byte (Written at written ∷ cs) bytes = length-all_filled byte cs (filled at (length written) byte bytes) ∙ length-filled at (length written) byte bytes
length-all_filled byte (CutTo n ∷ cs) bytes = length-all_filled byte cs bytes

filled_other : (byte : ℕ) (cs : List Change) (bytes : List ℕ) (i : ℕ) → i < length bytes → Untouched cs i → get_or (all_filled byte cs bytes) i 0 ≡ get_or bytes i 0
filled_other byte [] bytes i lt free = refl
filled_other byte (Written at written ∷ cs) bytes i lt free =
    let n = length written in
    let mid = replicate (min n (length bytes - at)) byte in
    filled_other byte cs (filled at n byte bytes) i (omega (arith, lt, length-filled at n byte bytes)) free.1
    ∙ middle_other at n mid bytes i lt (λ le. length-replicate (min n (length bytes - at)) byte ∙ omega (arith, le)) free.0
filled_other byte (CutTo n ∷ cs) bytes i lt free = filled_other byte cs bytes i lt free.1

pub filled_between : (byte : ℕ) (cs : List Change) (b : List ℕ) → IsBetween cs b (all_filled byte cs (replayed cs b))
filled_between byte cs b =
    let long = length-all_filled byte cs (replayed cs b) in
    let all = replayed_between cs b in
    record {
      no_shorter = omega (arith, long, all.no_shorter);
      no_longer = omega (arith, long, all.no_longer);
      kept = λ i lt free. filled_other byte cs (replayed cs b) i (omega (arith, lt, all.no_shorter)) free ∙ all.kept i lt free;
    }

pub synced_between : (cs : List Change) (b : List ℕ) → IsBetween cs b b
synced_between cs b = record { no_shorter = low_start cs b; no_longer = high_start cs b; kept = λ i lt free. refl }

either : (t : Bool) (cs : List Change) (b x y : List ℕ) → IsBetween cs b x → IsBetween cs b y → IsBetween cs b (if t then x else y)
either true cs b x y p q = p
either false cs b x y p q = q

pub image_is : (word : ℕ) (m : Moment) → IsImage m (image word m)
image_is word m =
    let cs = m.changes in
    let b = m.synced in
    let out = either (word % 4 == 0) cs b _ _ (synced_between cs b) (either (word % 4 == 1) cs b _ _ (replayed_between cs b) (either (word % 4 == 2) cs b _ _ (halved_between cs b) (filled_between (word / 4 % 256) cs b))) in
    record { no_shorter = out.no_shorter; no_longer = out.no_longer; kept = out.kept }

pub room_for : (cs : List Change) (c : Change) (rest : List Change) (b : List ℕ) (room : ℕ) → cs ≡ c ∷ rest → high cs b ≤ room → length (changed c b) ≤ room
room_for cs c rest b room is le =
    let more : high (c ∷ rest) b ≤ room = subst (λ (ds : List Change). high ds b ≤ room) is le in
    omega (arith, more, high_start rest (changed c b))

-- where nothing is pending, whatever the word
pub image_rest : (word : ℕ) (m : Moment) → m.changes ≡ [] → image word m ≡ content m
image_rest word m none = settled word m.changes m.synced none
  where
    settled : (word : ℕ) (cs : List Change) (b : List ℕ) → cs ≡ [] → image word (record { synced = b; changes = cs }) ≡ replayed cs b
    settled word [] b none = by (word % 4 == 0) (word % 4 == 1) (word % 4 == 2)
      where
        by : (p q r : Bool) → (if p then b else (if q then b else (if r then b else b))) ≡ b
        by true q r = refl
        by false true r = refl
        by false false true = refl
        by false false false = refl
    settled word (c ∷ cs) b none = absurd (omega (arith, ap length none))
