-- What a crash leaves of one write to a disk on which nothing is pending.
use Rattle.std.proofs.Common.{◌≡◌, ℕ, ◌+◌, ◌<◌, ◌≤◌, max, List, [], ◌∷◌, ◌++◌, length, get_or, take, drop, refl, sym, ◌∙◌, ap, subst, arith, append_assoc, length-append, length-take, length-drop}
use Rattle.std.proofs.lemmas.List.{ext_get_or, get_or-take, get_or-drop, take_at, drop_at}
use Rattle.disk_model.specs.Disk.{Change, Written, changed, replayed, Moment, content, with_change, at_rest}
use Rattle.disk_model.specs.Crash.{IsImage, Leaves, low}
use Rattle.disk_model.specs.Torn.{IsTorn}
use Rattle.disk_model.proofs.Images.{length-changed, written_inside}

pub length-written : (at : ℕ) (bytes old : List ℕ) → at ≤ length old → length (changed (Written at bytes) old) ≡ max (length old) (at + length bytes)
length-written at bytes old le = omega (arith, length-changed at bytes old)

-- nothing pending: the image is what a read gives
pub rest_is : (bytes c : List ℕ) → IsImage (at_rest bytes) c → c ≡ bytes
rest_is bytes c image = ext_get_or 0 c bytes (omega (arith, image.no_shorter, image.no_longer)) (λ i lt. image.kept i (omega (arith, image.no_longer)) tt)

pub rest_torn : (old : List ℕ) (at n : ℕ) → IsTorn old at n old
rest_torn old at n = record { no_shorter = omega arith; no_longer = omega arith; before = refl; after = refl }

-- the write is done
pub done_torn : (old : List ℕ) (at : ℕ) (bytes : List ℕ) → at ≤ length old → IsTorn old at (length bytes) (changed (Written at bytes) old)
done_torn old at bytes le =
    let long = length-written at bytes old le in
    let front : length (take at old) ≡ at = omega (arith, length-take at old) in
    let both : length (take at old ++ bytes) ≡ at + length bytes = omega (arith, length-append (take at old) bytes) in
    let is = written_inside at bytes old le in
    record {
      no_shorter = omega arith;
      no_longer = omega arith;
      before = ap (λ (l : List ℕ). take at l) is ∙ take_at (take at old) (bytes ++ drop (at + length bytes) old) at front;
      after = ap (λ (l : List ℕ). drop (at + length bytes) l) (is ∙ sym (append_assoc (take at old) bytes (drop (at + length bytes) old)))
          ∙ drop_at (take at old ++ bytes) (drop (at + length bytes) old) (at + length bytes) both;
    }

-- the write is pending
pub pending_torn : (old : List ℕ) (at : ℕ) (bytes c : List ℕ) → at ≤ length old → IsImage (record { synced = old; changes = Written at bytes ∷ [] }) c → IsTorn old at (length bytes) c
pending_torn old at bytes c le image =
    let long = length-written at bytes old le in
    let least : length old ≤ low (Written at bytes ∷ []) old = omega arith in
    let no_shorter : length old ≤ length c = omega (arith, image.no_shorter) in
    let no_longer : length c ≤ max (length old) (at + length bytes) = omega (arith, image.no_longer) in
    let same : (i : ℕ) → i < length old → (¬ ((at ≤ i) × (i < at + length bytes))) → get_or c i 0 ≡ get_or old i 0 =
    λ i lt free. image.kept i (omega arith) (free, tt) in
    record {
      no_shorter = no_shorter;
      no_longer = no_longer;
      before = ext_get_or 0 (take at c) (take at old) (omega (arith, length-take at c, length-take at old)) (λ i lt.
          let below : i < at = omega (arith, length-take at c) in
          get_or-take at c i 0 below ∙ same i (omega arith) (λ both. omega (arith, both.0)) ∙ sym (get_or-take at old i 0 below));
      after = ext_get_or 0 (drop (at + length bytes) c) (drop (at + length bytes) old) (omega (arith, length-drop (at + length bytes) c, length-drop (at + length bytes) old)) (λ i lt.
          get_or-drop (at + length bytes) c i 0 ∙ same (at + length bytes + i) (omega (arith, length-drop (at + length bytes) c)) (λ both. omega (arith, both.1)) ∙ sym (get_or-drop (at + length bytes) old i 0));
    }

pub synced_is : (m : Moment) → m.changes ≡ [] → (c : List ℕ) → IsImage m c → c ≡ content m
synced_is m none c image =
    let written_out : m ≡ at_rest m.synced = ap (λ (cs : List Change). record { synced = m.synced; changes = cs }) none in
    rest_is m.synced c (subst (λ (k : Moment). IsImage k c) written_out image) ∙ sym (ap (λ (cs : List Change). replayed cs m.synced) none)

module _ (m : Moment) (at : ℕ) (bytes : List ℕ) (none : m.changes ≡ []) (inside : at ≤ length (content m)) where
  abbrev P : List ℕ → Type 0
  P = IsTorn (content m) at (length bytes)

  -- m with its changes written out
  is_rest : m ≡ at_rest m.synced
  is_rest = ap (λ (cs : List Change). record { synced = m.synced; changes = cs }) none

  same_content : content m ≡ m.synced
  same_content = ap (λ (cs : List Change). replayed cs m.synced) none

  pub before_leaves : Leaves m P
  before_leaves c image = subst P (sym (rest_is (content m) c (subst (λ (k : Moment). IsImage k c) (is_rest ∙ ap at_rest (sym same_content)) image))) (rest_torn (content m) at (length bytes))

  pub pending_leaves : (n : Moment) → n ≡ with_change m (Written at bytes) → Leaves n P
  pending_leaves n is c image =
      let moved : with_change m (Written at bytes) ≡ record { synced = content m; changes = Written at bytes ∷ [] } =
      ap (λ (k : Moment). with_change k (Written at bytes)) (is_rest ∙ ap at_rest (sym same_content)) in
      pending_torn (content m) at bytes c inside (subst (λ (k : Moment). IsImage k c) (is ∙ moved) image)

  pub done_leaves : (n : Moment) → n ≡ at_rest (changed (Written at bytes) (content m)) → Leaves n P
  done_leaves n is c image = subst P (sym (rest_is _ c (subst (λ (k : Moment). IsImage k c) is image))) (done_torn (content m) at bytes inside)

  pub written_content : (n : Moment) → n ≡ with_change m (Written at bytes) → content n ≡ changed (Written at bytes) (content m)
  written_content n is = ap content (is ∙ ap (λ (k : Moment). with_change k (Written at bytes)) (is_rest ∙ ap at_rest (sym same_content)))
