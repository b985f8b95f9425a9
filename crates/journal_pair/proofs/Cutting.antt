-- What a crash leaves of one cut of a disk on which nothing is pending.
use Rattle.std.proofs.Common.{◌≡◌, ℕ, ◌<◌, ◌≤◌, min, List, [], ◌∷◌, length, take, refl, sym, ◌∙◌, ap, subst, arith, length-take}
use Rattle.std.proofs.lemmas.List.{ext_get_or, get_or-take, take-take}
use Rattle.disk_model.specs.Disk.{Change, CutTo, Moment, content, replayed, with_change, at_rest}
use Rattle.disk_model.specs.Crash.{IsImage, Leaves}
use Rattle.disk_model.proofs.Tear.{rest_is, synced_is}
use Rattle.journal_pair.specs.Cut.{IsCut}

-- nothing was cut
rest_cut : (old : List ℕ) (n : ℕ) → IsCut old n old
rest_cut old n = record { no_shorter = omega arith; no_longer = omega arith; before = refl }

-- the cut is done
done_cut : (old : List ℕ) (n : ℕ) → IsCut old n (take n old)
done_cut old n = record { no_shorter = omega (arith, length-take n old); no_longer = omega (arith, length-take n old); before = take-take n n old (omega arith) }

-- the cut is pending
pending_cut : (old : List ℕ) (n : ℕ) (c : List ℕ) → IsImage (record { synced = old; changes = CutTo n ∷ [] }) c → IsCut old n c
pending_cut old n c image =
    let long = length-take n old in
    let least : min n (length old) ≤ length c = omega (arith, image.no_shorter, long) in
    let most : length c ≤ length old = omega (arith, image.no_longer, long) in
    record {
      no_shorter = least;
      no_longer = most;
      before = ext_get_or 0 (take n c) (take n old) (omega (arith, length-take n c, long, least, most)) (λ i lt.
          let below : i < n = omega (arith, lt, length-take n c) in
          let kept = image.kept i (omega (arith, lt, length-take n c, most, long)) (λ b. b, tt) in
          get_or-take n c i 0 below ∙ kept ∙ sym (get_or-take n old i 0 below));
    }

module _ (m : Moment) (n : ℕ) (none : m.changes ≡ []) where
  at_start : m ≡ at_rest m.synced
  at_start = ap (λ (cs : List Change). record { synced = m.synced; changes = cs }) none

  same_content : content m ≡ m.synced
  same_content = ap (λ (cs : List Change). replayed cs m.synced) none

  pub before_leaves : Leaves m (IsCut (content m) n)
  before_leaves c image = subst (IsCut (content m) n) (sym (synced_is m none c image)) (rest_cut (content m) n)

  pub pending_leaves : Leaves (with_change m (CutTo n)) (IsCut (content m) n)
  pending_leaves c image =
      let moved : with_change m (CutTo n) ≡ record { synced = content m; changes = CutTo n ∷ [] } =
      ap (λ (k : Moment). with_change k (CutTo n)) (at_start ∙ ap at_rest (sym same_content)) in
      pending_cut (content m) n c (subst (λ (k : Moment). IsImage k c) moved image)

  pub done_leaves : (k : Moment) → k ≡ at_rest (take n (content m)) → Leaves k (IsCut (content m) n)
  done_leaves k is c image = subst (IsCut (content m) n) (sym (rest_is (take n (content m)) c (subst (λ (j : Moment). IsImage j c) is image))) (done_cut (content m) n)

  pub cut_content : (k : Moment) → k ≡ with_change m (CutTo n) → content k ≡ take n (content m)
  cut_content k is = ap content (is ∙ ap (λ (j : Moment). with_change j (CutTo n)) (at_start ∙ ap at_rest (sym same_content)))
