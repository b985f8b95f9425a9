-- Readers that were told of a beginning of what was published.
use Rattle.std.proofs.Common.{◌≡◌, ◌<◌, ℕ, List, length, set, slice_index_or, All, Result, Ok, Err, OnOk, OnErr, sym, subst}
use Rattle.std.proofs.lemmas.List.Elements.{All-set, All-weaker}
use Rattle.snap_reads.specs.declared.change.Published.{Published}
use Rattle.snap_reads.specs.Tables.{StartsWith}
use Rattle.snap_reads.specs.Views.{Peek, Shelf}
use Rattle.snap_reads.proofs.Keeps.{whole, chain}

pub told_on : (old new : List Published) (ps : List Peek) → StartsWith new old → All (λ p. StartsWith old p.told) ps → All (λ p. StartsWith new p.told) ps
told_on old new ps h all = All-weaker (λ (p : Peek). StartsWith old p.told) (λ (p : Peek). StartsWith new p.told) (λ p k. chain new old p.told h k) ps all

pub same_on : (old new : Shelf) (ps : List Peek) → new ≡ old → All (λ p. StartsWith old.published p.told) ps → All (λ p. StartsWith new.published p.told) ps
same_on old new ps same all = subst (λ (s : Shelf). All (λ (p : Peek). StartsWith s.published p.told) ps) (sym same) all

pub told_at : (list : List Published) (ps : List Peek) (i : ℕ) (p : Peek) → i < length ps → ((d : Peek) → p ≡ slice_index_or ps i d) → All (λ p. StartsWith list p.told) ps → StartsWith list p.told
told_at list ps i p in' is all = subst (λ (k : Peek). StartsWith list k.told) (sym (is p)) (all i p in')

-- one reader is put for another that was told as well
pub told_set : (old new : Shelf) (ps : List Peek) (i : ℕ) (q : Peek) → new ≡ old → StartsWith new.published q.told → All (λ p. StartsWith old.published p.told) ps → All (λ p. StartsWith new.published p.told) (set ps i q)
told_set old new ps i q same h all = All-set (λ (p : Peek). StartsWith new.published p.told) ps i q h (same_on old new ps same all)

-- what telling leaves, whether it was refused or not
pub told_after : {E : Type 0} (r : Result (Unit {0}) E) (old new : Shelf) (p q : Peek) → new ≡ old → StartsWith old.published p.told → OnOk r (q ≡ record { told = old.published; knows = old.published }) → OnErr r (q ≡ p) → StartsWith new.published q.told
told_after (Ok done) old new p q same h ok err = subst (λ (s : Shelf). StartsWith s.published q.told) (sym same) (subst (λ (k : Peek). StartsWith old.published k.told) (sym ok) (whole old.published))
told_after (Err why) old new p q same h ok err = subst (λ (s : Shelf). StartsWith s.published q.told) (sym same) (subst (λ (k : Peek). StartsWith old.published k.told) (sym err) h)
