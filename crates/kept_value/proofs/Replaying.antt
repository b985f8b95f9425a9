-- Records that are taken one by one.
use Rattle.std.proofs.Common.{◌≡◌, ℕ, ◌+◌, ◌<◌, Bool, true, false, cond, List, [], ◌∷◌, ◌++◌, length, take, slice_index_or, Some, None, sym, ◌∙◌, ap, arith, length-take}
use Rattle.std.proofs.lemmas.List.{take_more}
use Rattle.kept_value.specs.View.{Kind, IsFirstBad}

module _ {C : Type 0} (K : Kind C) (records : List (List ℕ)) (n : ℕ) (s next : K.State) (bytes : List ℕ) (taken : Bool) (spelled : K.spelled (take n records) ≡ Some s) (within : n < length records) (is : bytes ≡ slice_index_or records n []) (takes : (rs : List (List ℕ)) → length rs ≡ n → K.spelled rs ≡ Some s → K.spelled (rs ++ bytes ∷ []) ≡ cond taken (Some next) None) where
  one_more : K.spelled (take (n + 1) records) ≡ cond taken (Some next) None
  one_more =
      ap K.spelled (take_more records n [] within ∙ ap (λ (b : List ℕ). take n records ++ b ∷ []) (sym is))
      ∙ takes (take n records) (length-take n records ∙ omega (arith, within)) spelled

  pub bad_at : taken ≡ false → IsFirstBad K records n
  bad_at refused = record {
    within = within;
    before = s;
    good = spelled;
    bad = one_more ∙ ap (λ t. cond t (Some next) None) refused;
  }

  pub good_at : taken ≡ true → K.spelled (take (n + 1) records) ≡ Some next
  good_at fine = one_more ∙ ap (λ t. cond t (Some next) None) fine
