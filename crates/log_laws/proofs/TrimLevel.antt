-- The trim engine takes items in order: the greatest position that was asked for.
use Rattle.std.proofs.Common.{◌≡◌, ◌≢◌, refl, sym, ap, ◌∙◌, ℕ, ◌<◌, ◌≤◌, ◌^◌, Bool, true, false, cond, List, [], ◌∷◌, ◌++◌, Option, Some, None, arith, max}
use Rattle.std.specs.Prelude.{nat_lt}
use Rattle.std.specs.List.{cons_option}
use Rattle.std.proofs.lemmas.Bool.Decides.{nat_tests}
use Rattle.std.proofs.lemmas.List.Elements.{filter_map-append}
use Rattle.std.specs.FinMap as finmap
use Rattle.delos_types.specs.Numbers.{u64_bytes}
use Rattle.delos_types.specs.Spaces.{SpaceMap, Text}
use Rattle.engine_api.specs.declared.content.Content.{Content}
use Rattle.engine_api.specs.declared.content.Content.TheVariants.{Session, Alive, Leave, Trim}
use Rattle.engine_api.specs.Members.{greatest, trim_asked}
use Rattle.engine_steps.specs.declared.engine.Up.{Up}
use Rattle.engine_steps.specs.Layout.{number_at, trim_key, trim_of}
use Rattle.engine_steps.specs.Steps.{Passes, TrimAt}
use Rattle.engine_steps.specs.Words.{under}
use Rattle.log_laws.specs.Rises.{Level, passed, answered}
use Rattle.log_laws.specs.declared.rising.Rising.{Rising}
use Rattle.log_laws.specs.declared.rising.Told.{Told}
use Rattle.log_laws.proofs.Keys.{get_put_same, get_put_other, other_kind}
use Rattle.log_laws.proofs.Words.{one_kind}
use Rattle.log_laws.proofs.Lists.{asked_word, asked_at, asked_of, trim_words, trims_of}
use Rattle.log_laws.proofs.Freed.{number_text}

-- what one item does
record TrimItem (x : Rising) (m : SpaceMap) (up : Up) (m' : SpaceMap) : Type 0 where
  trim : trim_of m' ≡ max (trim_of m) (greatest (trims_of (trim_words (x ∷ []))))
  asked : asked_of (passed x up) ≡ asked_of (x ∷ [])
  silent : answered x up ≡ []
  kinds : (a : ℕ) (k : Text) → a ≢ 4 → finmap.get m' (a, k) ≡ finmap.get m (a, k)

raised : (m : SpaceMap) (p : ℕ) → p < 2 ^ 64 → (b : Bool) → nat_lt (trim_of m) p ≡ b → trim_of (cond b (finmap.insert m (4, trim_key) (u64_bytes p)) m) ≡ max (trim_of m) (max p 0)
raised m p small true e =
    let less : trim_of m < p = is_less _ _ e in ap number_at (get_put_same m _ (u64_bytes p)) ∙ number_text p small ∙ (let most : p ≡ max (trim_of m) (max p 0) = omega arith in most)
  where
    is_less : (a b : ℕ) → nat_lt a b ≡ true → a < b
    is_less a b f = grind (arith, nat_tests)
raised m p small false e = let less : p ≤ trim_of m = at_most _ _ e in let most : trim_of m ≡ max (trim_of m) (max p 0) = omega arith in most
  where
    at_most : (a b : ℕ) → nat_lt a b ≡ false → b ≤ a
    at_most a b f = grind (arith, nat_tests)

raised_kinds : (m : SpaceMap) (p : ℕ) (b : Bool) (a : ℕ) (k : Text) → a ≢ 4 → finmap.get (cond b (finmap.insert m (4, trim_key) (u64_bytes p)) m) (a, k) ≡ finmap.get m (a, k)
raised_kinds m p true a k ne = get_put_other m _ _ _ (other_kind a 4 _ _ ne)
raised_kinds m p false a k ne = refl

pass_item : (x : Rising) (m : SpaceMap) (up : Up) (m' : SpaceMap) → Passes m up m' → greatest (trims_of (trim_words (x ∷ []))) ≡ 0 → TrimItem x m up m'
pass_item x m up m' p none = record {
  trim = ap trim_of p.1 ∙ (let most : trim_of m ≡ max (trim_of m) (greatest (trims_of (trim_words (x ∷ [])))) = omega arith in most);
  asked = ap (λ u. asked_of (passed x u)) p.0;
  silent = ap (answered x) p.0;
  kinds = λ a k ne. ap (λ (z : SpaceMap). finmap.get z (a, k)) p.1;
}

trim_item : (x : Rising) (m : SpaceMap) (up : Up) (m' : SpaceMap) (w : Option Content) → under 4 x.item ≡ w → TrimAt m w up m' → TrimItem x m up m'
trim_item x m up m' None is step = pass_item x m up m' step (ap (λ o. greatest (trims_of (cons_option o []))) is)
trim_item x m up m' (Some (Session s r c)) is step = pass_item x m up m' step (ap (λ o. greatest (trims_of (cons_option o []))) is)
trim_item x m up m' (Some (Alive n z)) is step = pass_item x m up m' step (ap (λ o. greatest (trims_of (cons_option o []))) is)
trim_item x m up m' (Some (Leave n)) is step = pass_item x m up m' step (ap (λ o. greatest (trims_of (cons_option o []))) is)
trim_item x m up m' (Some (Trim p)) is step = record {
  trim = ap trim_of step.2 ∙ raised m p step.0 (nat_lt (trim_of m) p) refl ∙ sym (ap (λ o. max (trim_of m) (greatest (trims_of (cons_option o [])))) is);
  asked = ap (λ u. asked_of (passed x u)) step.1 ∙ sym (ap (λ o. cons_option (asked_word x.place o) []) (one_kind 4 2 x.item (Trim p) (λ e. absurd (omega arith)) is));
  silent = ap (answered x) step.1;
  kinds = λ a k ne. ap (λ (z : SpaceMap). finmap.get z (a, k)) step.2 ∙ raised_kinds m p (nat_lt (trim_of m) p) a k ne;
}

-- what all the items of a level do
pub record TrimLevel (m : SpaceMap) (ins outs : List Rising) (told : List Told) (m' : SpaceMap) : Type 0 where
  pub trim : trim_of m' ≡ max (trim_of m) (greatest (trims_of (trim_words ins)))
  pub asked : asked_of outs ≡ asked_of ins
  pub silent : told ≡ []
  pub kinds : (a : ℕ) (k : Text) → a ≢ 4 → finmap.get m' (a, k) ≡ finmap.get m (a, k)

greatest-cons : (o : Option ℕ) (ns : List ℕ) → greatest (cons_option o ns) ≡ max (greatest (cons_option o [])) (greatest ns)
greatest-cons None ns = let same : greatest ns ≡ max 0 (greatest ns) = omega arith in same
greatest-cons (Some n) ns = let same : max n (greatest ns) ≡ max (max n 0) (greatest ns) = omega arith in same

trims-cons : (o : Option Content) (words : List Content) → greatest (trims_of (cons_option o words)) ≡ max (greatest (trims_of (cons_option o []))) (greatest (trims_of words))
trims-cons None words = let same : greatest (trims_of words) ≡ max 0 (greatest (trims_of words)) = omega arith in same
trims-cons (Some c) words = greatest-cons (trim_asked c) (trims_of words)

max_assoc : (a b c : ℕ) → max (max a b) c ≡ max a (max b c)
max_assoc a b c = omega arith

pub trim_level : (m m' : SpaceMap) (ins outs : List Rising) (told : List Told) → Level 4 m ins outs told m' → TrimLevel m ins outs told m'
trim_level m m' [] outs told l = record {
  trim = ap trim_of l.2 ∙ (let most : trim_of m ≡ max (trim_of m) 0 = omega arith in most);
  asked = ap asked_of l.0;
  silent = l.1;
  kinds = λ a k ne. ap (λ (z : SpaceMap). finmap.get z (a, k)) l.2;
}
trim_level m m' (x ∷ xs) outs told l =
    let here = trim_item x m l.0 l.1 (under 4 x.item) refl (l.4.trim refl) in
    let ih = trim_level l.1 m' xs l.2 l.3 l.5 in
    record {
      trim = ih.trim ∙ ap (λ n. max n (greatest (trims_of (trim_words xs)))) here.trim ∙ max_assoc (trim_of m) _ _ ∙ ap (max (trim_of m)) (sym (trims-cons (under 4 x.item) (trim_words xs)));
      asked = ap asked_of l.6 ∙ filter_map-append asked_at (passed x l.0) l.2 ∙ ap (λ k. k ++ asked_of l.2) here.asked ∙ ap (λ k. asked_of (x ∷ []) ++ k) ih.asked ∙ sym (filter_map-append asked_at (x ∷ []) xs);
      silent = l.7 ∙ ap (λ k. k ++ l.3) here.silent ∙ ih.silent;
      kinds = λ a k ne. ih.kinds a k ne ∙ here.kinds a k ne;
    }
