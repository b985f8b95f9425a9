-- Changes of a space at one key, and the keys that are told apart.
use Rattle.std.proofs.Common.{◌≡◌, ◌≢◌, ℕ, ◌<◌, ◌≤◌, ◌^◌, true, false, cond, List, [], ◌∷◌, ◌++◌, drop, take, get_or, Some, None, refl, sym, ap, ◌∙◌, arith}
use Rattle.std.specs.Prelude.{◌%◌}
use Rattle.std.specs.Ordering.{nat_cmp, eq_by_cmp, is_eq}
use Rattle.std.specs.declared.cmp.Ordering.{Ordering}
use Rattle.std.specs.declared.cmp.Ordering.TheVariants.{Less, Equal, Greater}
use Rattle.std.specs.Cmp.{IsTotalOrder, nat_cmp_total}
use Rattle.std.specs.Cmp.Lexicographic.{slice_cmp}
use Rattle.std.proofs.lemmas.Cmp.{then_total, on_total, nat_list_cmp_total, tied_itself}
use Rattle.std.proofs.lemmas.Map.Lookups.{exact_pairs, exact_unsigned, exact_bytes}
use Rattle.std.proofs.Math.Seq.{take-append_seam, drop-append_seam}
use Rattle.std.specs.FinMap as map
use Rattle.std.specs.FinMap.{get-insert, get-remove}
use Rattle.delos_types.specs.Spaces.{SpaceMap, Text, space_cmp}
use Rattle.delos_types.specs.Numbers.{u16_bytes, u64_bytes, u16_of, u64_of}
use Rattle.delos_types.proofs.NumberLaws.{length-u16_bytes, u16_of-u16_bytes, u64_of-u64_bytes}
use Rattle.engine_steps.specs.Layout.{last_key, held_key, reply_key}

pub space_total : IsTotalOrder space_cmp
space_total = then_total (on_total (λ (p : ℕ × Text). p.0) nat_cmp_total) (on_total (λ (p : ℕ × Text). p.1) nat_list_cmp_total)

pub space_exact : (x y : ℕ × Text) → space_cmp x y ≡ Equal → x ≡ y
space_exact x y e = exact_pairs nat_cmp (slice_cmp nat_cmp) exact_unsigned exact_bytes x y e

pub equal_is : (o : Ordering) → is_eq o ≡ true → o ≡ Equal
equal_is Less e = absurd (cc)
equal_is Equal e = refl
equal_is Greater e = absurd (cc)

not_tied : (q k : ℕ × Text) → q ≢ k → eq_by_cmp space_cmp q k ≡ false
not_tied q k ne = elim (eq_by_cmp space_cmp q k) as (λ b. eq_by_cmp space_cmp q k ≡ b → b ≡ false) [ true ↦ λ e. absurd (ne (space_exact q k (equal_is _ e))) | false ↦ λ e. refl ] refl

tied : (k : ℕ × Text) → eq_by_cmp space_cmp k k ≡ true
tied k = ap is_eq (tied_itself space_total k)

pub get_put_same : (m : SpaceMap) (k : ℕ × Text) (v : Text) → map.get (map.insert m k v) k ≡ Some v
get_put_same m k v = get-insert space_total m k v k ∙ ap (λ b. cond b (Some v) (map.get m k)) (tied k)

pub get_put_other : (m : SpaceMap) (k q : ℕ × Text) (v : Text) → q ≢ k → map.get (map.insert m k v) q ≡ map.get m q
get_put_other m k q v ne = get-insert space_total m k v q ∙ ap (λ b. cond b (Some v) (map.get m q)) (not_tied q k ne)

pub get_del_same : (m : SpaceMap) (k : ℕ × Text) → map.get (map.remove m k) k ≡ None
get_del_same m k = get-remove space_total m k k ∙ ap (λ b. cond b None (map.get m k)) (tied k)

pub get_del_other : (m : SpaceMap) (k q : ℕ × Text) → q ≢ k → map.get (map.remove m k) q ≡ map.get m q
get_del_other m k q ne = get-remove space_total m k q ∙ ap (λ b. cond b None (map.get m q)) (not_tied q k ne)

-- keys of two kinds, or two keys of one kind, are apart
pub other_kind : (a b : ℕ) (k q : Text) → a ≢ b → ◌≢◌ {A = ℕ × Text} (a, k) (b, q)
other_kind a b k q ne e = ne (ap (λ (p : ℕ × Text). p.0) e)

pub other_key : (a b : ℕ) (k q : Text) → k ≢ q → ◌≢◌ {A = ℕ × Text} (a, k) (b, q)
other_key a b k q ne e = ne (ap (λ (p : ℕ × Text). p.1) e)

-- the first byte tells the sorts of the session engine's keys apart
pub other_head : (a b : ℕ) (k q : Text) → a ≢ b → ◌≢◌ {A = Text} (a ∷ k) (b ∷ q)
other_head a b k q ne e = ne (ap (λ (l : Text). get_or l 0 0) e)

take_two : (n : ℕ) (rest : List ℕ) → take 2 (u16_bytes n ++ rest) ≡ u16_bytes n
take_two n rest = ap (λ k. take k (u16_bytes n ++ rest)) (sym (length-u16_bytes n)) ∙ take-append_seam (u16_bytes n) rest

drop_two : (n : ℕ) (rest : List ℕ) → drop 2 (u16_bytes n ++ rest) ≡ rest
drop_two n rest = ap (λ k. drop k (u16_bytes n ++ rest)) (sym (length-u16_bytes n)) ∙ drop-append_seam (u16_bytes n) rest

two_same : (s t : ℕ) (a b : List ℕ) → s ≤ 63 → t ≤ 63 → u16_bytes s ++ a ≡ u16_bytes t ++ b → s ≡ t
two_same s t a b hs ht e =
    sym (u16_of-u16_bytes s (omega arith)) ∙ ap u16_of (sym (take_two s a) ∙ ap (take 2) e ∙ take_two t b) ∙ u16_of-u16_bytes t (omega arith)

rest_same : (s t : ℕ) (a b : List ℕ) → u16_bytes s ++ a ≡ u16_bytes t ++ b → a ≡ b
rest_same s t a b e = sym (drop_two s a) ∙ ap (drop 2) e ∙ drop_two t b

tail_of : Text → Text
tail_of l = drop 1 l

pub last_keys : (s t : ℕ) → s ≤ 63 → t ≤ 63 → last_key s ≡ last_key t → s ≡ t
last_keys s t hs ht e = sym (u16_of-u16_bytes s (omega arith)) ∙ ap (λ (l : Text). u16_of (drop 1 l)) e ∙ u16_of-u16_bytes t (omega arith)

pub held_sessions : (s t r q : ℕ) → s ≤ 63 → t ≤ 63 → held_key s r ≡ held_key t q → s ≡ t
held_sessions s t r q hs ht e = two_same s t (u64_bytes r) (u64_bytes q) hs ht (ap (λ (l : Text). drop 1 l) e)

pub held_ranks : (s t r q : ℕ) → r < 2 ^ 64 → q < 2 ^ 64 → held_key s r ≡ held_key t q → r ≡ q
held_ranks s t r q hr hq e =
    sym (u64_of-u64_bytes r hr) ∙ ap u64_of (rest_same s t (u64_bytes r) (u64_bytes q) (ap (λ (l : Text). drop 1 l) e)) ∙ u64_of-u64_bytes q hq

pub reply_sessions : (s t r q : ℕ) → s ≤ 63 → t ≤ 63 → reply_key s r ≡ reply_key t q → s ≡ t
reply_sessions s t r q hs ht e = two_same s t (r % 64 ∷ []) (q % 64 ∷ []) hs ht (ap (λ (l : Text). drop 1 l) e)

pub reply_slots : (s t r q : ℕ) → reply_key s r ≡ reply_key t q → r % 64 ≡ q % 64
reply_slots s t r q e = ap (λ (l : Text). get_or l 0 0) (rest_same s t (r % 64 ∷ []) (q % 64 ∷ []) (ap (λ (l : Text). drop 1 l) e))
