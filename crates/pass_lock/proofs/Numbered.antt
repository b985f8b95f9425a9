-- Parts that are numbered one after another, with which nothing was seen.
use Rattle.std.proofs.Common.{◌≡◌, ◌≢◌, ℕ, zero, suc, ◌<◌, ◌≤◌, eq-eqb, ne_eqb, List, [], ◌∷◌, length, take, drop, refl, ap, arith, cond}
use mathlib.Core.Logic.{dite}
use native.Mathlib.Decide.{ℕ_discrete}
use Rattle.std.specs.List.{All}
use Rattle.std.proofs.lemmas.List.Elements.{All-nil, All-cons}
use Rattle.pass_lock.specs.Journal.{total, is_number, Follows, IsKnown}
use Rattle.pass_lock.specs.Pass.{numbered}

pub numbered-length : (E : Type 0) (k n : ℕ) → length (numbered {E = E} k n) ≡ n
unfolding numbered
numbered-length E k zero = refl
numbered-length E k (suc n) = omega (arith, numbered-length E (suc k) n)

-- the first of the numbered parts, and the others
pub numbered-first : (E : Type 0) (k n : ℕ) → take 1 (numbered {E = E} k (suc n)) ≡ (k, []) ∷ []
unfolding numbered
numbered-first E k n = refl

pub numbered-others : (E : Type 0) (k n : ℕ) → drop 1 (numbered {E = E} k (suc n)) ≡ numbered (suc k) n
unfolding numbered
numbered-others E k n = refl

pub numbered-below : (E : Type 0) (k i n : ℕ) → k < i → total (is_number k) (numbered {E = E} i n) ≡ 0
unfolding numbered
numbered-below E k i zero l = refl
numbered-below E k i (suc n) l = let a : is_number {E = E} k (i, []) ≡ 0 = ap (λ b. cond b 1 0) (ne_eqb i k (λ e. omega arith)) in omega (arith, numbered-below E k (suc i) n (omega arith))

pub numbered-times : (E : Type 0) (k i n : ℕ) → total (is_number k) (numbered {E = E} i n) ≤ 1
unfolding numbered
numbered-times E k i zero = omega arith
numbered-times E k i (suc n) = dite (ℕ_discrete i k) (λ e. let a = numbered-below E k (suc i) n (omega arith) in let b : is_number {E = E} k (i, []) ≡ 1 = ap (λ b. cond b 1 0) (eq-eqb i k e) in omega arith)
    (λ ne. let a = numbered-times E k (suc i) n in let b : is_number {E = E} k (i, []) ≡ 0 = ap (λ b. cond b 1 0) (ne_eqb i k ne) in omega arith)

pub numbered-known : {E : Type 0} (signer : E → ℕ) (k n : ℕ) → IsKnown signer [] (numbered k n)
unfolding numbered
numbered-known signer k zero = All-nil (λ p. Follows signer p.0 p.1 [])
numbered-known signer k (suc n) = All-cons (λ p. Follows signer p.0 p.1 []) (k, []) (numbered (suc k) n) ([], refl, All-nil (λ e. signer e ≢ k)) (numbered-known signer (suc k) n)

pub numbered-unseen : (E : Type 0) (k n : ℕ) → All (λ p. p.1 ≡ []) (numbered {E = E} k n)
unfolding numbered
numbered-unseen E k zero = All-nil (λ (p : ℕ × List E). p.1 ≡ [])
numbered-unseen E k (suc n) = All-cons (λ (p : ℕ × List E). p.1 ≡ []) (k, []) (numbered (suc k) n) refl (numbered-unseen E (suc k) n)
