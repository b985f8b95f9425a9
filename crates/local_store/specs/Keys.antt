-- Where a space keeps a value: by an engine's kind, and then by a key of bytes.
use Rattle.std.specs.Prelude.{◌≡◌, ℕ, ◌∷◌, Bool, refl}
use Rattle.std.specs.Coded.{Coded, code_by, coded×, coded_ℕ}
use Rattle.std.specs.Ordering.{nat_cmp, ordering_then, eq_by_cmp}
use Rattle.std.specs.declared.cmp.Ordering.{Ordering}
use Rattle.std.specs.Cmp.{IsTotalOrder, IsEquivalence, IsPartialOrder, nat_cmp_total, po}
use Rattle.std.specs.Cmp.Lexicographic.{nat_list_cmp_total}
use Rattle.std.proofs.lemmas.Cmp.{eq_by_cmp_equiv, then_total, on_total}
use Rattle.std.proofs.Common.{Some}
use Rattle.delos_types.specs.Numbers.{IsBytes, u64_of}
use Rattle.delos_types.specs.Spaces.{Text, text_cmp}
use Rattle.local_store.specs.Codes.{text_code}

-- a kind and a key
pub record KeyView : Type 0 where
  pub kind : ℕ
  pub key : Text

abbrev pub key_code : Coded KeyView
key_code = code_by (ℕ × Text) (coded× coded_ℕ text_code) (λ k. (k.kind, k.key)) (λ p. record { kind = p.0; key = p.1 }) (λ _. refl)

-- by kind, and then by key
abbrev pub key_cmp : KeyView → KeyView → Ordering
key_cmp a b = ordering_then (nat_cmp a.kind b.kind) (text_cmp a.key b.key)

pub key_total : IsTotalOrder key_cmp
key_total = then_total (on_total (λ (k : KeyView). k.kind) nat_cmp_total) (on_total (λ (k : KeyView). k.key) nat_list_cmp_total)

-- keys are the same where the order doesn't tell them apart
abbrev pub key_eq : KeyView → KeyView → Bool
key_eq = eq_by_cmp key_cmp

pub key_equiv : IsEquivalence key_eq
key_equiv = eq_by_cmp_equiv key_total

pub key_po : IsPartialOrder key_eq (λ x y. Some (key_cmp x y))
key_po = po key_total (λ x y. refl)

-- The kind and the first seven bytes as one number, the highest first, with zeros behind a shorter key.
pub record HasFront (front kind : ℕ) (key : Text) : Type 0 where
  pub value : front ≡ u64_of (kind ∷ key)
  pub bytes : IsBytes (kind ∷ key)
