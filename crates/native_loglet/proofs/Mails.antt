-- Copies are messages of the cell, and stay such.
use Rattle.std.proofs.Common.{◌≡◌, ℕ, zero, suc, sym, ◌∙◌, ap, subst, arith, List, [], ◌∷◌, ◌++◌, Some}
use Rattle.std.specs.Prelude.{slice_get}
use Rattle.std.proofs.lemmas.Option.{none-some, same_Some}
use Rattle.quorum_cell.specs.Cells.{Cell}
use Rattle.quorum_cell.specs.Law.{QuorumLaw, Later}
use Rattle.native_ties.specs.Parts.{Extends}
use Rattle.native_ties.proofs.Copying.{asked_still, replied_still}
use Rattle.native_loglet.specs.declared.mail.Mail.{Mail}
use Rattle.native_loglet.specs.declared.mail.Mail.TheVariants as mail
use Rattle.native_loglet.specs.Natives.{Native, IsMail, IsCellOf}

pub mail_stays : (c d : Cell) (m : Mail) → QuorumLaw c → Later c d → Extends c d → IsMail c m → IsMail d m
mail_stays c d (mail.Asked t i a) law l x h = (h.0, asked_still c d h.0 t i a x h.1, omega (arith, h.2, l.servers))
mail_stays c d (mail.Told t i e z) law l x h = (h.0, replied_still c d h.0 t i e z law l x h.1, omega (arith, h.2, l.servers))

pub strays_stay : (a : Native) (c d : Cell) → IsCellOf a c → Later c d → Extends c d → (n : ℕ) (m : Mail) → slice_get a.strays n ≡ Some m → IsMail d m
strays_stay a c d h l x n m e = mail_stays c d m h.lawful.law.quorum l x (h.strays n m e)

-- one more at the end
pub pushed_each : (P : Mail → Type 0) (xs : List Mail) (m : Mail) → ((n : ℕ) (x : Mail) → slice_get xs n ≡ Some x → P x) → P m → (n : ℕ) (x : Mail) → slice_get (xs ++ m ∷ []) n ≡ Some x → P x
pushed_each P [] m h k zero x e = subst P (same_Some m x e) k
pushed_each P [] m h k (suc n) x e = absurd (none-some x e)
pushed_each P (y ∷ ys) m h k zero x e = h zero x e
pushed_each P (y ∷ ys) m h k (suc n) x e = pushed_each P ys m (λ j z f. h (suc j) z f) k n x e

-- where the copies are the same list
pub same_strays : (xs ys : List Mail) (P : Mail → Type 0) → ys ≡ xs → ((n : ℕ) (m : Mail) → slice_get xs n ≡ Some m → P m) → (n : ℕ) (m : Mail) → slice_get ys n ≡ Some m → P m
same_strays xs ys P e h n m g = h n m (ap (λ (zs : List Mail). slice_get zs n) (sym e) ∙ g)
