-- The steps of the loops over positions of a log.
use Rattle.std.proofs.Common.{◌≡◌, refl, sym, ap, ◌∙◌, ℕ, suc, ◌+◌, ◌-◌, ◌<◌, Bool, true, ◌&&◌, List, ◌∷◌, ◌++◌, Option, Some, None, append_assoc, filter_map, option_to_list, arith}
use Rattle.std.specs.List.{list_all, cons_option}
use Rattle.delos_types.specs.declared.entry.Entry.{Entry}
use Rattle.fabric_core.specs.Log.{numbers}

numbers-from : (n total : ℕ) → n < total → numbers n (total - n) ≡ n ∷ numbers (n + 1) (total - (n + 1))
numbers-from n total below = ap (numbers n) (let e : total - n ≡ suc (total - (n + 1)) = omega arith in e)

pub all-pass : (p : ℕ → Bool) (n total : ℕ) (r : Bool) → n < total → p n ≡ true → list_all p (numbers n (total - n)) ≡ r → list_all p (numbers (n + 1) (total - (n + 1))) ≡ r
all-pass p n total r below e h =
    let rest = list_all p (numbers (n + 1) (total - (n + 1))) in
    sym (ap (list_all p) (numbers-from n total below) ∙ ap (λ b. b && rest) e) ∙ h

found-first : (o : Option Entry) (rest : List Entry) → cons_option o rest ≡ option_to_list o ++ rest
found-first None rest = refl
found-first (Some x) rest = refl

-- the log has one entry more, if there is one at this position
pub one-more : (f : ℕ → Option Entry) (n total : ℕ) (log : List Entry) (whole : List Entry) → n < total → log ++ filter_map f (numbers n (total - n)) ≡ whole
    → (log ++ option_to_list (f n)) ++ filter_map f (numbers (n + 1) (total - (n + 1))) ≡ whole
one-more f n total log whole below h =
    let rest = numbers (n + 1) (total - (n + 1)) in
    append_assoc log (option_to_list (f n)) (filter_map f rest)
    ∙ ap (λ l. log ++ l) (sym (ap (filter_map f) (numbers-from n total below) ∙ found-first (f n) (filter_map f rest)))
    ∙ h
