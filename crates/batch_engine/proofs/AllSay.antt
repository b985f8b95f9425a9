-- Whether each of some items says something.
use Rattle.std.proofs.Common.{◌≡◌, ◌≤◌, length, get_or, drop, take, ◌-◌, length-drop, arith, Result, Ok, Err, refl, sym, ap, ◌∙◌, Bool, true, false, List, [], ◌∷◌, ◌++◌, Option, Some, None, is_some, subst}
use Rattle.std.specs.Prelude.{◌&&◌, All, IfOk}
use Rattle.std.specs.Option.{option_map, option_and_then}
use Rattle.std.proofs.lemmas.List.Elements.{All-append, All-from_recursion}
use Rattle.std.proofs.lemmas.List.{take_all}
use Rattle.delos_types.specs.declared.item.Item.{Item}
use Rattle.engine_api.specs.declared.content.Content.{Content}
use Rattle.engine_api.specs.Items.{content_of, contents_of}
use Rattle.engine_api.specs.Packing.{IsProposable}

some-map : {A B : Type 0} (f : A → B) (o : Option A) → is_some (option_map f o) ≡ is_some o
some-map f None = refl
some-map f (Some x) = refl

some-and_then : (o : Option Content) (os : Option (List Content)) → is_some (option_and_then (λ c. option_map (λ cs. c ∷ cs) os) o) ≡ (is_some o && is_some os)
some-and_then None os = refl
some-and_then (Some c) os = some-map (λ cs. c ∷ cs) os

pub some-contents_of : (i : Item) (is : List Item) → is_some (contents_of (i ∷ is)) ≡ (is_some (content_of i) && is_some (contents_of is))
some-contents_of i is = some-and_then (content_of i) (contents_of is)

-- whether the first says something, and the others
pub sound_is : (xs : List Item) (x : Item) → 1 ≤ length xs → x ≡ get_or xs 0 x → is_some (contents_of xs) ≡ (is_some (content_of x) && is_some (contents_of (drop 1 xs)))
sound_is [] x h is = absurd (omega arith)
sound_is (y ∷ ys) x h is = some-contents_of y ys ∙ ap (λ z. is_some (content_of z) && is_some (contents_of ys)) (sym is)

pub false_is : (b c d : Bool) → d ≡ (b && c) → b ≡ false → false ≡ d
false_is b c d e f = cc (e, ap (λ z. z && c) f)

pub true_is : (b c d : Bool) → d ≡ (b && c) → b ≡ true → c ≡ d
true_is b c d e t = cc (e, ap (λ z. z && c) t)

pub ok_same : {E : Type 0} (r : Result Bool E) (a b : Bool) → a ≡ b → IfOk r (λ s. s ≡ a) → IfOk r (λ s. s ≡ b)
ok_same (Ok s) a b e h = h ∙ e
ok_same (Err x) a b e h = tt

-- one more item that an entry may hold
pub kept_more : (xs ys : List Item) (x : Item) → ys ≡ xs ++ x ∷ [] → All IsProposable xs → IsProposable x → All IsProposable ys
kept_more xs ys x e kept one = subst (λ (l : List Item). All IsProposable l) (sym e) (All-append IsProposable xs (x ∷ []) kept (All-from_recursion IsProposable (x ∷ []) (one, tt)))

pub rest_whole : (xs : List Item) → take (length xs - 1) (drop 1 xs) ≡ drop 1 xs
rest_whole xs = take_all (length xs - 1) (drop 1 xs) (omega (arith, length-drop 1 xs))
