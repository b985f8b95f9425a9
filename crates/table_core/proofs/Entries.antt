-- A finite map from the entries of a `BTreeMap`.
use Rattle.std.proofs.Common.{◌≡◌, Bool, true, false, cond, List, [], ◌∷◌, Option, Some, None, refl, sym, ap, subst, ◌∙◌}
use Rattle.std.specs.Ordering.{eq_by_cmp, is_eq}
use Rattle.std.specs.declared.cmp.Ordering.{Ordering}
use Rattle.std.specs.declared.cmp.Ordering.TheVariants.{Less, Equal, Greater}
use Rattle.std.specs.Map.{lookup}
use Rattle.std.specs.BTreeMap.{is_at}
use Rattle.std.proofs.lemmas.Cmp.{nat_list_cmp_total, eq_by_cmp_equiv}
use Rattle.std.proofs.lemmas.Map.Lookups.{exact_bytes}
use Rattle.std.specs.FinMap.{find, get, insert, remove, from_entries, get-from_entries, get-insert, get-remove, same_map}
use Rattle.delos_types.specs.Spaces.{Text, text_cmp}
use Rattle.table_core.specs.Table.{TableMap, set_at, key_of, outcome, Acts}
use Rattle.table_core.specs.Effect.{Decides, value_after}
use Rattle.table_core.specs.declared.command.Command.{Command}
use Rattle.table_core.specs.declared.decide.Decision.{Decision}

find_is : (es : List (Text × Text)) (q : Text) → find text_cmp q es ≡ lookup (is_at (text_cmp q)) es
find_is [] q = refl
find_is (e ∷ es) q = ap (cond (is_at (text_cmp q) e.0) (Some e.1)) (find_is es q)

-- what the map that the entries make has at a key
pub get_entries : (es : List (Text × Text)) (q : Text) → get (from_entries {R = text_cmp} es) q ≡ lookup (is_at (text_cmp q)) es
get_entries es q = get-from_entries nat_list_cmp_total es q ∙ find_is es q

turn : (k q : Text) → is_at (text_cmp k) q ≡ eq_by_cmp text_cmp q k
turn k q = (eq_by_cmp_equiv nat_list_cmp_total).symm k q

-- entries that differ at one key make maps that differ there
pub one_set : (es fs : List (Text × Text)) (k v : Text) → ((q : Text) → lookup (is_at (text_cmp q)) fs ≡ cond (is_at (text_cmp k) q) (Some v) (lookup (is_at (text_cmp q)) es)) → from_entries {R = text_cmp} fs ≡ insert (from_entries es) k v
one_set es fs k v h = same_map nat_list_cmp_total exact_bytes _ _ (λ q.
    get_entries fs q ∙ h q ∙ ap (λ b. cond b (Some v) (lookup (is_at (text_cmp q)) es)) (turn k q)
    ∙ sym (get-insert nat_list_cmp_total (from_entries es) k v q ∙ ap (cond (eq_by_cmp text_cmp q k) (Some v)) (get_entries es q)))

pub one_removed : (es fs : List (Text × Text)) (k : Text) → ((q : Text) → lookup (is_at (text_cmp q)) fs ≡ cond (is_at (text_cmp k) q) None (lookup (is_at (text_cmp q)) es)) → from_entries {R = text_cmp} fs ≡ remove (from_entries es) k
one_removed es fs k h = same_map nat_list_cmp_total exact_bytes _ _ (λ q.
    get_entries fs q ∙ h q ∙ ap (λ b. cond b None (lookup (is_at (text_cmp q)) es)) (turn k q)
    ∙ sym (get-remove nat_list_cmp_total (from_entries es) k q ∙ ap (cond (eq_by_cmp text_cmp q k) None) (get_entries es q)))

equal_is : (o : Ordering) → is_eq o ≡ true → o ≡ Equal
equal_is Less e = absurd (cc)
equal_is Equal e = refl
equal_is Greater e = absurd (cc)

here_or_not : (m : TableMap) (k q : Text) (o : Option Text) (b : Bool) → eq_by_cmp text_cmp q k ≡ b → o ≡ get m k → cond b o (get m q) ≡ get m q
here_or_not m k q o true tie e = e ∙ ap (get m) (sym (exact_bytes q k (equal_is _ tie)))
here_or_not m k q o false tie e = refl

-- to set what is there changes nothing
pub set_at-same : (m : TableMap) (k : Text) (o : Option Text) → o ≡ get m k → set_at m k o ≡ m
set_at-same m k None e = same_map nat_list_cmp_total exact_bytes _ _ (λ q. get-remove nat_list_cmp_total m k q ∙ here_or_not m k q None _ refl e)
set_at-same m k (Some v) e = same_map nat_list_cmp_total exact_bytes _ _ (λ q. get-insert nat_list_cmp_total m k v q ∙ here_or_not m k q (Some v) _ refl e)

-- a decision that is carried out is the command's act
pub acts_by : (m m' : TableMap) (c : Command) (k : Text) (d : Decision) → k ≡ key_of c → Decides (get m k) (outcome c (get m k)) d → m' ≡ set_at m k (value_after d.change (get m k)) → Acts m c d.reply m'
acts_by m m' c k d is decided done =
    let at_key : (m' ≡ set_at m k (outcome c (get m k)).0) × (d.reply ≡ (outcome c (get m k)).1) = (done ∙ ap (set_at m k) decided.value, decided.reply) in
    subst (λ z. (m' ≡ set_at m z (outcome c (get m z)).0) × (d.reply ≡ (outcome c (get m z)).1)) is at_key
