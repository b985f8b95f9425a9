-- The table engine takes the ranks that act, in order: the single table, and its replies.
use Rattle.std.proofs.Common.{◌≡◌, ◌≢◌, refl, sym, ap, subst, ◌∙◌, ℕ, cond, List, [], ◌∷◌, ◌++◌, Option, Some, None}
use Rattle.std.specs.Prelude.{map}
use Rattle.std.specs.List.{cons_option}
use Rattle.std.specs.Ordering.{eq_by_cmp}
use Rattle.std.proofs.lemmas.Cmp.{nat_list_cmp_total}
use Rattle.std.specs.FinMap as finmap
use Rattle.std.specs.FinMap.{get-insert, get-remove}
use Rattle.delos_types.specs.Spaces.{SpaceMap, Text, text_cmp}
use Rattle.table_core.specs.Table.{TableMap, outcome, key_of, set_at}
use Rattle.table_core.specs.declared.command.Command.{Command}
use Rattle.engine_api.specs.declared.act.Act.{Act}
use Rattle.engine_api.specs.declared.content.Content.{Content}
use Rattle.engine_api.specs.declared.content.Content.TheVariants.{Session, Alive, Leave, Trim}
use Rattle.engine_api.specs.Acted.{Asked, act_on, replied, table_after}
use Rattle.engine_steps.specs.declared.engine.Up.{Up}
use Rattle.engine_steps.specs.declared.engine.Up.TheVariants.{Answer}
use Rattle.engine_steps.specs.Layout.{value_of}
use Rattle.engine_steps.specs.Replies.{reply_text}
use Rattle.engine_steps.specs.Steps.{Passes, TableDoes, TableAt, with_value}
use Rattle.engine_steps.specs.Words.{under}
use Rattle.log_laws.specs.Rises.{Level, answered, acted_in, acted_word}
use Rattle.log_laws.specs.State.{acted_of}
use Rattle.log_laws.specs.declared.rising.Rising.{Rising}
use Rattle.log_laws.specs.declared.rising.Told.{Told}
use Rattle.log_laws.proofs.Keys.{space_total, get_put_other, get_del_other, other_kind}
use Rattle.log_laws.proofs.Lists.{asked_word, asked_at, asked_of}

-- the space has this table
pub record Holds (t : TableMap) (m : SpaceMap) : Type 0 where
  pub at : (key : Text) → value_of m key ≡ finmap.get t key

-- a reply tells an act
pub record Tells (t : Told) (a : Act) : Type 0 where
  pub place : t.place ≡ a.place
  pub command : Option Command
  pub word : under 2 t.item ≡ Some (Session a.session a.rank command)
  pub reply : t.reply ≡ reply_text a.reply

abbrev pub TellAll : List Told → List Act → Type 0
TellAll [] [] = Unit {0}
TellAll [] (a ∷ acts) = ⊥
TellAll (t ∷ ts) [] = ⊥
TellAll (t ∷ ts) (a ∷ acts) = Tells t a × TellAll ts acts

pub told_acts : (ts : List Told) (acts : List Act) → TellAll ts acts → acted_in ts ≡ map acted_of acts
told_acts [] [] h = refl
told_acts [] (a ∷ acts) h = absurd h
told_acts (t ∷ ts) [] h = absurd h
told_acts (t ∷ ts) (a ∷ acts) h =
    ap (λ o. cons_option (acted_word t o) (acted_in ts)) h.0.word
    ∙ ap (λ p. record { place = p; session = a.session; rank = a.rank; reply = t.reply } ∷ acted_in ts) h.0.place
    ∙ ap (λ r. record { place = a.place; session = a.session; rank = a.rank; reply = r } ∷ acted_in ts) h.0.reply
    ∙ ap (λ l. acted_of a ∷ l) (told_acts ts acts h.1)

-- one key is set in both
set_holds : (t : TableMap) (m : SpaceMap) (k : Text) (v : Option Text) → Holds t m → Holds (set_at t k v) (with_value m k v)
set_holds t m k None h = record { at = λ q. get-remove space_total m (5, k) (5, q) ∙ ap (λ o. cond (eq_by_cmp text_cmp q k) None o) (h.at q) ∙ sym (get-remove nat_list_cmp_total t k q) }
set_holds t m k (Some v) h = record { at = λ q. get-insert space_total m (5, k) v (5, q) ∙ ap (λ o. cond (eq_by_cmp text_cmp q k) (Some v) o) (h.at q) ∙ sym (get-insert nat_list_cmp_total t k v q) }

with_kinds : (m : SpaceMap) (k : Text) (v : Option Text) (a : ℕ) (q : Text) → a ≢ 5 → finmap.get (with_value m k v) (a, q) ≡ finmap.get m (a, q)
with_kinds m k None a q ne = get_del_other m _ _ (other_kind a 5 _ _ ne)
with_kinds m k (Some v) a q ne = get_put_other m _ _ v (other_kind a 5 _ _ ne)

-- one command
record CommandDone (t : TableMap) (m : SpaceMap) (c : Option Command) (up : Up) (m' : SpaceMap) : Type 0 where
  answer : up ≡ Answer (reply_text (act_on t c).1)
  holds : Holds (act_on t c).0 m'
  kinds : (a : ℕ) (q : Text) → a ≢ 5 → finmap.get m' (a, q) ≡ finmap.get m (a, q)

command_done : (t : TableMap) (m : SpaceMap) (c : Option Command) (up : Up) (m' : SpaceMap) → Holds t m → TableDoes m c up m' → CommandDone t m c up m'
command_done t m None up m' h step = record { answer = step.0; holds = subst (λ z. Holds t z) (sym step.1) h; kinds = λ a q ne. ap (λ (z : SpaceMap). finmap.get z (a, q)) step.1 }
command_done t m (Some c) up m' h step =
    let e = h.at (key_of c) in
    record {
      answer = step.0 ∙ ap (λ v. Answer (reply_text (Some (outcome c v).1))) e;
      holds = subst (λ z. Holds (act_on t (Some c)).0 z) (sym (step.1 ∙ ap (λ v. with_value m (key_of c) (outcome c v).0) e)) (set_holds t m (key_of c) (outcome c (finmap.get t (key_of c))).0 h);
      kinds = λ a q ne. ap (λ (z : SpaceMap). finmap.get z (a, q)) step.1 ∙ with_kinds m (key_of c) (outcome c (value_of m (key_of c))).0 a q ne;
    }

-- what all the items of a level do
pub record TableLevel (t : TableMap) (m : SpaceMap) (ins : List Rising) (told : List Told) (m' : SpaceMap) : Type 0 where
  pub tells : TellAll told (replied t (asked_of ins))
  pub holds : Holds (table_after t (replied t (asked_of ins))) m'
  pub kinds : (a : ℕ) (q : Text) → a ≢ 5 → finmap.get m' (a, q) ≡ finmap.get m (a, q)

-- an item that isn't a rank
pass_level : (t : TableMap) (m mid m' : SpaceMap) (x : Rising) (xs : List Rising) (up : Up) (more told : List Told) → asked_at x ≡ None → Passes m up mid → told ≡ answered x up ++ more → TableLevel t mid xs more m' → TableLevel t m (x ∷ xs) told m'
pass_level t m mid m' x xs up more told quiet p is rest =
    let same : asked_of (x ∷ xs) ≡ asked_of xs = ap (λ o. cons_option o (asked_of xs)) quiet in
    let told_is : told ≡ more = is ∙ ap (λ u. answered x u ++ more) p.0 in
    record {
      tells = subst (λ l. TellAll told (replied t l)) (sym same) (subst (λ l. TellAll l (replied t (asked_of xs))) (sym told_is) rest.tells);
      holds = subst (λ l. Holds (table_after t (replied t l)) m') (sym same) rest.holds;
      kinds = λ a q ne. rest.kinds a q ne ∙ ap (λ (z : SpaceMap). finmap.get z (a, q)) p.1;
    }

rank_level : (t : TableMap) (m mid m' : SpaceMap) (x : Rising) (xs : List Rising) (up : Up) (more told : List Told) (s r : ℕ) (c : Option Command) → under 2 x.item ≡ Some (Session s r c) → CommandDone t m c up mid → told ≡ answered x up ++ more → TableLevel (act_on t c).0 mid xs more m' → TableLevel t m (x ∷ xs) told m'
rank_level t m mid m' x xs up more told s r c word done is rest =
    let a : Asked = record { place = x.place; session = s; rank = r; command = c } in
    let same : asked_of (x ∷ xs) ≡ a ∷ asked_of xs = ap (λ o. cons_option (asked_word x.place o) (asked_of xs)) word in
    let text = reply_text (act_on t c).1 in
    let told_is : told ≡ record { place = x.place; item = x.item; reply = text } ∷ more = is ∙ ap (λ u. answered x u ++ more) done.answer in
    record {
      tells = subst (λ l. TellAll told (replied t l)) (sym same) (subst (λ l. TellAll l (replied t (a ∷ asked_of xs))) (sym told_is) (record { place = refl; command = c; word = word; reply = refl }, rest.tells));
      holds = subst (λ l. Holds (table_after t (replied t l)) m') (sym same) rest.holds;
      kinds = λ i q ne. rest.kinds i q ne ∙ done.kinds i q ne;
    }

word_level : (t : TableMap) (m mid m' : SpaceMap) (x : Rising) (xs outs : List Rising) (up : Up) (more told : List Told) (w : Option Content) → under 2 x.item ≡ w → TableAt m w up mid → told ≡ answered x up ++ more → Level 5 mid xs outs more m' → Holds t m
    → ((u : TableMap) → Holds u mid → TableLevel u mid xs more m') → TableLevel t m (x ∷ xs) told m'
word_level t m mid m' x xs outs up more told None is step e l h next = pass_level t m mid m' x xs up more told (ap (asked_word x.place) is) step e (next t (subst (λ z. Holds t z) (sym step.1) h))
word_level t m mid m' x xs outs up more told (Some (Alive n z)) is step e l h next = pass_level t m mid m' x xs up more told (ap (asked_word x.place) is) step e (next t (subst (λ z. Holds t z) (sym step.1) h))
word_level t m mid m' x xs outs up more told (Some (Leave n)) is step e l h next = pass_level t m mid m' x xs up more told (ap (asked_word x.place) is) step e (next t (subst (λ z. Holds t z) (sym step.1) h))
word_level t m mid m' x xs outs up more told (Some (Trim z)) is step e l h next = pass_level t m mid m' x xs up more told (ap (asked_word x.place) is) step e (next t (subst (λ z. Holds t z) (sym step.1) h))
word_level t m mid m' x xs outs up more told (Some (Session s r c)) is step e l h next =
    let done = command_done t m c up mid h step in rank_level t m mid m' x xs up more told s r c is done e (next (act_on t c).0 done.holds)

pub table_level : (t : TableMap) (m m' : SpaceMap) (ins outs : List Rising) (told : List Told) → Level 5 m ins outs told m' → Holds t m → TableLevel t m ins told m'
table_level t m m' [] outs told l h = record {
  tells = subst (λ k. TellAll k []) (sym l.1) tt;
  holds = subst (λ z. Holds t z) (sym l.2) h;
  kinds = λ a q ne. ap (λ (z : SpaceMap). finmap.get z (a, q)) l.2;
}
table_level t m m' (x ∷ xs) outs told l h =
    word_level t m l.1 m' x xs l.2 l.0 l.3 told (under 2 x.item) refl (l.4.table refl) l.7 l.5 h (λ u k. table_level u l.1 m' xs l.2 l.3 l.5 k)
