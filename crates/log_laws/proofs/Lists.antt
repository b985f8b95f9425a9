-- The ranks and words of the items on their way up, and of the contents of an entry.
use Rattle.std.proofs.Common.{◌≡◌, refl, sym, ap, subst, ◌∙◌, ℕ, ◌+◌, Bool, cond, List, [], ◌∷◌, Option, Some, None, is_some}
use Rattle.std.specs.Prelude.{filter_map, ◌||◌}
use Rattle.std.specs.List.{cons_option, list_any}
use Rattle.std.specs.Option.{option_map, option_and_then}
use Rattle.delos_types.specs.declared.item.Item.{Item}
use Rattle.delos_types.specs.declared.entry.Entry.{Entry}
use Rattle.delos_types.specs.declared.place.Place.{Place}
use Rattle.engine_api.specs.declared.content.Content.{Content}
use Rattle.engine_api.specs.declared.content.Content.TheVariants.{Session, Alive, Leave, Trim}
use Rattle.engine_api.specs.declared.content.Placed.{Placed}
use Rattle.engine_api.specs.Acted.{Asked, appearance_of, appearances}
use Rattle.engine_api.specs.Items.{content_of, contents_of, items_of, placed_from, placed_at, unpack}
use Rattle.engine_api.specs.Members.{is_leave_of, report_of, trim_asked}
use Rattle.engine_steps.specs.Words.{under, opened, opened_items}
use Rattle.log_laws.specs.declared.rising.Rising.{Rising}
use Rattle.log_laws.specs.Rises.{placed_items, at_place}
use Rattle.log_laws.proofs.Words.{says, SaysIt}

-- the rank of a word, at a place
abbrev pub asked_word : Place → Option Content → Option Asked
asked_word place (Some c) = appearance_of place c
asked_word place None = None

abbrev pub asked_at : Rising → Option Asked
asked_at x = asked_word x.place (under 2 x.item)

abbrev pub asked_of : List Rising → List Asked
asked_of xs = filter_map asked_at xs

abbrev pub view_word_of : Rising → Option Content
view_word_of x = under 3 x.item

abbrev pub view_words : List Rising → List Content
view_words xs = filter_map view_word_of xs

abbrev pub trim_word_of : Rising → Option Content
trim_word_of x = under 4 x.item

abbrev pub trim_words : List Rising → List Content
trim_words xs = filter_map trim_word_of xs

abbrev pub leaves : ℕ → List Content → Bool
leaves node words = list_any (is_leave_of node) words

abbrev pub reports_of : ℕ → List Content → List ℕ
reports_of node words = filter_map (report_of node) words

abbrev pub trims_of : List Content → List ℕ
trims_of words = filter_map trim_asked words

-- the items say what stands in the contents
pub record SameWords (rising : List Rising) (placed : List Placed) : Type 0 where
  pub asked : asked_of rising ≡ appearances placed
  pub left : (node : ℕ) → leaves node (view_words rising) ≡ list_any (λ p. is_leave_of node p.content) placed
  pub reports : (node : ℕ) → reports_of node (view_words rising) ≡ filter_map (λ p. report_of node p.content) placed
  pub trims : trims_of (trim_words rising) ≡ filter_map (λ p. trim_asked p.content) placed

same_none : SameWords [] []
same_none = record { asked = refl; left = λ node. refl; reports = λ node. refl; trims = refl }

same_one : (x : Rising) (xs : List Rising) (p : Placed) (ps : List Placed) → x.place ≡ p.place → (c : Content) → p.content ≡ c → SaysIt x.item c → SameWords xs ps → SameWords (x ∷ xs) (p ∷ ps)
same_one x xs p ps at (Session s r c) is word rest = record {
  asked = ap (λ o. cons_option (asked_word x.place o) (asked_of xs)) word.0 ∙ ap (λ l. cons_option (appearance_of x.place (Session s r c)) l) rest.asked
      ∙ ap (λ q. cons_option (appearance_of q (Session s r c)) (appearances ps)) at ∙ ap (λ d. cons_option (appearance_of p.place d) (appearances ps)) (sym is);
  left = λ node. ap (λ o. leaves node (cons_option o (view_words xs))) word.1 ∙ rest.left node ∙ ap (λ d. is_leave_of node d || list_any (λ q. is_leave_of node q.content) ps) (sym is);
  reports = λ node. ap (λ o. reports_of node (cons_option o (view_words xs))) word.1 ∙ rest.reports node ∙ ap (λ d. cons_option (report_of node d) (filter_map (λ q. report_of node q.content) ps)) (sym is);
  trims = ap (λ o. trims_of (cons_option o (trim_words xs))) word.2 ∙ rest.trims ∙ ap (λ d. cons_option (trim_asked d) (filter_map (λ q. trim_asked q.content) ps)) (sym is);
}
same_one x xs p ps at (Alive n z) is word rest = record {
  asked = ap (λ o. cons_option (asked_word x.place o) (asked_of xs)) word.0 ∙ rest.asked ∙ ap (λ d. cons_option (appearance_of p.place d) (appearances ps)) (sym is);
  left = λ node. ap (λ o. leaves node (cons_option o (view_words xs))) word.1 ∙ rest.left node ∙ ap (λ d. is_leave_of node d || list_any (λ q. is_leave_of node q.content) ps) (sym is);
  reports = λ node. ap (λ o. reports_of node (cons_option o (view_words xs))) word.1 ∙ ap (λ l. cons_option (report_of node (Alive n z)) l) (rest.reports node) ∙ ap (λ d. cons_option (report_of node d) (filter_map (λ q. report_of node q.content) ps)) (sym is);
  trims = ap (λ o. trims_of (cons_option o (trim_words xs))) word.2 ∙ rest.trims ∙ ap (λ d. cons_option (trim_asked d) (filter_map (λ q. trim_asked q.content) ps)) (sym is);
}
same_one x xs p ps at (Leave n) is word rest = record {
  asked = ap (λ o. cons_option (asked_word x.place o) (asked_of xs)) word.0 ∙ rest.asked ∙ ap (λ d. cons_option (appearance_of p.place d) (appearances ps)) (sym is);
  left = λ node. ap (λ o. leaves node (cons_option o (view_words xs))) word.1 ∙ ap (λ b. is_leave_of node (Leave n) || b) (rest.left node) ∙ ap (λ d. is_leave_of node d || list_any (λ q. is_leave_of node q.content) ps) (sym is);
  reports = λ node. ap (λ o. reports_of node (cons_option o (view_words xs))) word.1 ∙ rest.reports node ∙ ap (λ d. cons_option (report_of node d) (filter_map (λ q. report_of node q.content) ps)) (sym is);
  trims = ap (λ o. trims_of (cons_option o (trim_words xs))) word.2 ∙ rest.trims ∙ ap (λ d. cons_option (trim_asked d) (filter_map (λ q. trim_asked q.content) ps)) (sym is);
}
same_one x xs p ps at (Trim n) is word rest = record {
  asked = ap (λ o. cons_option (asked_word x.place o) (asked_of xs)) word.0 ∙ rest.asked ∙ ap (λ d. cons_option (appearance_of p.place d) (appearances ps)) (sym is);
  left = λ node. ap (λ o. leaves node (cons_option o (view_words xs))) word.1 ∙ rest.left node ∙ ap (λ d. is_leave_of node d || list_any (λ q. is_leave_of node q.content) ps) (sym is);
  reports = λ node. ap (λ o. reports_of node (cons_option o (view_words xs))) word.1 ∙ rest.reports node ∙ ap (λ d. cons_option (report_of node d) (filter_map (λ q. report_of node q.content) ps)) (sym is);
  trims = ap (λ o. trims_of (cons_option o (trim_words xs))) word.2 ∙ ap (λ l. cons_option (trim_asked (Trim n)) l) rest.trims ∙ ap (λ d. cons_option (trim_asked d) (filter_map (λ q. trim_asked q.content) ps)) (sym is);
}

-- the first of the contents, and the others
record Parts (i : Item) (is : List Item) (cs : List Content) : Type 0 where
  one : Content
  others : List Content
  said : content_of i ≡ Some one
  rest : contents_of is ≡ Some others
  whole : cs ≡ one ∷ others

parts_of : (i : Item) (is : List Item) (cs : List Content) (o : Option Content) (os : Option (List Content)) → content_of i ≡ o → contents_of is ≡ os → option_and_then (λ c. option_map (λ l. c ∷ l) os) o ≡ Some cs → Parts i is cs
parts_of i is cs None os a b e = let off : None ≡ Some cs = e in absurd (cc)
parts_of i is cs (Some c) None a b e = let off : None ≡ Some cs = e in absurd (cc)
parts_of i is cs (Some c) (Some l) a b e = record { one = c; others = l; said = a; rest = b; whole = let same : c ∷ l ≡ cs = cc in sym same }

same_words : (pos sub : ℕ) (items : List Item) (cs : List Content) → contents_of items ≡ Some cs → SameWords (placed_items pos sub items) (placed_from pos sub cs)
same_words pos sub [] cs e = let none : [] ≡ cs = cc in subst (λ l. SameWords [] (placed_from pos sub l)) none same_none
same_words pos sub (i ∷ is) cs e =
    let parts = parts_of i is cs (content_of i) (contents_of is) refl refl e in
    subst (λ l. SameWords (placed_items pos sub (i ∷ is)) (placed_from pos sub l)) (sym parts.whole)
    (same_one (at_place (record { pos = pos; sub = sub }) i) (placed_items pos (sub + 1) is) (record { place = record { pos = pos; sub = sub }; content = parts.one }) (placed_from pos (sub + 1) parts.others) refl parts.one refl (says i parts.one parts.said) (same_words pos (sub + 1) is parts.others parts.rest))

same_sound : (pos : ℕ) (items : List Item) (o : Option (List Content)) → contents_of items ≡ o → SameWords (placed_items pos 0 (cond (is_some o) items [])) (placed_at pos o)
same_sound pos items None e = same_none
same_sound pos items (Some cs) e = same_words pos 0 items cs e

same_opened : (pos : ℕ) (o : Option (List Item)) → SameWords (placed_items pos 0 (opened o)) (placed_at pos (option_and_then contents_of o))
same_opened pos None = same_none
same_opened pos (Some items) = same_sound pos items (contents_of items) refl

-- the items of an entry say what it holds
pub same_unpacked : (pos : ℕ) (e : Entry) → SameWords (placed_items pos 0 (opened_items e)) (unpack pos e)
same_unpacked pos e = same_opened pos (items_of e)
