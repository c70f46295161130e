-- The columns of a seat with one more set.
use Rattle.std.proofs.Common.{◌≡◌, ℕ, suc, cond, ◌^◌, ◌<◌, ◌≤◌, ◌⊎◌, inl, inr, List, [], ◌∷◌, ◌++◌, take, length, get_or, sym, ap, ◌∙◌, subst, arith}
use Rattle.std.specs.Prelude.{nat_le}
use Rattle.std.proofs.lemmas.Bool.{cases_lt}
use Rattle.std.proofs.lemmas.List.{get_or_append_left, get_or_push, length-append, length-take-le}
use Rattle.lab_form.specs.declared.items.FormSet.{FormSet}
use Rattle.lab_form.specs.Forms.{IsNextSet, AreSets, AreShort}
use Rattle.lab_form.specs.Decisions.{short_decision, last_set}
use Rattle.lab_form.specs.Columns.{ChainsValue, with_number, with_place, place_of_step, AreChains, AreColumns}
use Rattle.lab_form.proofs.ChainLemmas.{step_placed, chains_item, chains_place}
use Rattle.lab_form.proofs.DecisionLemmas.{sets_more, above_more}
use Rattle.lab_form.proofs.SetLemmas.{over_more, deciding_more}

-- each parent has a place before that of the set
parents_placed : (sets : List FormSet) → AreSets sets → (n i : ℕ) (d : FormSet) → length sets ≤ suc n → i < length sets → place_of_step (get_or sets i d).parent ≤ n
parents_placed sets ok n i d w l = omega (arith, step_placed (take i sets) (get_or sets i d).parent (ok i d l).parent, length-take-le i sets (omega (arith, l)), l, w)

-- so does each with one more that does
short_more : (sets : List FormSet) (s : FormSet) → AreShort sets → s.first_weight < 2 ^ 32 → AreShort (sets ++ s ∷ [])
short_more sets s ok few i d l = at (cases_lt i (length sets))
  where
    at : (i < length sets) ⊎ (length sets ≤ i) → (get_or (sets ++ s ∷ []) i d).first_weight < 2 ^ 32
    at (inl w) = subst (λ (x : FormSet). x.first_weight < 2 ^ 32) (sym (get_or_append_left sets (s ∷ []) d i w)) (ok i d w)
    at (inr w) = subst (λ (x : FormSet). x.first_weight < 2 ^ 32) (sym (get_or_push sets s d i (omega (arith, w, l, length-append sets (s ∷ []))))) few

-- with one more set the columns have one more of each
columns_more : (sets : List FormSet) (above over deciding : List ℕ) (children rows : ChainsValue) (room : ℕ) (s : FormSet) → AreColumns sets above over deciding children rows room → length sets < room → IsNextSet sets s → s.first_weight < 2 ^ 32
    → AreColumns (sets ++ s ∷ []) (above ++ short_decision sets s.parent ∷ []) (over ++ last_set sets s.parent ∷ []) (deciding ++ cond (nat_le 2 s.actions) (length sets ∷ []) [])
    (with_place (with_number children (place_of_step s.parent))) (with_place rows) room
columns_more sets above over deciding children rows room s ok l next few =
    let more : AreSets (sets ++ s ∷ []) = sets_more sets s ok.order next in
    let long : length (sets ++ s ∷ []) ≡ suc (length sets) = length-append sets (s ∷ []) ∙ omega arith in
    let chains : AreChains (suc (length sets)) (λ (x : FormSet). x.parent) (sets ++ s ∷ []) (with_place (with_number children (place_of_step s.parent))) =
    chains_place (length sets) (λ (x : FormSet). x.parent) (sets ++ s ∷ []) (with_number children (place_of_step s.parent))
    (chains_item (length sets) (λ (x : FormSet). x.parent) sets children s ok.chains (step_placed sets s.parent next.parent))
    (λ i d w. parents_placed (sets ++ s ∷ []) more (length sets) i d (omega (arith, long)) w) in
    record {
      order = more;
      short = short_more sets s ok.short few;
      room = omega (arith, long, l);
      decisions = ap (λ ns. ns ++ short_decision sets s.parent ∷ []) ok.decisions ∙ sym (above_more sets s ok.order next);
      sets_over = ap (λ ns. ns ++ last_set sets s.parent ∷ []) ok.sets_over ∙ sym (over_more sets s ok.order next);
      deciders = ap (λ ns. ns ++ cond (nat_le 2 s.actions) (length sets ∷ []) []) ok.deciders ∙ sym (deciding_more sets s);
      chains = subst (λ n. AreChains n (λ (x : FormSet). x.parent) (sets ++ s ∷ []) (with_place (with_number children (place_of_step s.parent)))) (sym long) chains;
      places = length-append rows.lists ([] ∷ []) ∙ omega (arith, ok.places, long);
      child_places = ok.child_places;
      child_room = ok.child_room;
      row_places = ok.row_places;
    }

-- so they are where each is told apart
pub columns_added : (sets sets' : List FormSet) (above above' over over' deciding deciding' : List ℕ) (children children' rows rows' : ChainsValue) (room x y : ℕ) (s : FormSet)
    → AreColumns sets above over deciding children rows room → length sets < room → IsNextSet sets s → s.first_weight < 2 ^ 32 → x ≡ short_decision sets s.parent → y ≡ last_set sets s.parent
    → sets' ≡ sets ++ s ∷ [] → above' ≡ above ++ x ∷ [] → over' ≡ over ++ y ∷ [] → deciding' ≡ deciding ++ cond (nat_le 2 s.actions) (length sets ∷ []) []
    → children' ≡ with_place (with_number children (place_of_step s.parent)) → rows' ≡ with_place rows → AreColumns sets' above' over' deciding' children' rows' room
columns_added sets sets' above above' over over' deciding deciding' children children' rows rows' room x y s ok l next few own set e f g h i j =
    let decisions = f ∙ ap (λ n. above ++ n ∷ []) own in
    let ends = g ∙ ap (λ n. over ++ n ∷ []) set in
    subst (λ z. AreColumns z above' over' deciding' children' rows' room) (sym e)
    (subst (λ z. AreColumns (sets ++ s ∷ []) z over' deciding' children' rows' room) (sym decisions)
    (subst (λ z. AreColumns (sets ++ s ∷ []) (above ++ short_decision sets s.parent ∷ []) z deciding' children' rows' room) (sym ends)
    (subst (λ z. AreColumns (sets ++ s ∷ []) (above ++ short_decision sets s.parent ∷ []) (over ++ last_set sets s.parent ∷ []) z children' rows' room) (sym h)
    (subst (λ z. AreColumns (sets ++ s ∷ []) (above ++ short_decision sets s.parent ∷ []) (over ++ last_set sets s.parent ∷ []) (deciding ++ cond (nat_le 2 s.actions) (length sets ∷ []) []) z rows' room) (sym i)
    (subst (λ z. AreColumns (sets ++ s ∷ []) (above ++ short_decision sets s.parent ∷ []) (over ++ last_set sets s.parent ∷ []) (deciding ++ cond (nat_le 2 s.actions) (length sets ∷ []) []) (with_place (with_number children (place_of_step s.parent))) z room) (sym j)
    (columns_more sets above over deciding children rows room s ok l next few))))))
