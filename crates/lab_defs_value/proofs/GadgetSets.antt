-- In a gadget the keeper has what it has in the subgame.
use Rattle.std.proofs.Common.{◌≡◌, ℕ, zero, suc, ◌+◌, ◌-◌, List, [], ◌∷◌, ◌++◌, length, map, take, drop, replicate, Bool, true, false, cond, eqb, refl, sym, ap, ◌∙◌, arith}
use Rattle.std.specs.Prelude.{ℤ}
use Rattle.std.specs.List.{range_with_len}
use Rattle.std.proofs.lemmas.List.{length-map, length-append}
use Rattle.std.proofs.lemmas.List.FromFn.{length-map-range_with_len}
use Rattle.std.proofs.Math.Seq.{take-append_seam, drop-append_seam}
use Rattle.lab_defs_game.specs.Forms.{Row, Form, sets_of, actions_in, path_of, pad_of}
use Rattle.lab_defs_game.specs.Paths.{SetAction}
use Rattle.lab_defs_game.specs.Seats.{other}
use Rattle.lab_defs_value.specs.Allowances.{Rule}
use Rattle.lab_defs_value.specs.Gadgets.{gadget_sets, entered_path, with_path, terminate_row, sets_entered}
use Rattle.lab_defs_value.specs.MatchingLaws.{GadgetLaw}
use Rattle.lab_defs_value.proofs.Entries.{actions_entered}

-- ---- one row, where the keeper is the first seat or not

pub keeps_path : (b : Bool) (path : List SetAction) (z : Row) → cond b (with_path (cond b 2 1) path z).path1 (with_path (cond b 2 1) path z).path2 ≡ cond b z.path1 z.path2
keeps_path true path z = refl
keeps_path false path z = refl

pub has_path : (b : Bool) (path : List SetAction) (z : Row) → path_of (with_path (cond b 2 1) path z) (cond b 2 1) ≡ path
has_path true path z = refl
has_path false path z = refl

pub ends_alone : (b : Bool) (rule : Rule) (factors i : ℕ) (limit : ℤ) → cond b (terminate_row rule (cond b 2 1) factors i limit).path1 (terminate_row rule (cond b 2 1) factors i limit).path2 ≡ []
ends_alone true rule factors i limit = refl
ends_alone false rule factors i limit = refl

-- ---- the sets

pub keeper_sets : (b : Bool) (rule : Rule) (roots : ℕ) (f : Form)
    → cond b (cond (eqb (cond b 2 1) 1) (sets_entered rule roots f.sets1) f.sets1) (cond (eqb (cond b 2 1) 1) f.sets2 (sets_entered rule roots f.sets2)) ≡ cond b f.sets1 f.sets2
keeper_sets true rule roots f = refl
keeper_sets false rule roots f = refl

pub opponent_sets : (b : Bool) (rule : Rule) (roots : ℕ) (f : Form)
    → cond (eqb (cond b 2 1) 1) (cond (eqb (cond b 2 1) 1) (sets_entered rule roots f.sets1) f.sets1) (cond (eqb (cond b 2 1) 1) f.sets2 (sets_entered rule roots f.sets2))
    ≡ sets_entered rule roots (cond (eqb (cond b 2 1) 1) f.sets1 f.sets2)
opponent_sets true rule roots f = refl
opponent_sets false rule roots f = refl

-- ---- all rows

-- what is seen of images
pub map_both : {X Y A : Type 0} (F : Y → A) (H : X → Y) (G : X → A) (xs : List X) → ((x : X) → F (H x) ≡ G x) → map F (map H xs) ≡ map G xs
map_both F H G [] e = refl
map_both F H G (x ∷ xs) e = ap (λ y. y ∷ map F (map H xs)) (e x) ∙ ap (λ ys. G x ∷ ys) (map_both F H G xs e)

-- the images come first
first_rows : (H : Row → Row) (rows more : List Row) → take (length rows) (map H rows ++ more) ≡ map H rows
first_rows H rows more = ap (λ n. take n (map H rows ++ more)) (sym (length-map rows H)) ∙ take-append_seam (map H rows) more

-- and then the others
last_rows : (H : Row → Row) (rows more : List Row) → drop (length rows) (map H rows ++ more) ≡ more
last_rows H rows more = ap (λ n. drop n (map H rows ++ more)) (sym (length-map rows H)) ∙ drop-append_seam (map H rows) more

-- what is seen of the first ones
seen_first : {A : Type 0} (F : Row → A) (H : Row → Row) (G : Row → A) (rows more : List Row) → ((z : Row) → F (H z) ≡ G z) → map F (take (length rows) (map H rows ++ more)) ≡ map G rows
seen_first F H G rows more e = ap (map F) (first_rows H rows more) ∙ map_both F H G rows e

-- one image of each number of a range
map_same : {X A : Type 0} (F : X → A) (h : ℕ → X) (a : A) (s n : ℕ) → ((i : ℕ) → F (h i) ≡ a) → map F (map h (range_with_len s n)) ≡ replicate n a
map_same F h a s zero e = refl
map_same F h a s (suc n) e = ap (λ y. y ∷ map F (map h (range_with_len (s + 1) n))) (e s) ∙ ap (λ ys. a ∷ ys) (map_same F h a (s + 1) n e)

-- the law of gadgets
pub gadget_law : GadgetLaw
gadget_law rule keeper roots factors limits f =
    let b = eqb keeper 1 in
    let o = other keeper in
    let further = gadget_sets rule roots in
    let H = λ (z : Row). with_path o (entered_path rule (length further) (path_of z o)) z in
    let further_row = λ (i : ℕ). terminate_row rule o factors i (limits i) in
    let more = map further_row (range_with_len 0 roots) in
    let long : length (map H f.rows ++ more) ≡ length f.rows + roots = length-append (map H f.rows) more ∙ ap (λ n. n + length more) (length-map f.rows H) ∙ ap (λ n. length f.rows + n) (length-map-range_with_len further_row 0 roots) in
    let left : roots ≡ length (map H f.rows ++ more) - length f.rows = omega (arith, long) in (
      record {
        sets = keeper_sets b rule roots f;
        paths = seen_first (λ z. path_of z keeper) H (λ z. path_of z keeper) f.rows more (λ z. keeps_path b (entered_path rule (length further) (path_of z o)) z);
        pads = seen_first (λ z. pad_of z keeper) H (λ z. pad_of z keeper) f.rows more (λ z. refl);
        behind = ap (map (λ z. path_of z keeper)) (last_rows H f.rows more) ∙ map_same (λ z. path_of z keeper) further_row [] 0 roots (λ i. ends_alone b rule factors i (limits i)) ∙ ap (λ n. replicate n []) left;
      },
      opponent_sets b rule roots f,
      ap actions_in (opponent_sets b rule roots f) ∙ actions_entered rule roots (sets_of f o),
      seen_first (λ z. path_of z o) H (λ z. entered_path rule (length further) (path_of z o)) f.rows more (λ z. has_path b (entered_path rule (length further) (path_of z o)) z),
      seen_first (λ z. z.worth) H (λ z. z.worth) f.rows more (λ z. refl),
      long,
    )
