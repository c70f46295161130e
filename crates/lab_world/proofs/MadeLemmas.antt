-- One place more, and what is made of all places.
use Rattle.std.proofs.Common.{◌≡◌, ℕ, true, false, cond, List, [], ◌∷◌, ◌++◌, Option, Some, None, Result, Ok, Err, refl, ap, ◌∙◌}
use Rattle.std.specs.Prelude.{OnOk}
use Rattle.std.specs.Option.{is_some}
use Rattle.lab_defs_text.specs.Agreement.{FaultAgrees}
use Rattle.lab_defs_text.specs.Faults.{TextFault, no_root}
use Rattle.lab_defs_text.specs.Words.{Bytes}
use Rattle.lab_defs_text.specs.Games as model
use Rattle.lab_defs_text.specs.Drafts as draft
use Rattle.lab_defs_text.specs.Steps.{◌>>=◌, each}
use Rattle.lab_defs_text.specs.Assembly.{KnownPlace, PlacedPlace, known, known_place, placed, ordered, is_world_at}
use Rattle.lab_world.specs.declared.parts.AssembleFault.{AssembleFault}
use Rattle.lab_world.specs.declared.stages.NumberedPlaces.{NumberedPlaces}
use Rattle.lab_world.specs.declared.stages.MadePlaces.{MadePlaces}
use Rattle.lab_world.specs.Drafts.{assemble_fault}
use Rattle.lab_world.specs.Stages.{Rooted, rooted}
use Rattle.lab_world.specs.Made.{in_order, AreNumbered, OrderedBy, AreOrdered, PlacedBy}
use Rattle.lab_world.proofs.EachLemmas.{each_more, fault_more, fault_kept}

-- what holds after an `Ok` holds there still where it gives more
pub on_ok : {A E : Type 0} {P Q : Type 0} (r : Result A E) → (P → Q) → OnOk r P → OnOk r Q
on_ok (Ok x) f h = f h
on_ok (Err e) f h = tt

-- ---- one place more

-- a joint action that has no row stays the first
pub ordered_kept : (missing : Option AssembleFault) (n : NumberedPlaces) (qs : List PlacedPlace) (q : PlacedPlace) → is_some missing ≡ true → OrderedBy missing n qs → OrderedBy missing n (qs ++ q ∷ [])
ordered_kept None n qs q t h = absurd cc
ordered_kept (Some e) n qs q t h = fault_kept (assemble_fault e) ordered qs q h

-- all places in order and one more
pub ordered_next : (missing : Option AssembleFault) (before after : NumberedPlaces) (qs : List PlacedPlace) (q : PlacedPlace) (m : model.Place) → is_some missing ≡ false → ordered q ≡ Ok m
    → ((ms : List model.Place) → AreNumbered before ms → AreNumbered after (ms ++ m ∷ [])) → OrderedBy missing before qs → OrderedBy missing after (qs ++ q ∷ [])
ordered_next None before after qs q m f made step h = record { places = h.places ++ m ∷ []; in_order = each_more ordered qs q h.places m h.in_order made; numbered = step h.places h.numbered }
ordered_next (Some e) before after qs q m f made step h = absurd cc

-- the first joint action that has no row
pub ordered_fault : (o : Option TextFault) (missing : Option AssembleFault) (n : NumberedPlaces) (qs : List PlacedPlace) (q : PlacedPlace) → is_some missing ≡ false → FaultAgrees o (ordered q) → OrderedBy missing n qs → FaultAgrees o (each ordered (qs ++ q ∷ []))
ordered_fault o None n qs q f fails h = fault_more o ordered qs q h.places h.in_order fails
ordered_fault o (Some e) n qs q f fails h = absurd cc

-- a row that is one too many stays the first
pub placed_kept : (extra : Option AssembleFault) (m : MadePlaces) (ks : List KnownPlace) (k : KnownPlace) → is_some extra ≡ true → PlacedBy extra m ks → PlacedBy extra m (ks ++ k ∷ [])
placed_kept None m ks k t h = absurd cc
placed_kept (Some e) m ks k t h = fault_kept (assemble_fault e) placed ks k h

-- all places with placed rows and one more
pub placed_next : (extra : Option AssembleFault) (before after : MadePlaces) (ks : List KnownPlace) (k : KnownPlace) (q : PlacedPlace) → is_some extra ≡ false → placed k ≡ Ok q
    → ((qs : List PlacedPlace) → AreOrdered before qs → AreOrdered after (qs ++ q ∷ [])) → PlacedBy extra before ks → PlacedBy extra after (ks ++ k ∷ [])
placed_next None before after ks k q f made step h = record { rows = h.rows ++ q ∷ []; placed = each_more placed ks k h.rows q h.placed made; ordered = step h.rows h.ordered }
placed_next (Some e) before after ks k q f made step h = absurd cc

-- the first row that is one too many
pub placed_fault : (o : Option TextFault) (extra : Option AssembleFault) (m : MadePlaces) (ks : List KnownPlace) (k : KnownPlace) → is_some extra ≡ false → FaultAgrees o (placed k) → PlacedBy extra m ks → FaultAgrees o (each placed (ks ++ k ∷ []))
placed_fault o None m ks k f fails h = fault_more o placed ks k h.rows h.placed fails
placed_fault o (Some e) m ks k f fails h = absurd cc

-- ---- the root

-- the places with their root, where it is a world
abbrev at_root : ℕ → ℕ → List model.Place → Result Rooted TextFault
at_root line r ms = cond (is_world_at r ms) (Ok (record { places = ms; root = r })) (Err (no_root line))

-- three steps one after another
three_steps : {E A B C : Type 0} (r : Result A E) (f : A → Result B E) (g : B → Result C E) → (r >>= λ x. f x >>= g) ≡ ((r >>= f) >>= g)
three_steps (Ok x) f g = refl
three_steps (Err e) f g = refl

-- what is known of places and their root, up to the rows
rooted_rows : (names tokens : List Bytes) (line : ℕ) (root : Bytes) (ps : List draft.PartPlace) (ks : List KnownPlace) (r : ℕ) → each (known_place names tokens) ps ≡ Ok ks → known names line 2 root ≡ Ok r
    → rooted names tokens line root ps ≡ (in_order ks >>= at_root line r)
rooted_rows names tokens line root ps ks r places at =
    ap (λ q. q >>= λ k. known names line 2 root >>= λ i. each placed k >>= λ qs. each ordered qs >>= at_root line i) places ∙ ap (λ q. q >>= λ i. each placed ks >>= λ qs. each ordered qs >>= at_root line i) at
    ∙ three_steps (each placed ks) (λ qs. each ordered qs) (at_root line r)

-- places in order whose root is a world
pub root_is_world : (names tokens : List Bytes) (line : ℕ) (root : Bytes) (ps : List draft.PartPlace) (ks : List KnownPlace) (r : ℕ) (ms : List model.Place) → each (known_place names tokens) ps ≡ Ok ks → known names line 2 root ≡ Ok r
    → in_order ks ≡ Ok ms → is_world_at r ms ≡ true → rooted names tokens line root ps ≡ Ok (record { places = ms; root = r })
root_is_world names tokens line root ps ks r ms places at rows world =
    rooted_rows names tokens line root ps ks r places at ∙ ap (λ q. q >>= at_root line r) rows ∙ ap (λ b. cond b (Ok (record { places = ms; root = r })) (Err (no_root line))) world

-- places in order whose root is an end
pub root_is_end : (names tokens : List Bytes) (line : ℕ) (root : Bytes) (ps : List draft.PartPlace) (ks : List KnownPlace) (r : ℕ) (ms : List model.Place) → each (known_place names tokens) ps ≡ Ok ks → known names line 2 root ≡ Ok r
    → in_order ks ≡ Ok ms → is_world_at r ms ≡ false → rooted names tokens line root ps ≡ Err (no_root line)
root_is_end names tokens line root ps ks r ms places at rows end =
    rooted_rows names tokens line root ps ks r places at ∙ ap (λ q. q >>= at_root line r) rows ∙ ap (λ b. cond b (Ok (record { places = ms; root = r })) (Err (no_root line))) end
